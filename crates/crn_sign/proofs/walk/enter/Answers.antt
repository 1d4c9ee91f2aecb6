use Rattle.crn_sign.proofs.Prelude.{◌≡◌, ◌++◌, List, length, take, drop, sym, ap, subst, ◌∙◌, arith, Signed, written, Bits, kinds_of}
use Rattle.crn_sign.proofs.PlaceLaws.{asked_kinds}
use Rattle.crn_sign.proofs.walk.enter.Goals as goal

pub settle_a-requires : goal.settle_a-requires
settle_a-requires g c =
    let h = c.requires.here in
    record {
      prefix = c.requires.prefix;
      above = (h.0, h.1, h.2, subst (λ (l : List Bits). g.P.SignProblem.are_sums c.args.problem.now h.0 l) (sym c.deref.ensures.value) h.4.are);
      long = ap (λ (l : List Bits). length l) c.deref.ensures.value ∙ h.4.count;
      sums = ap (λ (l : List Bits). length l) c.deref_mut.ensures.value ∙ h.3.sums;
      asked = ap (λ (l : List Bits). length l) c.deref_mut-2.ensures.value ∙ h.3.a.asked;
    }

pub enter_b-requires : goal.enter_b-requires
enter_b-requires g c =
    let h = c.requires.here in
    record { lawful = c.requires.lawful; prefix = c.requires.prefix; here = (h.0, h.1, h.2, h.3.b) }

pub returns : goal.returns
returns g c =
    let w : Signed = g.P.SignProblem.signed c.args.problem.now in
    let q = c.args.prefix.now in
    let h = c.requires.here in
    let asks = c.settle_a.ensures.asked in
    let sums_old = c.args.here.now.sums in
    let sums = c.settle_a.new.sums in
    let old = c.args.here.now.a.asked in
    let asked = c.settle_a.new.asked in
    let sums_long : length sums ≡ sums_old.len = omega (arith, c.settle_a.ensures.count, c.deref_mut.ensures.len, ap (λ (l : List Bits). length l) c.deref_mut.ensures.value) in
    let asked_long : length asked ≡ old.len = omega (arith, asks.count, h.3.a.asked, c.deref_mut-2.ensures.len, ap (λ (l : List Bits). length l) c.deref_mut-2.ensures.value) in
    let sums_is : take sums_old.len (sums ++ drop (length sums) sums_old.items) ≡ sums = written sums_old.len sums sums_old.items sums_long in
    let asked_is : take old.len (asked ++ drop (length asked) old.items) ≡ asked = written old.len asked old.items asked_long in
    record {
      asked = record {
        a = record {
          room = record { width_is = h.3.a.width_is; asked = ap (λ (l : List Bits). length l) asked_is ∙ asks.count; marks = h.3.a.marks };
          kinds_are = ap (λ (l : List Bits). kinds_of w.matrix_a (g.P.SignProblem.weak c.args.problem.now) l) asked_is ∙ asked_kinds w.matrix_a (g.P.SignProblem.weak c.args.problem.now) (w.kinds_a q) asked (c.requires.lawful.long_a q c.requires.prefix) asks;
        };
        b = c.enter_b.ensures;
      };
      sums = record {
        count = ap (λ (l : List Bits). length l) sums_is ∙ c.settle_a.ensures.count ∙ ap (λ (l : List Bits). length l) c.deref_mut.ensures.value ∙ h.3.sums;
        are = subst (λ (l : List Bits). g.P.SignProblem.are_sums c.args.problem.now q l) (sym sums_is) c.settle_a.ensures.sums;
      };
    }
