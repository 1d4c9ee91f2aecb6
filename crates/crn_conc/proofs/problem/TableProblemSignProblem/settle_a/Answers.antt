use Rattle.crn_conc.proofs.Prelude.{◌≡◌, ◌<◌, ◌+◌, ◌-◌, ◌∷◌, List, [], length, get_or, sym, ap, subst, ◌∙◌, arith, length-append, Sign, Zero, Bits, AreSettled, AreSignsOf, AreSums, IsChosen, firm_kinds}
use Rattle.crn_conc.proofs.SumLaws.{asks_of, last_option, sums_more}
use Rattle.crn_conc.proofs.problem.TableProblemSignProblem.settle_a.Goals as goal

pub index-chosen-requires : goal.index-chosen-requires
index-chosen-requires c = omega (arith, c.args.self.now.columns_are.count, c.requires.prefix)

pub put_extended-requires : goal.put_extended-requires
put_extended-requires c =
    let p = c.args.self.now in
    let q = c.args.prefix.now in
    let h = c.requires.above in
    let some : length q < length p.columns.items = omega (arith, p.columns_are.count, c.requires.prefix) in
    let chosen : IsChosen p.matrix.now p.table.now (length q) c.index-chosen.result.now = p.columns_are.each (length q) c.index-chosen.result.now some (sym c.index-chosen.ensures) in
    let long : length h.0 + 1 ≡ length q = omega (arith, ap (λ (l : List Sign). length l) h.2, length-append h.0 (h.1 ∷ [])) in
    record {
      above = c.requires.long ∙ sym c.requires.sums;
      signs = ap (λ (l : List Bits). length l) c.deref.ensures.value ∙ (chosen.signs (length h.0) long).count ∙ sym c.requires.sums;
    }

pub put_asked_of_sums-requires : goal.put_asked_of_sums-requires
put_asked_of_sums-requires c =
    let p = c.args.self.now in
    let q = c.args.prefix.now in
    let some : length q < length p.columns.items = omega (arith, p.columns_are.count, c.requires.prefix) in
    let chosen : IsChosen p.matrix.now p.table.now (length q) c.index-chosen.result.now = p.columns_are.each (length q) c.index-chosen.result.now some (sym c.index-chosen.ensures) in
    record {
      settled = ap (λ (l : List Bits). length l) c.deref-2.ensures.value ∙ chosen.settled.count ∙ sym c.requires.asked;
      sums = c.put_extended.ensures.count ∙ c.requires.sums ∙ sym c.requires.asked;
    }

pub returns : goal.returns
returns c =
    let p = c.args.self.now in
    let q = c.args.prefix.now in
    let h = c.requires.above in
    let some : length q < length p.columns.items = omega (arith, p.columns_are.count, c.requires.prefix) in
    let chosen : IsChosen p.matrix.now p.table.now (length q) c.index-chosen.result.now = p.columns_are.each (length q) c.index-chosen.result.now some (sym c.index-chosen.ensures) in
    let long : length h.0 + 1 ≡ length q = omega (arith, ap (λ (l : List Sign). length l) h.2, length-append h.0 (h.1 ∷ [])) in
    let option : get_or q (length q - 1) Zero ≡ h.1 = ap (λ (l : List Sign). get_or l (length q - 1) Zero) h.2 ∙ last_option h.0 h.1 (length q - 1) (omega (arith, long)) in
    let sums : AreSums p.matrix.now p.table.now q c.put_extended.new.sums =
    sums_more p.matrix.now p.table.now h.0 q h.1 (get_or q (length q - 1) Zero) c.deref.result.now c.args.above.now c.args.sums.now c.put_extended.new.sums h.2 option c.requires.sums h.3
    (subst (λ (l : List Bits). AreSignsOf p.matrix.now p.table.now (length h.0) l) (sym c.deref.ensures.value) (chosen.signs (length h.0) long)) c.put_extended.ensures in
    record {
      count = c.put_extended.ensures.count;
      sums = sums;
      asked = firm_kinds _ _ _ (asks_of p.matrix.now p.table.now q c.deref-2.result.now c.put_extended.new.sums c.args.asked.now c.put_asked_of_sums.new.asked p.reactions c.requires.asked sums
          (subst (λ (l : List Bits). AreSettled p.matrix.now p.table.now (length q) l) (sym c.deref-2.ensures.value) chosen.settled) c.put_asked_of_sums.ensures);
    }
