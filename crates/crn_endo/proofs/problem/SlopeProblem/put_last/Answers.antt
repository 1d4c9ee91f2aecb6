use Rattle.crn_endo.proofs.Prelude.{◌≡◌, ◌-◌, ◌∷◌, ◌++◌, List, [], length, get_or, sym, ap, subst, ◌∙◌, arith, Sign, Zero, Plus, Bits, AskFirmly}
use Rattle.crn_endo.proofs.FirstOption.{one_option}
use Rattle.crn_endo.proofs.Steps.{plus_first}
use Rattle.crn_endo.proofs.problem.SlopeProblem.put_last.Goals as goal

pub put_first-requires : goal.put_first-requires
put_first-requires c =
    let s = c.args.self.now.given.now in
    let h = c.requires.before in
    let one = one_option h.0 c.args.prefix.now h.1 h.2 c.if-last-eq0.true in
    subst (λ (p : List Sign). AskFirmly s.net s.reaction p c.copy_from_slice.new.self) one.1 (subst (AskFirmly s.net s.reaction h.0) (sym c.copy_from_slice.ensures.after) h.3)

pub returns-then-last-eq0 : goal.returns-then-last-eq0
returns-then-last-eq0 c =
    let s = c.args.self.now.given.now in
    let h = c.requires.before in
    let one = one_option h.0 c.args.prefix.now h.1 h.2 c.if-last-eq0.true in
    subst (λ (p : List Sign). AskFirmly s.net s.reaction p c.put_first.new.words) (sym one.0) c.put_first.ensures

pub put_option-requires : goal.put_option-requires
put_option-requires c = record {
  inside = omega (arith, c.requires.few, c.if-last-eq0.false);
  count = ap (λ (l : List Bits). length l) c.copy_from_slice-in-Plus.ensures.after ∙ c.requires.long;
}

pub returns-in-Plus : goal.returns-in-Plus
returns-in-Plus c =
    let s = c.args.self.now.given.now in
    let q = c.args.prefix.now in
    let h = c.requires.before in
    let copied = c.copy_from_slice-in-Plus.new.self in
    let b = plus_first h.0 q h.1 h.2 c.if-last-eq0.false c.in-Plus.is in
    let given : AskFirmly s.net s.reaction h.0 copied = subst (AskFirmly s.net s.reaction h.0) (sym c.copy_from_slice-in-Plus.ensures.after) h.3 in
    let before : AskFirmly s.net s.reaction (Plus ∷ b.rest) copied = subst (λ (p : List Sign). AskFirmly s.net s.reaction p copied) b.is given in
    let whole : Plus ∷ (b.rest ++ get_or q (length q - 1) Zero ∷ []) ≡ q =
    ap (λ (x : Sign). Plus ∷ (b.rest ++ x ∷ [])) b.last ∙ ap (λ (p : List Sign). p ++ h.1 ∷ []) (sym b.is) ∙ sym h.2 in
    subst (λ (p : List Sign). AskFirmly s.net s.reaction p c.put_option.new.words) whole (c.put_option.ensures b.rest b.long before)
