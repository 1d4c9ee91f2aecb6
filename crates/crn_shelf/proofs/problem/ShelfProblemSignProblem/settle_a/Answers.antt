use Rattle.crn_shelf.proofs.Prelude.{◌≡◌, ◌≤◌, ◌+◌, ◌-◌, ◌++◌, List, [], ◌∷◌, length, get_or, refl, sym, ap, ◌∙◌, arith, length-append, Sign, Zero, Shape, shelf_at, Bits, Choice, AreChoices, IsAdded, added_by, firm_kinds}
use Rattle.crn_shelf.proofs.Gradual.{last_at}
use Rattle.crn_shelf.proofs.Joins.{added_is, asks_joined}
use Rattle.crn_shelf.proofs.problem.ShelfProblemSignProblem.settle_a.Goals as goal

-- what the last option of a prefix adds
last_added : (s : Shape) (cs : List Choice) (p q : List Sign) (o : Sign) (c : Choice) (words : List Bits) → q ≡ p ++ o ∷ [] → length q ≤ s.count + s.species → AreChoices s cs → c ≡ get_or cs (length q - 1) c
    → words ≡ added_by c (get_or q (length q - 1) Zero) → IsAdded s (length p) o words
last_added s cs p q o c words e le h is w =
    let long : length p + 1 ≡ length q = omega (arith, ap (λ (l : List Sign). length l) e, length-append p (o ∷ [])) in
    let last : length q - 1 ≡ length p = omega (arith, long) in
    let none : (length q - 1) - length p ≡ 0 = omega (arith, long) in
    let option : get_or q (length q - 1) Zero ≡ o =
    ap (λ (l : List Sign). get_or l (length q - 1) Zero) e
    ∙ last_at p o (length q - 1) (length p) refl (omega (arith, last))
    ∙ ap (shelf_at (o ∷ [])) none in
    added_is s (length p) (length q - 1) cs c (get_or q (length q - 1) Zero) o words last (omega (arith, h.count, long, le)) h is option w

pub index-choice-requires : goal.index-choice-requires
index-choice-requires c =
    let h = c.requires.above in
    omega (arith, c.args.self.now.choices_are.count, c.requires.prefix, ap (λ (l : List Sign). length l) h.2, length-append h.0 (h.1 ∷ []))

pub put_joined-requires : goal.put_joined-requires
put_joined-requires c =
    let p = c.args.self.now in
    let h = c.requires.above in
    let is = last_added p.shape.now p.choices.items h.0 c.args.prefix.now h.1 c.index-choice.result.now c.added.result.now h.2 c.requires.prefix p.choices_are c.index-choice.ensures c.added.ensures in
    record {
      added = is.count ∙ sym c.requires.long;
      sums = c.requires.sums ∙ sym c.requires.long;
      asked = c.requires.asked ∙ sym c.requires.long;
    }

pub returns : goal.returns
returns c =
    let p = c.args.self.now in
    let s = p.shape.now in
    let q = c.args.prefix.now in
    let h = c.requires.above in
    let is = last_added s p.choices.items h.0 q h.1 c.index-choice.result.now c.added.result.now h.2 c.requires.prefix p.choices_are c.index-choice.ensures c.added.ensures in
    let made = c.put_joined.ensures in
    record {
      count = made.sums.count ∙ c.requires.long ∙ sym c.requires.sums;
      sums = asks_joined s h.0 q h.1 c.args.above.now c.added.result.now c.put_joined.new.sums h.2 h.3 is made.sums;
      asked = firm_kinds _ _ _ (asks_joined s h.0 q h.1 c.args.above.now c.added.result.now c.put_joined.new.asked h.2 h.3 is made.asked);
    }
