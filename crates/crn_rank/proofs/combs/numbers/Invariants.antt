use Rattle.crn_rank.proofs.Prelude.{◌≡◌, ◌+◌, ◌∷◌, List, map, take, ℤ, pos, neg_ℤ, ◌≤ℤ◌, entry, IsNamed}
use Rattle.crn_rank.proofs.combs.numbers.Given as goal

abbrev pub invariant-loop-i : goal.invariant-loop-i
invariant-loop-i l = (w : List ℤ) → IsNamed l.tableau.matrix l.tableau.basis l.own w → pos 1 ≤ℤ entry w l.own
    → l.made.list ≡ entry w l.own ∷ take l.i (map (λ q. neg_ℤ (entry w (l.tableau.matrix.cols + q))) l.inside)
