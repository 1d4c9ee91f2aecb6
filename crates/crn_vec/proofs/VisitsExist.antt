-- There is a visit list.
use Rattle.crn_vec.proofs.Prelude.{ℕ, zero, suc, ◌≤◌, List, [], ◌∷◌, ◌++◌, Bool, true, false, arith, Sign, Signed, IsFull, IsFeasible, children, Visits, over, fallen, ended, opened, root, NoProblemLacksVisits}
use Rattle.crn_vec.proofs.Few.{AreShort, weights, short_children, short_append, grown, weight_some}

full_or_not : (w : Signed) (p : List Sign) → (IsFull w p → ⊥) → (¬ (IsFull w p) → ⊥) → ⊥
full_or_not w p y n = n (λ e. y e)

some_list : (w : Signed) (n : ℕ) (due : List (List Sign)) → AreShort w due → weights w due ≤ n → ((l : List (List Sign)) (f : Bool) → Visits w due l f → ⊥) → ⊥
some_list w n [] h le k = k [] false over
some_list w zero (p ∷ due) h le k = absurd (omega (arith, le, weight_some w p))
some_list w (suc n) (p ∷ due) h le k =
    let falls : ¬ (IsFeasible w p) → ⊥ = λ m. some_list w n due h.1 (omega (arith, le, weight_some w p)) (λ l f v. k (p ∷ l) f (fallen m v)) in
    falls (λ s. full_or_not w p (λ e. k (p ∷ []) true (ended s e))
    (λ ne. some_list w n (children p ++ due) (short_append w (children p) due (short_children w p h.0 ne) h.1) (omega (arith, le, grown w p due h.0 ne)) (λ l f v. k (p ∷ l) f (opened s ne v))))

pub not_none : NoProblemLacksVisits
not_none w = some_list w (weights w root) root (omega arith, tt) (omega arith)
