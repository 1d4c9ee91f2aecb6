-- The ends of reactions that join two different complexes of so many.
use Rattle.crn_vec.proofs.Prelude.{ℕ, ◌<◌, List, [], ◌∷◌, inl, inr, arith, AllByRecursion, IsIn, JoinsTwo, ends}

-- each end is below the number of complexes
pub ends_below : (count : ℕ) (rs : List (ℕ × ℕ)) → AllByRecursion (JoinsTwo count) rs → (c : ℕ) → IsIn c (ends rs) → c < count
ends_below count [] h c i = absurd i
ends_below count (r ∷ rs) h c (inl e) = let k = h.0.1 in omega (arith, e, k)
ends_below count (r ∷ rs) h c (inr (inl e)) = let k = h.0.2 in omega (arith, e, k)
ends_below count (r ∷ rs) h c (inr (inr i)) = ends_below count rs h.1 c i
