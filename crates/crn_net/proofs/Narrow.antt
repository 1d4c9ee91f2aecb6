-- Amounts in bytes, seen as numbers with a sign.
use Rattle.crn_net.proofs.Prelude.{◌≡◌, ℕ, zero, suc, List, [], ◌∷◌, get_or, map, refl, ap, ◌∙◌, sym, pos, nat_abs, nat_eq, int_eq, pointwise, signed_items, bytes_eq-Decides, same_test, abs_back}

-- bytes are equal if contracts see them as equal
pub same_seen : (x y : List ℕ) → pointwise int_eq (map pos x) (map pos y) ≡ pointwise nat_eq x y
same_seen x y =
    same_test (pointwise int_eq (map pos x) (map pos y)) (pointwise nat_eq x y) (map pos x ≡ map pos y) (x ≡ y) (signed_items (map pos x) (map pos y)) (bytes_eq-Decides x y)
    (λ e. sym (abs_back x) ∙ ap (map nat_abs) e ∙ abs_back y) (ap (map pos))

-- an amount is read as contracts see it
pub at_seen : (x : List ℕ) (s : ℕ) → get_or (map pos x) s (pos 0) ≡ pos (get_or x s 0)
at_seen [] s = refl
at_seen (a ∷ x) zero = refl
at_seen (a ∷ x) (suc s) = at_seen x s
