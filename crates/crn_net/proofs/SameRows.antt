-- Lists that are compared place by place.
use Rattle.crn_net.proofs.Prelude.{◌≡◌, ◌++◌, ◌∷◌, [], ◌∙◌, ℕ, List, length, refl, ap, arith, nat_eq, pointwise}
use Rattle.std.specs.Prelude.{Bool, true, false, ◌&&◌}

and_true : (b : Bool) → b ≡ (b && true)
and_true true = refl
and_true false = refl

and_assoc : (a b c : Bool) → ((a && b) && c) ≡ (a && (b && c))
and_assoc true b c = refl
and_assoc false b c = refl

-- one more place of two lists
pub pointwise-snoc : (x y : ℕ) (xs ys : List ℕ) → length xs ≡ length ys → (pointwise nat_eq xs ys && nat_eq x y) ≡ pointwise nat_eq (xs ++ x ∷ []) (ys ++ y ∷ [])
pointwise-snoc x y [] [] h = and_true (nat_eq x y)
pointwise-snoc x y [] (b ∷ ys) h = absurd (omega arith)
pointwise-snoc x y (a ∷ xs) [] h = absurd (omega arith)
pointwise-snoc x y (a ∷ xs) (b ∷ ys) h =
    and_assoc (nat_eq a b) (pointwise nat_eq xs ys) (nat_eq x y)
    ∙ ap (λ (t : Bool). nat_eq a b && t) (pointwise-snoc x y xs ys (omega arith))
