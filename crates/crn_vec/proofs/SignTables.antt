-- A function that gives signs is the definition's if it is right for the numbers of these signs.
use Rattle.crn_vec.proofs.Prelude.{◌≡◌, refl, ◌∙◌, arith, ℤ, pos, negsuc, neg_ℤ, ◌*ℤ◌, ints, Sign, Zero, Plus, Minus, HasSign, opposite, sign, product}
use Rattle.crn_vec.proofs.PrefixKinds.{sign_is}

-- a number of each sign
abbrev number_of : Sign → ℤ
number_of Zero = pos 0
number_of Plus = pos 1
number_of Minus = negsuc 0

has_number : (s : Sign) → HasSign s (number_of s)
has_number Zero = refl
has_number Plus = omega (arith, ints)
has_number Minus = omega (arith, ints)

sign_of_product : (s t : Sign) → sign (number_of s *ℤ number_of t) ≡ product s t
sign_of_product Zero Zero = refl
sign_of_product Zero Plus = refl
sign_of_product Zero Minus = refl
sign_of_product Plus Zero = refl
sign_of_product Plus Plus = refl
sign_of_product Plus Minus = refl
sign_of_product Minus Zero = refl
sign_of_product Minus Plus = refl
sign_of_product Minus Minus = refl

-- the sign of all products of numbers of two signs is the product of the signs
pub product_is : (s t r : Sign) → ((x y : ℤ) → HasSign s x → HasSign t y → HasSign r (x *ℤ y)) → r ≡ product s t
product_is s t r h = sign_is r (number_of s *ℤ number_of t) (h (number_of s) (number_of t) (has_number s) (has_number t)) ∙ sign_of_product s t

sign_of_negative : (s : Sign) → sign (neg_ℤ (number_of s)) ≡ opposite s
sign_of_negative Zero = refl
sign_of_negative Plus = refl
sign_of_negative Minus = refl

-- the sign of the negatives of all numbers of a sign is its opposite
pub opposite_is : (s r : Sign) → ((x : ℤ) → HasSign s x → HasSign r (neg_ℤ x)) → r ≡ opposite s
opposite_is s r h = sign_is r (neg_ℤ (number_of s)) (h (number_of s) (has_number s)) ∙ sign_of_negative s
