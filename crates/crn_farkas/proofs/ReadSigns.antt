-- The signs of the vectors that a basis names, from those of the kept rows.
use Rattle.crn_farkas.proofs.Prelude.{◌≡◌, ◌≢◌, ℕ, ◌<◌, List, sym, subst, arith, ℤ, pos, ◌+ℤ◌, ◌*ℤ◌, neg_ℤ, ◌≤ℤ◌, ints, Sign, Mat, entry, HasSign, IsIn, width, IsNamedRow, IsNamedColumn, mul-neg, one-mul, positive_some, NamesRows, as_row, sign_carried}
use Rattle.crn_farkas.proofs.Pairs.{pair, other_some}
use Rattle.crn_farkas.proofs.SignRules.{sign_divided, sign_of_factor, minus_sum}

-- what a program read of the kept row of e, that each vector named so and positive at e has this sign at c
abbrev pub IsReadSign : Mat → List ℕ → ℕ → ℕ → Sign → Type 0
IsReadSign a basis e c s = (w : List ℤ) → IsNamedRow a basis e w → pos 1 ≤ℤ entry w e → HasSign s (entry w c)

pub column_sign : (a : Mat) (basis : List ℕ) (b c : ℕ) (s p r lead : Sign) (y : List ℤ) → NamesRows a basis → c < width a → ¬ IsIn c basis → IsReadSign a basis c b s
    → ((x z : ℤ) → HasSign s x → HasSign lead z → HasSign p (x *ℤ z)) → ((x : ℤ) → HasSign p x → HasSign r (neg_ℤ x))
    → IsNamedColumn a basis b y → HasSign lead (entry y b) → HasSign r (entry y c)
column_sign a basis b c s p r lead y t lt out read product opposite named at_b =
    let v = t.rows c lt out in
    let w = as_row a basis c v.w out v.named in
    let x = entry v.w b *ℤ entry y b in
    let minus : HasSign r (neg_ℤ x) = opposite x (product (entry v.w b) (entry y b) (read v.w w v.positive) at_b) in
    sign_divided r (entry v.w c) (entry y c) v.positive (subst (HasSign r) (minus_sum x (entry v.w c *ℤ entry y c) (pair a basis c b v.w y w named)) minus)

carried_up : (s : Sign) (p x : ℤ) → pos 1 ≤ℤ p → HasSign s x → HasSign s (p *ℤ x)
carried_up s p x h k = sign_carried s p (pos 1) x (p *ℤ x) h (omega (arith, ints)) (sym (one-mul (p *ℤ x))) k

pub lead_sign : (a : Mat) (basis : List ℕ) (b g : ℕ) (s o r asked : Sign) (y : List ℤ) → NamesRows a basis → g < width a → ¬ IsIn g basis → IsReadSign a basis g b s
    → ((x : ℤ) → HasSign asked x → HasSign o (neg_ℤ x)) → ((x z : ℤ) → HasSign s x → HasSign o z → HasSign r (x *ℤ z))
    → IsNamedColumn a basis b y → HasSign asked (entry y g) → entry y g ≢ pos 0 → HasSign r (entry y b)
lead_sign a basis b g s o r asked y t lt out read opposite product named at_g some =
    let v = t.rows g lt out in
    let w = as_row a basis g v.w out v.named in
    let x = entry v.w b in
    let sum : x *ℤ entry y b +ℤ entry v.w g *ℤ entry y g ≡ pos 0 = pair a basis g b v.w y w named in
    let minus : HasSign o (entry v.w g *ℤ neg_ℤ (entry y g)) = carried_up o (entry v.w g) (neg_ℤ (entry y g)) v.positive (opposite (entry y g) at_g) in
    let e : entry v.w g *ℤ neg_ℤ (entry y g) ≡ x *ℤ entry y b = omega (arith, ints, sum, mul-neg (entry v.w g) (entry y g)) in
    let x_some : x ≢ pos 0 = other_some x (entry y b) (entry v.w g) (entry y g) sum (positive_some (entry v.w g) v.positive) some in
    sign_of_factor r x (entry y b) x_some (product x (x *ℤ entry y b) (read v.w w v.positive) (subst (HasSign o) e minus))
