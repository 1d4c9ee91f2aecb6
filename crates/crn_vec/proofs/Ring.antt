-- Ring laws and signs of whole numbers.
use Rattle.crn_vec.proofs.Prelude.{◌≡◌, ◌≢◌, ◌∙◌, sym, ◌+◌, ◌*◌, arith, ap, refl, suc, zero, ◌⊎◌, inl, inr, ◌≤◌, ints, unsigned_abs}
use Rattle.std.proofs.Common.{ℤ, pos, negsuc, ◌+ℤ◌, ◌-ℤ◌, ◌*ℤ◌, ◌<ℤ◌, ◌≤ℤ◌, neg_ℤ}
use borrow.Author.Differences.{up, down, sum_is_lem, product_is, neg_is}
use lib.IntN.{*ℤ_comm, zero-*ℤ}

pub distrib : (a b c : ℤ) → a *ℤ (b +ℤ c) ≡ a *ℤ b +ℤ a *ℤ c
distrib a b c =
    let e : up (b +ℤ c) + down b + down c ≡ down (b +ℤ c) + up b + up c = sum_is_lem b c in
    let f : up a * (up (b +ℤ c) + down b + down c) ≡ up a * (down (b +ℤ c) + up b + up c) = ap (λ n. up a * n) e in
    let g : down a * (up (b +ℤ c) + down b + down c) ≡ down a * (down (b +ℤ c) + up b + up c) = ap (λ n. down a * n) e in
    omega (arith, ints, f, g)

pub assoc : (a b c : ℤ) → (a *ℤ b) *ℤ c ≡ a *ℤ (b *ℤ c)
assoc a b c =
    let f1 : up (a *ℤ b) * up c ≡ (up a * up b + down a * down b) * up c = ap (λ n. n * up c) (product_is a b).0 in
    let f2 : up (a *ℤ b) * down c ≡ (up a * up b + down a * down b) * down c = ap (λ n. n * down c) (product_is a b).0 in
    let f3 : down (a *ℤ b) * up c ≡ (up a * down b + down a * up b) * up c = ap (λ n. n * up c) (product_is a b).1 in
    let f4 : down (a *ℤ b) * down c ≡ (up a * down b + down a * up b) * down c = ap (λ n. n * down c) (product_is a b).1 in
    let g1 : up a * up (b *ℤ c) ≡ up a * (up b * up c + down b * down c) = ap (λ n. up a * n) (product_is b c).0 in
    let g2 : down a * up (b *ℤ c) ≡ down a * (up b * up c + down b * down c) = ap (λ n. down a * n) (product_is b c).0 in
    let g3 : up a * down (b *ℤ c) ≡ up a * (up b * down c + down b * up c) = ap (λ n. up a * n) (product_is b c).1 in
    let g4 : down a * down (b *ℤ c) ≡ down a * (up b * down c + down b * up c) = ap (λ n. down a * n) (product_is b c).1 in
    omega (arith, ints, f1, f2, f3, f4, g1, g2, g3, g4)

pub mul-neg : (a b : ℤ) → a *ℤ neg_ℤ b ≡ neg_ℤ (a *ℤ b)
mul-neg a b =
    let f1 : up a * up (neg_ℤ b) ≡ up a * down b = ap (λ n. up a * n) (neg_is b).0 in
    let f2 : up a * down (neg_ℤ b) ≡ up a * up b = ap (λ n. up a * n) (neg_is b).1 in
    let f3 : down a * up (neg_ℤ b) ≡ down a * down b = ap (λ n. down a * n) (neg_is b).0 in
    let f4 : down a * down (neg_ℤ b) ≡ down a * up b = ap (λ n. down a * n) (neg_is b).1 in
    omega (arith, ints, f1, f2, f3, f4)

pub mul-sub : (p x y : ℤ) → p *ℤ (x -ℤ y) ≡ p *ℤ x -ℤ p *ℤ y
mul-sub p x y = omega (arith, ints, distrib p x (neg_ℤ y), mul-neg p y)

pub distrib-right : (a b c : ℤ) → (a +ℤ b) *ℤ c ≡ a *ℤ c +ℤ b *ℤ c
distrib-right a b c = omega (arith, ints, *ℤ_comm (a +ℤ b) c, distrib c a b, *ℤ_comm c a, *ℤ_comm c b)

pub left-comm : (a b c : ℤ) → a *ℤ (b *ℤ c) ≡ b *ℤ (a *ℤ c)
left-comm a b c =
    let e : (a *ℤ b) *ℤ c ≡ (b *ℤ a) *ℤ c = ap (λ t. t *ℤ c) (*ℤ_comm a b) in
    omega (arith, ints, assoc a b c, assoc b a c, e)

pub no_zero : (a b : ℤ) → a *ℤ b ≡ pos 0 → ¬ (a ≡ pos 0) → b ≡ pos 0
no_zero (pos zero) b e h = absurd (h refl)
no_zero (pos (suc a)) (pos zero) e h = refl
no_zero (pos (suc a)) (pos (suc b)) e h = absurd (omega (arith, ints, e))
no_zero (pos (suc a)) (negsuc b) e h = absurd (omega (arith, ints, e))
no_zero (negsuc a) (pos zero) e h = refl
no_zero (negsuc a) (pos (suc b)) e h = absurd (omega (arith, ints, e))
no_zero (negsuc a) (negsuc b) e h = absurd (omega (arith, ints, e))

pub pos_pos : (a b : ℤ) → pos 0 <ℤ a → pos 0 <ℤ b → pos 0 <ℤ (a *ℤ b)
pos_pos (pos zero) b h k = absurd (omega (arith, ints))
pos_pos (pos (suc a)) (pos zero) h k = absurd (omega (arith, ints))
pos_pos (pos (suc a)) (pos (suc b)) h k = omega (arith, ints)
pos_pos (pos (suc a)) (negsuc b) h k = absurd (omega (arith, ints))
pos_pos (negsuc a) b h k = absurd (omega (arith, ints))

pub is_zero : (a : ℤ) → (a ≡ pos 0) ⊎ (¬ (a ≡ pos 0))
is_zero (pos zero) = inl refl
is_zero (pos (suc n)) = inr (λ e. omega (arith, ints, e))
is_zero (negsuc n) = inr (λ e. omega (arith, ints, e))

pub one_ne_zero : ¬ (pos 1 ≡ pos 0)
one_ne_zero e = omega (arith, ints, e)

pub cancel_right : (a x y : ℤ) → a ≢ pos 0 → x *ℤ a ≡ y *ℤ a → x ≡ y
cancel_right a x y ne e =
    let none : a *ℤ (x -ℤ y) ≡ pos 0 = omega (arith, ints, mul-sub a x y, *ℤ_comm a x, *ℤ_comm a y, e) in
    omega (arith, ints, no_zero a (x -ℤ y) none ne)

pub swap_factors : (x y z : ℤ) → (x *ℤ y) *ℤ z ≡ (x *ℤ z) *ℤ y
swap_factors x y z = assoc x y z ∙ ap (λ (t : ℤ). x *ℤ t) (*ℤ_comm y z) ∙ sym (assoc x z y)

-- entries of two vectors that are both in one ratio to a third are in one ratio
pub ratios_cross : (g0 gi gk hi hk h0 ei ek e0 : ℤ) → g0 ≢ pos 0 → hi *ℤ g0 ≡ gi *ℤ h0 → hk *ℤ g0 ≡ gk *ℤ h0 → ei *ℤ g0 ≡ gi *ℤ e0 → ek *ℤ g0 ≡ gk *ℤ e0 → hi *ℤ ek ≡ hk *ℤ ei
ratios_cross g0 gi gk hi hk h0 ei ek e0 ne a b c d =
    let left : (hi *ℤ gk) *ℤ g0 ≡ (gi *ℤ h0) *ℤ gk = swap_factors hi gk g0 ∙ ap (λ (t : ℤ). t *ℤ gk) a in
    let right : (hk *ℤ gi) *ℤ g0 ≡ (gk *ℤ h0) *ℤ gi = swap_factors hk gi g0 ∙ ap (λ (t : ℤ). t *ℤ gi) b in
    let moved : (gi *ℤ h0) *ℤ gk ≡ (gk *ℤ h0) *ℤ gi = assoc gi h0 gk ∙ *ℤ_comm gi (h0 *ℤ gk) ∙ ap (λ (t : ℤ). t *ℤ gi) (*ℤ_comm h0 gk) in
    let first : hi *ℤ gk ≡ hk *ℤ gi = cancel_right g0 (hi *ℤ gk) (hk *ℤ gi) ne (left ∙ moved ∙ sym right) in
    let up : (hi *ℤ ek) *ℤ g0 ≡ (hi *ℤ gk) *ℤ e0 = assoc hi ek g0 ∙ ap (λ (t : ℤ). hi *ℤ t) d ∙ sym (assoc hi gk e0) in
    let down : (hk *ℤ ei) *ℤ g0 ≡ (hk *ℤ gi) *ℤ e0 = assoc hk ei g0 ∙ ap (λ (t : ℤ). hk *ℤ t) c ∙ sym (assoc hk gi e0) in
    cancel_right g0 (hi *ℤ ek) (hk *ℤ ei) ne (up ∙ ap (λ (t : ℤ). t *ℤ e0) first ∙ sym down)

pub neg-mul : (a b : ℤ) → neg_ℤ a *ℤ b ≡ neg_ℤ (a *ℤ b)
neg-mul a b = *ℤ_comm (neg_ℤ a) b ∙ mul-neg b a ∙ ap neg_ℤ (*ℤ_comm b a)

pub one-mul : (x : ℤ) → pos 1 *ℤ x ≡ x
one-mul x = omega (arith, ints)

pub minus_one : (x : ℤ) → negsuc 0 *ℤ x ≡ neg_ℤ x
minus_one x = omega (arith, ints)

pub zero_times : (x y : ℤ) → x ≡ pos 0 → x *ℤ y ≡ pos 0
zero_times x y e = ap (λ (z : ℤ). z *ℤ y) e ∙ zero-*ℤ y

pub abs_some : (x : ℤ) → x ≢ pos 0 → 1 ≤ unsigned_abs x
abs_some x h = omega (arith, ints, h)

pub positive_some : (x : ℤ) → pos 1 ≤ℤ x → x ≢ pos 0
positive_some x h e = omega (arith, ints, h, e)

pub plus_none : (x : ℤ) → x +ℤ pos 0 ≡ x
plus_none x = omega (arith, ints)
