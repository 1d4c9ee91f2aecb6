-- A vector that a basis names by a coordinate outside it and one that it names by a member: two products add up to 0.
use Rattle.crn_farkas.proofs.Prelude.{◌≡◌, ◌≢◌, ℕ, zero, suc, ◌+◌, ◌<◌, ◌⊎◌, inl, inr, List, [], ◌∷◌, take, drop, refl, sym, ap, subst, ◌∙◌, arith, ℤ, pos, negsuc, ◌+ℤ◌, ◌*ℤ◌, neg_ℤ, unsigned_abs, true, ◌∣◌, ints, dvd-zero, false≢true, Kind, Pos, Neg, NonNeg, Free, Mat, entry, dot, column, scale, IsIn, width, InRowSpace, InDualSpace, IsNamed, IsNamedRow, IsNamedColumn, HasKind, is_signed, no_zero, mul-neg, length-scale, entry-scale, dot-scale, dot-scale-right, part, orthogonal, dot_single, take-scale, NamesRows, isIn_or, one_row, as_row}
use Rattle.crn_vec.specs.declared.signs.Kind.TheVariants.{Zero}
use lib.IntN.{*ℤ-zero, zero-*ℤ}

-- all products but two are 0
dot_pair : (v w : List ℤ) (c g : ℕ) → c ≢ g → ((i : ℕ) → i ≢ c → i ≢ g → part v w i ≡ pos 0) → dot v w ≡ part v w c +ℤ part v w g
dot_pair [] w c g n h = omega (arith, ints, zero-*ℤ (entry w c), zero-*ℤ (entry w g))
dot_pair (x ∷ v) [] c g n h = omega (arith, ints, *ℤ-zero (entry (x ∷ v) c), *ℤ-zero (entry (x ∷ v) g))
dot_pair (x ∷ v) (y ∷ w) zero zero n h = absurd (n refl)
dot_pair (x ∷ v) (y ∷ w) zero (suc g) n h = omega (arith, ints, dot_single v w g (λ i ne. h (suc i) (λ e. omega arith) (λ e. ne (omega arith))))
dot_pair (x ∷ v) (y ∷ w) (suc c) zero n h = omega (arith, ints, dot_single v w c (λ i ne. h (suc i) (λ e. ne (omega arith)) (λ e. omega arith)))
dot_pair (x ∷ v) (y ∷ w) (suc c) (suc g) n h =
    omega (arith, ints, h 0 (λ e. omega arith) (λ e. omega arith), dot_pair v w c g (λ e. n (ap suc e)) (λ i nc ng. h (suc i) (λ e. nc (omega arith)) (λ e. ng (omega arith))))

pub pair : (a : Mat) (basis : List ℕ) (e b : ℕ) (w y : List ℤ) → IsNamedRow a basis e w → IsNamedColumn a basis b y → part w y b +ℤ part w y e ≡ pos 0
pair a basis e b w y row col =
    let apart : b ≢ e = λ q. row.outside (subst (λ (k : ℕ). IsIn k basis) q col.member) in
    let none : (i : ℕ) → i ≢ b → i ≢ e → part w y i ≡ pos 0 = λ i nb ne. elim (isIn_or i basis) as (λ _. part w y i ≡ pos 0) [
      | inl m ↦ ap (λ (t : ℤ). entry w i *ℤ t) (col.zero_on_rest i m nb) ∙ *ℤ-zero (entry w i)
      | inr o ↦ ap (λ (t : ℤ). t *ℤ entry y i) (row.zero_outside i o ne) ∙ zero-*ℤ (entry y i)
    ] in
    sym (dot_pair w y b e apart none) ∙ orthogonal a w y row.space col.space

-- a primitive vector that the basis names is not 0 at its coordinate
pub own_some : (a : Mat) (basis : List ℕ) (e : ℕ) (w : List ℤ) → NamesRows a basis → e < width a → ¬ IsIn e basis → IsNamed a basis e w → entry w e ≢ pos 0
own_some a basis e w t lt out named none =
    let v = t.rows e lt out in
    let all : (j : ℕ) → entry w j ≡ pos 0 = λ j.
    let p : entry v.w e *ℤ entry w j ≡ entry w e *ℤ entry v.w j = one_row a basis e w v.w t.wide t.basis_is (as_row a basis e w out named) (as_row a basis e v.w out v.named) j in
    let q : entry w e *ℤ entry v.w j ≡ pos 0 *ℤ entry v.w j = ap (λ (t : ℤ). t *ℤ entry v.w j) none in
    no_zero (entry v.w e) (entry w j) (p ∙ q ∙ zero-*ℤ (entry v.w j)) (λ z. omega (arith, ints, z, v.positive)) in
    let two : 2 ≡ 1 = named.primitive 2 (λ j. (let D : ℕ → Type 0 = λ n. 2 ∣ n in subst D (sym (ap unsigned_abs (all j))) (dvd-zero 2))) in
    omega (arith, two)

-- ---- multiples

pub drop-scale : (q : ℤ) (n : ℕ) (v : List ℤ) → drop n (scale q v) ≡ scale q (drop n v)
drop-scale q zero v = refl
drop-scale q (suc n) [] = refl
drop-scale q (suc n) (x ∷ v) = drop-scale q n v

pub row_scaled : (a : Mat) (q : ℤ) (v : List ℤ) → InRowSpace a v → InRowSpace a (scale q v)
row_scaled a q v h = record {
  long = length-scale q v ∙ h.long;
  is = λ i lt. entry-scale q v (a.cols + i) ∙ ap (λ (t : ℤ). q *ℤ t) (h.is i lt) ∙ sym (dot-scale-right q _ (take a.cols v)) ∙ ap (dot _) (sym (take-scale q a.cols v));
}

pub dual_scaled : (a : Mat) (q : ℤ) (w : List ℤ) → InDualSpace a w → InDualSpace a (scale q w)
dual_scaled a q w h = record {
  long = length-scale q w ∙ h.long;
  is = λ j lt.
      let d = dot (drop a.cols w) (column a.rows j) in
      entry-scale q w j ∙ ap (λ (t : ℤ). q *ℤ t) (h.is j lt) ∙ mul-neg q d
      ∙ ap neg_ℤ (sym (dot-scale q (drop a.cols w) (column a.rows j)) ∙ ap (λ (t : List ℤ). dot t (column a.rows j)) (sym (drop-scale q a.cols w)));
}

scaled_zero : (q : ℤ) (v : List ℤ) (k : ℕ) → entry v k ≡ pos 0 → entry (scale q v) k ≡ pos 0
scaled_zero q v k e = entry-scale q v k ∙ ap (λ (t : ℤ). q *ℤ t) e ∙ *ℤ-zero q

pub column_scaled : (a : Mat) (basis : List ℕ) (b : ℕ) (q : ℤ) (y : List ℤ) → IsNamedColumn a basis b y → IsNamedColumn a basis b (scale q y)
column_scaled a basis b q y h = record {
  member = h.member;
  space = row_scaled a q y h.space;
  zero_on_rest = λ k i ne. scaled_zero q y k (h.zero_on_rest k i ne);
}

pub named_scaled : (a : Mat) (basis : List ℕ) (e : ℕ) (q : ℤ) (w : List ℤ) → IsNamedRow a basis e w → IsNamedRow a basis e (scale q w)
named_scaled a basis e q w h = record {
  inside = h.inside;
  outside = h.outside;
  space = dual_scaled a q w h.space;
  zero_outside = λ k o ne. scaled_zero q w k (h.zero_outside k o ne);
}

-- a number that is not 0 has a signed kind, or its negative has
pub signed_kind : (κ : Kind) (x : ℤ) → is_signed κ ≡ true → x ≢ pos 0 → HasKind κ (pos 1 *ℤ x) ⊎ HasKind κ (negsuc 0 *ℤ x)
signed_kind Pos (pos zero) s n = absurd (n refl)
signed_kind Pos (pos (suc x)) s n = inl (omega (arith, ints))
signed_kind Pos (negsuc x) s n = inr (omega (arith, ints))
signed_kind Neg (pos zero) s n = absurd (n refl)
signed_kind Neg (pos (suc x)) s n = inr (omega (arith, ints))
signed_kind Neg (negsuc x) s n = inl (omega (arith, ints))
signed_kind NonNeg x s n = absurd (false≢true s)
signed_kind Zero x s n = absurd (false≢true s)
signed_kind Free x s n = absurd (false≢true s)

pub kind_some : (κ : Kind) (x : ℤ) → is_signed κ ≡ true → HasKind κ x → x ≢ pos 0
kind_some Pos x s h = λ e. omega (arith, ints, e, h)
kind_some Neg x s h = λ e. omega (arith, ints, e, h)
kind_some NonNeg x s h = absurd (false≢true s)
kind_some Zero x s h = absurd (false≢true s)
kind_some Free x s h = absurd (false≢true s)

-- of two products that add up to 0, where one is not 0 neither factor of the other is
pub other_some : (p q r s : ℤ) → (p *ℤ q) +ℤ (r *ℤ s) ≡ pos 0 → r ≢ pos 0 → s ≢ pos 0 → p ≢ pos 0
other_some p q r s e nr ns z =
    let f : p *ℤ q ≡ pos 0 = ap (λ (t : ℤ). t *ℤ q) z ∙ zero-*ℤ q in
    ns (no_zero r s (omega (arith, ints, e, f)) nr)
