-- Two primitive vectors of one name have the same entries up to sign, so a kept basis has no wide row.
use Rattle.crn_tab.proofs.Prelude.{◌≡◌, ℕ, zero, suc, ◌+◌, ◌-◌, ◌*◌, ◌/◌, ◌%◌, ◌<◌, ◌≤◌, ◌⊎◌, inl, inr, List, length, refl, sym, ap, subst, ◌∙◌, arith, ℤ, pos, negsuc, ◌-ℤ◌, ◌*ℤ◌, unsigned_abs, slice_index, IsGcd, ◌∣◌, ints, unsigned_abs-mul, IsGcd-from_zero, IsGcd-from_mod, dvd_antisymm, dvd-zero, dvd-mul_left, dvd-mul_right, div-mul_cancel, dvd_of_mul-dvd-mul_right, mul_comm, pos_of_dvd_of_pos, eq_of_mul-eq-mul_left, common, Mat, entry, AreOfLength, IsIn, width, InDualSpace, IsBasis, IsPrimitive, IsNamed, IsNamedRow, WideAt, lt_or, eq_or, AreSmall, basis_of, row_at, spread, IsTableau}
use Rattle.std.proofs.Math.Nat.{one-mul}
use lib.IntN.{*ℤ_comm}
use Rattle.crn_tab.proofs.Spaces.{dual_combined}
use Rattle.crn_tab.proofs.Differences.{differences, length-differences, entry-differences}
use Rattle.crn_tab.proofs.Unique.{dual_none}
use Rattle.crn_tab.proofs.RowVector.{row_of}
use Rattle.crn_tab.proofs.Primitive.{no_more}

pub gcd_by : (k a b : ℕ) → b ≤ k → (g : ℕ) × IsGcd a b g
gcd_by k a zero h = (a, IsGcd-from_zero a 0 refl)
gcd_by zero a (suc b) h = absurd (omega arith)
gcd_by (suc k) a (suc b) h =
    let r = gcd_by k (suc b) (a % suc b) (let l : a % suc b < suc b = omega arith in omega arith) in
    (r.0, IsGcd-from_mod a (suc b) r.0 r.1)

-- a number that divides a times each entry of a primitive vector divides a
pub divides_all : (v : List ℤ) (a b : ℕ) → IsPrimitive v → 1 ≤ b → ((k : ℕ) → b ∣ a * unsigned_abs (entry v k)) → b ∣ a
divides_all v a b prim some h =
    let r = gcd_by b a b (omega arith) in
    let g = r.0 in
    let is : IsGcd a b g = r.1 in
    let g_some : 1 ≤ g = pos_of_dvd_of_pos is.1 some in
    let b_is : b / g * g ≡ b = div-mul_cancel g is.1 in
    let D : ℕ → ℕ → Type 0 = λ m n. m ∣ n in
    let each : (k : ℕ) → b / g ∣ unsigned_abs (entry v k) = λ k.
    let x = unsigned_abs (entry v k) in
    let first : b ∣ x * a = subst (D b) (mul_comm a x) (h k) in
    let both : b ∣ x * g = common x b a b g is first (dvd-mul_left b x) in
    dvd_of_mul-dvd-mul_right (b / g) g_some (subst (λ n. n ∣ x * g) (sym b_is) both) in
    let one : b / g ≡ 1 = prim (b / g) each in
    let same : g ≡ b = sym (one-mul g) ∙ ap (λ n. n * g) (sym one) ∙ b_is in
    subst (λ n. n ∣ a) same is.0

cancel : (a x y : ℕ) → 1 ≤ a → a * x ≡ a * y → x ≡ y
cancel a x y h e = eq_of_mul-eq-mul_left a h x y e

-- entries of a w and b w' are the same, both primitive
pub same_sizes : (w v : List ℤ) (a b : ℕ) → IsPrimitive w → IsPrimitive v → 1 ≤ a → 1 ≤ b
    → ((k : ℕ) → a * unsigned_abs (entry w k) ≡ b * unsigned_abs (entry v k)) → (k : ℕ) → unsigned_abs (entry w k) ≡ unsigned_abs (entry v k)
same_sizes w v a b pw pv sa sb h k =
    let D : ℕ → ℕ → Type 0 = λ m n. m ∣ n in
    let ba : b ∣ a = divides_all w a b pw sb (λ j. subst (D b) (sym (h j)) (dvd-mul_right b (unsigned_abs (entry v j)))) in
    let ab : a ∣ b = divides_all v b a pv sa (λ j. subst (D a) (h j) (dvd-mul_right a (unsigned_abs (entry w j)))) in
    let same : a ≡ b = dvd_antisymm ab ba in
    cancel a (unsigned_abs (entry w k)) (unsigned_abs (entry v k)) sa (h k ∙ ap (λ n. n * unsigned_abs (entry v k)) (sym same))

pub times_one : (x : ℤ) → x *ℤ pos 1 ≡ x
times_one x = omega (arith, ints)

pub own : (p q : ℤ) → (p *ℤ q) -ℤ (q *ℤ p) ≡ pos 0
own p q = omega (arith, ints, *ℤ_comm p q)

pub is_none : (x : ℤ) → (x ≡ pos 0) ⊎ (1 ≤ unsigned_abs x)
is_none (pos zero) = inl refl
is_none (pos (suc n)) = inr (omega arith)
is_none (negsuc n) = inr (omega arith)

-- two vectors that a basis names by one coordinate outside it are proportional
pub one_row : (a : Mat) (basis : List ℕ) (k : ℕ) (w v : List ℤ) → AreOfLength a.cols a.rows → IsBasis a basis → IsNamedRow a basis k w → IsNamedRow a basis k v
    → (j : ℕ) → entry v k *ℤ entry w j ≡ entry w k *ℤ entry v j
one_row a basis k w v wide h nw nv j =
    let p = entry v k in
    let q = entry w k in
    let z = differences p q w v in
    let same : length w ≡ length v = nw.space.long ∙ sym nv.space.long in
    let at : (i : ℕ) → entry z i ≡ (p *ℤ entry w i) -ℤ (q *ℤ entry v i) = λ i. entry-differences p q w v i (sym same) in
    let dual : InDualSpace a z = dual_combined a p q (pos 1) w v z (λ e. omega (arith, ints, e)) nw.space nv.space (length-differences p q w v (sym same)) (λ i. times_one (entry z i) ∙ at i) in
    let none : entry z j ≡ pos 0 = dual_none a basis z wide h dual (λ i out. elim (eq_or i k) as (λ _. entry z i ≡ pos 0) [
      | inl e ↦ at i ∙ ap (λ m. (p *ℤ entry w m) -ℤ (q *ℤ entry v m)) e ∙ own p q
      | inr ne ↦ at i ∙ no_more p q (entry w i) (entry v i) (nw.zero_outside i out ne) (nv.zero_outside i out ne)
    ]) j in
    omega (arith, ints, none, at j)

-- a primitive vector that a basis names is not zero at its coordinate
pub some_own : (a : Mat) (basis : List ℕ) (k : ℕ) (w : List ℤ) → AreOfLength a.cols a.rows → IsBasis a basis → IsNamedRow a basis k w → IsPrimitive w → 1 ≤ unsigned_abs (entry w k)
some_own a basis k w wide h nw prim = elim (is_none (entry w k)) [
  | inr some ↦ some
  | inl e ↦
      let zero_all : (j : ℕ) → entry w j ≡ pos 0 = dual_none a basis w wide h nw.space (λ i out. elim (eq_or i k) as (λ _. entry w i ≡ pos 0) [
        | inl f ↦ ap (λ m. entry w m) f ∙ e
        | inr ne ↦ nw.zero_outside i out ne
      ]) in
      let two : 2 ≡ 1 = prim 2 (λ j. (let D : ℕ → Type 0 = λ n. 2 ∣ n in subst D (sym (ap unsigned_abs (zero_all j))) (dvd-zero 2))) in
      absurd (omega (arith, two))
]

-- if a coordinate outside the basis names a small vector, it names no wide one
pub small_name : (a : Mat) (basis : List ℕ) (k : ℕ) (w : List ℤ) → AreOfLength a.cols a.rows → ¬ IsIn k basis → IsNamed a basis k w → AreSmall w → ¬ WideAt a basis k
small_name a basis k w wide out mine small (v, named, (j, big)) = elim named.named [
  | inl column ↦ out column.member
  | inr row ↦ elim mine.named [
    | inl column ↦ out column.member
    | inr own ↦
        let h = one_row a basis k w v wide named.basis_is own row in
        let abs : (i : ℕ) → unsigned_abs (entry v k) * unsigned_abs (entry w i) ≡ unsigned_abs (entry w k) * unsigned_abs (entry v i) = λ i.
        sym (unsigned_abs-mul (entry v k) (entry w i)) ∙ ap unsigned_abs (h i) ∙ unsigned_abs-mul (entry w k) (entry v i) in
        let same = same_sizes w v (unsigned_abs (entry v k)) (unsigned_abs (entry w k)) mine.primitive named.primitive
        (some_own a basis k v wide named.basis_is row named.primitive) (some_own a basis k w wide named.basis_is own mine.primitive) abs j in
        omega (arith, big, same, small j)
  ]
]

-- a tableau keeps no wide row
pub no_wide : (a : Mat) (at order : List ℕ) (rows : List ℤ) (k : ℕ) → IsTableau a at order rows → ¬ IsIn k (basis_of a.cols at) → ¬ WideAt a (basis_of a.cols at) k
no_wide a at order rows k t out w = elim (lt_or k (width a)) [
  | inl lt ↦
      let own = row_of a at order rows k t lt out in
      small_name a (basis_of a.cols at) k (spread a.cols (slice_index at k - a.cols) (row_at (a.cols + 1) rows (slice_index at k - a.cols)) at) t.wide out own.named own.bounded w
  | inr past ↦ elim w.1.named [ inl column ↦ out column.member | inr row ↦ omega (arith, row.inside) ]
]
