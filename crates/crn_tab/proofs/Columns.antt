-- Vectors (x, Ax): differences, and that a basis and a coordinate in it name one vector, up to its sign.
use Rattle.crn_tab.proofs.Prelude.{◌≡◌, ◌≢◌, ◌⊎◌, ℕ, ◌+◌, ◌*◌, ◌≤◌, inl, inr, List, [], length, get_or, take, sym, ap, subst, ◌∙◌, arith, ℤ, pos, ◌-ℤ◌, ◌*ℤ◌, unsigned_abs, ◌∣◌, ints, unsigned_abs-mul, get_or-take, length-take-le, dvd-zero, Mat, entry, dot, AreOfLength, IsIn, InRowSpace, InDualSpace, IsBasis, IsPrimitive, IsNamed, IsNamedRow, IsNamedColumn, WideAt, AreProportional, IsElementary, IsWideMatrix, no_zero, mul-sub, left-comm, past_end, lt_or, eq_or, dot-comm, AreSmall}
use lib.IntN.{*ℤ_comm}
use Rattle.crn_tab.proofs.Dots.{dot_combined}
use Rattle.crn_tab.proofs.Differences.{differences, length-differences, entry-differences}
use Rattle.crn_tab.proofs.Signs.{times_one, own, is_none, same_sizes, one_row, some_own}
use Rattle.crn_tab.proofs.Primitive.{none_left, no_more}

pub cancel_left : (a x y : ℤ) → a ≢ pos 0 → a *ℤ x ≡ a *ℤ y → x ≡ y
cancel_left a x y ne e =
    let none : a *ℤ (x -ℤ y) ≡ pos 0 = omega (arith, ints, mul-sub a x y, e) in
    omega (arith, ints, no_zero a (x -ℤ y) none ne)

-- what holds place by place holds of the first n places
first_entries : (n : ℕ) (p q t : ℤ) (w v z : List ℤ) → n ≤ length w → n ≤ length v → n ≤ length z → ((k : ℕ) → entry z k *ℤ t ≡ (p *ℤ entry w k) -ℤ (q *ℤ entry v k))
    → (k : ℕ) → entry (take n z) k *ℤ t ≡ (p *ℤ entry (take n w) k) -ℤ (q *ℤ entry (take n v) k)
first_entries n p q t w v z lw lv lz h k = elim (lt_or k n) as (λ _. entry (take n z) k *ℤ t ≡ (p *ℤ entry (take n w) k) -ℤ (q *ℤ entry (take n v) k)) [
  | inl lt ↦ rw (get_or-take n z k (pos 0) lt, get_or-take n w k (pos 0) lt, get_or-take n v k (pos 0) lt) (h k)
  | inr le ↦ none_left p q t (entry (take n z) k) (entry (take n w) k) (entry (take n v) k)
      (past_end (take n z) k (omega (arith, length-take-le n z lz)))
      (past_end (take n w) k (omega (arith, length-take-le n w lw)))
      (past_end (take n v) k (omega (arith, length-take-le n v lv)))
]

swapped : (r x y : List ℤ) (p q t : ℤ) (z : List ℤ) → dot z r *ℤ t ≡ (p *ℤ dot x r) -ℤ (q *ℤ dot y r) → dot r z *ℤ t ≡ (p *ℤ dot r x) -ℤ (q *ℤ dot r y)
swapped r x y p q t z h = rw (dot-comm r z, dot-comm r x, dot-comm r y) h

same_quotient : (t x y d e : ℤ) → t ≢ pos 0 → x *ℤ t ≡ d → y *ℤ t ≡ e → d ≡ e → x ≡ y
same_quotient t x y d e ne f g h = cancel_left t x y ne (*ℤ_comm t x ∙ f ∙ h ∙ sym g ∙ *ℤ_comm y t)

-- a difference of vectors (x, Ax), divided exactly or not, is one
pub row_combined : (a : Mat) (p q t : ℤ) (w v z : List ℤ) → t ≢ pos 0 → InRowSpace a w → InRowSpace a v → length z ≡ length w
    → ((k : ℕ) → entry z k *ℤ t ≡ (p *ℤ entry w k) -ℤ (q *ℤ entry v k)) → InRowSpace a z
row_combined a p q t w v z ne rw_is rv_is e h = record {
  long = e ∙ rw_is.long;
  is = λ i lt.
      let n = a.cols in
      let r = get_or a.rows i [] in
      let lw : n ≤ length w = omega (arith, rw_is.long) in
      let lv : n ≤ length v = omega (arith, rv_is.long) in
      let lz : n ≤ length z = omega (arith, e) in
      let dots : dot (take n z) r *ℤ t ≡ (p *ℤ dot (take n w) r) -ℤ (q *ℤ dot (take n v) r) =
      dot_combined p q t (take n w) (take n v) (take n z) r
      (omega (arith, length-take-le n w lw, length-take-le n v lv)) (omega (arith, length-take-le n w lw, length-take-le n z lz)) (first_entries n p q t w v z lw lv lz h) in
      let both : (p *ℤ entry w (n + i)) -ℤ (q *ℤ entry v (n + i)) ≡ (p *ℤ dot r (take n w)) -ℤ (q *ℤ dot r (take n v)) =
      ap (λ (x : ℤ). (p *ℤ x) -ℤ (q *ℤ entry v (n + i))) (rw_is.is i lt) ∙ ap (λ (x : ℤ). (p *ℤ dot r (take n w)) -ℤ (q *ℤ x)) (rv_is.is i lt) in
      same_quotient t (entry z (n + i)) (dot r (take n z)) ((p *ℤ entry w (n + i)) -ℤ (q *ℤ entry v (n + i))) ((p *ℤ dot r (take n w)) -ℤ (q *ℤ dot r (take n v))) ne
      (h (n + i)) (swapped r (take n w) (take n v) p q t (take n z) dots) both;
}

-- two vectors that a basis names by one coordinate in it are proportional
pub one_column : (a : Mat) (basis : List ℕ) (b : ℕ) (w v : List ℤ) → IsBasis a basis → IsNamedColumn a basis b w → IsNamedColumn a basis b v
    → (j : ℕ) → entry v b *ℤ entry w j ≡ entry w b *ℤ entry v j
one_column a basis b w v h nw nv j =
    let p = entry v b in
    let q = entry w b in
    let z = differences p q w v in
    let same : length w ≡ length v = nw.space.long ∙ sym nv.space.long in
    let at : (i : ℕ) → entry z i ≡ (p *ℤ entry w i) -ℤ (q *ℤ entry v i) = λ i. entry-differences p q w v i (sym same) in
    let row : InRowSpace a z = row_combined a p q (pos 1) w v z (λ e. omega (arith, ints, e)) nw.space nv.space (length-differences p q w v (sym same)) (λ i. times_one (entry z i) ∙ at i) in
    let none : entry z j ≡ pos 0 = h.free z row (λ i member. elim (eq_or i b) as (λ _. entry z i ≡ pos 0) [
      | inl e ↦ at i ∙ ap (λ m. (p *ℤ entry w m) -ℤ (q *ℤ entry v m)) e ∙ own p q
      | inr ne ↦ at i ∙ no_more p q (entry w i) (entry v i) (nw.zero_on_rest i member ne) (nv.zero_on_rest i member ne)
    ]) j in
    omega (arith, ints, none, at j)

-- a primitive list has an entry that is not zero
pub not_all_zero : (w : List ℤ) → IsPrimitive w → ¬ ((j : ℕ) → entry w j ≡ pos 0)
not_all_zero w prim zero_all =
    let two : 2 ≡ 1 = prim 2 (λ j. (let D : ℕ → Type 0 = λ n. 2 ∣ n in subst D (sym (ap unsigned_abs (zero_all j))) (dvd-zero 2))) in
    absurd (omega (arith, two))

pub some_own_column : (a : Mat) (basis : List ℕ) (b : ℕ) (w : List ℤ) → IsBasis a basis → IsNamedColumn a basis b w → IsPrimitive w → 1 ≤ unsigned_abs (entry w b)
some_own_column a basis b w h nw prim = elim (is_none (entry w b)) [
  | inr some ↦ some
  | inl e ↦ absurd (not_all_zero w prim (h.free w nw.space (λ i member. elim (eq_or i b) as (λ _. entry w i ≡ pos 0) [
    | inl f ↦ ap (λ m. entry w m) f ∙ e
    | inr ne ↦ nw.zero_on_rest i member ne
  ])))
]

-- if a coordinate of the basis names a small vector, it names no wide one
pub small_column : (a : Mat) (basis : List ℕ) (b : ℕ) (w : List ℤ) → IsIn b basis → IsNamed a basis b w → AreSmall w → ¬ WideAt a basis b
small_column a basis b w member mine small (v, named, (j, big)) = elim named.named [
  | inr row ↦ row.outside member
  | inl column ↦ elim mine.named [
    | inr row ↦ row.outside member
    | inl mine_is ↦
        let h = one_column a basis b w v named.basis_is mine_is column in
        let abs : (i : ℕ) → unsigned_abs (entry v b) * unsigned_abs (entry w i) ≡ unsigned_abs (entry w b) * unsigned_abs (entry v i) = λ i.
        sym (unsigned_abs-mul (entry v b) (entry w i)) ∙ ap unsigned_abs (h i) ∙ unsigned_abs-mul (entry w b) (entry v i) in
        let same = same_sizes w v (unsigned_abs (entry v b)) (unsigned_abs (entry w b)) mine.primitive named.primitive
        (some_own_column a basis b v named.basis_is column named.primitive) (some_own_column a basis b w named.basis_is mine_is mine.primitive) abs j in
        omega (arith, big, same, small j)
  ]
]

pub not_zero : (x : ℤ) → 1 ≤ unsigned_abs x → x ≢ pos 0
not_zero x h e = omega (arith, h, ap unsigned_abs e)

-- two lists that are proportional at one place, where the first is not zero, are proportional
pub proportional_by : (w v : List ℤ) (k : ℕ) → entry w k ≢ pos 0 → ((j : ℕ) → entry v k *ℤ entry w j ≡ entry w k *ℤ entry v j) → AreProportional w v
proportional_by w v k some h i j =
    let x = entry w k in
    let first : x *ℤ (entry w i *ℤ entry v j) ≡ entry w i *ℤ (entry v k *ℤ entry w j) = left-comm x (entry w i) (entry v j) ∙ ap (λ (t : ℤ). entry w i *ℤ t) (sym (h j)) in
    let second : x *ℤ (entry w j *ℤ entry v i) ≡ entry w j *ℤ (entry v k *ℤ entry w i) = left-comm x (entry w j) (entry v i) ∙ ap (λ (t : ℤ). entry w j *ℤ t) (sym (h i)) in
    let third : entry w i *ℤ (entry v k *ℤ entry w j) ≡ entry w j *ℤ (entry v k *ℤ entry w i) =
    left-comm (entry w i) (entry v k) (entry w j) ∙ ap (λ (t : ℤ). entry v k *ℤ t) (*ℤ_comm (entry w i) (entry w j)) ∙ left-comm (entry v k) (entry w j) (entry w i) in
    cancel_left x (entry w i *ℤ entry v j) (entry w j *ℤ entry v i) some (first ∙ third ∙ sym second)

-- the vector that a basis names by a coordinate outside it is elementary
pub row_elementary : (a : Mat) (basis : List ℕ) (k : ℕ) (w : List ℤ) → AreOfLength a.cols a.rows → ¬ IsIn k basis → IsNamed a basis k w → IsElementary (InDualSpace a) w
row_elementary a basis k w wide out named = elim named.named as (λ _. IsElementary (InDualSpace a) w) [
  | inl column ↦ absurd (out column.member)
  | inr row ↦
      let some : entry w k ≢ pos 0 = not_zero (entry w k) (some_own a basis k w wide named.basis_is row named.primitive) in
      record {
        member = row.space;
        some = (k, some);
        least = λ v space within.
            let other : IsNamedRow a basis k v = record { inside = row.inside; outside = row.outside; space = space; zero_outside = λ j far ne. within j (row.zero_outside j far ne) } in
            proportional_by w v k some (one_row a basis k w v wide named.basis_is row other);
      }
]

-- the vector that a basis names by a coordinate in it is elementary
pub column_elementary : (a : Mat) (basis : List ℕ) (b : ℕ) (w : List ℤ) → IsIn b basis → IsNamed a basis b w → IsElementary (InRowSpace a) w
column_elementary a basis b w member named = elim named.named as (λ _. IsElementary (InRowSpace a) w) [
  | inr row ↦ absurd (row.outside member)
  | inl column ↦
      let some : entry w b ≢ pos 0 = not_zero (entry w b) (some_own_column a basis b w named.basis_is column named.primitive) in
      record {
        member = column.space;
        some = (b, some);
        least = λ v space within.
            let other : IsNamedColumn a basis b v = record { member = member; space = space; zero_on_rest = λ j rest ne. within j (column.zero_on_rest j rest ne) } in
            proportional_by w v b some (one_column a basis b w v named.basis_is column other);
      }
]

-- if a basis and a coordinate name a wide vector, some primitive elementary vector is wide
pub wide_shown : (a : Mat) (basis : List ℕ) (k : ℕ) → AreOfLength a.cols a.rows → WideAt a basis k → IsWideMatrix a
wide_shown a basis k long wide =
    let v : List ℤ = wide.0 in
    let e : IsElementary (InRowSpace a) v ⊎ IsElementary (InDualSpace a) v = elim wide.1.named [ inl m ↦ inl (column_elementary a basis k v m.member wide.1) | inr r ↦ inr (row_elementary a basis k v long r.outside wide.1) ] in
    record { v = v; elementary = e; primitive = wide.1.primitive; wide = wide.2 }
