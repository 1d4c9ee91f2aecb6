-- What is known of the signs of sums of vectors (x, Ax), and that suitable signs make a solution.
use Rattle.crn_sign.proofs.Prelude.{◌≡◌, ℕ, zero, suc, ◌+◌, ◌<◌, ◌≤◌, inl, inr, List, [], ◌∷◌, length, map, get_or, take, refl, sym, ap, ap₂, subst, ◌∙◌, arith, pos, negsuc, ◌*ℤ◌, ◌+ℤ◌, ◌≤ℤ◌, unsigned_abs, range_with_len, ints, get_or-map, length-map, get_or-range_with_len, length-range_with_len, Sign, ZeroSign, PlusSign, MinusSign, Kind, Free, Mat, entry, dot, scale, HasSign, width, InRowSpace, HasKind, IsSolution, kind_at, eq_or, zip_from, zip_at, plus, zeros, entry-plus, length-zeros, entry-zeros, take-zeros, dot-zeros, entry-scale, length-scale, row_scaled, row_plus, Bits, Mark, Zero, Plus, Minus, Any, AreRowSigns, IsMarked, mark_at, word_count, AreMadeBy, AreMet, AreOpposite, AreRowMarks, AreSuited, HasMark, kind_there, united, kinds_of, laid, negative, sign_mark, sign_there}
use Rattle.std.specs.Prelude.{ℤ}
use lib.IntN.{*ℤ-zero}

-- ---- sums in the row space

-- p times v plus q times w
abbrev sum : ℕ → List ℤ → ℕ → List ℤ → List ℤ
sum p v q w = plus (scale (pos p) v) (scale (pos q) w)

row_sum : (a : Mat) (p q : ℕ) (v w : List ℤ) → InRowSpace a v → InRowSpace a w → InRowSpace a (sum p v q w)
row_sum a p q v w h k = row_plus a (scale (pos p) v) (scale (pos q) w) (row_scaled a (pos p) v h) (row_scaled a (pos q) w k)

entry_sum : (a : Mat) (p q : ℕ) (v w : List ℤ) (k : ℕ) → InRowSpace a v → InRowSpace a w → entry (sum p v q w) k ≡ (pos p *ℤ entry v k) +ℤ (pos q *ℤ entry w k)
entry_sum a p q v w k h g =
    entry-plus (scale (pos p) v) (scale (pos q) w) k (length-scale (pos p) v ∙ h.long ∙ sym (length-scale (pos q) w ∙ g.long))
    ∙ ap₂ (λ (x y : ℤ). x +ℤ y) (entry-scale (pos p) v k) (entry-scale (pos q) w k)

-- ---- numbers

abbrev size : List ℤ → ℕ
size [] = 0
size (x ∷ v) = unsigned_abs x + size v

size_most : (v : List ℤ) (k : ℕ) → unsigned_abs (entry v k) ≤ size v
size_most [] k = omega arith
size_most (x ∷ v) zero = omega arith
size_most (x ∷ v) (suc k) = omega (arith, size_most v k)

scaled_mark : (p : ℕ) (m : Mark) (x : ℤ) → 1 ≤ p → HasMark m x → HasMark m (pos p *ℤ x)
scaled_mark zero m x lt h = absurd (omega (arith, lt))
scaled_mark (suc p) Zero x lt h = ap (λ (t : ℤ). pos (suc p) *ℤ t) h ∙ *ℤ-zero (pos (suc p))
scaled_mark (suc p) Plus (pos zero) lt h = absurd (omega (arith, ints, h))
scaled_mark (suc p) Plus (pos (suc x)) lt h = omega (arith, ints)
scaled_mark (suc p) Plus (negsuc x) lt h = absurd (omega (arith, ints, h))
scaled_mark (suc p) Minus (pos zero) lt h = absurd (omega (arith, ints, h))
scaled_mark (suc p) Minus (pos (suc x)) lt h = absurd (omega (arith, ints, h))
scaled_mark (suc p) Minus (negsuc x) lt h = omega (arith, ints)
scaled_mark (suc p) Any x lt h = tt

pub plain_mark : (m : Mark) (x : ℤ) → HasMark m x → HasMark m (pos 1 *ℤ x)
plain_mark m x h = scaled_mark 1 m x (omega arith) h

-- a great multiple outweighs a number
great_plus : (n : ℕ) (x y : ℤ) → unsigned_abs y ≤ n → pos 1 ≤ℤ x → pos 1 ≤ℤ ((pos (suc n) *ℤ x) +ℤ (pos 1 *ℤ y))
great_plus n (pos zero) y le h = absurd (omega (arith, ints, h))
great_plus n (pos (suc x)) (pos y) le h = omega (arith, ints, le)
great_plus n (pos (suc x)) (negsuc y) le h = omega (arith, ints, le)
great_plus n (negsuc x) y le h = absurd (omega (arith, ints, h))

great_minus : (n : ℕ) (x y : ℤ) → unsigned_abs y ≤ n → x ≤ℤ negsuc 0 → ((pos (suc n) *ℤ x) +ℤ (pos 1 *ℤ y)) ≤ℤ negsuc 0
great_minus n (pos x) y le h = absurd (omega (arith, ints, h))
great_minus n (negsuc x) (pos y) le h = omega (arith, ints, le)
great_minus n (negsuc x) (negsuc y) le h = omega (arith, ints, le)

plus_zero : (m : Mark) (x y : ℤ) → x ≡ pos 0 → HasMark m y → HasMark m (x +ℤ y)
plus_zero m x y e h = subst (HasMark m) (omega (arith, ints, e)) h

laid_mark : (n : ℕ) (s m : Mark) (x y : ℤ) → unsigned_abs y ≤ n → HasMark s x → HasMark m y → HasMark (laid s m) ((pos (suc n) *ℤ x) +ℤ (pos 1 *ℤ y))
laid_mark n Zero m x y le h k = plus_zero m (pos (suc n) *ℤ x) (pos 1 *ℤ y) (scaled_mark (suc n) Zero x (omega arith) h) (plain_mark m y k)
laid_mark n Plus m x y le h k = great_plus n x y le h
laid_mark n Minus m x y le h k = great_minus n x y le h
laid_mark n Any m x y le h k = tt

united_sum : (s m : Mark) (x y : ℤ) → HasMark s x → HasMark m y → HasMark (united s m) (x +ℤ y)
united_sum Zero m x y h k = plus_zero m x y h k
united_sum Plus Zero x y h k = omega (arith, ints, h, k)
united_sum Plus Plus x y h k = omega (arith, ints, h, k)
united_sum Plus Minus x y h k = tt
united_sum Plus Any x y h k = tt
united_sum Minus Zero x y h k = omega (arith, ints, h, k)
united_sum Minus Plus x y h k = tt
united_sum Minus Minus x y h k = omega (arith, ints, h, k)
united_sum Minus Any x y h k = tt
united_sum Any m x y h k = tt

united_mark : (p q : ℕ) (s m : Mark) (x y : ℤ) → 1 ≤ p → 1 ≤ q → HasMark s x → HasMark m y → HasMark (united s m) ((pos p *ℤ x) +ℤ (pos q *ℤ y))
united_mark p q s m x y pl ql h k = united_sum s m (pos p *ℤ x) (pos q *ℤ y) (scaled_mark p s x pl h) (scaled_mark q m y ql k)

-- opposite numbers cancel each other
cancels : (x y : ℤ) → pos 1 ≤ℤ x → y ≤ℤ negsuc 0 → (pos (unsigned_abs y) *ℤ x) +ℤ (pos (unsigned_abs x) *ℤ y) ≡ pos 0
cancels (pos zero) y h k = absurd (omega (arith, ints, h))
cancels (pos (suc x)) (pos y) h k = absurd (omega (arith, ints, k))
cancels (pos (suc x)) (negsuc y) h k = omega (arith, ints)
cancels (negsuc x) y h k = absurd (omega (arith, ints, h))

swapped : (x y : ℤ) → x +ℤ y ≡ pos 0 → y +ℤ x ≡ pos 0
swapped x y e = omega (arith, ints, e)

cancel : (s m : Mark) (x y : ℤ) → AreOpposite s m → HasMark s x → HasMark m y → (pos (unsigned_abs y) *ℤ x) +ℤ (pos (unsigned_abs x) *ℤ y) ≡ pos 0
cancel Zero m x y o h k = absurd o
cancel Plus Zero x y o h k = absurd o
cancel Plus Plus x y o h k = absurd o
cancel Plus Minus x y o h k = cancels x y h k
cancel Plus Any x y o h k = absurd o
cancel Minus Zero x y o h k = absurd o
cancel Minus Plus x y o h k = swapped (pos (unsigned_abs x) *ℤ y) (pos (unsigned_abs y) *ℤ x) (cancels y x k h)
cancel Minus Minus x y o h k = absurd o
cancel Minus Any x y o h k = absurd o
cancel Any m x y o h k = absurd o

above : (x : ℤ) → pos 1 ≤ℤ x → 1 ≤ unsigned_abs x
above (pos x) h = omega (arith, ints, h)
above (negsuc x) h = absurd (omega (arith, ints, h))

below : (x : ℤ) → x ≤ℤ negsuc 0 → 1 ≤ unsigned_abs x
below (pos x) h = absurd (omega (arith, ints, h))
below (negsuc x) h = omega (arith, ints)

some_sign : (s m : Mark) (x y : ℤ) → AreOpposite s m → HasMark s x → HasMark m y → (1 ≤ unsigned_abs x) × (1 ≤ unsigned_abs y)
some_sign Zero m x y o h k = absurd o
some_sign Plus Zero x y o h k = absurd o
some_sign Plus Plus x y o h k = absurd o
some_sign Plus Minus x y o h k = (above x h, below y k)
some_sign Plus Any x y o h k = absurd o
some_sign Minus Zero x y o h k = absurd o
some_sign Minus Plus x y o h k = (below x h, above y k)
some_sign Minus Minus x y o h k = absurd o
some_sign Minus Any x y o h k = absurd o
some_sign Any m x y o h k = absurd o

-- ---- vectors

-- a great multiple of a vector added
pub lay_over : (a : Mat) (one old new : List Bits) → AreRowMarks a one → AreRowMarks a old → AreMadeBy laid one old new → AreRowMarks a new
lay_over a one old new s m l =
    let n = size m.y in
    record {
      y = sum (suc n) s.y 1 m.y;
      space = row_sum a (suc n) 1 s.y m.y s.space m.space;
      long = l.count ∙ m.long;
      are = λ k lt.
          subst (λ (t : Mark). HasMark t (entry (sum (suc n) s.y 1 m.y) k)) (sym (l.each k (omega (arith, lt, m.long))))
          (subst (HasMark (laid (mark_at one k) (mark_at old k))) (sym (entry_sum a (suc n) 1 s.y m.y k s.space m.space))
          (laid_mark n (mark_at one k) (mark_at old k) (entry s.y k) (entry m.y k) (size_most m.y k) (s.are k lt) (m.are k lt)));
    }

-- a multiple added so that the sum is 0 at g
pub cleared : (a : Mat) (one old mid new : List Bits) (g : ℕ) → g < width a → AreRowMarks a one → AreRowMarks a old → AreOpposite (mark_at one g) (mark_at old g) → AreMadeBy united one old mid
    → IsMarked mid g Zero new → AreRowMarks a new
cleared a one old mid new g lt s m o j is =
    let p = unsigned_abs (entry m.y g) in
    let q = unsigned_abs (entry s.y g) in
    let some = some_sign (mark_at one g) (mark_at old g) (entry s.y g) (entry m.y g) o (s.are g lt) (m.are g lt) in
    let y = sum p s.y q m.y in
    let at : (k : ℕ) → entry y k ≡ (pos p *ℤ entry s.y k) +ℤ (pos q *ℤ entry m.y k) = λ k. entry_sum a p q s.y m.y k s.space m.space in
    record {
      y = y;
      space = row_sum a p q s.y m.y s.space m.space;
      long = is.count ∙ j.count ∙ m.long;
      are = λ k k_lt. elim (eq_or k g) as (λ _. HasMark (mark_at new k) (entry y k)) [
        | inl e ↦ subst (λ (t : Mark). HasMark t (entry y k)) (sym (ap (mark_at new) e ∙ is.here))
            (ap (entry y) e ∙ at g ∙ cancel (mark_at one g) (mark_at old g) (entry s.y g) (entry m.y g) o (s.are g lt) (m.are g lt))
        | inr ne ↦ subst (λ (t : Mark). HasMark t (entry y k)) (sym (is.others k ne ∙ j.each k (omega (arith, k_lt, m.long))))
            (subst (HasMark (united (mark_at one k) (mark_at old k))) (sym (at k))
            (united_mark p q (mark_at one k) (mark_at old k) (entry s.y k) (entry m.y k) some.1 some.0 (s.are k k_lt) (m.are k k_lt)))
      ];
    }

pub negated_mark : (m : Mark) (x : ℤ) → HasMark m x → HasMark (negative m) (negsuc 0 *ℤ x)
negated_mark Zero x h = ap (λ (t : ℤ). negsuc 0 *ℤ t) h
negated_mark Plus x h = omega (arith, ints, h)
negated_mark Minus x h = omega (arith, ints, h)
negated_mark Any x h = tt

-- the negative
pub negatives : (a : Mat) (one into new : List Bits) → AreRowMarks a one → length into ≡ word_count a → AreMadeBy (λ m o. negative m) one into new → AreRowMarks a new
negatives a one into new s long n =
    let y = scale (negsuc 0) s.y in
    record {
      y = y;
      space = row_scaled a (negsuc 0) s.y s.space;
      long = n.count ∙ long;
      are = λ k lt.
          subst (λ (t : Mark). HasMark t (entry y k)) (sym (n.each k (omega (arith, lt, long))))
          (subst (HasMark (negative (mark_at one k))) (sym (entry-scale (negsuc 0) s.y k)) (negated_mark (mark_at one k) (entry s.y k) (s.are k lt)));
    }

pub signed_mark : (s : Sign) (x : ℤ) → HasSign s x → HasMark (sign_mark s) x
signed_mark ZeroSign x h = h
signed_mark PlusSign x h = h
signed_mark MinusSign x h = h

-- the marks of signs
pub from_signs : (a : Mat) (signs : List Sign) (marks : List Bits) → AreRowSigns a signs → length marks ≡ word_count a → ((k : ℕ) → k < length signs → mark_at marks k ≡ sign_mark (sign_there signs k)) → AreRowMarks a marks
from_signs a signs marks s long each = record {
  y = s.y;
  space = s.space;
  long = long;
  are = λ k lt.
      subst (λ (t : Mark). HasMark t (entry s.y k)) (sym (each k (omega (arith, lt, s.long))))
      (signed_mark (sign_there signs k) (entry s.y k) (zip_at HasSign ZeroSign (pos 0) signs s.y s.are k (omega (arith, lt, s.long))));
}

-- the vector 0
pub none_marked : (a : Mat) (into marks : List Bits) → length into ≡ word_count a → AreMadeBy (λ m o. Zero) into into marks → AreRowMarks a marks
none_marked a into marks long n =
    let t = take-zeros a.cols (width a) in
    record {
      y = zeros (width a);
      space = record {
        long = length-zeros (width a);
        is = λ i lt. entry-zeros (width a) (a.cols + i) ∙ sym (ap (dot (get_or a.rows i [])) t.1 ∙ dot-zeros t.0 (get_or a.rows i []));
      };
      long = n.count ∙ long;
      are = λ k lt. subst (λ (m : Mark). HasMark m (entry (zeros (width a)) k)) (sym (n.each k (omega (arith, lt, long)))) (entry-zeros (width a) k);
    }

-- ---- kinds

pub kinds_by : (a : Mat) (weak : List ℕ) (asked : List Bits) → map (kind_there weak asked) (range_with_len 0 (width a)) ≡ kinds_of a weak asked
unfolding kinds_of
kinds_by a weak asked = refl

pub kinds_long : (a : Mat) (weak : List ℕ) (asked : List Bits) → length (kinds_of a weak asked) ≡ width a
unfolding kinds_of
kinds_long a weak asked = length-map (range_with_len 0 (width a)) (kind_there weak asked) ∙ length-range_with_len 0 (width a)

-- the kind that is asked of a coordinate
pub kind_asked : (a : Mat) (weak : List ℕ) (asked : List Bits) (k : ℕ) → k < width a → kind_at (kinds_of a weak asked) k ≡ kind_there weak asked k
unfolding kinds_of
kind_asked a weak asked k lt =
    let f = kind_there weak asked in
    get_or-map f (range_with_len 0 (width a)) k 0 Free (omega (arith, lt, length-range_with_len 0 (width a)))
    ∙ ap f (get_or-range_with_len 0 (width a) k 0 lt ∙ (omega arith))

-- marks that are what is asked suit the kinds that are asked
pub met_suited : (a : Mat) (weak : List ℕ) (asked marks : List Bits) → length asked ≡ word_count a → AreMet weak asked marks → AreSuited (kinds_of a weak asked) marks
met_suited a weak asked marks count met = λ k lt x h.
    let at : k < width a = omega (arith, lt, kinds_long a weak asked) in
    subst (λ (t : Kind). HasKind t x) (sym (kind_asked a weak asked k at)) (met k (omega (arith, at, count)) x h)

-- suitable marks make a solution
pub suited_solution : (a : Mat) (kinds : List Kind) (marks : List Bits) → length kinds ≡ width a → AreRowMarks a marks → AreSuited kinds marks → (x : List ℤ) × IsSolution a kinds x
suited_solution a kinds marks long m suited = (
  take a.cols m.y,
  (
    m.y,
    record {
      space = m.space;
      columns = refl;
      each = zip_from HasKind Free (pos 0) kinds m.y (m.space.long ∙ sym long) (λ k lt. suited k lt (entry m.y k) (m.are k (omega (arith, lt, long))));
    },
  ),
)
