-- The product of multipliers and the rows of the confluence system, at a complex: that with its amounts, and the
-- multiplier of its linkage class.
use Rattle.crn_check.proofs.Prelude.{◌≡◌, ◌≢◌, inl, inr, ◌==◌, Bool, false, not, ℕ, zero, suc, ◌+◌, ◌-◌, ◌*◌, ◌<◌, ◌≤◌, List, [], ◌∷◌, ◌++◌, length, get_or, map, take, drop, refl, sym, ap, ap₂, ◌∙◌, arith, ℤ, pos, ◌+ℤ◌, ◌*ℤ◌, if◌then◌else◌, filter, Some, None, range_with_len, ints, cases_eq, eq-eqb, ne_eqb, ext_get_or, length-map, length-range_with_len, get_or-map-range_with_len, take-append_seam, drop-append_seam, Net, dot, column, entry, label_marks, by_species, dot_split, dot_none, entry-column, length-column, label_mark, tie_at, is_tied, tied}

column-append : (xs ys : List (List ℤ)) (c : ℕ) → column (xs ++ ys) c ≡ column xs c ++ column ys c
column-append [] ys c = refl
column-append (x ∷ xs) ys c = ap (λ (l : List ℤ). entry x c ∷ l) (column-append xs ys c)

-- the amounts of a complex
amounts_at : (net : Net) (c : ℕ) → length (get_or net.complexes c []) ≡ length net.names → column (by_species net net.complexes) c ≡ get_or net.complexes c []
amounts_at net c long =
    let v = get_or net.complexes c [] in
    let rows = by_species net net.complexes in
    let many : length rows ≡ length net.names = length-map (range_with_len 0 (length net.names)) (column net.complexes) ∙ length-range_with_len 0 (length net.names) in
    ext_get_or (pos 0) (column rows c) v (length-column rows c ∙ many ∙ sym long) (λ s lt.
    let inside : s < length net.names = omega (arith, lt, length-column rows c, many) in
    entry-column rows c s
    ∙ ap (λ (row : List ℤ). entry row c) (get_or-map-range_with_len (column net.complexes) 0 (length net.names) s s [] inside (omega arith))
    ∙ entry-column net.complexes s c)

-- the marks of the classes at a complex whose class is below all of them
marks_none : (labels : List ℕ) (c a n : ℕ) (xs : List ℤ) → c < length labels → get_or labels c 0 < a → dot xs (column (map (label_marks labels) (range_with_len a n)) c) ≡ pos 0
marks_none labels c a zero xs lt less = dot_none xs
marks_none labels c a (suc n) [] lt less = refl
marks_none labels c a (suc n) (x ∷ xs) lt less =
    let differ : (get_or labels c 0 == a) ≡ false = ne_eqb (get_or labels c 0) a (let h : get_or labels c 0 ≢ a = λ e. omega (arith, e, less) in h) in
    let mark : entry (label_marks labels a) c ≡ pos 0 = label_mark labels a c lt ∙ ap (λ (b : Bool). if b then pos 1 else pos 0) differ in
    let product : x *ℤ entry (label_marks labels a) c ≡ x *ℤ pos 0 = ap (λ (m : ℤ). x *ℤ m) mark in
    omega (arith, ints, product, marks_none labels c (a + 1) n xs lt (omega (arith, less)))

marks_at : (labels : List ℕ) (c a n : ℕ) (xs : List ℤ) → c < length labels → length xs ≡ n → a ≤ get_or labels c 0 → get_or labels c 0 < a + n → dot xs (column (map (label_marks labels) (range_with_len a n)) c) ≡ entry xs (get_or labels c 0 - a)
marks_at labels c a zero xs lt long least less = absurd (omega (arith, least, less))
marks_at labels c a (suc n) [] lt long least less = absurd (omega (arith, long))
marks_at labels c a (suc n) (x ∷ xs) lt long least less = elim (cases_eq (get_or labels c 0) a) [
  | inl is ↦
      let mark : entry (label_marks labels a) c ≡ pos 1 = label_mark labels a c lt ∙ ap (λ (b : Bool). if b then pos 1 else pos 0) (eq-eqb (get_or labels c 0) a is) in
      let product : x *ℤ entry (label_marks labels a) c ≡ x *ℤ pos 1 = ap (λ (m : ℤ). x *ℤ m) mark in
      let none = marks_none labels c (a + 1) n xs lt (omega (arith, is)) in
      let here : entry (x ∷ xs) (get_or labels c 0 - a) ≡ x = ap (entry (x ∷ xs)) (let e : get_or labels c 0 - a ≡ 0 = omega (arith, is) in e) in
      omega (arith, ints, product, none, here)
  | inr other ↦
      let mark : entry (label_marks labels a) c ≡ pos 0 = label_mark labels a c lt ∙ ap (λ (b : Bool). if b then pos 1 else pos 0) (ne_eqb (get_or labels c 0) a other) in
      let product : x *ℤ entry (label_marks labels a) c ≡ x *ℤ pos 0 = ap (λ (m : ℤ). x *ℤ m) mark in
      let rest = marks_at labels c (a + 1) n xs lt (omega (arith, long)) (omega (arith, least, other)) (omega (arith, less)) in
      let here : entry (x ∷ xs) (get_or labels c 0 - a) ≡ entry xs (get_or labels c 0 - (a + 1)) = ap (entry (x ∷ xs)) (let e : get_or labels c 0 - a ≡ suc (get_or labels c 0 - (a + 1)) = omega (arith, least, other) in e) in
      omega (arith, ints, product, rest, here)
]

-- ---- the product

pub tie_parts : (net : Net) (labels : List ℕ) (count : ℕ) (tie : List ℤ) (c : ℕ) → length (get_or net.complexes c []) ≡ length net.names → c < length labels → length tie ≡ length net.names + count → 1 ≤ get_or labels c 0 → get_or labels c 0 ≤ count
    → tie_at net labels count tie c ≡ dot (take (length net.names) tie) (get_or net.complexes c []) +ℤ entry (drop (length net.names) tie) (get_or labels c 0 - 1)
tie_parts net labels count tie c wide lt long one most =
    let n = length net.names in
    let v = get_or net.complexes c [] in
    let marks = column (map (label_marks labels) (range_with_len 1 count)) c in
    let all : column (by_species net net.complexes ++ map (label_marks labels) (range_with_len 1 count)) c ≡ v ++ marks =
    column-append (by_species net net.complexes) (map (label_marks labels) (range_with_len 1 count)) c ∙ ap (λ (l : List ℤ). l ++ marks) (amounts_at net c wide) in
    let first : take n (v ++ marks) ≡ v = ap (λ (k : ℕ). take k (v ++ marks)) (sym wide) ∙ take-append_seam v marks in
    let last : drop n (v ++ marks) ≡ marks = ap (λ (k : ℕ). drop k (v ++ marks)) (sym wide) ∙ drop-append_seam v marks in
    let rest : dot (drop n tie) marks ≡ entry (drop n tie) (get_or labels c 0 - 1) = marks_at labels c 1 count (drop n tie) lt (omega (arith, long, drop_long n tie)) one (omega (arith, most)) in
    ap (dot tie) all ∙ dot_split n tie (v ++ marks) ∙ ap₂ (λ (x y : ℤ). x +ℤ y) (ap (dot (take n tie)) first) (ap (dot (drop n tie)) last ∙ rest)
  where
    drop_long : (n : ℕ) (xs : List ℤ) → length (drop n xs) ≡ length xs - n
    drop_long zero xs = omega arith
    drop_long (suc n) [] = omega arith
    drop_long (suc n) (x ∷ xs) = let e = drop_long n xs in omega (arith, e)

-- ---- the complexes that are not spared

pub all_tied : (net : Net) → tied net None ≡ range_with_len 0 (length net.complexes)
all_tied net = go (range_with_len 0 (length net.complexes))
  where
    go : (cs : List ℕ) → filter (is_tied None) cs ≡ cs
    go [] = refl
    go (c ∷ cs) = ap (λ (l : List ℕ). c ∷ l) (go cs)

abbrev but : ℕ → ℕ → ℕ → List ℕ
but p a n = filter (λ d. not (d == p)) (range_with_len a n)

but_yes : (p a n : ℕ) → a ≢ p → but p a (suc n) ≡ a ∷ but p (a + 1) n
but_yes p a n ne = rw (ne_eqb a p ne) refl

but_no : (p a n : ℕ) → a ≡ p → but p a (suc n) ≡ but p (a + 1) n
but_no p a n is = rw (eq-eqb a p is) refl

but_all : (p a n : ℕ) → p < a → length (but p a n) ≡ n
but_all p a zero less = refl
but_all p a (suc n) less =
    let e = ap (λ (l : List ℕ). length l) (but_yes p a n (λ is. omega (arith, is, less))) in
    omega (arith, e, but_all p (a + 1) n (omega (arith, less)))

but_long : (p a n : ℕ) → a ≤ p → p < a + n → length (but p a n) + 1 ≡ n
but_long p a zero least less = absurd (omega (arith, least, less))
but_long p a (suc n) least less = elim (cases_eq a p) [
  | inl is ↦
      let e = ap (λ (l : List ℕ). length l) (but_no p a n is) in
      omega (arith, e, but_all p (a + 1) n (omega (arith, is)))
  | inr other ↦
      let e = ap (λ (l : List ℕ). length l) (but_yes p a n other) in
      omega (arith, e, but_long p (a + 1) n (omega (arith, least, other)) (omega (arith, less)))
]

pub tied_long : (net : Net) (p : ℕ) → p < length net.complexes → length (tied net (Some p)) + 1 ≡ length net.complexes
tied_long net p lt = but_long p 0 (length net.complexes) (omega arith) (omega (arith, lt))
