-- Least reactions of pairs, one reaction after another.
use Rattle.crn_shape.proofs.Prelude.{◌≡◌, ℕ, zero, suc, inl, inr, subst, cases_Bool, eqb-true, ◌==◌, ◌+◌, ◌-◌, ◌<◌, ◌&&◌, ◌||◌, not, Bool, true, false, List, [], ◌∷◌, ◌++◌, get_or, refl, ap, ap₂, ◌∙◌, arith, filter, list_any, range_with_len, Net, range_more, filter_yes, filter_no, before_one, any_has, in_range, ends_at, is_same_pair, is_least_of_pair, is_within, is_pair, pairs_to, and_parts, or_cases, HasSum}

-- ---- ranges and filters with one more member at the end

any_append : (p : ℕ → Bool) (xs : List ℕ) (x : ℕ) → list_any p (xs ++ x ∷ []) ≡ (list_any p xs || p x)
any_append p [] x = last (p x)
  where
    last : (b : Bool) → (b || false) ≡ b
    last true = refl
    last false = refl
any_append p (y ∷ ys) x = ap (λ (b : Bool). p y || b) (any_append p ys x) ∙ again (p y) (list_any p ys) (p x)
  where
    again : (a b c : Bool) → (a || (b || c)) ≡ ((a || b) || c)
    again true b c = refl
    again false b c = refl

-- ---- the reactions before one

-- reaction j joins the two complexes of reaction r + 1
abbrev pub joins_same : Net → ℕ → ℕ → Bool
joins_same net r j = is_same_pair (ends_at net j) (ends_at net (r + 1))

ends_back : (net : Net) (r : ℕ) → ends_at net (r + 1) ≡ get_or net.reactions r (0, 0)
ends_back net r = ap (λ (j : ℕ). get_or net.reactions j (0, 0)) (before_one r)

same_at : (net : Net) (r q : ℕ) → joins_same net r (q + 1) ≡ is_same_pair (get_or net.reactions q (0, 0)) (get_or net.reactions r (0, 0))
same_at net r q = ap (λ (e : ℕ × ℕ). is_same_pair e (ends_at net (r + 1))) (ends_back net q) ∙ ap (λ (e : ℕ × ℕ). is_same_pair (get_or net.reactions q (0, 0)) e) (ends_back net r)

-- the two complexes of a reaction, named one by one
pub ends_are : (net : Net) (r y z : ℕ) → y ≡ (get_or net.reactions r (0, 0)).0 → z ≡ (get_or net.reactions r (0, 0)).1 → (y, z) ≡ get_or net.reactions r (0, 0)
ends_are net r y z e f = ap₂ (λ (a b : ℕ). (a, b)) e f

pub least_more : (net : Net) (r q : ℕ) → list_any (joins_same net r) (range_with_len 1 q) ≡ false → is_same_pair (get_or net.reactions q (0, 0)) (get_or net.reactions r (0, 0)) ≡ false → list_any (joins_same net r) (range_with_len 1 (q + 1)) ≡ false
least_more net r q h miss =
    ap (list_any (joins_same net r)) (range_more 1 q (q + 1) (omega arith)) ∙ any_append (joins_same net r) (range_with_len 1 q) (q + 1)
    ∙ ap (λ (b : Bool). b || joins_same net r (q + 1)) h ∙ same_at net r q ∙ miss

pub least_hit : (net : Net) (r q : ℕ) → q < r → is_same_pair (get_or net.reactions q (0, 0)) (get_or net.reactions r (0, 0)) ≡ true → is_least_of_pair net (r + 1) ≡ false
least_hit net r q lt h = ap not (any_has (joins_same net r) (range_with_len 1 (r + 1 - 1)) (q + 1) (in_range (q + 1) 1 (r + 1 - 1) (omega arith) (omega (arith, lt))) (same_at net r q ∙ h))

pub least_none : (net : Net) (r : ℕ) → list_any (joins_same net r) (range_with_len 1 r) ≡ false → is_least_of_pair net (r + 1) ≡ true
least_none net r h = ap (λ (n : ℕ). not (list_any (joins_same net r) (range_with_len 1 n))) (before_one r) ∙ ap not h

-- reactions that join the same two complexes have one sum
sum_of_same : (e f : ℕ × ℕ) → is_same_pair e f ≡ true → e.0 + e.1 ≡ f.0 + f.1
sum_of_same e f h = elim (or_cases ((e.0 == f.0) && (e.1 == f.1)) ((e.0 == f.1) && (e.1 == f.0)) h) [
  | inl p ↦
      let q = and_parts (e.0 == f.0) (e.1 == f.1) p in
      let a : e.0 ≡ f.0 = eqb-true e.0 f.0 q.0 in
      let b : e.1 ≡ f.1 = eqb-true e.1 f.1 q.1 in
      omega (arith, a, b)
  | inr p ↦
      let q = and_parts (e.0 == f.1) (e.1 == f.0) p in
      let a : e.0 ≡ f.1 = eqb-true e.0 f.1 q.0 in
      let b : e.1 ≡ f.0 = eqb-true e.1 f.0 q.1 in
      omega (arith, a, b)
]

not_same : (e f : ℕ × ℕ) → (e.0 + e.1 ≡ f.0 + f.1 → ⊥) → is_same_pair e f ≡ false
not_same e f ne = elim (cases_Bool (is_same_pair e f)) [
  | inl same ↦ absurd (ne (sum_of_same e f same))
  | inr other ↦ other
]

none_by_sums : (net : Net) (r sum n : ℕ) → HasSum net sum r → ((q : ℕ) → q < n → HasSum net sum q → ⊥) → list_any (joins_same net r) (range_with_len 1 n) ≡ false
none_by_sums net r sum zero is none = refl
none_by_sums net r sum (suc n) is none =
    let before = none_by_sums net r sum n is (λ q lt. none q (omega (arith, lt))) in
    let miss = not_same (get_or net.reactions n (0, 0)) (get_or net.reactions r (0, 0)) (λ e. none n (omega arith) (e ∙ is)) in
    let e : n + 1 ≡ suc n = omega arith in
    subst (λ (k : ℕ). list_any (joins_same net r) (range_with_len 1 k) ≡ false) e (least_more net r n before miss)

-- no reaction before one has its sum
pub least_by_sums : (net : Net) (r sum : ℕ) → HasSum net sum r → ((q : ℕ) → q < r → HasSum net sum q → ⊥) → is_least_of_pair net (r + 1) ≡ true
least_by_sums net r sum is none = least_none net r (none_by_sums net r sum r is none)

pub pair_at : (net : Net) (labels exits : List ℕ) (r : ℕ) → is_pair net labels exits (r + 1) ≡ (is_within labels exits (get_or net.reactions r (0, 0)) && is_least_of_pair net (r + 1))
pair_at net labels exits r = ap (λ (e : ℕ × ℕ). is_within labels exits e && is_least_of_pair net (r + 1)) (ends_back net r)

-- ---- the pairs among the first reactions

pub pairs_yes : (net : Net) (labels exits : List ℕ) (r : ℕ) → is_pair net labels exits (r + 1) ≡ true → pairs_to net labels exits (r + 1) ≡ pairs_to net labels exits r ++ (r + 1) ∷ []
pairs_yes net labels exits r h = ap (filter (is_pair net labels exits)) (range_more 1 r (r + 1) (omega arith)) ∙ filter_yes (is_pair net labels exits) (range_with_len 1 r) (r + 1) h

pub pairs_no : (net : Net) (labels exits : List ℕ) (r : ℕ) → is_pair net labels exits (r + 1) ≡ false → pairs_to net labels exits (r + 1) ≡ pairs_to net labels exits r
pairs_no net labels exits r h = ap (filter (is_pair net labels exits)) (range_more 1 r (r + 1) (omega arith)) ∙ filter_no (is_pair net labels exits) (range_with_len 1 r) (r + 1) h
