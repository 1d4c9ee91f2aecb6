-- The terminal strong classes are numbered by labels and exits.
use Rattle.crn_cert.proofs.Prelude.{◌≡◌, ℕ, zero, suc, ◌+◌, ◌-◌, ◌<◌, ◌≤◌, Bool, false, cond, List, length, get_or, map, sym, ap, subst, ◌∙◌, inl, inr, arith, ◌==◌, Option, Some, None, cases_Bool, eq-eqb, eqb-true, get_or-map, length-map, Net, IsLabelCount, top_at, AreTops, lt_or, eq_or, top_inside, some_is, none_some, AreStrongClasses}

-- ---- numbers of terminal classes

-- how many of the first so many exits are 0
unfoldable pub zeros_below : List ℕ → ℕ → ℕ
zeros_below es zero = 0
zeros_below es (suc k) = zeros_below es k + cond (get_or es k 0 == 0) 1 0

zero_counts : (es : List ℕ) (k : ℕ) → get_or es k 0 ≡ 0 → zeros_below es (suc k) ≡ zeros_below es k + 1
unfolding zeros_below
zero_counts es k e = ap (λ (b : Bool). zeros_below es k + cond b 1 0) (eq-eqb (get_or es k 0) 0 e)

other_counts : (es : List ℕ) (k : ℕ) → (get_or es k 0 == 0) ≡ false → zeros_below es (suc k) ≡ zeros_below es k
unfolding zeros_below
other_counts es k e = ap (λ (b : Bool). zeros_below es k + cond b 1 0) e ∙ omega arith

counts_up : (es : List ℕ) (k : ℕ) → zeros_below es k ≤ zeros_below es (suc k)
unfolding zeros_below
counts_up es k = omega arith

below_up : (es : List ℕ) (p q : ℕ) → p ≤ q → zeros_below es p ≤ zeros_below es q
below_up es p zero le = let e : p ≡ 0 = omega (arith, le) in let same : zeros_below es p ≡ zeros_below es 0 = ap (zeros_below es) e in omega (arith, same)
below_up es p (suc q) le = elim (eq_or p (suc q)) as (λ _. zeros_below es p ≤ zeros_below es (suc q)) [
  | inl e ↦ let same : zeros_below es p ≡ zeros_below es (suc q) = ap (zeros_below es) e in omega (arith, same)
  | inr ne ↦ elim (lt_or p (suc q)) as (λ _. zeros_below es p ≤ zeros_below es (suc q)) [
    | inl lt ↦ let h = below_up es p q (omega (arith, lt)) in let u = counts_up es q in omega (arith, h, u)
    | inr more ↦ absurd (ne (omega (arith, le, more)))
  ]
]

below_less : (es : List ℕ) (p q : ℕ) → p < q → get_or es p 0 ≡ 0 → zeros_below es p < zeros_below es q
below_less es p q lt e = let h = below_up es (suc p) q (omega (arith, lt)) in let z = zero_counts es p e in omega (arith, h, z)

none_below : (es : List ℕ) (j : ℕ) → j < zeros_below es zero → ⊥
unfolding zeros_below
none_below es j lt = omega (arith, lt)

-- a number of zeros is that of one of them
zero_found : (es : List ℕ) (p j : ℕ) → j < zeros_below es p → (q : ℕ) × (q < p) × (get_or es q 0 ≡ 0) × (zeros_below es q ≡ j)
zero_found es zero j lt = absurd (none_below es j lt)
zero_found es (suc p) j lt = elim (cases_Bool (get_or es p 0 == 0)) as (λ _. (q : ℕ) × (q < suc p) × (get_or es q 0 ≡ 0) × (zeros_below es q ≡ j)) [
  | inr miss ↦ let r = zero_found es p j (let z = other_counts es p miss in omega (arith, lt, z)) in (r.0, omega (arith, r.1), r.2, r.3)
  | inl hit ↦
      let e : get_or es p 0 ≡ 0 = eqb-true (get_or es p 0) 0 hit in
      elim (lt_or j (zeros_below es p)) as (λ _. (q : ℕ) × (q < suc p) × (get_or es q 0 ≡ 0) × (zeros_below es q ≡ j)) [
        | inl less ↦ let r = zero_found es p j less in (r.0, omega (arith, r.1), r.2, r.3)
        | inr most ↦ (p, omega arith, e, let z = zero_counts es p e in omega (arith, lt, most, z))
      ]
]

-- the number of the terminal class with this label, if it is terminal
unfoldable pub top_for : List ℕ → ℕ → Option ℕ
top_for es l = cond (get_or es (l - 1) 0 == 0) (Some (zeros_below es (l - 1))) None

top_yes : (es : List ℕ) (l : ℕ) → get_or es (l - 1) 0 ≡ 0 → top_for es l ≡ Some (zeros_below es (l - 1))
unfolding top_for
top_yes es l e = ap (λ (b : Bool). cond b (Some (zeros_below es (l - 1))) None) (eq-eqb (get_or es (l - 1) 0) 0 e)

top_no : (es : List ℕ) (l : ℕ) → (get_or es (l - 1) 0 == 0) ≡ false → top_for es l ≡ None
unfolding top_for
top_no es l e = ap (λ (b : Bool). cond b (Some (zeros_below es (l - 1))) None) e

top_is : (es : List ℕ) (l k : ℕ) → top_for es l ≡ Some k → (get_or es (l - 1) 0 ≡ 0) × (zeros_below es (l - 1) ≡ k)
top_is es l k e = elim (cases_Bool (get_or es (l - 1) 0 == 0)) as (λ _. (get_or es (l - 1) 0 ≡ 0) × (zeros_below es (l - 1) ≡ k)) [
  | inl hit ↦ let z : get_or es (l - 1) 0 ≡ 0 = eqb-true (get_or es (l - 1) 0) 0 hit in (z, some_is (zeros_below es (l - 1)) k (sym (top_yes es l z) ∙ e))
  | inr miss ↦ absurd (none_some (top_for es l) k (top_no es l miss) e)
]

-- ---- terminal classes

abbrev pub tops_of : List ℕ → List ℕ → List (Option ℕ)
tops_of labels es = map (top_for es) labels

at_label : (labels es : List ℕ) (y : ℕ) → y < length labels → top_at (tops_of labels es) y ≡ top_for es (get_or labels y 0)
at_label labels es y lt = get_or-map (top_for es) labels y 0 None lt

-- a numbered complex has a label whose exit is 0
record Top (labels es : List ℕ) (y k : ℕ) : Type 0 where
  inside : y < length labels
  exit : get_or es (get_or labels y 0 - 1) 0 ≡ 0
  index : zeros_below es (get_or labels y 0 - 1) ≡ k

top_known : (labels es : List ℕ) (y k : ℕ) → top_at (tops_of labels es) y ≡ Some k → Top labels es y k
top_known labels es y k e =
    let lt : y < length labels = let h = top_inside (tops_of labels es) y k e in omega (arith, h, length-map labels (top_for es)) in
    let t = top_is es (get_or labels y 0) k (sym (at_label labels es y lt) ∙ e) in
    record { inside = lt; exit = t.0; index = t.1 }

-- the complex of a label whose exit is 0 has its number
numbered_at : (labels es : List ℕ) (x q j : ℕ) → x < length labels → get_or labels x 0 ≡ q + 1 → get_or es q 0 ≡ 0 → zeros_below es q ≡ j → top_at (tops_of labels es) x ≡ Some j
numbered_at labels es x q j lt label exit index =
    let place : get_or labels x 0 - 1 ≡ q = omega (arith, label) in
    at_label labels es x lt
    ∙ top_yes es (get_or labels x 0) (ap (λ (p : ℕ). get_or es p 0) place ∙ exit)
    ∙ ap (λ (p : ℕ). Some (zeros_below es p)) place
    ∙ ap Some index

same_place : (es : List ℕ) (p q : ℕ) → get_or es p 0 ≡ 0 → get_or es q 0 ≡ 0 → zeros_below es p ≡ zeros_below es q → p ≡ q
same_place es p q ep eq e = elim (lt_or p q) as (λ _. p ≡ q) [
  | inl less ↦ absurd (let h = below_less es p q less ep in omega (arith, h, e))
  | inr most ↦ elim (lt_or q p) as (λ _. p ≡ q) [
    | inl less ↦ absurd (let h = below_less es q p less eq in omega (arith, h, e))
    | inr least ↦ omega (arith, most, least)
  ]
]

-- these are the numbers of the terminal classes
pub tops_are : (net : Net) (count terminal : ℕ) (labels es : List ℕ) → AreStrongClasses net count terminal labels es → AreTops net (tops_of labels es) (zeros_below es (length es))
tops_are net count terminal labels es s =
    let counted : IsLabelCount labels (length es) = subst (IsLabelCount labels) (sym s.classes) s.count_is in
    let place : (y : ℕ) → y < length labels → get_or labels y 0 - 1 < length es = λ y lt. let a = counted.most y lt in let b = s.right.positive y lt in omega (arith, a, b) in
    record {
      long = length-map labels (top_for es) ∙ s.places;
      inside = λ y k e. let t = top_known labels es y k e in (s.exits_are.terminal y t.inside).0 t.exit;
      outside = λ y ly e terminal.
          let lt : y < length labels = omega (arith, ly, s.places) in
          none_some (top_at (tops_of labels es) y) (zeros_below es (get_or labels y 0 - 1)) e (at_label labels es y lt ∙ top_yes es (get_or labels y 0) ((s.exits_are.terminal y lt).1 terminal));
      same = λ y z k e f.
          let t = top_known labels es y k e in
          let u = top_known labels es z k f in
          let p = same_place es (get_or labels y 0 - 1) (get_or labels z 0 - 1) t.exit u.exit (t.index ∙ sym u.index) in
          let a = s.right.positive y t.inside in
          let b = s.right.positive z u.inside in
          s.right.same y z t.inside u.inside (omega (arith, p, a, b));
      together = λ y z k l e f strong'.
          let t = top_known labels es y k e in
          let u = top_known labels es z l f in
          sym t.index ∙ ap (λ (m : ℕ). zeros_below es (m - 1)) (s.right.together y z t.inside u.inside strong') ∙ u.index;
      numbered = λ y k j e less.
          let t = top_known labels es y k e in
          let q = zero_found es (get_or labels y 0 - 1) j (omega (arith, less, t.index)) in
          let x = s.right.numbered y (q.0 + 1) t.inside (omega arith) (omega (arith, q.1)) in
          (x.0, x.1, numbered_at labels es x.0 q.0 j (omega (arith, x.1, t.inside)) x.2 q.2 q.3);
      below = λ y k e.
          let t = top_known labels es y k e in
          let h = below_less es (get_or labels y 0 - 1) (length es) (place y t.inside) t.exit in
          omega (arith, h, t.index);
      each = λ k lt.
          let q = zero_found es (length es) k lt in
          let y = counted.each (q.0 + 1) (omega arith) (omega (arith, q.1)) in
          (y.0, numbered_at labels es y.0 q.0 k y.1 y.2 q.2 q.3);
    }
