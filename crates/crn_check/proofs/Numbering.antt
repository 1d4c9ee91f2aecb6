-- Labels that are numbered by first appearance, read from left to right.
use Rattle.crn_check.proofs.Prelude.{◌≡◌, ◌↔◌, inl, inr, ℕ, ◌+◌, ◌<◌, ◌≤◌, List, length, get_or, IsTrue, nat_lt, sym, subst, arith, cases_lt, lt-ltb, ltb-true, AreNumbered, IsFirst}

-- the labels of the complexes before i are numbered by first appearance, up to `most`
pub record IsNumberedTo (labels : List ℕ) (i most : ℕ) : Type 0 where
  pub some : (y : ℕ) → y < i → 1 ≤ get_or labels y 0
  pub within : (y : ℕ) → y < i → get_or labels y 0 ≤ most
  pub numbered : (y k : ℕ) → y < i → 1 ≤ k → k < get_or labels y 0 → (x : ℕ) × (x < y) × (get_or labels x 0 ≡ k)
  pub each : (k : ℕ) → 1 ≤ k → k ≤ most → (y : ℕ) × (y < i) × (get_or labels y 0 ≡ k)

at : (i y : ℕ) → y < i + 1 → i ≤ y → i ≡ y
at i y lt le = omega arith

-- a label that has appeared
pub numbered_old : (labels : List ℕ) (i most : ℕ) → IsNumberedTo labels i most → 1 ≤ get_or labels i 0 → get_or labels i 0 ≤ most → IsNumberedTo labels (i + 1) most
numbered_old labels i most h one le = record {
  some = λ y lt. elim (cases_lt y i) [ inl early ↦ h.some y early | inr late ↦ subst (λ (x : ℕ). 1 ≤ get_or labels x 0) (at i y lt late) one ];
  within = λ y lt. elim (cases_lt y i) [ inl early ↦ h.within y early | inr late ↦ subst (λ (x : ℕ). get_or labels x 0 ≤ most) (at i y lt late) le ];
  numbered = λ y k lt some less. elim (cases_lt y i) [
    | inl early ↦ h.numbered y k early some less
    | inr late ↦
        let less : k < get_or labels i 0 = subst (λ (x : ℕ). k < get_or labels x 0) (sym (at i y lt late)) less in
        let f = h.each k some (omega (arith, less, le)) in
        (f.0, omega (arith, f.1, late), f.2)
  ];
  each = λ k some few. let f = h.each k some few in (f.0, omega (arith, f.1), f.2);
}

-- the next label
pub numbered_new : (labels : List ℕ) (i most : ℕ) → IsNumberedTo labels i most → get_or labels i 0 ≡ most + 1 → IsNumberedTo labels (i + 1) (most + 1)
numbered_new labels i most h e = record {
  some = λ y lt. elim (cases_lt y i) [ inl early ↦ h.some y early | inr late ↦ subst (λ (x : ℕ). 1 ≤ get_or labels x 0) (at i y lt late) (omega (arith, e)) ];
  within = λ y lt. elim (cases_lt y i) [ inl early ↦ let w = h.within y early in omega arith | inr late ↦ subst (λ (x : ℕ). get_or labels x 0 ≤ most + 1) (at i y lt late) (omega (arith, e)) ];
  numbered = λ y k lt some less. elim (cases_lt y i) [
    | inl early ↦ h.numbered y k early some less
    | inr late ↦
        let less : k < get_or labels i 0 = subst (λ (x : ℕ). k < get_or labels x 0) (sym (at i y lt late)) less in
        let f = h.each k some (omega (arith, less, e)) in
        (f.0, omega (arith, f.1, late), f.2)
  ];
  each = λ k some few. elim (cases_lt most k) [
    | inl last ↦ (i, omega arith, omega (arith, e))
    | inr old ↦ let f = h.each k some old in (f.0, omega (arith, f.1), f.2)
  ];
}

-- a label that leaves one out
pub numbered_gap : (labels : List ℕ) (i most count : ℕ) → IsNumberedTo labels i most → i < length labels → most + 1 < get_or labels i 0 → AreNumbered labels count → ⊥
numbered_gap labels i most count h lt gap all =
    let f = all.numbered i (most + 1) lt (omega arith) gap in
    let w = h.within f.0 f.1 in
    let e = f.2 in
    omega arith

pub numbered_all : (labels : List ℕ) (most : ℕ) → IsNumberedTo labels (length labels) most → AreNumbered labels most
numbered_all labels most h = record {
  positive = h.some;
  numbered = h.numbered;
  count_is = record { most = h.within; each = h.each };
}

-- the labels have one count
pub one_count : (labels : List ℕ) (most count : ℕ) → IsNumberedTo labels (length labels) most → AreNumbered labels count → most ≡ count
one_count labels most count h all = elim (cases_lt most count) [
  | inl less ↦ absurd (let f = all.count_is.each count (omega arith) (omega arith) in let w = h.within f.0 f.1 in let e = f.2 in omega arith)
  | inr le ↦ elim (cases_lt count most) [
    | inl less ↦ absurd (let f = h.each most (omega arith) (omega arith) in let w = all.count_is.most f.0 f.1 in let e = f.2 in omega arith)
    | inr ge ↦ omega arith
  ]
]

-- a complex is the first of its class if and only if its label exceeds all labels before it
pub first_new : (labels : List ℕ) (i most count : ℕ) → IsNumberedTo labels i most → AreNumbered labels count → i < length labels → (IsTrue (nat_lt most (get_or labels i 0)) ↔ IsFirst labels i)
first_new labels i most count h all lt = (
  λ more b before same. let w = h.within b before in let less = ltb-true _ _ more in omega (arith, w, less, same),
  λ first. elim (cases_lt most (get_or labels i 0)) [
    | inl more ↦ lt-ltb _ _ more
    | inr le ↦ absurd (let f = h.each (get_or labels i 0) (all.positive i lt) le in first f.0 f.1 f.2)
  ],
)

-- a label that exceeds all before it is the next
pub numbered_next : (labels : List ℕ) (i most count : ℕ) → IsNumberedTo labels i most → AreNumbered labels count → i < length labels → most < get_or labels i 0 → IsNumberedTo labels (i + 1) (get_or labels i 0)
numbered_next labels i most count h all lt more = elim (cases_lt (most + 1) (get_or labels i 0)) [
  | inl gap ↦ absurd (numbered_gap labels i most count h lt gap all)
  | inr le ↦
      let next : get_or labels i 0 ≡ most + 1 = omega arith in
      subst (IsNumberedTo labels (i + 1)) (sym next) (numbered_new labels i most h next)
]
