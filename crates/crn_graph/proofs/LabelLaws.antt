-- Right labels, of classes of any kind, and their number are one.
use Rattle.crn_graph.proofs.Prelude.{◌≡◌, ℕ, zero, suc, ◌<◌, ◌≤◌, List, length, get_or, sym, ◌∙◌, inl, inr, arith, cases_lt, same_number_lists, AreLabelsOf, SameClass, AreRightLabels, IsLabelCount, SameStrong, AreRightStrongLabels}

-- if labels agree before y, the second label of y is not less
no_less : (Same : ℕ → ℕ → Type 0) (a b : List ℕ) (y : ℕ) → AreLabelsOf Same a → AreLabelsOf Same b → length a ≡ length b → y < length a
    → ((x : ℕ) → x < y → get_or a x 0 ≡ get_or b x 0) → get_or b y 0 < get_or a y 0 → ⊥
no_less Same a b y p q len lt before less =
    let at = p.numbered y (get_or b y 0) lt (q.positive y (omega arith)) less in
    let x = at.0 in
    let same : get_or b x 0 ≡ get_or b y 0 = sym (before x at.1) ∙ at.2 in
    let class = q.same x y (omega (arith, at.1)) (omega arith) same in
    let together : get_or a x 0 ≡ get_or a y 0 = p.together x y (omega (arith, at.1)) lt class in
    absurd (omega (arith, together, at.2, less))

-- labels agree below a bound
agree_below : (Same : ℕ → ℕ → Type 0) (a b : List ℕ) (n : ℕ) → AreLabelsOf Same a → AreLabelsOf Same b → length a ≡ length b → n ≤ length a → (y : ℕ) → y < n → get_or a y 0 ≡ get_or b y 0
agree_below Same a b zero p q len le y lt = absurd (omega arith)
agree_below Same a b (suc n) p q len le y lt =
    let before = agree_below Same a b n p q len (omega arith) in
    elim (cases_lt y n) [
      | inl less ↦ before y less
      | inr ge ↦
          let is : y ≡ n = omega arith in
          let known : (x : ℕ) → x < y → get_or a x 0 ≡ get_or b x 0 = λ x l. before x (omega arith) in
          let back : (x : ℕ) → x < y → get_or b x 0 ≡ get_or a x 0 = λ x l. sym (known x l) in
          elim (cases_lt (get_or b y 0) (get_or a y 0)) [
            | inl less ↦ absurd (no_less Same a b y p q len (omega arith) known less)
            | inr ge' ↦ elim (cases_lt (get_or a y 0) (get_or b y 0)) [
              | inl more ↦ absurd (no_less Same b a y q p (sym len) (omega arith) back more)
              | inr le' ↦ omega arith
            ]
          ]
    ]

pub labels_are_one : (Same : ℕ → ℕ → Type 0) (a b : List ℕ) → AreLabelsOf Same a → AreLabelsOf Same b → length a ≡ length b → a ≡ b
labels_are_one Same a b p q len = same_number_lists a b len (λ k lt. agree_below Same a b (length a) p q len (omega arith) k lt)

-- right labels of linkage classes are one list
pub one_labels : (rs : List (ℕ × ℕ)) (a b : List ℕ) → AreRightLabels rs a → AreRightLabels rs b → length a ≡ length b → a ≡ b
one_labels rs a b p q len = labels_are_one (SameClass rs) a b p q len

-- right labels of strong classes are one list
pub one_strong_labels : (rs : List (ℕ × ℕ)) (a b : List ℕ) → AreRightStrongLabels rs a → AreRightStrongLabels rs b → length a ≡ length b → a ≡ b
one_strong_labels rs a b p q len = labels_are_one (SameStrong rs) a b p q len

-- no count exceeds another
no_more : (labels : List ℕ) (m n : ℕ) → IsLabelCount labels m → IsLabelCount labels n → m < n → ⊥
no_more labels m n p q lt =
    let at = q.each n (omega arith) (omega arith) in
    let most = p.most at.0 at.1 in
    absurd (omega (arith, most, at.2))

pub one_count : (labels : List ℕ) (m n : ℕ) → IsLabelCount labels m → IsLabelCount labels n → m ≡ n
one_count labels m n p q = elim (cases_lt m n) [
  | inl less ↦ absurd (no_more labels m n p q less)
  | inr ge ↦ elim (cases_lt n m) [ inl more ↦ absurd (no_more labels n m q p more) | inr le ↦ omega arith ]
]
