-- Numbers and lists that verdicts say of a network are one.
use Rattle.crn_render.proofs.Prelude.{◌≡◌, ◌≤◌, ◌<◌, ◌+◌, ◌-◌, ℕ, List, [], length, get_or, sym, ◌∙◌, ap, refl, inl, inr, arith, slice_index, cases_lt, same_number_lists, Net, SameClass, IsNumberOf, SameStrong, IsTerminal, IsComplex, IsLabelled, AreDeficiencies, IsClassDeficiency, class_vectors, HasTerminalClasses, HasOneTerminalEach, IsFirstSplitClass, IsFirstLargeClass, AreAtMostOne, all_at, number_is_one, deficiency_is_one, rank_is_one_number, class_then, class_back, strong_then, strong_back, AreLinkageClasses, AreStrongClasses, one_labels, one_strong_labels, one_count}

-- ---- classes

-- the labels of the linkage classes are one list
pub labels_one : (net : Net) (a b : List ℕ) → IsLabelled net a → IsLabelled net b → a ≡ b
labels_one net a b p q = one_labels net.reactions a b p.right q.right (p.long ∙ sym q.long)

-- the number of linkage classes is one
pub linkage_one : (net : Net) (m n : ℕ) (a b : List ℕ) → AreLinkageClasses net m a → AreLinkageClasses net n b → m ≡ n
linkage_one net m n a b p q = one_count a m n p.count_is (rw (← labels_one net a b p.labelled q.labelled) at q.count_is)

-- the number of strong classes is one
pub strong_one : (net : Net) (m n s t : ℕ) (a b x y : List ℕ) → AreStrongClasses net m s a x → AreStrongClasses net n t b y → m ≡ n
strong_one net m n s t a b x y p q =
    let same : a ≡ b = one_strong_labels net.reactions a b p.right q.right (p.places ∙ sym q.places) in
    one_count a m n p.count_is (rw (← same) at q.count_is)

-- the number of terminal strong classes is one
pub terminal_one : (net : Net) (m n s t : ℕ) (a b x y : List ℕ) → AreStrongClasses net m s a x → AreStrongClasses net n t b y → s ≡ t
terminal_one net m n s t a b x y p q =
    number_is_one (λ y. IsComplex net y × IsTerminal net.reactions y) (SameStrong net.reactions) (strong_back net.reactions) (strong_then net.reactions) s t p.terminal_is q.terminal_is

-- ---- terminal classes of a linkage class

-- a number of classes is that of the complexes with an equivalent property
number_along : (Has Other : ℕ → Type 0) (Same : ℕ → ℕ → Type 0) (n : ℕ) → ((x : ℕ) → Has x → Other x) → ((x : ℕ) → Other x → Has x) → IsNumberOf Has Same n → IsNumberOf Other Same n
number_along Has Other Same n there back (ys, p, e) = (ys, record { members = λ y i. there y (p.members y i); apart = p.apart; each = λ z h. p.each z (back z h) }, e)

-- complexes of one linkage class have one number of terminal classes
pub terminals_one : (net : Net) (y z m n : ℕ) → SameClass net.reactions y z → HasTerminalClasses net y m → HasTerminalClasses net z n → m ≡ n
terminals_one net y z m n same p q =
    let rs = net.reactions in
    let moved = number_along (λ x. IsComplex net x × SameClass rs z x × IsTerminal rs x) (λ x. IsComplex net x × SameClass rs y x × IsTerminal rs x) (SameStrong rs) n (λ x h. (h.0, class_then rs y z x same h.1, h.2)) (λ x h. (h.0, class_then rs z y x (class_back rs y z same) h.1, h.2)) q in
    number_is_one (λ x. IsComplex net x × SameClass rs y x × IsTerminal rs x) (SameStrong rs) (strong_back rs) (strong_then rs) m n p moved

-- a complex is in its own class
pub class_here : (net : Net) (y : ℕ) → SameClass net.reactions y y
class_here net y = ([], refl)

-- no linkage class has several terminal classes if each has one
pub one_is_not_several : (net : Net) (k count : ℕ) → HasOneTerminalEach net → IsFirstSplitClass net k count → ⊥
one_is_not_several net k count one split =
    let same : 1 ≡ count = terminals_one net split.y split.y 1 count (class_here net split.y) (one split.y (omega (arith, split.place, split.labelled.long))) split.classes in
    absurd (omega (arith, split.several))

-- no class before the first that has several terminal classes has several
not_before : (net : Net) (k l m n : ℕ) → IsFirstSplitClass net k m → IsFirstSplitClass net l n → k < l → ⊥
not_before net k l m n p q less =
    let labels : p.labels ≡ q.labels = labels_one net p.labels q.labels p.labelled q.labelled in
    let place : p.y < length q.labels = omega (arith, p.place, p.labelled.long, q.labelled.long) in
    let at : slice_index q.labels p.y ≡ k = ap (λ (ls : List ℕ). slice_index ls p.y) (sym labels) ∙ p.member in
    let same : 1 ≡ m = terminals_one net p.y p.y 1 m (class_here net p.y) (q.before p.y place (omega (arith, at))) p.classes in
    absurd (omega (arith, p.several))

-- the first class with several terminal classes is one
pub split_one : (net : Net) (k l m n : ℕ) → IsFirstSplitClass net k m → IsFirstSplitClass net l n → k ≡ l
split_one net k l m n p q = elim (cases_lt k l) [
  | inl less ↦ absurd (not_before net k l m n p q less)
  | inr ge ↦ elim (cases_lt l k) [ inl more ↦ absurd (not_before net l k n m q p more) | inr le ↦ omega arith ]
]

-- and so is the number of its terminal classes
pub split_count_one : (net : Net) (k l m n : ℕ) → IsFirstSplitClass net k m → IsFirstSplitClass net l n → m ≡ n
split_count_one net k l m n p q =
    let labels : p.labels ≡ q.labels = labels_one net p.labels q.labels p.labelled q.labelled in
    let lp : p.y < length q.labels = omega (arith, p.place, p.labelled.long, q.labelled.long) in
    let at : slice_index q.labels p.y ≡ slice_index q.labels q.y = ap (λ (ls : List ℕ). slice_index ls p.y) (sym labels) ∙ p.member ∙ split_one net k l m n p q ∙ sym q.member in
    terminals_one net p.y q.y m n (q.labelled.right.same p.y q.y lp q.place at) p.classes q.classes

-- ---- deficiencies

-- the deficiency of a linkage class is one number
class_deficiency_one : (net : Net) (labels : List ℕ) (k d e : ℕ) → IsClassDeficiency net labels k d → IsClassDeficiency net labels k e → d ≡ e
class_deficiency_one net labels k d e p q =
    let rank : p.rank ≡ q.rank = rank_is_one_number (class_vectors net labels k) p.rank q.rank p.rank_is q.rank_is in
    omega (arith, rank, p.is, q.is)

-- the deficiency of the network is one number
pub total_one : (net : Net) (t u : ℕ) (cs ds : List ℕ) → AreDeficiencies net t cs → AreDeficiencies net u ds → t ≡ u
total_one net t u cs ds p q = deficiency_is_one net t u p.total_is q.total_is

-- those of the linkage classes are one list
pub classes_one : (net : Net) (t u : ℕ) (cs ds : List ℕ) → AreDeficiencies net t cs → AreDeficiencies net u ds → cs ≡ ds
classes_one net t u cs ds p q =
    let labels : p.labels ≡ q.labels = labels_one net p.labels q.labels p.labelled q.labelled in
    let count : length cs ≡ length ds = one_count p.labels (length cs) (length ds) p.count (rw (← labels) at q.count) in
    same_number_lists cs ds count (λ k lt. (let other : IsClassDeficiency net p.labels (k + 1) (slice_index ds k) = rw (← labels) at (q.each k (omega (arith, count, lt))) in class_deficiency_one net p.labels (k + 1) (get_or cs k 0) (get_or ds k 0) (p.each k lt) other))

-- no class deficiency is large if each is at most 1
pub small_is_not_large : (net : Net) (k d t : ℕ) (cs : List ℕ) → AreDeficiencies net t cs → AreAtMostOne cs → IsFirstLargeClass net k d → ⊥
small_is_not_large net k d t cs p small q =
    let same : cs ≡ q.classes = classes_one net t q.total cs q.classes p q.deficiencies in
    let place : k - 1 < length cs = omega (arith, ap length same, q.place.0, q.place.1) in
    let le : get_or cs (k - 1) 0 ≤ 1 = all_at (λ x. x ≤ 1) cs (k - 1) 0 small place in
    let is : get_or cs (k - 1) 0 ≡ d = ap (λ (ds : List ℕ). get_or ds (k - 1) 0) same ∙ q.is in
    absurd (omega (arith, le, is, q.large))

-- no class before the first of large deficiency has a large one
not_large_before : (net : Net) (k l d e : ℕ) → IsFirstLargeClass net k d → IsFirstLargeClass net l e → k < l → ⊥
not_large_before net k l d e p q less =
    let same : p.classes ≡ q.classes = classes_one net p.total q.total p.classes q.classes p.deficiencies q.deficiencies in
    let is : get_or q.classes (k - 1) 0 ≡ d = ap (λ (ds : List ℕ). get_or ds (k - 1) 0) (sym same) ∙ p.is in
    let le : get_or q.classes (k - 1) 0 ≤ 1 = q.before (k - 1) (omega (arith, p.place.0)) in
    absurd (omega (arith, le, is, p.large))

-- the first class of large deficiency is one
pub large_one : (net : Net) (k l d e : ℕ) → IsFirstLargeClass net k d → IsFirstLargeClass net l e → k ≡ l
large_one net k l d e p q = elim (cases_lt k l) [
  | inl less ↦ absurd (not_large_before net k l d e p q less)
  | inr ge ↦ elim (cases_lt l k) [ inl more ↦ absurd (not_large_before net l k e d q p more) | inr le ↦ omega arith ]
]

-- and so is its deficiency
pub large_number_one : (net : Net) (k l d e : ℕ) → IsFirstLargeClass net k d → IsFirstLargeClass net l e → d ≡ e
large_number_one net k l d e p q =
    let same : p.classes ≡ q.classes = classes_one net p.total q.total p.classes q.classes p.deficiencies q.deficiencies in
    sym p.is ∙ ap (λ (ds : List ℕ). get_or ds (k - 1) 0) same ∙ ap (λ (j : ℕ). get_or q.classes (j - 1) 0) (large_one net k l d e p q) ∙ q.is
