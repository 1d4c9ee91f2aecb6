-- The solutions of the confluence system are the confluence space, and their sums over terminal classes.
use Rattle.crn_reg.proofs.Prelude.{◌≡◌, ◌≢◌, ℕ, zero, suc, ◌+◌, ◌-◌, ◌<◌, ◌≤◌, ◌⊎◌, inl, inr, List, [], length, get_or, map, Bool, false, refl, sym, ap, subst, ◌∙◌, arith, ℤ, pos, negsuc, neg_ℤ, ◌*ℤ◌, ◌≤ℤ◌, ◌<ℤ◌, IsTrue, cases_Bool, range_with_len, ints, length-append, length-map, length-range_with_len, Net, IsNetwork, IsIn, SameClass, IsLabelCount, AreLabelsOf, entry, dot, column, AreProportional, SameStrong, IsTerminal, IsWeaklyReversible, SumsTo, label_marks, by_species, confluence_system, IsRegular, InConfluenceSpace, IsNonzero, HasConfluenceLine, IsConfluenceVector, AreConfluencesOne, negative, lt_or, past_end, in_left, in_right, in_cases, in_map, map_in, vector_long, entry-column, length-column, dot-comm, dot_zero, dot_ratio, dot-scale, no_zero, mul-neg, pos_pos, label_sum, label_sum_is, confluence_vectors_are_one, neg-mul, up_up, in_range, AreLinkageClasses, AreStrongClasses, IsInSpace, DoTerminalsGather, range_bounds, IsSolution, class_sum, AreZeroBefore, GathersFirst}
use lib.IntN.{*ℤ_comm, *ℤ-zero, zero-*ℤ}

-- ---- the rows of the system

pub row_count : (net : Net) (links : List ℕ) (count : ℕ) → length (confluence_system net links count).rows ≡ length net.names + count
row_count net links count =
    let first = by_species net net.complexes in
    let second = map (label_marks links) (range_with_len 1 count) in
    omega (
      arith,
      length-append first second,
      length-map (range_with_len 0 (length net.names)) (column net.complexes),
      length-range_with_len 0 (length net.names),
      length-map (range_with_len 1 count) (label_marks links),
      length-range_with_len 1 count,
    )

species_row : (net : Net) (links : List ℕ) (count s : ℕ) → s < length net.names → IsIn (column net.complexes s) (confluence_system net links count).rows
species_row net links count s lt =
    in_left (column net.complexes s) (by_species net net.complexes) (map (label_marks links) (range_with_len 1 count))
    (map_in (column net.complexes) (range_with_len 0 (length net.names)) s (in_range s 0 (length net.names) (omega arith) (omega (arith, lt))))

class_row : (net : Net) (links : List ℕ) (count k : ℕ) → 1 ≤ k → k ≤ count → IsIn (label_marks links k) (confluence_system net links count).rows
class_row net links count k some most =
    in_right (label_marks links k) (by_species net net.complexes) (map (label_marks links) (range_with_len 1 count))
    (map_in (label_marks links) (range_with_len 1 count) k (in_range k 1 count some (omega (arith, most))))

-- past the species every complex is zero
none_past : (net : Net) → IsNetwork net → (s i : ℕ) → length net.names ≤ s → entry (column net.complexes s) i ≡ pos 0
none_past net n s i le = elim (lt_or i (length net.complexes)) as (λ _. entry (column net.complexes s) i ≡ pos 0) [
  | inl lt ↦ entry-column net.complexes s i ∙ past_end (get_or net.complexes i []) s (omega (arith, le, vector_long (length net.names) net.complexes n.partial.vectors i lt))
  | inr past ↦ past_end (column net.complexes s) i (omega (arith, past, length-column net.complexes s))
]

-- ---- the space

pub tests_by_solution : (net : Net) (links : List ℕ) (count : ℕ) (g : List ℤ) → IsNetwork net → IsSolution (confluence_system net links count) g → IsInSpace net links count g
tests_by_solution net links count g n s =
    record {
      balance = λ k. elim (lt_or k (length net.names)) as (λ _. dot g (column net.complexes k) ≡ pos 0) [
        | inl lt ↦ dot-comm g (column net.complexes k) ∙ s.zero (column net.complexes k) (species_row net links count k lt)
        | inr past ↦ dot_zero g (column net.complexes k) (λ i. ap (λ (t : ℤ). entry g i *ℤ t) (none_past net n k i past) ∙ *ℤ-zero (entry g i))
      ];
      classes = λ k some most. s.zero (label_marks links k) (class_row net links count k some most);
    }

-- what passes the tests is in the space
space_by_tests : (net : Net) (links : List ℕ) (count : ℕ) (g : List ℤ) → AreLinkageClasses net count links → length g ≡ length net.complexes → IsInSpace net links count g → InConfluenceSpace net g
space_by_tests net links count g known l t =
    record {
      long = l;
      balance = t.balance;
      classes = λ y at.
          let ly : y < length links = omega (arith, at, known.labelled.long) in
          let some = known.labelled.right.positive y ly in
          let most = known.count_is.most y ly in
          subst (λ (x : ℤ). SumsTo g (SameClass net.reactions y) x) (t.classes (get_or links y 0) some most)
          (label_sum (SameClass net.reactions) links g y known.labelled.right (known.labelled.long ∙ sym l) ly);
    }

pub space_by_solution : (net : Net) (links : List ℕ) (count : ℕ) (g : List ℤ) → IsNetwork net → AreLinkageClasses net count links → IsSolution (confluence_system net links count) g → InConfluenceSpace net g
space_by_solution net links count g n known s = space_by_tests net links count g known s.long (tests_by_solution net links count g n s)

pub solution_by_space : (net : Net) (links : List ℕ) (count : ℕ) (g : List ℤ) → AreLinkageClasses net count links → InConfluenceSpace net g → IsSolution (confluence_system net links count) g
solution_by_space net links count g known s =
    record {
      long = s.long;
      zero = λ r i. elim (in_cases r (by_species net net.complexes) (map (label_marks links) (range_with_len 1 count)) i) as (λ _. dot r g ≡ pos 0) [
        | inl a ↦
            let m = in_map (column net.complexes) (range_with_len 0 (length net.names)) r a in
            ap (λ (q : List ℤ). dot q g) m.2 ∙ dot-comm (column net.complexes m.0) g ∙ s.balance m.0
        | inr b ↦
            let m = in_map (label_marks links) (range_with_len 1 count) r b in
            let range = range_bounds m.0 1 count m.1 in
            let y = known.count_is.each m.0 range.0 (omega (arith, range.1)) in
            let at : y.0 < length net.complexes = omega (arith, y.1, known.labelled.long) in
            ap (λ (q : List ℤ). dot q g) (m.2 ∙ ap (label_marks links) (sym y.2))
            ∙ label_sum_is (SameClass net.reactions) links g y.0 (pos 0) known.labelled.right (known.labelled.long ∙ sym s.long) y.1 (s.classes y.0 at)
      ];
    }

-- ---- how many classes

-- a label is at most one more than its place, as all smaller ones come before
label_low : (Same : ℕ → ℕ → Type 0) (labels : List ℕ) (n y : ℕ) → AreLabelsOf Same labels → y < n → y < length labels → get_or labels y 0 ≤ y + 1
label_low Same labels zero y right fuel ly = absurd (omega (arith, fuel))
label_low Same labels (suc n) y right fuel ly = elim (lt_or 1 (get_or labels y 0)) as (λ _. get_or labels y 0 ≤ y + 1) [
  | inr le ↦ omega (arith, le)
  | inl more ↦
      let b = right.numbered y (get_or labels y 0 - 1) ly (omega (arith, more)) (omega (arith, more)) in
      let r = label_low Same labels n b.0 right (omega (arith, fuel, b.1)) (omega (arith, b.1, ly)) in
      omega (arith, r, b.1, b.2, more)
]

pub count_few : (Same : ℕ → ℕ → Type 0) (labels : List ℕ) (count : ℕ) → AreLabelsOf Same labels → IsLabelCount labels count → count ≤ length labels
count_few Same labels zero right counted = omega arith
count_few Same labels (suc count) right counted =
    let y = counted.each (suc count) (omega arith) (omega arith) in
    let low = label_low Same labels (suc y.0) y.0 right (omega arith) y.1 in
    omega (arith, low, y.1, y.2)

-- ---- sums over terminal classes

-- a complex of a terminal class
abbrev TerminalPlace : Net → List ℕ → ℕ → Type 0
TerminalPlace net labels m = (y : ℕ) × (y < length labels) × (get_or labels y 0 ≡ suc m) × IsTerminal net.reactions y

terminal_place : (net : Net) (count terminal : ℕ) (labels exits : List ℕ) → AreStrongClasses net count terminal labels exits → (m : ℕ) → m < length exits → get_or exits m 0 ≡ 0 → TerminalPlace net labels m
terminal_place net count terminal labels exits s m lt e =
    let y = s.count_is.each (suc m) (omega arith) (omega (arith, lt, s.classes)) in
    let place : get_or labels y.0 0 - 1 ≡ m = omega (arith, y.2) in
    (y.0, y.1, y.2, (s.exits_are.terminal y.0 y.1).0 (ap (λ (k : ℕ). get_or exits k 0) place ∙ e))

-- a confluence vector gathers in each terminal class
vector_gathers : (net : Net) (count terminal : ℕ) (labels exits : List ℕ) (h : List ℤ) → AreStrongClasses net count terminal labels exits → IsConfluenceVector net h → DoTerminalsGather labels exits h
vector_gathers net count terminal labels exits h s v m lt e =
    let t = terminal_place net count terminal labels exits s m lt e in
    let at : t.0 < length net.complexes = omega (arith, t.1, s.places) in
    let g = v.gathers t.0 at t.3 in
    let is : dot (label_marks labels (get_or labels t.0 0)) h ≡ g.0 = label_sum_is (SameStrong net.reactions) labels h t.0 g.0 s.right (s.places ∙ sym v.space.long) t.1 g.1 in
    let here : dot (label_marks labels (suc m)) h ≡ g.0 = ap (λ (k : ℕ). dot (label_marks labels k) h) (sym t.2) ∙ is in
    omega (arith, ints, here, g.2)

-- what gathers in each terminal class is a confluence vector
pub vector_by : (net : Net) (count terminal : ℕ) (labels exits : List ℕ) (g : List ℤ) → AreStrongClasses net count terminal labels exits → InConfluenceSpace net g → IsNonzero g → DoTerminalsGather labels exits g → IsConfluenceVector net g
vector_by net count terminal labels exits g s space some gather =
    record {
      space = space;
      some = some;
      gathers = λ y at term.
          let ly : y < length labels = omega (arith, at, s.places) in
          let m = get_or labels y 0 in
          let positive = s.right.positive y ly in
          let most = s.count_is.most y ly in
          let none = (s.exits_are.terminal y ly).1 term in
          let back : suc (m - 1) ≡ m = omega (arith, positive) in (
            dot (label_marks labels m) g,
            label_sum (SameStrong net.reactions) labels g y s.right (s.places ∙ sym space.long) ly,
            subst (λ (k : ℕ). pos 0 ≤ℤ dot (label_marks labels k) g) back (gather (m - 1) (omega (arith, positive, most, s.classes)) none),
          );
    }

-- ---- signs

is_up : (x : ℤ) → pos 0 ≤ℤ x → (x ≡ pos 0) ⊎ (pos 0 <ℤ x)
is_up (pos zero) h = inl refl
is_up (pos (suc n)) h = inr (omega (arith, ints))
is_up (negsuc n) h = absurd (omega (arith, ints, h))

-- the sign of a number that is in one ratio to one that is not negative
up_by_ratio : (s t a b : ℤ) → pos 0 <ℤ a → pos 0 ≤ℤ b → pos 0 ≤ℤ t → s *ℤ a ≡ t *ℤ b → pos 0 ≤ℤ s
up_by_ratio (pos s) t a b ap' bp tp e = omega (arith, ints)
up_by_ratio (negsuc s) t a b ap' bp tp e =
    let x : ℤ = pos (suc s) in
    let down : pos 0 <ℤ (a *ℤ x) = pos_pos a x ap' (omega (arith, ints)) in
    let neg : a *ℤ negsuc s ≡ neg_ℤ (a *ℤ x) = mul-neg a x in
    let up : pos 0 ≤ℤ (t *ℤ b) = up_up t b tp bp in
    absurd (omega (arith, ints, down, neg, up, e, *ℤ_comm (negsuc s) a))

sides : (x : ℤ) → x ≢ pos 0 → (pos 0 <ℤ x) ⊎ (pos 0 <ℤ neg_ℤ x)
sides (pos zero) ne = absurd (ne refl)
sides (pos (suc n)) ne = inl (omega (arith, ints))
sides (negsuc n) ne = inr (omega (arith, ints))

-- numbers in one ratio to numbers that are not negative have one sign, or are 0
abbrev AreUp : ℤ → ℤ → Type 0
AreUp a b = (s t : ℤ) → pos 0 ≤ℤ t → s *ℤ a ≡ t *ℤ b → pos 0 ≤ℤ s

abbrev AreDown : ℤ → ℤ → Type 0
AreDown a b = (s t : ℤ) → pos 0 ≤ℤ t → s *ℤ a ≡ t *ℤ b → s ≤ℤ pos 0

one_side : (a b : ℤ) → a ≢ pos 0 → b ≢ pos 0 → AreUp a b ⊎ AreDown a b
one_side a b na nb = elim (sides a na) as (λ _. AreUp a b ⊎ AreDown a b) [
  | inl ap' ↦ elim (sides b nb) as (λ _. AreUp a b ⊎ AreDown a b) [
    | inl bp ↦ inl (λ s t tp e. up_by_ratio s t a b ap' (omega (arith, ints, bp)) tp e)
    | inr bn ↦ inr (λ s t tp e. (let r = up_by_ratio (neg_ℤ s) t a (neg_ℤ b) ap' (omega (arith, ints, bn)) tp (neg-mul s a ∙ ap neg_ℤ e ∙ sym (mul-neg t b)) in omega (arith, ints, r)))
  ]
  | inr an ↦ elim (sides b nb) as (λ _. AreUp a b ⊎ AreDown a b) [
    | inl bp ↦ inr (λ s t tp e. (let r = up_by_ratio (neg_ℤ s) t (neg_ℤ a) b an (omega (arith, ints, bp)) tp (neg-mul s (neg_ℤ a) ∙ ap neg_ℤ (mul-neg s a) ∙ (let d : neg_ℤ (neg_ℤ (s *ℤ a)) ≡ s *ℤ a = omega (arith, ints) in d) ∙ e) in omega (arith, ints, r)))
    | inr bn ↦ inl (λ s t tp e. up_by_ratio s t (neg_ℤ a) (neg_ℤ b) an (omega (arith, ints, bn)) tp (mul-neg s a ∙ ap neg_ℤ e ∙ sym (mul-neg t b)))
  ]
]

-- ---- the sums of a vector of the line

-- the sum over each terminal class of a vector that is proportional to a confluence vector
abbrev SumRatio : List ℕ → List ℤ → List ℤ → ℕ → Type 0
SumRatio labels g h k = (m : ℕ) → class_sum labels g m *ℤ entry h k ≡ class_sum labels h m *ℤ entry g k

sum_ratio : (labels : List ℕ) (g h : List ℤ) (k : ℕ) → length g ≡ length h → AreProportional g h → SumRatio labels g h k
sum_ratio labels g h k l p m = dot_ratio (label_marks labels m) g h (entry g k) (entry h k) l (λ i. p i k ∙ *ℤ_comm (entry g k) (entry h i))

-- where one is not zero, the other is not
both_some : (g h : List ℤ) (j k : ℕ) → AreProportional g h → entry g j ≢ pos 0 → entry h k ≢ pos 0 → entry g k ≢ pos 0
both_some g h j k p ng nh z =
    nh (no_zero (entry g j) (entry h k) (p j k ∙ ap (λ (x : ℤ). x *ℤ entry h j) z ∙ zero-*ℤ (entry h j)) ng)

-- if no sum is positive and the first that is not zero is, all are zero
all_zero : (labels exits : List ℕ) (g : List ℤ) → GathersFirst labels exits g → ((m : ℕ) → m < length exits → get_or exits m 0 ≡ 0 → class_sum labels g (suc m) ≤ℤ pos 0) → (n : ℕ) → n ≤ length exits → AreZeroBefore labels exits g n
all_zero labels exits g first down zero le j lt e = absurd (omega (arith, lt))
all_zero labels exits g first down (suc n) le j lt e =
    let before : AreZeroBefore labels exits g n = all_zero labels exits g first down n (omega (arith, le)) in
    elim (lt_or j n) as (λ _. class_sum labels g (suc j) ≡ pos 0) [
      | inl less ↦ before j less e
      | inr ge ↦
          let same : j ≡ n = omega (arith, lt, ge) in
          let here : get_or exits n 0 ≡ 0 = ap (λ (k : ℕ). get_or exits k 0) (sym same) ∙ e in
          let up = first n (omega (arith, le)) here before in
          let low = down n (omega (arith, le)) here in
          ap (λ (k : ℕ). class_sum labels g (suc k)) same ∙ (let z : class_sum labels g (suc n) ≡ pos 0 = omega (arith, ints, up, low) in z)
    ]

-- a vector proportional to a confluence vector gathers if its first sum that is not zero is positive
gathers_first : (labels exits : List ℕ) (g h : List ℤ) (j : ℕ) → length g ≡ length h → AreProportional g h → entry g j ≢ pos 0 → IsNonzero h → DoTerminalsGather labels exits h → GathersFirst labels exits g → DoTerminalsGather labels exits g
gathers_first labels exits g h j l p ng some gather first =
    let k = some.0 in
    let ratio = sum_ratio labels g h k l p in
    elim (one_side (entry h k) (entry g k) some.1 (both_some g h j k p ng some.1)) as (λ _. DoTerminalsGather labels exits g) [
      | inl up ↦ λ m lt e. up (class_sum labels g (suc m)) (class_sum labels h (suc m)) (gather m lt e) (ratio (suc m))
      | inr down ↦ λ m lt e.
          let all = all_zero labels exits g first (λ i il ie. down (class_sum labels g (suc i)) (class_sum labels h (suc i)) (gather i il ie) (ratio (suc i))) (length exits) (omega arith) in
          let z = all m lt e in
          omega (arith, ints, z)
    ]

-- if the negative of the confluence vector gathers too, all sums are zero
gathers_zero : (labels exits : List ℕ) (g h : List ℤ) → length g ≡ length h → AreProportional g h → IsNonzero h → DoTerminalsGather labels exits h → DoTerminalsGather labels exits (negative h) → DoTerminalsGather labels exits g
gathers_zero labels exits g h l p some gather back m lt e =
    let k = some.0 in
    let S = class_sum labels h (suc m) in
    let up = gather m lt e in
    let marks = label_marks labels (suc m) in
    let opposite : dot marks (negative h) ≡ neg_ℤ (pos 1) *ℤ S = dot-comm marks (negative h) ∙ dot-scale (neg_ℤ (pos 1)) h marks ∙ ap (λ (x : ℤ). neg_ℤ (pos 1) *ℤ x) (dot-comm h marks) in
    let minus : neg_ℤ (pos 1) *ℤ S ≡ neg_ℤ S = *ℤ_comm (neg_ℤ (pos 1)) S ∙ mul-neg S (pos 1) ∙ ap neg_ℤ (let i : S *ℤ pos 1 ≡ S = omega (arith, ints) in i) in
    let down = back m lt e in
    let none : S ≡ pos 0 = omega (arith, ints, up, down, opposite, minus) in
    let zero_product : entry h k *ℤ class_sum labels g (suc m) ≡ pos 0 = *ℤ_comm (entry h k) (class_sum labels g (suc m)) ∙ sum_ratio labels g h k l p (suc m) ∙ ap (λ (x : ℤ). x *ℤ entry g k) none ∙ zero-*ℤ (entry g k) in
    let z = no_zero (entry h k) (class_sum labels g (suc m)) zero_product some.1 in
    omega (arith, ints, z)

-- a solution whose multiples are all the solutions gathers: in a network that is not weakly reversible, by its first sum that is not zero
pub gathers : (net : Net) (count terminal : ℕ) (labels exits : List ℕ) (g : List ℤ) (weak : Bool) → IsNetwork net → IsRegular net → HasConfluenceLine net → AreStrongClasses net count terminal labels exits → InConfluenceSpace net g → IsNonzero g
    → (IsTrue weak → IsWeaklyReversible net.reactions) → (weak ≡ false → GathersFirst labels exits g) → DoTerminalsGather labels exits g
gathers net count terminal labels exits g weak n regular line s space some is first =
    let one : AreConfluencesOne net = confluence_vectors_are_one net n regular line in
    let h = one.some.0 in
    let v = one.some.1 in
    let l : length g ≡ length h = space.long ∙ sym v.space.long in
    let p = line.one g h space v.space in
    let gather = vector_gathers net count terminal labels exits h s v in
    elim (cases_Bool weak) as (λ _. DoTerminalsGather labels exits g) [
      | inl yes' ↦ gathers_zero labels exits g h l p v.some gather (vector_gathers net count terminal labels exits (negative h) s ((one.negative_too h v).1 (is yes')))
      | inr no' ↦ gathers_first labels exits g h some.0 l p some.1 v.some gather (first no')
    ]
