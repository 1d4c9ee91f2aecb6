-- The terminal strong classes of each linkage class.
use Rattle.crn_defi.proofs.Prelude.{◌≡◌, ℕ, zero, suc, ◌-◌, ◌<◌, ◌≤◌, ◌==◌, ◌⊎◌, inl, inr, Bool, true, List, [], ◌∷◌, length, get_or, refl, sym, ap, subst, ◌∙◌, arith, filter, count_by, list_any, range_with_len, eqb-true, eq-eqb, length-filter, IsIn, Net, IsNetwork, SameClass, ReactsTo, Reaches, SameStrong, IsTerminal, LeavesClass, IsComplex, IsLabelled, HasTerminalClasses, HasOneTerminalEach, leads_keeps, reaction_in, inside_at, in_range, filter_has, filter_from, and_cases, and_true, range_bounds, any_has, any_some, AreLinkageClasses, AreStrongClasses, of_class, DoLevelsFall, is_in_both, is_terminal_in, terminals_of, AreClassNumbers, HaveOneUpTo, one_label}

-- ---- tests of lists

-- ---- how many pass a test

first_in : (xs : List ℕ) → 1 ≤ length xs → (x : ℕ) × IsIn x xs
first_in [] h = absurd (omega (arith, h))
first_in (x ∷ xs) h = (x, inl refl)

some_in : (x : ℕ) (xs : List ℕ) → IsIn x xs → 1 ≤ length xs
some_in x [] i = absurd i
some_in x (y ∷ ys) i = omega arith

only_one : (xs : List ℕ) (a b : ℕ) → length xs ≡ 1 → IsIn a xs → IsIn b xs → a ≡ b
only_one [] a b e i j = absurd i
only_one (x ∷ y ∷ xs) a b e i j = absurd (omega (arith, e))
only_one (x ∷ []) a b e (inl f) (inl g) = f ∙ sym g
only_one (x ∷ []) a b e (inl f) (inr j) = absurd j
only_one (x ∷ []) a b e (inr i) j = absurd i

counted_some : (p : ℕ → Bool) (xs : List ℕ) → 1 ≤ count_by p xs → (x : ℕ) × IsIn x xs × (p x ≡ true)
counted_some p xs h =
    let f = first_in (filter p xs) (omega (arith, h, length-filter p xs)) in
    let r = filter_from p xs f.0 f.1 in
    (f.0, r.0, r.1)

some_counted : (p : ℕ → Bool) (xs : List ℕ) (x : ℕ) → IsIn x xs → p x ≡ true → 1 ≤ count_by p xs
some_counted p xs x i h = omega (arith, some_in x (filter p xs) (filter_has p xs x i h), length-filter p xs)

one_counted : (p : ℕ → Bool) (xs : List ℕ) (a b : ℕ) → count_by p xs ≡ 1 → IsIn a xs → IsIn b xs → p a ≡ true → p b ≡ true → a ≡ b
one_counted p xs a b e i j h g = only_one (filter p xs) a b (length-filter p xs ∙ e) (filter_has p xs a i h) (filter_has p xs b j g)

-- ---- a terminal strong class that has a complex of a linkage class

-- a complex of a terminal strong class makes the class pass the test
pub terminal_passes : (labels exits links : List ℕ) (k c : ℕ) → c < length labels → get_or links c 0 ≡ k → get_or exits (get_or labels c 0 - 1) 0 ≡ 0 → is_terminal_in labels exits links k (get_or labels c 0) ≡ true
terminal_passes labels exits links k c lt e none =
    let m = get_or labels c 0 in
    and_true (get_or exits (m - 1) 0 == 0) (list_any (is_in_both labels links m k) (range_with_len 0 (length labels))) (eq-eqb (get_or exits (m - 1) 0) 0 none)
    (any_has (is_in_both labels links m k) (range_with_len 0 (length labels)) c (in_range c 0 (length labels) (omega arith) (omega (arith, lt)))
    (and_true (get_or labels c 0 == m) (get_or links c 0 == k) (eq-eqb m m refl) (eq-eqb (get_or links c 0) k e)))

-- a class that passes has such a complex
pub record Passing (labels exits links : List ℕ) (k m : ℕ) : Type 0 where
  pub c : ℕ
  pub inside : c < length labels
  pub strong_is : get_or labels c 0 ≡ m
  pub link_is : get_or links c 0 ≡ k
  pub none : get_or exits (get_or labels c 0 - 1) 0 ≡ 0

pub passes_by : (labels exits links : List ℕ) (k m : ℕ) → is_terminal_in labels exits links k m ≡ true → Passing labels exits links k m
passes_by labels exits links k m h =
    let b = and_cases (get_or exits (m - 1) 0 == 0) (list_any (is_in_both labels links m k) (range_with_len 0 (length labels))) h in
    let f = any_some (is_in_both labels links m k) (range_with_len 0 (length labels)) b.1 in
    let g = and_cases (get_or labels f.0 0 == m) (get_or links f.0 0 == k) f.2 in
    let same : get_or labels f.0 0 ≡ m = eqb-true (get_or labels f.0 0) m g.0 in
    let zero_exit : get_or exits (m - 1) 0 ≡ 0 = eqb-true (get_or exits (m - 1) 0) 0 b.0 in
    record {
      c = f.0;
      inside = omega (arith, (range_bounds f.0 0 (length labels) f.1).1);
      strong_is = same;
      link_is = eqb-true (get_or links f.0 0) k g.1;
      none = subst (λ (n : ℕ). get_or exits (n - 1) 0 ≡ 0) (sym same) zero_exit;
    }

-- ---- each linkage class has a terminal strong class

-- what is known of both kinds of classes
pub record Known (net : Net) (count : ℕ) (links : List ℕ) (strong_count terminal : ℕ) (labels exits : List ℕ) : Type 0 where
  pub network : IsNetwork net
  pub linkage_is : AreLinkageClasses net count links
  pub strong_is : AreStrongClasses net strong_count terminal labels exits

-- the labels of the strong classes are numbers of classes
pub class_numbers : (net : Net) (count terminal : ℕ) (labels exits : List ℕ) → AreStrongClasses net count terminal labels exits → AreClassNumbers labels (length exits)
class_numbers net count terminal labels exits s = λ y lt. (s.right.positive y lt, omega (arith, s.count_is.most y lt, s.classes))

-- complexes that are reached have the label of their linkage class
reached_label : (net : Net) (links : List ℕ) → IsNetwork net → IsLabelled net links → (y z : ℕ) → Reaches net.reactions y z → get_or links y 0 ≡ get_or links z 0
reached_label net links n l y z h = leads_keeps (ReactsTo net.reactions) (λ v. get_or links y 0 ≡ get_or links v 0) (λ v w i e. e ∙ one_label net links n l v w i) y z h refl

record Sink (links labels exits : List ℕ) (y : ℕ) : Type 0 where
  t : ℕ
  inside : t < length labels
  same : get_or links y 0 ≡ get_or links t 0
  none : get_or exits (get_or labels t 0 - 1) 0 ≡ 0

zero_or : (e : ℕ) → (e ≡ 0) ⊎ ((r : ℕ) × (e ≡ suc r))
zero_or zero = inl refl
zero_or (suc r) = inr (r, refl)

-- a complex of the linkage class of y at a lower level
record Lower (links labels levels : List ℕ) (y : ℕ) : Type 0 where
  z : ℕ
  inside : z < length labels
  same : get_or links y 0 ≡ get_or links z 0
  less : of_class labels levels z < of_class labels levels y

lower : (net : Net) (count : ℕ) (links : List ℕ) (strong_count terminal : ℕ) (labels exits levels : List ℕ) → Known net count links strong_count terminal labels exits → DoLevelsFall net labels levels
    → (y r : ℕ) → y < length labels → get_or exits (get_or labels y 0 - 1) 0 ≡ suc r → Lower links labels levels y
lower net count links strong_count terminal labels exits levels k falls y r lt e =
    let s = k.strong_is in
    let l : LeavesClass net.reactions y r = s.exits_are.leaves y r lt e in
    let goes : IsIn (l.reactant, l.product) net.reactions = reaction_in net.reactions r (l.reactant, l.product) l.goes.0 l.goes.1 in
    let at = inside_at (length net.complexes) net.reactions k.network.partial.apart l.reactant l.product goes in
    let from : l.reactant < length labels = omega (arith, at.0, s.places) in
    let to : l.product < length labels = omega (arith, at.1, s.places) in
    let one : get_or labels y 0 ≡ get_or labels l.reactant 0 = s.right.together y l.reactant lt from l.from in
    let level : of_class labels levels y ≡ of_class labels levels l.reactant = ap (λ (m : ℕ). get_or levels (m - 1) 0) one in
    record {
      z = l.product;
      inside = to;
      same = reached_label net links k.network k.linkage_is.labelled y l.reactant l.from.0 ∙ one_label net links k.network k.linkage_is.labelled l.reactant l.product goes;
      less = elim (falls l.reactant l.product goes) as (λ _. of_class labels levels l.product < of_class labels levels y) [
        | inl f ↦ absurd (l.outside (s.right.same y l.product lt to (one ∙ f)))
        | inr less ↦ omega (arith, less, level)
      ];
    }

-- levels fall along the reactions that leave a strong class, and so one that none leaves is reached
sink : (net : Net) (count : ℕ) (links : List ℕ) (strong_count terminal : ℕ) (labels exits levels : List ℕ) → Known net count links strong_count terminal labels exits → DoLevelsFall net labels levels
    → (n y : ℕ) → y < length labels → of_class labels levels y ≤ n → Sink links labels exits y
sink net count links strong_count terminal labels exits levels k falls zero y lt le = elim (zero_or (get_or exits (get_or labels y 0 - 1) 0)) as (λ _. Sink links labels exits y) [
  | inl e ↦ record { t = y; inside = lt; same = refl; none = e }
  | inr f ↦ let w = lower net count links strong_count terminal labels exits levels k falls y f.0 lt f.1 in absurd (omega (arith, w.less, le))
]
sink net count links strong_count terminal labels exits levels k falls (suc n) y lt le = elim (zero_or (get_or exits (get_or labels y 0 - 1) 0)) as (λ _. Sink links labels exits y) [
  | inl e ↦ record { t = y; inside = lt; same = refl; none = e }
  | inr f ↦
      let w = lower net count links strong_count terminal labels exits levels k falls y f.0 lt f.1 in
      let g = sink net count links strong_count terminal labels exits levels k falls n w.z w.inside (omega (arith, w.less, le)) in
      record { t = g.t; inside = g.inside; same = w.same ∙ g.same; none = g.none }
]

-- a linkage class has a terminal strong class
pub terminals_some : (net : Net) (count : ℕ) (links : List ℕ) (strong_count terminal : ℕ) (labels exits levels : List ℕ) → Known net count links strong_count terminal labels exits → DoLevelsFall net labels levels
    → (k : ℕ) → 1 ≤ k → k ≤ count → 1 ≤ terminals_of labels exits links (length exits) k
terminals_some net count links strong_count terminal labels exits levels known falls k from most =
    let l = known.linkage_is in
    let s = known.strong_is in
    let y = l.count_is.each k from most in
    let inside : y.0 < length labels = omega (arith, y.1, l.labelled.long, s.places) in
    let f = sink net count links strong_count terminal labels exits levels known falls (of_class labels levels y.0) y.0 inside (omega arith) in
    let m = get_or labels f.t 0 in
    some_counted (is_terminal_in labels exits links k) (range_with_len 1 (length exits)) m
    (in_range m 1 (length exits) (s.right.positive f.t f.inside) (omega (arith, s.count_is.most f.t f.inside, s.classes)))
    (terminal_passes labels exits links k f.t f.inside (sym f.same ∙ y.2) f.none)

-- a complex that represents all terminal strong classes of a linkage class
one_class : (net : Net) (y t : ℕ) → IsComplex net t → SameClass net.reactions y t → IsTerminal net.reactions t → ((z : ℕ) → IsComplex net z → SameClass net.reactions y z → IsTerminal net.reactions z → SameStrong net.reactions t z)
    → HasTerminalClasses net y 1
one_class net y t complex same terminal all = (
  t ∷ [],
  record {
    members = λ z i. elim i as (λ _. IsComplex net z × SameClass net.reactions y z × IsTerminal net.reactions z) [
      | inl e ↦ subst (λ (w : ℕ). IsComplex net w × SameClass net.reactions y w × IsTerminal net.reactions w) (sym e) (complex, same, terminal)
      | inr j ↦ absurd j
    ];
    apart = (λ z i. absurd i, tt);
    each = λ z h. (t, inl refl, all z h.0 h.1 h.2);
  },
  refl,
)

same_label : (labels : List ℕ) (c z m : ℕ) → get_or labels c 0 ≡ m → m ≡ get_or labels z 0 → get_or labels c 0 ≡ get_or labels z 0
same_label labels c z m e f = e ∙ f

-- if there is one each by the count, each linkage class has exactly one terminal strong class
pub one_terminal_each : (net : Net) (count : ℕ) (links : List ℕ) (strong_count terminal : ℕ) (labels exits : List ℕ) → Known net count links strong_count terminal labels exits
    → HaveOneUpTo labels exits links (length exits) count → HasOneTerminalEach net
one_terminal_each net count links strong_count terminal labels exits known one y complex =
    let l = known.linkage_is in
    let s = known.strong_is in
    let at : y < length links = omega (arith, complex, l.labelled.long) in
    let k = get_or links y 0 in
    let p = is_terminal_in labels exits links k in
    let ms = range_with_len 1 (length exits) in
    let is_one : count_by p ms ≡ 1 = one k (l.labelled.right.positive y at) (l.count_is.most y at) in
    let m = counted_some p ms (omega (arith, is_one)) in
    let t = passes_by labels exits links k m.0 m.2 in
    let place : (z : ℕ) → z < length labels → z < length links = λ z lt. omega (arith, lt, s.places, l.labelled.long) in
    one_class net y t.c (omega (arith, t.inside, s.places)) (l.labelled.right.same y t.c at (place t.c t.inside) (sym {a = get_or links t.c 0} t.link_is)) ((s.exits_are.terminal t.c t.inside).0 t.none) (λ z inside same final.
    let lt : z < length labels = omega (arith, inside, s.places) in
    let label : get_or links z 0 ≡ k = sym (l.labelled.right.together y z at (place z lt) same) in
    let n = get_or labels z 0 in
    let hit = terminal_passes labels exits links k z lt label ((s.exits_are.terminal z lt).1 final) in
    let among : IsIn n ms = in_range n 1 (length exits) (s.right.positive z lt) (omega (arith, s.count_is.most z lt, s.classes)) in
    let only : m.0 ≡ n = one_counted p ms m.0 n is_one m.1 among m.2 hit in
    s.right.same t.c z t.inside lt (same_label labels t.c z m.0 t.strong_is only))
