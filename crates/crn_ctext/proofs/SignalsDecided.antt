-- The tests of signals and of the nodes of their trees are decided in a network, whatever the records hold.
use Rattle.crn_ctext.proofs.Prelude.{◌≡◌, ◌<◌, ◌∙◌, ℕ, true, List, [], length, refl, sym, ap, subst, inl, inr, ℤ, pos, negsuc, ◌-ℤ◌, Option, Some, None, IsSomeAnd, Sign, Zero, Plus, Minus, Net, IsNetwork, dot, entry, HasSign, combination_at, IsOnSide, IsCutPair, SumsTo, vectors, reaction_system, Signed, opposite, sign, Shape, shelf_at, shelf_of, HasPairSign, signals, top_at, AreTops, complex_of, IsSignalOver, IsSignalOf, IsShapeOf, shapes_are_one, sums_one, some_is, none_some, Earlier, Q12, on, vector_given, by_turn, Said, Splits, Flats, CutsA, CutsB, IsSignalNode, OfVector, IsNodeOf, side_sum, shape_with}
use Rattle.crn_cert.specs.Nodes.{Fits}
use Rattle.crn_ctext.proofs.Decided.{IsDecided, both_decided, moved, nat_decided, lt_decided, bool_decided, int_decided, int_le_decided}
use Rattle.crn_ctext.proofs.TestsDecided.{each_below}
use Rattle.crn_ctext.proofs.TablesDecided.{zip_decided, cut_decided}
use Rattle.crn_ctext.proofs.ConfluenceDecided.{nonzero_decided}
use Rattle.crn_ctext.proofs.ReachDecided.{linked_inside, cut_pair_decided, networks_have_tops, networks_have_pairs}

-- ---- shapes

-- the shape of a network for a list
pub shape_found : (net : Net) → IsNetwork net → (g : List ℤ) → (s : Shape) × IsShapeOf net g s
shape_found net n g =
    let tops = networks_have_tops net n in
    let pairs = networks_have_pairs net n in
    let w = shape_with net g tops.0 tops.1 pairs.0 n tops.2 pairs.1 in
    (w.shape, w.is)

fits_decided : (w : Signed) (p : List Sign) (said : Said) → IsDecided (Fits w p said)
fits_decided w p Splits = lt_decided (length p) w.choices
fits_decided w p Flats = bool_decided (w.closed p) true
fits_decided w p (CutsA u) = cut_decided w.matrix_a (w.kinds_a p) u
fits_decided w p (CutsB u) = cut_decided w.matrix_b (w.kinds_b p) u

signal_node_decided : (net : Net) → IsNetwork net → (g : List ℤ) (p : List Sign) (said : Said) → IsDecided (IsSignalNode net g p said)
signal_node_decided net n g p said =
    let shape = shape_found net n g in
    let m = reaction_system net in
    moved (λ h. (shape.0, shape.1, h)) (λ h. subst (λ (s : Shape). Fits (signals s m) p said) (shapes_are_one net g h.0 shape.0 h.1 shape.1) h.2) (fits_decided (signals shape.0 m) p said)

-- a property of the vector that is given, if one is
given_decided : (given : Option (List ℤ)) (Has : List ℤ → Type 0) → ((g : List ℤ) → IsDecided (Has g)) → IsDecided (IsSomeAnd given Has)
given_decided None Has each = inr (λ h. h)
given_decided (Some g) Has each = each g

pub node_decided : (net : Net) → IsNetwork net → (earlier : Earlier) (turn : ℤ) (p : List Sign) (said : Said) → IsDecided (IsNodeOf net earlier turn p said)
node_decided net n earlier turn p said =
    given_decided (vector_given (on earlier Q12)) (λ g. IsSignalNode net (by_turn turn g) p said) (λ g. signal_node_decided net n (by_turn turn g) p said)

-- ---- signals

sign_decided : (a b : Sign) → IsDecided (a ≡ b)
sign_decided Zero Zero = inl refl
sign_decided Plus Plus = inl refl
sign_decided Minus Minus = inl refl
sign_decided a b = inr (λ e. cc)

has_sign_decided : (s : Sign) (x : ℤ) → IsDecided (HasSign s x)
has_sign_decided Zero x = int_decided x (pos 0)
has_sign_decided Plus x = int_le_decided (pos 1) x
has_sign_decided Minus x = int_le_decided x (negsuc 0)

pair_sign_decided : (s : Sign) (h x : ℤ) → IsDecided (HasPairSign s h x)
pair_sign_decided Zero h x = inl tt
pair_sign_decided Plus h x = has_sign_decided (sign h) x
pair_sign_decided Minus h x = has_sign_decided (opposite (sign h)) x

-- the terminal class of both ends of a pair has the sign that its shelf requires
abbrev HasSignOver : Net → List ℤ → List (Option ℕ) → List Sign → List ℤ → ℕ → ℕ → Type 0
HasSignOver net g tops shelves mu y z = (k : ℕ) (h : ℤ) → IsCutPair net.reactions y z → top_at tops y ≡ Some k → top_at tops z ≡ Some k → SumsTo g (IsOnSide net.reactions y z) h
    → HasPairSign (shelf_at shelves k) h (dot (complex_of net z) mu -ℤ dot (complex_of net y) mu)

-- the difference over a cut pair of class k
over_class_decided : (net : Net) → IsNetwork net → (g : List ℤ) (tops : List (Option ℕ)) (shelves : List Sign) (mu : List ℤ) (y z k : ℕ) → IsCutPair net.reactions y z → top_at tops y ≡ Some k → IsDecided (HasSignOver net g tops shelves mu y z)
over_class_decided net n g tops shelves mu y z k cut e = by (top_at tops z) refl
  where
    rs : List (ℕ × ℕ)
    rs = net.reactions

    lz : z < length net.complexes
    lz = (linked_inside net n y z cut.linked).1

    other : (l : ℕ) → top_at tops y ≡ Some l → k ≡ l
    other l f = some_is k l (sym e ∙ f)

    at : top_at tops z ≡ Some k → IsDecided (HasSignOver net g tops shelves mu y z)
    at f =
        let sum = side_sum (length net.complexes) y z rs g n.partial.apart lz in
        let x = dot (complex_of net z) mu -ℤ dot (complex_of net y) mu in
        moved (λ p l h c a b s. subst (λ (j : ℕ). HasPairSign (shelf_at shelves j) h x) (other l a) (subst (λ (t : ℤ). HasPairSign (shelf_at shelves k) t x) (sums_one g (IsOnSide rs y z) (IsOnSide rs y z) sum.0 h (λ v w. w) (λ v w. w) sum.1 s) p))
        (λ p. p k sum.0 cut e f sum.1) (pair_sign_decided (shelf_at shelves k) sum.0 x)

    by : (o : Option ℕ) → top_at tops z ≡ o → IsDecided (HasSignOver net g tops shelves mu y z)
    by None f = inl (λ l h c a b s. absurd (none_some (top_at tops z) l f b))
    by (Some j) f = elim (nat_decided k j) [
      | inl same ↦ at (f ∙ ap Some (sym same))
      | inr apart ↦ inl (λ l h c a b s. absurd (apart (other l a ∙ sym (some_is j l (sym f ∙ b)))))
    ]

over_pair_decided : (net : Net) → IsNetwork net → (g : List ℤ) (tops : List (Option ℕ)) (shelves : List Sign) (mu : List ℤ) (y z : ℕ) → IsDecided (HasSignOver net g tops shelves mu y z)
over_pair_decided net n g tops shelves mu y z = elim (cut_pair_decided net n y z) [
  | inr other ↦ inl (λ k h c a b s. absurd (other c))
  | inl cut ↦ by cut (top_at tops y) refl
]
  where
    by : IsCutPair net.reactions y z → (o : Option ℕ) → top_at tops y ≡ o → IsDecided (HasSignOver net g tops shelves mu y z)
    by cut None e = inl (λ k h c a b s. absurd (none_some (top_at tops y) k e a))
    by cut (Some k) e = over_class_decided net n g tops shelves mu y z k cut e

over_pairs_decided : (net : Net) → IsNetwork net → (g : List ℤ) (tops : List (Option ℕ)) (shelves : List Sign) (mu : List ℤ) → IsDecided ((y z : ℕ) → HasSignOver net g tops shelves mu y z)
over_pairs_decided net n g tops shelves mu = moved
    (λ h y z k x c a b s. let inside = linked_inside net n y z c.linked in h y inside.0 z inside.1 k x c a b s) (λ h y ly z lz. h y z)
    (each_below (λ y. (z : ℕ) → z < length net.complexes → HasSignOver net g tops shelves mu y z) (λ y. each_below (HasSignOver net g tops shelves mu y) (λ z. over_pair_decided net n g tops shelves mu y z) (length net.complexes)) (length net.complexes))

-- each species changes as mu says
abbrev Changes : Net → List ℤ → List ℤ → ℕ → Type 0
Changes net mu weights s = sign (entry mu s) ≡ sign (combination_at weights (vectors net) s)

signal_over_decided : (net : Net) → IsNetwork net → (g : List ℤ) (tops : List (Option ℕ)) (count : ℕ) (shelves : List Sign) (mu : List ℤ) (level : ℤ) (weights : List ℤ) → IsDecided (IsSignalOver net g tops count shelves mu level weights)
signal_over_decided net n g tops count shelves mu level weights = moved
    (λ h. record { long_shelves = h.0; long_mu = h.1.0; long_weights = h.1.1.0; lies = h.1.1.1.0; over_pairs = λ y z k x c a b s. h.1.1.1.1.0 y z k x c a b s; some = h.1.1.1.1.1.0; same = h.1.1.1.1.1.1 })
    (λ h. (h.long_shelves, (h.long_mu, (h.long_weights, (h.lies, ((λ y z k x c a b s. let over = h.over_pairs in over y z k x c a b s), (h.some, h.same)))))))
    (both_decided (nat_decided (length shelves) count) (both_decided (nat_decided (length mu) (length net.names)) (both_decided (nat_decided (length weights) (length net.reactions)) (both_decided
    (zip_decided (λ top y. HasSign (shelf_of shelves top) (dot y mu -ℤ level)) (λ top y. has_sign_decided (shelf_of shelves top) (dot y mu -ℤ level)) tops net.complexes) (both_decided
    (over_pairs_decided net n g tops shelves mu) (both_decided
    (nonzero_decided mu)
    (each_below (Changes net mu weights) (λ s. sign_decided (sign (entry mu s)) (sign (combination_at weights (vectors net) s))) (length net.names))))))))

-- the terminal classes of a network are one list with one count
tops_same : (net : Net) → IsNetwork net → (tops others : List (Option ℕ)) (count number : ℕ) → AreTops net tops count → AreTops net others number → (tops ≡ others) × (count ≡ number)
tops_same net n tops others count number t u =
    let pairs = networks_have_pairs net n in
    let a = shape_with net none tops count pairs.0 n t pairs.1 in
    let b = shape_with net none others number pairs.0 n u pairs.1 in
    let same : a.shape ≡ b.shape = shapes_are_one net none a.shape b.shape a.is b.is in
    (sym a.tops_are ∙ ap (λ (s : Shape). s.tops) same ∙ b.tops_are, sym a.count_is ∙ ap (λ (s : Shape). s.count) same ∙ b.count_is)
  where
    none : List ℤ
    none = []

signal_of_decided : (net : Net) → IsNetwork net → (g : List ℤ) (shelves : List Sign) (mu : List ℤ) (level : ℤ) (weights : List ℤ) → IsDecided (IsSignalOf net g shelves mu level weights)
signal_of_decided net n g shelves mu level weights =
    let t = networks_have_tops net n in
    moved (λ h. record { tops = t.0; count = t.1; tops_are = t.2; is = h })
    (λ h. let same = tops_same net n h.tops t.0 h.count t.1 h.tops_are t.2 in
    subst (λ (c : ℕ). IsSignalOver net g t.0 c shelves mu level weights) same.1 (subst (λ (ts : List (Option ℕ)). IsSignalOver net g ts h.count shelves mu level weights) same.0 h.is))
    (signal_over_decided net n g t.0 t.1 shelves mu level weights)

pub signal_decided : (net : Net) → IsNetwork net → (earlier : Earlier) (turn : ℤ) (shelves : List Sign) (mu : List ℤ) (level : ℤ) (weights : List ℤ) → IsDecided (OfVector earlier turn (λ g. IsSignalOf net g shelves mu level weights))
signal_decided net n earlier turn shelves mu level weights =
    given_decided (vector_given (on earlier Q12)) (λ g. IsSignalOf net (by_turn turn g) shelves mu level weights) (λ g. signal_of_decided net n (by_turn turn g) shelves mu level weights)
