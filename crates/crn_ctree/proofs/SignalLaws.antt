-- When a shelving, numbers of the species, a level and weights are a signal over a shape, row by row.
use Rattle.crn_ctree.proofs.Prelude.{inl, inr, ◌≡◌, ◌≢◌, ℕ, ◌+◌, ◌<◌, ◌≤◌, ◌^◌, List, [], ◌∷◌, length, map, get_or, slice_set, sym, ap, subst, ◌∙◌, arith, ℤ, pos, ◌-ℤ◌, Option, Some, unsigned_abs, AllZip, AllByRecursion, ints, ext_get_or, get_or-map, get_or-set_same, get_or-set_other, length-map, MAX_AMOUNT, MAX_SPECIES, WIDE_SOLUTION, Sign, Zero, Kind, Net, minus, reaction_system, AreWithin, HasSign, dot, entry, HasKind, image, sign, Pair, Shape, complex_at, shelf_at, shelf_of, HasPairSign, IsSignal, IsShape, top_kind, pair_kind, dot_none, mul-sub, past_end, lt_or, eq_or, kind_has, has_kind, pair_has, has_pair, top_full, pair_full, narrow_within, dot_within, IsNarrow, AreOnShelves, AreRightRises}
use lib.IntN.{*ℤ_comm}

-- ---- sizes

-- a sum over few species is small
pub dot_small : (mu y : List ℤ) → length mu ≤ MAX_SPECIES → AllByRecursion IsNarrow mu → AreWithin MAX_AMOUNT y → unsigned_abs (dot mu y) < 2 ^ 126
dot_small mu y few narrow small = omega (arith, few, dot_within WIDE_SOLUTION MAX_AMOUNT mu y (narrow_within mu narrow) small)

-- ---- differences

pub dot-minus : (mu a b : List ℤ) → length mu ≤ length (minus a b) → dot mu (minus a b) ≡ dot a mu -ℤ dot b mu
dot-minus [] a b h = omega (arith, ints, dot_none a, dot_none b)
dot-minus (u ∷ mu) [] b h = absurd (omega (arith, h))
dot-minus (u ∷ mu) (x ∷ a) [] h = absurd (omega (arith, h))
dot-minus (u ∷ mu) (x ∷ a) (y ∷ b) h = omega (arith, ints, mul-sub u x y, *ℤ_comm u x, *ℤ_comm u y, dot-minus mu a b (omega (arith, h)))

-- ---- signs and kinds

-- ---- complexes

abbrev Lies : List Sign → List ℤ → ℤ → List (Option ℕ) → List (List ℤ) → Type 0
Lies shelves mu level tops ys = AllZip (λ top y. HasSign (shelf_of shelves top) (dot y mu -ℤ level)) tops ys

abbrev OfKinds : List Sign → List ℤ → ℤ → List (Option ℕ) → List (List ℤ) → Type 0
OfKinds shelves mu level tops ys = AllZip (λ top y. HasKind (top_kind shelves top) (dot y mu -ℤ level)) tops ys

abbrev Below : ℕ → List (Option ℕ) → Type 0
Below n tops = AllByRecursion (λ top. (k : ℕ) → top ≡ Some k → k < n) tops

kinds_lie : (shelves : List Sign) (n : ℕ) (mu : List ℤ) (level : ℤ) (tops : List (Option ℕ)) (ys : List (List ℤ)) → length shelves ≡ n → Below n tops → OfKinds shelves mu level tops ys → Lies shelves mu level tops ys
kinds_lie shelves n mu level [] [] e b h = tt
kinds_lie shelves n mu level [] (y ∷ ys) e b h = absurd h
kinds_lie shelves n mu level (top ∷ tops) [] e b h = absurd h
kinds_lie shelves n mu level (top ∷ tops) (y ∷ ys) e b h = (
  has_kind (shelf_of shelves top) (dot y mu -ℤ level) (subst (λ (κ : Kind). HasKind κ (dot y mu -ℤ level)) (top_full shelves n top e b.0) h.0),
  kinds_lie shelves n mu level tops ys e b.1 h.1,
)

lie_kinds : (shelves : List Sign) (n : ℕ) (mu : List ℤ) (level : ℤ) (tops : List (Option ℕ)) (ys : List (List ℤ)) → length shelves ≡ n → Below n tops → Lies shelves mu level tops ys → OfKinds shelves mu level tops ys
lie_kinds shelves n mu level [] [] e b h = tt
lie_kinds shelves n mu level [] (y ∷ ys) e b h = absurd h
lie_kinds shelves n mu level (top ∷ tops) [] e b h = absurd h
lie_kinds shelves n mu level (top ∷ tops) (y ∷ ys) e b h = (
  subst (λ (κ : Kind). HasKind κ (dot y mu -ℤ level)) (sym (top_full shelves n top e b.0)) (kind_has (shelf_of shelves top) (dot y mu -ℤ level) h.0),
  lie_kinds shelves n mu level tops ys e b.1 h.1,
)

-- ---- linked pairs

abbrev pub change : Shape → List ℤ → Pair → ℤ
change s mu pair = dot (complex_at s pair.high) mu -ℤ dot (complex_at s pair.low) mu

abbrev RisesHaveSigns : Shape → List Sign → List ℤ → List Pair → Type 0
RisesHaveSigns s shelves mu pairs = AllByRecursion (λ pair. HasPairSign (shelf_at shelves pair.top) pair.sum (change s mu pair)) pairs

abbrev RisesHaveKinds : Shape → List Sign → List ℤ → List Pair → Type 0
RisesHaveKinds s shelves mu pairs = AllByRecursion (λ pair. HasKind (pair_kind shelves pair) (change s mu pair)) pairs

abbrev PairsBelow : Shape → List Pair → Type 0
PairsBelow s pairs = AllByRecursion (λ pair. (pair.top < s.count) × (pair.low < length s.complexes) × (pair.high < length s.complexes)) pairs

rises_have_signs : (s : Shape) (shelves : List Sign) (mu : List ℤ) (pairs : List Pair) → length shelves ≡ s.count → PairsBelow s pairs → RisesHaveKinds s shelves mu pairs → RisesHaveSigns s shelves mu pairs
rises_have_signs s shelves mu [] e b h = tt
rises_have_signs s shelves mu (pair ∷ pairs) e b h = (
  has_pair (shelf_at shelves pair.top) pair.sum (change s mu pair) (subst (λ (κ : Kind). HasKind κ (change s mu pair)) (pair_full shelves s.count pair e b.0.0) h.0),
  rises_have_signs s shelves mu pairs e b.1 h.1,
)

rises_have_kinds : (s : Shape) (shelves : List Sign) (mu : List ℤ) (pairs : List Pair) → length shelves ≡ s.count → PairsBelow s pairs → RisesHaveSigns s shelves mu pairs → RisesHaveKinds s shelves mu pairs
rises_have_kinds s shelves mu [] e b h = tt
rises_have_kinds s shelves mu (pair ∷ pairs) e b h = (
  subst (λ (κ : Kind). HasKind κ (change s mu pair)) (sym (pair_full shelves s.count pair e b.0.0)) (pair_has (shelf_at shelves pair.top) pair.sum (change s mu pair) h.0),
  rises_have_kinds s shelves mu pairs e b.1 h.1,
)

-- ---- the four tests

pub signal_is : (net : Net) (s : Shape) (numbers mu : List ℤ) (m : ℤ) (weights : List ℤ) → IsShape net s → length numbers ≡ s.count → length mu ≡ length net.names → length weights ≡ length net.reactions
    → AreOnShelves s (map sign numbers) mu m → AreRightRises s (map sign numbers) mu → (k : ℕ) × (entry mu k ≢ pos 0) → map sign mu ≡ map sign (image (reaction_system net) weights)
    → IsSignal s (reaction_system net) (map sign numbers) mu m weights
signal_is net s numbers mu m weights sh long even wide on rises some same =
    let e : length (map sign numbers) ≡ s.count = length-map numbers sign ∙ long in
    record {
      long_shelves = e;
      long_mu = even ∙ sym sh.species;
      long_weights = wide;
      lies = kinds_lie (map sign numbers) s.count mu m s.tops s.complexes e sh.tops_below on;
      over_pairs = rises_have_signs s (map sign numbers) mu s.pairs e sh.pairs_below rises;
      some = some;
      same = same;
    }

pub signal_lies : (net : Net) (s : Shape) (numbers mu : List ℤ) (m : ℤ) (weights : List ℤ) → IsShape net s → IsSignal s (reaction_system net) (map sign numbers) mu m weights → AreOnShelves s (map sign numbers) mu m
signal_lies net s numbers mu m weights sh h = lie_kinds (map sign numbers) s.count mu m s.tops s.complexes h.long_shelves sh.tops_below h.lies

pub signal_rises : (net : Net) (s : Shape) (numbers mu : List ℤ) (m : ℤ) (weights : List ℤ) → IsShape net s → IsSignal s (reaction_system net) (map sign numbers) mu m weights → AreRightRises s (map sign numbers) mu
signal_rises net s numbers mu m weights sh h = rises_have_kinds s (map sign numbers) mu s.pairs h.long_shelves sh.pairs_below h.over_pairs

-- ---- numbers that are all zero

pub none_some : (xs : List ℤ) → ((j : ℕ) → j < length xs → entry xs j ≡ pos 0) → (k : ℕ) × (entry xs k ≢ pos 0) → ⊥
none_some xs h some = some.1 (elim (lt_or some.0 (length xs)) as (λ _. entry xs some.0 ≡ pos 0) [
  | inl inside ↦ h some.0 inside
  | inr past ↦ past_end xs some.0 past
])

-- ---- lists member by member

pub signs_more : (xs : List ℤ) (signs : List Sign) (k : ℕ) (t : Sign) → k < length signs → ((j : ℕ) → j < k → get_or signs j Zero ≡ sign (entry xs j)) → t ≡ sign (entry xs k) → (j : ℕ) → j < k + 1 → get_or (slice_set signs k t) j Zero ≡ sign (entry xs j)
signs_more xs signs k t lt h e j less = elim (eq_or j k) as (λ _. get_or (slice_set signs k t) j Zero ≡ sign (entry xs j)) [
  | inl same ↦ ap (λ (i : ℕ). get_or (slice_set signs k t) i Zero) same ∙ get_or-set_same signs k t Zero lt ∙ e ∙ ap (λ (i : ℕ). sign (entry xs i)) (sym same)
  | inr other ↦ get_or-set_other signs k j t Zero other ∙ h j (omega (arith, less, other))
]

pub all_signs : (xs : List ℤ) (signs : List Sign) → length signs ≡ length xs → ((j : ℕ) → j < length xs → get_or signs j Zero ≡ sign (entry xs j)) → signs ≡ map sign xs
all_signs xs signs long h =
    ext_get_or Zero signs (map sign xs) (long ∙ sym (length-map xs sign))
    (λ j lt. h j (omega (arith, lt, long)) ∙ sym (get_or-map sign xs j (pos 0) Zero (omega (arith, lt, long))))

-- a kind and a number that equal those of a row
pub has_both : {κ κ' : Kind} {x x' : ℤ} → κ ≡ κ' → x ≡ x' → HasKind κ' x' → HasKind κ x
has_both {κ} {κ'} {x} {x'} e f h = subst (λ (k : Kind). HasKind k x) (sym e) (subst (λ (y : ℤ). HasKind κ' y) (sym f) h)

pub kind_next : (kind : ℕ → Kind) (number : ℕ → ℤ) (i : ℕ) {κ : Kind} {x : ℤ} → ((j : ℕ) → j < i → HasKind (kind j) (number j)) → κ ≡ kind i → x ≡ number i → HasKind κ x → (j : ℕ) → j < i + 1 → HasKind (kind j) (number j)
kind_next kind number i {κ} {x} h e f last j lt = elim (eq_or j i) as (λ _. HasKind (kind j) (number j)) [
  | inl same ↦ subst (λ (k : ℕ). HasKind (kind k) (number k)) (sym same) (has_both (sym e) (sym f) last)
  | inr other ↦ h j (omega (arith, lt, other))
]

-- ---- equal signs

pub alike_from : (xs ys : List ℤ) → length xs ≡ length ys → ((j : ℕ) → j < length xs → sign (entry xs j) ≡ sign (entry ys j)) → map sign xs ≡ map sign ys
alike_from xs ys long h = all_signs ys (map sign xs) (length-map xs sign ∙ long) (λ j lt. get_or-map sign xs j (pos 0) Zero (omega (arith, lt, long)) ∙ h j (omega (arith, lt, long)))

pub alike_at : (xs ys : List ℤ) (k : ℕ) → k < length xs → length xs ≡ length ys → map sign xs ≡ map sign ys → sign (entry xs k) ≡ sign (entry ys k)
alike_at xs ys k lt long e =
    sym (get_or-map sign xs k (pos 0) Zero lt) ∙ ap (λ (l : List Sign). get_or l k Zero) e ∙ get_or-map sign ys k (pos 0) Zero (omega (arith, lt, long))

pub next_alike : (xs ys : List ℤ) (k : ℕ) → ((j : ℕ) → j < k → sign (entry xs j) ≡ sign (entry ys j)) → sign (entry xs k) ≡ sign (entry ys k) → (j : ℕ) → j < k + 1 → sign (entry xs j) ≡ sign (entry ys j)
next_alike xs ys k h e j lt = elim (eq_or j k) as (λ _. sign (entry xs j) ≡ sign (entry ys j)) [
  | inl same ↦ subst (λ (i : ℕ). sign (entry xs i) ≡ sign (entry ys i)) (sym same) e
  | inr other ↦ h j (omega (arith, lt, other))
]
