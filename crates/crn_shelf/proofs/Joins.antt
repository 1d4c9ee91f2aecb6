-- What a prefix requires of part A, by the words of the prefix before its last option and those of that option.
use Rattle.crn_shelf.proofs.Prelude.{◌≡◌, ◌≢◌, ℕ, zero, suc, ◌+◌, ◌/◌, ◌%◌, ◌<◌, ◌≤◌, ◌⊎◌, max, inl, inr, List, [], ◌∷◌, ◌++◌, length, get_or, replicate, set, refl, sym, ap, ap₂, subst, ◌∙◌, arith, bit_at, get_or-set_same, get_or-set_other, length-set, bit_at-zero, bit_at_or, Sign, Kind, Pos, Neg, NonNeg, ZeroKind, Free, Shape, shelf_kinds, shelf_matrix, kind_at, eq_or, Bits, AskKinds, kind_in, kind_of_bits, none, word_at, Choice, AreChoices, AreJoined, IsAdded, IsChoice, IsWith, added_by, joined}

-- ---- one coordinate

free_bits : (p m : ℕ) → kind_of_bits p m ≡ Free → (p ≡ 0) × (m ≡ 0)
free_bits zero zero e = (refl, refl)
free_bits (suc p) zero e = absurd cc
free_bits zero (suc m) e = absurd cc
free_bits (suc p) (suc m) e = absurd cc

free_or : (kind : Kind) → (kind ≡ Free) ⊎ (kind ≢ Free)
free_or Free = inl refl
free_or Pos = inr (λ e. cc)
free_or Neg = inr (λ e. cc)
free_or NonNeg = inr (λ e. cc)
free_or ZeroKind = inr (λ e. cc)

join_bits : (p m q n : ℕ) (x y z : Kind) → kind_of_bits p m ≡ x → kind_of_bits q n ≡ y → IsWith x y z → kind_of_bits (max p q) (max m n) ≡ z
join_bits p m q n x y z e f h = elim (free_or x) as (λ _. kind_of_bits (max p q) (max m n) ≡ z) [
  | inl free ↦
      let none = free_bits p m (e ∙ free) in
      let first : max p q ≡ q = omega (arith, none.0) in
      let second : max m n ≡ n = omega (arith, none.1) in
      ap₂ (λ (i j : ℕ). kind_of_bits i j) first second ∙ f ∙ sym (h.0 free)
  | inr ne ↦
      let none = free_bits q n (f ∙ (h.1 ne).0) in
      let first : max p q ≡ p = omega (arith, none.0) in
      let second : max m n ≡ m = omega (arith, none.1) in
      ap₂ (λ (i j : ℕ). kind_of_bits i j) first second ∙ e ∙ sym (h.1 ne).1
]

-- the kind that a word requires of its coordinate i
abbrev kind_of : Bits → ℕ → Kind
kind_of b i = kind_of_bits (bit_at b.plus i) (bit_at b.minus i)

join_word : (one other : Bits) (i : ℕ) (x y z : Kind) → kind_of one i ≡ x → kind_of other i ≡ y → IsWith x y z → kind_of (joined one other) i ≡ z
join_word one other i x y z e f h =
    ap₂ (λ (m n : ℕ). kind_of_bits m n) (bit_at_or one.plus other.plus i) (bit_at_or one.minus other.minus i)
    ∙ join_bits (bit_at one.plus i) (bit_at one.minus i) (bit_at other.plus i) (bit_at other.minus i) x y z e f h

-- ---- all coordinates

-- what is required without the last option, and what that adds
pub asks_joined : (s : Shape) (p q : List Sign) (o : Sign) (above added new : List Bits) → q ≡ p ++ o ∷ [] → AskKinds (shelf_matrix s) (shelf_kinds s p) above → IsAdded s (length p) o added → AreJoined above added new
    → AskKinds (shelf_matrix s) (shelf_kinds s q) new
asks_joined s p q o above added new e h g made = record {
  count = made.count ∙ h.count;
  each = λ k lt.
      let inside : k / 64 < length above = omega (arith, h.count, lt) in
      ap (λ (b : Bits). kind_of b (k % 64)) (made.each (k / 64) inside)
      ∙ join_word (word_at above (k / 64)) (word_at added (k / 64)) (k % 64) (kind_at (shelf_kinds s p) k) (kind_in added k) (kind_at (shelf_kinds s (p ++ o ∷ [])) k) (h.each k lt) refl (g.each p k refl lt)
      ∙ sym (ap (λ (r : List Sign). kind_at (shelf_kinds s r) k) e);
}

-- ---- words one after another

-- the words before w are joined
pub record AreJoining (above added new : List Bits) (w : ℕ) : Type 0 where
  pub count : length new ≡ length above
  pub each : (v : ℕ) → v < w → word_at new v ≡ joined (word_at above v) (word_at added v)

pub joining_none : (above added new : List Bits) → length new ≡ length above → AreJoining above added new 0
joining_none above added new e = record { count = e; each = λ v lt. absurd (omega (arith, lt)) }

pub joining_word : (above added new : List Bits) (w : ℕ) (x : Bits) → w < length above → x ≡ joined (word_at above w) (word_at added w) → AreJoining above added new w → AreJoining above added (set new w x) (w + 1)
joining_word above added new w x lt is h = record {
  count = length-set new w x ∙ h.count;
  each = λ v less. elim (eq_or v w) as (λ _. word_at (set new w x) v ≡ joined (word_at above v) (word_at added v)) [
    | inl e ↦ ap (word_at (set new w x)) e ∙ get_or-set_same new w x none (omega (arith, lt, h.count)) ∙ is ∙ sym (ap (λ (u : ℕ). joined (word_at above u) (word_at added u)) e)
    | inr ne ↦ get_or-set_other new w v x none ne ∙ h.each v (omega (arith, less, ne))
  ];
}

pub joining_all : (above added new : List Bits) (w : ℕ) → length above ≤ w → AreJoining above added new w → AreJoined above added new
joining_all above added new w le h = record { count = h.count; each = λ v lt. h.each v (omega (arith, lt, le)) }

-- ---- words of which nothing is required

blank_word : (n w : ℕ) → word_at (replicate n none) w ≡ none
blank_word zero w = refl
blank_word (suc n) zero = refl
blank_word (suc n) (suc w) = blank_word n w

pub blank_kind : (n k : ℕ) → kind_in (replicate n none) k ≡ Free
blank_kind n k = ap (λ (b : Bits). kind_of b (k % 64)) (blank_word n (k / 64)) ∙ ap₂ (λ (i j : ℕ). kind_of_bits i j) (bit_at-zero (k % 64)) (bit_at-zero (k % 64))

-- ---- choices one after another

-- what the options of choices add, from choice d on
abbrev pub AreFrom : Shape → ℕ → List Choice → Type 0
AreFrom s d [] = Unit {0}
AreFrom s d (c ∷ cs) = IsChoice s d c × AreFrom s (d + 1) cs

from_push : (s : Shape) (d n : ℕ) (old : List Choice) (x : Choice) → length old ≡ n → AreFrom s d old → IsChoice s (d + n) x → AreFrom s d (old ++ x ∷ [])
from_push s d n [] x e h is =
    let here : d + n ≡ d = omega (arith, e) in
    (subst (λ (i : ℕ). IsChoice s i x) here is, tt)
from_push s d n (c ∷ cs) x e h is =
    let here : d + n ≡ (d + 1) + length cs = omega (arith, e) in
    (h.0, from_push s (d + 1) (length cs) cs x refl h.1 (subst (λ (i : ℕ). IsChoice s i x) here is))

-- one choice more, after this many options
pub choice_more : (s : Shape) (before : List Sign) (old new : List Choice) (x : Choice) → length old ≡ length before → new ≡ old ++ x ∷ [] → AreFrom s 0 old → IsChoice s (length before) x → AreFrom s 0 new
choice_more s before old new x e is h more =
    let here : length before ≡ 0 + length before = omega arith in
    subst (AreFrom s 0) (sym is) (from_push s 0 (length before) old x e h (subst (λ (i : ℕ). IsChoice s i x) here more))

choice_at : (s : Shape) (d i : ℕ) (cs : List Choice) (c : Choice) → i < length cs → AreFrom s d cs → IsChoice s (d + i) (get_or cs i c)
choice_at s d i [] c lt h = absurd (omega (arith, lt))
choice_at s d zero (x ∷ cs) c lt h =
    let here : d ≡ d + 0 = omega arith in
    subst (λ (j : ℕ). IsChoice s j x) here h.0
choice_at s d (suc i) (x ∷ cs) c lt h =
    let here : (d + 1) + i ≡ d + suc i = omega arith in
    subst (λ (j : ℕ). IsChoice s j (get_or cs i c)) here (choice_at s (d + 1) i cs c (omega (arith, lt)) h.1)

pub all_choices : (s : Shape) (cs : List Choice) → length cs ≡ s.count + s.species → AreFrom s 0 cs → AreChoices s cs
all_choices s cs long h = record {
  count = long;
  each = λ d c lt at.
      let here : 0 + d ≡ d = omega arith in
      subst (IsChoice s d) at (subst (λ (i : ℕ). IsChoice s i (get_or cs d c)) here (choice_at s 0 d cs c lt h));
}

-- the words of an option of the choice at a place
pub added_is : (s : Shape) (d n : ℕ) (cs : List Choice) (c : Choice) (o t : Sign) (words : List Bits) → n ≡ d → d < length cs → AreChoices s cs → c ≡ get_or cs n c → o ≡ t → words ≡ added_by c o → IsAdded s d t words
added_is s d n cs c o t words e lt h is same w =
    let at : get_or cs d c ≡ c = sym (is ∙ ap (λ (i : ℕ). get_or cs i c) e) in
    let choice : IsChoice s d c = h.each d c lt at in
    subst (IsAdded s d t) (sym (w ∙ ap (added_by c) same)) (choice t)
