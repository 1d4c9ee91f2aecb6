-- What a prefix requires of part A of a table's problem, by words that the prefix with one option less gives.
use Rattle.crn_conc.proofs.Prelude.{replicate, add-one, get_or-replicate, length-replicate, AreSettledBelow, settled_below, IsLast, ◌≡◌, ℕ, zero, suc, ◌+◌, ◌-◌, ◌/◌, ◌%◌, ◌<◌, ◌≤◌, max, inl, inr, List, [], ◌∷◌, ◌++◌, length, get_or, drop, set, Bool, true, false, refl, sym, ap, ap₂, subst, ◌∙◌, arith, if◌then◌else◌, bit_or, bit_xor, bit_at, get_or_append_left, get_or-append_right, get_or_past, get_or-set_same, get_or-set_other, length-append, length-set, bit_at-zero, bit_at_or, bit_at_xor, Sign, Zero, Plus, Minus, Free, ZeroKind, Mat, width, kind_at, one_if, all_zero, column_kind, is_minus, is_plus, kind_of_sum, kinds_a_of, product, products, some_sign, eq_or, lt_or, products_none, column_in_a, row_in_a, Bits, Asked, AskKinds, IsPut, kind_of_bits, minus_at, none, plus_at, sign_at, word_at, word_count, Chosen, AreMade, AreSettled, AreSignsOf, AreSums, IsAskedOf, IsChosen, IsExtended, signs_at}

-- ---- one option more

if_self : (b : Bool) → (if b then true else false) ≡ b
if_self true = refl
if_self false = refl

if_either : (b r t : Bool) → (if b then true else (if r then true else t)) ≡ (if (if b then true else r) then true else t)
if_either true r t = refl
if_either false r t = refl

some_more : (test : Sign → Bool) → test Zero ≡ false → (signs p : List Sign) (s : Sign)
    → some_sign test (products signs (p ++ s ∷ [])) ≡ (if some_sign test (products signs p) then true else test (product (sign_at signs (length p)) s))
some_more test z [] p s = sym (ap (λ (x : Sign). test (product x s)) (get_or_past [] (length p) Zero (omega arith)) ∙ z)
some_more test z (x ∷ ss) [] s = ap (λ (l : List Sign). if test (product x s) then true else some_sign test l) (products_none ss) ∙ if_self (test (product x s))
some_more test z (x ∷ ss) (t ∷ p) s =
    ap (λ (v : Bool). if test (product x t) then true else v) (some_more test z ss p s)
    ∙ if_either (test (product x t)) (some_sign test (products ss p)) (test (product (sign_at ss (length p)) s))

pub last_option : (p : List Sign) (s : Sign) (n : ℕ) → n ≡ length p → get_or (p ++ s ∷ []) n Zero ≡ s
last_option p s n e =
    let z : n - n ≡ 0 = omega arith in
    get_or-append_right p (s ∷ []) n n Zero (sym e) (omega arith) ∙ ap (λ (i : ℕ). get_or (s ∷ []) i Zero) z

-- ---- 64 coordinates

or_by : (x b : Bool) → max (one_if x) (one_if b) ≡ one_if (if x then true else b)
or_by true true = refl
or_by true false = refl
or_by false true = refl
or_by false false = refl

or_more : (above word i : ℕ) (x b c : Bool) → bit_at above i ≡ one_if x → bit_at word i ≡ one_if b → b ≡ c → bit_at (bit_or above word) i ≡ one_if (if x then true else c)
or_more above word i x b c h g e = bit_at_or above word i ∙ ap₂ (λ (m n : ℕ). max m n) h g ∙ or_by x b ∙ ap (λ (t : Bool). one_if (if x then true else t)) e

plus_plus : (s : Sign) → is_plus s ≡ is_plus (product s Plus)
plus_plus Zero = refl
plus_plus Plus = refl
plus_plus Minus = refl

minus_plus : (s : Sign) → is_minus s ≡ is_minus (product s Plus)
minus_plus Zero = refl
minus_plus Plus = refl
minus_plus Minus = refl

plus_minus : (s : Sign) → is_minus s ≡ is_plus (product s Minus)
plus_minus Zero = refl
plus_minus Plus = refl
plus_minus Minus = refl

minus_minus : (s : Sign) → is_plus s ≡ is_minus (product s Minus)
minus_minus Zero = refl
minus_minus Plus = refl
minus_minus Minus = refl

plus_zero : (x : Bool) (s : Sign) → one_if x ≡ one_if (if x then true else is_plus (product s Zero))
plus_zero true s = refl
plus_zero false Zero = refl
plus_zero false Plus = refl
plus_zero false Minus = refl

minus_zero : (x : Bool) (s : Sign) → one_if x ≡ one_if (if x then true else is_minus (product s Zero))
minus_zero true s = refl
minus_zero false Zero = refl
minus_zero false Plus = refl
minus_zero false Minus = refl

pub extended_zero : (above signs : Bits) → IsExtended above signs Zero above
extended_zero above signs = record { plus = λ i x s h g. h ∙ plus_zero x s; minus = λ i x s h g. h ∙ minus_zero x s }

pub extended_plus : (above signs : Bits) → IsExtended above signs Plus (record { plus = bit_or above.plus signs.plus; minus = bit_or above.minus signs.minus })
extended_plus above signs = record {
  plus = λ i x s h g. or_more above.plus signs.plus i x (is_plus s) (is_plus (product s Plus)) h g.plus (plus_plus s);
  minus = λ i x s h g. or_more above.minus signs.minus i x (is_minus s) (is_minus (product s Plus)) h g.minus (minus_plus s);
}

pub extended_minus : (above signs : Bits) → IsExtended above signs Minus (record { plus = bit_or above.plus signs.minus; minus = bit_or above.minus signs.plus })
extended_minus above signs = record {
  plus = λ i x s h g. or_more above.plus signs.minus i x (is_minus s) (is_plus (product s Minus)) h g.minus (plus_minus s);
  minus = λ i x s h g. or_more above.minus signs.plus i x (is_plus s) (is_minus (product s Minus)) h g.plus (minus_minus s);
}

-- the bit of `(settled | other) ^ other`
abbrev asked_bit : ℕ → ℕ → ℕ
asked_bit b m = (max b m + m) % 2

asked_by : (b x y : Bool) → kind_of_bits (asked_bit (one_if b) (one_if y)) (asked_bit (one_if b) (one_if x)) ≡ (if b then kind_of_sum x y else Free)
asked_by true true true = refl
asked_by true true false = refl
asked_by true false true = refl
asked_by true false false = refl
asked_by false true true = refl
asked_by false true false = refl
asked_by false false true = refl
asked_by false false false = refl

xor_bit : (a c i m n : ℕ) → bit_at a i ≡ m → bit_at c i ≡ n → bit_at (bit_xor (bit_or a c) c) i ≡ asked_bit m n
xor_bit a c i m n h g = bit_at_xor (bit_or a c) c i ∙ ap (λ (t : ℕ). (t + bit_at c i) % 2) (bit_at_or a c i) ∙ ap₂ asked_bit h g

pub asked_word : (settled sums : Bits) → IsAskedOf settled sums (record { plus = bit_xor (bit_or settled.plus sums.minus) sums.minus; minus = bit_xor (bit_or settled.minus sums.plus) sums.plus })
asked_word settled sums i b x y p m u v =
    ap₂ (λ (q r : ℕ). kind_of_bits q r) (xor_bit settled.plus sums.minus i (one_if b) (one_if y) p v) (xor_bit settled.minus sums.plus i (one_if b) (one_if x) m u)
    ∙ asked_by b x y

-- ---- words one after another

-- the words before w are of the form
pub record IsMaking (form : ℕ → Bits → Type 0) (old new : List Bits) (w : ℕ) : Type 0 where
  pub count : length new ≡ length old
  pub each : (v : ℕ) → v < w → form v (word_at new v)

pub making_none : (form : ℕ → Bits → Type 0) (old : List Bits) → IsMaking form old old 0
making_none form old = record { count = refl; each = λ v lt. absurd (omega (arith, lt)) }

pub making_step : (form : ℕ → Bits → Type 0) (old new : List Bits) (w : ℕ) (x : Bits) → w < length old → form w x → IsMaking form old new w → IsMaking form old (set new w x) (w + 1)
making_step form old new w x lt is h = record {
  count = length-set new w x ∙ h.count;
  each = λ v v_lt. elim (eq_or v w) as (λ _. form v (word_at (set new w x) v)) [
    | inl e ↦ subst (λ (u : ℕ). form u (word_at (set new w x) u)) (sym e) (subst (form w) (sym (get_or-set_same new w x none (omega (arith, lt, h.count)))) is)
    | inr ne ↦ subst (form v) (sym (get_or-set_other new w v x none ne)) (h.each v (omega (arith, v_lt, ne)))
  ];
}

pub all_made : (form : ℕ → Bits → Type 0) (old new : List Bits) (w : ℕ) → length old ≤ w → IsMaking form old new w → AreMade form old new
all_made form old new w le h = record { count = h.count; each = λ v lt. h.each v (omega (arith, lt, le)) }

-- ---- all coordinates

column_none : (p : List Sign) → column_kind [] p ≡ ZeroKind
column_none [] = refl
column_none (s ∷ p) = refl

column_at : (m : Mat) (table : List (List Sign)) (p : List Sign) (k : ℕ) → length table ≡ m.cols → k < width m → kind_at (kinds_a_of m table p) k ≡ column_kind (signs_at table k) p
column_at m table p k long lt = elim (lt_or k m.cols) as (λ _. kind_at (kinds_a_of m table p) k ≡ column_kind (signs_at table k) p) [
  | inl inside ↦ column_in_a m table p k (omega (arith, inside, long))
  | inr past ↦ row_in_a m table p m.cols k long past lt ∙ sym (ap (λ (l : List Sign). column_kind l p) (get_or_past table k [] (omega (arith, past, long))) ∙ column_none p)
]

-- the word of a coordinate is there
inside_word : (a : Mat) (words : List Bits) (k : ℕ) → length words ≡ word_count a → k < width a → k / 64 < length words
inside_word a words k long lt = omega (arith, long, lt)

pub no_sums : (a : Mat) (table : List (List Sign)) (old sums : List Bits) → length old ≡ word_count a → AreMade (λ w x. x ≡ none) old sums → AreSums a table [] sums
no_sums a table old sums long h = record {
  plus = λ k lt. ap (λ (b : Bits). bit_at b.plus (k % 64)) (h.each (k / 64) (inside_word a old k long lt)) ∙ bit_at-zero (k % 64) ∙ sym (ap (λ (l : List Sign). one_if (some_sign is_plus l)) (products_none (signs_at table k)));
  minus = λ k lt. ap (λ (b : Bits). bit_at b.minus (k % 64)) (h.each (k / 64) (inside_word a old k long lt)) ∙ bit_at-zero (k % 64) ∙ sym (ap (λ (l : List Sign). one_if (some_sign is_minus l)) (products_none (signs_at table k)));
}

-- the sums with one option more
pub sums_more : (a : Mat) (table : List (List Sign)) (p q : List Sign) (s t : Sign) (signs above old sums : List Bits) → q ≡ p ++ s ∷ [] → t ≡ s → length old ≡ word_count a → AreSums a table p above → AreSignsOf a table (length p) signs
    → AreMade (λ w x. IsExtended (word_at above w) (word_at signs w) t x) old sums → AreSums a table q sums
sums_more a table p q s t signs above old sums e is long h g made = subst (λ (r : List Sign). AreSums a table r sums) (sym (e ∙ ap (λ (u : Sign). p ++ u ∷ []) (sym is))) (record {
  plus = λ k lt.
      let row = signs_at table k in
      (made.each (k / 64) (inside_word a old k long lt)).plus (k % 64) (some_sign is_plus (products row p)) (sign_at row (length p)) (h.plus k lt) (record { plus = g.plus k lt; minus = g.minus k lt })
      ∙ ap one_if (sym (some_more is_plus refl row p t));
  minus = λ k lt.
      let row = signs_at table k in
      (made.each (k / 64) (inside_word a old k long lt)).minus (k % 64) (some_sign is_minus (products row p)) (sign_at row (length p)) (h.minus k lt) (record { plus = g.plus k lt; minus = g.minus k lt })
      ∙ ap one_if (sym (some_more is_minus refl row p t));
})

-- what is asked of the sums of a prefix is what the prefix requires
pub asks_of : (a : Mat) (table : List (List Sign)) (q : List Sign) (settled sums old asked : List Bits) → length table ≡ a.cols → length old ≡ word_count a → AreSums a table q sums → AreSettled a table (length q) settled
    → AreMade (λ w x. IsAskedOf (word_at settled w) (word_at sums w) x) old asked → AskKinds a (kinds_a_of a table q) asked
asks_of a table q settled sums old asked rows long h g made = record {
  count = made.count ∙ long;
  each = λ k lt.
      let row = signs_at table k in
      made.each (k / 64) (inside_word a old k long lt) (k % 64) (all_zero (drop (length q) row)) (some_sign is_plus (products row q)) (some_sign is_minus (products row q)) (g.plus k lt) (g.minus k lt) (h.plus k lt) (h.minus k lt)
      ∙ sym (column_at a table q k rows lt);
}

-- ---- what is kept

pub drop_none : (n : ℕ) → all_zero (drop n []) ≡ true
drop_none zero = refl
drop_none (suc n) = refl

-- past all reactions
pub signs_past : (table : List (List Sign)) (k : ℕ) → length table ≤ k → signs_at table k ≡ []
signs_past table k le = get_or_past table k [] le

pub no_sign : (d : ℕ) → sign_at [] d ≡ Zero
no_sign d = get_or_past [] d Zero (omega arith)

-- the bits of the coordinates before k are put
pub record IsFilling (f g : ℕ → Bool) (words : List Bits) (k : ℕ) : Type 0 where
  pub plus : (j : ℕ) → j < k → plus_at words j ≡ one_if (f j)
  pub minus : (j : ℕ) → j < k → minus_at words j ≡ one_if (g j)

pub filling_none : (f g : ℕ → Bool) (words : List Bits) → IsFilling f g words 0
filling_none f g words = record { plus = λ j lt. absurd (omega (arith, lt)); minus = λ j lt. absurd (omega (arith, lt)) }

pub filling_step : (f g : ℕ → Bool) (old new : List Bits) (k : ℕ) (asked : Asked) → IsPut old k asked new → asked.plus ≡ f k → asked.minus ≡ g k → IsFilling f g old k → IsFilling f g new (k + 1)
filling_step f g old new k asked put p m h = record {
  plus = λ j lt. elim (eq_or j k) as (λ _. plus_at new j ≡ one_if (f j)) [
    | inl e ↦ subst (λ (i : ℕ). plus_at new i ≡ one_if (f i)) (sym e) (put.plus ∙ ap one_if p)
    | inr ne ↦ put.other_plus j ne ∙ h.plus j (omega (arith, lt, ne))
  ];
  minus = λ j lt. elim (eq_or j k) as (λ _. minus_at new j ≡ one_if (g j)) [
    | inl e ↦ subst (λ (i : ℕ). minus_at new i ≡ one_if (g i)) (sym e) (put.minus ∙ ap one_if m)
    | inr ne ↦ put.other_minus j ne ∙ h.minus j (omega (arith, lt, ne))
  ];
}

-- the bits of the coordinates from k on, and below n
pub record IsLeft (f g : ℕ → Bool) (n : ℕ) (words : List Bits) (k : ℕ) : Type 0 where
  pub plus : (j : ℕ) → k ≤ j → j < n → plus_at words j ≡ one_if (f j)
  pub minus : (j : ℕ) → k ≤ j → j < n → minus_at words j ≡ one_if (g j)

pub left_none : (m n : ℕ) (words : List Bits) → words ≡ replicate m none → IsLeft (λ j. false) (λ j. false) n words 0
left_none m n words e =
    let long : length words ≡ m = ap (λ (l : List Bits). length l) e ∙ length-replicate m none in
    let at : (w : ℕ) → word_at words w ≡ none = λ w. elim (lt_or w m) as (λ _. word_at words w ≡ none) [
      | inl lt ↦ ap (λ (l : List Bits). word_at l w) e ∙ get_or-replicate m w none none lt
      | inr past ↦ get_or_past words w none (omega (arith, past, long))
    ] in
    record {
      plus = λ j le lt. ap (λ (b : Bits). bit_at b.plus (j % 64)) (at (j / 64)) ∙ bit_at-zero (j % 64);
      minus = λ j le lt. ap (λ (b : Bits). bit_at b.minus (j % 64)) (at (j / 64)) ∙ bit_at-zero (j % 64);
    }

pub left_step : (f g : ℕ → Bool) (n : ℕ) (old new : List Bits) (k : ℕ) (asked : Asked) → IsPut old k asked new → IsLeft f g n old k → IsLeft f g n new (k + 1)
left_step f g n old new k asked put h = record {
  plus = λ j le lt. put.other_plus j (λ e. omega (arith, le, e)) ∙ h.plus j (omega (arith, le)) lt;
  minus = λ j le lt. put.other_minus j (λ e. omega (arith, le, e)) ∙ h.minus j (omega (arith, le)) lt;
}

-- what is required is as before
pub put_nothing : (words : List Bits) (k : ℕ) (asked : Asked) → plus_at words k ≡ one_if asked.plus → minus_at words k ≡ one_if asked.minus → IsPut words k asked words
put_nothing words k asked p m = record { count = refl; plus = p; minus = m; other_plus = λ j ne. refl; other_minus = λ j ne. refl }

-- no coordinate is settled after fewer than no choices
pub none_settled : (a : Mat) (table : List (List Sign)) (words : List Bits) → length words ≡ word_count a → words ≡ replicate (word_count a) none → AreSettledBelow a table 0 words
none_settled a table words long e =
    let left = left_none (word_count a) (width a) words e in
    record { count = long; plus = λ k lt. left.plus k (omega arith) lt; minus = λ k lt. left.minus k (omega arith) lt }

-- what is settled after n choices is settled after fewer than n + 1
pub settled_next : (a : Mat) (table : List (List Sign)) (n : ℕ) (words : List Bits) → AreSettled a table n words → AreSettledBelow a table (n + 1) words
settled_next a table n words h = subst (λ (m : ℕ). AreSettledBelow a table m words) (sym (add-one n)) (record { count = h.count; plus = h.plus; minus = h.minus })

-- past all reactions no choice has to be made
pub last_past : (table : List (List Sign)) (k : ℕ) → length table ≤ k → IsLast (signs_at table k) 0
last_past table k le = record {
  after = λ n past. ap (λ (l : List Sign). all_zero (drop n l)) (signs_past table k le) ∙ drop_none n;
  before = λ n lt. absurd (omega (arith, lt));
}

-- one choice more settles a coordinate only if its species is the last one with a sign there
pub settled_apart : (table : List (List Sign)) (k n last : ℕ) → IsLast (signs_at table k) last → (n ≡ last → ⊥) → settled_below table n k ≡ all_zero (drop n (signs_at table k))
settled_apart table k zero last h ne = sym (h.before 0 (omega (arith, ne)))
settled_apart table k (suc n) last h ne = elim (lt_or (suc n) last) as (λ _. all_zero (drop n (signs_at table k)) ≡ all_zero (drop (suc n) (signs_at table k))) [
  | inl lt ↦ h.before n (omega (arith, lt)) ∙ sym (h.before (suc n) lt)
  | inr le ↦ h.after n (omega (arith, le, ne)) ∙ sym (h.after (suc n) le)
]

-- what is kept for the numbers of choices before n
pub record AreSoFar (a : Mat) (table : List (List Sign)) (columns : List Chosen) (n : ℕ) : Type 0 where
  pub count : length columns ≡ n
  pub each : (m : ℕ) (c : Chosen) → m < n → get_or columns m c ≡ c → IsChosen a table m c

pub one_more : (a : Mat) (table : List (List Sign)) (old new : List Chosen) (n : ℕ) (x : Chosen) → new ≡ old ++ x ∷ [] → IsChosen a table n x → AreSoFar a table old n → AreSoFar a table new (n + 1)
one_more a table old new n x e is h = record {
  count = ap (λ (l : List Chosen). length l) e ∙ length-append old (x ∷ []) ∙ ap (λ (m : ℕ). m + 1) h.count;
  each = λ m c lt at. elim (eq_or m n) as (λ _. IsChosen a table m c) [
    | inl same ↦
        let z : m - n ≡ 0 = omega (arith, same) in
        let there : get_or new m c ≡ x = ap (λ (l : List Chosen). get_or l m c) e ∙ get_or-append_right old (x ∷ []) n m c h.count (omega (arith, same)) ∙ ap (λ (i : ℕ). get_or (x ∷ []) i c) z in
        subst (λ (i : ℕ). IsChosen a table i c) (sym same) (subst (IsChosen a table n) (sym there ∙ at) is)
    | inr ne ↦
        let before : m < n = omega (arith, lt, ne) in
        h.each m c before (sym (get_or_append_left old (x ∷ []) c m (omega (arith, before, h.count))) ∙ sym (ap (λ (l : List Chosen). get_or l m c) e) ∙ at)
  ];
}
