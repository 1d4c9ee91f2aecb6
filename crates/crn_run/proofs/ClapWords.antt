-- What clap makes of one word, by what the word is: the option, the option with its value, a word that is refused wherever it is, or a value.
-- The bytes of a word need not be UTF-8: a flag word with no first character is a value to clap's pure walk.
use Rattle.crn_run.proofs.Prelude.{◌≡◌, ◌⊎◌, ◌++◌, ℕ, ◌==◌, Bool, true, false, List, [], ◌∷◌, length, Option, Some, None, refl, sym, ap, ◌∙◌, ◌&&◌, ◌||◌, drop, take, not, cond, ◌+◌, one-add, subst, inl, inr, codes, ne_eqb, if◌then◌else◌, option_and_then, unwrap_or, slice_get, encode_utf8, option_map_or, bytes_eq, chars, cases_eq, bytes_eq-Decides, before_first, position_or_len, ErrorKind, has_byte, long_of, name_and_value, long_of_rest, short_of, short_of_rest, strip_byte, Held, after_flag, bundle_step, plain, Row, Rule, Text, Waiting, Walk, arg_by_long, arg_by_short, bundle_met, idle, long_or_other, option, plain_word, positional, settled, short_or_plain, subcommand_or_other, trailing, used, walked, word_met, Shape, new_app, new_rule, with_rule, Kinds, or_else, bundle_fault, bundle_step_fault, long_fault, flag_word_fault, flags_fault, other_fault, settle_fault, short_fault, turn_fault, use_fault, word_fault, Set, is_two_dashes}
use Rattle.clap.specs.Simple.{built}

-- the command, once built
abbrev pub shape : Shape
shape = (built (with_rule (with_rule (with_rule (new_app (codes "crnt"))
    (record (new_rule (codes "command")) { action = Some Set; required = true }))
    (record (new_rule (codes "count")) { action = Some Set }))
    (record (new_rule (codes "budget")) { long = Some (codes "budget"); action = Some Set }))).top

-- its arguments, `--help` among them
abbrev pub rules : List Rule
rules = shape.rules

-- the walk holds these rows, with this argument pending
abbrev pub holding : List Row → Option (Text × List Text) → Held
holding rows p = record { rows = rows; pending = p; skip = 0 }

-- the walk between two words, with no `--` met
abbrev pub at : List Row → Option (Text × List Text) → Waiting → ℕ → Walk
at rows p w pos = record { held = holding rows p; waiting = w; position = pos; is_trailing = false; stopped = None }

-- ---- faults one by one

pub first_none : (a b : Kinds) → or_else a b ≡ [] → a ≡ []
first_none [] b e = refl
first_none (k ∷ ks) b e = absurd cc

pub second_none : (a b : Kinds) → or_else a b ≡ [] → b ≡ []
second_none [] b e = e
second_none (k ∷ ks) b e = absurd cc

pub some_fault : {k : ErrorKind} {ks : Kinds} → k ∷ ks ≡ [] → ⊥
some_fault e = cc

pub none_then : (a b : Kinds) → a ≡ [] → b ≡ [] → or_else a b ≡ []
none_then a b e f = ap (λ (x : Kinds). or_else x b) e ∙ f

-- ---- `--budget`

abbrev pub parted : Text
parted = codes "--budget"

abbrev pub budget : Text
budget = codes "budget"

pub parted_fault : (rows : List Row) (p : Option (Text × List Text)) (w : Waiting) (pos : ℕ) → turn_fault shape [] (at rows p w pos) parted ≡ or_else (settle_fault rules false (holding rows p)) []
parted_fault rows p idle pos = refl
parted_fault rows p (option id) pos = refl
parted_fault rows p positional pos = refl

pub parted_walked : (rows : List Row) (p : Option (Text × List Text)) (w : Waiting) (pos : ℕ) → walked rules [] (at rows p w pos) parted ≡ at (settled rules (holding rows p)).rows (Some (budget, [])) (option budget) pos
unfolding walked
parted_walked rows p idle pos = refl
parted_walked rows p (option id) pos = refl
parted_walked rows p positional pos = refl

-- ---- `--budget=VALUE`

abbrev pub joined : Text → Text
joined v = codes "--budget=" ++ v

abbrev pub budget_rule : Rule
budget_rule = unwrap_or (arg_by_long rules budget) (new_rule [])

pub joined_fault : (rows : List Row) (p : Option (Text × List Text)) (w : Waiting) (pos : ℕ) (v : Text)
    → turn_fault shape [] (at rows p w pos) (joined v) ≡ or_else (or_else (settle_fault rules false (holding rows p)) (use_fault false budget_rule (v ∷ []) (settled rules (holding rows p)).rows)) []
joined_fault rows p idle pos v = refl
joined_fault rows p (option id) pos v = refl
joined_fault rows p positional pos v = refl

pub joined_walked : (rows : List Row) (p : Option (Text × List Text)) (w : Waiting) (pos : ℕ) (v : Text)
    → walked rules [] (at rows p w pos) (joined v) ≡ at (used budget_rule (v ∷ []) (settled rules (holding rows p)).rows) None idle pos
unfolding walked
joined_walked rows p idle pos v = refl
joined_walked rows p (option id) pos v = refl
joined_walked rows p positional pos v = refl

abbrev pub help_built : Rule
help_built = unwrap_or (arg_by_long rules (codes "help")) (new_rule [])

-- ---- a word that clap refuses wherever it is, and one that is a value wherever it is

abbrev pub IsBad : Text → Type 0
IsBad word = (rows : List Row) (p : Option (Text × List Text)) (w : Waiting) (pos : ℕ) → turn_fault shape [] (at rows p w pos) word ≡ [] → ⊥

abbrev pub IsValue : Text → Type 0
IsValue word = (rows : List Row) (p : Option (Text × List Text)) (w : Waiting) (pos : ℕ)
    → (word_fault shape [] false w word (holding rows p) ≡ []) × (word_met rules [] false w pos word (holding rows p) ≡ plain_word rules w word (holding rows p))

-- no long flag, and what follows a hyphen is no fault and no flag
value_by : (word : Text) → bytes_eq word (45 ∷ 45 ∷ []) ≡ false → long_of word ≡ None
    → ((rows : List Row) (p : Option (Text × List Text)) → option_map_or (λ flags. bundle_fault rules false flags (holding rows p)) (short_of word) [] ≡ [])
    → ((rows : List Row) (p : Option (Text × List Text)) (v : Waiting) → short_or_plain rules v word (short_of word) (holding rows p) ≡ plain_word rules v word (holding rows p))
    → IsValue word
value_by word d l quiet whole rows p w pos = go w
  where
    fault : other_fault shape None word (holding rows p) ≡ []
    fault = ap (λ (b : Bool). if b then [] else flag_word_fault rules false (long_of word) word (holding rows p)) d
        ∙ ap (λ (o : Option (Text × Option Text)). flag_word_fault rules false o word (holding rows p)) l
        ∙ quiet rows p

    met : (v : Waiting) → subcommand_or_other rules None v pos word (holding rows p) ≡ plain_word rules v word (holding rows p)
    met v = ap (λ (b : Bool). if b then (holding rows p, trailing pos) else long_or_other rules v word (long_of word) (holding rows p)) d
        ∙ ap (λ (o : Option (Text × Option Text)). long_or_other rules v word o (holding rows p)) l
        ∙ whole rows p v

    go : (v : Waiting) → (word_fault shape [] false v word (holding rows p) ≡ []) × (word_met rules [] false v pos word (holding rows p) ≡ plain_word rules v word (holding rows p))
    go idle = (fault, met idle)
    go (option id) = (fault, met (option id))
    go positional = (fault, met positional)

-- neither a long flag, nor a short one
pub value_of : (word : Text) → bytes_eq word (45 ∷ 45 ∷ []) ≡ false → long_of word ≡ None → short_of word ≡ None → IsValue word
value_of word d l s = value_by word d l
    (λ rows p. ap (λ (o : Option Text). option_map_or (λ flags. bundle_fault rules false flags (holding rows p)) o []) s)
    (λ rows p v. ap (λ (o : Option Text). short_or_plain rules v word o (holding rows p)) s)

-- a flag word that has a fault wherever it is
bad_of : (word : Text) → ((rows : List Row) (p : Option (Text × List Text)) → other_fault shape None word (holding rows p) ≡ [] → ⊥) → IsBad word
bad_of word faulty rows p idle pos e = faulty rows p (first_none _ _ e)
bad_of word faulty rows p (option id) pos e = faulty rows p (first_none _ _ e)
bad_of word faulty rows p positional pos e = faulty rows p (first_none _ _ e)

abbrev pub Kind : Text → Type 0
Kind word = (word ≡ parted) ⊎ ((v : Text) × (word ≡ joined v)) ⊎ IsBad word ⊎ IsValue word

-- `-FLAGS`: no flag is short but `-h`, which asks for help
short_faulty : (x : ℕ) (rest : Text) (h : Held) (next : Held → Kinds) → short_fault rules false (arg_by_short rules x) rest h next ≡ [] → ⊥
short_faulty x rest h next e = go (104 == x) e
  where
    go : (b : Bool) → short_fault rules false (if (b || false) then Some help_built else None) rest h next ≡ [] → ⊥
    go true e = some_fault (second_none _ _ (first_none _ _ e))
    go false e = some_fault e

-- if the bytes spell a character, the first one says what it is
flags_kind : (y : ℕ) (ys : Text) (o : Option ℕ) → slice_get (chars (y ∷ ys)) 0 ≡ o → long_of (45 ∷ y ∷ ys) ≡ None → short_of (45 ∷ y ∷ ys) ≡ Some (y ∷ ys) → bytes_eq (45 ∷ y ∷ ys) (45 ∷ 45 ∷ []) ≡ false → Kind (45 ∷ y ∷ ys)
unfolding flags_fault bundle_met
flags_kind y ys None first l s d =
    inr (inr (inr (value_by (45 ∷ y ∷ ys) d l
    (λ rows p. ap (λ (o : Option Text). option_map_or (λ flags. bundle_fault rules false flags (holding rows p)) o []) s
    ∙ ap (λ (o : Option ℕ). bundle_step_fault rules false o (y ∷ ys) 0 (holding rows p) (flags_fault rules false (length ys))) first)
    (λ rows p v. ap (λ (o : Option Text). short_or_plain rules v (45 ∷ y ∷ ys) o (holding rows p)) s
    ∙ ap (λ (o : Option ℕ). after_flag rules v (45 ∷ y ∷ ys) (bundle_step rules o (y ∷ ys) 0 plain (holding rows p) (bundle_met rules (length ys))).0 (bundle_step rules o (y ∷ ys) 0 plain (holding rows p) (bundle_met rules (length ys))).1) first))))
flags_kind y ys (Some x) first l s d = inr (inr (inl (bad_of (45 ∷ y ∷ ys) (λ rows p e.
    let rest : Text = drop (length (encode_utf8 x)) (y ∷ ys) in
    let same : other_fault shape None (45 ∷ y ∷ ys) (holding rows p) ≡ short_fault rules false (arg_by_short rules x) rest (holding rows p) (flags_fault rules false (length ys) rest 0) =
    ap (λ (b : Bool). if b then [] else flag_word_fault rules false (long_of (45 ∷ y ∷ ys)) (45 ∷ y ∷ ys) (holding rows p)) d
    ∙ ap (λ (o : Option (Text × Option Text)). flag_word_fault rules false o (45 ∷ y ∷ ys) (holding rows p)) l
    ∙ ap (λ (o : Option Text). option_map_or (λ flags. bundle_fault rules false flags (holding rows p)) o []) s
    ∙ ap (λ (o : Option ℕ). bundle_step_fault rules false o (y ∷ ys) 0 (holding rows p) (flags_fault rules false (length ys))) first in
    short_faulty x rest (holding rows p) (flags_fault rules false (length ys) rest 0) (sym same ∙ e)))))

short_kind : (y : ℕ) (ys : Text) → (y == 45) ≡ false → Kind (45 ∷ y ∷ ys)
short_kind y ys ne = flags_kind y ys _ refl
    (ap (λ (b : Bool). option_and_then long_of_rest (if b then Some ys else None)) ne)
    (ap (λ (b : Bool). if b then None else Some (y ∷ ys)) ne)
    (ap (λ (b : Bool). true && (b && bytes_eq ys [])) ne)

-- a text, split at its first `=`
abbrev Cut : Text → Type 0
Cut xs = (has_byte 61 xs ≡ true → (v : Text) × (xs ≡ before_first (λ x. x == 61) xs ++ 61 ∷ v)) × (has_byte 61 xs ≡ false → before_first (λ x. x == 61) xs ≡ xs)

cut : (xs : Text) → Cut xs
cut [] = (λ e. absurd (let h : false ≡ true = e in cc), λ e. refl)
cut (x ∷ xs) = elim (cases_eq x 61) [
  | inl e ↦ subst Cut (ap (λ (n : ℕ). n ∷ xs) (sym e)) (λ _. (xs, refl), λ f. absurd (let h : true ≡ false = f in cc))
  | inr ne ↦
      let later = cut xs in
      let n = position_or_len (λ y. y == 61) xs in
      let one : take (1 + n) (x ∷ xs) ≡ x ∷ take n xs = ap (λ (m : ℕ). take m (x ∷ xs)) (one-add n) in
      subst (λ (b : Bool). ((b || has_byte 61 xs) ≡ true → (v : Text) × (x ∷ xs ≡ take (cond (not b) (1 + position_or_len (λ y. y == 61) xs) 0) (x ∷ xs) ++ 61 ∷ v))
      × ((b || has_byte 61 xs) ≡ false → take (cond (not b) (1 + position_or_len (λ y. y == 61) xs) 0) (x ∷ xs) ≡ x ∷ xs)) (sym (ne_eqb x 61 ne))
      (λ has. let c = later.0 has in (c.0, ap (λ (t : Text). x ∷ t) c.1 ∙ ap (λ (t : Text). t ++ 61 ∷ c.0) (sym one)), λ has. one ∙ ap (λ (t : Text). x ∷ t) (later.1 has))
]

-- `--NAME` and `--NAME=VALUE`
help_faulty : (b : Bool) (v : Option Text) (h : Held) → long_fault rules false (if (b || false) then Some help_built else None) v h ≡ [] → ⊥
help_faulty true (Some v) h e = some_fault e
help_faulty true None h e = some_fault (second_none _ _ e)
help_faulty false v h e = some_fault e

abbrev name_in : Text → Text
name_in = before_first (λ x. x == 61)

long_kind : (z : ℕ) (zs : Text) → Kind (45 ∷ 45 ∷ z ∷ zs)
long_kind z zs = go (bytes_eq budget (name_in (z ∷ zs))) refl
  where
    valued : (b : Bool) → has_byte 61 (z ∷ zs) ≡ b → (name_in (z ∷ zs)) ≡ budget → Kind (45 ∷ 45 ∷ z ∷ zs)
    valued true has is =
        let c = (cut (z ∷ zs)).0 has in
        inr (inl (c.0, ap (λ (t : Text). 45 ∷ 45 ∷ t) (c.1 ∙ ap (λ (t : Text). t ++ 61 ∷ c.0) is)))
    valued false has is = inl (ap (λ (t : Text). 45 ∷ 45 ∷ t) (sym ((cut (z ∷ zs)).1 has) ∙ is))

    go : (b : Bool) → bytes_eq budget (name_in (z ∷ zs)) ≡ b → Kind (45 ∷ 45 ∷ z ∷ zs)
    go true e = valued (has_byte 61 (z ∷ zs)) refl (sym ((bytes_eq-Decides budget (name_in (z ∷ zs))).0 e))
    go false e = inr (inr (inl (bad_of (45 ∷ 45 ∷ z ∷ zs) (λ rows p f.
        help_faulty (bytes_eq (codes "help") (name_in (z ∷ zs))) (name_and_value (z ∷ zs)).1 (holding rows p)
        (sym (ap (λ (b : Bool). long_fault rules false (if (b || false) then Some budget_rule else if (bytes_eq (codes "help") (name_in (z ∷ zs)) || false) then Some help_built else None) (name_and_value (z ∷ zs)).1 (holding rows p)) e) ∙ f)))))

-- every word but `--` is of one kind
pub kind : (word : Text) → is_two_dashes word ≡ false → Kind word
kind [] d = inr (inr (inr (value_of [] d refl refl)))
kind (x ∷ xs) d = elim (cases_eq x 45) [
  | inl e ↦ subst Kind (ap (λ (n : ℕ). n ∷ xs) (sym e)) (dash xs (subst (λ (n : ℕ). is_two_dashes (n ∷ xs) ≡ false) e d))
  | inr ne ↦
      let no = ne_eqb x 45 ne in
      inr (inr (inr (value_of (x ∷ xs) d (ap (λ (b : Bool). option_and_then long_of_rest (option_and_then (strip_byte 45) (if b then Some xs else None))) no) (ap (λ (b : Bool). option_and_then short_of_rest (if b then Some xs else None)) no))))
]
  where
    dash : (ys : Text) → is_two_dashes (45 ∷ ys) ≡ false → Kind (45 ∷ ys)
    dash [] d = inr (inr (inr (value_of (45 ∷ []) refl refl refl)))
    dash (y ∷ ys) d = elim (cases_eq y 45) [
      | inl e ↦ subst Kind (ap (λ (n : ℕ). 45 ∷ n ∷ ys) (sym e)) (two ys (subst (λ (n : ℕ). is_two_dashes (45 ∷ n ∷ ys) ≡ false) e d))
      | inr ne ↦ short_kind y ys (ne_eqb y 45 ne)
    ]
      where
        two : (zs : Text) → is_two_dashes (45 ∷ 45 ∷ zs) ≡ false → Kind (45 ∷ 45 ∷ zs)
        two [] d = absurd (let h : true ≡ false = d in cc)
        two (z ∷ zs) d = long_kind z zs
