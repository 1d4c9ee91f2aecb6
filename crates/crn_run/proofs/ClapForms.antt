-- What clap makes of the words of a command, and of words without a fault.
use Rattle.crn_run.proofs.Prelude.{◌≡◌, ◌⊎◌, ◌<◌, ◌+◌, ◌++◌, ℕ, Bool, true, false, List, [], ◌∷◌, Option, Some, None, refl, sym, ap, ap₂, ◌∙◌, subst, inl, inr, codes, length, ne_eqb, eqb-true, arith, ◌==◌, ◌&&◌, ◌||◌, fold, is_some, if◌then◌else◌, option_and_then, list_all, list_any, IsNumeral, clap_on_literals, digit_value, bytes_eq, long_of_rest, short_of_rest, strip_byte, both, Held, default_rows, has_row, is_empty, reading_by, Row, Rule, Text, Walk, finished, first_of, idle, waits_for, nothing_held, settled, used, walk_from, walked, with_default, entered, Kinds, or_else, check_fault, defaults_fault, entered_fault, settle_fault, turn_fault, use_fault, walk_fault, fault_of, matches_of, Gives, IsRead, crnt_app, is_two_dashes, AreWithBudget, WriteBudget, part_name, PartName, Persist, Robust, Decomposition, Endo, head_is, tail_is}
use Rattle.std.specs.Prelude.{drop}
use Rattle.clap.specs.Simple.{built}
use Rattle.crn_run.proofs.ClapWords.{IsValue, at, budget, budget_rule, first_none, holding, joined, joined_fault, joined_walked, none_then, parted, parted_fault, parted_walked, rules, second_none, shape, value_of}
use Rattle.crn_run.proofs.ClapSteps.{IsPlace, first_place, second_place, waiting_fault, waiting_walked}
use Rattle.crn_run.proofs.ClapReads.{Asked, SayAsked, reads_asked, rows_in, words_of}

-- ---- from the walk to the parse

-- where the walk over these words stops
abbrev last : List Text → Walk
last words = fold (walked rules []) (walk_from nothing_held) words

-- the faults of a parse, by those of its walk and where it stopped
abbrev faults_at : Kinds → Walk → Kinds
unfolding crnt_app
faults_at walk w = or_else walk (or_else (entered_fault (built crnt_app) w.stopped) (or_else (settle_fault rules false w.held)
    (or_else (defaults_fault (settled rules w.held).rows rules) (check_fault shape (finished rules w.held) (is_some (entered (built crnt_app) w.stopped))))))

faults_of_walk : (program : Text) (words : List Text) → fault_of crnt_app (program ∷ words) ≡ faults_at (walk_fault shape [] (walk_from nothing_held) words) (last words)
unfolding crnt_app
faults_of_walk program words = refl

rows_of_walk : (program : Text) (words : List Text) → matches_of crnt_app (program ∷ words) ≡ finished rules (last words).held
unfolding crnt_app
rows_of_walk program words = refl

-- no argument has a default
default_is_none : (rows : List Row) (a : Rule) → is_empty a.defaults ≡ true → with_default rows a ≡ rows
default_is_none rows a e = go (has_row a.id rows) a.defaults e
  where
    go : (b : Bool) (ds : List Text) → is_empty ds ≡ true → (if b then rows else default_rows a.id (reading_by a) ds rows) ≡ rows
    go true ds e = refl
    go false [] e = refl
    go false (d ∷ ds) e = absurd (let h = eqb-true (length (d ∷ ds)) 0 e in omega arith)

defaults_are_none : (rows : List Row) (args : List Rule) → list_all (λ a. is_empty a.defaults) args ≡ true → fold with_default rows args ≡ rows
defaults_are_none rows [] e = refl
defaults_are_none rows (a ∷ args) e =
    ap (λ (rs : List Row). fold with_default rs args) (default_is_none rows a (both _ _ e).0) ∙ defaults_are_none rows args (both _ _ e).1

finished_is : (h : Held) → finished rules h ≡ rows_in h
finished_is h = defaults_are_none (rows_in h) rules refl

-- ---- words that clap reads, with the values that are asked

pub read_is_asked : (words : List Text) (b : Option Text) (ask : Asked) → list_any is_two_dashes (drop 1 words) ≡ false → IsRead words
    → Gives words (Some ask.name) ask.count b → ask.budget_is b → (program : Text) × (rest : List Text) × (words ≡ program ∷ rest) × SayAsked ask rest
unfolding IsRead Gives crnt_app
read_is_asked [] b ask plain read gives means = absurd (let none : None ≡ Some ask.name = gives.0 in cc)
read_is_asked (program ∷ rest) b ask plain read gives means = (
  program,
  rest,
  refl,
  reads_asked ask rest (record {
    plain = plain;
    quiet = first_none _ _ faults;
    settles = first_none _ _ (second_none _ _ (second_none _ _ faults));
    gives = (at_id (codes "command") _ gives.0, at_id (codes "count") _ gives.1, subst ask.budget_is (sym (at_id (codes "budget") _ gives.2)) means);
  }),
)
  where
    faults : faults_at (walk_fault shape [] (walk_from nothing_held) rest) (last rest) ≡ []
    faults = sym (faults_of_walk program rest) ∙ read

    at_id : (id : Text) (o : Option Text) → first_of id (matches_of crnt_app (program ∷ rest)) ≡ o → first_of id (rows_in (last rest).held) ≡ o
    at_id id o e = ap (first_of id) (sym (rows_of_walk program rest ∙ finished_is (last rest).held)) ∙ e

-- ---- the words of a command

-- the words lead from one walk to another without a fault, and none of them is `--`
record Leads (from : Walk) (words : List Text) (to : Walk) : Type 0 where
  pub plain : list_any is_two_dashes words ≡ false
  pub quiet : walk_fault shape [] from words ≡ []
  pub stop : fold (walked rules []) from words ≡ to

no_words : (w : Walk) → Leads w [] w
unfolding walk_fault
no_words w = record { plain = refl; quiet = refl; stop = refl }

-- a word more
word_leads : (from next to : Walk) (word : Text) (rest : List Text) → is_two_dashes word ≡ false → turn_fault shape [] from word ≡ [] → walked rules [] from word ≡ next
    → Leads next rest to → Leads from (word ∷ rest) to
unfolding walk_fault
word_leads from next to word rest plain quiet step l = record {
  plain = ap (λ (b : Bool). b || list_any is_two_dashes rest) plain ∙ l.plain;
  quiet = none_then _ _ quiet (ap (λ (w : Walk). walk_fault shape [] w rest) step ∙ l.quiet);
  stop = ap (λ (w : Walk). fold (walked rules []) w rest) step ∙ l.stop;
}

-- a word that is a value, and not `--`
abbrev pub IsPlain : Text → Type 0
IsPlain word = (is_two_dashes word ≡ false) × IsValue word

-- digits are a value
pub digits_are : (n : Text) → IsNumeral 10 n → IsPlain n
digits_are [] h = absurd (omega (arith, h.0))
digits_are (d ∷ ds) h =
    let first : (d == 45) ≡ false = ne_eqb d 45 (λ e. let low : digit_value 45 < 10 = subst (λ (x : ℕ). digit_value x < 10) e h.1.0 in absurd (omega arith)) in
    let plain : is_two_dashes (d ∷ ds) ≡ false = ap (λ (b : Bool). b && bytes_eq ds (45 ∷ [])) first in
    (plain, value_of (d ∷ ds) plain (ap (λ (b : Bool). option_and_then long_of_rest (option_and_then (strip_byte 45) (if b then Some ds else None))) first) (ap (λ (b : Bool). option_and_then short_of_rest (if b then Some ds else None)) first))

-- the names of commands are values
pub report_plain : IsPlain (codes "report")
report_plain = (refl, value_of (codes "report") refl refl refl)

pub certify_plain : IsPlain (codes "certify")
certify_plain = (refl, value_of (codes "certify") refl refl refl)

pub check_plain : IsPlain (codes "check")
check_plain = (refl, value_of (codes "check") refl refl refl)

pub sample_plain : IsPlain (codes "sample")
sample_plain = (refl, value_of (codes "sample") refl refl refl)

pub prove_plain : IsPlain (codes "prove")
prove_plain = (refl, value_of (codes "prove") refl refl refl)

pub verify_plain : IsPlain (codes "verify")
verify_plain = (refl, value_of (codes "verify") refl refl refl)

-- so are those of parts
pub part_plain : (part : PartName) → IsPlain (part_name part)
part_plain Persist = (refl, value_of (codes "persist") refl refl refl)
part_plain Robust = (refl, value_of (codes "robust") refl refl refl)
part_plain Decomposition = (refl, value_of (codes "parts") refl refl refl)
part_plain Endo = (refl, value_of (codes "endo") refl refl refl)

-- a count is a value, if there is one
abbrev pub IsPlainIfSome : Option Text → Type 0
IsPlainIfSome None = Unit {0}
IsPlainIfSome (Some k) = IsPlain k

-- the rows that are held once a value is at a place
abbrev With : List Row → Text → Text → List Row
With rows id v = rows_in (holding rows (Some (id, v ∷ [])))

-- the words lead to a walk between two words, which holds these rows, with no fault in what is pending
record Ends (from : Walk) (words : List Text) (held : List Row) : Type 0 where
  rows : List Row
  p : Option (Text × List Text)
  pos : ℕ
  leads : Leads from words (at rows p idle pos)
  is : rows_in (holding rows p) ≡ held
  quiet : settle_fault rules false (holding rows p) ≡ []

ends_here : (rows held : List Row) (p : Option (Text × List Text)) (pos : ℕ) → rows_in (holding rows p) ≡ held → settle_fault rules false (holding rows p) ≡ [] → Ends (at rows p idle pos) [] held
ends_here rows held p pos e quiet = record { rows = rows; p = p; pos = pos; leads = no_words (at rows p idle pos); is = e; quiet = quiet }

-- a word more
ends_after : (from mid : Walk) (word : Text) (rest : List Text) (held : List Row) → is_two_dashes word ≡ false → turn_fault shape [] from word ≡ [] → walked rules [] from word ≡ mid → Ends mid rest held → Ends from (word ∷ rest) held
ends_after from mid word rest held plain quiet step l = record { rows = l.rows; p = l.p; pos = l.pos; leads = word_leads from mid (at l.rows l.p idle l.pos) word rest plain quiet step l.leads; is = l.is; quiet = l.quiet }

-- a value at a place
value_ends : (pos : ℕ) (id : Text) → IsPlace pos id → (rows mid : List Row) (p : Option (Text × List Text)) (v : Text) (rest : List Text) (held : List Row) → IsPlain v → rows_in (holding rows p) ≡ mid
    → settle_fault rules false (holding rows p) ≡ [] → Ends (at mid (Some (id, v ∷ [])) idle (pos + 1)) rest held → Ends (at rows p idle pos) (v ∷ rest) held
value_ends pos id place rows mid p v rest held is e quiet l =
    ends_after (at rows p idle pos) (at mid (Some (id, v ∷ [])) idle (pos + 1)) v rest held is.0 (place.fault rows p v is.1 ∙ quiet)
    (place.walked rows p v is.1 ∙ ap (λ (rs : List Row). at rs (Some (id, v ∷ [])) idle (pos + 1)) e) l

-- the rows of a command, and of a command with its count if there is one
abbrev Named : List Row → Text → Option Text → List Row
Named rows c None = With rows (codes "command") c
Named rows c (Some k) = With (With rows (codes "command") c) (codes "count") k

count_ends : (rows mid : List Row) (p : Option (Text × List Text)) (k : Text) → IsPlain k → rows_in (holding rows p) ≡ mid → settle_fault rules false (holding rows p) ≡ []
    → settle_fault rules false (holding mid (Some (codes "count", k ∷ []))) ≡ [] → Ends (at rows p idle 2) (k ∷ []) (With mid (codes "count") k)
count_ends rows mid p k is e quiet more = value_ends 2 (codes "count") second_place rows mid p k [] _ is e quiet (ends_here mid _ (Some (codes "count", k ∷ [])) 3 refl more)

-- a command, and its count if there is one
named_ends : (rows mid : List Row) (p : Option (Text × List Text)) (c : Text) (o : Option Text) → IsPlain c → IsPlainIfSome o → rows_in (holding rows p) ≡ mid → settle_fault rules false (holding rows p) ≡ []
    → settle_fault rules false (holding mid (Some (codes "command", c ∷ []))) ≡ [] → ((k : Text) → settle_fault rules false (holding (With mid (codes "command") c) (Some (codes "count", k ∷ []))) ≡ [])
    → Ends (at rows p idle 1) (words_of c o) (Named mid c o)
named_ends rows mid p c None is count e quiet first later = value_ends 1 (codes "command") first_place rows mid p c [] _ is e quiet (ends_here mid _ (Some (codes "command", c ∷ [])) 2 refl first)
named_ends rows mid p c (Some k) is count e quiet first later =
    value_ends 1 (codes "command") first_place rows mid p c (k ∷ []) _ is e quiet (count_ends mid (With mid (codes "command") c) (Some (codes "command", c ∷ [])) k count refl first (later k))

-- where the words after a budget lead
abbrev Goes : ℕ → List Row → List Text → List Row → Type 0
Goes pos mid rest held = (rows : List Row) (p : Option (Text × List Text)) → rows_in (holding rows p) ≡ mid → settle_fault rules false (holding rows p) ≡ [] → Ends (at rows p idle pos) rest held

-- a budget
budget_ends : (rows mid : List Row) (p : Option (Text × List Text)) (pos : ℕ) (n : Text) (option rest : List Text) (held : List Row) → WriteBudget n option → IsPlain n → rows_in (holding rows p) ≡ mid
    → settle_fault rules false (holding rows p) ≡ [] → use_fault false budget_rule (n ∷ []) mid ≡ [] → Goes pos (used budget_rule (n ∷ []) mid) rest held → Ends (at rows p idle pos) (option ++ rest) held
budget_ends rows mid p pos n option rest held (inl is) d e quiet fresh goes =
    let waits = at mid (Some (budget, [])) (waits_for budget) pos in
    let has = at mid (Some (budget, n ∷ [])) idle pos in
    rw is (ends_after (at rows p idle pos) waits parted (n ∷ rest) held refl (parted_fault rows p idle pos ∙ none_then _ _ quiet refl)
    (parted_walked rows p idle pos ∙ ap (λ (rs : List Row). at rs (Some (budget, [])) (waits_for budget) pos) e)
    (ends_after waits has n rest held d.0 (waiting_fault mid pos n d.1) (waiting_walked mid pos n d.1) (goes mid (Some (budget, n ∷ [])) refl fresh)))
budget_ends rows mid p pos n option rest held (inr is) d e quiet fresh goes =
    let has = at (used budget_rule (n ∷ []) mid) None idle pos in
    rw is (ends_after (at rows p idle pos) has (joined n) rest held refl
    (joined_fault rows p idle pos n ∙ none_then _ _ (none_then _ _ quiet (ap (use_fault false budget_rule (n ∷ [])) e ∙ fresh)) refl)
    (joined_walked rows p idle pos n ∙ ap (λ (rs : List Row). at (used budget_rule (n ∷ []) rs) None idle pos) e)
    (goes (used budget_rule (n ∷ []) mid) None refl refl))

-- what clap makes of words that lead to such a place
abbrev pub IsReadAs : Text → Option Text → Text → List Text → Option Text → Type 0
IsReadAs c o program words b = (list_any is_two_dashes words ≡ false) × IsRead (program ∷ words) × Gives (program ∷ words) (Some c) o b

-- the faults of a parse that ends with these rows
abbrev last_fault : List Row → Kinds
unfolding crnt_app
last_fault held = or_else (defaults_fault held rules) (check_fault shape held (is_some (entered (built crnt_app) None)))

quiet_end : (rows held : List Row) (p : Option (Text × List Text)) (pos : ℕ) → rows_in (holding rows p) ≡ held → settle_fault rules false (holding rows p) ≡ [] → last_fault held ≡ [] → faults_at [] (at rows p idle pos) ≡ []
unfolding clap_on_literals crnt_app
quiet_end rows held p pos e settles quiet =
    ap (λ (k : Kinds). or_else k (or_else (defaults_fault (rows_in (holding rows p)) rules) (check_fault shape (finished rules (holding rows p)) (is_some (entered (built crnt_app) None))))) settles
    ∙ ap₂ (λ (ds rs : List Row). or_else (defaults_fault ds rules) (check_fault shape rs (is_some (entered (built crnt_app) None)))) e (finished_is (holding rows p) ∙ e) ∙ quiet

read_as : (c program : Text) (o : Option Text) (words : List Text) (held : List Row) (b : Option Text) → Ends (walk_from nothing_held) words held → last_fault held ≡ [] → first_of (codes "command") held ≡ Some c
    → first_of (codes "count") held ≡ o → first_of (codes "budget") held ≡ b → IsReadAs c o program words b
unfolding IsRead Gives
read_as c program o words held b l quiet command count value =
    (l.leads.plain, faults_of_walk program words ∙ ap₂ faults_at l.leads.quiet l.leads.stop ∙ quiet_end l.rows held l.p l.pos l.is l.quiet quiet, (at_id (codes "command") _ command, at_id (codes "count") _ count, at_id (codes "budget") _ value))
  where
    at_id : (id : Text) (v : Option Text) → first_of id held ≡ v → first_of id (matches_of crnt_app (program ∷ words)) ≡ v
    at_id id v e = ap (first_of id) (rows_of_walk program words ∙ finished_is (last words).held ∙ ap (λ (w : Walk). rows_in w.held) l.leads.stop ∙ l.is) ∙ e

pub name_is_read : (c program : Text) (o : Option Text) → IsPlain c → IsPlainIfSome o → IsReadAs c o program (words_of c o) None
unfolding clap_on_literals crnt_app
name_is_read c program None is count = read_as c program None _ (Named [] c None) None (named_ends [] [] None c None is count refl refl refl (λ k. refl)) refl refl refl refl
name_is_read c program (Some k) is count = read_as c program (Some k) _ (Named [] c (Some k)) None (named_ends [] [] None c (Some k) is count refl refl refl (λ k. refl)) refl refl refl refl

-- ---- the places of a budget

parts_of_one : (c : Text) (before after : List Text) → c ∷ [] ≡ before ++ after → ((before ≡ []) × (after ≡ c ∷ [])) ⊎ ((before ≡ c ∷ []) × (after ≡ []))
parts_of_one c [] after e = inl (refl, sym e)
parts_of_one c (x ∷ []) after e = inr (ap (λ (t : Text). t ∷ []) (sym (head_is _ _ _ _ e)), sym (tail_is _ _ _ _ e))
parts_of_one c (x ∷ y ∷ ys) after e = absurd (let h : [] ≡ y ∷ (ys ++ after) = tail_is _ _ _ _ e in cc)

parts_of_two : (c k : Text) (before after : List Text) → c ∷ k ∷ [] ≡ before ++ after
    → ((before ≡ []) × (after ≡ c ∷ k ∷ [])) ⊎ ((before ≡ c ∷ []) × (after ≡ k ∷ [])) ⊎ ((before ≡ c ∷ k ∷ []) × (after ≡ []))
parts_of_two c k [] after e = inl (refl, sym e)
parts_of_two c k (x ∷ xs) after e = elim (parts_of_one k xs after (tail_is _ _ _ _ e)) [
  | inl (a, b) ↦ inr (inl (ap₂ (λ (t : Text) (ts : List Text). t ∷ ts) (sym (head_is _ _ _ _ e)) a, b))
  | inr (a, b) ↦ inr (inr (ap₂ (λ (t : Text) (ts : List Text). t ∷ ts) (sym (head_is _ _ _ _ e)) a, b))
]

-- words with a budget before, between or after them
first_is_read : (c program n : Text) (o : Option Text) (option : List Text) → IsPlain c → IsPlainIfSome o → IsPlain n → WriteBudget n option → IsReadAs c o program (option ++ words_of c o) (Some n)
unfolding clap_on_literals crnt_app
first_is_read c program n None option is count d w =
    read_as c program None _ (Named (used budget_rule (n ∷ []) []) c None) (Some n)
    (budget_ends [] [] None 1 n option (c ∷ []) _ w d refl refl refl (λ rows p e quiet. named_ends rows (used budget_rule (n ∷ []) []) p c None is count e quiet refl (λ k. refl))) refl refl refl refl
first_is_read c program n (Some k) option is count d w =
    read_as c program (Some k) _ (Named (used budget_rule (n ∷ []) []) c (Some k)) (Some n)
    (budget_ends [] [] None 1 n option (c ∷ k ∷ []) _ w d refl refl refl (λ rows p e quiet. named_ends rows (used budget_rule (n ∷ []) []) p c (Some k) is count e quiet refl (λ k. refl))) refl refl refl refl

last_is_read : (c program n : Text) (option : List Text) → IsPlain c → IsPlain n → WriteBudget n option → IsReadAs c None program (c ∷ (option ++ [])) (Some n)
unfolding clap_on_literals crnt_app
last_is_read c program n option is d w =
    read_as c program None _ (used budget_rule (n ∷ []) (With [] (codes "command") c)) (Some n)
    (value_ends 1 (codes "command") first_place [] [] None c (option ++ []) _ is refl refl
    (budget_ends [] (With [] (codes "command") c) (Some (codes "command", c ∷ [])) 2 n option [] _ w d refl refl refl (λ rows p e quiet. ends_here rows _ p 2 e quiet))) refl refl refl refl

between_is_read : (c k program n : Text) (option : List Text) → IsPlain c → IsPlain k → IsPlain n → WriteBudget n option → IsReadAs c (Some k) program (c ∷ (option ++ k ∷ [])) (Some n)
unfolding clap_on_literals crnt_app
between_is_read c k program n option is count d w =
    read_as c program (Some k) _ (With (used budget_rule (n ∷ []) (With [] (codes "command") c)) (codes "count") k) (Some n)
    (value_ends 1 (codes "command") first_place [] [] None c (option ++ k ∷ []) _ is refl refl
    (budget_ends [] (With [] (codes "command") c) (Some (codes "command", c ∷ [])) 2 n option (k ∷ []) _ w d refl refl refl
    (λ rows p e quiet. count_ends rows (used budget_rule (n ∷ []) (With [] (codes "command") c)) p k count e quiet refl))) refl refl refl refl

after_is_read : (c k program n : Text) (option : List Text) → IsPlain c → IsPlain k → IsPlain n → WriteBudget n option → IsReadAs c (Some k) program (c ∷ k ∷ (option ++ [])) (Some n)
unfolding clap_on_literals crnt_app
after_is_read c k program n option is count d w =
    read_as c program (Some k) _ (used budget_rule (n ∷ []) (With (With [] (codes "command") c) (codes "count") k)) (Some n)
    (value_ends 1 (codes "command") first_place [] [] None c (k ∷ (option ++ [])) _ is refl refl
    (value_ends 2 (codes "count") second_place [] (With [] (codes "command") c) (Some (codes "command", c ∷ [])) k (option ++ []) _ count refl refl
    (budget_ends (With [] (codes "command") c) (With (With [] (codes "command") c) (codes "count") k) (Some (codes "count", k ∷ [])) 3 n option [] _ w d refl refl refl (λ rows p e quiet. ends_here rows _ p 3 e quiet)))) refl refl refl refl

pub budget_is_read : (c program n : Text) (o : Option Text) (words : List Text) → IsPlain c → IsPlainIfSome o → IsNumeral 10 n → AreWithBudget (words_of c o) n words → IsReadAs c o program words (Some n)
budget_is_read c program n None words is count h w = elim (parts_of_one c w.before w.after w.parts) [
  | inl (a, b) ↦ with_parts [] (c ∷ []) a b (first_is_read c program n None w.budget is count (digits_are n h) w.writes)
  | inr (a, b) ↦ with_parts (c ∷ []) [] a b (last_is_read c program n w.budget is (digits_are n h) w.writes)
]
  where
    with_parts : (before after : List Text) → w.before ≡ before → w.after ≡ after → IsReadAs c None program (before ++ (w.budget ++ after)) (Some n) → IsReadAs c None program words (Some n)
    with_parts before after a b r = subst (λ (ts : List Text). IsReadAs c None program ts (Some n)) (sym (w.whole ∙ ap₂ (λ (x y : List Text). x ++ (w.budget ++ y)) a b)) r
budget_is_read c program n (Some k) words is count h w = elim (parts_of_two c k w.before w.after w.parts) [
  | inl (a, b) ↦ with_parts [] (c ∷ k ∷ []) a b (first_is_read c program n (Some k) w.budget is count (digits_are n h) w.writes)
  | inr (inl (a, b)) ↦ with_parts (c ∷ []) (k ∷ []) a b (between_is_read c k program n w.budget is count (digits_are n h) w.writes)
  | inr (inr (a, b)) ↦ with_parts (c ∷ k ∷ []) [] a b (after_is_read c k program n w.budget is count (digits_are n h) w.writes)
]
  where
    with_parts : (before after : List Text) → w.before ≡ before → w.after ≡ after → IsReadAs c (Some k) program (before ++ (w.budget ++ after)) (Some n) → IsReadAs c (Some k) program words (Some n)
    with_parts before after a b r = subst (λ (ts : List Text). IsReadAs c (Some k) program ts (Some n)) (sym (w.whole ∙ ap₂ (λ (x y : List Text). x ++ (w.budget ++ y)) a b)) r
