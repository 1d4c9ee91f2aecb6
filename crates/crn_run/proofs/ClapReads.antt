-- The words that clap reads if the values that it gives are asked.
use Rattle.crn_run.proofs.Prelude.{◌≡◌, ◌⊎◌, ◌||◌, ◌+◌, ◌++◌, ℕ, Bool, true, false, List, [], ◌∷◌, Option, Some, None, refl, sym, ap, ap₂, ◌∙◌, subst, inl, inr, codes, fold, list_any, Held, Row, Text, Walk, first_of, idle, nothing_held, option, settled, used, walk_from, walked, settle_fault, turn_fault, use_fault, walk_fault, is_two_dashes, AreWithBudget, WriteBudget}
use Rattle.crn_run.proofs.ClapWords.{IsValue, Kind, at, budget, budget_rule, first_none, holding, joined, joined_fault, joined_walked, kind, parted, parted_fault, parted_walked, rules, second_none, shape, some_fault}
use Rattle.crn_run.proofs.ClapSteps.{IsPlace, first_place, second_place, third_place, waiting_walked}

-- the rows that are held, once what is pending is used
abbrev pub rows_in : Held → List Row
rows_in h = (settled rules h).rows

-- a command's name, and its count if there is one
abbrev pub words_of : Text → Option Text → List Text
words_of name None = name ∷ []
words_of name (Some count) = name ∷ count ∷ []

-- what is asked of the values: the command's name, its count, and a property of the budget's word
pub record Asked : Type 1 where
  pub name : Text
  pub count : Option Text
  pub budget_is : Option Text → Type 0

-- the rows give the values that are asked
abbrev pub GivesAsked : Asked → List Row → Type 0
GivesAsked ask rows = (first_of (codes "command") rows ≡ Some ask.name) × (first_of (codes "count") rows ≡ ask.count) × ask.budget_is (first_of (codes "budget") rows)

-- the words are the name and the count alone, or with one budget's word, as it is asked
abbrev pub SayAsked : Asked → List Text → Type 0
SayAsked ask words = ((words ≡ words_of ask.name ask.count) × ask.budget_is None) ⊎ ((v : Text) × ask.budget_is (Some v) × AreWithBudget (words_of ask.name ask.count) v words)

-- from here clap reads the words without a fault, none of them is `--`, and their values are as asked
pub record Reads (ask : Asked) (w : Walk) (words : List Text) : Type 0 where
  pub plain : list_any is_two_dashes words ≡ false
  pub quiet : walk_fault shape [] w words ≡ []
  pub settles : settle_fault rules false (fold (walked rules []) w words).held ≡ []
  pub gives : GivesAsked ask (rows_in (fold (walked rules []) w words).held)

or_left : (a b : Bool) → (a || b) ≡ false → a ≡ false
or_left true b e = e
or_left false b e = refl

or_right : (a b : Bool) → (a || b) ≡ false → b ≡ false
or_right true b e = absurd cc
or_right false b e = e

-- a word further
next_word : (ask : Asked) (w : Walk) (word : Text) (rest : List Text) → Reads ask w (word ∷ rest) → Kind word × (turn_fault shape [] w word ≡ [])
unfolding walk_fault
next_word ask w word rest r = (kind word (or_left _ _ r.plain), first_none _ _ r.quiet)

further : (ask : Asked) (w next : Walk) (word : Text) (rest : List Text) → walked rules [] w word ≡ next → Reads ask w (word ∷ rest) → Reads ask next rest
unfolding walk_fault
further ask w next word rest e r = subst (λ (u : Walk). Reads ask u rest) e (record {
  plain = or_right _ _ r.plain;
  quiet = second_none _ _ r.quiet;
  settles = r.settles;
  gives = r.gives;
})

-- after `--budget` comes its value
value_after : (ask : Asked) (rows : List Row) (pos : ℕ) (rest : List Text) → Reads ask (at rows (Some (budget, [])) (option budget) pos) rest
    → (v : Text) × (after : List Text) × (rest ≡ v ∷ after) × Reads ask (at rows (Some (budget, v ∷ [])) idle pos) after
value_after ask rows pos [] r = absurd (some_fault r.settles)
value_after ask rows pos (v ∷ after) r = go (next_word ask _ v after r)
  where
    go : Kind v × (turn_fault shape [] (at rows (Some (budget, [])) (option budget) pos) v ≡ []) → (u : Text) × (others : List Text) × (v ∷ after ≡ u ∷ others) × Reads ask (at rows (Some (budget, u ∷ [])) idle pos) others
    go (inl e, t) = absurd (some_fault (first_none (settle_fault rules false (holding rows (Some (budget, [])))) [] (sym (parted_fault rows (Some (budget, [])) (option budget) pos) ∙ subst (λ (u : Text). turn_fault shape [] (at rows (Some (budget, [])) (option budget) pos) u ≡ []) e t)))
    go (inr (inl (u, e)), t) = absurd (some_fault (first_none (settle_fault rules false (holding rows (Some (budget, [])))) (use_fault false budget_rule (u ∷ []) (rows_in (holding rows (Some (budget, []))))) (first_none _ [] (sym (joined_fault rows (Some (budget, [])) (option budget) pos u) ∙ subst (λ (x : Text). turn_fault shape [] (at rows (Some (budget, [])) (option budget) pos) x ≡ []) e t))))
    go (inr (inr (inl bad)), t) = absurd (bad rows (Some (budget, [])) (option budget) pos t)
    go (inr (inr (inr is)), t) = (v, after, refl, further ask (at rows (Some (budget, [])) (option budget) pos) (at rows (Some (budget, v ∷ [])) idle pos) v after (waiting_walked rows pos v is) r)

-- the words begin with the option and its value, which was not there before
record Budgeted (ask : Asked) (rows : List Row) (p : Option (Text × List Text)) (pos : ℕ) (words : List Text) : Type 0 where
  v : Text
  given : List Text
  after : List Text
  whole : words ≡ given ++ after
  writes : WriteBudget v given
  fresh : use_fault false budget_rule (v ∷ []) (rows_in (holding rows p)) ≡ []
  now : List Row
  pending : Option (Text × List Text)
  held : rows_in (holding now pending) ≡ used budget_rule (v ∷ []) (rows_in (holding rows p))
  reads : Reads ask (at now pending idle pos) after

-- if nothing waits, the words end, or the next is the option with its value, or a value
abbrev Next : Asked → List Row → Option (Text × List Text) → ℕ → List Text → Type 0
Next ask rows p pos words = (words ≡ [])
    ⊎ Budgeted ask rows p pos words
    ⊎ ((v : Text) × (after : List Text) × (words ≡ v ∷ after) × IsValue v × Reads ask (at rows p idle pos) (v ∷ after))

-- at this place a value without a fault says that what is pending has none
abbrev IsQuiet : ℕ → Type 0
IsQuiet pos = (rows : List Row) (p : Option (Text × List Text)) (word : Text) → IsValue word → turn_fault shape [] (at rows p idle pos) word ≡ [] → settle_fault rules false (holding rows p) ≡ []

placed_quiet : (pos : ℕ) (id : Text) → IsPlace pos id → IsQuiet pos
placed_quiet pos id place rows p word is t = sym (place.fault rows p word is) ∙ t

last_quiet : IsQuiet 3
last_quiet rows p word is t = absurd (third_place rows p word is t)

-- what is pending has no fault
quiet_here : (ask : Asked) (rows : List Row) (p : Option (Text × List Text)) (pos : ℕ) (words : List Text) → IsQuiet pos → Reads ask (at rows p idle pos) words → settle_fault rules false (holding rows p) ≡ []
quiet_here ask rows p pos [] quiet r = r.settles
quiet_here ask rows p pos (word ∷ rest) quiet r = go (next_word ask _ word rest r)
  where
    go : Kind word × (turn_fault shape [] (at rows p idle pos) word ≡ []) → settle_fault rules false (holding rows p) ≡ []
    go (inl e, t) = first_none _ [] (sym (parted_fault rows p idle pos) ∙ subst (λ (x : Text). turn_fault shape [] (at rows p idle pos) x ≡ []) e t)
    go (inr (inl (v, e)), t) = first_none (settle_fault rules false (holding rows p)) (use_fault false budget_rule (v ∷ []) (rows_in (holding rows p))) (first_none _ [] (sym (joined_fault rows p idle pos v) ∙ subst (λ (x : Text). turn_fault shape [] (at rows p idle pos) x ≡ []) e t))
    go (inr (inr (inl bad)), t) = absurd (bad rows p idle pos t)
    go (inr (inr (inr is)), t) = quiet rows p word is t

next : (ask : Asked) (rows : List Row) (p : Option (Text × List Text)) (pos : ℕ) (words : List Text) → IsQuiet pos → Reads ask (at rows p idle pos) words → Next ask rows p pos words
next ask rows p pos [] quiet r = inl refl
next ask rows p pos (word ∷ rest) quiet r = go (next_word ask _ word rest r)
  where
    go : Kind word × (turn_fault shape [] (at rows p idle pos) word ≡ []) → Next ask rows p pos (word ∷ rest)
    go (inl e, t) =
        let v = value_after ask (rows_in (holding rows p)) pos rest (further ask (at rows p idle pos) (at (rows_in (holding rows p)) (Some (budget, [])) (option budget) pos) parted rest (parted_walked rows p idle pos) (subst (λ (u : Text). Reads ask (at rows p idle pos) (u ∷ rest)) e r)) in
        inr (inl (record {
          v = v.0;
          given = parted ∷ v.0 ∷ [];
          after = v.1;
          whole = ap (λ (u : Text). u ∷ rest) e ∙ ap (λ (ts : List Text). parted ∷ ts) v.2;
          writes = inl refl;
          fresh = quiet_here ask (rows_in (holding rows p)) (Some (budget, v.0 ∷ [])) pos v.1 quiet v.3;
          now = rows_in (holding rows p);
          pending = Some (budget, v.0 ∷ []);
          held = refl;
          reads = v.3;
        }))
    go (inr (inl (v, e)), t) =
        let f = sym (joined_fault rows p idle pos v) ∙ subst (λ (x : Text). turn_fault shape [] (at rows p idle pos) x ≡ []) e t in
        inr (inl (record {
          v = v;
          given = joined v ∷ [];
          after = rest;
          whole = ap (λ (u : Text). u ∷ rest) e;
          writes = inr refl;
          fresh = second_none (settle_fault rules false (holding rows p)) (use_fault false budget_rule (v ∷ []) (rows_in (holding rows p))) (first_none _ [] f);
          now = used budget_rule (v ∷ []) (rows_in (holding rows p));
          pending = None;
          held = refl;
          reads = further ask (at rows p idle pos) (at (used budget_rule (v ∷ []) (rows_in (holding rows p))) None idle pos) (joined v) rest (joined_walked rows p idle pos v) (subst (λ (u : Text). Reads ask (at rows p idle pos) (u ∷ rest)) e r);
        }))
    go (inr (inr (inl bad)), t) = absurd (bad rows p idle pos t)
    go (inr (inr (inr is)), t) = inr (inr (word, rest, refl, is, r))

-- the rows that are held once a value is at a place
abbrev With : List Row → Text → Text → List Row
With rows id v = rows_in (holding rows (Some (id, v ∷ [])))

-- a value at a place, after rows
placed : (ask : Asked) (rows held : List Row) (p : Option (Text × List Text)) (pos : ℕ) (id v : Text) (after : List Text) → IsPlace pos id → IsValue v → rows_in (holding rows p) ≡ held
    → Reads ask (at rows p idle pos) (v ∷ after) → Reads ask (at held (Some (id, v ∷ [])) idle (pos + 1)) after
placed ask rows held p pos id v after place is e r =
    further ask (at rows p idle pos) (at held (Some (id, v ∷ [])) idle (pos + 1)) v after (place.walked rows p v is ∙ ap (λ (rs : List Row). at rs (Some (id, v ∷ [])) idle (pos + 1)) e) r

-- at the end of the words the rows give what is asked
ended : (ask : Asked) (rows held : List Row) (p : Option (Text × List Text)) (pos : ℕ) (words : List Text) → rows_in (holding rows p) ≡ held → words ≡ [] → Reads ask (at rows p idle pos) words → GivesAsked ask held
ended ask rows held p pos words e none r = subst (GivesAsked ask) e (subst (λ (ts : List Text). Reads ask (at rows p idle pos) ts) none r).gives

-- the option has its value already
abbrev IsSpent : List Row → Type 0
IsSpent rows = (v : Text) → use_fault false budget_rule (v ∷ []) rows ≡ [] → ⊥

-- if the command, a count and the option are there, no word is left
full : (ask : Asked) (rows held : List Row) (p : Option (Text × List Text)) (words : List Text) → rows_in (holding rows p) ≡ held → IsSpent held
    → Reads ask (at rows p idle 3) words → (words ≡ []) × GivesAsked ask held
full ask rows held p words e spent r = go (next ask rows p 3 words last_quiet r)
  where
    go : Next ask rows p 3 words → (words ≡ []) × GivesAsked ask held
    go (inl none) = (none, ended ask rows held p 3 words e none r)
    go (inr (inl b)) = absurd (spent b.v (subst (λ (rs : List Row). use_fault false budget_rule (b.v ∷ []) rs ≡ []) e b.fresh))
    go (inr (inr (v, after, f, is, s))) = absurd (third_place rows p v is (next_word ask (at rows p idle 3) v after s).1)

-- if the command and the option are there, a count is left, or no word
abbrev CountLeft : Asked → List Row → List Text → Type 0
CountLeft ask held words = ((words ≡ []) × GivesAsked ask held) ⊎ ((k : Text) × (words ≡ k ∷ []) × GivesAsked ask (With held (codes "count") k))

count_left : (ask : Asked) (rows held : List Row) (p : Option (Text × List Text)) (words : List Text) → rows_in (holding rows p) ≡ held → IsSpent held → ((k : Text) → IsSpent (With held (codes "count") k))
    → Reads ask (at rows p idle 2) words → CountLeft ask held words
count_left ask rows held p words e spent then r = go (next ask rows p 2 words (placed_quiet 2 (codes "count") second_place) r)
  where
    go : Next ask rows p 2 words → CountLeft ask held words
    go (inl none) = inl (none, ended ask rows held p 2 words e none r)
    go (inr (inl b)) = absurd (spent b.v (subst (λ (rs : List Row). use_fault false budget_rule (b.v ∷ []) rs ≡ []) e b.fresh))
    go (inr (inr (k, after, f, is, s))) =
        let last = full ask held (With held (codes "count") k) (Some (codes "count", k ∷ [])) after refl (then k) (placed ask rows held p 2 (codes "count") k after second_place is e s) in
        inr (k, f ∙ ap (λ (ts : List Text). k ∷ ts) last.0, last.1)

-- if the option is there, a command is left, and a count or no word after it
abbrev CommandLeft : Asked → List Row → List Text → Type 0
CommandLeft ask held words = (c : Text) × (after : List Text) × (words ≡ c ∷ after) × CountLeft ask (With held (codes "command") c) after

command_left : (ask : Asked) (rows held : List Row) (p : Option (Text × List Text)) (words : List Text) → rows_in (holding rows p) ≡ held → IsSpent held → first_of (codes "command") held ≡ None
    → ((c : Text) → IsSpent (With held (codes "command") c)) → ((c k : Text) → IsSpent (With (With held (codes "command") c) (codes "count") k))
    → Reads ask (at rows p idle 1) words → CommandLeft ask held words
command_left ask rows held p words e spent none then later r = go (next ask rows p 1 words (placed_quiet 1 (codes "command") first_place) r)
  where
    go : Next ask rows p 1 words → CommandLeft ask held words
    go (inl f) =
        let some = (ended ask rows held p 1 words e f r).0 in
        absurd (let bad : None ≡ Some (ask.name) = sym none ∙ some in cc)
    go (inr (inl b)) = absurd (spent b.v (subst (λ (rs : List Row). use_fault false budget_rule (b.v ∷ []) rs ≡ []) e b.fresh))
    go (inr (inr (c, after, f, is, s))) =
        (c, after, f, count_left ask held (With held (codes "command") c) (Some (codes "command", c ∷ [])) after refl (then c) (later c) (placed ask rows held p 1 (codes "command") c after first_place is e s))

-- the words are a name and a count, without a budget or with one
says_plain : (ask : Asked) (c : Text) (o : Option Text) (words : List Text) (rows : List Row) → words ≡ words_of c o → first_of (codes "command") rows ≡ Some c → first_of (codes "count") rows ≡ o
    → first_of (codes "budget") rows ≡ None → GivesAsked ask rows → SayAsked ask words
says_plain ask c o words rows e first second third g =
    let is : c ≡ ask.name = let h = sym first ∙ g.0 in cc in
    inl (e ∙ ap₂ words_of is (sym second ∙ g.1), subst ask.budget_is third g.2)

says_budget : (ask : Asked) (c : Text) (o : Option Text) (v : Text) (words : List Text) (rows : List Row) → AreWithBudget (words_of c o) v words → first_of (codes "command") rows ≡ Some c → first_of (codes "count") rows ≡ o
    → first_of (codes "budget") rows ≡ Some v → GivesAsked ask rows → SayAsked ask words
says_budget ask c o v words rows w first second third g =
    let is : c ≡ ask.name = let h = sym first ∙ g.0 in cc in
    inr (v, subst ask.budget_is third g.2, subst (λ (plain : List Text). AreWithBudget plain v words) (ap₂ words_of is (sym second ∙ g.1)) w)

-- the option is between these words
among : (before given after words : List Text) (v : Text) → WriteBudget v given → words ≡ before ++ (given ++ after) → AreWithBudget (before ++ after) v words
among before given after words v writes e = record { before = before; after = after; budget = given; parts = refl; writes = writes; whole = e }

-- the words after a command and a count
after_count : (ask : Asked) (c k : Text) (words : List Text) → Reads ask (at (With [] (codes "command") c) (Some (codes "count", k ∷ [])) idle 3) words → SayAsked ask (c ∷ k ∷ words)
after_count ask c k words r = go (next ask rows p 3 words last_quiet r)
  where
    rows : List Row
    rows = With [] (codes "command") c

    p : Option (Text × List Text)
    p = Some (codes "count", k ∷ [])

    go : Next ask rows p 3 words → SayAsked ask (c ∷ k ∷ words)
    go (inl none) = says_plain ask c (Some k) (c ∷ k ∷ words) (rows_in (holding rows p)) (ap (λ (ts : List Text). c ∷ k ∷ ts) none) refl refl refl (ended ask rows (rows_in (holding rows p)) p 3 words refl none r)
    go (inr (inl b)) =
        let last = full ask b.now (used budget_rule (b.v ∷ []) (rows_in (holding rows p))) b.pending b.after b.held (λ u f. some_fault f) b.reads in
        let e : c ∷ k ∷ words ≡ (c ∷ k ∷ []) ++ (b.given ++ []) = ap (λ (ts : List Text). c ∷ k ∷ ts) (b.whole ∙ ap (λ (ts : List Text). b.given ++ ts) last.0) in
        says_budget ask c (Some k) b.v (c ∷ k ∷ words) (used budget_rule (b.v ∷ []) (rows_in (holding rows p))) (among (c ∷ k ∷ []) b.given [] (c ∷ k ∷ words) b.v b.writes e) refl refl refl last.1
    go (inr (inr (v, after, f, is, s))) = absurd (third_place rows p v is (next_word ask (at rows p idle 3) v after s).1)

-- the words after a command
after_command : (ask : Asked) (c : Text) (words : List Text) → Reads ask (at [] (Some (codes "command", c ∷ [])) idle 2) words → SayAsked ask (c ∷ words)
after_command ask c words r = go (next ask [] p 2 words (placed_quiet 2 (codes "count") second_place) r)
  where
    p : Option (Text × List Text)
    p = Some (codes "command", c ∷ [])

    budgeted : (b : Budgeted ask [] p 2 words) → CountLeft ask (used budget_rule (b.v ∷ []) (rows_in (holding [] p))) b.after → SayAsked ask (c ∷ words)
    budgeted b (inl (none, g)) =
        says_budget ask c None b.v (c ∷ words) (used budget_rule (b.v ∷ []) (rows_in (holding [] p))) (among (c ∷ []) b.given [] (c ∷ words) b.v b.writes (ap (λ (ts : List Text). c ∷ ts) (b.whole ∙ ap (λ (ts : List Text). b.given ++ ts) none))) refl refl refl g
    budgeted b (inr (k, one, g)) =
        says_budget ask c (Some k) b.v (c ∷ words) (With (used budget_rule (b.v ∷ []) (rows_in (holding [] p))) (codes "count") k) (among (c ∷ []) b.given (k ∷ []) (c ∷ words) b.v b.writes (ap (λ (ts : List Text). c ∷ ts) (b.whole ∙ ap (λ (ts : List Text). b.given ++ ts) one))) refl refl refl g

    go : Next ask [] p 2 words → SayAsked ask (c ∷ words)
    go (inl none) = says_plain ask c None (c ∷ words) (rows_in (holding [] p)) (ap (λ (ts : List Text). c ∷ ts) none) refl refl refl (ended ask [] (rows_in (holding [] p)) p 2 words refl none r)
    go (inr (inl b)) = budgeted b (count_left ask b.now (used budget_rule (b.v ∷ []) (rows_in (holding [] p))) b.pending b.after b.held (λ u f. some_fault f) (λ k u f. some_fault f) b.reads)
    go (inr (inr (k, after, f, is, s))) =
        subst (λ (ts : List Text). SayAsked ask (c ∷ ts)) (sym f) (after_count ask c k after (placed ask [] (With [] (codes "command") c) p 2 (codes "count") k after second_place is refl s))

-- the words after the program's name
pub reads_asked : (ask : Asked) (words : List Text) → Reads ask (walk_from nothing_held) words → SayAsked ask words
reads_asked ask words r = go (next ask [] None 1 words (placed_quiet 1 (codes "command") first_place) r)
  where
    counted : (b : Budgeted ask [] None 1 words) (c : Text) (after : List Text) → b.after ≡ c ∷ after → CountLeft ask (With (used budget_rule (b.v ∷ []) []) (codes "command") c) after → SayAsked ask words
    counted b c after f (inl (none, g)) =
        says_budget ask c None b.v words (With (used budget_rule (b.v ∷ []) []) (codes "command") c) (among [] b.given (c ∷ []) words b.v b.writes (b.whole ∙ ap (λ (ts : List Text). b.given ++ ts) (f ∙ ap (λ (ts : List Text). c ∷ ts) none))) refl refl refl g
    counted b c after f (inr (k, one, g)) =
        says_budget ask c (Some k) b.v words (With (With (used budget_rule (b.v ∷ []) []) (codes "command") c) (codes "count") k) (among [] b.given (c ∷ k ∷ []) words b.v b.writes (b.whole ∙ ap (λ (ts : List Text). b.given ++ ts) (f ∙ ap (λ (ts : List Text). c ∷ ts) one))) refl refl refl g

    go : Next ask [] None 1 words → SayAsked ask words
    go (inl none) =
        let some : None ≡ Some (ask.name) = (ended ask [] [] None 1 words refl none r).0 in
        absurd cc
    go (inr (inl b)) =
        let l = command_left ask b.now (used budget_rule (b.v ∷ []) []) b.pending b.after b.held (λ u f. some_fault f) refl (λ c u f. some_fault f) (λ c k u f. some_fault f) b.reads in
        counted b l.0 l.1 l.2 l.3
    go (inr (inr (c, after, f, is, s))) =
        subst (SayAsked ask) (sym f) (after_command ask c after (placed ask [] [] None 1 (codes "command") c after first_place is refl s))
