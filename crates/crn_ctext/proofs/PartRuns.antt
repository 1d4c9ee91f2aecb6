-- Runs of numbers, and a line of a part that is tried.
use Rattle.crn_ctext.proofs.Prelude.{◌≡◌, ◌<◌, ◌+◌, ◌++◌, ℕ, Bool, true, false, List, [], ◌∷◌, length, map, take, drop, refl, sym, ap, ap₂, subst, ◌∙◌, inl, inr, arith, ℤ, unsigned_abs, slice_index_or, AllByRecursion, join_with_byte, length-map, get_or-map, Bor, KeptInts, no_form, IsIn, WIDE_SOLUTION, Record, Form, Field, Small, Free, Rising, Takes, AreNarrow, AreOf, Says, IsWord, BeginsWith, IsShaped, Fits, kind_of, record_form, SaysNumbers, IsTail, capped, spaced, IsJudged, AreTried, IsFit, IsTried, FitFields, Gives, FailsFirst, AreChoices, IsChoice, IsRun, IsPartReadAs, IsPartRefusedBy, field_of, form_in, forms_in, texts_of, Choice, map_in, in_map, all_in, all_at, at_in, Run, all_append, IsNarrow}
use Rattle.std.specs.Prelude.{if◌then◌else◌}
use Rattle.crn_ctext.proofs.LineSought.{same_kept}
use Rattle.crn_ctext.specs.declared.record_shape.Fit.TheVariants as fit
use Rattle.crn_ctext.specs.declared.record_try.Tried.TheVariants as tried
use Rattle.crn_ctext.proofs.LinesRead.{word_one}
use Rattle.crn_ctext.proofs.LineCapped.{AllNarrow, field_narrow, all_held, all_narrow}
use Rattle.crn_ctext.proofs.LineCame.{spaced_tail}
use Rattle.crn_ctext.proofs.LineNumbers.{begins_tail, tail_begins}
use Rattle.crn_ctext.proofs.LineTries.{after_one, join_spaced}

-- ---- one run

-- fields of runs
pub data IsRunField : Field → Type 0 where
  some : (count : ℕ) (least greatest : ℤ) → unsigned_abs least < WIDE_SOLUTION → unsigned_abs greatest < WIDE_SOLUTION → IsRunField (Small count least greatest)
  free : (count : ℕ) → IsRunField (Free count)
  rising : (count greatest : ℕ) → greatest < WIDE_SOLUTION → IsRunField (Rising count greatest)

field_held : (f : Field) (xs : List ℤ) → IsRunField f → Takes f (map capped xs) → Takes f xs
field_held f xs (some count least greatest a b) t = subst (Takes f) (all_held xs (all_narrow xs (field_narrow f (map capped xs) tt (a, b) t))) t
field_held f xs (free count) t = sym (length-map xs capped) ∙ t
field_held f xs (rising count greatest a) t = subst (Takes f) (all_held xs (all_narrow xs (field_narrow f (map capped xs) tt a t))) t

field_capped : (f : Field) (xs : List ℤ) → IsRunField f → Takes f xs → Takes f (map capped xs)
field_capped f xs (some count least greatest a b) t = subst (Takes f) (sym (all_held xs (field_narrow f xs tt (a, b) t))) t
field_capped f xs (free count) t = length-map xs capped ∙ t
field_capped f xs (rising count greatest a) t = subst (Takes f) (sym (all_held xs (field_narrow f xs tt a t))) t

field_is_narrow : (f : Field) (xs : List ℤ) → IsRunField f → Takes f xs → AreNarrow f xs → AllNarrow xs
field_is_narrow f xs (some count least greatest a b) t n = field_narrow f xs tt (a, b) t
field_is_narrow f xs (free count) t n = n
field_is_narrow f xs (rising count greatest a) t n = field_narrow f xs tt a t

narrow_field : (f : Field) (xs : List ℤ) → IsRunField f → AllNarrow xs → AreNarrow f xs
narrow_field f xs (free count) n = n
narrow_field f xs way n = tt

-- ---- runs

abbrev AllRuns : List Field → Type 0
AllRuns fs = AllByRecursion IsRunField fs

map_parts : (p b xs : List ℤ) → map capped xs ≡ p ++ b → (ys : List ℤ) × (zs : List ℤ) × (xs ≡ ys ++ zs) × (p ≡ map capped ys) × (b ≡ map capped zs)
map_parts [] b xs e = ([], xs, refl, refl, sym e)
map_parts (x ∷ p) b [] e = absurd cc
map_parts (x ∷ p) b (y ∷ xs) e =
    let heads : capped y ≡ x = cc in
    let tails : map capped xs ≡ p ++ b = cc in
    let r = map_parts p b xs tails in
    (y ∷ r.0, r.1, ap (λ (t : List ℤ). y ∷ t) r.2, ap₂ (λ (h : ℤ) (t : List ℤ). h ∷ t) (sym heads) r.3, r.4)

map_both : (xs ys : List ℤ) → map capped (xs ++ ys) ≡ map capped xs ++ map capped ys
map_both [] ys = refl
map_both (x ∷ xs) ys = ap (λ (t : List ℤ). capped x ∷ t) (map_both xs ys)

fields_held : (fs : List Field) (xs : List ℤ) → AllRuns fs → AreOf Takes fs (map capped xs) → AreOf Takes fs xs
fields_held [] [] a t = refl
fields_held [] (x ∷ xs) a t = absurd cc
fields_held (f ∷ fs) xs a t =
    let m = map_parts t.0 t.1 xs t.2 in
    (m.0, m.1, m.2, field_held f m.0 a.0 (subst (Takes f) m.3 t.3), fields_held fs m.1 a.1 (subst (AreOf Takes fs) m.4 t.4))

fields_capped : (fs : List Field) (xs : List ℤ) → AllRuns fs → AreOf Takes fs xs → AreOf Takes fs (map capped xs)
fields_capped [] xs a t = ap (map capped) t
fields_capped (f ∷ fs) xs a t = (map capped t.0, map capped t.1, ap (map capped) t.2 ∙ map_both t.0 t.1, field_capped f t.0 a.0 t.3, fields_capped fs t.1 a.1 t.4)

narrow_parts : (xs ys : List ℤ) → AllNarrow (xs ++ ys) → AllNarrow xs × AllNarrow ys
narrow_parts [] ys p = (tt, p)
narrow_parts (x ∷ xs) ys p = let r = narrow_parts xs ys p.1 in ((p.0, r.0), r.1)

fit_narrow : (fs : List Field) (xs : List ℤ) → AllRuns fs → FitFields fs xs → AllNarrow xs
fit_narrow [] xs a t = subst AllNarrow (sym t) tt
fit_narrow (f ∷ fs) xs a t = subst AllNarrow (sym t.2) (all_append IsNarrow t.0 t.1 (field_is_narrow f t.0 a.0 t.3.0 t.3.1) (fit_narrow fs t.1 a.1 t.4))

narrow_fit : (fs : List Field) (xs : List ℤ) → AllRuns fs → AllNarrow xs → AreOf Takes fs xs → FitFields fs xs
narrow_fit [] xs a n t = t
narrow_fit (f ∷ fs) xs a n t =
    let p = narrow_parts t.0 t.1 (subst AllNarrow t.2 n) in
    (t.0, t.1, t.2, (t.3, narrow_field f t.0 a.0 p.0), narrow_fit fs t.1 a.1 p.1 t.4)

-- ---- judging

pub runs_misfit : (fs : List Field) (zs held : List ℤ) → AllRuns fs → held ≡ map capped zs → (AreOf Takes fs held → ⊥) → AreOf Takes fs zs → ⊥
runs_misfit fs zs held a e none t = none (subst (AreOf Takes fs) (sym e) (fields_capped fs zs a t))

pub runs_fit : (fs : List Field) (zs held : List ℤ) → AllRuns fs → held ≡ map capped zs → AreOf Takes fs held → AllNarrow held → IsJudged fit.Fits fs zs held
runs_fit fs zs held a e t n =
    let narrow = all_narrow zs (subst AllNarrow e n) in
    let takes = fields_held fs zs a (subst (AreOf Takes fs) e t) in
    (takes, narrow_fit fs zs a narrow takes, e ∙ all_held zs narrow)

pub runs_wide : (fs : List Field) (zs held : List ℤ) → AllRuns fs → held ≡ map capped zs → AreOf Takes fs held → (AllNarrow held → ⊥) → IsJudged fit.TooWide fs zs held
runs_wide fs zs held a e t none = (
  fields_held fs zs a (subst (AreOf Takes fs) e t),
  λ h. let narrow = fit_narrow fs zs a h in none (subst AllNarrow (sym (e ∙ all_held zs narrow)) narrow),
)

-- ---- runs as they are handed in

pub run_field : (f : Run) → IsRun f → IsRunField (field_of f)
run_field f h = by f.free f.ascending refl
  where
    by : (a b : Bool) → f.free ≡ a → IsRunField (if a then Free f.count else (if b then Rising f.count (unsigned_abs f.greatest) else Small f.count f.least f.greatest))
    by true b e = free f.count
    by false true e = let bounds = h.bounds in let q = bounds e in rising f.count (unsigned_abs f.greatest) q.1
    by false false e = let bounds = h.bounds in let q = bounds e in some f.count f.least f.greatest q.0 q.1

pub run_fields : (fs : List Run) → AllByRecursion IsRun fs → AllRuns (map field_of fs)
run_fields [] a = tt
run_fields (f ∷ fs) a = (run_field f a.0, run_fields fs a.1)

-- ---- a word and runs that are tried

said_after : (w line : List ℕ) (r : Record) → Says line r → r.words ≡ w ∷ [] → (rest : List ℕ) × (line ≡ w ++ rest) × SaysNumbers rest r.numbers × IsTail rest
said_after w line r h e = (spaced h.0, h.2 ∙ ap (λ (t : List (List ℕ)). join_with_byte 32 (t ++ h.0)) e ∙ join_spaced w h.0, (h.0, h.1, refl), spaced_tail h.0)

says_of : (w line rest : List ℕ) (zs : List ℤ) → line ≡ w ++ rest → SaysNumbers rest zs → Says line (record { words = w ∷ []; numbers = zs })
says_of w line rest zs e n = (n.0, n.1, e ∙ ap (λ t. w ++ t) n.2 ∙ sym (join_spaced w n.0))

-- what a record of these words says after its word
moved_to : (w line rest : List ℕ) (r : Record) → line ≡ w ++ rest → Says line r → r.words ≡ w ∷ [] → SaysNumbers rest r.numbers
moved_to w line rest r e h words =
    let a = said_after w line r h words in
    subst (λ t. SaysNumbers t r.numbers) (after_one w a.0 rest (sym a.1 ∙ e)) a.2

pub other_runs : (w line : List ℕ) (fs : List Field) (read : List ℤ) → ((rest : List ℕ) → IsTail rest → line ≡ w ++ rest → ⊥) → IsTried tried.OtherWord 0 (record_form w fs) line read
other_runs w line fs read none = (
  (λ word b e. let cut = begins_tail line word b in none cut.0 cut.2 (cut.1 ∙ ap (λ t. t ++ cut.0) (sym e))),
  (λ r h s. let a = said_after w line r h s.0 in none a.0 a.3 a.1),
)

pub tried_misfit : (w line rest : List ℕ) (fs : List Field) (read : List ℤ) → IsWord w → line ≡ w ++ rest → IsTail rest → IsFit fit.Misfit fs 0 (SaysNumbers rest) read → IsTried tried.Misfit 0 (record_form w fs) line read
tried_misfit w line rest fs read word e t h = (tail_begins line w rest word e t, λ r s k. h r.numbers (moved_to w line rest r e s k.0) k.1)

pub tried_wide : (w line rest : List ℕ) (fs : List Field) (read : List ℤ) → IsWord w → line ≡ w ++ rest → IsTail rest → IsFit fit.TooWide fs 0 (SaysNumbers rest) read → IsTried tried.TooWide 0 (record_form w fs) line read
tried_wide w line rest fs read word e t h = (
  tail_begins line w rest word e t,
  (record { words = w ∷ []; numbers = h.0.0 }, says_of w line rest h.0.0 e h.0.1, (refl, h.0.2)),
  (λ r s k. h.1 r.numbers (moved_to w line rest r e s k.0) k.1),
)

pub tried_fits : (w line rest : List ℕ) (fs : List Field) (read : List ℤ) → IsWord w → line ≡ w ++ rest → IsTail rest → IsFit fit.Fits fs 0 (SaysNumbers rest) read → IsTried tried.Fits 0 (record_form w fs) line read
tried_fits w line rest fs read word e t h = (tail_begins line w rest word e t, (record { words = w ∷ []; numbers = h.0 }, says_of w line rest h.0 e h.1, (refl, h.2), (refl, h.3), h.4))

-- ---- the tests of a line

form_known : (words : List (List ℕ)) (due : List Choice) (runs : List Run) (form : Form) → AreChoices words due runs → IsIn form (forms_in words due runs) → IsIn (kind_of form) words
form_known words due runs form a i =
    let m = in_map (form_in words runs) due form i in
    let c = all_in (IsChoice words runs) due m.0 a.each m.1 in
    subst (λ (f : Form). IsIn (kind_of f) words) (sym m.2) (at_in words m.0.word [] c.word)

pub part_misfit : (words : List (List ℕ)) (due : List Choice) (runs : List Run) (line : List ℕ) → AreChoices words due runs → AreTried tried.Misfit (forms_in words due runs) line → IsPartRefusedBy words (forms_in words due runs) line 24
unfolding FailsFirst
part_misfit words due runs line a h = λ n at. inr (kind_of h.0.0, (h.0.2, form_known words due runs h.0.0 a h.0.1), inr (tt, (λ e i. i), inr (tt, (h.0.0, h.0.1, refl), inl (refl, refl, λ u w. h.1 w.0 w.2 w.1 w.3 w.4))))

pub part_wide : (words : List (List ℕ)) (due : List Choice) (runs : List Run) (line : List ℕ) → AreChoices words due runs → AreTried tried.TooWide (forms_in words due runs) line → IsPartRefusedBy words (forms_in words due runs) line 25
unfolding FailsFirst
part_wide words due runs line a h =
    let shaped = h.1.2 in
    λ n at. inr (kind_of h.0.0, (h.0.2, form_known words due runs h.0.0 a h.0.1), inr (tt, (λ e i. i), inr (tt, (h.0.0, h.0.1, refl), inr (tt, (h.1.0, shaped.0, h.1.1, shaped.1, shaped.2), inl (refl, refl, λ r w. h.2 w.1.0 w.1.1 r w.0 w.1.2)))))

pub part_unknown : (words : List (List ℕ)) (forms : List Form) (line word : List ℕ) → BeginsWith line word → (IsIn word words → ⊥) → IsPartRefusedBy words forms line 23
unfolding FailsFirst
part_unknown words forms line word b none = λ n at. inl (refl, refl, λ other h. none (subst (λ t. IsIn t words) (word_one line other word h.0 b) h.1))

pub part_order : (words : List (List ℕ)) (forms : List Form) (line word : List ℕ) → BeginsWith line word → IsIn word words → AreTried tried.OtherWord forms line → IsPartRefusedBy words forms line 26
unfolding FailsFirst
part_order words forms line word b known h = λ n at. inr (word, (b, known), inr (tt, (λ e i. i), inl (refl, refl, λ u f. (h f.0 f.1).0 word b f.2)))

pub part_read : (words : List (List ℕ)) (due : List Choice) (runs : List Run) (c : Choice) (line : List ℕ) (read : List ℤ) → AreChoices words due runs → IsIn c due → IsTried tried.Fits 0 (form_in words runs c) line read
    → IsPartReadAs words (forms_in words due runs) line c.word read
unfolding Gives
part_read words due runs c line read a i t =
    let form : Form = form_in words runs c in
    let r = t.1.0 in
    let there = map_in (form_in words runs) due c i in
    let shaped : IsShaped form r = t.1.2 in
    let fits : Fits form r = t.1.3 in
    record {
      said = r;
      gives = λ n at. (kind_of form, (t.0, form_known words due runs form a there), (tt, (λ e i. i), (tt, (form, there, refl), (tt, (form, r, there, t.1.1, shaped), (r, (t.1.1, (form, there, fits)), (refl, refl))))));
      inside = (let each = all_in (IsChoice words runs) due c a.each i in each.word);
      kind = ap (λ (ws : List (List ℕ)). slice_index_or ws 0 []) shaped.0;
      numbers = t.1.4;
    }

-- ---- runs one after another

-- ---- choices

-- a word of the table
pub word_at : (words : List (Bor (List ℕ))) (k : ℕ) (d : Bor (List ℕ)) → k < length words → slice_index_or (texts_of words) k [] ≡ (slice_index_or words k d).now
word_at words k d lt = get_or-map (λ (w : Bor (List ℕ)). w.now) words k d [] lt

pub word_plain : (words : List (Bor (List ℕ))) (k : ℕ) (d : Bor (List ℕ)) → k < length words → AllByRecursion IsWord (texts_of words) → IsWord (slice_index_or words k d).now
word_plain words k d lt a = subst IsWord (word_at words k d lt) (all_at IsWord (texts_of words) k [] a (omega (arith, lt, length-map words (λ (w : Bor (List ℕ)). w.now))))

-- the form that was tried is that of the choice
pub same_form : (words : List (Bor (List ℕ))) (runs from own : List Run) (c : Choice) (d : Bor (List ℕ)) → c.word < length words → from ≡ drop c.first runs → own ≡ take c.count from → record_form (slice_index_or words c.word d).now (map field_of own) ≡ form_in (texts_of words) runs c
same_form words runs from own c d lt f o = ap₂ (λ (w : List ℕ) (rs : List Run). record_form w (map field_of rs)) (sym (word_at words c.word d lt)) (o ∙ ap (λ (l : List Run). take c.count l) f)

-- its place among the forms
pub form_at : (words : List (List ℕ)) (due : List Choice) (runs : List Run) (i : ℕ) (d : Choice) → i < length due → slice_index_or (forms_in words due runs) i no_form ≡ form_in words runs (slice_index_or due i d)
form_at words due runs i d lt = get_or-map (form_in words runs) due i d no_form lt

pub kept_back : (old new : KeptInts) → old.list ≡ [] → new.list ≡ [] → new.spare + length new.list ≡ old.spare → new ≡ old
kept_back old new a b s = same_kept new old (b ∙ sym a) (let none : length new.list ≡ 0 = ap (λ (l : List ℤ). length l) b in omega (arith, none, s))
