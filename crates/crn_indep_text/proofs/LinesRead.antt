-- The lines of a document on the finest independent decomposition, one by one, as they are read.
use Rattle.crn_indep_text.proofs.Prelude.{◌≡◌, ◌≤◌, ◌<◌, ◌+◌, ◌^◌, ◌++◌, ℕ, zero, suc, List, [], ◌∷◌, length, map, refl, sym, ap, ap₂, subst, ◌∙◌, append_assoc, arith, Result, Ok, ℤ, pos, min, codes, slice_index_or, AllByRecursion, append-nil, Net, KeptNums, SourceSeen, MAX_NUMBERS, AreFree, AreFreeRows, Record, Form, Field, Free, Rising, most_of, small, record_form, small_form, free_form, Give, ◌>>=◌, IsOneOf, asks_part, field_of, forms_in, Run, Choice, small_numbers, rising, free_row, only, StepIs, StopIs, Reading, CheckStop, IsGiven, step_gives, step_map, step_then_is, stop_first, words, first_forms, asks_rows, AreSmall, IsRowSaid, ReadsRow, ReadsNums, ReadsRows, run_forms}

-- ---- forms

abbrev choice : ℕ → ℕ → ℕ → Choice
choice word first count = record { word = word; first = first; count = count }

pub first_forms_are : (net : Net) (most all : ℕ) (one index basis : Run) → most ≡ min (length net.names) (length net.reactions) → all ≡ length net.names + length net.reactions
    → field_of one ≡ small 1 1 most → field_of index ≡ small 1 1 all → field_of basis ≡ Rising (length net.names) all
    → forms_in words (choice 0 0 1 ∷ choice 1 1 2 ∷ []) (one ∷ index ∷ basis ∷ []) ≡ first_forms net
first_forms_are net most all one index basis m a p q r =
    ap₂ (λ (f : Field) (form : Form). record_form (codes "rank") (f ∷ []) ∷ form ∷ []) (p ∙ ap (λ (k : ℕ). small 1 1 k) m)
    (ap₂ (λ (f g : Field). record_form (codes "wide") (f ∷ g ∷ [])) (q ∙ ap (λ (k : ℕ). small 1 1 k) a) (r ∙ ap (λ (k : ℕ). Rising (length net.names) k) a))

-- the form of a run, by another name of its field
pub run_is : (word : ℕ) (run : Run) (field : Field) → field_of run ≡ field → run_forms word run ≡ record_form (slice_index_or words word []) (field ∷ []) ∷ []
run_is word run field e = ap (λ (f : Field). record_form (slice_index_or words word []) (f ∷ []) ∷ []) e

pub run_few : (run : Run) (field : Field) → field_of run ≡ field → most_of (field ∷ []) ≤ MAX_NUMBERS → most_of (field_of run ∷ []) ≤ MAX_NUMBERS
run_few run field e le = subst (λ (f : Field). most_of (f ∷ []) ≤ MAX_NUMBERS) (sym e) le

pub nums_as : (forms others : List Form) (result : Result KeptNums CheckStop) (old new : Reading) (before now : SourceSeen) → forms ≡ others → ReadsNums forms result old new before now → ReadsNums others result old new before now
nums_as forms others result old new before now e s = subst (λ (fs : List Form). ReadsNums fs result old new before now) e s

-- ---- natural numbers

all_small : (least most : ℕ) (xs : List ℕ) → most < 2 ^ 32 → AllByRecursion (λ x. (least ≤ x) × (x ≤ most)) xs → AreSmall (map pos xs)
all_small least most [] lt a = tt
all_small least most (x ∷ xs) lt a = (omega (arith, lt, a.0.1), all_small least most xs lt a.1)

small_small : (word : ℕ) (count least most : ℕ) (r : Record) → most < 2 ^ 32 → IsOneOf (small_form (slice_index_or words word []) count least most ∷ []) r → AreSmall r.numbers
small_small word count least most r lt f =
    let fits = only (small_form (slice_index_or words word []) count least most) r f in
    let s = small_numbers count least most r.numbers fits.1 in
    let each = (let a = s.2 in a.each) in
    subst AreSmall (sym s.1) (all_small least most s.0 lt each)

pub small_run_small : (word : ℕ) (run : Run) (count least most : ℕ) → field_of run ≡ small count least most → most < 2 ^ 32 → (r : Record) → IsOneOf (run_forms word run) r → AreSmall r.numbers
small_run_small word run count least most e lt r f = small_small word count least most r lt (subst (λ (fs : List Form). IsOneOf fs r) (run_is word run (small count least most) e) f)

rising_small : (word : ℕ) (count most : ℕ) (r : Record) → most < 2 ^ 32 → IsOneOf (record_form (slice_index_or words word []) (Rising count most ∷ []) ∷ []) r → AreSmall r.numbers
rising_small word count most r lt f =
    let fits = only (record_form (slice_index_or words word []) (Rising count most ∷ [])) r f in
    let p = fits.1 in
    let q = rising count most p.0 p.3.0 in
    let all : r.numbers ≡ map pos q.0 = p.2 ∙ ap (λ (t : List ℤ). p.0 ++ t) p.4 ∙ append-nil p.0 ∙ q.1 in
    let each = (let a = q.2 in a.each) in
    subst AreSmall (sym all) (all_small 1 most q.0 lt each)

pub rising_run_small : (word : ℕ) (run : Run) (count most : ℕ) → field_of run ≡ Rising count most → most < 2 ^ 32 → (r : Record) → IsOneOf (run_forms word run) r → AreSmall r.numbers
rising_run_small word run count most e lt r f = rising_small word count most r lt (subst (λ (fs : List Form). IsOneOf fs r) (run_is word run (Rising count most) e) f)

-- ---- rows

-- the numbers of a row of free numbers
pub free_said : (word width : ℕ) (read : List ℤ) (r : Record) → IsRowSaid (free_form (slice_index_or words word []) width ∷ []) read r → AreFree width r.numbers
free_said word width read r s = (free_row (slice_index_or words word []) width r (only (free_form (slice_index_or words word []) width) r s.form)).1

-- a row of a run of free numbers
pub row_as : (word width : ℕ) (run : Run) (result : Result (Unit {0}) CheckStop) (old new : Reading) (before now : SourceSeen) → field_of run ≡ Free width → ReadsRow (run_forms word run) result old new before now → ReadsRow (free_form (slice_index_or words word []) width ∷ []) result old new before now
row_as word width run result old new before now e s = subst (λ (fs : List Form). ReadsRow fs result old new before now) (run_is word run (Free width) e) s

-- no row is due
pub rows_none : (forms : List Form) (width count : ℕ) (rows : List (List ℤ)) (at : Reading) (seen : SourceSeen) → count ≡ 0 → ReadsRows forms width count rows rows (Ok tt) at at seen seen
unfolding asks_rows
rows_none forms width zero rows at seen e = step_gives [] (λ (t : Unit {0}) (given : List (List ℤ)). (rows ≡ rows ++ given) × AreFreeRows 0 width given) tt at seen (sym (append-nil rows), record { long = refl; each = tt })
rows_none forms width (suc k) rows at seen e = absurd (omega (arith, e))

-- the first of several stops
pub rows_stop : (forms : List Form) (count : ℕ) (e : CheckStop) (old : Reading) (before now : SourceSeen) → (count ≡ 0 → ⊥) → StopIs (asks_part words old.line forms) e old before now → StopIs (asks_rows old.line forms count) e old before now
unfolding asks_rows
rows_stop forms zero e old before now some s = absurd (some refl)
rows_stop forms (suc k) e old before now some s = stop_first (asks_part words old.line forms) (λ r. asks_rows (old.line + 1) forms k >>= (λ rows. Give (r.numbers ∷ rows))) e old before now s

-- a row, and then others
rows_step : (forms : List Form) (width less : ℕ) (rows more all : List (List ℤ)) (r : Record) (result : Result (Unit {0}) CheckStop) (old mid new : Reading) (before between now : SourceSeen) → IsGiven words forms r old mid before between → more ≡ rows ++ r.numbers ∷ [] → AreFree width r.numbers → mid.line ≡ old.line + 1
    → ReadsRows forms width less more all result mid new between now → ReadsRows forms width (suc less) rows all result old new before now
unfolding asks_rows
rows_step forms width less rows more all r result old mid new before between now s e free line t =
    let Says : Unit {0} → List (List ℤ) → Type 0 = λ x given. (all ≡ rows ++ given) × AreFreeRows (suc less) width given in
    step_then_is (asks_part words old.line forms) (λ q. asks_rows (old.line + 1) forms less >>= (λ given. Give (q.numbers ∷ given))) r Says result old mid new before between now s.0 s.1
    (step_map (asks_rows (old.line + 1) forms less) (λ (given : List (List ℤ)). r.numbers ∷ given) (λ (x : Unit {0}) (given : List (List ℤ)). (all ≡ more ++ given) × AreFreeRows less width given) Says result mid new between now
    (λ x given h. (h.0 ∙ ap (λ (m : List (List ℤ)). m ++ given) e ∙ append_assoc rows (r.numbers ∷ []) given, (let f = h.1 in let long = f.long in let each = f.each in record { long = ap suc long; each = (free, each) })))
    (subst (λ (n : ℕ). StepIs (asks_rows n forms less) (λ (x : Unit {0}) (given : List (List ℤ)). (all ≡ more ++ given) × AreFreeRows less width given) result mid new between now) line t))

pub rows_then : (forms : List Form) (width count less : ℕ) (rows more all : List (List ℤ)) (r : Record) (result : Result (Unit {0}) CheckStop) (old mid new : Reading) (before between now : SourceSeen) → count ≡ suc less → IsGiven words forms r old mid before between → more ≡ rows ++ r.numbers ∷ [] → AreFree width r.numbers
    → mid.line ≡ old.line + 1 → ReadsRows forms width less more all result mid new between now → ReadsRows forms width count rows all result old new before now
rows_then forms width count less rows more all r result old mid new before between now is s e free line t =
    subst (λ (n : ℕ). ReadsRows forms width n rows all result old new before now) (sym is) (rows_step forms width less rows more all r result old mid new before between now s e free line t)

-- the same lines under other names
pub rows_named : (fs gs : List Form) (w v m n : ℕ) (xs ys zs : List (List ℤ)) (result : Result (Unit {0}) CheckStop) (old new : Reading) (before now : SourceSeen) → fs ≡ gs → w ≡ v → m ≡ n → xs ≡ ys → ReadsRows fs w m xs zs result old new before now → ReadsRows gs v n ys zs result old new before now
rows_named fs gs w v m n xs ys zs result old new before now e1 e2 e3 e4 s =
    subst (λ (f : List Form). ReadsRows f v n ys zs result old new before now) e1 (subst (λ (k : ℕ). ReadsRows fs k n ys zs result old new before now) e2
    (subst (λ (k : ℕ). ReadsRows fs w k ys zs result old new before now) e3 (subst (λ (x : List (List ℤ)). ReadsRows fs w m x zs result old new before now) e4 s)))
