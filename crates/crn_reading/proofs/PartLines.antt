-- A line of a part, as it is read: by the words and the forms of the part, the place of its word, and a test after it.
use Rattle.crn_reading.proofs.Prelude.{◌≡◌, ◌<◌, ◌+◌, ℕ, zero, suc, Bool, true, List, [], ◌∷◌, length, refl, sym, subst, ◌∙◌, inl, arith, Result, ℤ, if◌then◌else◌, slice_index_or, ◌&&◌, bytes_eq, eqb-true, and_cases, SourceSeen, Record, Form, Course, ◌>>=◌, test_own, Gives, FailsFirst, word_of, asks_part, forms_in, StepGives, Run, Choice, CanRead, StepIs, StopIs, IsPartSaid, ReadsPart, Reading, CheckStop, Rejected}
use Rattle.std.specs.Prelude.{◌==◌}
use Rattle.crn_reading.proofs.Steps.{tests_give, tests_fail, step_then_is, stop_first}

-- ---- words and forms

-- a line of these forms, by another name of the words
pub words_named : (ts words : List (List ℕ)) (due : List Choice) (runs : List Run) (result : Result ℕ CheckStop) (old new : Reading) (before now : SourceSeen) → ts ≡ words
    → StepIs (asks_part ts old.line (forms_in ts due runs)) (λ place r. IsPartSaid ts (forms_in ts due runs) place new.numbers.list r) result old new before now → ReadsPart words (forms_in words due runs) result old new before now
words_named ts words due runs result old new before now e s =
    subst (λ (t : List (List ℕ)). StepIs (asks_part t old.line (forms_in t due runs)) (λ place r. IsPartSaid t (forms_in t due runs) place new.numbers.list r) result old new before now) e s

-- and by another name of the forms
pub forms_named : (words : List (List ℕ)) (fs gs : List Form) (result : Result ℕ CheckStop) (old new : Reading) (before now : SourceSeen) → fs ≡ gs → ReadsPart words fs result old new before now → ReadsPart words gs result old new before now
forms_named words fs gs result old new before now e s = subst (λ (f : List Form). ReadsPart words f result old new before now) e s

-- a line was read, and this is its record
abbrev pub IsGiven : (words : List (List ℕ)) → List Form → Record → (old mid : Reading) → (before between : SourceSeen) → Type 0
IsGiven words forms r old mid before between =
    StepGives (asks_part words old.line forms) r old.line mid.line old.lines mid.lines before.left between.left × (between.faults ≡ before.faults)

-- ---- the place of a word

unfoldable pub find : List ℕ → List (List ℕ) → ℕ
find w [] = 0
find w (v ∷ vs) = if bytes_eq v w then 0 else suc (find w vs)

-- each of the later words has its place, which is counted from this one
abbrev pub have_places : List (List ℕ) → (from : ℕ) → List (List ℕ) → Bool
have_places words from [] = true
have_places words from (v ∷ vs) = (find v words == from) && have_places words (suc from) vs

found_from : (words later : List (List ℕ)) (from place : ℕ) (w : List ℕ) → have_places words from later ≡ true → place < length later → slice_index_or later place [] ≡ w → find w words ≡ from + place
found_from words [] from place w h lt e = absurd (omega (arith, lt))
found_from words (v ∷ vs) from zero w h lt e =
    let b = and_cases (find v words == from) (have_places words (suc from) vs) h in
    subst (λ (x : List ℕ). find x words ≡ from + 0) e (let same : find v words ≡ from = eqb-true (find v words) from b.0 in omega (arith, same))
found_from words (v ∷ vs) from (suc place) w h lt e =
    let b = and_cases (find v words == from) (have_places words (suc from) vs) h in
    let n = found_from words vs (suc from) place w b.1 (omega (arith, lt)) e in
    omega (arith, n)

pub place_is : (words : List (List ℕ)) (place : ℕ) (w : List ℕ) → have_places words 0 words ≡ true → place < length words → slice_index_or words place [] ≡ w → find w words ≡ place
place_is words place w h lt e = let n = found_from words words 0 place w h lt e in omega (arith, n)

-- a record of this word has its place
pub placed : (words : List (List ℕ)) (forms : List Form) (place : ℕ) (read : List ℤ) (r : Record) (w : List ℕ) → have_places words 0 words ≡ true → IsPartSaid words forms place read r → word_of r ≡ w → find w words ≡ place
placed words forms place read r w h s e = place_is words place w h s.inside (sym s.kind ∙ e)

-- ---- tests

-- a test that holds takes nothing off the source
pub own_holds : {B T : Type 0} (n number : ℕ) (P : Type 0) (f : Unit {0} → Course B) (Says : T → B → Type 0) (result : Result T CheckStop) (at new : Reading) (seen now : SourceSeen)
    → P → StepIs (f tt) Says result at new seen now → StepIs (test_own n number P >>= f) Says result at new seen now
unfolding Gives
own_holds n number P f Says result at new seen now p s =
    step_then_is (test_own n number P) f tt Says result at at new seen seen now (tests_give (test_own n number P) tt at.line at.lines seen.left (λ place. (tt, p, (refl, refl)))) refl s

-- and one that fails is the first fault
pub own_fails : {B : Type 0} (n m number : ℕ) (P : Type 0) (f : Unit {0} → Course B) (at : Reading) (seen : SourceSeen) → n ≡ m → (P → ⊥) → CanRead at → StopIs (test_own n number P >>= f) (Rejected number m) at seen seen
unfolding FailsFirst
own_fails n m number P f at seen e none can =
    subst (λ (k : ℕ). StopIs (test_own n number P >>= f) (Rejected number k) at seen seen) e
    (stop_first (test_own n number P) f (Rejected number n) at seen seen (tests_fail (test_own n number P) at.line n number at seen.left can (λ place. inl (refl, refl, λ x p. none p)), refl))
