-- For the contracts of private functions alone.
-- The head of a question, and what the records below it rest on.
-- Source: this project's own format. Shapes: questions and the places of forms count from 1.
use Rattle.std.specs.Prelude.{◌≡◌, ◌≤◌, ◌⊎◌, ◌==◌, ◌||◌, if◌then◌else◌, true, ℕ, ℤ, pos, List, ◌∷◌, length, map}
use Rattle.std.specs.List.{AllByRecursion}
use Rattle.crn_vec.specs.Network.{Net}
use Rattle.crn_vec.specs.declared.limits.TheConstants.{MAX_COMPLEXES, MAX_REACTIONS}
use Rattle.crn_cert.specs.Questions.{Earlier}
use Rattle.crn_cert.specs.Valid.{class_places, classes_to, linkage_count}
use Rattle.crn_ctext.specs.Records.{Record, Form}
use Rattle.crn_ctext.specs.Questions.{heads}
use Rattle.crn_ctext.specs.Blocks.{place_of}
use Rattle.crn_ctext.specs.Documents.{IsOneOf}
use Rattle.crn_ctext.specs.Meaning.{Known, number, sizes_of}
use Rattle.crn_check.specs.Facts.{asked}
use Rattle.crn_document.specs.declared.head.SignalSizes.{SignalSizes}

-- what is known of a network and of the verdicts so far
abbrev pub known_of : Net → Earlier → Known
known_of net earlier = record { net = net; earlier = earlier }

-- the forms of the head of a question after these verdicts
abbrev pub head_forms : Net → Earlier → ℕ → List Form
head_forms net earlier question = heads (asked question) (sizes_of (known_of net earlier))

-- the numbers of a head, after the place of its form
abbrev pub tagged : Net → Earlier → ℕ → Record → List ℤ
tagged net earlier question h =
    pos (place_of (head_forms net earlier question) h.words) ∷ h.numbers

-- the record is the head of this question, and these are its numbers, after the place of its form
pub record IsHead (net : Net) (earlier : Earlier) (question : ℕ) (numbers : List ℤ)
    (h : Record) : Type 0 where
  pub form : IsOneOf (head_forms net earlier question) h
  pub tag : numbers ≡ tagged net earlier question h

-- the number of classes that a head says, which the lengths of some records below it are
abbrev pub class_count : ℕ → List ℤ → ℕ
class_count question head = if question == 1 || question == 2 then number head 1 else 0

-- the sizes on which the forms of the head of question 13 rest besides, the number of pairs only if
-- there is a vector
pub record FitsSignals (net : Net) (earlier : Earlier) (question : ℕ) (z : SignalSizes) : Type 0
  where
    pub few : z.pairs ≤ MAX_REACTIONS
    pub pairs : question ≡ 13 → z.vector ≡ true → z.pairs ≡ (sizes_of (known_of net earlier)).pairs
    pub vector : question ≡ 13 → z.vector ≡ (sizes_of (known_of net earlier)).vector

-- a question the forms of whose head rest on how many linkage classes there are
abbrev pub HasClassSizes : ℕ → Type 0
HasClassSizes question = (question ≡ 6) ⊎ (question ≡ 10) ⊎ (question ≡ 11) ⊎ (question ≡ 12)

-- how many reactions each linkage class has, for the question whose head rests on it, and as many
-- numbers for those whose heads rest on how many classes there are
pub record FitsCounts (net : Net) (earlier : Earlier) (question : ℕ) (counts : List ℕ) : Type 0
  where
    pub few : length counts ≤ MAX_COMPLEXES
    pub each : AllByRecursion (λ r. r ≤ MAX_REACTIONS) counts
    pub many : HasClassSizes question
        → length counts ≡ linkage_count earlier
    pub are : question ≡ 6 → counts
        ≡ map (λ k. length (class_places net earlier k)) (classes_to (linkage_count earlier))
