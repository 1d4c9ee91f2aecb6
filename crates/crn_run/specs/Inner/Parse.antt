-- For the contracts of private functions alone.
-- What clap reads from the words of a command line, and what the values that it reads mean.
-- Source: this project's own. Shapes: words and values are lists of bytes.
use Rattle.std.specs.Prelude.{◌≡◌, Bool, ℕ, List, [], codes, true, Option, Some, None, option_map}
use Rattle.std.specs.Str.{bytes_eq}
use Rattle.std.specs.Borrow.{Bor}
use Rattle.clap.specs.Words.{App, fault_of, first_of, matches_of, new_app, new_rule, with_rule}
use Rattle.clap.specs.declared.builder.action.ArgAction.TheVariants.{Set}
use Rattle.crn_vec.specs.declared.limits.TheConstants.{DEFAULT_BUDGET}
use Rattle.crn_run.specs.Words.{IsBudget, IsSampleNumber, part_name}
use Rattle.crn_run.specs.declared.words.Command.{Command}
use Rattle.crn_run.specs.declared.words.Command.TheVariants.{Report, Certify, Check, Sample, Prove, Verify}
use Rattle.crn_run.specs.declared.words.PartName.{PartName}

-- the one command that clap reads: a positional `command` that is required, a positional `count`, which is also the name of a part, and
-- an option `--budget`
unfoldable pub crnt_app : App
crnt_app =
    with_rule (with_rule (with_rule (new_app (codes "crnt"))
    (record (new_rule (codes "command")) { action = Some Set; required = true }))
    (record (new_rule (codes "count")) { action = Some Set }))
    (record (new_rule (codes "budget")) { long = Some (codes "budget"); action = Some Set })

-- the word is `--`
abbrev pub is_two_dashes : List ℕ → Bool
is_two_dashes word = bytes_eq word (codes "--")

-- the text that a reference points to
abbrev pub text_in : Option (Bor (List ℕ)) → Option (List ℕ)
text_in = option_map (λ v. v.now)

-- clap does not refuse the words, unless memory runs out
unfoldable pub IsRead : List (List ℕ) → Type 0
IsRead words = fault_of crnt_app words ≡ []

-- the values that clap reads from the words
unfoldable pub Gives : List (List ℕ) → Option (List ℕ) → Option (List ℕ) → Option (List ℕ) → Type 0
Gives words command count budget = (first_of (codes "command") (matches_of crnt_app words) ≡ command)
    × (first_of (codes "count") (matches_of crnt_app words) ≡ count)
    × (first_of (codes "budget") (matches_of crnt_app words) ≡ budget)

-- the budget that a word writes, or the default if there is no word
abbrev pub MeansBudget : Option (List ℕ) → ℕ → Type 0
MeansBudget None budget = budget ≡ DEFAULT_BUDGET
MeansBudget (Some text) budget = IsBudget text budget

-- the number of a sample that a word writes
abbrev pub MeansNumber : Option (List ℕ) → ℕ → Type 0
MeansNumber None number = ⊥
MeansNumber (Some text) number = IsSampleNumber text number

-- the part that a word names
abbrev pub MeansPart : Option (List ℕ) → PartName → Type 0
MeansPart None part = ⊥
MeansPart (Some text) part = text ≡ part_name part

-- the values are this name, no count, and a word that writes this budget, or none for the default
abbrev pub MeansName : List ℕ → Option (List ℕ) → Option (List ℕ) → Option (List ℕ) → ℕ → Type 0
MeansName name command count word budget = (command ≡ Some name) × (count ≡ None)
    × MeansBudget word budget

-- the command that the values mean
abbrev pub Means : Option (List ℕ) → Option (List ℕ) → Option (List ℕ) → Command → Type 0
Means command count word (Report budget) = MeansName (codes "report") command count word budget
Means command count word (Certify budget) = MeansName (codes "certify") command count word budget
Means command count word Check = (command ≡ Some (codes "check")) × (count ≡ None) × (word ≡ None)
Means command count word (Sample number budget) = (command ≡ Some (codes "sample"))
    × MeansNumber count number × MeansBudget word budget
Means command count word (Prove part budget) = (command ≡ Some (codes "prove"))
    × MeansPart count part × MeansBudget word budget
Means command count word (Verify part) = (command ≡ Some (codes "verify"))
    × MeansPart count part × (word ≡ None)
