-- The command that the words of a command line say.
-- Source: this project's own. Shapes: words are lists of bytes, the first of them the program's name.
use Rattle.std.specs.Prelude.{◌≡◌, ◌≤◌, ◌⊎◌, ℕ, List, [], ◌∷◌, ◌++◌, length, codes}
use Rattle.std.specs.Str.Parse.{IsNumeral, digits_value}
use Rattle.crn_vec.specs.declared.limits.TheConstants.{MAX_BUDGET, MAX_BUDGET_DIGITS, DEFAULT_BUDGET}
use Rattle.crn_sample.specs.declared.limits.TheConstants.{MAX_SAMPLE, MAX_SAMPLE_DIGITS}
use Rattle.crn_run.specs.declared.words.Command.{Command}
use Rattle.crn_run.specs.declared.words.Command.TheVariants.{Report, Certify, Check, Sample, Prove, Verify}
use Rattle.crn_run.specs.declared.words.PartName.{PartName}
use Rattle.crn_run.specs.declared.words.PartName.TheVariants.{Persist, Robust, Decomposition, Endo}

-- the text is this many digits at most, without a sign, and writes a number from 1 to the greatest
pub record IsNumberWithin (most_digits greatest : ℕ) (text : List ℕ) (number : ℕ) : Type 0 where
  pub digits : IsNumeral 10 text
  pub short : length text ≤ most_digits
  pub value : digits_value 10 text ≡ number
  pub least : 1 ≤ number
  pub most : number ≤ greatest

-- the text is one to six digits, without a sign, and writes a budget from 1 to 100,000
abbrev pub IsBudget : List ℕ → ℕ → Type 0
IsBudget text budget = IsNumberWithin MAX_BUDGET_DIGITS MAX_BUDGET text budget

-- the text is one or two digits, without a sign, and writes the number of a sample, from 1 to 19
abbrev pub IsSampleNumber : List ℕ → ℕ → Type 0
IsSampleNumber text number = IsNumberWithin MAX_SAMPLE_DIGITS MAX_SAMPLE text number

-- the words that write a budget: `--budget N` or `--budget=N`
abbrev pub WriteBudget : List ℕ → List (List ℕ) → Type 0
WriteBudget n words = (words ≡ codes "--budget" ∷ n ∷ []) ⊎ (words ≡ (codes "--budget=" ++ n) ∷ [])

-- the words are the plain ones, with the words that write a budget before, between or after them
pub record AreWithBudget (plain : List (List ℕ)) (n : List ℕ) (words : List (List ℕ)) : Type 0 where
  pub before : List (List ℕ)
  pub after : List (List ℕ)
  pub budget : List (List ℕ)
  pub parts : plain ≡ before ++ after
  pub writes : WriteBudget n budget
  pub whole : words ≡ before ++ (budget ++ after)

-- the words are the plain ones alone, with the default budget, or these with one budget
abbrev pub SayPlain : List (List ℕ) → List (List ℕ) → ℕ → Type 0
SayPlain plain words budget = ((words ≡ plain) × (budget ≡ DEFAULT_BUDGET))
    ⊎ ((n : List ℕ) × IsBudget n budget × AreWithBudget plain n words)

-- the name of a part that is built
abbrev pub part_name : PartName → List ℕ
part_name Persist = codes "persist"
part_name Robust = codes "robust"
part_name Decomposition = codes "parts"
part_name Endo = codes "endo"

-- the words after the program's name say the command
abbrev pub Say : List (List ℕ) → Command → Type 0
Say words (Report budget) = SayPlain (codes "report" ∷ []) words budget
Say words (Certify budget) = SayPlain (codes "certify" ∷ []) words budget
Say words Check = words ≡ codes "check" ∷ []
Say words (Sample number budget) = (k : List ℕ) × IsSampleNumber k number
    × SayPlain (codes "sample" ∷ k ∷ []) words budget
Say words (Prove part budget) = SayPlain (codes "prove" ∷ part_name part ∷ []) words budget
Say words (Verify part) = words ≡ codes "verify" ∷ part_name part ∷ []

-- the words of a command line say the command
abbrev pub IsCommand : List (List ℕ) → Command → Type 0
IsCommand words command = (program : List ℕ) × (rest : List (List ℕ)) × (words ≡ program ∷ rest)
    × Say rest command

-- the words say some command
abbrev pub SayACommand : List (List ℕ) → Type 0
SayACommand words = (command : Command) × IsCommand words command
