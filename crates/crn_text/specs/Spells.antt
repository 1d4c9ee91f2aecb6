-- The network that a text spells, and the first fault of a text that does not spell one.
use Rattle.std.specs.Prelude.{◌≡◌, ◌≤◌, ◌<◌, ◌⊎◌, ◌+◌, ℕ, Option, Some, None, Result, Ok, Err, List, [], length, map, take, slice_index_or}
use Rattle.std.specs.List.{AllByRecursion}
use Rattle.crn_vec.specs.Lists.{firsts}
use Rattle.crn_vec.specs.Network.{Net, IsNetwork, sides_of, sides_eq, said_by}
use Rattle.crn_vec.specs.declared.limits.TheConstants.{MAX_TEXT}
use Rattle.crn_text.specs.Tokens.{lines}
use Rattle.crn_text.specs.Sides.{all_statements}
use Rattle.crn_text.specs.Faults.{own_fault, line_fault, names_of}
use Rattle.crn_text.specs.declared.fault.TextCode.{TextCode}
use Rattle.crn_text.specs.declared.fault.TextCode.TheVariants.{NoReaction, NoMemory, TextTooLong}
use Rattle.crn_text.specs.declared.fault.TextFault.{TextFault}

-- The text spells the network: no line has a fault of its own, its names are those of the text in order of first
-- appearance, and its reactions, as amounts by name, are the statements with every later repeat dropped.
pub record Spells (text : List ℕ) (net : Net) : Type 0 where
  pub short : length text ≤ MAX_TEXT
  pub sound : AllByRecursion (λ line. own_fault line ≡ None) (lines text)
  pub names : net.names ≡ names_of (all_statements (lines text))
  pub reactions : map (sides_of net) net.reactions
      ≡ firsts sides_eq (map (said_by net.names) (all_statements (lines text)))
  pub network : IsNetwork net

-- the first test that line k, counted from 0, fails after the lines before it
abbrev pub fault_on : List (List ℕ) → ℕ → Option TextCode
fault_on ls k = line_fault (all_statements (take k ls)) (slice_index_or ls k [])

-- no line among the first `count` has a fault
abbrev pub AreFaultless : List (List ℕ) → ℕ → Type 0
AreFaultless ls count = (k : ℕ) → k < count → fault_on ls k ≡ None

-- the text is too long, whatever its lines are
pub record IsTooLong (text : List ℕ) (line : ℕ) (code : TextCode) : Type 0 where
  pub named : code ≡ TextTooLong
  pub whole : line ≡ 0
  pub long : MAX_TEXT < length text

-- the line has a fault, and no line before it has one
pub record IsFirstFault (text : List ℕ) (line : ℕ) (code : TextCode) : Type 0 where
  pub before : ℕ
  pub counted : line ≡ before + 1
  pub short : length text ≤ MAX_TEXT
  pub there : before < length (lines text)
  pub earlier : AreFaultless (lines text) before
  pub fault : fault_on (lines text) before ≡ Some code

-- no line has a fault, and no line has a statement
pub record IsWithoutReaction (text : List ℕ) (line : ℕ) (code : TextCode) : Type 0 where
  pub named : code ≡ NoReaction
  pub whole : line ≡ 0
  pub short : length text ≤ MAX_TEXT
  pub sound : AreFaultless (lines text) (length (lines text))
  pub none : all_statements (lines text) ≡ []

-- the first fault of the text
abbrev pub Fault : List ℕ → ℕ → TextCode → Type 0
Fault text line code =
    IsTooLong text line code ⊎ IsFirstFault text line code ⊎ IsWithoutReaction text line code

-- the network that the text spells, or its first fault; memory may run out at any point
abbrev pub TextGives : List ℕ → Result Net TextFault → Type 0
TextGives text (Ok net) = Spells text net
TextGives text (Err fault) = (fault.code ≡ NoMemory) ⊎ Fault text fault.line fault.code

-- each text spells a network or has a first fault
abbrev pub EachTextIsJudged : Type 0
EachTextIsJudged = (text : List ℕ) →
    ((net : Net) × Spells text net) ⊎ ((line : ℕ) × (code : TextCode) × Fault text line code)
