-- For the contracts of private functions alone.
-- What reading a network does, by its answer.
use Rattle.std.specs.Prelude.{◌≡◌, ◌≤◌, ◌+◌, ℕ, List, Result, Ok, Err, IfSome}
use Rattle.crn_vec.specs.Network.{Net}
use Rattle.crn_vec.specs.declared.limits.TheConstants.{MAX_TEXT}
use Rattle.crn_io.specs.Device.{SourceSeen, Rose}
use Rattle.crn_io.specs.Read.{ConsumesUpTo}
use Rattle.crn_text.specs.Spells.{Spells, Fault as IsFault}
use Rattle.crn_run.specs.Run.{IsReadOut, IsReadUp}
use Rattle.crn_run.specs.declared.network.Stop.{Stop}
use Rattle.crn_run.specs.declared.network.Stop.TheVariants.{Fault, Failed, NoMemory}

-- the network of a text, or its first fault
abbrev pub TextRead : Result Net Stop → List ℕ → Type 0
TextRead (Ok net) text = Spells text net
TextRead (Err (Fault code line)) text = IsFault text line code
TextRead (Err Failed) text = ⊥
TextRead (Err NoMemory) text = Unit {0}

-- a text was read, and its network or its first fault was found
pub record HasRead (text : List ℕ) (old new : SourceSeen) : Type 0 where
  pub left : IfSome old.left (λ left. left ≡ text)
  pub within : ConsumesUpTo (MAX_TEXT + 1) old.left new.left
  pub faults : new.faults ≡ old.faults

-- what was read, by the answer
abbrev pub NetworkRead : Result Net Stop → SourceSeen → SourceSeen → Type 0
NetworkRead (Ok net) old new = (text : List ℕ) × HasRead text old new × IsReadOut old.left new.left × Spells text net
NetworkRead (Err (Fault code line)) old new = (text : List ℕ) × HasRead text old new
    × IsReadUp old.left new.left × IsFault text line code
NetworkRead (Err Failed) old new = ConsumesUpTo (MAX_TEXT + 1) old.left new.left
    × Rose old.faults new.faults × (old.faults ≤ new.faults)
NetworkRead (Err NoMemory) old new = ConsumesUpTo (MAX_TEXT + 1) old.left new.left
    × (new.faults ≡ old.faults)
