-- What checking a document answers, by the bytes that were read.
-- Source: this project's own. Shapes: lines of a document count from 1.
use Rattle.std.specs.Prelude.{◌≡◌, ◌≤◌, ◌+◌, ◌⊎◌, ℕ, List, ◌++◌, length, Some, Result, Ok, Err}
use Rattle.crn_io.specs.Device.{SourceSeen, Rose}
use Rattle.crn_io.specs.Pull.{Consumes, HasNoneLeft}
use Rattle.crn_io.specs.declared.lines.TheConstants.{MAX_AHEAD}
use Rattle.crn_cert.specs.Built.{built}
use Rattle.crn_ctext.specs.Records.{Record}
use Rattle.crn_ctext.specs.Blocks.{ReadOf}
use Rattle.crn_ctext.specs.Meaning.{meaning, verdicts_said}
use Rattle.crn_ctext.specs.Judged.{IsReadOf, IsFaultOf, LeavesOpen}
use Rattle.crn_ctext.specs.Linked.{AreSound}
use Rattle.crn_reading.specs.Reads.{IsRead, PullsDocument}
use Rattle.crn_document.specs.declared.check.Accepted.{Accepted}
use Rattle.crn_reading.specs.declared.fault.CheckStop.{CheckStop}
use Rattle.crn_reading.specs.declared.fault.CheckStop.TheVariants.{Rejected, Failed, NoMemory}

-- The document was read to its end, and gave this network and these blocks. The verdicts are those
-- that the blocks say, and each is true of the network or open.
pub record Accepts (accepted : Accepted) (old new : SourceSeen) : Type 0 where
  pub text : List ℕ
  pub read : IsRead text old new
  pub none : HasNoneLeft new.left
  pub blocks : List (List Record)
  pub gives : IsReadOf text (record { net = accepted.net; blocks = blocks })
  pub verdicts : accepted.verdicts ≡ verdicts_said built (meaning.start accepted.net) blocks
  pub sound : AreSound accepted.net built accepted.verdicts

-- but for the bytes of one pull at most, these leave open whether and where there is a fault
abbrev pub EndAtFault : List ℕ → Type 0
EndAtFault bytes = (before last : List ℕ) × (bytes ≡ before ++ last) × LeavesOpen before
    × (length last ≤ MAX_AHEAD)

-- the first fault of the document is of this kind and at this line, and what was pulled ends at it
pub record Rejects (code line : ℕ) (old new : SourceSeen) : Type 0 where
  pub text : List ℕ
  pub read : IsRead text old new
  pub fault : IsFaultOf text line code
  pub near : EndAtFault read.pulled

-- what was pulled leaves open whether and where there is a fault
abbrev pub PullsWhileOpen : SourceSeen → SourceSeen → Type 0
PullsWhileOpen old new = (bytes : List ℕ) × Consumes old.left bytes new.left × LeavesOpen bytes

-- what checking a document did, by its answer; memory may run out at any point
abbrev pub CheckGives : Result Accepted CheckStop → SourceSeen → SourceSeen → Type 0
CheckGives (Ok accepted) old new = Accepts accepted old new
CheckGives (Err (Rejected code line)) old new = Rejects code line old new
CheckGives (Err Failed) old new = PullsDocument old new × PullsWhileOpen old new
    × Rose old.faults new.faults × (old.faults ≤ new.faults)
CheckGives (Err NoMemory) old new = PullsDocument old new × (new.faults ≡ old.faults)

-- the document is accepted, with this network
abbrev pub IsAccepted : Result Accepted CheckStop → ReadOf → Type 0
IsAccepted (Ok accepted) read = accepted.net ≡ read.net
IsAccepted (Err stop) read = ⊥

-- If the source shows its bytes and does not fail, the document is accepted if it is read to its
-- end, and rejected by its first fault if it has one, or memory runs out.
pub record IsAnswered (result : Result Accepted CheckStop) (old new : SourceSeen) : Type 0 where
  pub good : (text : List ℕ) (read : ReadOf) → old.left ≡ Some text
      → (Rose old.faults new.faults → ⊥)
      → IsReadOf text read → IsAccepted result read ⊎ (result ≡ Err NoMemory)
  pub fault : (text : List ℕ) (line code : ℕ) → old.left ≡ Some text
      → (Rose old.faults new.faults → ⊥)
      → IsFaultOf text line code → (result ≡ Err (Rejected code line)) ⊎ (result ≡ Err NoMemory)

-- the number of a kind of faults of documents
abbrev pub IsFaultNumber : ℕ → Type 0
IsFaultNumber code = ((21 ≤ code) × (code ≤ 37)) ⊎ ((41 ≤ code) × (code ≤ 46))

-- a rejection has the number of a kind of faults
abbrev pub HasFaultNumber : Result Accepted CheckStop → Type 0
HasFaultNumber (Ok accepted) = Unit {0}
HasFaultNumber (Err (Rejected code line)) = IsFaultNumber code
HasFaultNumber (Err Failed) = Unit {0}
HasFaultNumber (Err NoMemory) = Unit {0}
