-- For the contracts of private functions alone.
-- What the parts of a run do to a sink, by the status that they end with.
use Rattle.std.specs.Prelude.{◌≡◌, ◌⊎◌, ℕ, List}
use Rattle.crn_vec.specs.Network.{Net}
use Rattle.crn_io.specs.Device.{SinkSeen}
use Rattle.crn_io.specs.Write.{WroteAll, WrotePrefix}
use Rattle.crn_text.specs.Spells.{Spells}
use Rattle.crn_render.specs.Faults.{IsDocumentCode}
use Rattle.crn_render.specs.Length.{Has32Bits}
use Rattle.crn_reading.specs.declared.fault.CheckStop.{CheckStop}
use Rattle.crn_reading.specs.declared.fault.CheckStop.TheVariants as document
use Rattle.crn_run.specs.Run.{IsOutput, refused_line, rejected_line}
use Rattle.crn_run.specs.declared.words.Command.{Command}
use Rattle.crn_run.specs.declared.status.Status.{Status}
use Rattle.crn_run.specs.declared.status.Status.TheVariants.{Refused, Rejected, ReadFault, WriteFault}
use Rattle.crn_run.specs.declared.status.Status.TheVariants as status_is
use Rattle.crn_run.specs.declared.network.Stop.{Stop}
use Rattle.crn_run.specs.declared.network.Stop.TheVariants.{Fault, Failed, NoMemory}

-- writing this text, with the status `whole` if all of it was written
abbrev pub LineGives : Status → Status → List ℕ → SinkSeen → SinkSeen → Type 0
LineGives whole WriteFault out old new = WrotePrefix out old new
LineGives whole status out old new = (status ≡ whole) × WroteAll out old new

-- memory ran out before anything was written
abbrev pub HasNoMemory : Status → SinkSeen → SinkSeen → Type 0
HasNoMemory status old new = (status ≡ status_is.NoMemory) × (new ≡ old)

-- writing what a command writes for a text that was read
abbrev pub OutputGives : Command → Status → List ℕ → SinkSeen → SinkSeen → Type 0
OutputGives command status text old new = HasNoMemory status old new
    ⊎ ((whole : Status) × (out : List ℕ) × IsOutput command whole text out
    × LineGives whole status out old new)

-- writing what a command writes for each text that spells the network
abbrev pub NetworkGives : Command → Status → Net → SinkSeen → SinkSeen → Type 0
NetworkGives command status net old new =
    (text : List ℕ) → Spells text net → OutputGives command status text old new

-- ending a run that read no network
abbrev pub StopGives : Stop → Status → SinkSeen → SinkSeen → Type 0
StopGives (Fault code line) status old new = LineGives Refused status (refused_line code line) old new
StopGives Failed status old new = (status ≡ ReadFault) × (new ≡ old)
StopGives NoMemory status old new = HasNoMemory status old new

-- ending a run that read no document
abbrev pub DocumentStopGives : CheckStop → Status → SinkSeen → SinkSeen → Type 0
DocumentStopGives (document.Rejected code line) status old new = Has32Bits line × Has32Bits code
    × LineGives Rejected status (rejected_line code line) old new
DocumentStopGives document.Failed status old new = (status ≡ ReadFault) × (new ≡ old)
DocumentStopGives document.NoMemory status old new = HasNoMemory status old new

-- a rejection has a code with a name
abbrev pub HasNamedCode : CheckStop → Type 0
HasNamedCode (document.Rejected code line) = IsDocumentCode code
HasNamedCode stop = Unit {0}
