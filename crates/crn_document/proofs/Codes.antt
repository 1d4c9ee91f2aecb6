-- The codes under which a document is rejected are numbers of kinds of faults.
use Rattle.crn_document.proofs.Prelude.{ℕ, sym, subst, inl, inr, arith, Result, Err, SourceSeen, beginning, Fault, NodeNotAllowed, TreeEndsEarly, TreeGoesOn, BadEvidence, fault_number, IsReported, none_own, fails_with_a_code, settled, CheckStop, CheckGives, HasFaultNumber, IsFaultNumber, Accepted, whole_course}
use Rattle.crn_cert.specs.Faults.{BadLeaf, WrongShape}
use Rattle.crn_reading.specs.declared.fault.CheckStop.TheVariants as stop

kind_numbered : (fault : Fault) → IsFaultNumber (fault_number fault)
kind_numbered BadLeaf = inr (omega arith, omega arith)
kind_numbered NodeNotAllowed = inr (omega arith, omega arith)
kind_numbered TreeEndsEarly = inr (omega arith, omega arith)
kind_numbered TreeGoesOn = inr (omega arith, omega arith)
kind_numbered BadEvidence = inr (omega arith, omega arith)
kind_numbered WrongShape = inr (omega arith, omega arith)
kind_numbered fault = inl (omega arith, omega arith)

reported_numbered : (code : ℕ) → IsReported none_own code → IsFaultNumber code
reported_numbered code (inl kind) = subst IsFaultNumber (sym kind.1) (kind_numbered kind.0)
reported_numbered code (inr none) = absurd none

-- a document is rejected by the number of a kind of faults
pub document_numbered : (result : Result Accepted CheckStop) (before now : SourceSeen) → CheckGives result before now → HasFaultNumber result
document_numbered (Err (stop.Rejected code line)) before now p = reported_numbered code (fails_with_a_code none_own whole_course settled (beginning p.text) line code p.fault)
document_numbered result before now p = tt
