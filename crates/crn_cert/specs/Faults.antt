-- The kinds of faults of a document, and the numbers under which they are reported.
-- Source: this project's own format.
use Rattle.std.specs.Prelude.{ℕ}

-- the kinds of faults of a document
pub data Fault : Type 0 where
  BadHeader : Fault
  BadNetwork : Fault
  UnknownWord : Fault
  BadField : Fault
  NumberWide : Fault
  WrongOrder : Fault
  EndsEarly : Fault
  AfterEnd : Fault
  DocumentTooLong : Fault
  LineTooLong : Fault
  WrongClasses : Fault
  WrongWalk : Fault
  NotIndependent : Fault
  NotSpanned : Fault
  BadVector : Fault
  WrongNumber : Fault
  WrongVerdict : Fault
  BadLeaf : Fault
  NodeNotAllowed : Fault
  TreeEndsEarly : Fault
  TreeGoesOn : Fault
  BadEvidence : Fault
  WrongShape : Fault

-- the number of a kind
abbrev pub fault_number : Fault → ℕ
fault_number BadHeader = 21
fault_number BadNetwork = 22
fault_number UnknownWord = 23
fault_number BadField = 24
fault_number NumberWide = 25
fault_number WrongOrder = 26
fault_number EndsEarly = 27
fault_number AfterEnd = 28
fault_number DocumentTooLong = 29
fault_number LineTooLong = 30
fault_number WrongClasses = 31
fault_number WrongWalk = 32
fault_number NotIndependent = 33
fault_number NotSpanned = 34
fault_number BadVector = 35
fault_number WrongNumber = 36
fault_number WrongVerdict = 37
fault_number BadLeaf = 41
fault_number NodeNotAllowed = 42
fault_number TreeEndsEarly = 43
fault_number TreeGoesOn = 44
fault_number BadEvidence = 45
fault_number WrongShape = 46
