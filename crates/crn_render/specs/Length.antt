-- How long the texts are at most that are written.
-- Source: this project's own.
use Rattle.std.specs.Prelude.{◌<◌, ◌^◌, ℕ, List, [], length, codes}
use Rattle.crn_vec.specs.Network.{Net, IsNetwork}
use Rattle.crn_io.specs.declared.lines.TheConstants.{MAX_DOCUMENT}
use Rattle.crn_text.specs.declared.fault.TextCode.{TextCode}
use Rattle.crn_text.specs.Codes.{code_number, code_name}
use Rattle.crn_cert.specs.Built.{built}
use Rattle.crn_cert.specs.Answers.{verdicts_of}
use Rattle.crn_cert.specs.Formed.{AreFormed}
use Rattle.crn_cert.specs.declared.answer.Answer.{Answer}
use Rattle.crn_render.specs.Report.{render}
use Rattle.crn_render.specs.Summary.{summary}
use Rattle.crn_render.specs.Faults.{fault_line, document_name}

-- the number has 32 bits
abbrev pub Has32Bits : ℕ → Type 0
Has32Bits number = number < 2 ^ 32

-- a report of formed answers is shorter than a document may be
abbrev pub ReportsAreShort : Type 0
ReportsAreShort = (net : Net) (answers : List Answer) → IsNetwork net
    → AreFormed net [] built answers
    → length (render built net (verdicts_of answers)) < MAX_DOCUMENT

-- so is a summary of formed answers
abbrev pub SummariesAreShort : Type 0
SummariesAreShort = (number : ℕ) (net : Net) (answers : List Answer) → Has32Bits number
    → IsNetwork net → AreFormed net [] built answers
    → length (summary number net (verdicts_of answers)) < MAX_DOCUMENT

-- so are the lines that say a fault
pub record FaultLinesAreShort : Type 0 where
  pub refused : (code : TextCode) (line : ℕ) → Has32Bits line
      → length (fault_line (codes "refused") (code_number code) (code_name code) line) < MAX_DOCUMENT
  pub rejected : (code line : ℕ) → Has32Bits code → Has32Bits line
      → length (fault_line (codes "rejected") code (document_name code) line) < MAX_DOCUMENT
