-- The text of a report, as a function of a network and its verdicts.
-- Source: this project's own format.
-- Shapes: texts are lists of bytes, and every line ends by LF.
use Rattle.std.specs.Prelude.{◌+◌, ℕ, List, [], ◌∷◌, ◌++◌, length, codes, decimal}
use Rattle.std.specs.List.{flat_map, zip}
use Rattle.crn_vec.specs.Network.{Net}
use Rattle.crn_io.specs.Joined.{joined}
use Rattle.crn_cert.specs.Questions.{Question}
use Rattle.crn_cert.specs.declared.answer.Verdict.{Verdict}
use Rattle.crn_cert.specs.declared.answer.Verdict.TheVariants.{Unknown}
use Rattle.crn_render.specs.Words.{question_line}
use Rattle.crn_render.specs.Details.{details, complex_texts}

-- ---- the head

-- the first line of a report
unfoldable pub first_line : List ℕ
first_line = codes "crn report 1\n"

-- the number of species, and their names
unfoldable pub species_line : Net → List ℕ
species_line net = codes "species " ++ decimal (length net.names) ++ codes ": "
    ++ joined (codes " ") net.names ++ codes "\n"

-- the number of complexes, and the complexes
unfoldable pub complexes_line : Net → List ℕ
complexes_line net = codes "complexes " ++ decimal (length net.complexes) ++ codes ": "
    ++ joined (codes "; ") (complex_texts net) ++ codes "\n"

-- the number of reactions
unfoldable pub reactions_line : Net → List ℕ
reactions_line net = codes "reactions " ++ decimal (length net.reactions) ++ codes "\n"

-- the lines before the questions
abbrev pub head : Net → List ℕ
head net = first_line ++ species_line net ++ complexes_line net ++ reactions_line net

-- ---- the questions

-- the lines of a question with its verdict
abbrev pub question_lines : Net → Question × Verdict → List ℕ
question_lines net asked = question_line asked.0 asked.1 ++ details net asked.0 asked.1

-- the lines of all questions
abbrev pub all_lines : Net → List Question → List Verdict → List ℕ
all_lines net qs verdicts = flat_map (question_lines net) (zip qs verdicts)

-- 1 for an open question
abbrev pub one_if_open : Verdict → ℕ
one_if_open (Unknown gap) = 1
one_if_open verdict = 0

-- how many questions are open
abbrev pub open_count : List Verdict → ℕ
open_count [] = 0
open_count (v ∷ vs) = one_if_open v + open_count vs

-- the number of open questions
unfoldable pub open_line : ℕ → List ℕ
open_line count = codes "open: " ++ decimal count ++ codes "\n"

-- ---- the report

-- the report of a network with these verdicts on these questions
abbrev pub render : List Question → Net → List Verdict → List ℕ
render qs net verdicts = head net ++ all_lines net qs verdicts ++ open_line (open_count verdicts)
