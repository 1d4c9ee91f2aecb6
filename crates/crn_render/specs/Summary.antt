-- The text that the command `sample` writes: the sizes of the network, a word for each verdict, and
-- that the document of the answers was accepted.
-- Source: this project's own format.
-- Shapes: texts are lists of bytes, and every line ends by LF.
use Rattle.std.specs.Prelude.{ℕ, List, ◌++◌, length, codes, decimal}
use Rattle.std.specs.List.{flat_map}
use Rattle.crn_vec.specs.Network.{Net}
use Rattle.crn_cert.specs.declared.answer.Verdict.{Verdict}
use Rattle.crn_cert.specs.declared.answer.Verdict.TheVariants.{Classes, Strong, Rank, Deficiency, Yes, YesWeak, YesVec, YesSignal, NotRegular, OnlyZero, Plane, NotApplicable, Unknown}

-- the word of a verdict: its number, or whether it says yes, none, open or, else, no
abbrev pub brief : Verdict → List ℕ
brief (Classes count label) = decimal count
brief (Strong count terminal label exit) = decimal count
brief (Rank rank base) = decimal rank
brief (Deficiency total classes) = decimal total
brief Yes = codes "yes"
brief (YesWeak weak) = codes "yes"
brief (YesVec vector) = codes "yes"
brief (YesSignal turn shelves mu m weights) = codes "yes"
brief NotRegular = codes "none"
brief OnlyZero = codes "none"
brief (Plane first second one two) = codes "none"
brief NotApplicable = codes "none"
brief (Unknown gap) = codes "open"
brief verdict = codes "no"

-- the number of the sample, and the sizes of its network
unfoldable pub sample_line : (number : ℕ) → Net → List ℕ
sample_line number net = codes "sample " ++ decimal number ++ codes ": "
    ++ decimal (length net.names) ++ codes " species, "
    ++ decimal (length net.complexes) ++ codes " complexes, "
    ++ decimal (length net.reactions) ++ codes " reactions\n"

-- a word for each verdict, each after a space
abbrev pub briefs : List Verdict → List ℕ
briefs verdicts = flat_map (λ v. codes " " ++ brief v) verdicts

-- the verdicts, by a word each
unfoldable pub verdicts_line : List Verdict → List ℕ
verdicts_line verdicts = codes "verdicts:" ++ briefs verdicts ++ codes "\n"

-- the document was accepted
unfoldable pub accepted_line : List ℕ
accepted_line = codes "check: accepted\n"

-- the summary of the sample of this number, with these verdicts
abbrev pub summary : (number : ℕ) → Net → List Verdict → List ℕ
summary number net verdicts = sample_line number net ++ verdicts_line verdicts ++ accepted_line
