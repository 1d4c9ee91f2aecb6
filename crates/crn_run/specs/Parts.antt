-- The parts: what `prove` writes of one, and what `verify` says of its documents.
-- Source: this project's own; Angeli, De Leenheer and Sontag (2007) for the part `persist`, Feinberg
-- (1987) for the part `parts`.
-- Shapes: texts are lists of bytes; lines of a text count from 1.
use Rattle.std.specs.Prelude.{◌≡◌, ◌++◌, ◌-◌, ◌↔◌, ℕ, pos, slice_index_or, [], true, if◌then◌else◌, List, map, length, codes, decimal}
use Rattle.crn_vec.specs.Network.{Net}
use Rattle.crn_text.specs.Spells.{Spells}
use Rattle.crn_render.specs.Faults.{fault_line, document_name}
use Rattle.crn_render.specs.Length.{Has32Bits}
use Rattle.crn_ctext.specs.Course.{Course}
use Rattle.crn_ctext.specs.Parts.{Part, Meant, IsPartDocument, IsPartFault, IsPartGood, part_course}
use Rattle.crn_ctext.specs.Records.{line}
use Rattle.crn_siphon_check.specs.Answers.{Said as SaidOnPersistence, IsTrueOf as IsTrueOnPersistence, IsLicensed as IsLicensedOnPersistence}
use Rattle.crn_siphon_check.specs.declared.answer.Outcome.{Outcome}
use Rattle.crn_siphon_check.specs.declared.answer.Outcome.TheVariants.{Yes, No, Undecided}
use Rattle.crn_siphon_text.specs.Document.{part as persist_part, meant as persist_meant}
use Rattle.crn_indep_check.specs.Parts.{AreTrueParts, AreLicensedParts}
use Rattle.crn_indep_check.specs.declared.parts.Parts.{Parts as AnswerOnParts}
use Rattle.crn_indep_text.specs.Document.{Seen, part as parts_part, meant as parts_meant}
use Rattle.crn_endo.specs.Answer.{IsSized, IsLicensedEndo}
use Rattle.crn_endo_check.specs.Endo.{IsTrueEndo}
use Rattle.crn_endo_check.specs.declared.endo.Endo.{Endo as AnswerOnEndotactic}
use Rattle.crn_endo_text.specs.Document.{part as endo_part, meant as endo_meant}
use Rattle.crn_endo_text.specs.declared.seen.EndoSeen.{EndoSeen}
use Rattle.crn_endo_text.specs.declared.seen.EndoSeen.TheVariants as endo
use Rattle.crn_vec.specs.Confluence.{HasConfluenceLine}
use Rattle.crn_cert.specs.Questions.{Q5, on}
use Rattle.crn_cert.specs.Licensed.{IsTrueOrLicensed}
use Rattle.crn_robust.specs.Law.{IsTrueOf as IsTrueOnRobustness}
use Rattle.crn_robust.specs.declared.robust.Robust.{Robust as CaseOfRobustness}
use Rattle.crn_robust.specs.declared.robust.Robust.TheVariants as robust
use Rattle.crn_robust_text.specs.Document.{Said as SaidOnRobustness, part as robust_part, meant as robust_meant, earlier_of, line_of}
use Rattle.crn_run.specs.declared.words.PartName.{PartName}
use Rattle.crn_run.specs.declared.words.PartName.TheVariants.{Persist, Robust, Decomposition, Endo}
use Rattle.crn_run.specs.declared.status.Status.{Status}
use Rattle.crn_run.specs.declared.status.Status.TheVariants.{Done, OpenLeft}

-- ---- what a part is about

-- What a part is about: its documents and the answers that they are of; the answers that are true of a
-- network, and those that a budget allows; whether what is read of an answer is open, and the line
-- that says it of the network.
pub record Subject : Type 1 where
  pub Answer : Type 0
  pub Read : Type 0
  pub part : Part Read
  pub meant : Meant Answer Read
  pub IsTrueOf : Net → Answer → Type 0
  pub IsLicensed : Net → (budget : ℕ) → Answer → Type 0
  pub IsOpen : Read → Type 0
  pub verdict : Net → Read → List ℕ

-- the line of a verdict on persistence
abbrev pub persist_verdict : Outcome → List ℕ
persist_verdict Yes = codes "persist: yes\n"
persist_verdict No = codes "persist: no\n"
persist_verdict Undecided = codes "persist: open\n"

-- the line of how many parts a decomposition has, and of their ranks
abbrev pub ranks_line : (ranks : List ℕ) → List ℕ
ranks_line ranks = line (codes "parts: " ++ decimal (length ranks) ++ codes ", ranks") (map pos ranks)

-- the line of a verdict on the finest independent decomposition
abbrev pub parts_verdict : Seen → List ℕ
parts_verdict seen =
    if seen.undecided then codes "parts: open\n" else ranks_line seen.ranks

-- the line of a verdict on endotactic networks
abbrev pub endo_verdict : EndoSeen → List ℕ
endo_verdict endo.Yes = codes "endo: yes\n"
endo_verdict (endo.No reaction) = codes "endo: no, reaction " ++ decimal reaction ++ codes "\n"
endo_verdict endo.Undecided = codes "endo: open\n"

-- what is said of robustness is true, and so is whether the confluence space is a line, unless it is
-- open
abbrev pub AreTrueOnRobustness : Net → SaidOnRobustness → Type 0
AreTrueOnRobustness net said = IsTrueOnRobustness net said.robust
    × ((said.robust ≡ robust.Rests → ⊥) → (line_of said.robust ≡ 1) ↔ HasConfluenceLine net)

-- the verdict on the rank is true, or open for its cause
abbrev pub IsLicensedOnRobustness : Net → (budget : ℕ) → SaidOnRobustness → Type 0
IsLicensedOnRobustness net budget said =
    IsTrueOrLicensed net budget [] Q5 (on (earlier_of net said.blocks) Q5)

-- the lines of a verdict on robustness, of a network whose species it may name, and of its confluence
-- space
abbrev pub robust_verdict : Net → CaseOfRobustness → List ℕ
robust_verdict net (robust.Yes species first second) = codes "robust: hypotheses hold, species "
    ++ slice_index_or net.names (species - 1) [] ++ codes "\nconfluence space: a line\n"
robust_verdict net (robust.Number d) = codes "robust: hypotheses fail, deficiency " ++ decimal d
    ++ codes "\nconfluence space: no line\n"
robust_verdict net robust.None =
    codes "robust: hypotheses fail, no pair\nconfluence space: a line\n"
robust_verdict net robust.Rests = codes "robust: open\n"

-- what each part is about
abbrev pub subject_of : PartName → Subject
subject_of Persist = record {
  Answer = SaidOnPersistence;
  Read = Outcome;
  part = persist_part;
  meant = persist_meant;
  IsTrueOf = IsTrueOnPersistence;
  IsLicensed = IsLicensedOnPersistence;
  IsOpen = λ outcome. outcome ≡ Undecided;
  verdict = λ net outcome. persist_verdict outcome;
}
subject_of Robust = record {
  Answer = SaidOnRobustness;
  Read = CaseOfRobustness;
  part = robust_part;
  meant = robust_meant;
  IsTrueOf = AreTrueOnRobustness;
  IsLicensed = IsLicensedOnRobustness;
  IsOpen = λ case. case ≡ robust.Rests;
  verdict = robust_verdict;
}
subject_of Decomposition = record {
  Answer = AnswerOnParts;
  Read = Seen;
  part = parts_part;
  meant = parts_meant;
  IsTrueOf = AreTrueParts;
  IsLicensed = λ net budget answer. AreLicensedParts net answer;
  IsOpen = λ seen. seen.undecided ≡ true;
  verdict = λ net seen. parts_verdict seen;
}
subject_of Endo = record {
  Answer = AnswerOnEndotactic;
  Read = EndoSeen;
  part = endo_part;
  meant = endo_meant;
  IsTrueOf = IsTrueEndo;
  IsLicensed = λ net budget answer. IsSized net answer × IsLicensedEndo net budget answer;
  IsOpen = λ seen. seen ≡ endo.Undecided;
  verdict = λ net seen. endo_verdict seen;
}

-- ---- what is written

-- a run ends as OpenLeft if this is open, and as Done if it is not
abbrev pub IsLeftBy : (open_is : Type 0) → Status → Type 0
IsLeftBy open_is Done = open_is → ⊥
IsLeftBy open_is OpenLeft = open_is
IsLeftBy open_is status = ⊥

-- the text spells the network, and this is the part's document of it and of an answer that is true of
-- it or open, and that this budget allows; the run ends by whether it is open
pub record IsProofOf (subject : Subject) (budget : ℕ) (status : Status) (text out : List ℕ)
    : Type 0 where
  pub net : Net
  pub answer : subject.Answer
  pub spells : Spells text net
  pub true_of : subject.IsTrueOf net answer
  pub licensed : subject.IsLicensed net budget answer
  pub left : IsLeftBy (subject.IsOpen (subject.meant.says answer)) status
  pub document : IsPartDocument subject.part subject.meant net answer out

-- the text is the part's document of a network and of an answer that is true of it or open, and this
-- the line that says what is read of it
pub record IsVerdictOf (subject : Subject) (text out : List ℕ) : Type 0 where
  pub net : Net
  pub answer : subject.Answer
  pub document : IsPartDocument subject.part subject.meant net answer text
  pub true_of : subject.IsTrueOf net answer
  pub written : out ≡ subject.verdict net (subject.meant.says answer)

-- the line that says the first fault of a text as a document of the part, whose line and code have 32
-- bits
pub record IsPartRejectionOf (subject : Subject) (text out : List ℕ) : Type 0 where
  pub line : ℕ
  pub code : ℕ
  pub short : Has32Bits line × Has32Bits code
  pub fault : IsPartFault subject.part text line code
  pub written : out ≡ fault_line (codes "rejected") code (document_name code) line

-- ---- documents of a part

-- the course of its documents
abbrev pub course_of : (subject : Subject) → Course (Net × subject.Read)
course_of subject = part_course subject.part

-- the text is a document of the part
abbrev pub IsGoodOf : PartName → List ℕ → Type 0
IsGoodOf part text = IsPartGood (subject_of part).part (subject_of part).meant text

-- the text has a fault as one
abbrev pub IsFaultyOf : PartName → List ℕ → Type 0
IsFaultyOf part text = (line : ℕ) × (code : ℕ) × IsPartFault (subject_of part).part text line code
