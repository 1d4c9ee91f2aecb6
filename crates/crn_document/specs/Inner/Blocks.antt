-- For the contracts of private functions alone.
-- The parts of the course of a block, and what is known after some blocks.
-- Source: this project's own format. Shapes: questions count from 1.
use Rattle.std.specs.Prelude.{◌≡◌, ◌+◌, ◌-◌, ◌++◌, ℕ, ℤ, Bool, List, [], ◌∷◌, length, map, drop, take, false}
use Rattle.std.specs.List.{AllZip}
use Rattle.crn_vec.specs.Network.{Net}
use Rattle.crn_cert.specs.Built.{built}
use Rattle.crn_cert.specs.Questions.{Earlier, Question, Q2, Q11, on, terminal_of}
use Rattle.crn_cert.specs.Tests.{AllHold}
use Rattle.crn_cert.specs.Valid.{HasVector, exits, head_tests, linkage, linkage_count, strong}
use Rattle.crn_cert.specs.declared.answer.Verdict.TheVariants.{Yes}
use Rattle.crn_shape.specs.Sides.{AreSides}
use Rattle.crn_ctext.specs.Records.{Record, Form, Fits}
use Rattle.crn_ctext.specs.Course.{Course, Give, ◌>>=◌}
use Rattle.crn_ctext.specs.Blocks.{AfterBlocks, asks_all, asks_trees, below, claims, has_tree}
use Rattle.crn_ctext.specs.Meaning.{Known, lists, meaning}
use Rattle.crn_ctext.specs.Meaning as said
use Rattle.crn_check.specs.Facts.{asked}
use Rattle.crn_check.specs.Check.{IsBuilt}
use Rattle.crn_document.specs.declared.parts.Part.{Part}
use Rattle.crn_document.specs.declared.rows.Row.{Row}
use Rattle.crn_document.specs.Inner.Answer.{verdict_of_head}
use Rattle.crn_document.specs.Facts.{IsKnownFor}
use Rattle.crn_document.specs.Inner.Parts.{IsKnown, before, parts_below}
use Rattle.crn_document.specs.Inner.Heads.{IsHead, class_count, known_of}
use Rattle.crn_document.specs.Inner.Records.{many_rows, row_form, rows_below}
use Rattle.crn_document.specs.declared.block.Block.{Block}
use Rattle.crn_document.specs.declared.block.Checked.{Checked}
use Rattle.crn_reading.specs.declared.reading.Reading.{Reading}

-- after these verdicts and these blocks, at this line, which follows a tree or not
abbrev pub after_by : Net → Earlier → (by_tree : Bool) → (line : ℕ) → List (List Record)
    → AfterBlocks Known
after_by net earlier by_tree line blocks = record {
  known = known_of net earlier;
  by_tree = by_tree;
  line = line;
  blocks = blocks;
}

-- the same at a line that follows no tree
abbrev pub after_at : Net → Earlier → (line : ℕ) → List (List Record) → AfterBlocks Known
after_at net earlier line blocks = record {
  known = known_of net earlier;
  by_tree = false;
  line = line;
  blocks = blocks;
}

-- it is after these verdicts, at this line, which follows a tree or not
abbrev pub IsAfter : Net → Earlier → (by_tree : Bool) → (line : ℕ) → AfterBlocks Known → Type 0
IsAfter net earlier by_tree line y =
    (blocks : List (List Record)) × (y ≡ after_by net earlier by_tree line blocks)

-- after lines that open sections, if there are any, the line before is not one of a tree
abbrev pub still_by_tree : List Record → Bool → Bool
still_by_tree [] by_tree = by_tree
still_by_tree (r ∷ rs) by_tree = false

-- the verdict of a block is learnt, after which these are known
abbrev pub Learns : Net → Earlier → (question : ℕ) → (after : Earlier) → Record → List Record
    → Type 0
Learns net earlier question after h rs =
    known_of net after ≡ meaning.learn (asked question) (known_of net earlier) h rs

-- the tests of the records below a head, whose block begins at this line
abbrev pub tests_course : Net → Earlier → (question line : ℕ) → Record → List Record
    → Course (Unit {0})
tests_course net earlier question line h rs =
    claims line (meaning.row_claims (asked question) (known_of net earlier) h rs)

-- lines that open sections were read, after a tree or not, and this says whether the next line
-- still follows it
abbrev pub IsOpened : Reading → Reading → (by_tree still : Bool) → List Record → Type 0
IsOpened old new by_tree still rs =
    (new.line ≡ old.line + length rs) × (still ≡ still_by_tree rs by_tree)

-- what follows the records below a head
abbrev pub end_course : (version : ℕ) → List (List ℤ) → Question → AfterBlocks Known → Record
    → List Record → Course (AfterBlocks Known)
end_course version table q at h rows =
    claims at.line (meaning.row_claims q at.known h rows) >>= (λ x.
    asks_trees version table (meaning.problems q at.known h)
    (at.line + 1 + length rows) >>= (λ line. Give (record {
      known = meaning.learn q at.known h rows;
      by_tree = has_tree (meaning.problems q at.known h);
      line = line;
      blocks = at.blocks ++ (h ∷ rows) ∷ [];
    })))

-- what follows the tests of a head
abbrev pub rows_course : (version : ℕ) → List (List ℤ) → Question → AfterBlocks Known → Record
    → Course (AfterBlocks Known)
rows_course version table q at h =
    asks_all version (at.line + 1) false (below q (meaning.shapes at.known) h) >>= (λ rows.
    end_course version table q at h rows)

-- what follows a head
abbrev pub head_course : (version : ℕ) → List (List ℤ) → Question → AfterBlocks Known → Record
    → Course (AfterBlocks Known)
head_course version table q at h =
    claims at.line (meaning.head_claims q at.known h) >>= (λ x. rows_course version table q at h)

-- the ranks that the records below a head prove, after these verdicts
abbrev pub parts_after : Net → Earlier → (question : ℕ) → List ℤ → List Part
parts_after net earlier question head = parts_below net (linkage earlier) question head

-- the sides, ties and lists of a signal below a head with this place of its form, after these
-- verdicts
abbrev pub many_after : Net → Earlier → (question place : ℕ) → List Row
many_after net earlier question place =
    many_rows net (strong earlier) (exits earlier) (terminal_of (on earlier Q2))
    (linkage_count earlier) question place

-- the forms of the records below a head with these numbers
abbrev pub forms_below : Net → Earlier → (question : ℕ) → List ℤ → List Form
forms_below net earlier question head =
    map (row_form net (linkage earlier) (class_count question head))
    (rows_below question (said.number head 0)
    (many_after net earlier question (said.number head 0))
    (parts_after net earlier question head))

-- the tests of a head with these numbers hold
abbrev pub HeadHolds : Net → Earlier → (question : ℕ) → List ℤ → Type 0
HeadHolds net earlier question head = AllHold (head_tests net earlier (asked question)
    (verdict_of_head (asked question) head []))

-- the head and the records below it have the numbers of this block
pub record IsBlock (net : Net) (earlier : Earlier) (block : Block) (h : Record)
    (rs : List Record) : Type 0 where
  pub is_head : IsHead net earlier block.question block.head.now h
  pub fit : AllZip Fits (forms_below net earlier block.question block.head.now) rs
  pub rows_are : block.rows.now ≡ lists rs

-- of the questions that are answered, this one is at this place, counted from 1
pub record IsAt (place question : ℕ) : Type 0 where
  pub answered : IsBuilt question
  pub earlier : take (place - 1) built ≡ before question
  pub later : drop (place - 1) built ≡ asked question ∷ drop place built
  pub with_it : before question ++ asked question ∷ [] ≡ take place built

-- the sides of a yes to question 11 are those of the linked pairs, and a confluence vector is known
-- after such a yes alone
pub record KeepSides (net : Net) (earlier : Earlier) (sides : List (List ℤ)) : Type 0 where
  pub are_sides : on earlier Q11 ≡ Yes → AreSides net sides
  pub with_vector : HasVector earlier → on earlier Q11 ≡ Yes

-- the verdicts on these questions are known, and so are the sides of question 11
pub record IsReady (net : Net) (qs : List Question) (checked : Checked) : Type 0 where
  pub known : IsKnown net qs checked.facts
  pub sides : KeepSides net checked.facts.earlier checked.sides

-- what the block of this question rests on is known, and so are the sides of question 11
pub record IsReadyFor (net : Net) (question : ℕ) (checked : Checked) : Type 0 where
  pub known : IsKnownFor net question checked.facts
  pub sides : KeepSides net checked.facts.earlier checked.sides

-- the block was read up to this line, and the tests of its head hold
pub record IsRead (net : Net) (checked : Checked) (line : ℕ) (block : Block) : Type 0 where
  pub built : IsBuilt block.question
  pub ready : IsReadyFor net block.question checked
  pub ends : block.line + 1 + length block.rows.now ≡ line
  pub holds : HeadHolds net checked.facts.earlier block.question block.head.now
  pub parts_are : block.parts.now
      ≡ parts_after net checked.facts.earlier block.question block.head.now
  pub some : (h : Record) × (rs : List Record) × IsBlock net checked.facts.earlier block h rs
