-- For the contracts of private functions alone.
-- The nodes of trees, as they are read one by one, and the prefixes that are due.
-- Source: this project's own.
-- Shapes: lines count from 1, reactions from 0. `due` lists the prefixes whose trees are still to come,
-- the next one first.
use Rattle.std.specs.Prelude.{◌≡◌, ◌≢◌, ◌==◌, ◌+◌, ◌-◌, ℕ, ℤ, if◌then◌else◌, List, [], ◌∷◌, length, Result, Ok, Err}
use Rattle.crn_vec.specs.declared.signs.Sign.{Sign}
use Rattle.crn_vec.specs.Network.{Net}
use Rattle.crn_vec.specs.Problems.{Signed}
use Rattle.crn_cert.specs.Nodes.{Said, Splits, Flats, CutsA}
use Rattle.crn_ctree.specs.Gives.{IsTaken}
use Rattle.crn_ctree.specs.declared.node.Step.{Step}
use Rattle.crn_ctree.specs.declared.node.Step.TheVariants.{More, Complete}
use Rattle.crn_ctree.specs.declared.fault.TreeFault.{TreeFault}
use Rattle.crn_ctree.specs.declared.fault.TreeFault.TheVariants.{BadLeaf, NodeNotAllowed, TreeEndsEarly, WrongShape}
use Rattle.crn_io.specs.Device.{SourceSeen}
use Rattle.crn_ctext.specs.Course.{Course, Give}
use Rattle.crn_reading.specs.Steps.{StepIs, StopIs}
use Rattle.crn_reading.specs.declared.reading.Reading.{Reading}
use Rattle.crn_reading.specs.declared.fault.CheckStop.{CheckStop}
use Rattle.crn_endo_check.specs.Slopes.{slopes}
use Rattle.crn_endo_text.specs.Document.{asks_tree, asks_trees}
use Rattle.crn_endo_text.specs.declared.seen.EndoSeen.{EndoSeen}
use Rattle.crn_endo_text.specs.declared.seen.EndoSeen.TheVariants.{Yes}

-- what a line of a node says, by the place of its word
abbrev pub said_at : (place : ℕ) → List ℤ → Said
said_at place numbers =
    if place == 6 then Splits else (if place == 7 then Flats else CutsA numbers)

-- the number of a fault: of a cut 72, of another node 71
abbrev pub number_of : TreeFault → ℕ
number_of BadLeaf = 72
number_of NodeNotAllowed = 71
number_of TreeEndsEarly = 71
number_of WrongShape = 71

-- ---- what is due

-- the trees of the reactions from reaction r on, and then yes
abbrev pub asks_from : Net → (r line : ℕ) → Course (ℕ × EndoSeen)
asks_from net r n = asks_trees net (length net.reactions - r) r n (λ k. Give (k, Yes))

-- the trees of these prefixes of reaction r, and then those of the later reactions
unfoldable pub asks_due : Net → (r : ℕ) → List (List Sign) → (line : ℕ) → Course (ℕ × EndoSeen)
asks_due net r [] n = asks_from net (r + 1) n
asks_due net r (prefix ∷ due) n =
    asks_tree (slopes net r) ((slopes net r).choices - length prefix) prefix n
    (λ k. asks_due net r due k)

-- more prefixes are due, or none
abbrev pub Leaves : Step → List (List Sign) → Type 0
Leaves More due = due ≢ []
Leaves Complete due = due ≡ []

-- a node that fits the prefix that is due was taken
pub record Takes (w : Signed) (due : List (List Sign)) (node : Said) (after : List (List Sign))
    (step : Step) : Type 0 where
  pub taken : IsTaken w due node after
  pub leaves : Leaves step after

-- ---- what was read

-- the course gives the number of the line that is due next, and what is answered
abbrev pub ReadsSeen : Course (ℕ × EndoSeen) → Result EndoSeen CheckStop → Reading → Reading
    → SourceSeen → SourceSeen → Type 0
ReadsSeen course result old new before now =
    StepIs course (λ seen y. y ≡ (new.line, seen)) result old new before now

-- a reading that goes on by what is left of a course is one of the whole course
abbrev pub GoesOnBy : (whole left : Course (ℕ × EndoSeen)) → Reading → Reading → SourceSeen
    → SourceSeen → Type 0
GoesOnBy whole left old mid before between =
    (result : Result EndoSeen CheckStop) (new : Reading) (now : SourceSeen)
    → ReadsSeen left result mid new between now → ReadsSeen whole result old new before now

-- a course was read up to what is left of it
abbrev pub ReadsUpTo : (whole left : Course (ℕ × EndoSeen)) → Result (Unit {0}) CheckStop → Reading
    → Reading → SourceSeen → SourceSeen → Type 0
ReadsUpTo whole left (Ok done) old new before now = GoesOnBy whole left old new before now
ReadsUpTo whole left (Err stop) old new before now = StopIs whole stop old before now

-- the trees of the reactions from one up to another were read
abbrev pub ReadsTrees : Net → (from to : ℕ) → Result (Unit {0}) CheckStop → Reading → Reading
    → SourceSeen → SourceSeen → Type 0
ReadsTrees net from to result old new before now =
    ReadsUpTo (asks_from net from old.line) (asks_from net to new.line) result old new before now
