-- For the contracts of private functions alone. The parts of the course of a document, and what is
-- said of its end.
-- Source: this project's own format. Shapes: lines of a document count from 1.
use Rattle.std.specs.Prelude.{◌≡◌, ◌+◌, ℕ, List, [], ◌∷◌, length}
use Rattle.crn_vec.specs.Network.{Net}
use Rattle.crn_cert.specs.Built.{built}
use Rattle.crn_cert.specs.declared.answer.Verdict.{Verdict}
use Rattle.crn_ctext.specs.Records.{Record}
use Rattle.crn_ctext.specs.Kinds.{end_form}
use Rattle.crn_ctext.specs.Course.{Course, ◌>>=◌}
use Rattle.crn_ctext.specs.Blocks.{AfterBlocks, ReadOf, asks, asks_blocks, asks_table, course, lists_of}
use Rattle.crn_ctext.specs.Meaning.{Known, meaning, verdicts_said, versions}
use Rattle.crn_document.specs.declared.check.Accepted.{Accepted}
use Rattle.crn_document.specs.Inner.Blocks.{after_at}
use Rattle.crn_reading.specs.Ending.{ends_with}

-- what follows the blocks
abbrev pub last_course : (version : ℕ) → Net → AfterBlocks Known → Course ReadOf
last_course version net after =
    asks version after.line after.by_tree (end_form ∷ []) >>= (λ last.
    ends_with (record { net = net; blocks = after.blocks }))

-- what follows the network
abbrev pub rest_course : (version line : ℕ) → Net → Course ReadOf
rest_course version line net = asks_table version line >>= (λ table.
    asks_blocks meaning version (lists_of table) built
    (after_at net [] (line + length table) []) >>= (λ after.
    last_course version net after))

-- a document
abbrev pub whole_course : Course ReadOf
whole_course = course meaning versions built

-- the document is of this network, and its blocks say these verdicts
abbrev pub IsSaidIn : Net → List Verdict → ReadOf → Type 0
IsSaidIn net verdicts read = (blocks : List (List Record))
    × (read ≡ record { net = net; blocks = blocks })
    × (verdicts ≡ verdicts_said built (meaning.start net) blocks)

-- this network, and these verdicts
abbrev pub IsWhole : Accepted → ReadOf → Type 0
IsWhole accepted read = IsSaidIn accepted.net accepted.verdicts read
