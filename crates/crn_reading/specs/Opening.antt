-- The first two lines of a document and those of its network.
-- Source: this project's own format. Shapes: lines count from 1.
use Rattle.std.specs.Prelude.{◌≡◌, ◌≤◌, ◌+◌, ℕ, List, false}
use Rattle.crn_vec.specs.Lists.{IsIn}
use Rattle.crn_vec.specs.Network.{Net}
use Rattle.crn_vec.specs.declared.limits.TheConstants.{MAX_REACTIONS}
use Rattle.crn_ctext.specs.Course.{Course, due, find, test, ◌>>=◌}
use Rattle.crn_ctext.specs.Blocks.{title, network_line, asks_lines, IsNetworkOf}
use Rattle.crn_ctext.specs.Meaning.{versions}
use Rattle.crn_ctext.specs.Parts.{part_title}
use Rattle.crn_cert.specs.Faults.{BadHeader, BadNetwork}

-- the line is the title of this version
abbrev pub IsTitleOf : List ℕ → ℕ → Type 0
IsTitleOf line version = IsIn version versions × (line ≡ title version)

-- the line says this many reactions
abbrev pub SaysCount : List ℕ → ℕ → Type 0
SaysCount line count = (1 ≤ count) × (count ≤ MAX_REACTIONS) × (line ≡ network_line count)

-- the first line and its test
abbrev pub title_course : Course ℕ
title_course = due false >>= (λ line. find 1 BadHeader ℕ (IsTitleOf line))

-- the title of a part, and its test
abbrev pub part_title_course : (name : List ℕ) → Course (Unit {0})
part_title_course name = due false >>= (λ line. test 1 BadHeader (line ≡ part_title name))

-- the second line and its test
abbrev pub count_course : Course ℕ
count_course = due false >>= (λ line. find 2 BadNetwork ℕ (SaysCount line))

-- this many lines, and the network that they write
abbrev pub network_course : ℕ → Course Net
network_course count = asks_lines count >>= (λ lines. find (2 + count) BadNetwork Net (IsNetworkOf lines))
