-- For the contracts of private functions alone.
-- The nodes of a tree, as they are written.
-- Source: this project's own.
use Rattle.std.specs.Prelude.{[], ◌∷◌, codes, pos}
use Rattle.crn_siphon_check.specs.Preorder.{Listed, ListedFork, ListedBad, ListedLaw, ListedVoid}
use Rattle.crn_ctext.specs.Records.{Record}
use Rattle.crn_ctext.specs.Documents.{one_word}

-- the record of a node
abbrev pub record_of : Listed → Record
record_of ListedFork = one_word (codes "fork") []
record_of (ListedBad r) = one_word (codes "bad") (pos r ∷ [])
record_of (ListedLaw weights) = one_word (codes "law") weights
record_of ListedVoid = one_word (codes "void") []
