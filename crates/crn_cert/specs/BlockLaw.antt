-- The law of blocks as values: blocks and answers are one to one.
-- Source: this project's own.
use Rattle.std.specs.Prelude.{◌≡◌}
use Rattle.crn_vec.specs.Network.{Net}
use Rattle.crn_cert.specs.Questions.{Earlier, Question}
use Rattle.crn_cert.specs.Blocks.{Block, FitsBlock, block_of, verdict_of, proof_of}

-- the block of the answer of a block that fits is that block
abbrev pub BlocksAreOfAnswers : Type 0
BlocksAreOfAnswers = (net : Net) (earlier : Earlier) (q : Question) (b : Block)
    → FitsBlock net earlier q b → block_of net earlier (verdict_of b.kind b.head b.rows)
    (proof_of net earlier q b.kind b.head b.rows b.trees) ≡ b
