-- Shares of answers, and of the records of these answers: what is required of the one is required of the
-- other.
-- Source: this project's own.
use Rattle.std.specs.Prelude.{◌≡◌, ◌↔◌, List, []}
use Rattle.crn_vec.specs.Network.{Net}
use Rattle.crn_io.specs.declared.lines.TheConstants.{MAX_SHARED, MAX_NUMBERS}
use Rattle.crn_cert.specs.declared.answer.Answer.{Answer}
use Rattle.crn_cert.specs.Built.{built}
use Rattle.crn_cert.specs.Formed.{AreFormed}
use Rattle.crn_cert.specs.Shares.{Shared, FitsAnswers, share_of}
use Rattle.crn_ctext.specs.Documents as documents
use Rattle.crn_ctext.specs.Documents.{Share, FitsShare}
use Rattle.crn_ctext.specs.Linked.{records_of}

-- a share of answers as documents see it
abbrev pub as_share : Shared → Share
as_share share = record { table = share.table; leaf = share.leaf }

-- the share of formed answers is that of their records
abbrev pub SharesAreOfRecords : Type 0
SharesAreOfRecords = (net : Net) (answers : List Answer) → AreFormed net [] built answers
    → documents.share_of (records_of net answers) ≡ as_share (share_of MAX_SHARED answers)

-- a share fits formed answers if and only if it fits their records
abbrev pub SharesFitRecords : Type 0
SharesFitRecords = (net : Net) (answers : List Answer) (share : Shared)
    → AreFormed net [] built answers
    → FitsAnswers MAX_SHARED MAX_NUMBERS answers share
    ↔ FitsShare (records_of net answers) (as_share share)
