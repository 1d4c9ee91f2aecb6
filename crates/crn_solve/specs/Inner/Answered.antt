-- For the contracts of private functions alone. What the answer to a question is.
-- Source: this project's own.
-- Shapes: `earlier` holds the verdicts on earlier questions. Labels and reactions count from 1.
use Rattle.std.specs.Prelude.{◌≡◌, ◌≢◌, ◌<◌, ℕ, List, Some, None, slice_index, length}
use Rattle.crn_vec.specs.Network.{Net}
use Rattle.crn_vec.specs.Rank.{IsRank}
use Rattle.crn_vec.specs.Deficiency.{vectors}
use Rattle.crn_cert.specs.declared.answer.Answer.{Answer}
use Rattle.crn_cert.specs.declared.answer.Verdict.{Verdict}
use Rattle.crn_cert.specs.Questions.{Earlier, Question, IsOpen, rank_of}
use Rattle.crn_cert.specs.Ranges.{IsFrom}
use Rattle.crn_cert.specs.Says.{IsReactionNumber, IsTrueOf}
use Rattle.crn_cert.specs.Formed.{IsFormed}
use Rattle.crn_cert.specs.Valid.{IsValid}

-- a formed and valid answer that is not open and whose verdict is true
pub record IsDecidedAnswer (net : Net) (earlier : Earlier) (q : Question)
    (answer : Answer) : Type 0 where
  pub formed : IsFormed net earlier q answer
  pub valid : IsValid net earlier q answer
  pub true_of : IsTrueOf net q answer.verdict
  pub decided : IsOpen answer.verdict → ⊥

-- the verdict is the rank of the reaction vectors, or open
pub record IsRankOrOpen (net : Net) (verdict : Verdict) : Type 0 where
  pub rank : (s : ℕ) → rank_of verdict ≡ Some s → IsRank (vectors net) s
  pub or_open : rank_of verdict ≡ None → IsOpen verdict

-- reaction r joins two complexes of different labels
abbrev pub JoinsTwoLabels : Net → List ℕ → ℕ → Type 0
JoinsTwoLabels net labels r = (y : ℕ) × (z : ℕ) × IsReactionNumber net r y z
    × (slice_index labels y ≢ slice_index labels z)

-- reaction r is the first that joins two complexes of different labels
pub record IsFirstLeaving (net : Net) (labels : List ℕ) (r : ℕ) : Type 0 where
  pub from : IsFrom 1 (length net.reactions) r
  pub leaves : JoinsTwoLabels net labels r
  pub first : (q : ℕ) → q < r → JoinsTwoLabels net labels q → ⊥
