-- For the contracts of private functions alone. The answers that decisions and rank proofs give.
-- Source: this project's own.
use Rattle.std.specs.Prelude.{◌≡◌, length}
use Rattle.crn_vec.specs.Kept.{KeptNums}
use Rattle.crn_cert.specs.declared.answer.Verdict.TheVariants.{Rank, YesVec, NoVec}
use Rattle.crn_cert.specs.declared.answer.Proof.TheVariants.{Rank as RankRows}
use Rattle.crn_cert.specs.declared.answer.RankProof.{RankProof}
use Rattle.crn_cert.specs.declared.answer.Answer.{Answer}
use Rattle.crn_cert.specs.Answers.{plain}
use Rattle.crn_farkas.specs.declared.decision.Decision.{Decision}
use Rattle.crn_farkas.specs.declared.decision.Decision.TheVariants.{Feasible, Infeasible}

-- yes with a solution, or no with multipliers
abbrev pub vector_answer : Decision → Answer
vector_answer (Feasible vector) = plain (YesVec vector)
vector_answer (Infeasible multipliers) = plain (NoVec multipliers)

-- the number of the base with a copy of it, and the proof
pub record IsRankAnswer (proof : RankProof) (answer : Answer) : Type 0 where
  pub base : KeptNums
  pub same : base.list ≡ proof.base.list
  pub verdict : answer.verdict ≡ Rank (length proof.base.list) base
  pub proof_is : answer.proof ≡ RankRows proof
