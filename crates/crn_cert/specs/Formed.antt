-- Which verdicts and proofs each question admits: those of a block that the table has.
-- Source: this project's own.
-- Shapes: `earlier` holds the verdicts on earlier questions, each with its question.
use Rattle.std.specs.Prelude.{ℕ, List, [], ◌∷◌, ◌++◌}
use Rattle.crn_vec.specs.Network.{Net}
use Rattle.crn_cert.specs.declared.answer.Verdict.{Verdict}
use Rattle.crn_cert.specs.declared.answer.Proof.{Proof}
use Rattle.crn_cert.specs.declared.answer.Answer.{Answer}
use Rattle.crn_cert.specs.declared.head_kind.HeadKind.TheVariants.{Wide}
use Rattle.crn_cert.specs.Questions.{Earlier, Question}
use Rattle.crn_cert.specs.Data.{Basis}
use Rattle.crn_cert.specs.Verdicts.{tight}
use Rattle.crn_cert.specs.Table.{sizes_of}
use Rattle.crn_cert.specs.Blocks.{FitsHead, FitsBlock, SaysAnswer, block_of, head_of}

-- the head of a verdict is one that its question has
abbrev pub HeadMayBe : Net → Earlier → Question → Verdict → Type 0
HeadMayBe net earlier q v = FitsHead q (sizes_of net earlier) (head_of v).0 (head_of v).1

-- the question has a head that says this vector, by the system of this class
abbrev pub IsWideGap : Net → Earlier → Question → ℕ → ℕ → ℕ → List ℕ → Type 0
IsWideGap net earlier q system class index basis =
    FitsHead q (sizes_of net earlier) Wide (Basis system class index basis ∷ [])

-- a verdict and a proof have a block that the question has, and it says them
abbrev pub IsFormedOf : Net → Earlier → Question → Verdict → Proof → Type 0
IsFormedOf net earlier q v p = let block = block_of net earlier v p in
    FitsBlock net earlier q block × SaysAnswer net earlier q block v p

-- so has an answer
abbrev pub IsFormed : Net → Earlier → Question → Answer → Type 0
IsFormed net earlier q answer = IsFormedOf net earlier q answer.verdict answer.proof

-- the answers to these questions have forms that the questions admit, each after the verdicts
-- before, whose lists count without their spares
abbrev pub AreFormed : Net → Earlier → List Question → List Answer → Type 0
AreFormed net earlier [] [] = Unit {0}
AreFormed net earlier (q ∷ qs) (answer ∷ answers) = IsFormed net earlier q answer
    × AreFormed net (earlier ++ (q, tight answer.verdict) ∷ []) qs answers
AreFormed net earlier qs answers = ⊥
