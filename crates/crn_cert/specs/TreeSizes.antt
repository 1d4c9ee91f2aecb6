-- How many nodes the trees of a proof have.
-- Source: this project's own.
use Rattle.std.specs.Prelude.{◌≤◌, ℕ, List}
use Rattle.std.specs.List.{AllByRecursion}
use Rattle.crn_cert.specs.declared.answer.Proof.{Proof}
use Rattle.crn_cert.specs.declared.answer.Proof.TheVariants.{One, Two}
use Rattle.crn_cert.specs.declared.answer.Answer.{Answer}
use Rattle.crn_cert.specs.Trees.{node_count}

-- each tree of the proof has at most `most` nodes
abbrev pub HasFewNodes : ℕ → Proof → Type 0
HasFewNodes most (One tree) = node_count tree ≤ most
HasFewNodes most (Two tree second) = (node_count tree ≤ most)
    × (node_count second ≤ most)
HasFewNodes most proof = Unit {0}

-- each tree of these answers has at most `most` nodes
abbrev pub HaveFewNodes : ℕ → List Answer → Type 0
HaveFewNodes most answers = AllByRecursion (λ (a : Answer). HasFewNodes most a.proof) answers
