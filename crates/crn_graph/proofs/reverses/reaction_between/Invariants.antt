use Rattle.crn_graph.proofs.Prelude.{◌≡◌, ◌+◌, ◌<◌, ◌≤◌, ℕ, length, arc_at}
use Rattle.crn_graph.proofs.reverses.reaction_between.Given as goal

-- no arc at the chain or after it goes between the two
abbrev pub invariant-loop-chain : goal.invariant-loop-chain
invariant-loop-chain l = record {
  inside : l.chain ≤ length l.graph.arcs;
  its_own : (p : ℕ) → p + 1 ≡ l.chain → (arc_at l.graph.arcs p).from ≡ l.from;
  others : (p : ℕ) → l.chain ≤ p → p < length l.graph.arcs → (arc_at l.graph.arcs p).from ≡ l.from → (arc_at l.graph.arcs p).to ≡ l.to → ⊥;
}

abbrev pub decreases-loop-chain : goal.decreases-loop-chain
decreases-loop-chain l = l.chain
