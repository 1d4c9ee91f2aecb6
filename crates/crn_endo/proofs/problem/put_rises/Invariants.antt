use Rattle.crn_endo.proofs.Prelude.{◌≡◌, ◌≤◌, ◌<◌, ◌-◌, length, reaction_at, AreRaised}
use Rattle.crn_endo.proofs.problem.put_rises.Given as goal

abbrev pub invariant-loop-q : goal.invariant-loop-q
invariant-loop-q l = record {
  raised : AreRaised l.net l.c l.q l.initial.words l.words;
  most : l.q ≤ length l.net.reactions;
  from : l.q < length l.net.reactions → (reaction_at l.net l.q).0 ≡ l.c;
}

abbrev pub decreases-loop-q : goal.decreases-loop-q
decreases-loop-q l = length l.net.reactions - l.q
