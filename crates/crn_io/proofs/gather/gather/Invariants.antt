use Rattle.crn_io.proofs.Prelude.{◌≡◌, ◌-◌, ◌+◌, ◌++◌, ◌≤◌, List, ℕ, vec_len, vec_capacity, MAX_AHEAD, Consumes, IsLine, AreHeld}
use Rattle.crn_io.proofs.gather.gather.Given as goal

abbrev pub invariant-pulls : goal.invariant-pulls
invariant-pulls g l = (pulled : List ℕ) × (l.held.items ≡ l.initial.held.items ++ pulled) × Consumes ((g.S.Source.seen l.initial.source).left) pulled ((g.S.Source.seen l.source).left)
    × ((g.S.Source.seen l.source).faults ≡ (g.S.Source.seen l.initial.source).faults) × IsLine l.held.items × (l.most + MAX_AHEAD ≤ vec_capacity l.held) × (vec_capacity l.initial.held ≤ vec_capacity l.held)
    × AreHeld l.held.items l.most

abbrev pub decreases-pulls : goal.decreases-pulls
decreases-pulls g l = l.most - vec_len l.held
