use Rattle.crn_ctree.proofs.Prelude.{◌≡◌, ◌≤◌, [], vec_len, vec_capacity, due_after}
use Rattle.crn_ctree.proofs.path.lead_on.Given as goal

abbrev pub invariant-loop-option : goal.invariant-loop-option
invariant-loop-option l = (due_after [] l.options.items ≡ due_after [] l.initial.options.items) × (vec_capacity l.options ≡ vec_capacity l.initial.options) × (vec_len l.options ≤ vec_len l.initial.options)

abbrev pub decreases-loop-option : goal.decreases-loop-option
decreases-loop-option l = vec_len l.options
