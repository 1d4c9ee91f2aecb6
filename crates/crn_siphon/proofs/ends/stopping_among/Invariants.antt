use Rattle.crn_siphon.proofs.Prelude.{◌<◌, ℕ, get_or, Ends, HasCommon, IsWithin}
use Rattle.crn_siphon.proofs.ends.stopping_among.Given as goal

-- none so far stops the place
abbrev pub invariant-loop-i : goal.invariant-loop-i
invariant-loop-i l = (k : ℕ) (none : Ends) → k < l.i → HasCommon (get_or l.ends k none).product l.place.inside × IsWithin (get_or l.ends k none).reactant l.place.outside → ⊥
