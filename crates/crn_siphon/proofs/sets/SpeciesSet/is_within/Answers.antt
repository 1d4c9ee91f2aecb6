use Rattle.crn_siphon.proofs.Prelude.{refl, refused}
use Rattle.crn_siphon.proofs.SetLaws.{bit_within, within_or}
use Rattle.crn_siphon.proofs.sets.SpeciesSet.is_within.Goals as goal

pub returns-then-either-other : goal.returns-then-either-other
returns-then-either-other c = (λ t s h. bit_within c.args.self.bits c.args.other.bits s c.if-either-other.true h, λ h. refl)

pub returns : goal.returns
returns c = refused (λ h. c.if-either-other.false (within_or c.args.self.bits c.args.other.bits h))
