use Rattle.crn_siphon.proofs.Prelude.{refl, arith, refused}
use Rattle.crn_siphon.proofs.SetLaws.{common_bit, no_common}
use Rattle.crn_siphon.proofs.sets.SpeciesSet.meets.Goals as goal

pub returns-then-both-ne0 : goal.returns-then-both-ne0
returns-then-both-ne0 c = (λ t. common_bit c.args.self.bits c.args.other.bits (omega arith), λ h. refl)

pub returns : goal.returns
returns c = refused (λ h. no_common c.args.self.bits c.args.other.bits h.0 c.if-both-ne0.false h.1 h.2)
