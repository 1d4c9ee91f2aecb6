use Rattle.crn_check.proofs.Prelude.{arith, inl, inr, refl}
use Rattle.crn_check.proofs.check.shown_verdict.Goals as goal

pub returns-in_default : goal.returns-in_default
returns-in_default c = elim c.requires [ inl e ↦ absurd (omega (arith, e)) | inr h ↦ elim h [ inl e ↦ rw e refl | inr e ↦ rw e refl ] ]
