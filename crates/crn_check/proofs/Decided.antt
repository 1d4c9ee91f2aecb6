-- Tests that are met.
use Rattle.crn_check.proofs.Prelude.{◌↔◌, IsTrue, true, refl}

-- a test that holds
pub granted : {P : Type 0} → P → (IsTrue true ↔ P)
granted p = (λ met. p, λ h. refl)
