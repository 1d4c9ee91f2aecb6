-- What earlier verdicts give to the question on signals.
-- Source: this project's own.
-- Shapes: `earlier` holds the verdicts on earlier questions, each with its question.
use Rattle.std.specs.Prelude.{◌≡◌, ◌↔◌, ℤ, Bool, IsTrue, Some, List}
use Rattle.crn_vec.specs.Network.{Net}
use Rattle.crn_cert.specs.Questions.{Earlier, Q2, Q4, Q12, on, vector_given, IsYes}
use Rattle.crn_cert.specs.Says.{IsTrueOf}

-- earlier verdicts give the true strong classes and the vector g, and a yes on weak reversibility if
-- and only if `weak` is true
pub record GiveVector (net : Net) (earlier : Earlier) (g : List ℤ) (weak : Bool) : Type 0 where
  pub strong_is : IsTrueOf net Q2 (on earlier Q2)
  pub vector_is : vector_given (on earlier Q12) ≡ Some g
  pub weak_is : IsYes (on earlier Q4) ↔ IsTrue weak
