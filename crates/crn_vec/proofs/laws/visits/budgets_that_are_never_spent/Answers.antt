use Rattle.crn_vec.proofs.Prelude.{arith, root}
use Rattle.crn_vec.proofs.Few.{visits_few, passes_few, root_weighs}
use Rattle.crn_vec.proofs.laws.visits.budgets_that_are_never_spent.Goals as goal

pub returns : goal.returns
returns c = λ w. record {
  list = λ visits found v. omega (arith, visits_few w root visits found (omega arith, tt) v, root_weighs w);
  budget = λ n g. omega (arith, passes_few w root n (omega arith, tt) g, root_weighs w);
}
