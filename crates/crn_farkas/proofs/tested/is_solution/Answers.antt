use Rattle.crn_farkas.proofs.Prelude.{refl}
use Rattle.crn_farkas.proofs.tested.is_solution.Goals as goal

pub returns : goal.returns
returns c = λ yes. record {
  v = c.args.v.now;
  solves = record {
    space = c.if-not-is_row_vector.ensures refl;
    columns = refl;
    each = c.agrees.ensures.0 yes;
  };
  small = c.if-not-are_below.ensures refl;
}
