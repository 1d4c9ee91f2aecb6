use Rattle.crn_farkas.proofs.Prelude.{◌≡◌, ◌≤◌, ◌-◌, IsView, IsSettled, AgreeBeyond}
use Rattle.crn_farkas.proofs.settle.+settle.Given as goal

abbrev pub decreases-settle : goal.decreases-settle
decreases-settle l = l.k

abbrev pub invariant-loop-j : goal.invariant-loop-j
invariant-loop-j l = record {
  matrix : l.tableau.matrix ≡ l.fn.tableau.matrix;
  view : IsView l.tableau.matrix l.tableau.basis l.view l.g;
  settled : IsSettled l.tableau.matrix l.tableau.basis l.view l.g l.kinds l.levels l.done;
  agree : AgreeBeyond l.levels l.g l.k l.fn.tableau.basis l.fn.view l.tableau.basis l.view;
  low : l.done ≤ l.k;
}

abbrev pub decreases-loop-j : goal.decreases-loop-j
decreases-loop-j l = l.k - l.done
