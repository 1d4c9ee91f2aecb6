use Rattle.crn_ctree.proofs.Prelude.{◌↔◌, IsTrue, kinds_of, matrix_of, weights_of}
use Rattle.crn_ctree.proofs.CutLaws.{MayWeighTo, CountsTo}
use Rattle.crn_ctree.proofs.cut.rules_out.Given as goal

abbrev pub invariant-loop-k : goal.invariant-loop-k
invariant-loop-k l =
    MayWeighTo (kinds_of l.net l.problem l.part l.prefix) (weights_of (matrix_of l.net l.problem l.part) l.u) l.k
    × (IsTrue l.some ↔ CountsTo (kinds_of l.net l.problem l.part l.prefix) (weights_of (matrix_of l.net l.problem l.part) l.u) l.k)
