use Rattle.crn_reg.proofs.Prelude.{ℕ, subst, arith, AreTies}
use Rattle.crn_reg.proofs.Named.{none_by}
use Rattle.crn_reg.proofs.space.only_zero.Goals as goal

pub ties-requires-clause-outside : goal.ties-requires-clause-outside
ties-requires-clause-outside c d lt ne i = c.requires.none d (omega arith) lt i

pub returns-clause-space : goal.returns-clause-space
returns-clause-space c =
    let a = c.args.tableau.now.matrix in
    record {
      ties_are = subst (λ (n : ℕ). AreTies a n c.in_ok-ties.field-0) c.cols.ensures c.in_ok-ties.ensures;
      none = λ g s. none_by a c.args.tableau.now.basis g c.names_rows.ensures (λ d lt i. c.requires.none d (omega arith) lt i) s;
    }
