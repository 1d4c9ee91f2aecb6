use Rattle.crn_ctree.proofs.Prelude.{table_of, ap, ◌∙◌, sym, get_or, [], column_kind}
use Rattle.crn_ctree.proofs.KindLaws.{strong_column}
use Rattle.crn_ctree.proofs.kinds.column_kind.Goals as goal

pub returns-in-Strong : goal.returns-in-Strong
returns-in-Strong c =
    strong_column c.args.net.now c.args.r c.reaction_vector.result.now c.args.prefix.now c.kind_from-in-Strong.result c.opposite_kind.result c.requires c.reaction_vector.ensures.value c.kind_from-in-Strong.ensures c.opposite_kind.ensures
    ∙ ap (λ q. column_kind (get_or (table_of c.args.net.now q) c.args.r []) c.args.prefix.now) (sym c.in-Strong.is)
