use Rattle.crn_ctree.proofs.Prelude.{◌<◌, [], length, get_or, ap, ◌∙◌, arith, kind_of_column, KeptCuts, table_of}
use Rattle.crn_ctree.proofs.SpotLaws.{column_is, plain_kind, strong_kind}
use Rattle.crn_ctree.proofs.worked.Worked.column_kind.Goals as goal

pub returns-in-Plain : goal.returns-in-Plain
returns-in-Plain c =
    let net = c.self.inside.net.now in
    let r = c.args.r in
    let lt : r < length net.reactions = omega (arith, c.requires.reaction, ap (λ (k : KeptCuts). length k.net.reactions) c.self.view_is) in
    let row = column_is net c.self.inside.problem c.args.table c.self.inside.columns.items c.index.result.now r c.self.invariant.0 (ap (λ (k : KeptCuts). k.problem) c.self.view_is ∙ c.requires.problem) lt c.index.ensures in
    plain_kind net c.args.table r c.args.prefix.now c.spots_kind-kind.result c.as_slice.result.now c.in-Plain.is lt (c.as_slice.ensures ∙ row) c.spots_kind-kind.ensures
    ∙ ap (λ (k : KeptCuts). kind_of_column (get_or (table_of k.net c.args.table) r []) c.args.prefix.now) c.self.view_is

pub returns-in-Strong : goal.returns-in-Strong
returns-in-Strong c =
    let net = c.self.inside.net.now in
    let r = c.args.r in
    let lt : r < length net.reactions = omega (arith, c.requires.reaction, ap (λ (k : KeptCuts). length k.net.reactions) c.self.view_is) in
    let row = column_is net c.self.inside.problem c.args.table c.self.inside.columns.items c.index.result.now r c.self.invariant.0 (ap (λ (k : KeptCuts). k.problem) c.self.view_is ∙ c.requires.problem) lt c.index.ensures in
    strong_kind net c.args.table r c.args.prefix.now c.spots_kind-kind.result c.opposite_kind.result c.as_slice.result.now c.in-Strong.is lt (c.as_slice.ensures ∙ row) c.spots_kind-kind.ensures c.opposite_kind.ensures
    ∙ ap (λ (k : KeptCuts). kind_of_column (get_or (table_of k.net c.args.table) r []) c.args.prefix.now) c.self.view_is
