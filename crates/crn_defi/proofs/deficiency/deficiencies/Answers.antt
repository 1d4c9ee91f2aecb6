use Rattle.crn_defi.proofs.Prelude.{subst, IsStop}
use Rattle.crn_defi.specs.declared.class_rank.ClassStop.TheVariants.{Wide}
use Rattle.crn_defi.proofs.DeficiencyAnswers.{deficiencies_given, deficiencies_wide}
use Rattle.crn_defi.proofs.deficiency.deficiencies.Goals as goal

pub returns-in-Ok : goal.returns-in-Ok
returns-in-Ok c budget earlier g =
    let net = c.args.net.now in
    let l = c.args.linkage.now in
    let w = c.in-Ok in
    deficiencies_given net budget earlier l.count c.deficiency-total.result c.args.rank l.label.list w.found.deficiencies w.found.proofs c.meets_definition.ensures g c.requires.rank c.requires.classes w.ensures.found w.ensures.count c.deficiency-total.ensures

pub returns-in-Err-Wide : goal.returns-in-Err-Wide
returns-in-Err-Wide c budget earlier g =
    let net = c.args.net.now in
    let l = c.args.linkage.now in
    let w = c.in-Err-Wide in
    let named : IsStop net l.label.list l.count (Wide w.class w.index w.basis) = subst (IsStop net l.label.list l.count) w.field-0-is w.ensures.stop in
    rw c.plain.ensures (deficiencies_wide net budget earlier l.count c.args.rank w.class w.index l.label.list w.basis g c.requires.classes named.0 named.1)
