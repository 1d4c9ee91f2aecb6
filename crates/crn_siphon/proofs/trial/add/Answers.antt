use Rattle.crn_siphon.proofs.Prelude.{entry, nought_adds, change_at, arith, rules, ap, ◌∙◌, set, get_or, length, length-set, to_z-of_z, w128}
use Rattle.std.proofs.Common.{ℤ}
use mir.Val.{SFits}
use Rattle.crn_siphon.proofs.ChangeLaws.{put_at}
use Rattle.crn_siphon.proofs.trial.add.Goals as goal

pub returns-then-is_nought-clause-values : goal.returns-then-is_nought-clause-values
returns-then-is_nought-clause-values c = λ s. nought_adds (entry c.args.changes.now s) c.args.number.now (change_at c.args.reaction.now s) (c.is_nought.ensures.0 c.if-is_nought.true)

pub loop-i-preserved : goal.loop-i-preserved
loop-i-preserved c =
    let z = c.in_ok-changes.field-0 in
    let fits : SFits w128 z = search rules in
    let at = (get_or c.args.reaction.now c.loop-i.i c.index-reaction-i.result).species in
    let back = to_z-of_z w128 z fits in
    record {
      long = length-set c.loop-i.changes at _ ∙ c.loop-i.invariant.long;
      added = λ s. ap (λ (v : ℤ). entry (set c.loop-i.changes at v) s) back
          ∙ put_at c.args.changes.now c.loop-i.changes c.args.number.now c.args.reaction.now c.loop-i.i c.index-reaction-i.result _ z _ s (omega arith) (omega (arith, c.loop-i.invariant.long, c.requires, (get_or c.args.reaction.now c.loop-i.i c.index-reaction-i.result).in_range)) c.in_ok-changes.ensures (let added = c.loop-i.invariant.added in added s);
    }
