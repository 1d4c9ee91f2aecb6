use Rattle.crn_check.proofs.Prelude.{◌≡◌, ap, ◌∙◌, arith, of_z, pos, w128, dot, refused}
use Rattle.crn_check.proofs.Decided.{granted}
use Rattle.crn_check.proofs.Widths.{all_reactions, each_reaction}
use Rattle.crn_check.proofs.positive.is_conservation.Goals as goal

pub returns-then-weight_change-ne0 : goal.returns-then-weight_change-ne0
returns-then-weight_change-ne0 c =
    let net = c.args.net.now in
    refused (λ h. c.if-weight_change-ne0.true (ap (of_z w128) (c.weight_change.ensures ∙ each_reaction net (λ v. dot c.args.weights.now v ≡ pos 0) h.conserved c.loop-r.r (omega arith))))

pub returns : goal.returns
returns c =
    let net = c.args.net.now in
    granted (record {
      long = c.requires.long;
      positive = c.are_positive.ensures.0 c.if-not-are_positive.false;
      conserved = all_reactions net (λ v. dot c.args.weights.now v ≡ pos 0) (λ r lt. c.loop-r.invariant r (omega (arith, lt)));
    })
