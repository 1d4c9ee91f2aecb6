use Rattle.crn_document.proofs.Prelude.{◌++◌, ◌+◌, ◌∷◌, [], List, ℕ, ap, sym, ◌∙◌, filter, is_in_class}
use Rattle.crn_document.proofs.Linkages.{filter_step}
use Rattle.crn_document.proofs.linkage.fill_members.Goals as goal

pub loop-r-preserved : goal.loop-r-preserved
loop-r-preserved c =
    let net = c.args.net.now in
    let labels = c.args.labels.now in
    let k = c.args.class in
    c.in_ok-add_member.ensures ∙ ap (λ (t : List ℕ). t ++ filter (λ j. is_in_class net labels k j) ((c.loop-r.r + 1) ∷ [])) c.loop-r.invariant ∙ sym (filter_step net labels k c.loop-r.r)
