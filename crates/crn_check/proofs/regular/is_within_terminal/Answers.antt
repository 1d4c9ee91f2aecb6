use Rattle.crn_check.proofs.Prelude.{◌≡◌, ◌∙◌, ap, Verdict, labels_of, exits_of, strong, exits}
use Rattle.crn_check.proofs.Forms.{strong_from}
use Rattle.crn_check.proofs.regular.is_within_terminal.Goals as goal

pub is_within-requires-clause-strong : goal.is_within-requires-clause-strong
is_within-requires-clause-strong c =
    let earlier = c.args.facts.now.earlier in
    let labels : c.labels_in.result.now ≡ strong earlier = c.labels_in.ensures ∙ ap (λ (v : Verdict). labels_of v) c.verdict-classes.ensures in
    let out : c.exits_in.result.now ≡ exits earlier = c.exits_in.ensures ∙ ap (λ (v : Verdict). exits_of v) c.verdict-classes.ensures in
    rw (labels, out) (strong_from c.args.net.now c.args.facts.now c.requires.facts c.requires.strong)
