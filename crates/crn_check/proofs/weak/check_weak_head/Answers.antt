use Rattle.crn_check.proofs.Prelude.{◌∙◌, ℕ, List, length, ap, Verdict, labels_of}
use Rattle.crn_check.proofs.Forms.{strong_labelled}
use Rattle.crn_check.proofs.weak.check_weak_head.Goals as goal

pub are_even-holds-requires : goal.are_even-holds-requires
are_even-holds-requires c =
    ap (λ (l : List ℕ). length l) (c.labels_in-labels.ensures ∙ ap (λ (v : Verdict). labels_of v) c.verdict.ensures)
    ∙ strong_labelled c.args.net.now c.args.facts.now c.requires.facts c.requires.held

pub leaves_label-holds-requires-clause-labelled : goal.leaves_label-holds-requires-clause-labelled
leaves_label-holds-requires-clause-labelled c =
    ap (λ (l : List ℕ). length l) (c.labels_in-labels.ensures ∙ ap (λ (v : Verdict). labels_of v) c.verdict.ensures)
    ∙ strong_labelled c.args.net.now c.args.facts.now c.requires.facts c.requires.held
