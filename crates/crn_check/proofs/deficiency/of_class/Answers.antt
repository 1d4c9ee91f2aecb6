use Rattle.crn_check.proofs.Prelude.{◌∙◌, ℕ, List, length, ap, Verdict, labels_of}
use Rattle.crn_check.proofs.Forms.{linkage_labelled}
use Rattle.crn_check.proofs.deficiency.of_class.Goals as goal

pub returns-clause-labelled : goal.returns-clause-labelled
returns-clause-labelled c =
    ap (λ (l : List ℕ). length l) (c.labels_in-labels.ensures ∙ ap (λ (v : Verdict). labels_of v) c.verdict.ensures)
    ∙ (linkage_labelled c.args.net.now c.args.facts.now c.requires.facts c.requires.held).0
