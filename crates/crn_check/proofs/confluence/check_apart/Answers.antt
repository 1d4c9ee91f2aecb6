use Rattle.crn_check.proofs.Prelude.{◌∙◌, ℕ, List, length, ap, Verdict, labels_of}
use Rattle.crn_check.proofs.Forms.{linkage_labelled}
use Rattle.crn_check.proofs.confluence.check_apart.Goals as goal

pub is_apart-requires-clause-labelled : goal.is_apart-requires-clause-labelled
is_apart-requires-clause-labelled c =
    ap (λ (l : List ℕ). length l) (c.labels_in.ensures ∙ ap (λ (v : Verdict). labels_of v) c.verdict-linkage.ensures)
    ∙ (linkage_labelled c.args.net.now c.args.facts.now c.requires.facts c.requires.linkage).0
