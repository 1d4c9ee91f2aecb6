use Rattle.crn_check.proofs.Prelude.{◌∙◌, ℕ, List, length, ap, Verdict, labels_of}
use Rattle.crn_check.proofs.Forms.{strong_labelled, linkage_labelled}
use Rattle.crn_check.proofs.normal.is_normal.Goals as goal

pub is_in_space-requires-clause-labelled : goal.is_in_space-requires-clause-labelled
is_in_space-requires-clause-labelled c =
    ap (λ (l : List ℕ). length l) (c.labels_in.ensures ∙ ap (λ (v : Verdict). labels_of v) c.verdict-linkage.ensures)
    ∙ (linkage_labelled c.args.net.now c.args.facts.now c.requires.facts c.requires.linkage).0

pub do_terminals_gather-requires-clause-labelled : goal.do_terminals_gather-requires-clause-labelled
do_terminals_gather-requires-clause-labelled c =
    ap (λ (l : List ℕ). length l) (c.labels_in-then-is_nonzero.ensures ∙ ap (λ (v : Verdict). labels_of v) c.verdict-strong.ensures)
    ∙ strong_labelled c.args.net.now c.args.facts.now c.requires.facts c.requires.strong
