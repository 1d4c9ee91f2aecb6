use Rattle.crn_reg.proofs.Prelude.{ℕ, List, ap, subst, ◌∙◌, arith, Mat, SameClass, NamesWide, confluence_system, IsWideStop}
use Rattle.crn_reg.proofs.Solutions.{count_few}
use Rattle.crn_reg.proofs.ConfluenceAnswers.{Known, Given, open_answer}
use Rattle.crn_reg.proofs.confluence_vector.confluence.Goals as goal

pub confluence_matrix-requires-clause-count : goal.confluence_matrix-requires-clause-count
confluence_matrix-requires-clause-count c =
    let h = c.requires.classes in
    omega (arith, count_few (SameClass c.args.net.now.reactions) c.args.linkage.now.label.list c.args.linkage.now.count h.labelled.right h.count_is, h.labelled.long)

pub returns-in-Err-Wide : goal.returns-in-Err-Wide
returns-in-Err-Wide c budget earlier g yes' four =
    let net = c.args.net.now in
    let l = c.args.linkage.now in
    let s = c.args.strong.now in
    let index = c.in-Err-Wide.index in
    let basis = c.in-Err-Wide.basis in
    let known : Known net l.label.list l.count s.count s.terminal s.label.list s.exit.list c.args.weak = record { network = c.meets_definition.ensures; regular = c.requires.regular; linkage_is = c.requires.classes; strong_is = c.requires.strong_classes; weak_is = c.requires.weak } in
    let given : Given earlier l.label.list l.count s.label.list s.exit.list c.args.weak = record { gives = g; yes' = yes'; four = four } in
    let made : NamesWide c.in_ok-matrix.matrix index basis.list = subst (IsWideStop c.in_ok-matrix.matrix) c.in-Err-Wide.field-0-is c.in-Err-Wide.ensures.stop in
    let wide : NamesWide (confluence_system net l.label.list l.count) index basis.list = subst (λ (a : Mat). NamesWide a index basis.list) (c.in_ok-matrix.ensures ∙ ap (λ (ls : List ℕ). confluence_system net ls l.count) c.as_slice.ensures) made in
    rw c.plain.ensures (open_answer net budget earlier l.label.list l.count s.count s.terminal s.label.list s.exit.list c.args.weak index basis known given wide)
