use Rattle.crn_document.proofs.Prelude.{length, subst, arith, NodeLine, IsDueNodeLine, count_a}
use Rattle.crn_document.proofs.node.judge.Goals as goal

pub judge_new-requires-clause-node : goal.judge_new-requires-clause-node
judge_new-requires-clause-node c =
    let net = c.args.net.now in
    let problem = c.args.check.now.problem in
    let h = c.requires.node in
    (h.0, h.1, subst (λ (q : NodeLine). IsDueNodeLine h.0 (count_a net problem) (length net.names) (length c.args.cuts.now.table) net problem c.args.met.now.lines.items q c.args.numbers.now h.1) c.in-Read.is h.2)

pub index-requires : goal.index-requires
index-requires c =
    let net = c.args.net.now in
    let problem = c.args.check.now.problem in
    let h = c.requires.node in
    let m = subst (λ (q : NodeLine). IsDueNodeLine h.0 (count_a net problem) (length net.names) (length c.args.cuts.now.table) net problem c.args.met.now.lines.items q c.args.numbers.now h.1) c.in-Known.is h.2 in
    omega (arith, m.inside)

pub judge_met-requires-clause-cut : goal.judge_met-requires-clause-cut
judge_met-requires-clause-cut c =
    let net = c.args.net.now in
    let problem = c.args.check.now.problem in
    let h = c.requires.node in
    let m = subst (λ (q : NodeLine). IsDueNodeLine h.0 (count_a net problem) (length net.names) (length c.args.cuts.now.table) net problem c.args.met.now.lines.items q c.args.numbers.now h.1) c.in-Known.is h.2 in
    (h.1, let k = m.cut in k c.index.result.now c.index.ensures)

pub returns-in-Read-clause-gives : goal.returns-in-Read-clause-gives
returns-in-Read-clause-gives c = λ version r h.
    let net = c.args.net.now in
    let problem = c.args.check.now.problem in
    let g = c.judge_new.ensures.gives in
    g version r (subst (λ (q : NodeLine). IsDueNodeLine version (count_a net problem) (length net.names) (length c.args.cuts.now.table) net problem c.args.met.now.lines.items q c.args.numbers.now r) c.in-Read.is h)

pub returns-in-Known-clause-gives : goal.returns-in-Known-clause-gives
returns-in-Known-clause-gives c = λ version r h.
    let net = c.args.net.now in
    let problem = c.args.check.now.problem in
    let g = c.judge_met.ensures.gives in
    let m = subst (λ (q : NodeLine). IsDueNodeLine version (count_a net problem) (length net.names) (length c.args.cuts.now.table) net problem c.args.met.now.lines.items q c.args.numbers.now r) c.in-Known.is h in
    g c.args.cuts.now.table r (let k = m.cut in k c.index.result.now c.index.ensures)
