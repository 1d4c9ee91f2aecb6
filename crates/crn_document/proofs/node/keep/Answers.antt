use Rattle.crn_document.proofs.Prelude.{said_by, ap, ◌∙◌, KeptCut}
use Rattle.crn_document.proofs.MetLines.{cut_of, is_met, met_last, met_more}
use Rattle.crn_document.proofs.node.keep.Goals as goal

pub returns-then-not-has_room-clause-node_line : goal.returns-then-not-has_room-clause-node_line
returns-then-not-has_room-clause-node_line c = λ r read says said. said

pub returns-clause-node_line : goal.returns-clause-node_line
returns-clause-node_line c = λ r read says node_line.
    let k = c.args.cuts.now in
    let said = said_by c.args.node.now in
    let m = c.in_ok-i.ensures.added in
    let w = c.in_ok-cut.ensures in
    met_last k.net k.problem c.args.met.now.lines.items c.add.new.self.lines.items m.0 c.in_ok-i.i r m.1 c.in_ok-i.ensures.place
    (cut_of c.args.expect.now k.net k.problem c.args.line.now said r (m.0).cut (ap (λ (x : KeptCut). x.net) m.3 ∙ w.net) (ap (λ (x : KeptCut). x.problem) m.3 ∙ w.problem) (ap (λ (x : KeptCut). x.said) m.3 ∙ w.said) says)

pub returns-clause-met : goal.returns-clause-met
returns-clause-met c =
    let k = c.args.cuts.now in
    let said = said_by c.args.node.now in
    let m = c.in_ok-i.ensures.added in
    let w = c.in_ok-cut.ensures in
    let s = c.requires.says in
    met_more c.args.expect.now k.net k.problem c.args.met.now.lines.items c.add.new.self.lines.items m.0 m.1 c.requires.met
    (is_met c.args.expect.now k.net k.problem c.args.line.now said s.0 m.0 m.2 (ap (λ (x : KeptCut). x.net) m.3 ∙ w.net) (ap (λ (x : KeptCut). x.problem) m.3 ∙ w.problem) (ap (λ (x : KeptCut). x.said) m.3 ∙ w.said) s.1)
