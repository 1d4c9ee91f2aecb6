use Rattle.crn_endo_text.proofs.Prelude.{◌≡◌, ◌∙◌, ℕ, List, sym, ap, subst, ℤ, err_from_is_err_and, Said, asks_part, first, NodeGives, said_by, slopes, StopIs, step_exits, IsGiven, words, node_forms, said_of, said_at}
use Rattle.std.specs.Prelude.{Ok, Err}
use Rattle.crn_endo_text.proofs.TreesRead.{said_placed, taken_by, refused_by, node_stop, node_taken, node_refused}
use Rattle.crn_endo_text.proofs.node.next_node.Goals as goal

pub returns-in_err-place-clause-step : goal.returns-in_err-place-clause-step
returns-in_err-place-clause-step g c =
    let w = slopes c.args.check.now.net c.args.check.now.reaction in
    let before = g.S.Source.seen c.args.source.now in
    let now = g.S.Source.seen c.next_node_line.new.source in
    let e = c.in_err-place.field-0.0 in
    let at = c.args.at.now in
    step_exits _ _ c.from_residual.result e at _ before now (err_from_is_err_and c.from_residual.result c.from_residual.ensures.1)
    (node_stop w (first c.args.check.now.due) e at before now (subst (λ (k : ℕ). StopIs (asks_part words at.line (node_forms k)) e at before now) c.requires.rows c.in_err-place.ensures.step))

pub returns-in-Ok-clause-step : goal.returns-in-Ok-clause-step
returns-in-Ok-clause-step g c =
    let check = c.args.check.now in
    let w = slopes check.net check.reaction in
    let s = c.in_ok-place.ensures.step in
    let old = c.args.at.now in
    let mid = c.next_node_line.new.at in
    let before = g.S.Source.seen c.args.source.now in
    let now = g.S.Source.seen c.next_node_line.new.source in
    let said : said_by c.node_of-node.result ≡ said_of s.0 = c.node_of-node.ensures ∙ ap (λ (l : List ℤ). said_at c.in_ok-place.place l) c.as_slice.ensures ∙ sym (said_placed c.args.rows c.in_ok-place.place mid.numbers.list s.0 s.1) in
    let t = taken_by w check.due c.node.new.self.due (said_of s.0) c.in-Ok.step (subst (λ (x : Said). NodeGives w check.due x c.node.new.self.due (Ok c.in-Ok.step)) said c.in-Ok.ensures.gives) in
    node_taken w check.due c.node.new.self.due c.in-Ok.step s.0 old mid before now (subst (λ (k : ℕ). IsGiven words (node_forms k) s.0 old mid before now) c.requires.rows (s.2, s.3)) t.0 t.1

pub returns-in-Err-clause-step : goal.returns-in-Err-clause-step
returns-in-Err-clause-step g c =
    let check = c.args.check.now in
    let w = slopes check.net check.reaction in
    let s = c.in_ok-place.ensures.step in
    let old = c.args.at.now in
    let mid = c.next_node_line.new.at in
    let before = g.S.Source.seen c.args.source.now in
    let now = g.S.Source.seen c.next_node_line.new.source in
    let said : said_by c.node_of-node.result ≡ said_of s.0 = c.node_of-node.ensures ∙ ap (λ (l : List ℤ). said_at c.in_ok-place.place l) c.as_slice.ensures ∙ sym (said_placed c.args.rows c.in_ok-place.place mid.numbers.list s.0 s.1) in
    let t = refused_by w check.due c.node.new.self.due (said_of s.0) c.in-Err.fault (subst (λ (x : Said). NodeGives w check.due x c.node.new.self.due (Err c.in-Err.fault)) said c.in-Err.ensures.gives) in
    node_refused w (first check.due) c.number_of.result s.0 old mid before now (subst (λ (k : ℕ). IsGiven words (node_forms k) s.0 old mid before now) c.requires.rows (s.2, s.3)) t.0 (t.1 ∙ sym c.number_of.ensures) c.in_ok-place.ensures.line c.in_ok-place.ensures.goes.reads
