use Rattle.crn_document.proofs.Prelude.{◌≡◌, ◌-◌, ℕ, List, length, refl, sym, subst, arith, ℤ, err_from_is_err_and, Net, Place, Record, node_of, Expect, first, KeptCuts, TreeProblem, MetLine, NodeLine, IsNodeLineAs, IsDueNodeLine, ExpectsNode, count_a, node_test, problem_in, step_exits}
use Rattle.crn_ctext.specs.Course.{FailsFirst}
use Rattle.crn_document.proofs.MetLines.{due_node_line}
use Rattle.crn_document.proofs.NodeRecords.{passes, refused, node_read, node_fails, node_stops}
use Rattle.crn_document.proofs.node.next_node.Goals as goal

-- the network and the problem are those of the cuts
expects : (e : Expect) (version shared : ℕ) (net : Net) (problem : TreeProblem) (cuts : KeptCuts) → cuts.net ≡ net → cuts.problem ≡ problem → ExpectsNode e version (count_a cuts.net cuts.problem) (length cuts.net.names) shared → ExpectsNode e version (count_a net problem) (length net.names) shared
expects e version shared net problem cuts n p x =
    subst (λ (m : Net). ExpectsNode e version (count_a m problem) (length m.names) shared) n (subst (λ (q : TreeProblem). ExpectsNode e version (count_a cuts.net q) (length cuts.net.names) shared) p x)

node_line_by : (e : Expect) (net : Net) (problem : TreeProblem) (cuts : KeptCuts) (lines : List MetLine) (node_line : NodeLine) (read : List ℤ) (r : Record) → cuts.net ≡ net → cuts.problem ≡ problem → IsNodeLineAs e cuts.net cuts.problem lines node_line read r → IsNodeLineAs e net problem lines node_line read r
node_line_by e net problem cuts lines node_line read r n p h =
    subst (λ (m : Net). IsNodeLineAs e m problem lines node_line read r) n (subst (λ (q : TreeProblem). IsNodeLineAs e cuts.net q lines node_line read r) p h)

pub next_node_line-requires-clause-node : goal.next_node_line-requires-clause-node
next_node_line-requires-clause-node g c = (c.args.at.now.version, length c.args.cuts.now.table, c.requires.node)

pub judge-requires-clause-node : goal.judge-requires-clause-node
judge-requires-clause-node g c =
    let at = c.args.at.now in
    let net = c.args.net.now in
    let tree = c.args.check.now in
    let table = c.args.cuts.now.table in
    let e = c.args.expect.now in
    let species = length net.names in
    let a = count_a net tree.problem in
    let x = expects e at.version (length table) net tree.problem c.args.cuts.now c.requires.cuts.0 c.requires.cuts.1 c.requires.node in
    let mid = c.next_node_line.new.at in
    let s = c.in_ok-node_line.ensures.step in
    let node_line = c.in_ok-node_line.node_line in
    let lines = c.next_node_line.new.met.lines.items in
    (at.version, s.0, subst (λ (zs : List ℤ). IsDueNodeLine at.version a species (length table) net tree.problem lines node_line zs s.0) (sym c.as_slice.ensures) (due_node_line e at.version a species (length table) net tree.problem lines node_line mid.numbers.list s.0 x (node_line_by e net tree.problem c.args.cuts.now lines node_line mid.numbers.list s.0 c.requires.cuts.0 c.requires.cuts.1 s.1)))

pub returns-in_err-node_line-clause-step : goal.returns-in_err-node_line-clause-step
returns-in_err-node_line-clause-step g c =
    let at = c.args.at.now in
    let net = c.args.net.now in
    let tree = c.args.check.now in
    let table = c.args.cuts.now.table in
    let e = c.args.expect.now in
    let species = length net.names in
    let a = count_a net tree.problem in
    let x = expects e at.version (length table) net tree.problem c.args.cuts.now c.requires.cuts.0 c.requires.cuts.1 c.requires.node in
    step_exits _ _ c.from_residual.result _ _ _ _ _ (err_from_is_err_and c.from_residual.result c.from_residual.ensures.1)
    (node_stops e at.version a species (length table) table (problem_in net tree.problem) (first tree.due) at.line c.in_err-node_line.field-0.0 at (g.S.Source.seen c.args.source.now) (g.S.Source.seen c.next_node_line.new.source) x refl refl refl c.in_err-node_line.ensures.step)

pub returns-in-Ok-clause-step : goal.returns-in-Ok-clause-step
returns-in-Ok-clause-step g c =
    let at = c.args.at.now in
    let net = c.args.net.now in
    let tree = c.args.check.now in
    let table = c.args.cuts.now.table in
    let e = c.args.expect.now in
    let species = length net.names in
    let a = count_a net tree.problem in
    let x = expects e at.version (length table) net tree.problem c.args.cuts.now c.requires.cuts.0 c.requires.cuts.1 c.requires.node in
    let mid = c.next_node_line.new.at in
    let s = c.in_ok-node_line.ensures.step in
    let node_line = c.in_ok-node_line.node_line in
    let lines = c.next_node_line.new.met.lines.items in
    let h : IsDueNodeLine at.version a species (length table) net tree.problem lines node_line c.as_slice.result.now s.0 = subst (λ (zs : List ℤ). IsDueNodeLine at.version a species (length table) net tree.problem lines node_line zs s.0) (sym c.as_slice.ensures) (due_node_line e at.version a species (length table) net tree.problem lines node_line mid.numbers.list s.0 x (node_line_by e net tree.problem c.args.cuts.now lines node_line mid.numbers.list s.0 c.requires.cuts.0 c.requires.cuts.1 s.1)) in
    let j = c.in-Ok.ensures.gives in
    let q = passes net tree.problem at.line tree.due c.judge.new.check.due (node_of table s.0) c.in-Ok.step (j at.version s.0 h) in (
      node_of table s.0,
      q.after_it,
      node_read e at.version a species (length table) table (problem_in net tree.problem) (first tree.due) at.line mid.line s.0 at.lines mid.lines (g.S.Source.seen c.args.source.now).left (g.S.Source.seen c.next_node_line.new.source).left x refl refl refl s.2 q.gives,
      s.3,
    )

pub returns-in-Ok-clause-leaves : goal.returns-in-Ok-clause-leaves
returns-in-Ok-clause-leaves g c =
    let at = c.args.at.now in
    let net = c.args.net.now in
    let tree = c.args.check.now in
    let table = c.args.cuts.now.table in
    let e = c.args.expect.now in
    let species = length net.names in
    let a = count_a net tree.problem in
    let x = expects e at.version (length table) net tree.problem c.args.cuts.now c.requires.cuts.0 c.requires.cuts.1 c.requires.node in
    let mid = c.next_node_line.new.at in
    let s = c.in_ok-node_line.ensures.step in
    let node_line = c.in_ok-node_line.node_line in
    let lines = c.next_node_line.new.met.lines.items in
    let h : IsDueNodeLine at.version a species (length table) net tree.problem lines node_line c.as_slice.result.now s.0 = subst (λ (zs : List ℤ). IsDueNodeLine at.version a species (length table) net tree.problem lines node_line zs s.0) (sym c.as_slice.ensures) (due_node_line e at.version a species (length table) net tree.problem lines node_line mid.numbers.list s.0 x (node_line_by e net tree.problem c.args.cuts.now lines node_line mid.numbers.list s.0 c.requires.cuts.0 c.requires.cuts.1 s.1)) in
    let j = c.in-Ok.ensures.gives in
    (passes net tree.problem at.line tree.due c.judge.new.check.due (node_of table s.0) c.in-Ok.step (j at.version s.0 h)).leaves

pub returns-in-Ok-clause-taken : goal.returns-in-Ok-clause-taken
returns-in-Ok-clause-taken g c =
    let at = c.args.at.now in
    let net = c.args.net.now in
    let tree = c.args.check.now in
    let table = c.args.cuts.now.table in
    let e = c.args.expect.now in
    let species = length net.names in
    let a = count_a net tree.problem in
    let x = expects e at.version (length table) net tree.problem c.args.cuts.now c.requires.cuts.0 c.requires.cuts.1 c.requires.node in
    let mid = c.next_node_line.new.at in
    let s = c.in_ok-node_line.ensures.step in
    let node_line = c.in_ok-node_line.node_line in
    let lines = c.next_node_line.new.met.lines.items in
    let h : IsDueNodeLine at.version a species (length table) net tree.problem lines node_line c.as_slice.result.now s.0 = subst (λ (zs : List ℤ). IsDueNodeLine at.version a species (length table) net tree.problem lines node_line zs s.0) (sym c.as_slice.ensures) (due_node_line e at.version a species (length table) net tree.problem lines node_line mid.numbers.list s.0 x (node_line_by e net tree.problem c.args.cuts.now lines node_line mid.numbers.list s.0 c.requires.cuts.0 c.requires.cuts.1 s.1)) in
    let j = c.in-Ok.ensures.gives in
    (passes net tree.problem at.line tree.due c.judge.new.check.due (node_of table s.0) c.in-Ok.step (j at.version s.0 h)).taken

pub returns-in-Err-clause-step : goal.returns-in-Err-clause-step
returns-in-Err-clause-step g c =
    let at = c.args.at.now in
    let net = c.args.net.now in
    let tree = c.args.check.now in
    let table = c.args.cuts.now.table in
    let e = c.args.expect.now in
    let species = length net.names in
    let a = count_a net tree.problem in
    let x = expects e at.version (length table) net tree.problem c.args.cuts.now c.requires.cuts.0 c.requires.cuts.1 c.requires.node in
    let mid = c.next_node_line.new.at in
    let s = c.in_ok-node_line.ensures.step in
    let node_line = c.in_ok-node_line.node_line in
    let lines = c.next_node_line.new.met.lines.items in
    let h : IsDueNodeLine at.version a species (length table) net tree.problem lines node_line c.as_slice.result.now s.0 = subst (λ (zs : List ℤ). IsDueNodeLine at.version a species (length table) net tree.problem lines node_line zs s.0) (sym c.as_slice.ensures) (due_node_line e at.version a species (length table) net tree.problem lines node_line mid.numbers.list s.0 x (node_line_by e net tree.problem c.args.cuts.now lines node_line mid.numbers.list s.0 c.requires.cuts.0 c.requires.cuts.1 s.1)) in
    let j = c.in-Err.ensures.gives in
    let node = node_of table s.0 in
    let here : at.line ≡ mid.line - 1 = omega (arith, c.in_ok-node_line.ensures.line) in
    let p = problem_in net tree.problem in
    let fails : (place : Place) → FailsFirst (node_test p (first tree.due) at.line node) place (mid.line - 1) c.code.result = λ place.
    subst (λ (k : ℕ). FailsFirst (node_test p (first tree.due) at.line node) place k c.code.result) here
    (subst (λ (k : ℕ). FailsFirst (node_test p (first tree.due) at.line node) place at.line k) (sym c.code.ensures) (refused net tree.problem at.line tree.due c.judge.new.check.due node c.in-Err.fault (j at.version s.0 h) place)) in
    (node_fails e at.version a species (length table) table p (first tree.due) at.line mid.line (mid.line - 1) c.code.result s.0 at.lines mid (g.S.Source.seen c.args.source.now).left (g.S.Source.seen c.next_node_line.new.source).left x refl refl refl s.2 c.in_ok-node_line.ensures.goes.reads fails, s.3)
