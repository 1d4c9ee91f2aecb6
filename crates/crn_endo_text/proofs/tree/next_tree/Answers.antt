use Rattle.crn_endo_text.proofs.Prelude.{◌≡◌, ◌+◌, ◌∙◌, ℕ, List, [], length, sym, ap, ap₂, subst, arith, err_from_is_err_and, Sign, Net, Signed, root, StepGives, first, IsTaken, Step, KeptCheck, KeptSlopes, slopes, others, rows_counted, slope_width, StopIs, asks_node, asks_from, asks_due, Leaves, ReadsSeen}
use Rattle.std.specs.Prelude.{Err}
use Rattle.crn_endo_text.proofs.Nodes.{rows_few}
use Rattle.crn_endo_text.proofs.TreesRead.{due_then, due_stops, root_due, none_due, upto_exits}
use Rattle.crn_endo_text.proofs.tree.next_tree.Goals as goal

-- the matrix has as many rows as the count says
rows_here : (net : Net) (r : ℕ) → length (slopes net r).matrix_a.rows ≡ length net.reactions + (length net.reactions + length (others net r))
rows_here net r = omega (arith, slope_width net r)

pub overflow_cast-rows : goal.overflow_cast-rows
overflow_cast-rows g c =
    let same = ap (λ (k : KeptSlopes). length (others k.net k.reaction)) c.in_ok-slopes.ensures in
    omega (arith, c.choices.ensures.count, same, c.reactions.ensures.count, c.reactions-2.ensures.count, rows_here c.args.net.now c.args.r, rows_counted c.args.net.now c.meets_definition.ensures c.args.r c.requires.inside, rows_few c.args.net.now c.requires.small)

pub next_node-requires-clause-few : goal.next_node-requires-clause-few
next_node-requires-clause-few g c =
    let same = ap (λ (k : KeptSlopes). length (others k.net k.reaction)) c.in_ok-slopes.ensures in
    omega (arith, c.choices.ensures.count, same, c.reactions.ensures.count, c.reactions-2.ensures.count, rows_here c.args.net.now c.args.r, rows_counted c.args.net.now c.meets_definition.ensures c.args.r c.requires.inside, rows_few c.args.net.now c.requires.small)

pub nodes-init : goal.nodes-init
nodes-init g c =
    let net = c.args.net.now in
    let at = c.args.at.now in
    let seen = g.S.Source.seen c.args.source.now in
    let due = ap (λ (k : KeptCheck). k.due) c.in_ok-check.ensures in
    record {
      goes = c.requires.goes;
      some = λ none. let e : root ≡ [] = sym due ∙ none in absurd cc;
      net = ap (λ (k : KeptCheck). k.net) c.in_ok-check.ensures ∙ ap (λ (k : KeptSlopes). k.net) c.in_ok-slopes.ensures;
      reaction = ap (λ (k : KeptCheck). k.reaction) c.in_ok-check.ensures ∙ ap (λ (k : KeptSlopes). k.reaction) c.in_ok-slopes.ensures;
      whole = λ result new now q. root_due net c.args.r result at new seen now c.requires.inside (subst (λ (d : List (List Sign)). ReadsSeen (asks_due net c.args.r d at.line) result at new seen now) due q);
    }

pub returns-in_err-next_node-clause-step : goal.returns-in_err-next_node-clause-step
returns-in_err-next_node-clause-step g c =
    let h = c.nodes.invariant in
    let whole = h.whole in
    let net = c.args.net.now in
    let r = c.args.r in
    let at = c.nodes.at in
    let check = c.nodes.check in
    let e = c.in_err-next_node.field-0.0 in
    let new = c.next_node.new.at in
    let before = g.S.Source.seen c.nodes.source in
    let now = g.S.Source.seen c.next_node.new.source in
    upto_exits (asks_from net r c.args.at.now.line) (asks_from net (r + 1) new.line) c.from_residual-in_err-next_node.result e c.args.at.now new (g.S.Source.seen c.args.source.now) now (err_from_is_err_and c.from_residual-in_err-next_node.result c.from_residual-in_err-next_node.ensures.1)
    (whole (Err e) new now (due_stops net r check.due e at before now h.some (subst (λ (w : Signed). StopIs (asks_node w (first check.due) at.line) e at before now) (ap₂ slopes h.net h.reaction) c.in_err-next_node.ensures.step)))

pub nodes-preserved : goal.nodes-preserved
nodes-preserved g c =
    let h = c.nodes.invariant in
    let whole = h.whole in
    let net = c.args.net.now in
    let r = c.args.r in
    let at = c.nodes.at in
    let check = c.nodes.check in
    let mid = c.next_node.new.at in
    let after = c.next_node.new.check in
    let before = g.S.Source.seen c.nodes.source in
    let between = g.S.Source.seen c.next_node.new.source in
    let s = c.in_ok-next_node.ensures.step in
    let same : slopes check.net check.reaction ≡ slopes net r = ap₂ slopes h.net h.reaction in
    record {
      goes = c.in_ok-next_node.ensures.goes;
      some = subst (λ (step : Step). Leaves step after.due) c.in-More.is s.1.leaves;
      net = c.next_node.ensures.net ∙ h.net;
      reaction = c.next_node.ensures.reaction ∙ h.reaction;
      whole = λ result new now q. whole result new now
          (due_then net r check.due after.due s.0 result at mid new before between now h.some (subst (λ (w : Signed). IsTaken w check.due s.0 after.due) same s.1.taken) c.in_ok-next_node.ensures.line
          (subst (λ (w : Signed). StepGives (asks_node w (first check.due) at.line) s.0 at.line mid.line at.lines mid.lines before.left between.left) same s.2) s.3 q);
    }

pub returns-in-Complete-clause-step : goal.returns-in-Complete-clause-step
returns-in-Complete-clause-step g c =
    let h = c.nodes.invariant in
    let whole = h.whole in
    let net = c.args.net.now in
    let r = c.args.r in
    let at = c.nodes.at in
    let check = c.nodes.check in
    let mid = c.next_node.new.at in
    let after = c.next_node.new.check in
    let before = g.S.Source.seen c.nodes.source in
    let between = g.S.Source.seen c.next_node.new.source in
    let s = c.in_ok-next_node.ensures.step in
    let same : slopes check.net check.reaction ≡ slopes net r = ap₂ slopes h.net h.reaction in
    let none : after.due ≡ [] = subst (λ (step : Step). Leaves step after.due) c.in-Complete.is s.1.leaves in
    λ result new now q. whole result new now
    (due_then net r check.due after.due s.0 result at mid new before between now h.some (subst (λ (w : Signed). IsTaken w check.due s.0 after.due) same s.1.taken) c.in_ok-next_node.ensures.line
    (subst (λ (w : Signed). StepGives (asks_node w (first check.due) at.line) s.0 at.line mid.line at.lines mid.lines before.left between.left) same s.2) s.3
    (none_due net r after.due result mid new between now none q))
