use Rattle.crn_document.proofs.Prelude.{◌≡◌, ◌≢◌, ◌++◌, ◌∙◌, ℕ, List, [], ◌∷◌, length, refl, sym, ap, subst, Ok, ℤ, err_from_is_err_and, Sign, root, asks_tree, StepGives, Net, Expect, first, KeptCuts, MetLine, AreMet, Step, StepIs, StopIs, ExpectsNode, Leaves, asks_due, asks_one, count_a, problem_in, TakesSome, step_exits, stops_here, Signed, Said, Passing, problem_of, complete_trees_show, passing_none, passing_taken}
use Rattle.crn_ctree.specs.declared.problem.Problem.{Problem}
use Rattle.crn_reading.specs.declared.fault.CheckStop.TheVariants as stop
use Rattle.crn_document.proofs.DueTrees.{due_then, due_stops, none_due, root_tree}
use Rattle.crn_document.proofs.CoursesFollowed.{step_follows}
use Rattle.crn_document.proofs.tree.next_tree.Goals as goal

-- one more node
passes_on : (v w : Signed) (due after : List (List Sign)) (said : List Said) → v ≡ w → due ≢ [] → Passing w root said due → TakesSome v due after → (more : List Said) × Passing w root more after
passes_on v w due after said same some passing taken =
    let t = subst (λ (x : Signed). TakesSome x due after) same taken in
    (said ++ t.0 ∷ [], passing_taken w root due after said t.0 some passing t.1)

-- what is due is that of the table, of the network and of the problem of the cuts
expects : (e : Expect) (version : ℕ) (net : Net) (problem : Problem) (table : List (List ℤ)) (cuts : KeptCuts) → cuts.net ≡ net → cuts.problem ≡ problem → cuts.table ≡ table → ExpectsNode e version (count_a net problem) (length net.names) (length table)
    → ExpectsNode e version (count_a cuts.net cuts.problem) (length cuts.net.names) (length cuts.table)
expects e version net problem table cuts n p t x =
    subst (λ (m : Net). ExpectsNode e version (count_a m cuts.problem) (length m.names) (length cuts.table)) (sym n)
    (subst (λ (q : Problem). ExpectsNode e version (count_a net q) (length net.names) (length cuts.table)) (sym p)
    (subst (λ (u : List (List ℤ)). ExpectsNode e version (count_a net problem) (length net.names) (length u)) (sym t) x))

-- so are the lines that were met
met_by : (e : Expect) (m n : Net) (p q : Problem) (lines : List MetLine) → m ≡ n → p ≡ q → AreMet e m p lines → AreMet e n q lines
met_by e m n p q lines same_net same_problem all =
    subst (λ (k : Net). AreMet e k q lines) same_net (subst (λ (k : Problem). AreMet e m k lines) same_problem all)

pub nodes-init : goal.nodes-init
nodes-init g c =
    let at = c.args.at.now in
    let net = c.args.net.now in
    let table = c.args.table.now in
    let p = problem_in net c.args.problem in
    record {
      goes = c.requires.goes;
      version = refl;
      some = λ none. let e : root ≡ [] = sym c.in_ok-check.ensures.due ∙ none in absurd cc;
      choices = c.in_ok-check.ensures.choices ∙ ap (λ (k : Problem). (problem_of net k).choices) (sym c.in_ok-check.ensures.problem);
      node = subst (λ (a : ℕ). ExpectsNode c.node_expect-expect.result at.version a (length net.names) (length table)) c.count_a-count.ensures.count
          (subst (λ (k : ℕ). ExpectsNode c.node_expect-expect.result at.version c.count_a-count.result (length net.names) k) (c.len.ensures ∙ ap length c.in_ok-cuts.ensures.table) c.node_expect-expect.ensures);
      met = subst (λ (lines : List MetLine). AreMet c.node_expect-expect.result net c.args.problem lines) (sym c.in_ok-met.ensures) tt;
      problem = c.in_ok-check.ensures.problem;
      passing = ([], subst (λ (d : List (List Sign)). Passing (problem_of net c.args.problem) root [] d) (sym c.in_ok-check.ensures.due) (passing_none (problem_of net c.args.problem)));
      whole = λ result new now q. step_follows (asks_due at.version table p root at.line) (asks_tree at.version table p p.choices [] at.line) (λ t line. line ≡ new.line) result at new (g.S.Source.seen c.args.source.now) now (root_tree at.version table p at.line)
          (subst (λ (d : List (List Sign)). StepIs (asks_due at.version table p d at.line) (λ t line. line ≡ new.line) result at new (g.S.Source.seen c.args.source.now) now) c.in_ok-check.ensures.due q);
    }

pub returns-in_err-check-clause-step : goal.returns-in_err-check-clause-step
returns-in_err-check-clause-step g c =
    step_exits _ _ _ stop.NoMemory _ _ _ _ (err_from_is_err_and _ c.from_residual-in_err-check.ensures.1) (stops_here c.args.at.now _ c.requires.goes.reads, refl)

pub next_node-requires-clause-node : goal.next_node-requires-clause-node
next_node-requires-clause-node g c =
    expects c.node_expect-expect.result c.nodes.at.version c.args.net.now c.args.problem c.args.table.now c.in_ok-cuts.cuts c.in_ok-cuts.ensures.net c.in_ok-cuts.ensures.problem c.in_ok-cuts.ensures.table (c.nodes.invariant).node

pub next_node-requires-clause-met : goal.next_node-requires-clause-met
next_node-requires-clause-met g c =
    let k = c.in_ok-cuts.cuts in
    met_by c.node_expect-expect.result c.args.net.now k.net c.args.problem k.problem c.nodes.met.lines.items (sym c.in_ok-cuts.ensures.net) (sym c.in_ok-cuts.ensures.problem) (c.nodes.invariant).met

pub returns-in_err-next_node-clause-step : goal.returns-in_err-next_node-clause-step
returns-in_err-next_node-clause-step g c =
    let h = c.nodes.invariant in
    let whole = h.whole in
    let net = c.args.net.now in
    let table = c.args.table.now in
    let at = c.nodes.at in
    let tree = c.nodes.check in
    let e = c.in_err-next_node.field-0.0 in
    let before = g.S.Source.seen c.nodes.source in
    let now = g.S.Source.seen c.next_node.new.source in
    whole c.from_residual-in_err-next_node.result c.next_node.new.at now
    (step_exits _ _ c.from_residual-in_err-next_node.result _ _ _ _ _ (err_from_is_err_and c.from_residual-in_err-next_node.result c.from_residual-in_err-next_node.ensures.1)
    (due_stops at.version at.line table (problem_in net c.args.problem) tree.due e at before now h.some
    (subst (λ (k : Problem). StopIs (asks_one at.version table (problem_in net k) (first tree.due) at.line) e at before now) h.problem
    (subst (λ (t : List (List ℤ)). StopIs (asks_one at.version t (problem_in net tree.problem) (first tree.due) at.line) e at before now) c.in_ok-cuts.ensures.table c.in_err-next_node.ensures.step))))

pub nodes-preserved : goal.nodes-preserved
nodes-preserved g c =
    let h = c.nodes.invariant in
    let whole = h.whole in
    let net = c.args.net.now in
    let table = c.args.table.now in
    let at = c.nodes.at in
    let tree = c.nodes.check in
    let mid = c.next_node.new.at in
    let after = c.next_node.new.check in
    let before = g.S.Source.seen c.nodes.source in
    let between = g.S.Source.seen c.next_node.new.source in
    let s = c.in_ok-next_node.ensures.step in
    let p = problem_in net c.args.problem in
    record {
      goes = c.in_ok-next_node.ensures.goes;
      version = c.next_node.ensures.version ∙ h.version;
      some = subst (λ (step : Step). Leaves step after.due) c.in-More.is c.in_ok-next_node.ensures.leaves;
      choices = c.next_node.ensures.choices ∙ h.choices ∙ ap (λ (k : Problem). (problem_of net k).choices) (sym c.next_node.ensures.problem);
      node = subst (λ (v : ℕ). ExpectsNode c.node_expect-expect.result v (count_a net c.args.problem) (length net.names) (length table)) (sym c.next_node.ensures.version) h.node;
      met = met_by c.node_expect-expect.result c.in_ok-cuts.cuts.net net c.in_ok-cuts.cuts.problem c.args.problem c.next_node.new.met.lines.items c.in_ok-cuts.ensures.net c.in_ok-cuts.ensures.problem c.in_ok-next_node.ensures.met;
      problem = c.next_node.ensures.problem ∙ h.problem;
      passing = passes_on (problem_of net tree.problem) (problem_of net c.args.problem) tree.due after.due h.passing.0 (ap (problem_of net) h.problem) h.some h.passing.1 c.in_ok-next_node.ensures.taken;
      whole = λ result new now q. whole result new now
          (due_then at.version at.line table p tree.due after.due s.0 (λ t line. line ≡ new.line) result at mid new before between now h.some c.next_node.ensures.version c.in_ok-next_node.ensures.line s.1
          (subst (λ (k : Problem). StepGives (asks_one at.version table (problem_in net k) (first tree.due) at.line) s.0 at.line mid.line at.lines mid.lines before.left between.left) h.problem
          (subst (λ (t : List (List ℤ)). StepGives (asks_one at.version t (problem_in net tree.problem) (first tree.due) at.line) s.0 at.line mid.line at.lines mid.lines before.left between.left) c.in_ok-cuts.ensures.table s.2)) s.3 q);
    }

pub returns-in-Complete-clause-step : goal.returns-in-Complete-clause-step
returns-in-Complete-clause-step g c =
    let h = c.nodes.invariant in
    let whole = h.whole in
    let net = c.args.net.now in
    let table = c.args.table.now in
    let at = c.nodes.at in
    let tree = c.nodes.check in
    let mid = c.next_node.new.at in
    let after = c.next_node.new.check in
    let before = g.S.Source.seen c.nodes.source in
    let between = g.S.Source.seen c.next_node.new.source in
    let s = c.in_ok-next_node.ensures.step in
    let p = problem_in net c.args.problem in
    let none : after.due ≡ [] = subst (λ (step : Step). Leaves step after.due) c.in-Complete.is c.in_ok-next_node.ensures.leaves in
    whole (Ok tt) mid between
    (due_then at.version at.line table p tree.due after.due s.0 (λ (t : Unit {0}) line. line ≡ mid.line) (Ok tt) at mid mid before between between h.some c.next_node.ensures.version c.in_ok-next_node.ensures.line s.1
    (subst (λ (k : Problem). StepGives (asks_one at.version table (problem_in net k) (first tree.due) at.line) s.0 at.line mid.line at.lines mid.lines before.left between.left) h.problem
    (subst (λ (t : List (List ℤ)). StepGives (asks_one at.version t (problem_in net tree.problem) (first tree.due) at.line) s.0 at.line mid.line at.lines mid.lines before.left between.left) c.in_ok-cuts.ensures.table s.2)) s.3
    (none_due mid.version table p after.due mid between none))

pub returns-in-Complete-clause-shown : goal.returns-in-Complete-clause-shown
returns-in-Complete-clause-shown g c =
    let h = c.nodes.invariant in
    let net = c.args.net.now in
    let w = problem_of net c.args.problem in
    let tree = c.nodes.check in
    let after = c.next_node.new.check in
    let none : after.due ≡ [] = subst (λ (step : Step). Leaves step after.due) c.in-Complete.is c.in_ok-next_node.ensures.leaves in
    let all = passes_on (problem_of net tree.problem) w tree.due after.due h.passing.0 (ap (problem_of net) h.problem) h.some h.passing.1 c.in_ok-next_node.ensures.taken in
    complete_trees_show net c.args.problem all.0 c.requires.network (subst (λ (d : List (List Sign)). Passing w root all.0 d) none all.1)
