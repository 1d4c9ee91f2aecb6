use Rattle.crn_document.proofs.Prelude.{◌≡◌, ◌≢◌, ◌-◌, List, [], length, Result, root, Said, Passing, problem_of, SourceSeen, MAX_DOCUMENT, asks_tree, Reading, CheckStop, GoesOn, StepIs, ExpectsNode, asks_due, choices_in, count_a, problem_in, AreMet}
use Rattle.crn_document.proofs.tree.next_tree.Given as goal

-- a step through the trees that are due is one through the whole tree
abbrev pub invariant-nodes : goal.invariant-nodes
invariant-nodes g l = record {
  goes : GoesOn l.at;
  version : l.at.version ≡ l.fn.at.version;
  some : l.check.due ≢ [];
  choices : l.check.choices ≡ (problem_of l.net l.check.problem).choices;
  node : ExpectsNode l.expect l.at.version (count_a l.net l.fn.problem) (length l.net.names) (length l.table);
  met : AreMet l.expect l.net l.fn.problem l.met.lines.items;
  problem : l.check.problem ≡ l.fn.problem;
  passing : (said : List Said) × Passing (problem_of l.net l.fn.problem) root said l.check.due;
  whole : (result : Result (Unit {0}) CheckStop) (new : Reading) (now : SourceSeen)
      → StepIs (asks_due l.at.version l.table (problem_in l.net l.fn.problem) l.check.due l.at.line) (λ t line. line ≡ new.line) result l.at new (g.S.Source.seen l.source) now
      → StepIs (asks_tree l.fn.at.version l.table (problem_in l.net l.fn.problem) (choices_in l.net l.fn.problem) [] l.fn.at.line) (λ t line. line ≡ new.line) result l.fn.at new (g.S.Source.seen l.fn.source) now;
}

abbrev pub decreases-nodes : goal.decreases-nodes
decreases-nodes g l = MAX_DOCUMENT - l.at.line
