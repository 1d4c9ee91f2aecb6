use Rattle.crn_endo_text.proofs.Prelude.{GoesOn, asks_from, GoesOnBy}
use Rattle.crn_endo_text.proofs.tree.next_trees.Given as goal

-- what was read goes on by the trees that are left
abbrev pub invariant-loop-r : goal.invariant-loop-r
invariant-loop-r g l = record {
  goes : GoesOn l.at;
  whole : GoesOnBy (asks_from l.net 0 l.fn.at.line) (asks_from l.net l.r l.at.line) l.fn.at l.at (g.S.Source.seen l.fn.source) (g.S.Source.seen l.source);
}
