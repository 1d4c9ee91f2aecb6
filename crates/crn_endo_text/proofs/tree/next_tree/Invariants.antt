use Rattle.crn_endo_text.proofs.Prelude.{◌≡◌, ◌≢◌, ◌-◌, [], MAX_DOCUMENT, GoesOn, asks_from, asks_due, GoesOnBy}
use Rattle.crn_endo_text.proofs.tree.next_tree.Given as goal

-- what was read goes on by what is due
abbrev pub invariant-nodes : goal.invariant-nodes
invariant-nodes g l = record {
  goes : GoesOn l.at;
  some : l.check.due ≢ [];
  net : l.check.net ≡ l.net;
  reaction : l.check.reaction ≡ l.fn.r;
  whole : GoesOnBy (asks_from l.net l.fn.r l.fn.at.line) (asks_due l.net l.fn.r l.check.due l.at.line) l.fn.at l.at (g.S.Source.seen l.fn.source) (g.S.Source.seen l.source);
}

abbrev pub decreases-nodes : goal.decreases-nodes
decreases-nodes g l = MAX_DOCUMENT - l.at.line
