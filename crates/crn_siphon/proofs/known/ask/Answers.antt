use Rattle.crn_siphon.proofs.Nodes.{more_then}
use Rattle.crn_siphon.proofs.known.ask.Goals as goal

pub returns-clause-kept : goal.returns-clause-kept
returns-clause-kept c = more_then c.args.known.now.laws.items c.propose.new.known.laws.items c.settle.new.known.laws.items c.in_ok-finding.ensures.kept c.in_ok-found.ensures.kept
