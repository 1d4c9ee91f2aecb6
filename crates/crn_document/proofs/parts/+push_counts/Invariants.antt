use Rattle.crn_document.proofs.parts.+push_counts.Given as goal

abbrev pub decreases-push_counts : goal.decreases-push_counts
decreases-push_counts l = l.count
