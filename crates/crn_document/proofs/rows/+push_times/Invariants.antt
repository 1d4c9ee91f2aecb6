use Rattle.crn_document.proofs.rows.+push_times.Given as goal

abbrev pub decreases-push_times : goal.decreases-push_times
decreases-push_times l = l.count
