use Rattle.crn_indep_text.proofs.lines.+next_rows.Given as goal

abbrev pub decreases-next_rows : goal.decreases-next_rows
decreases-next_rows g l = l.count
