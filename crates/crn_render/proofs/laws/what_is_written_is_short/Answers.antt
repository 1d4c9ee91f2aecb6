use Rattle.crn_render.proofs.FormedShort.{reports_are_short}
use Rattle.crn_render.proofs.ShortLines.{fault_lines_are_short, summaries_are_short}
use Rattle.crn_render.proofs.laws.what_is_written_is_short.Goals as goal

pub returns-clause-reports : goal.returns-clause-reports
returns-clause-reports c = reports_are_short

pub returns-clause-summaries : goal.returns-clause-summaries
returns-clause-summaries c = summaries_are_short

pub returns-clause-faults : goal.returns-clause-faults
returns-clause-faults c = fault_lines_are_short
