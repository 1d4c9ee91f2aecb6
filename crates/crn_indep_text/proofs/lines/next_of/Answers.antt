use Rattle.crn_indep_text.proofs.Prelude.{List, ℕ, sym, subst, AreChoices, words_named, words}
use Rattle.crn_indep_text.proofs.lines.next_of.Goals as goal

pub next_part_record-requires-clause-due : goal.next_part_record-requires-clause-due
next_part_record-requires-clause-due g c = subst (λ (ws : List (List ℕ)). AreChoices ws c.args.due.now c.args.runs.now) (sym c.words-table.ensures) c.requires.due

pub returns-clause-step : goal.returns-clause-step
returns-clause-step g c = words_named _ words c.args.due.now c.args.runs.now c.next_part_record.result c.args.at.now c.next_part_record.new.at _ _ c.words-table.ensures c.next_part_record.ensures.step
