use Rattle.crn_io.proofs.Prelude.{◌++◌}
use Rattle.crn_io.proofs.LinesDue.{all_bytes, due_is, end_is}
use Rattle.crn_io.proofs.laws.next_is_what_is_due.Goals as goal

pub returns-clause-due : goal.returns-clause-due
returns-clause-due c = λ answer node n old new before now left rest lt shows shown p.
    due_is answer node n old new left rest (old.ahead ++ p.0) lt (all_bytes old.ahead p.0 left rest _ _ shows shown p.1) (rw shown at p.2)

pub returns-clause-end : goal.returns-clause-end
returns-clause-end c = λ answer n old new before now left rest lt shows shown p.
    end_is answer n old new left rest (old.ahead ++ p.0) lt (all_bytes old.ahead p.0 left rest _ _ shows shown p.1) (rw shown at p.2)
