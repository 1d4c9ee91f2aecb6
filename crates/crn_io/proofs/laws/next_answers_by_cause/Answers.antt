use Rattle.crn_io.proofs.Prelude.{◌++◌, subst, Next, IsCause, place}
use Rattle.crn_io.proofs.LinesDue.{all_bytes, cause_is, cause_is_one}
use Rattle.crn_io.proofs.laws.next_answers_by_cause.Goals as goal

pub returns : goal.returns
returns c = λ answer other n old new before now left rest lt shows shown p sound.
    let at = place n old left in
    let here : IsCause answer at = cause_is answer n old new left rest (old.ahead ++ p.0) lt (all_bytes old.ahead p.0 left rest _ _ shows shown p.1) (rw shown at p.2) sound in
    (λ e. subst (λ (a : Next). IsCause a at) e here, λ cause. cause_is_one at answer other here cause)
