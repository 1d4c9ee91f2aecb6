use Rattle.crn_document.proofs.Prelude.{◌++◌, ◌∷◌, ◌∙◌, [], List, ap, sym, subst, ℤ, err_from_is_err_and, vector_form, asks, IsShared, memory_stops, step_exits}
use Rattle.crn_reading.specs.declared.fault.CheckStop.TheVariants as stop
use Rattle.crn_document.proofs.Tables.{shared_is}
use Rattle.crn_document.proofs.table.next_vector.Goals as goal

pub push-requires : goal.push-requires
push-requires g c = let s = c.in_ok-next_plain.ensures.step in subst IsShared (sym c.as_slice.ensures) (shared_is c.next_plain.new.at.numbers.list s.0 s.1)

pub returns-in_err-push-clause-step : goal.returns-in_err-push-clause-step
returns-in_err-push-clause-step g c =
    let s = c.in_ok-next_plain.ensures.step in
    step_exits _ _ _ stop.NoMemory _ _ _ _ (err_from_is_err_and _ c.from_residual-in_err-push.ensures.1)
    (memory_stops (asks c.args.at.now.version c.args.at.now.line _ (vector_form ∷ [])) s.0 c.args.at.now c.next_plain.new.at _ _ s.2 s.3 c.in_ok-next_plain.ensures.goes.reads)

pub returns-clause-step : goal.returns-clause-step
returns-clause-step g c =
    let s = c.in_ok-next_plain.ensures.step in
    (s.0, c.in_ok-push.ensures.ok ∙ ap (λ (zs : List ℤ). c.args.table.now ++ zs ∷ []) (c.as_slice.ensures ∙ s.1.1), s.2, s.3)
