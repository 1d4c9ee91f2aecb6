use Rattle.crn_document.proofs.Prelude.{List, Ok, refl, subst, sym, err_from_is_err_and, Verdict, ReadOf, IsSaidIn, rest_course, LastIs, last_exits, stops_here}
use Rattle.crn_reading.specs.declared.fault.CheckStop.TheVariants as stop
use Rattle.crn_document.proofs.rest.next_rest.Goals as goal

pub returns-in_err-checked : goal.returns-in_err-checked
returns-in_err-checked g c = record {
  step =
      let at = c.args.at.now in
      last_exits _ _ c.from_residual.result stop.NoMemory at _ _ (err_from_is_err_and _ c.from_residual.ensures.1) (stops_here at _ c.requires.goes.reads, refl);
}

pub returns-in_err-next_parts : goal.returns-in_err-next_parts
returns-in_err-next_parts g c = record {
  step =
      last_exits _ _ c.from_residual-in_err-next_parts.result c.in_err-next_parts.field-0.0 c.args.at.now _ _ (err_from_is_err_and _ c.from_residual-in_err-next_parts.ensures.1) c.in_err-next_parts.ensures.step;
}

pub returns : goal.returns
returns g c = record {
  step = subst (λ (vs : List Verdict). LastIs (rest_course c.args.at.now.version c.args.at.now.line c.args.net.now) (λ (vs : List Verdict) (read : ReadOf). IsSaidIn c.args.net.now vs read) (Ok vs) c.args.at.now (g.S.Source.seen c.args.source.now) (g.S.Source.seen c.next_parts.new.source)) (sym c.into_verdicts.ensures) c.in_ok-next_parts.ensures.step;
}
