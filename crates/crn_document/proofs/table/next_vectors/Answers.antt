use Rattle.crn_document.proofs.Prelude.{◌≡◌, ◌+◌, ◌-◌, ◌∙◌, suc, replicate, arith, Ok, err_from_is_err_and, vector_form, step_exits}
use Rattle.crn_document.proofs.Tables.{kept_none, kept_then, replicate_first, replicate_none, stops_first}
use Rattle.crn_document.proofs.table.next_vectors.Goals as goal

pub returns-in_err-next_vector-clause-step : goal.returns-in_err-next_vector-clause-step
returns-in_err-next_vector-clause-step g c =
    let h = c.loop.invariant in
    let whole = h.whole in
    let k = c.args.count - c.loop.counter in
    let m = c.args.count - (c.loop.counter + 1) in
    let more : k ≡ suc m = omega (arith, c.loop-test.true) in
    whole c.from_residual.result c.next_vector.new.at c.next_vector.new.table (g.S.Source.seen c.next_vector.new.source)
    (step_exits _ _ c.from_residual.result _ _ _ _ _ (err_from_is_err_and c.from_residual.result c.from_residual.ensures.1)
    (stops_first c.loop.at.version c.loop.at.line vector_form (replicate m vector_form) (replicate k vector_form) c.in_err-next_vector.field-0.0 c.loop.at _ _ (replicate_first vector_form k m more) c.in_err-next_vector.ensures.step))

pub loop-preserved : goal.loop-preserved
loop-preserved g c =
    let h = c.loop.invariant in
    let whole = h.whole in
    let k = c.args.count - c.loop.counter in
    let m = c.args.count - (c.loop.counter + 1) in
    let more : k ≡ suc m = omega (arith, c.loop-test.true) in
    let s = c.in_ok-next_vector.ensures.step in
    record {
      goes = c.in_ok-next_vector.ensures.goes;
      version = c.next_vector.ensures.version ∙ h.version;
      long = omega (arith, h.long, c.in_ok-next_vector.ensures.length);
      whole = λ result new kept now q. whole result new kept now
          (kept_then c.loop.at.version vector_form (replicate m vector_form) (replicate k vector_form) s.0 c.loop.table c.next_vector.new.table kept result c.loop.at c.next_vector.new.at new (g.S.Source.seen c.loop.source) (g.S.Source.seen c.next_vector.new.source) now
          (replicate_first vector_form k m more) c.next_vector.ensures.version c.in_ok-next_vector.ensures.line s.1 s.2 s.3 q);
    }

pub returns-clause-step : goal.returns-clause-step
returns-clause-step g c =
    let h = c.loop.invariant in
    let whole = h.whole in
    let k = c.args.count - c.loop.counter in
    let none : k ≡ 0 = omega (arith, c.loop-test.false) in
    whole (Ok tt) c.loop.at c.loop.table (g.S.Source.seen c.loop.source) (kept_none c.loop.at.version c.loop.at.line (replicate k vector_form) c.loop.table c.loop.at (g.S.Source.seen c.loop.source) (replicate_none vector_form k none))
