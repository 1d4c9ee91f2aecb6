use Rattle.crn_tab.proofs.Prelude.{arith}
use Rattle.crn_tab.proofs.Divided.{each_difference}
use Rattle.crn_tab.proofs.Primitive.{combined_of}
use Rattle.crn_tab.proofs.change.change_all.Goals as goal

pub make_primitive-requires-clause-known : goal.make_primitive-requires-clause-known
make_primitive-requires-clause-known c = λ d h.
    c.requires.known d (each_difference d c.args.p.now c.args.q.now c.args.row.now c.args.lead.now c.low_differences.new.row c.requires.lead_count c.low_differences.ensures.value h)

pub returns-then-make_primitive-clause-combined : goal.returns-then-make_primitive-clause-combined
returns-then-make_primitive-clause-combined c =
    let m = c.make_primitive.ensures.primitive in
    combined_of c.args.p.now c.args.q.now c.args.row.now c.args.lead.now c.low_differences.new.row c.make_primitive.new.row m.t c.requires.lead_count (omega arith) (omega arith)
    c.low_differences.ensures.value m.content m.some (λ k lt. m.parts k (omega arith))

pub returns-else-make_primitive-clause-combined : goal.returns-else-make_primitive-clause-combined
returns-else-make_primitive-clause-combined c =
    let m = c.make_primitive.ensures.primitive in
    combined_of c.args.p.now c.args.q.now c.args.row.now c.args.lead.now c.low_differences.new.row c.make_primitive.new.row m.t c.requires.lead_count (omega arith) (omega arith)
    c.low_differences.ensures.value m.content m.some (λ k lt. m.parts k (omega arith))
