use Rattle.crn_shape.proofs.Prelude.{arith}
use Rattle.crn_shape.proofs.TopNumbers.{tops_by, tops_few}
use Rattle.crn_shape.proofs.tops.terminal_classes.Goals as goal

pub returns-clause-tops : goal.returns-clause-tops
returns-clause-tops c =
    let s = c.requires in
    tops_by c.args.net.now s.0 s.1 c.args.labels.now c.args.exits.now c.in_ok-tops_of.field-0.items c.zeros_below.result s.2 c.in_ok-tops_of.ensures c.zeros_below.ensures.count

pub returns-clause-few : goal.returns-clause-few
returns-clause-few c =
    let h = tops_few c.args.net.now c.in_ok-tops_of.field-0.items c.zeros_below.result (returns-clause-tops c) in
    omega (arith, h, c.complexes.ensures.count, c.complexes.ensures.limit)
