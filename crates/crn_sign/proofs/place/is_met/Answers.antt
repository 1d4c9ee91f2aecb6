use Rattle.crn_sign.proofs.Prelude.{kinds_of}
use Rattle.crn_sign.proofs.MarkLaws.{kinds_long, met_suited, suited_solution}
use Rattle.crn_sign.proofs.place.is_met.Goals as goal

pub returns-clause-suits : goal.returns-clause-suits
returns-clause-suits c = λ h. met_suited c.args._matrix.now c.args.weak.now c.args.asked.now c.args.marks.now c.requires.asked (c.all_meet.ensures h)

pub returns-clause-solved : goal.returns-clause-solved
returns-clause-solved c = λ h.
    let a = c.args._matrix.now in
    let weak = c.args.weak.now in
    let kinds = kinds_of a weak c.args.asked.now in
    suited_solution a kinds c.args.marks.now (kinds_long a weak c.args.asked.now) c.requires.marks (met_suited a weak c.args.asked.now c.args.marks.now c.requires.asked (c.all_meet.ensures h))
