use Rattle.crn_sign.proofs.MarkLaws.{kinds_long, suited_solution}
use Rattle.crn_sign.proofs.Prelude.{kinds_of}
use Rattle.crn_sign.proofs.place.Place.has_solution.Goals as goal

pub returns : goal.returns
returns c =
    let a = c.args._matrix.now in
    let l = c.args.self.now in
    suited_solution a (kinds_of a c.args._weak.now l.asked.items) l.marks.items (kinds_long a c.args._weak.now l.asked.items) c.requires.place.marks (c.requires.place.suits c.requires.suits)
