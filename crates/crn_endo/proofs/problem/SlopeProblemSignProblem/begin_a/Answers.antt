use Rattle.crn_endo.proofs.Prelude.{[], length}
use Rattle.crn_endo.proofs.FirstOption.{nothing_asked}
use Rattle.crn_endo.proofs.Steps.{asks_by}
use Rattle.crn_endo.proofs.problem.SlopeProblemSignProblem.begin_a.Goals as goal

pub returns-clause-sums : goal.returns-clause-sums
returns-clause-sums c =
    let s = c.args.self.now.given.now in
    nothing_asked s.net s.reaction (length c.args.sums.now) c.fill.new.self c.requires.sums (c.fill.ensures.after (λ y e. e))

pub returns-clause-asked : goal.returns-clause-asked
returns-clause-asked c =
    let p = c.args.self.now in
    let s = p.given.now in
    asks_by s.net s.reaction [] p.weak.items c.fill-2.new.self p.weak_is (nothing_asked s.net s.reaction (length c.args.asked.now) c.fill-2.new.self c.requires.asked (c.fill-2.ensures.after (λ y e. e)))
