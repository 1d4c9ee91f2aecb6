use Rattle.crn_tab.proofs.Prelude.{◌≡◌, ◌+◌, sym, subst, Mat, NamesRows, AreEnteredBelow}
use Rattle.crn_tab.proofs.Entered.{entered_here, entered_more}
use Rattle.crn_tab.proofs.enter_rows.enter_one.Goals as goal

pub returns-then-is_basic-clause-entered : goal.returns-then-is_basic-clause-entered
returns-then-is_basic-clause-entered c =
    entered_here c.args.tableau.now.matrix c.args.tableau.now.basis c.args.first c.args.e c.requires.before (λ out. absurd (out (c.is_basic.ensures.0 c.if-is_basic.true)))

pub returns-in-None-clause-entered : goal.returns-in-None-clause-entered
returns-in-None-clause-entered c =
    entered_here c.args.tableau.now.matrix c.args.tableau.now.basis c.args.first c.args.e c.requires.before (λ out. c.in-None.ensures)

pub returns-in-Ok-clause-entered : goal.returns-in-Ok-clause-entered
returns-in-Ok-clause-entered c =
    let a = c.args.tableau.now.matrix in
    let next = c.pivot.new.self.basis in
    let same : c.pivot.new.self.matrix ≡ a = c.pivot.ensures.matrix in
    let now : NamesRows a next = subst (λ (m : Mat). NamesRows m next) same c.names_rows-in-Ok.ensures in
    let all : AreEnteredBelow a next c.args.first (c.args.e + 1) =
    entered_more a c.args.tableau.now.basis next c.args.first c.in-Some.b c.args.e c.names_rows.ensures now c.in-Some.ensures.0 c.in-Ok.ensures.ok c.requires.inside c.requires.before in
    subst (λ (m : Mat). AreEnteredBelow m next c.args.first (c.args.e + 1)) (sym same) all
