use Rattle.crn_farkas.proofs.Prelude.{◌≢◌, ◌↔◌, List, sym, subst, pos, entry, View, Row, IsView, IsSeen, IsViewed, HasCrossed}
use Rattle.std.proofs.Common.{ℤ}
use Rattle.crn_farkas.proofs.Seen.{row_crossed, wrong_outside, wrong_enters, column_left, column_entered, column_others}
use Rattle.crn_farkas.proofs.settle.cross.Goals as goal

pub swap_in-requires-clause-enter : goal.swap_in-requires-clause-enter
swap_in-requires-clause-enter c =
    let a = c.args.tableau.now.matrix in
    let basis = c.args.tableau.now.basis in
    let V : View → Type 0 = λ v. IsView a basis v c.args.g in
    let S : View → Type 0 = λ v. (y : List ℤ) → IsSeen a basis v c.args.g c.args.kind y → entry y c.args.c ≢ pos 0 in
    wrong_outside a basis c.in-Column.b c.args.g c.args.c c.args.kind c.names_rows.ensures c.requires.goal c.requires.asked (subst V c.in-Column.is c.requires.view) (subst S c.in-Column.is c.requires.some)

pub swap_in-requires-clause-some : goal.swap_in-requires-clause-some
swap_in-requires-clause-some c =
    let a = c.args.tableau.now.matrix in
    let basis = c.args.tableau.now.basis in
    let V : View → Type 0 = λ v. IsView a basis v c.args.g in
    let S : View → Type 0 = λ v. (y : List ℤ) → IsSeen a basis v c.args.g c.args.kind y → entry y c.args.c ≢ pos 0 in
    wrong_enters a basis c.in-Column.b c.args.g c.args.c c.args.kind c.names_rows.ensures c.requires.goal c.requires.place c.requires.asked (subst V c.in-Column.is c.requires.view) (subst S c.in-Column.is c.requires.some)

pub returns-in_ok-swap_in-in-Column-clause-view : goal.returns-in_ok-swap_in-in-Column-clause-view
returns-in_ok-swap_in-in-Column-clause-view c =
    let V : View → Type 0 = λ v. IsView c.args.tableau.now.matrix c.args.tableau.now.basis v c.args.g in
    column_left c.args.tableau.now.matrix c.args.tableau.now.basis c.swap_in.new.tableau.basis c.in-Column.b c.args.g c.args.c (subst V c.in-Column.is c.requires.view) c.requires.other c.in_ok-swap_in-in-Column.ensures.ok

pub returns-in_ok-swap_in-in-Column-clause-crossed : goal.returns-in_ok-swap_in-in-Column-clause-crossed
returns-in_ok-swap_in-in-Column-clause-crossed c =
    let V : View → Type 0 = λ v. IsView c.args.tableau.now.matrix c.args.tableau.now.basis v c.args.g in
    let T : View → Type 0 = λ v. HasCrossed v c.swap_in.new.tableau.basis Row c.args.c in
    subst T (sym c.in-Column.is) (column_entered c.args.tableau.now.matrix c.args.tableau.now.basis c.swap_in.new.tableau.basis c.in-Column.b c.args.g c.args.c (subst V c.in-Column.is c.requires.view) c.in_ok-swap_in-in-Column.ensures.ok)

pub returns-in_ok-swap_in-in-Column-clause-others : goal.returns-in_ok-swap_in-in-Column-clause-others
returns-in_ok-swap_in-in-Column-clause-others c = λ k ng nc.
    let T : View → Type 0 = λ v. IsViewed c.args.tableau.now.basis v k ↔ IsViewed c.swap_in.new.tableau.basis Row k in
    subst T (sym c.in-Column.is) (column_others c.args.tableau.now.basis c.swap_in.new.tableau.basis c.in-Column.b c.args.c k c.in_ok-swap_in-in-Column.ensures.ok nc)

pub returns-in-Row-clause-view : goal.returns-in-Row-clause-view
returns-in-Row-clause-view c =
    let a = c.args.tableau.now.matrix in
    let basis = c.args.tableau.now.basis in
    let V : View → Type 0 = λ v. IsView a basis v c.args.g in
    let S : View → Type 0 = λ v. (y : List ℤ) → IsSeen a basis v c.args.g c.args.kind y → entry y c.args.c ≢ pos 0 in
    row_crossed a basis c.args.g c.args.c c.args.kind c.names_rows.ensures c.requires.goal c.requires.asked (subst V c.in-Row.is c.requires.view) c.requires.other (subst S c.in-Row.is c.requires.some)
