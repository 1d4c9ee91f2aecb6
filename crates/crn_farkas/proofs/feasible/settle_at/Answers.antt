use Rattle.crn_farkas.proofs.Prelude.{◌≡◌, ◌<◌, ◌∙◌, length, sym, ap, subst, arith, false≢true, Pos, Free, width, Mat, is_signed, kind_at, any_default, View, IsView, IsRightEverywhere, HasPartSum}
use Rattle.std.proofs.Common.{true}
use Rattle.crn_farkas.proofs.Marks.{marks_more, marks_seen}
use Rattle.crn_farkas.proofs.feasible.settle_at.Goals as goal

pub returns-then-not-is_asked-clause-end : goal.returns-then-not-is_asked-clause-end
returns-then-not-is_asked-clause-end c =
    let g_lt : c.args.g < length c.args.kinds.now = omega (arith, c.requires.goal, c.requires.kinds) in
    marks_more c.args.tableau.now.matrix c.args.kinds.now c.args.g c.args.marks.now c.requires.sum
    (λ s. absurd (false≢true (sym c.if-not-is_asked.true ∙ c.is_asked.ensures ∙ ap is_signed (any_default Pos Free c.args.kinds.now c.args.g g_lt) ∙ s)))

pub returns-then-marks-g-clause-end : goal.returns-then-marks-g-clause-end
returns-then-marks-g-clause-end c = marks_more c.args.tableau.now.matrix c.args.kinds.now c.args.g c.args.marks.now c.requires.sum (λ s. c.if-marks-g.true)

pub returns-in-Column-clause-end : goal.returns-in-Column-clause-end
returns-in-Column-clause-end c =
    let a = c.settled_view.new.tableau.matrix in
    let basis = c.settled_view.new.tableau.basis in
    let kinds = c.args.kinds.now in
    let g = c.args.g in
    let same : a ≡ c.args.tableau.now.matrix = c.settled_view.ensures.matrix in
    let g_lt = c.requires.goal in
    let long : length kinds ≡ width a = c.requires.kinds ∙ ap width (sym same) in
    let asked : is_signed (kind_at kinds g) ≡ true = ap is_signed (any_default Free Pos kinds g (omega (arith, g_lt, c.requires.kinds))) ∙ sym c.is_asked.ensures ∙ c.if-not-is_asked.false in
    let V : View → Type 0 = λ v. IsView a basis v g in
    let S : View → Type 0 = λ v. IsRightEverywhere a basis v g kinds in
    let P : Mat → Type 0 = λ m. HasPartSum m kinds g c.args.marks.now in
    marks_seen a basis kinds c.in-Column.b g c.args.marks.now c.mark.new.marks c.names_rows.ensures (subst (λ (m : Mat). g < width m) (sym same) g_lt) long asked
    (subst V c.in-Column.is c.in_ok-settled_view.ensures.view) (subst S c.in-Column.is c.in_ok-settled_view.ensures.right)
    (subst P (sym same) c.requires.sum) c.mark.ensures.marks
