use Rattle.crn_farkas.proofs.Prelude.{refl, sym, subst, ◌∙◌, arith, ◌*ℤ◌, Kind, Pos, Free, HasKind, entry, scale, any_default, factor}
use Rattle.crn_farkas.proofs.Witnesses.{as_column, witness_from, wide_here, near_here}
use Rattle.crn_farkas.proofs.goal.witness.Goals as goal

pub returns-in-Err-clause-part : goal.returns-in-Err-clause-part
returns-in-Err-clause-part c =
    let a = c.args.tableau.now.matrix in
    let basis = c.args.tableau.now.basis in
    let b = c.args.b in
    let numbers = c.in_ok-basis_after.field-0.list in
    let t = c.names_rows.ensures in
    let member = c.requires.view.1.member in (
      wide_here a basis b numbers t member c.in-Err.ensures.wide c.in_ok-basis_after.ensures,
      near_here a basis b numbers t member c.in_ok-basis_after.ensures,
    )

pub returns-clause-work : goal.returns-clause-work
returns-clause-work c =
    let a = c.args.tableau.now.matrix in
    (as_column a c.args.tableau.now.basis c.args.b c.put_column.new.into c.requires.view.1.member c.in_default.ensures.named).space.long ∙ sym c.requires.work

pub returns-clause-part : goal.returns-clause-part
returns-clause-part c =
    let a = c.args.tableau.now.matrix in
    let basis = c.args.tableau.now.basis in
    let kinds = c.args.kinds.now in
    let g = c.args.g in
    let s = c.stays-stays.result in
    let w = c.put_column.new.into in
    let asked = c.sign_asked.result in
    let signs = c.stays-stays.ensures in
    let K : Kind → Type 0 = λ κ. HasKind κ (factor s *ℤ entry w g) in
    let g_lt = c.requires.goal in
    witness_from a basis kinds c.args.b g s w (scale (factor s) w) c.names_rows.ensures g_lt c.requires.kinds c.requires.asked c.requires.view c.requires.right
    c.in_default.ensures.named c.in_default.ensures.small
    (λ some. subst K (any_default Pos Free kinds g (omega (arith, g_lt, c.requires.kinds))) (c.sign_asked.ensures.kind (factor s *ℤ entry w g) (signs some c.sign_asked.ensures.some)))
    refl
