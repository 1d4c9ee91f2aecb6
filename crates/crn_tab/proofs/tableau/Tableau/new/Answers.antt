use Rattle.crn_tab.proofs.Prelude.{◌≡◌, ◌<◌, ◌+◌, ℕ, List, length, ap, ◌∙◌, sym, subst, arith, ℤ, ◌↔◌, Mat, IsIn, width, IsIdentity, basis_of, IsTableau}
use Rattle.crn_tab.proofs.FirstRows.{first_tableau}
use Rattle.crn_tab.proofs.BasicTest.{first_basis}
use Rattle.crn_tab.proofs.tableau.Tableau.new.Goals as goal

counted : (n n' m m' : ℕ) (at : List ℕ) → n' ≡ n → m' ≡ m → IsIdentity (n' + m') at → IsIdentity (n + m) at
counted n n' m m' at e f h =
    let A : ℕ → Type 0 = λ k. IsIdentity (k + m') at in
    let B : ℕ → Type 0 = λ k. IsIdentity (n + k) at in
    subst B f (subst A e h)

pub invariant_of-result : goal.invariant_of-result
invariant_of-result c =
    let a = c.in_ok-matrix.matrix in
    let at = c.in_ok-at.at.items in
    let order = c.in_ok-order.order.items in
    let first = first_tableau a at order c.cols-n.ensures.shape (omega (arith, c.cols-n.ensures.some, c.cols-n.ensures.count))
    (omega (arith, c.rows-m.ensures.few, c.rows-m.ensures.count)) c.rows-m.ensures.small
    (counted a.cols c.cols-n.result (length a.rows) c.rows-m.result at c.cols-n.ensures.count c.rows-m.ensures.count c.in_ok-at.ensures)
    (counted a.cols c.cols-n.result (length a.rows) c.rows-m.result order c.cols-n.ensures.count c.rows-m.ensures.count c.in_ok-order.ensures) in
    let T : List ℤ → Type 0 = λ rows. IsTableau a at order rows in
    record { tableau = subst T (sym (c.in_ok-rows.ensures ∙ c.in_ok-first_rows.ensures)) first; scratch_fits = c.in_ok-scratch.ensures ∙ ap (λ n. n + 1) c.cols-n.ensures.count }

pub returns-clause-basis : goal.returns-clause-basis
returns-clause-basis c =
    let a = c.in_ok-matrix.matrix in
    let at = c.in_ok-at.at.items in
    let B : ℕ → Type 0 = λ n. (k : ℕ) → IsIn k (basis_of a.cols at) ↔ (k < n) in
    subst B (ap (λ (m : Mat). m.cols) c.in_ok-matrix.ensures)
    (first_basis a.cols (width a) at (counted a.cols c.cols-n.result (length a.rows) c.rows-m.result at c.cols-n.ensures.count c.rows-m.ensures.count c.in_ok-at.ensures) (omega arith))
