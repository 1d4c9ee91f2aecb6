use Rattle.crn_tab.proofs.Prelude.{◌≡◌, ◌<◌, ℕ, length, ap, sym, subst, ◌∙◌, arith, nat_lt, slice_index, IsTrue, ◌↔◌, IsIn, width, any_default, KeptTableau, basis_of}
use Rattle.crn_tab.proofs.BasicTest.{basic_test}
use Rattle.crn_tab.proofs.tableau.Tableau.is_basic.Goals as goal

pub returns : goal.returns
returns c =
    let k = c.args.coordinate in
    let n = c.self.inside.matrix.cols in
    let at = c.self.inside.at.items in
    let V : KeptTableau → Type 0 = λ v. IsTrue (nat_lt c.index.result.now c.cols.result) ↔ IsIn k v.basis in
    let lt : k < width c.self.inside.matrix = omega (arith, c.requires, ap (λ (v : KeptTableau). width v.matrix) c.self.view_is) in
    let in_at : k < length at = omega (arith, lt, c.self.invariant.tableau.placed.at_long) in
    let T : ℕ → ℕ → Type 0 = λ s m. IsTrue (nat_lt s m) ↔ IsIn k (basis_of n at) in
    let slot : c.index.result.now ≡ slice_index at k = c.index.ensures ∙ any_default c.index.result.now 0 at k in_at in
    subst V c.self.view_is (subst (T c.index.result.now) (sym c.cols.ensures.count) (subst (λ s. T s n) (sym slot) (basic_test n at k in_at)))
