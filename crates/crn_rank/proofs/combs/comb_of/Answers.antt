use Rattle.crn_rank.proofs.Prelude.{◌≡◌, ◌+◌, ℕ, List, length, get_or, refl, ap, subst, ℤ, pos, ◌≤ℤ◌, KeptInts, IsIn, entry, IsNamed, at_in, if_ok, comb_numbers, is_inside, IsCombOf}
use Rattle.crn_rank.proofs.CombTests.{comb_by}
use Rattle.crn_rank.proofs.PickedRows.{picked_below}
use Rattle.crn_rank.proofs.combs.comb_of.Goals as goal

pub numbers-requires-clause-inside : goal.numbers-requires-clause-inside
numbers-requires-clause-inside c = λ i lt.
    let a = c.args.tableau.now.matrix in
    let inside = c.args.inside.now in
    let q = get_or inside i 0 in
    (picked_below (is_inside a c.args.tableau.now.basis) (length a.rows) q (subst (λ (ps : List ℕ). IsIn q ps) c.requires.inside (at_in inside i 0 lt))).0

pub returns : goal.returns
returns c =
    let a = c.args.tableau.now.matrix in
    let basis = c.args.tableau.now.basis in
    let k = c.args.k in
    let own = c.cols.result + k in
    if_ok (λ (made : KeptInts). (w : List ℤ) → IsNamed a basis own w → pos 1 ≤ℤ entry w own → made.list ≡ comb_numbers a own w c.args.inside.now) (λ (made : KeptInts). IsCombOf a basis (length a.rows) k made.list) c.numbers.result
    (λ made e. comb_by a basis k own (length a.rows) c.args.inside.now made.list c.names_rows.ensures refl c.requires.row c.requires.outside (ap (λ (n : ℕ). n + k) c.cols.ensures) c.requires.inside e)
    c.numbers.ensures
