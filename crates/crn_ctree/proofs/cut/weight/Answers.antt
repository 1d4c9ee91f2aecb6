use Rattle.crn_ctree.proofs.Prelude.{◌≡◌, ◌≤◌, ◌<◌, ◌-◌, ◌∙◌, length, get_or, ap, arith, subst, to_z, of_z, pos, w128, to_z-of_z, HasSign, column, dot, entry, all_at, held, IsNarrow, matrix_by}
use Rattle.crn_ctree.proofs.CutLaws.{weight_left, weight_right}
use Rattle.crn_ctree.proofs.cut.weight.Goals as goal

pub returns-then-k-columns : goal.returns-then-k-columns
returns-then-k-columns c =
    let a = matrix_by c.args.net.now c.args.system in
    let k = c.args.k in
    let same = to_z-of_z w128 c.column_sum.result (record { sfits = c.column_sum.type_inv }) in
    subst (λ x. HasSign c.opposite.result x) (weight_left a c.args.u.now k (omega (arith, c.if-k-columns.true, c.columns-columns.ensures.count)))
    (c.opposite.ensures (dot c.args.u.now (column a.rows k)) (subst (λ x. HasSign c.sign_of.result x) (same ∙ c.column_sum.ensures) c.sign_of.ensures))

pub returns-else-k-columns : goal.returns-else-k-columns
returns-else-k-columns c =
    let a = matrix_by c.args.net.now c.args.system in
    let u = c.args.u.now in
    let k = c.args.k in
    let j = k - c.columns-columns.result in
    let le : a.cols ≤ k = omega (arith, c.if-k-columns.false, c.columns-columns.ensures.count) in
    let lt : j < length u = omega (arith, le, c.requires.place, c.requires.numbers.long, c.columns-columns.ensures.count) in
    let narrow : IsNarrow (get_or u j (pos 0)) = all_at IsNarrow u j (pos 0) c.requires.numbers.each lt in
    let kept : to_z w128 (of_z w128 (entry u j)) ≡ entry u j = held (entry u j) (omega (arith, narrow)) in
    subst (λ x. HasSign c.sign_of-else-k-columns.result x) (kept ∙ ap (λ n. entry u (k - n)) c.columns-columns.ensures.count ∙ weight_right a u k le) c.sign_of-else-k-columns.ensures
