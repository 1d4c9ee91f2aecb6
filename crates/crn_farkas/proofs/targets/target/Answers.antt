use Rattle.crn_farkas.proofs.Prelude.{◌≡◌, ◌<◌, ap, sym, subst, ◌∙◌, arith, length, of_z, false≢true, WIDE_ENTRY, Pos, Free, Mat, scale, entry, is_signed, kind_at, entry-scale, length-scale, any_default, width, ◌+ℤ◌, factor, Part, IsPartSum, IsPart, w128}
use Rattle.std.proofs.Common.{true, ℤ}
use Rattle.crn_farkas.proofs.Ruling.{unscaled_small}
use Rattle.crn_farkas.proofs.PartSums.{part_more, part_added, part_bound}
use Rattle.crn_farkas.proofs.targets.target.Goals as goal

pub returns-then-not-is_asked-clause-end : goal.returns-then-not-is_asked-clause-end
returns-then-not-is_asked-clause-end c =
    let lt = c.requires.goal in
    let g_lt : c.args.g < length c.args.kinds.now = omega (arith, lt, c.requires.lists.kinds_long) in
    part_more c.args.tableau.now.matrix c.args.kinds.now c.args.g c.args.sum.now g_lt c.requires.lists.part
    (λ s. absurd (false≢true (sym c.if-not-is_asked.true ∙ c.is_asked.ensures ∙ ap is_signed (any_default Pos Free c.args.kinds.now c.args.g g_lt) ∙ s)))

pub returns-then-sum-g-ne0-clause-end : goal.returns-then-sum-g-ne0-clause-end
returns-then-sum-g-ne0-clause-end c =
    let lt = c.requires.goal in
    part_more c.args.tableau.now.matrix c.args.kinds.now c.args.g c.args.sum.now (omega (arith, lt, c.requires.lists.kinds_long)) c.requires.lists.part (λ s e. c.if-sum-g-ne0.true (ap (λ (x : ℤ). of_z w128 x) e))

pub add-requires-clause-sum : goal.add-requires-clause-sum
add-requires-clause-sum c = λ k. omega (arith, part_bound c.args.tableau.now.matrix c.args.kinds.now c.args.g c.args.sum.now c.requires.lists.part c.requires.lists.few k)

pub add-requires-clause-same : goal.add-requires-clause-same
add-requires-clause-same c =
    let S : Part → Type 0 = λ v. IsPart c.part_of.new.tableau.matrix c.part_of.new.tableau.basis c.args.kinds.now c.args.g c.part_of.new.work v in
    let w = subst S c.in-Witness.is c.in_ok-cut.ensures.part in
    sym (length-scale (factor c.in-Witness.stays) c.part_of.new.work) ∙ w.space.long ∙ ap width c.in_ok-cut.ensures.matrix ∙ sym c.requires.lists.part.space.long

pub add-requires-clause-vector : goal.add-requires-clause-vector
add-requires-clause-vector c =
    let S : Part → Type 0 = λ v. IsPart c.part_of.new.tableau.matrix c.part_of.new.tableau.basis c.args.kinds.now c.args.g c.part_of.new.work v in
    let w = subst S c.in-Witness.is c.in_ok-cut.ensures.part in
    unscaled_small c.in-Witness.stays c.part_of.new.work (WIDE_ENTRY) w.small

pub returns-in-Witness-clause-end : goal.returns-in-Witness-clause-end
returns-in-Witness-clause-end c =
    let a = c.part_of.new.tableau.matrix in
    let kinds = c.args.kinds.now in
    let g = c.args.g in
    let lt = c.requires.goal in
    let g_lt : g < length kinds = omega (arith, lt, c.requires.lists.kinds_long) in
    let S : Part → Type 0 = λ v. IsPart a c.part_of.new.tableau.basis kinds g c.part_of.new.work v in
    let P : Mat → Type 0 = λ m. IsPartSum m kinds g c.args.sum.now in
    let asked : is_signed (kind_at kinds g) ≡ true = ap is_signed (any_default Free Pos kinds g g_lt) ∙ sym c.is_asked.ensures ∙ c.if-not-is_asked.false in
    let q = factor c.in-Witness.stays in
    let v = c.part_of.new.work in
    let sum = c.args.sum.now in
    part_added a kinds g sum (scale q v) c.add.new.sum g_lt asked (subst P (sym c.in_ok-cut.ensures.matrix) c.requires.lists.part)
    (subst S c.in-Witness.is c.in_ok-cut.ensures.part) c.add.ensures.count
    (λ k. c.add.ensures.values k ∙ ap (λ (x : ℤ). entry sum k +ℤ x) (sym (entry-scale q v k)))
