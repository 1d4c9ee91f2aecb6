use Rattle.crn_tab.proofs.Prelude.{◌≡◌, ◌+◌, ◌<◌, ◌∙◌, ℕ, List, length, ap, subst, set, arith, ℤ, slice_index, length-replicate, Sign, Zero, row_at}
use Rattle.std.proofs.lemmas.List.{length-set}
use Rattle.crn_tab.proofs.BasisPlace.{has_place}
use Rattle.crn_tab.proofs.ColumnSigns.{AreColumnSigns, basic_signs, next_sign}
use Rattle.crn_tab.proofs.sign.put_signs_over_rows.Goals as goal

pub offset_bounds-fields-col : goal.offset_bounds-fields-col
offset_bounds-fields-col c =
    let h = has_place c.args.fields.now.matrix.now c.args.fields.now.at.now c.args.fields.now.order.now c.args.fields.now.rows.now c.args.col c.requires.tableau c.requires.member in
    omega (arith, h.small)

pub bounds-fields-col : goal.bounds-fields-col
bounds-fields-col c = (has_place c.args.fields.now.matrix.now c.args.fields.now.at.now c.args.fields.now.order.now c.args.fields.now.rows.now c.args.col c.requires.tableau c.requires.member).inside

pub bounds-signs-col : goal.bounds-signs-col
bounds-signs-col c =
    let h = has_place c.args.fields.now.matrix.now c.args.fields.now.at.now c.args.fields.now.order.now c.args.fields.now.rows.now c.args.col c.requires.tableau c.requires.member in
    omega (arith, h.inside, c.requires.tableau.placed.at_long, c.requires.room, ap (length {A = Sign}) (c.fill.ensures.after (λ y e. e)), length-replicate (length c.args.signs.now) Zero)

pub loop-i-init : goal.loop-i-init
loop-i-init c =
    let a = c.args.fields.now.matrix.now in
    let at = c.args.fields.now.at.now in
    let b = c.args.col in
    let sign = c.args.sign in
    let h = has_place a at c.args.fields.now.order.now c.args.fields.now.rows.now b c.requires.tableau c.requires.member in
    let filled = c.fill.ensures.after (λ y e. e) in
    let first = basic_signs a at c.args.fields.now.order.now c.args.fields.now.rows.now b (length c.args.signs.now) sign c.fill.new.self c.requires.tableau c.requires.room (omega (arith, h.inside, c.requires.tableau.placed.at_long, c.requires.room)) filled in
    let same : a.cols ≡ a.cols + 0 = omega arith in
    record {
      count = length-set c.fill.new.self b sign ∙ ap (length {A = Sign}) filled ∙ length-replicate (length c.args.signs.now) Zero ∙ c.requires.room;
      seen = subst (λ (e : ℕ). AreColumnSigns a at b sign e (set c.fill.new.self b sign)) same first;
    }

taken : (n n' i : ℕ) (rows part : List ℤ) → n' ≡ n → part ≡ row_at (n' + 1) rows i → part ≡ row_at (n + 1) rows i
taken n n' i rows part e h = subst (λ (k : ℕ). part ≡ row_at (k + 1) rows i) e h

pub bounds-kept-place : goal.bounds-kept-place
bounds-kept-place c =
    let a = c.args.fields.now.matrix.now in
    let h = has_place a c.args.fields.now.at.now c.args.fields.now.order.now c.args.fields.now.rows.now c.args.col c.requires.tableau c.requires.member in
    let is = taken a.cols c.cols-n.result c.loop-i.i c.args.fields.now.rows.now c.part-kept.result.now c.cols-n.ensures.count c.part-kept.ensures in
    let row = c.requires.tableau.each c.loop-i.i (omega (arith, c.loop-i-test.true, c.rows-m.ensures.count)) in
    omega (arith, h.basic, ap (length {A = ℤ}) is, row.long)

pub loop-i-preserved : goal.loop-i-preserved
loop-i-preserved c =
    let a = c.args.fields.now.matrix.now in
    let order = c.args.fields.now.order.now in
    let rows = c.args.fields.now.rows.now in
    let i = c.loop-i.i in
    let place = slice_index order (c.cols-n.result + i) in
    let is = taken a.cols c.cols-n.result i rows c.part-kept.result.now c.cols-n.ensures.count c.part-kept.ensures in
    let i_lt : i < length a.rows = omega (arith, c.loop-i-test.true, c.rows-m.ensures.count) in
    let place_is : place ≡ slice_index order (a.cols + i) = ap (λ k. slice_index order (k + i)) c.cols-n.ensures.count in
    record {
      count = length-set c.loop-i.signs place c.follower.result ∙ c.loop-i.invariant.count;
      seen = next_sign a c.args.fields.now.at.now order rows c.part-kept.result.now c.args.col i place c.args.sign c.opposite-other.result c.follower.result c.loop-i.signs
          c.requires.tableau c.requires.member c.loop-i.invariant.count i_lt c.opposite-other.ensures is place_is c.follower.ensures c.loop-i.invariant.seen;
    }

pub returns-clause-signs : goal.returns-clause-signs
returns-clause-signs c = λ y named k k_lt.
    let at_k = c.requires.tableau.placed.at_below k k_lt in
    c.loop-i.invariant.seen y named k k_lt (omega (arith, at_k, c.loop-i-test.false, c.rows-m.ensures.count))
