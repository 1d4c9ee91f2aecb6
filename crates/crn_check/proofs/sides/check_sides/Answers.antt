use Rattle.crn_check.proofs.Prelude.{◌≡◌, ◌+◌, ◌<◌, [], length, get_or, refl, sym, subst, ◌∙◌, ap, arith, ℤ, false≢true, all_at, AreSideMarks, AreBits, is_pair}
use Rattle.std.specs.Prelude.{List}
use Rattle.crn_check.proofs.InOrder.{AreDone, done_none, done_skip, done_some, done_next, done_fails, done_all}
use Rattle.crn_check.proofs.sides.check_sides.Goals as goal
use Rattle.crn_check.proofs.sides.check_sides.Goals.{then-is_pair+else-not-are_side_marks, else-is_pair}

pub loop-r-init : goal.loop-r-init
loop-r-init c = done_none (AreSideMarks c.args.net.now c.args.linkage.now) (is_pair c.args.net.now c.args.strong.now c.args.exits.now) 1 (length c.args.net.now.reactions) 1 c.args.sides.now c.requires.sides.long

pub row-requires : goal.row-requires
row-requires c =
    let net = c.args.net.now in
    let p = is_pair net c.args.strong.now c.args.exits.now in
    let lt : c.loop-r.r < length net.reactions = omega (arith, c.loop-r-test.true, c.reactions-r-end.ensures.count) in
    done_some (AreSideMarks net c.args.linkage.now) p 1 (length net.reactions) 1 c.args.sides.now c.loop-r.r c.loop-r.done (c.loop-r.r + 1) c.loop-r.invariant lt (omega arith) (sym c.is_pair.ensures ∙ c.if-is_pair.true)

pub are_side_marks-requires-clause-marks : goal.are_side_marks-requires-clause-marks
are_side_marks-requires-clause-marks c =
    let net = c.args.net.now in
    let p = is_pair net c.args.strong.now c.args.exits.now in
    let lt : c.loop-r.r < length net.reactions = omega (arith, c.loop-r-test.true, c.reactions-r-end.ensures.count) in
    let some = done_some (AreSideMarks net c.args.linkage.now) p 1 (length net.reactions) 1 c.args.sides.now c.loop-r.r c.loop-r.done (c.loop-r.r + 1) c.loop-r.invariant lt (omega arith) (sym c.is_pair.ensures ∙ c.if-is_pair.true) in
    let bits = all_at (AreBits (length net.complexes)) c.args.sides.now c.loop-r.done [] c.requires.sides.each some in
    ap (λ (l : List ℤ). length l) c.row.ensures ∙ bits.long

pub returns-then-not-are_side_marks : goal.returns-then-not-are_side_marks
returns-then-not-are_side_marks c =
    let net = c.args.net.now in
    let links = c.args.linkage.now in
    let r = c.loop-r.r in
    let lt : r < length net.reactions = omega (arith, c.loop-r-test.true, c.reactions-r-end.ensures.count) in
    let fails = λ (h : AreSideMarks net links (r + 1) (get_or c.args.sides.now c.loop-r.done [])). false≢true (sym c.if-not-are_side_marks.true ∙ c.are_side_marks.ensures.1 (subst (AreSideMarks net links (r + 1)) (sym c.row.ensures) h)) in
    done_fails (AreSideMarks net links) (is_pair net c.args.strong.now c.args.exits.now) 1 (length net.reactions) 1 c.args.sides.now r c.loop-r.done (r + 1) (1 + c.loop-r.done) c.loop-r.invariant lt (omega arith) (sym c.is_pair.ensures ∙ c.if-is_pair.true) fails refl

pub loop-r-preserved : goal.loop-r-preserved
loop-r-preserved c =
    let net = c.args.net.now in
    let links = c.args.linkage.now in
    let p = is_pair net c.args.strong.now c.args.exits.now in
    let sides = c.args.sides.now in
    let n = length net.reactions in
    let r = c.loop-r.r in
    let lt : r < length net.reactions = omega (arith, c.loop-r-test.true, c.reactions-r-end.ensures.count) in
    elim c.if-is_pair.branch [
      | then-is_pair+else-not-are_side_marks w ↦ subst (AreDone (AreSideMarks net links) p 1 n 1 sides (r + 1)) (sym w.done-is) (done_next (AreSideMarks net links) p 1 n 1 sides r c.loop-r.done (r + 1) c.loop-r.invariant lt (omega arith) (sym c.is_pair.ensures ∙ w.if-is_pair.true)
          (subst (AreSideMarks net links (r + 1)) w.row.ensures (w.are_side_marks.ensures.0 w.if-not-are_side_marks.false)))
      | else-is_pair w ↦ subst (AreDone (AreSideMarks net links) p 1 n 1 sides (r + 1)) (sym w.done-is) (done_skip (AreSideMarks net links) p 1 n 1 sides r c.loop-r.done (r + 1) c.loop-r.invariant lt (omega arith) (sym c.is_pair.ensures ∙ w.if-is_pair.false))
    ]

pub returns : goal.returns
returns c =
    let net = c.args.net.now in
    let all : c.loop-r.r ≡ length net.reactions = omega (arith, c.reactions-r-end.ensures.count) in
    done_all (AreSideMarks net c.args.linkage.now) (is_pair net c.args.strong.now c.args.exits.now) 1 (length net.reactions) 1 c.args.sides.now c.loop-r.r c.loop-r.done c.loop-r.invariant all
