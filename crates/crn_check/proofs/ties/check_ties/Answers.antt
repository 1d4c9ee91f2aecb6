use Rattle.crn_check.proofs.Prelude.{◌≡◌, ◌+◌, ◌<◌, [], length, get_or, refl, sym, subst, ◌∙◌, arith, false≢true, all_at, IsTie, AreFree, IsSpared, is_tied}
use Rattle.crn_check.proofs.InOrder.{AreDone, done_none, done_skip, done_some, done_next, done_fails, done_all}
use Rattle.crn_check.proofs.ties.check_ties.Goals as goal
use Rattle.crn_check.proofs.ties.check_ties.Goals.{then-is_tied+else-not-is_tie, else-is_tied}

pub loop-c-init : goal.loop-c-init
loop-c-init c = done_none (IsTie c.args.net.now c.args.labels.now c.args.count (IsSpared c.args.spared)) (is_tied c.args.spared) 0 (length c.args.net.now.complexes) c.args.first c.args.ties.now c.requires.ties.long

pub row-requires : goal.row-requires
row-requires c =
    let net = c.args.net.now in
    let H = IsTie net c.args.labels.now c.args.count (IsSpared c.args.spared) in
    let lt : c.loop-c.c < length net.complexes = omega (arith, c.loop-c-test.true, c.complexes-c-end.ensures.count) in
    done_some H (is_tied c.args.spared) 0 (length net.complexes) c.args.first c.args.ties.now c.loop-c.c c.loop-c.done c.loop-c.c c.loop-c.invariant lt (omega arith) (sym c.is_tied.ensures ∙ c.if-is_tied.true)

pub is_tie-requires-clause-tie : goal.is_tie-requires-clause-tie
is_tie-requires-clause-tie c =
    let net = c.args.net.now in
    let H = IsTie net c.args.labels.now c.args.count (IsSpared c.args.spared) in
    let lt : c.loop-c.c < length net.complexes = omega (arith, c.loop-c-test.true, c.complexes-c-end.ensures.count) in
    let some = done_some H (is_tied c.args.spared) 0 (length net.complexes) c.args.first c.args.ties.now c.loop-c.c c.loop-c.done c.loop-c.c c.loop-c.invariant lt (omega arith) (sym c.is_tied.ensures ∙ c.if-is_tied.true) in
    let w = length net.names + c.args.count in
    subst (AreFree w) (sym c.row.ensures) (all_at (AreFree w) c.args.ties.now c.loop-c.done [] c.requires.ties.each some)

pub returns-then-not-is_tie : goal.returns-then-not-is_tie
returns-then-not-is_tie c =
    let net = c.args.net.now in
    let H = IsTie net c.args.labels.now c.args.count (IsSpared c.args.spared) in
    let d = c.loop-c.c in
    let lt : d < length net.complexes = omega (arith, c.loop-c-test.true, c.complexes-c-end.ensures.count) in
    let fails = λ (h : H d (get_or c.args.ties.now c.loop-c.done [])). false≢true (sym c.if-not-is_tie.true ∙ c.is_tie.ensures.1 (subst (H d) (sym c.row.ensures) h)) in
    done_fails H (is_tied c.args.spared) 0 (length net.complexes) c.args.first c.args.ties.now d c.loop-c.done d (c.args.first + c.loop-c.done) c.loop-c.invariant lt (omega arith) (sym c.is_tied.ensures ∙ c.if-is_tied.true) fails refl

pub loop-c-preserved : goal.loop-c-preserved
loop-c-preserved c =
    let net = c.args.net.now in
    let H = IsTie net c.args.labels.now c.args.count (IsSpared c.args.spared) in
    let p = is_tied c.args.spared in
    let ties = c.args.ties.now in
    let n = length net.complexes in
    let d = c.loop-c.c in
    let lt : d < length net.complexes = omega (arith, c.loop-c-test.true, c.complexes-c-end.ensures.count) in
    elim c.if-is_tied.branch [
      | then-is_tied+else-not-is_tie w ↦ subst (AreDone H p 0 n c.args.first ties (d + 1)) (sym w.done-is) (done_next H p 0 n c.args.first ties d c.loop-c.done d c.loop-c.invariant lt (omega arith) (sym c.is_tied.ensures ∙ w.if-is_tied.true)
          (subst (H d) w.row.ensures (w.is_tie.ensures.0 w.if-not-is_tie.false)))
      | else-is_tied w ↦ subst (AreDone H p 0 n c.args.first ties (d + 1)) (sym w.done-is) (done_skip H p 0 n c.args.first ties d c.loop-c.done d c.loop-c.invariant lt (omega arith) (sym c.is_tied.ensures ∙ w.if-is_tied.false))
    ]

pub returns : goal.returns
returns c =
    let net = c.args.net.now in
    let H = IsTie net c.args.labels.now c.args.count (IsSpared c.args.spared) in
    let all : c.loop-c.c ≡ length net.complexes = omega (arith, c.complexes-c-end.ensures.count) in
    done_all H (is_tied c.args.spared) 0 (length net.complexes) c.args.first c.args.ties.now c.loop-c.c c.loop-c.done c.loop-c.invariant all
