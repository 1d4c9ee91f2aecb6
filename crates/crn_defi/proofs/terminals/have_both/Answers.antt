use Rattle.crn_defi.proofs.Prelude.{◌≡◌, ◌==◌, Bool, false, length, get_or, sym, ap, ◌∙◌, arith, list_any, range_with_len, eqb-true, eq-eqb, is_in_both, in_range, range_more, and_true, any_has, any_push, and_no}
use Rattle.crn_defi.proofs.terminals.have_both.Goals as goal
use Rattle.crn_defi.proofs.terminals.have_both.Goals.{else-strong-c-via-then-strong-c+else-linkage-c, else-strong-c-via-else-strong-c}

pub returns-then-linkage-c : goal.returns-then-linkage-c
returns-then-linkage-c c =
    let strong = c.args.strong.now in
    let linkage = c.args.linkage.now in
    let at = c.loop-c.c in
    let p = is_in_both strong linkage c.args.m c.args.k in
    let n = length strong in
    sym (any_has p (range_with_len 0 n) at (in_range at 0 n (omega arith) (omega (arith, c.loop-c-test.true)))
    (and_true (get_or strong at 0 == c.args.m) (get_or linkage at 0 == c.args.k) (eq-eqb (get_or strong at 0) c.args.m c.if-strong-c.true) (eq-eqb (get_or linkage at 0) c.args.k c.if-linkage-c.true)))

pub loop-c-preserved : goal.loop-c-preserved
loop-c-preserved c =
    let strong = c.args.strong.now in
    let linkage = c.args.linkage.now in
    let at = c.loop-c.c in
    let p = is_in_both strong linkage c.args.m c.args.k in
    let a : Bool = get_or strong at 0 == c.args.m in
    let b : Bool = get_or linkage at 0 == c.args.k in
    let miss : p at ≡ false = elim c.else-strong-c.branch as (λ _. p at ≡ false) [
      | else-strong-c-via-then-strong-c+else-linkage-c w ↦ and_no a b (λ e f. w.if-linkage-c.false (eqb-true (get_or linkage at 0) c.args.k f))
      | else-strong-c-via-else-strong-c w ↦ and_no a b (λ e f. w.if-strong-c.false (eqb-true (get_or strong at 0) c.args.m e))
    ] in
    ap (list_any p) (range_more 0 at at (omega arith)) ∙ any_push p (range_with_len 0 at) at c.loop-c.invariant miss
