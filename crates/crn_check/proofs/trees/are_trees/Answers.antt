use Rattle.crn_check.proofs.Prelude.{◌≡◌, ◌+◌, ◌<◌, inl, inr, length, sym, subst, arith, cases_lt, IsInTree}
use Rattle.crn_check.proofs.Numbering.{IsNumberedTo, first_new, numbered_old, numbered_next}
use Rattle.crn_check.proofs.trees.are_trees.Goals as goal
use Rattle.crn_check.proofs.trees.are_trees.Goals.{then-first, else-first}

pub is_in_tree-requires-clause-first : goal.is_in_tree-requires-clause-first
is_in_tree-requires-clause-first c =
    let lt : c.loop-c.c < length c.args.labels.now = omega (arith, c.loop-c-test.true, c.complexes-c-end.ensures.count, c.requires.labelled) in
    first_new c.args.labels.now c.loop-c.c c.loop-c.most c.requires.numbered.0 c.loop-c.invariant.numbered c.requires.numbered.1 lt

pub loop-c-preserved : goal.loop-c-preserved
loop-c-preserved c =
    let labels = c.args.labels.now in
    let i = c.loop-c.c in
    let h = c.loop-c.invariant.numbered in
    let lt : i < length labels = omega (arith, c.loop-c-test.true, c.complexes-c-end.ensures.count, c.requires.labelled) in
    record {
      numbered = elim c.if-first.branch [
        | then-first w ↦ subst (IsNumberedTo labels (i + 1)) (sym w.most-is) (numbered_next labels i c.loop-c.most c.requires.numbered.0 h c.requires.numbered.1 lt w.if-first.true)
        | else-first w ↦ subst (IsNumberedTo labels (i + 1)) (sym w.most-is) (numbered_old labels i c.loop-c.most h (c.requires.numbered.1.positive i lt) w.if-first.false)
      ];
      hang = λ d less. elim (cases_lt d i) [
        | inl before ↦ c.loop-c.invariant.hang d before
        | inr late ↦ let here : i ≡ d = omega arith in subst (IsInTree c.args.rule c.args.net.now labels c.args.names.now c.args.depth.now) here (c.is_in_tree.ensures.0 c.if-not-is_in_tree.false)
      ];
    }
