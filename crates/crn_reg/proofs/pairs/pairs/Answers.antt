use Rattle.crn_reg.proofs.Prelude.{◌≡◌, ◌+◌, ◌∷◌, ◌++◌, [], List, ℕ, length, ap, sym, subst, ◌∙◌, arith, ArePairs, from_zero, pairs_to, pairs_yes, pairs_no}
use Rattle.crn_reg.proofs.RegularAnswers.{pairs_are}
use Rattle.crn_reg.proofs.pairs.pairs.Goals as goal
use Rattle.crn_reg.proofs.pairs.pairs.Goals.{then-is_pair+in_ok-push, else-is_pair}

pub loop-r-preserved : goal.loop-r-preserved
loop-r-preserved c =
    let net = c.args.net.now in
    let labels = c.args.strong.now.label.list in
    let exits = c.args.strong.now.exit.list in
    let r = c.loop-r.r in
    let says = rw (c.as_slice-labels.ensures, c.as_slice-exits.ensures) at c.is_pair.ensures in
    elim c.if-is_pair.branch [
      | then-is_pair+in_ok-push w ↦
          rw w.pairs-is (w.in_ok-push.ensures.items ∙ ap (λ (l : List ℕ). l ++ (r + 1) ∷ []) c.loop-r.invariant ∙ sym (pairs_yes net labels exits r (sym says ∙ w.if-is_pair.true)))
      | else-is_pair w ↦
          rw w.pairs-is (c.loop-r.invariant ∙ sym (pairs_no net labels exits r (sym says ∙ w.if-is_pair.false)))
    ]

pub returns-clause-pairs : goal.returns-clause-pairs
returns-clause-pairs c =
    let net = c.args.net.now in
    let s = c.args.strong.now in
    let n : length net.reactions ≡ c.loop-r.r = omega (arith, c.reactions-r-end.ensures.count, c.loop-r-test.false, c.loop-r.auto.r-end) in
    let list : c.loop-r.pairs.items ≡ pairs_to net s.label.list s.exit.list (length net.reactions) = c.loop-r.invariant ∙ ap (pairs_to net s.label.list s.exit.list) (sym n) in
    subst (λ (ps : List ℕ). ArePairs net.reactions (from_zero ps)) (sym list) (pairs_are net s.count s.terminal s.label.list s.exit.list c.meets_definition.ensures c.requires)
