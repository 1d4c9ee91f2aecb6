use Rattle.crn_tab.proofs.Prelude.{◌+◌, sym, subst, ap, ◌∙◌, arith, List, ℕ, false≢true, KeptNums}
use Rattle.crn_tab.proofs.Numbers.{NumberedBelow, none_yet, one_more, none_more, numbered_all}
use Rattle.crn_tab.proofs.basis_after.numbers_after.Goals as goal
use Rattle.crn_tab.proofs.basis_after.numbers_after.Goals.{then-is_next+in_ok-push, else-is_next}

pub loop-k-init : goal.loop-k-init
loop-k-init c = subst (λ (l : List ℕ). NumberedBelow c.args.tableau.now.basis c.args.leave c.args.enter 0 l) (sym c.in_ok-made.ensures.empty) (none_yet c.args.tableau.now.basis c.args.leave c.args.enter)

pub loop-k-preserved : goal.loop-k-preserved
loop-k-preserved c = elim c.if-is_next.branch [
  | then-is_next+in_ok-push w ↦ one_more c.args.tableau.now.basis c.args.leave c.args.enter c.loop-k.k c.loop-k.made.list c.if-is_next.made.list c.loop-k.invariant (c.is_next.ensures.0 w.if-is_next.true)
      (ap (λ (m : KeptNums). m.list) w.made-is ∙ w.in_ok-push.ensures.ok)
  | else-is_next w ↦ subst (λ (m : KeptNums). NumberedBelow c.args.tableau.now.basis c.args.leave c.args.enter (c.loop-k.k + 1) m.list) (sym w.made-is)
      (none_more c.args.tableau.now.basis c.args.leave c.args.enter c.loop-k.k c.loop-k.made.list c.loop-k.invariant (λ h. false≢true (sym w.if-is_next.false ∙ c.is_next.ensures.1 h)))
]

pub returns : goal.returns
returns c = numbered_all c.args.tableau.now.matrix c.args.tableau.now.basis c.args.leave c.args.enter c.loop-k.k c.loop-k.made.list c.names_rows.ensures c.requires.inside (omega (arith, c.requires.count)) c.loop-k.invariant
