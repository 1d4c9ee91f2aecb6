use Rattle.crn_defi.proofs.Prelude.{◌+◌, ◌∷◌, ◌++◌, [], List, ℕ, ap, sym, ◌∙◌}
use Rattle.crn_defi.proofs.Places.{before_yes, before_no}
use Rattle.crn_defi.proofs.classes.reactions_of.Goals as goal
use Rattle.crn_defi.proofs.classes.reactions_of.Goals.{then-label-reactant+in_ok-push, else-label-reactant}

pub loop-r-preserved : goal.loop-r-preserved
loop-r-preserved c =
    let net = c.args.net.now in
    let labels = c.args.label.now in
    let k = c.args.class in
    let r = c.loop-r.r in
    elim c.if-label-reactant.branch [
      | then-label-reactant+in_ok-push w ↦
          rw w.members-is (w.in_ok-push.ensures.items ∙ ap (λ (l : List ℕ). l ++ (r + 1) ∷ []) c.loop-r.invariant ∙ sym (before_yes net labels k r c.reactant.result c.reactant.ensures.value w.if-label-reactant.true))
      | else-label-reactant w ↦
          rw w.members-is (c.loop-r.invariant ∙ sym (before_no net labels k r c.reactant.result c.reactant.ensures.value w.if-label-reactant.false))
    ]
