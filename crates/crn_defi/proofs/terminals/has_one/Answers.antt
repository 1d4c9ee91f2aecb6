use Rattle.crn_defi.proofs.Prelude.{◌≡◌, ◌≢◌, ◌+◌, ◌==◌, ℕ, true, not, sym, ap, subst, ◌∙◌, eq-eqb, false≢true}
use Rattle.crn_defi.proofs.OneTerminal.{IsOnly, none_yet, passed_over, one_more, counts_one}
use Rattle.crn_defi.proofs.terminals.has_one.Goals as goal
use Rattle.crn_defi.proofs.terminals.has_one.Goals.{then-here-ne0+else-own-ne0, else-own-ne0-via-then-own-ne0+else-own-here, else-own-ne0-via-else-own-ne0, else-here-ne0}

pub loop-c-init : goal.loop-c-init
loop-c-init c = none_yet c.args.strong.now c.args.exit.now c.args.linkage.now c.args.k

pub loop-c-preserved : goal.loop-c-preserved
loop-c-preserved c =
    let labels = c.args.strong.now in
    let exits = c.args.exit.now in
    let links = c.args.linkage.now in
    let k = c.args.k in
    let at = c.loop-c.c in
    let own = c.loop-c.own in
    let here = c.terminal_class-here.result in
    let P : ℕ → Type 0 = IsOnly labels exits links k (at + 1) in
    elim c.if-here-ne0.branch [
      | then-here-ne0+else-own-ne0 w ↦
          let same : own ≢ 0 → own ≡ here = elim w.else-own-ne0.branch as (λ _. own ≢ 0 → own ≡ here) [
            | else-own-ne0-via-then-own-ne0+else-own-here v ↦ λ ne. v.if-own-here.false
            | else-own-ne0-via-else-own-ne0 v ↦ λ ne. absurd (ne v.if-own-ne0.false)
          ] in
          subst P (sym w.own-is) (one_more labels exits links k at own here c.requires.labels c.loop-c.invariant same c.loop-c-test.true (c.terminal_class-here.ensures.own w.if-here-ne0.true) (c.terminal_class-here.ensures.is w.if-here-ne0.true))
      | else-here-ne0 w ↦ subst P (sym w.own-is) (passed_over labels exits links k at own c.loop-c.invariant (c.terminal_class-here.ensures.none w.if-here-ne0.false))
    ]

pub returns : goal.returns
returns c = λ h.
    let own = c.loop-c.own in
    let ne : own ≢ 0 = λ e. (let t : (own == 0) ≡ true = eq-eqb own 0 e in false≢true (sym (ap not t) ∙ h)) in
    counts_one c.args.strong.now c.args.exit.now c.args.linkage.now c.args.k c.loop-c.c own c.requires.labels c.loop-c.invariant c.loop-c-test.false ne
