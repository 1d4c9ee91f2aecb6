use Rattle.crn_siphon.proofs.Prelude.{ap, sym, ◌∙◌, List, ℤ, ◌+ℤ◌, rules, FitsSigned, to_z-of_z, w128, change_at, part_at, Change}
use Rattle.crn_siphon.proofs.ChangeLaws.{part_none, change_push}
use Rattle.crn_siphon.proofs.changes.put_change.Goals as goal

pub returns-then-is_nought : goal.returns-then-is_nought
returns-then-is_nought c = λ s.
    let fits : FitsSigned w128 c.args.by = search rules in
    part_none (change_at c.args.list.now.items s) c.args.species c.args.by s (sym (to_z-of_z w128 c.args.by fits) ∙ c.is_nought.ensures.0 c.if-is_nought.true)

pub returns : goal.returns
returns c = λ s.
    let fits : FitsSigned w128 c.args.by = search rules in
    let before = c.args.list.now.items in
    ap (λ (l : List Change). change_at l s) c.in_ok-push.ensures.items ∙ change_push before _ s ∙ ap (λ (v : ℤ). change_at before s +ℤ part_at c.args.species v s) (to_z-of_z w128 c.args.by fits)
