use Rattle.crn_siphon.proofs.Prelude.{◌≡◌, ◌∙◌, ℕ, ℤ, ap, ◌+ℤ◌, entry, rules, FitsSigned, to_z-of_z, w128, change_at, part_at}
use Rattle.crn_siphon.proofs.ChangeLaws.{entry_done, entry_rest}
use Rattle.crn_siphon.proofs.changes.changes_of.Goals as goal

pub loop-species-preserved : goal.loop-species-preserved
loop-species-preserved c =
    let v = c.args.vector.now in
    let before = c.loop-species.list.items in
    let after = c.put_change.new.list.items in
    let k = c.loop-species.species in
    let fits : FitsSigned w128 (entry v k) = search rules in
    let put = c.in_ok-put_change.ensures in
    let more : (s : ℕ) → change_at after s ≡ change_at before s +ℤ part_at k (entry v k) s = λ s. put s ∙ ap (λ (x : ℤ). change_at before s +ℤ part_at k x s) (to_z-of_z w128 (entry v k) fits) in
    record {
      done = entry_done v before after k more c.loop-species.invariant.done c.loop-species.invariant.rest;
      rest = entry_rest v before after k more c.loop-species.invariant.rest;
    }
