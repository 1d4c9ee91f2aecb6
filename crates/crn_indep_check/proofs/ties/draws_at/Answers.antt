use Rattle.crn_indep_check.proofs.Prelude.{◌≡◌, Bool, true, false, get_or, refl, not_true}
use Rattle.std.proofs.Common.{not}
use Rattle.crn_indep_check.proofs.Outside.{drawn_by, drawn_at}
use Rattle.crn_indep_check.proofs.ties.draws_at.Goals as goal

flipped : (b : Bool) → (b ≡ true → ⊥) → not b ≡ true
flipped true h = absurd (h refl)
flipped false h = refl

pub returns : goal.returns
returns c =
    let net = c.args.net.now in
    let proof = c.args.proof.now in
    let r = c.args.r in
    let place = c.args.place in
    let q = get_or proof.base.list place 0 in
    let s = c.requires.row in
    let v = c.row.result.now in (
      λ yes. drawn_by net proof r q c.args.row place v s.0 s.2 c.row.ensures c.requires.inside refl (λ z. not_true c.is_nought.result yes (c.is_nought.ensures.1 z)),
      λ t. flipped c.is_nought.result (λ yes. drawn_at net proof r q c.args.row place v c.requires.form s.2 c.row.ensures c.requires.inside refl t (c.is_nought.ensures.0 yes)),
    )
