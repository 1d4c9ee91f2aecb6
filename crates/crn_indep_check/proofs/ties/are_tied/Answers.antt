use Rattle.crn_indep_check.proofs.Prelude.{◌≡◌, true, ℕ, inl, inr, sym, subst, refused, DrawsOn}
use Rattle.crn_indep_check.proofs.Outside.{member_draws_not, outside_not_drawn}
use Rattle.crn_indep_check.proofs.ties.are_tied.Goals as goal

pub returns-in-Err-Ok : goal.returns-in-Err-Ok
returns-in-Err-Ok c =
    let net = c.args.net.now in
    let proof = c.args.proof.now in
    let r = c.args.r in
    let q = c.args.q in
    let at = c.in-Err-Ok.ensures' in (
      λ yes. inl (subst (λ (k : ℕ). DrawsOn net proof r k) at.1 (c.draws_at.ensures.0 yes)),
      λ t. elim t as (λ _. c.draws_at.result ≡ true) [
        | inl d ↦ c.draws_at.ensures.1 (subst (λ (k : ℕ). DrawsOn net proof r k) (sym at.1) d)
        | inr d ↦ absurd (member_draws_not net proof q r c.in-Err-Ok.place at.0 at.1 d)
      ],
    )

pub returns-in-Ok-Err : goal.returns-in-Ok-Err
returns-in-Ok-Err c =
    let net = c.args.net.now in
    let proof = c.args.proof.now in
    let r = c.args.r in
    let q = c.args.q in
    let at = c.in-Ok-Err.ensures in (
      λ yes. inr (subst (λ (k : ℕ). DrawsOn net proof q k) at.1 (c.draws_at-in-Ok-Err.ensures.0 yes)),
      λ t. elim t as (λ _. c.draws_at-in-Ok-Err.result ≡ true) [
        | inl d ↦ absurd (member_draws_not net proof r q c.in-Ok-Err.place at.0 at.1 d)
        | inr d ↦ c.draws_at-in-Ok-Err.ensures.1 (subst (λ (k : ℕ). DrawsOn net proof q k) (sym at.1) d)
      ],
    )

pub returns-in_default : goal.returns-in_default
returns-in_default c =
    let net = c.args.net.now in
    let proof = c.args.proof.now in
    refused (λ t. elim t as (λ _. ⊥) [
      | inl d ↦ outside_not_drawn net proof c.args.r c.args.q c.in_default.ensures'.0 d
      | inr d ↦ outside_not_drawn net proof c.args.q c.args.r c.in_default.ensures.0 d
    ])

pub returns-in_default-2 : goal.returns-in_default-2
returns-in_default-2 c =
    let net = c.args.net.now in
    let proof = c.args.proof.now in
    let one = c.in_default.ensures in
    let other = c.in_default.ensures' in
    refused (λ t. elim t as (λ _. ⊥) [
      | inl d ↦ member_draws_not net proof c.args.r c.args.q c.in_default.field-0-0 one.0 one.1 d
      | inr d ↦ member_draws_not net proof c.args.q c.args.r c.in_default.field-0-1 other.0 other.1 d
    ])
