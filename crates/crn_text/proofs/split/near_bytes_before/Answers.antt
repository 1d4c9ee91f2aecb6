use Rattle.crn_text.proofs.Prelude.{◌≡◌, ℕ, cond, eqb, length, take, inl, inr, refl, ap, ◌∙◌, arith, w8, cases_Bool, eqb-true, length-take-le, bitmask_splat, first_set_mask_l}
use lib.Count.{count_trailing_zeros}
use Rattle.crn_text.proofs.split.near_bytes_before.Goals as goal

-- no bit is set in 0
none_set : (m : ℕ) → count_trailing_zeros 64 m ≡ cond (eqb m 0) 64 (count_trailing_zeros 64 m)
unfolding count_trailing_zeros
none_set m =
    elim (cases_Bool (eqb m 0)) [
      | inl hit ↦ let is : m ≡ 0 = eqb-true m 0 hit in rw is refl
      | inr miss ↦ rw miss refl
    ]

pub returns : goal.returns
returns c =
    let text = c.args.text.now in
    let byte = c.args.byte in
    let long : length (take 64 text) ≡ 64 = length-take-le 64 text c.requires in
    ap (count_trailing_zeros 64) (bitmask_splat w8 eqb (take 64 text) 64 byte long (omega arith))
    ∙ none_set _ ∙ first_set_mask_l (λ b. eqb b byte) (take 64 text) 64 long (omega arith)
