use Rattle.crn_text.proofs.Prelude.{ℕ, ◌==◌, sym, ap, ◌∙◌, arith, min, list_all, digits_value, LARGE}
use Rattle.crn_text.proofs.Numbers.{number_large, number_small}
use Rattle.crn_text.proofs.side.number.Goals as goal

pub returns-then-not-are_zeros : goal.returns-then-not-are_zeros
returns-then-not-are_zeros c = number_large c.args.digits.now c.saturating_sub.result (omega (arith, c.saturating_sub.ensures)) c.requires (ap (list_all (λ d. d == 48)) (sym c.split_at.ensures.front) ∙ sym c.are_zeros.ensures ∙ c.if-not-are_zeros.true)

pub returns : goal.returns
returns c =
    let small = number_small c.args.digits.now c.saturating_sub.result (ap (list_all (λ d. d == 48)) (sym c.split_at.ensures.front) ∙ sym c.are_zeros.ensures ∙ c.if-not-are_zeros.false) in
    c.small_number.ensures ∙ ap (λ (n : ℕ). min n LARGE) (ap (digits_value 10) c.split_at.ensures.back ∙ small)
