use Rattle.crn_document.proofs.Prelude.{◌≡◌, ◌==◌, ◌+◌, ◌-◌, ◌∙◌, take, get_or, length, ℕ, sym, ap, arith, eqb-true}
use Rattle.crn_document.proofs.Digits.{split_last, some_digit, one_digit, one_digit_only, last_digit, digits_before, digits_after}
use Rattle.crn_document.proofs.quick.+spells.Goals as goal

pub returns-then-last-number : goal.returns-then-last-number
returns-then-last-number t c =
    let ds = c.args.digits.now in
    let k : ℕ = length ds - 1 in
    let is = split_last ds k (omega (arith, c.in-len1-up.len_at_least)) in
    (λ e. absurd cc, λ e. absurd (c.if-last-number.true (last_digit ds (take k ds) (get_or ds k 0) c.args.number c.ranges.number.fits is e)))

pub returns-then-number-lt10 : goal.returns-then-number-lt10
returns-then-number-lt10 t c =
    let ds = c.args.digits.now in
    let k : ℕ = length ds - 1 in
    let is = split_last ds k (omega (arith, c.in-len1-up.len_at_least)) in
    let last : get_or ds k 0 ≡ 48 + c.args.number = omega (arith, c.if-last-number.false, c.if-number-lt10.true) in (
      (λ e. one_digit ds (take k ds) (get_or ds k 0) c.args.number c.if-number-lt10.true is last (eqb-true (length (take k ds)) 0 (sym c.is_empty.ensures ∙ e))),
      (λ e. c.is_empty.ensures ∙ ap (λ (n : ℕ). n == 0) (one_digit_only ds (take k ds) (get_or ds k 0) c.args.number c.if-number-lt10.true is e)),
    )

pub returns-in-empty : goal.returns-in-empty
returns-in-empty t c = (λ e. absurd cc, λ e. absurd (some_digit c.args.digits.now c.args.number c.ranges.number.fits (omega (arith, c.in-empty.len_below)) e))

pub returns-else-number-lt10 : goal.returns-else-number-lt10
returns-else-number-lt10 t c =
    let ds = c.args.digits.now in
    let k : ℕ = length ds - 1 in
    let is = split_last ds k (omega (arith, c.in-len1-up.len_at_least)) in
    let more = c.if-number-lt10.false in (
      (λ e. digits_after ds (take k ds) (get_or ds k 0) c.args.number more c.ranges.number.fits is c.if-last-number.false (c.spells.ensures.0 e)),
      (λ e. c.spells.ensures.1 (digits_before ds (take k ds) (get_or ds k 0) c.args.number more c.ranges.number.fits is e)),
    )
