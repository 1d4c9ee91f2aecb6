use Rattle.crn_net.proofs.Prelude.{◌≡◌, ℕ, List, refl, ap, ◌∙◌, arith, pos, ◌-ℤ◌, ints, amount_in, side_of, sum_in, Share}
use Rattle.crn_net.proofs.Sums.{numbers_most}
use Rattle.crn_net.proofs.side_sums.says_same.Goals as goal

pub returns-then-are_alike : goal.returns-then-are_alike
returns-then-are_alike c = (
  λ yes' name. ap (λ (s : List (List ℕ × ℕ)). amount_in s name) (c.are_alike.ensures c.if-are_alike.true),
  λ h. refl,
)

pub merged-requires-clause-left : goal.merged-requires-clause-left
merged-requires-clause-left c = numbers_most c.args.text.now c.args.left.now c.requires.left.amounts

pub merged-requires-clause-right : goal.merged-requires-clause-right
merged-requires-clause-right c = numbers_most c.args.text.now c.args.right.now c.requires.right.amounts

pub returns : goal.returns
returns c =
    let text = c.args.text.now in
    let sum : (name : List ℕ) → sum_in text c.deref-2.result.now name ≡ pos (amount_in (side_of text c.args.left.now) name) -ℤ pos (amount_in (side_of text c.args.right.now) name) = λ name.
    ap (λ (xs : List Share). sum_in text xs name) c.deref-2.ensures.value
    ∙ c.by_name-shares.ensures.sums name
    ∙ c.in_ok-some.ensures.sums text name
    ∙ ap (λ (xs : List Share). sum_in text xs name) c.deref.ensures.value
    ∙ c.in_ok-all.ensures.sums name in (
      λ yes' name. let is = sum name in let within = c.sums_lie_within.ensures.0 yes' name in omega (arith, ints, is, within),
      λ h. c.sums_lie_within.ensures.1 (λ name. let is = sum name in let e = h name in (omega (arith, ints, is, e), omega (arith, ints, is, e))),
    )
