use Rattle.crn_ctext.proofs.Prelude.{sym, ◌∙◌, arith, nat_tests}
use Rattle.crn_ctext.proofs.LineTries.{other_first, is_after, empty_tail, space_tail}
use Rattle.crn_ctext.proofs.record_try.after.Goals as goal

pub returns-then-not-are_same : goal.returns-then-not-are_same
returns-then-not-are_same c = λ rest t e. other_first c.args.bytes.now c.args.first.now (λ is. let h = c.are_same.ensures.1 (c.split_at.ensures.front ∙ is) in let f = c.if-not-are_same.true in cc) rest e

pub returns-then-is_empty : goal.returns-then-is_empty
returns-then-is_empty c = (
  is_after c.args.bytes.now c.args.first.now c.split_at.result.1.now (sym c.split_at.ensures.front ∙ c.are_same.ensures.0 c.if-not-are_same.false) c.split_at.ensures.back,
  empty_tail c.split_at.result.1.now (grind (arith, nat_tests, c.if-is_empty.ensures)),
)

pub returns : goal.returns
returns c = (
  is_after c.args.bytes.now c.args.first.now c.split_at.result.1.now (sym c.split_at.ensures.front ∙ c.are_same.ensures.0 c.if-not-are_same.false) c.split_at.ensures.back,
  space_tail c.split_at.result.1.now (grind (arith, nat_tests, c.if-is_empty.ensures)) c.if-rest-ne32.false,
)
