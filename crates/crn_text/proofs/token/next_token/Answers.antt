use Rattle.crn_text.proofs.Prelude.{sym, ◌∙◌, eqb-true, prefix_len-le-length}
use Rattle.crn_text.proofs.Tokens.{takes_none, takes_token}
use Rattle.crn_text.proofs.token.next_token.Goals as goal

pub split_at-requires : goal.split_at-requires
split_at-requires c = rw c.blanks.ensures (prefix_len-le-length _ c.args.text.now)

pub returns-then-is_empty : goal.returns-then-is_empty
returns-then-is_empty c = takes_none c.args.text.now c.blanks.result c.blanks.ensures (rw c.split_at.ensures.back at (eqb-true _ _ (sym c.is_empty.ensures ∙ c.if-is_empty.true)))

pub returns : goal.returns
returns c = takes_token c.args.text.now c.blanks.result _ _ _ _ c.blanks.ensures (rw c.split_at.ensures.back at c.first_token-kind.ensures) (rw c.split_at.ensures.back at c.split_at-2.ensures.front) (rw c.split_at.ensures.back at c.split_at-2.ensures.back)
