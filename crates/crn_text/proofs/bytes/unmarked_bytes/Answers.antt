use Rattle.crn_text.proofs.Prelude.{◌≡◌, true, sym, ◌∙◌, arith, list_all, prefix_len-le-length, is_unmarked}
use Rattle.crn_text.proofs.Runs.{passed_more}
use Rattle.crn_text.proofs.bytes.unmarked_bytes.Goals as goal

pub blocks-2-preserved : goal.blocks-2-preserved
blocks-2-preserved c =
    let all : list_all is_unmarked c.split_at.result.0.now ≡ true = sym c.are_unmarked.ensures ∙ c.if-not-are_unmarked.false in
    passed_more is_unmarked 64 c.args.text.now c.blocks-2.left.now c.split_at.result.0.now c.split_at.result.1.now c.blocks-2.invariant (omega arith) c.split_at.ensures.front c.split_at.ensures.back all

pub overflow_sub-result : goal.overflow_sub-result
overflow_sub-result c = omega (arith, c.near_unmarked_bytes.ensures, prefix_len-le-length is_unmarked c.blocks-2.left.now)

pub returns : goal.returns
returns c = omega (arith, c.near_unmarked_bytes.ensures, prefix_len-le-length is_unmarked c.blocks-2.left.now, c.blocks-2.invariant.same, c.blocks-2.invariant.inside)
