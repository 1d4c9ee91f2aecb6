use Rattle.crn_text.proofs.Prelude.{eqb, ◌∙◌, arith, not, prefix_len-le-length}
use Rattle.crn_text.proofs.Runs.{run_near, run_far}
use Rattle.crn_text.proofs.split.bytes_before.Goals as goal

pub returns-then-near-lt-NEAR : goal.returns-then-near-lt-NEAR
returns-then-near-lt-NEAR c =
    let near = c.near_bytes_before-near.ensures in
    let ends = c.if-near-lt-NEAR.true in
    near ∙ run_near (λ b. not (eqb b c.args.byte)) 64 c.args.text.now c.if-text-lt-NEAR.false (rw (← near) ends)

pub overflow_add-result : goal.overflow_add-result
overflow_add-result c = omega (arith, c.far_bytes_before-2.ensures, prefix_len-le-length (λ b. not (eqb b c.args.byte)) c.split_at.result.1.now, c.split_at.ensures.back_len)

pub returns : goal.returns
returns c =
    let near = c.near_bytes_before-near.ensures in
    let goes = c.if-near-lt-NEAR.false in
    rw (c.far_bytes_before-2.ensures, c.split_at.ensures.back) (run_far (λ b. not (eqb b c.args.byte)) 64 c.args.text.now c.if-text-lt-NEAR.false (rw (← near) goes))
