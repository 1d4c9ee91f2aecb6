use Rattle.crn_indep_text.proofs.Prelude.{◌≡◌, ◌-◌, ℕ, subst, arith, err_from_is_err_and, step_exits, asks_links, ReadsSeen}
use Rattle.crn_indep_text.proofs.AnswersRead.{split_stop, split_then, proof_counts}
use Rattle.crn_indep_text.proofs.verify.next_split.Goals as goal

pub returns-in_err-proof-clause-step : goal.returns-in_err-proof-clause-step
returns-in_err-proof-clause-step g c = λ head is.
    step_exits _ _ c.from_residual.result _ _ _ _ _ (err_from_is_err_and c.from_residual.result c.from_residual.ensures.1) (split_stop c.args.net.now head c.args.rank _ c.args.at.now _ _ is c.in_err-proof.ensures.step)

pub next_links-requires-clause-proof : goal.next_links-requires-clause-proof
next_links-requires-clause-proof g c =
    let s = c.in_ok-proof.ensures.step in
    (c.args.rank, c.requires.rank.0, c.requires.rank.1, c.requires.rank.2, s.1.1)

pub next_links-requires-clause-line : goal.next_links-requires-clause-line
next_links-requires-clause-line g c =
    let s = c.in_ok-proof.ensures.step in
    let n = proof_counts c.args.net.now c.args.rank c.in_ok-proof.proof s.1.1 in
    omega (arith, n.0, n.1, c.in_ok-proof.ensures.line, c.requires.some)

pub returns-clause-step : goal.returns-clause-step
returns-clause-step g c = λ head is.
    let s = c.in_ok-proof.ensures.step in
    let same : c.args.at.now.line - 1 ≡ head = omega (arith, is) in
    split_then c.args.net.now head c.args.rank c.in_ok-proof.proof s.0 c.next_links.result c.args.at.now c.next_proof.new.at c.next_links.new.at _ _ _ is s.1.0 s.2 s.3 c.in_ok-proof.ensures.line
    (subst (λ (n : ℕ). ReadsSeen (asks_links c.args.net.now n c.next_proof.new.at.line c.in_ok-proof.proof) c.next_links.result c.next_proof.new.at c.next_links.new.at (g.S.Source.seen c.next_proof.new.source) (g.S.Source.seen c.next_links.new.source)) same c.next_links.ensures.step)
