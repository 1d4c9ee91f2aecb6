use Rattle.crn_run.proofs.Outputs.{proof_broken, proof_gives, proof_of}
use Rattle.crn_run.proofs.Robustness.{blocks_formed, blocks_valid, rank_licensed, robustness_true}
use Rattle.crn_run.proofs.Prelude.{Robust}
use Rattle.crn_run.proofs.parts.prove_robust.Goals as goal

pub case_by-robust-requires-clause-formed : goal.case_by-robust-requires-clause-formed
case_by-robust-requires-clause-formed g c = blocks_formed _ 1 _ (c.in-Ok.ensures 1)

pub case_by-robust-requires-clause-valid : goal.case_by-robust-requires-clause-valid
case_by-robust-requires-clause-valid g c = blocks_valid _ 1 _ (c.in-Ok.ensures 1)

pub write_robust-requires : goal.write_robust-requires
write_robust-requires g c = blocks_formed _ 1 _ (c.in-Ok.ensures 1)

pub returns-in-Ok-write_robust : goal.returns-in-Ok-write_robust
returns-in-Ok-write_robust g c = λ budget text spells.
    let network = spells.network in
    let laws = c.valid_answers_on_robustness_are_true.ensures in
    let document = c.written_documents_on_robustness_are_good.ensures _ _ _ network (blocks_formed _ budget _ (c.in-Ok.ensures budget)) (blocks_valid _ budget _ (c.in-Ok.ensures budget)) c.case_by-robust.ensures in
    proof_gives Robust budget c.status_by-whole.result text _ _ _
    (proof_of Robust budget _ _ text _ _ _ spells (robustness_true _ _ c.cases_decide_robustness.ensures laws.cases laws.lines network document.valid) (rank_licensed _ budget _ c.case_by-robust.result network (c.in-Ok.ensures budget))
    document c.rests.ensures.0 c.rests.ensures.1 c.status_by-whole.ensures) c.in-Ok-write_robust.ensures.all

pub returns : goal.returns
returns g c = λ budget text spells.
    let network = spells.network in
    let laws = c.valid_answers_on_robustness_are_true.ensures in
    let document = c.written_documents_on_robustness_are_good.ensures _ _ _ network (blocks_formed _ budget _ (c.in-Ok.ensures budget)) (blocks_valid _ budget _ (c.in-Ok.ensures budget)) c.case_by-robust.ensures in
    proof_broken Robust budget c.status_by-whole.result text _ _ _
    (proof_of Robust budget _ _ text _ _ _ spells (robustness_true _ _ c.cases_decide_robustness.ensures laws.cases laws.lines network document.valid) (rank_licensed _ budget _ c.case_by-robust.result network (c.in-Ok.ensures budget))
    document c.rests.ensures.0 c.rests.ensures.1 c.status_by-whole.ensures) c.in-Err-write_robust.ensures.prefix
