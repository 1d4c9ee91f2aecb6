use Rattle.crn_run.proofs.Endotactic.{endotactic_documented}
use Rattle.crn_run.proofs.Outputs.{proof_broken, proof_gives, proof_of}
use Rattle.crn_run.proofs.Prelude.{Endo}
use Rattle.crn_run.proofs.parts.prove_endo.Goals as goal

pub write_endo-requires : goal.write_endo-requires
write_endo-requires g c = let is = c.in-Ok.ensures in is.formed

pub returns-in-Ok-write_endo : goal.returns-in-Ok-write_endo
returns-in-Ok-write_endo g c = λ text spells.
    let is = c.in-Ok.ensures in
    let network = spells.network in
    let valid = is.valid in
    proof_gives Endo c.args.budget c.status_by-whole.result text _ _ _
    (proof_of Endo c.args.budget _ _ text _ _ _ spells (c.valid_answers_on_endotactic_networks_are_true.ensures _ _ network valid) (is.sized, is.licensed)
    (endotactic_documented _ c.args.budget _ network c.requires.most is c.written_documents_on_endotactic_networks_are_good.ensures)
    c.is_left_open.ensures.0 c.is_left_open.ensures.1 c.status_by-whole.ensures) c.in-Ok-write_endo.ensures.all

pub returns : goal.returns
returns g c = λ text spells.
    let is = c.in-Ok.ensures in
    let network = spells.network in
    let valid = is.valid in
    proof_broken Endo c.args.budget c.status_by-whole.result text _ _ _
    (proof_of Endo c.args.budget _ _ text _ _ _ spells (c.valid_answers_on_endotactic_networks_are_true.ensures _ _ network valid) (is.sized, is.licensed)
    (endotactic_documented _ c.args.budget _ network c.requires.most is c.written_documents_on_endotactic_networks_are_good.ensures)
    c.is_left_open.ensures.0 c.is_left_open.ensures.1 c.status_by-whole.ensures) c.in-Err-write_endo.ensures.prefix
