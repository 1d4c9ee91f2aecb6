use Rattle.crn_run.proofs.Outputs.{proof_broken, proof_gives, proof_of}
use Rattle.crn_run.proofs.Prelude.{Decomposition}
use Rattle.crn_run.proofs.parts.prove_parts.Goals as goal

pub write_parts-requires : goal.write_parts-requires
write_parts-requires g c = let is = c.in-Ok.ensures in is.formed

pub returns-in-Ok-write_parts : goal.returns-in-Ok-write_parts
returns-in-Ok-write_parts g c = λ budget text spells.
    let is = c.in-Ok.ensures in
    let formed = is.formed in
    let valid = is.valid in
    let network = spells.network in
    proof_gives Decomposition budget c.status_by-whole.result text _ _ _
    (proof_of Decomposition budget _ _ text _ _ _ spells is.true_of is.licensed
    (c.written_documents_on_decompositions_are_good.ensures _ _ network formed valid)
    c.is_open.ensures.0 c.is_open.ensures.1 c.status_by-whole.ensures) c.in-Ok-write_parts.ensures.all

pub returns : goal.returns
returns g c = λ budget text spells.
    let is = c.in-Ok.ensures in
    let formed = is.formed in
    let valid = is.valid in
    let network = spells.network in
    proof_broken Decomposition budget c.status_by-whole.result text _ _ _
    (proof_of Decomposition budget _ _ text _ _ _ spells is.true_of is.licensed
    (c.written_documents_on_decompositions_are_good.ensures _ _ network formed valid)
    c.is_open.ensures.0 c.is_open.ensures.1 c.status_by-whole.ensures) c.in-Err-write_parts.ensures.prefix
