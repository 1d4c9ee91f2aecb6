use Rattle.crn_run.proofs.Persistence.{persistence_documented}
use Rattle.crn_run.proofs.Outputs.{proof_broken, proof_gives, proof_of}
use Rattle.crn_run.proofs.Prelude.{Persist}
use Rattle.crn_run.proofs.parts.prove_persist.Goals as goal

pub write_persist-requires : goal.write_persist-requires
write_persist-requires g c = let is = c.in-Ok.ensures in is.formed

pub returns-in-Ok-write_persist : goal.returns-in-Ok-write_persist
returns-in-Ok-write_persist g c = λ text spells.
    let is = c.in-Ok.ensures in
    proof_gives Persist c.args.budget c.status_by-whole.result text _ _ _
    (proof_of Persist c.args.budget _ _ text _ _ _ spells is.true_of is.licensed
    (persistence_documented _ c.args.budget _ spells.network c.requires.most is c.written_documents_on_persistence_are_good.ensures)
    c.is_undecided.ensures.0 c.is_undecided.ensures.1 c.status_by-whole.ensures) c.in-Ok-write_persist.ensures.all

pub returns : goal.returns
returns g c = λ text spells.
    let is = c.in-Ok.ensures in
    proof_broken Persist c.args.budget c.status_by-whole.result text _ _ _
    (proof_of Persist c.args.budget _ _ text _ _ _ spells is.true_of is.licensed
    (persistence_documented _ c.args.budget _ spells.network c.requires.most is c.written_documents_on_persistence_are_good.ensures)
    c.is_undecided.ensures.0 c.is_undecided.ensures.1 c.status_by-whole.ensures) c.in-Err-write_persist.ensures.prefix
