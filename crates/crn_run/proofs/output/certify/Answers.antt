use Rattle.crn_run.proofs.Prelude.{MAX_BUDGET, have_more}
use Rattle.crn_run.proofs.Certificates.{same_document}
use Rattle.crn_run.proofs.Outputs.{certificate_gives, certificate_broken}
use Rattle.crn_run.proofs.output.certify.Goals as goal

-- no tree has more nodes than the budget, and so none has more than the greatest budget
pub certificate_is_good-requires-clause-few : goal.certificate_is_good-requires-clause-few
certificate_is_good-requires-clause-few g c = have_more c.args.budget MAX_BUDGET c.in-Ok.answers c.requires.most c.in-Ok.ensures.nodes

pub returns-in-Ok-write_document2 : goal.returns-in-Ok-write_document2
returns-in-Ok-write_document2 g c = λ text spells.
    let same = same_document c.args.net.now _ _ _ _ c.in-Ok-share_of.ensures.table c.in-Ok-share_of.ensures.leaf c.certificate_is_good.ensures.share in
    certificate_gives c.args.budget c.status_of-whole.result text c.args.net.now c.in-Ok.answers _ _ _ same
    (record { spells = spells; formed = c.in-Ok.ensures.formed; answered = c.in-Ok.ensures.answered; spent = c.in-Ok.ensures.spent; first = c.in-Ok.ensures.first }) c.in-Ok.ensures.valid c.in-Ok.ensures.nodes c.in-Ok.ensures.visits c.certificate_is_good.ensures.good c.status_of-whole.ensures
    c.in-Ok-write_document2.ensures.all

pub returns : goal.returns
returns g c = λ text spells.
    let same = same_document c.args.net.now _ _ _ _ c.in-Ok-share_of.ensures.table c.in-Ok-share_of.ensures.leaf c.certificate_is_good.ensures.share in
    certificate_broken c.args.budget c.status_of-whole.result text c.args.net.now c.in-Ok.answers _ _ _ same
    (record { spells = spells; formed = c.in-Ok.ensures.formed; answered = c.in-Ok.ensures.answered; spent = c.in-Ok.ensures.spent; first = c.in-Ok.ensures.first }) c.in-Ok.ensures.valid c.in-Ok.ensures.nodes c.in-Ok.ensures.visits c.certificate_is_good.ensures.good c.status_of-whole.ensures
    c.in-Err-write_document2.ensures.prefix
