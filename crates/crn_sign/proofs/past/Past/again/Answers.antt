use Rattle.crn_sign.proofs.PastLaws.{past_cut}
use Rattle.crn_sign.proofs.past.Past.again.Goals as goal

pub returns-in-Some : goal.returns-in-Some
returns-in-Some c =
    let q = c.args.self.now in
    let weigh = rw c.in-Some.is at c.ruling.ensures.weigh in
    let some = rw c.in-Some.is at c.ruling.ensures.some in
    past_cut c.args.matrix.now c.args.weak.now c.args.asked.now c.in-Some.stays q.multipliers.value.list c.multiple.result.now.value.list q.marks.items c.requires.past.past c.requires.asked weigh some c.multiple.ensures
