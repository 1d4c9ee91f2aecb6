use Rattle.crn_cert.proofs.Prelude.{map}
use Rattle.crn_cert.proofs.ShareTables.{known_stays}
use Rattle.crn_cert.proofs.share.Lists.number.Goals as goal

pub returns-in-Some-clause-room : goal.returns-in-Some-clause-room
returns-in-Some-clause-room c = λ room. known_stays (map (λ u. u.now) c.args.self.now.set.keys) c.args.list.now c.in-Some.ensures.known
