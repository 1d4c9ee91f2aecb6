use Rattle.crn_cert.proofs.Prelude.{sym}
use Rattle.crn_cert.proofs.ShareTables.{number_of_key}
use Rattle.crn_cert.proofs.share.Lists.find.Goals as goal

pub returns-then-are_same-clause-number : goal.returns-then-are_same-clause-number
returns-then-are_same-clause-number c = sym (number_of_key c.args.self.now.set.keys c.as_slice-lists.result.now c.args.list.now c.from-i.result _ c.as_slice-lists.ensures.keys c.as_slice-lists.ensures.unique c.if-i-lists.true (c.are_same.ensures.0 c.if-are_same.true)).0

pub returns-then-are_same-clause-known : goal.returns-then-are_same-clause-known
returns-then-are_same-clause-known c = (number_of_key c.args.self.now.set.keys c.as_slice-lists.result.now c.args.list.now c.from-i.result _ c.as_slice-lists.ensures.keys c.as_slice-lists.ensures.unique c.if-i-lists.true (c.are_same.ensures.0 c.if-are_same.true)).1
