use Rattle.crn_cert.proofs.Prelude.{◌∙◌, sym, ap, map}
use Rattle.crn_cert.proofs.ShareTables.{keys_seen, number_at, number_some, number_zero}
use Rattle.crn_cert.proofs.share.Lists.add.Goals as goal

pub returns-then-len-lt-MAX_SHARED-clause-room : goal.returns-then-len-lt-MAX_SHARED-clause-room
returns-then-len-lt-MAX_SHARED-clause-room c = λ room. ap (map (λ u. u.now)) c.in_ok-i.ensures.keys ∙ keys_seen c.args.self.now.set.keys c.args.list

pub returns-then-len-lt-MAX_SHARED-clause-number :
    goal.returns-then-len-lt-MAX_SHARED-clause-number
returns-then-len-lt-MAX_SHARED-clause-number c =
    let s = c.in_ok-i.ensures.stored in
    sym (number_at c.insert_full.new.self.keys c.args.list.now c.in_ok-i.i s.0 c.insert_full.ensures.unique s.1 s.2)

pub returns-in-Some-clause-number : goal.returns-in-Some-clause-number
returns-in-Some-clause-number c = sym (number_some c.args.self.now.set.keys c.args.list.now c.in-Some.i c.args.list (sym c.get_index_of.ensures.index ∙ c.in-Some.is))

pub returns-in-None-clause-number : goal.returns-in-None-clause-number
returns-in-None-clause-number c = sym (number_zero 1 c.args.self.now.set.keys c.args.list.now (sym c.in-None.ensures.found))
