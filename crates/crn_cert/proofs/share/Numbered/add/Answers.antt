use Rattle.crn_cert.proofs.Prelude.{◌≤◌, ◌<◌, length, ap, map, arith, length-map, MAX_SHARED}
use Rattle.crn_cert.proofs.ShareTables.{share_more}
use Rattle.crn_cert.proofs.share.Numbered.add.Goals as goal

pub returns-clause-added : goal.returns-clause-added
returns-clause-added c = λ us h.
    let keys = c.args.self.now.lists.set.keys in
    let old = map (λ u. u.now) keys in
    let new = map (λ u. u.now) c.number.new.self.set.keys in
    let long = length-map keys (λ u. u.now) in
    let full = λ (f : MAX_SHARED ≤ length old). ap (map (λ u. u.now)) (c.in_ok-number.ensures.full (omega (arith, f, long))) in
    let room = λ (r : length old < MAX_SHARED). c.in_ok-number.ensures.room (omega (arith, r, long)) in
    share_more MAX_SHARED us c.args.list.now old new c.args.self.now.leaf.list c.push.new.self.list c.in_ok-number.number
    h.0 h.1 full room c.in_ok-number.ensures.number c.in_ok-push.ensures.ok
