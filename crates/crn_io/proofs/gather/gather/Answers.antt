use Rattle.crn_io.proofs.Prelude.{◌≡◌, ◌≤◌, ◌++◌, [], length, take, ap, sym, refl, ◌∙◌, arith, append-nil, length-append, length-take, MAX_AHEAD}
use Rattle.crn_io.proofs.Streams.{Consumes-none, Consumes-then}
use Rattle.crn_io.proofs.LineLists.{EndsAt-held, IsLine-held, IsLine-none, held_more}
use Rattle.crn_io.proofs.gather.gather.Goals as goal

pub returns-in-Some-clause-gives : goal.returns-in-Some-clause-gives
returns-in-Some-clause-gives g c =
    let inv = c.pulls.invariant in
    let did = c.in-Got.ensures in
    let prefix = c.split_at.result.0.now in
    let prefix_is : prefix ≡ take c.in-Got.count c.pull.new.into = c.split_at.ensures.front in
    let few : length prefix ≤ MAX_AHEAD = omega (arith, ap length prefix_is, length-take c.in-Got.count c.pull.new.into) in
    let here : c.len-at.result ≡ length c.pulls.held.items = omega arith in (
      inv.0 ++ prefix,
      held_more _ inv.0 _ prefix _ inv.1 c.hold.ensures.items,
      Consumes-then _ _ _ inv.0 prefix inv.2 (rw prefix_is did.2),
      (EndsAt-held _ prefix _ _ c.in-Some.i c.hold.ensures.items here inv.4 c.in-Some.ensures, omega (arith, ap length c.hold.ensures.items, length-append c.pulls.held.items prefix)),
      did.3 ∙ inv.3,
      (c.pulls.held.items, prefix, c.hold.ensures.items, inv.4, omega arith, few),
    )

pub pulls-init : goal.pulls-init
pulls-init g c = ([], sym (append-nil _), Consumes-none _, refl, c.requires.none_yet, omega arith, omega arith, ([], c.args.held.now.items, refl, IsLine-none, omega arith, omega arith))

pub pulls-preserved : goal.pulls-preserved
pulls-preserved g c =
    let inv = c.pulls.invariant in
    let did = c.in-Got.ensures in
    let prefix = c.split_at.result.0.now in
    let prefix_is : prefix ≡ take c.in-Got.count c.pull.new.into = c.split_at.ensures.front in (
      inv.0 ++ prefix,
      held_more _ inv.0 _ prefix _ inv.1 c.hold.ensures.items,
      Consumes-then _ _ _ inv.0 prefix inv.2 (rw prefix_is did.2),
      did.3 ∙ inv.3,
      IsLine-held _ prefix _ c.hold.ensures.items inv.4 c.in_default.ensures,
      omega arith,
      omega arith,
      (c.pulls.held.items, prefix, c.hold.ensures.items, inv.4, omega arith, omega (arith, ap length prefix_is, length-take c.in-Got.count c.pull.new.into)),
    )
