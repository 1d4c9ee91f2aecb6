use Rattle.crn_siphon.proofs.Prelude.{fact}
use Rattle.crn_siphon.proofs.Nodes.{covers_put, fact_put, more_same}
use Rattle.crn_siphon.proofs.known.keep_cover.Goals as goal

pub returns-clause-known : goal.returns-clause-known
returns-clause-known c =
    let net = c.args.net.now in
    let one = fact c.args.cover c.args.species in
    let here = fact_put c.make_room.new.covers.items _ one _ c.in_ok-place.ensures.items c.in_ok-place.ensures.place in
    record {
      covers = covers_put net c.make_room.new.covers.items _ one c.in_ok-place.ensures.items c.make_room.ensures c.requires.cover;
      first = here.inside;
      laws = c.requires.known.laws;
      changes = c.requires.known.changes;
    }

pub returns-clause-answer : goal.returns-clause-answer
returns-clause-answer c = (
  c.args.cover.list,
  fact_put c.make_room.new.covers.items _ (fact c.args.cover c.args.species) _ c.in_ok-place.ensures.items c.in_ok-place.ensures.place,
  c.requires.set,
)

pub returns-clause-kept : goal.returns-clause-kept
returns-clause-kept c = more_same c.args.known.now.laws.items
