use Rattle.crn_siphon.proofs.Prelude.{List, length, ap, sym, ◌∙◌, arith, ℤ, entry, IsLawIn, fact}
use Rattle.crn_siphon.proofs.Nodes.{fact_put, laws_put}
use Rattle.crn_siphon.proofs.known.keep_law.Goals as goal

pub support-species-requires : goal.support-species-requires
support-species-requires c = omega (arith, ap (λ (x : List ℤ). length x) c.as_slice.ensures, c.requires.law.free.long, c.meets_definition.ensures.partial.species_limit)

pub returns-clause-known : goal.returns-clause-known
returns-clause-known c =
    let net = c.args.net.now in
    let weights = c.args.weights in
    let one : IsLawIn net c.support-species.result weights.list = record {
      free = c.requires.law.free;
      law = c.requires.law.law;
      within = λ s some. (c.support-species.ensures s).1 (λ e. some (ap (λ (x : List ℤ). entry x s) (sym c.as_slice.ensures) ∙ e));
    } in
    record {
      covers = c.requires.known.covers;
      first = c.requires.known.first;
      laws = laws_put net c.args.known.now.laws.items _ (fact weights c.support-species.result) c.in_ok-place.ensures.items c.requires.known.laws one;
      changes = c.requires.known.changes;
    }

pub returns-clause-answer : goal.returns-clause-answer
returns-clause-answer c = (
  c.args.weights.list,
  fact_put c.args.known.now.laws.items _ (fact c.args.weights c.support-species.result) _ c.in_ok-place.ensures.items c.in_ok-place.ensures.place,
  c.requires.law,
)
