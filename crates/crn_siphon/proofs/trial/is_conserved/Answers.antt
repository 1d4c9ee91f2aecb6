use Rattle.crn_siphon.proofs.Prelude.{◌≡◌, ◌<◌, [], inl, length, ap, sym, ◌∙◌, arith, pos, dot, vectors, all_given, vectors_count, vector_at}
use Rattle.crn_siphon.proofs.Narrow.{narrow_within}
use Rattle.crn_siphon.proofs.trial.is_conserved.Goals as goal

pub skips_of-skips-requires : goal.skips_of-skips-requires
skips_of-skips-requires c = omega (arith, c.requires.long, c.meets_definition.ensures.partial.species_limit)

pub dot_past-requires-clause-a : goal.dot_past-requires-clause-a
dot_past-requires-clause-a c = narrow_within c.args.weights.now c.requires.each

pub dot_past-requires-clause-skips : goal.dot_past-requires-clause-skips
dot_past-requires-clause-skips c = inl c.skips_of-skips.ensures

pub returns : goal.returns
returns c = λ t.
    let net = c.args.net.now in
    all_given (λ v. dot c.args.weights.now v ≡ pos 0) (vectors net) [] (λ k lt.
    let inside : k < length net.reactions = omega (arith, lt, vectors_count net) in
    ap (dot c.args.weights.now) (vector_at net k inside) ∙ c.loop-r.invariant k (omega (arith, inside, c.reactions-r-end.ensures.count)))
