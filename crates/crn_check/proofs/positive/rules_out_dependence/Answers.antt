use Rattle.crn_check.proofs.Prelude.{◌≡◌, inl, inr, length, get_or, ap, arith, pos, ◌≤ℤ◌, cases_Bool, ints, reaction_vector, dot, refused}
use Rattle.crn_check.proofs.Widths.{all_reactions, each_reaction, vector_in, place_of_vector}
use Rattle.crn_check.proofs.positive.rules_out_dependence.Goals as goal

pub returns-then-gain-gt0 : goal.returns-then-gain-gt0
returns-then-gain-gt0 c =
    let net = c.args.net.now in
    refused (λ h.
    let low = each_reaction net (λ v. dot c.args.weights.now v ≤ℤ pos 0) h.falls c.loop-r.r (omega arith) in
    omega (arith, ints, low, c.weight_change-gain.ensures, c.if-gain-gt0.true))

pub returns : goal.returns
returns c =
    let net = c.args.net.now in
    let weights = c.args.weights.now in
    let all : c.loop-r.r ≡ length net.reactions = omega (arith, c.reactions-r-end.ensures.count) in (
      λ met.
          let s = c.loop-r.invariant.some met in
          record {
            long = c.requires.long;
            falls = all_reactions net (λ v. dot weights v ≤ℤ pos 0) (λ r lt. c.loop-r.invariant.falls r (omega (arith, lt, all)));
            some = (reaction_vector net (get_or net.reactions s.0 (0, 0)), vector_in net s.0 (omega (arith, s.1, all)), s.2);
          },
      λ h. elim (cases_Bool c.loop-r.lowers) [
        | inl met ↦ met
        | inr none ↦ absurd (
            let p = place_of_vector net h.some.0 h.some.1 in
            let zero = c.loop-r.invariant.none none p.0 (omega (arith, p.1, all)) in
            let same = ap (dot weights) p.2 in
            omega (arith, ints, zero, same, h.some.2))
      ],
    )
