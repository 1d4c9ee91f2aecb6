use Rattle.crn_check.proofs.Prelude.{◌≡◌, inl, inr, length, arith, cases_Bool, ints, vectors, lt_or}
use Rattle.crn_check.proofs.Widths.{combination_past, widths_of_all}
use Rattle.crn_check.proofs.positive.rules_out_conservation.Goals as goal

pub returns : goal.returns
returns c =
    let net = c.args.net.now in
    let numbers = c.args.numbers.now in
    let all : c.loop-s.s ≡ length net.names = omega (arith, c.species-s-end.ensures.count) in
    let network = c.species-s-end.ensures.network in (
      λ met. record {
        long = c.requires.long;
        falls = λ s. elim (lt_or s (length net.names)) [
          | inl lt ↦ c.loop-s.invariant.falls s (omega (arith, lt, all))
          | inr past ↦
              let zero = combination_past numbers (vectors net) (length net.names) s (widths_of_all net network) past in
              omega (arith, ints, zero)
        ];
        some = c.loop-s.invariant.some met;
      },
      λ h. elim (cases_Bool c.loop-s.lowers) [
        | inl met ↦ met
        | inr none ↦ absurd (h.some.1 (elim (lt_or h.some.0 (length net.names)) [
          | inl lt ↦ c.loop-s.invariant.none none h.some.0 (omega (arith, lt, all))
          | inr past ↦ combination_past numbers (vectors net) (length net.names) h.some.0 (widths_of_all net network) past
        ]))
      ],
    )
