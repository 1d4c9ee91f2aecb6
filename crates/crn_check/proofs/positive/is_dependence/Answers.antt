use Rattle.crn_check.proofs.Prelude.{inl, inr, length, arith, vectors, lt_or}
use Rattle.crn_check.proofs.Decided.{granted}
use Rattle.crn_check.proofs.Widths.{combination_past, widths_of_all}
use Rattle.crn_check.proofs.positive.is_dependence.Goals as goal

pub returns : goal.returns
returns c =
    let net = c.args.net.now in
    let numbers = c.args.numbers.now in
    granted (record {
      long = c.requires.long;
      positive = c.are_positive.ensures.0 c.if-not-are_positive.false;
      zero_sum = λ s. elim (lt_or s (length net.names)) [
        | inl lt ↦ c.loop-s.invariant s (omega (arith, lt))
        | inr past ↦ combination_past numbers (vectors net) (length net.names) s (widths_of_all net c.species-s-end.ensures.network) past
      ];
    })
