use Rattle.crn_text.proofs.Prelude.{arith}
use Rattle.crn_text.proofs.Splits.{split_size}
use Rattle.crn_text.proofs.Terms.{occurs_prefix}
use Rattle.crn_text.proofs.place.place_by_tokens.Goals as goal

pub read_term-requires-clause-short : goal.read_term-requires-clause-short
read_term-requires-clause-short c = omega (arith, split_size 43 c.args.text.now c.split_at_byte.result.0.now c.split_at_byte.result.1 c.split_at_byte.ensures)

pub returns : goal.returns
returns c = λ body h. record {
  place = c.split_at_byte.result.0.now;
  split = c.split_at_byte.ensures;
  reads = c.read_term.ensures body (occurs_prefix 43 body c.args.text.now c.split_at_byte.result.0.now c.split_at_byte.result.1 c.args.end h c.split_at_byte.ensures);
}
