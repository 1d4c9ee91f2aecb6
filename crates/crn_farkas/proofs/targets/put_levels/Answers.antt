use Rattle.crn_farkas.proofs.Prelude.{◌∙◌, arith, length, length-set}
use Rattle.crn_farkas.proofs.Levels.{level_put}
use Rattle.crn_farkas.proofs.targets.put_levels.Goals as goal

pub level_of-requires-clause-few : goal.level_of-requires-clause-few
level_of-requires-clause-few c = omega (arith, c.names_rows.ensures.few, c.requires.kinds)

pub loop-c-preserved : goal.loop-c-preserved
loop-c-preserved c = record {
  long = length-set c.loop-c.level c.loop-c.c c.level_of.result ∙ c.loop-c.invariant.long;
  are = level_put (length c.args.kinds.now) c.loop-c.level c.loop-c.c c.level_of.result (omega (arith, c.loop-c-test.true, c.loop-c.invariant.long)) c.loop-c.invariant.are c.level_of.ensures;
}

pub returns : goal.returns
returns c = record { long = c.loop-c.invariant.long; are = λ k lt. c.loop-c.invariant.are k (omega (arith, lt, c.loop-c-test.false)) }
