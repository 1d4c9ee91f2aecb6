use Rattle.crn_vec.proofs.Prelude.{◌↔◌, ◌≢◌, IsTrue, false, arith, pos}
use Rattle.crn_vec.proofs.Entries.{zip_from}
use Rattle.crn_vec.proofs.vectors.support.Goals as goal

pub returns : goal.returns
returns c = zip_from (λ x mark. IsTrue mark ↔ (x ≢ pos 0)) (pos 0) false c.args.a.now c.loop-k.into (omega arith) (λ k lt. c.loop-k.invariant k (omega arith))
