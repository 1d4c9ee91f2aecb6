use Rattle.crn_ctext.proofs.Prelude.{refl, ap, arith}
use Rattle.std.proofs.Common.{Some}
use Rattle.crn_ctext.proofs.length.CounterSink.push.Goals as goal

pub returns-in-Some : goal.returns-in-Some
returns-in-Some c =
    (omega (arith, c.requires), omega arith, refl, (omega (arith, c.in-Some.ensures), ap Some (omega (arith, c.in-Some.ensures))), refl, c.args.self.now.failed)
