use Rattle.crn_sign.proofs.Prelude.{List, subst, Bits, kinds_of, IsRuling}
use Rattle.crn_sign.proofs.part.Part.ruled_out.Goals as goal

pub returns-clause-answer : goal.returns-clause-answer
returns-clause-answer c = let a = c.args.matrix.now in subst (λ (q : List Bits). IsRuling a (kinds_of a c.args.weak.now q) c.in_ok-u.u) c.deref-2.ensures.value c.in_ok-u.ensures.answer
