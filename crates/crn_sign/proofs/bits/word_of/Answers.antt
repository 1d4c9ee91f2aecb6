use Rattle.crn_sign.proofs.Prelude.{sym, arith, get_or_past}
use Rattle.crn_sign.proofs.bits.word_of.Goals as goal

pub returns-else-w-words : goal.returns-else-w-words
returns-else-w-words c = sym (get_or_past c.args.words.now c.args.w 0 (omega (arith, c.if-w-words.false)))
