use Rattle.crn_ctext.proofs.Prelude.{◌↔◌, subst, IsTrue, IsIn}
use Rattle.crn_ctext.proofs.LineRows.{asked}
use Rattle.crn_ctext.proofs.kinds.has_known.Goals as goal

pub returns : goal.returns
returns c = subst (λ ws. IsTrue c.has_word.result ↔ IsIn c.args.word.now ws) (asked c.args.version c.args.trees c.args.rows.now c.requires.version c.requires.table) c.has_word.ensures
