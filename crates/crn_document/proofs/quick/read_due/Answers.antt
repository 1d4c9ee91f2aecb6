use Rattle.crn_document.proofs.Prelude.{sym, subst, List, ℤ, IsReadAs}
use Rattle.crn_ctext.specs.declared.word.Word.TheVariants as words
use Rattle.crn_document.proofs.Naming.{reads_split}
use Rattle.crn_document.proofs.quick.read_due.Goals as goal

pub returns-then-is_split-clause-ok : goal.returns-then-is_split-clause-ok
returns-then-is_split-clause-ok c =
    subst (λ (l : List ℤ). IsReadAs c.args.expect.now c.args.line.now words.Split l) (sym c.requires.empty)
    (reads_split c.args.expect.now c.args.shared c.args.line.now c.requires.node (c.is_split.ensures.0 c.if-is_split.true))
