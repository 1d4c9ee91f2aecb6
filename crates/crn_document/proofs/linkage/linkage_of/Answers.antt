use Rattle.crn_document.proofs.Prelude.{refl, sym, ap, ◌∙◌, labels_of, count_of}
use Rattle.crn_document.proofs.Linkages.{linkage_is, linkage_none}
use Rattle.crn_document.proofs.linkage.linkage_of.Goals as goal

pub returns-then-question-eq1 : goal.returns-then-question-eq1
returns-then-question-eq1 c = linkage_none c.args.net.now c.args.question c.args.facts.now _ c.requires.known c.if-question-eq1.true refl refl

pub verdict-requires : goal.verdict-requires
verdict-requires c = let held = c.requires.known.first in held c.if-question-eq1.false

pub returns-in-Classes : goal.returns-in-Classes
returns-in-Classes c = linkage_is c.args.net.now c.args.question c.args.facts.now c.verdict.result.now _ c.requires.built c.if-question-eq1.false c.requires.known c.verdict.ensures (c.as_slice.ensures ∙ sym (ap labels_of c.in-Classes.is)) (sym (ap count_of c.in-Classes.is))

pub returns-in-Strong : goal.returns-in-Strong
returns-in-Strong c = linkage_is c.args.net.now c.args.question c.args.facts.now c.verdict.result.now _ c.requires.built c.if-question-eq1.false c.requires.known c.verdict.ensures (c.as_slice-in-Strong.ensures ∙ sym (ap labels_of c.in-Strong.is)) (sym (ap count_of c.in-Strong.is))
