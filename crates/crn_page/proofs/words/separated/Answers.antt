use Rattle.std.proofs.Common.{◌∙◌, Ok, ap, lit<, map}
use Rattle.std.proofs.lemmas.Iterator.Consumers.{map_from_collect}
use Rattle.std.proofs.lemmas.Iterator.Splits.{YieldsList-from_str_split}
use Rattle.std.proofs.lemmas.List.{take_all}
use Rattle.crn_page.proofs.words.separated.Goals as goal

-- all parts have become words, and the parts are those of the line
pub returns : goal.returns
returns c = c.loop-part.invariant
    ∙ ap (map (λ part. part.now)) (take_all c.loop-part.part-index c.deref-part-items.result.now c.loop-part-test.false ∙ c.deref-part-items.ensures.value)
    ∙ map_from_collect {E = Unit {0}} (Ok c.in_ok-parts.parts) c.in_ok-parts.ensures.ran (YieldsList-from_str_split 0 c.args.line.now (lit< tt) c.split.ensures.text c.split.ensures.has_more c.split.ensures.pattern)
