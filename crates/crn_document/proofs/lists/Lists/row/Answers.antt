use Rattle.crn_document.proofs.Prelude.{◌<◌, ◌-◌, ◌∙◌, [], ℤ, List, get_or, length, take, drop, ap, sym, arith, length-map, get_or-map, span_of}
use Rattle.crn_document.proofs.lists.Lists.row.Goals as goal

pub returns : goal.returns
returns c =
    let numbers = c.self.inside.numbers.items in
    let spans = c.self.inside.spans.items in
    let i = c.args.i in
    let s = c.index.result.now in
    let lt : i < length spans = omega (arith, c.requires, ap (λ (t : List (List ℤ)). length t) c.self.view_is, length-map spans (span_of numbers)) in
    c.split_at-2.ensures.front
    ∙ ap (take (s.1 - s.0)) (c.split_at.ensures.back ∙ ap (drop s.0) c.deref.ensures.value)
    ∙ ap (span_of numbers) c.index.ensures
    ∙ sym (get_or-map (span_of numbers) spans i s [] lt)
    ∙ ap (λ (t : List (List ℤ)). get_or t i []) c.self.view_is
