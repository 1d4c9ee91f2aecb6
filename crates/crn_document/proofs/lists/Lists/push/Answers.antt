use Rattle.crn_document.proofs.Prelude.{◌≡◌, ◌++◌, ◌∷◌, [], ◌∙◌, ℕ, List, ℤ, length, ap, ap₂, arith, spans_of}
use Rattle.crn_document.proofs.HeldLists.{spans_push}
use Rattle.crn_document.proofs.lists.Lists.push.Goals as goal

pub returns : goal.returns
returns c =
    let numbers = c.self.inside.numbers.items in
    let spans = c.self.inside.spans.items in
    let list = c.args.list.now in
    let is = c.in_ok-extend_from_slice.ensures.items in
    let start : c.len-start.result ≡ length numbers = omega arith in
    let end : c.len.result ≡ length (numbers ++ list) = omega (arith, ap (λ (t : List ℤ). length t) is) in
    ap₂ (λ (n : List ℤ) (s : List (ℕ × ℕ)). spans_of n s) is c.in_ok-push.ensures.items
    ∙ spans_push numbers list spans c.len-start.result c.len.result c.self.invariant start end
    ∙ ap (λ (t : List (List ℤ)). t ++ list ∷ []) c.self.view_is
