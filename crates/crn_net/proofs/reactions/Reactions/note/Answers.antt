use Rattle.crn_net.proofs.Prelude.{◌++◌, ◌∷◌, [], ◌∙◌, ℕ, List, ap, arith, inl, inr, refl, length, length_push}
use Rattle.crn_net.proofs.Marks.{marked_put}
use Rattle.crn_net.proofs.reactions.Reactions.note.Goals as goal

pub returns-then-has : goal.returns-then-has
returns-then-has c = (inl (c.has.ensures.0 c.if-has.true, refl), c.requires)

pub returns-then-len-ge-MAX_REACTIONS : goal.returns-then-len-ge-MAX_REACTIONS
returns-then-len-ge-MAX_REACTIONS c =
    let view = ap length c.self.view_is in
    (refl, λ i. absurd (let t = c.has.ensures.1 i in let f = c.if-has.false in cc), omega (arith, view))

pub returns : goal.returns
returns c =
    let is = c.in_ok-push.ensures.items in
    let view = ap length c.self.view_is in
    let long = ap length is in
    let count = length_push c.self.inside.list.items c.args.reaction in
    (inr (λ i. absurd (let t = c.has.ensures.1 i in let f = c.if-has.false in cc), is ∙ ap (λ (l : List (ℕ × ℕ)). l ++ c.args.reaction ∷ []) c.self.view_is), omega (arith, view, long, count))

pub invariant_of-self : goal.invariant_of-self
invariant_of-self c = rw c.in_err-push.ensures.items c.self.invariant

pub invariant_of-self-2 : goal.invariant_of-self-2
invariant_of-self-2 c =
    let count = length_push c.self.inside.list.items c.args.reaction in
    let long = ap length c.in_ok-push.ensures.items in
    rw c.in_ok-push.ensures.items (marked_put c.self.inside.marks c.self.inside.list.items c.args.reaction c.slot.result _ c.slot.ensures.slot (omega arith) (omega (arith, count, long)) c.self.invariant)
