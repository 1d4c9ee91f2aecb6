use Rattle.crn_net.proofs.Prelude.{◌&&◌, ◌==◌, ◌≡◌, ◌∙◌, ℕ, List, refl, sym, subst, inl, inr, arith, get_or, IsIn, at_in, any_true, any_false, reaction_decides, cases_Bool}
use Rattle.crn_net.proofs.Marks.{unmarked_new}
use Rattle.crn_net.proofs.reactions.Reactions.has.Goals as goal

pub returns-then-mark-eq0 : goal.returns-then-mark-eq0
returns-then-mark-eq0 c =
    let marks = c.self.inside.marks in
    let none : get_or marks c.slot.result 0 ≡ 0 = omega (arith, c.if-mark-eq0.true, c.from-mark.ensures) in (
      λ t. absurd cc,
      λ i. absurd (unmarked_new marks c.self.inside.list.items c.args.reaction c.slot.result c.self.invariant c.slot.ensures.slot none (subst (λ (l : List (ℕ × ℕ)). IsIn c.args.reaction l) (sym c.self.view_is) i)),
    )

pub returns-then-is_reaction_at : goal.returns-then-is_reaction_at
returns-then-is_reaction_at c =
    let reactions = c.self.inside.list.items in
    let at = rw c.as_slice.ensures.value at (c.is_reaction_at.ensures c.if-is_reaction_at.true) in
    let is = subst (λ (r : ℕ × ℕ). IsIn r reactions) at.1 (at_in reactions _ c.args.reaction at.0) in
    (λ t. subst (λ (l : List (ℕ × ℕ)). IsIn c.args.reaction l) c.self.view_is is, λ i. refl)

pub returns : goal.returns
returns c =
    let r = c.args.reaction in
    let reactions = c.self.inside.list.items in
    let e = rw c.as_slice-2.ensures.value at c.has_reaction.ensures in (
      λ t. subst (λ (l : List (ℕ × ℕ)). IsIn r l) c.self.view_is (any_true (λ known. (known.0 == r.0) && (known.1 == r.1)) r (λ known. reaction_decides r known) reactions (sym e ∙ t)),
      λ i. elim (cases_Bool c.has_reaction.result) [
        | inl t ↦ t
        | inr f ↦ absurd (any_false (λ known. (known.0 == r.0) && (known.1 == r.1)) r (λ known. reaction_decides r known) reactions (sym e ∙ f) (subst (λ (l : List (ℕ × ℕ)). IsIn r l) (sym c.self.view_is) i))
      ],
    )
