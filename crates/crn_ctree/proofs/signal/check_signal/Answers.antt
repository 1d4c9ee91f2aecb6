use Rattle.crn_ctree.proofs.Prelude.{List, sym, subst, ◌∙◌, arith, ℤ, false≢true, Sign, held, AreOnShelves, AreRightRises}
use Rattle.crn_ctree.proofs.SignalLaws.{signal_is, signal_lies, signal_rises}
use Rattle.crn_ctree.proofs.signal.check_signal.Goals as goal

pub are_on_shelves-requires-clause-mu : goal.are_on_shelves-requires-clause-mu
are_on_shelves-requires-clause-mu c = record { long = c.requires.mu.long ∙ sym c.requires.shape.species; each = c.requires.mu.each }

pub are_right_rises-requires : goal.are_right_rises-requires
are_right_rises-requires c = record { long = c.requires.mu.long ∙ sym c.requires.shape.species; each = c.requires.mu.each }

pub returns-then-not-are_on_shelves : goal.returns-then-not-are_on_shelves
returns-then-not-are_on_shelves c =
    let s = c.args.shape.now in
    let mu = c.args.mu.now in (
      λ t. absurd (false≢true t),
      λ h. absurd (false≢true (sym c.if-not-are_on_shelves.true ∙ c.are_on_shelves.ensures.1
          (subst (λ (x : ℤ). AreOnShelves s c.put_signs.new.into mu x) (sym (held c.args.m (omega (arith, c.requires.m)))) (subst (λ (l : List Sign). AreOnShelves s l mu c.args.m) (sym c.put_signs.ensures) (signal_lies c.args.net.now s c.args.shelves.now mu c.args.m c.args.weights.now c.requires.shape h))))),
    )

pub returns-then-not-are_right_rises : goal.returns-then-not-are_right_rises
returns-then-not-are_right_rises c =
    let s = c.args.shape.now in
    let mu = c.args.mu.now in (
      λ t. absurd (false≢true t),
      λ h. absurd (false≢true (sym c.if-not-are_right_rises.true ∙ c.are_right_rises.ensures.1
          (subst (λ (l : List Sign). AreRightRises s l mu) (sym c.put_signs.ensures) (signal_rises c.args.net.now s c.args.shelves.now mu c.args.m c.args.weights.now c.requires.shape h)))),
    )

pub returns-then-not-is_some : goal.returns-then-not-is_some
returns-then-not-is_some c = (
  λ t. absurd (false≢true t),
  λ h. absurd (false≢true (sym c.if-not-is_some.true ∙ c.is_some.ensures.1 h.some)),
)

pub returns : goal.returns
returns c =
    let s = c.args.shape.now in
    let mu = c.args.mu.now in
    let on = subst (λ (l : List Sign). AreOnShelves s l mu c.args.m) c.put_signs.ensures (subst (λ (x : ℤ). AreOnShelves s c.put_signs.new.into mu x) (held c.args.m (omega (arith, c.requires.m))) (c.are_on_shelves.ensures.0 c.if-not-are_on_shelves.false)) in
    let rises = subst (λ (l : List Sign). AreRightRises s l mu) c.put_signs.ensures (c.are_right_rises.ensures.0 c.if-not-are_right_rises.false) in (
      λ t. signal_is c.args.net.now s c.args.shelves.now mu c.args.m c.args.weights.now c.requires.shape c.requires.shelves c.requires.mu.long c.requires.weights.long on rises (c.is_some.ensures.0 c.if-not-is_some.false) (c.are_alike.ensures.0 t),
      λ h. c.are_alike.ensures.1 h.same,
    )
