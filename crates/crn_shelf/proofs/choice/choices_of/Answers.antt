use Rattle.crn_shelf.proofs.Prelude.{◌≡◌, ◌+◌, ℕ, List, length, sym, ap, subst, ◌∙◌, arith, length-append, Sign, Choice, IsChoice}
use Rattle.crn_shelf.proofs.Joins.{all_choices, choice_more}
use Rattle.crn_shelf.proofs.choice.choices_of.Goals as goal

pub loop-preserved : goal.loop-preserved
loop-preserved c =
    let h = c.loop.invariant in
    let s = c.args.shape.now in
    let before = c.loop.before.items in
    let is = subst (λ (l : List Sign). IsChoice s (length l) c.in_ok-choice_after.field-0) c.deref.ensures.value c.in_ok-choice_after.ensures in
    record {
      count = ap (λ (l : List Choice). length l) c.in_ok-push.ensures.items ∙ length-append c.loop.made.items _ ∙ ap (λ (n : ℕ). n + 1) h.count;
      before = ap (λ (l : List Sign). length l) c.in_ok-push-2.ensures.items ∙ length-append before _ ∙ ap (λ (n : ℕ). n + 1) h.before;
      each = choice_more s before c.loop.made.items c.push.new.self.items c.in_ok-choice_after.field-0 (h.count ∙ sym h.before) c.in_ok-push.ensures.items h.each is;
    }

pub returns : goal.returns
returns c =
    let s = c.args.shape.now in
    let long : length c.loop.made.items ≡ s.count + s.species = omega (arith, c.loop.invariant.count, c.loop-test.false, c.loop.auto.counter-end, c.choices-count.ensures.count) in
    all_choices s c.loop.made.items long c.loop.invariant.each
