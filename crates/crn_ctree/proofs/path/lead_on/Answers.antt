use Rattle.crn_ctree.proofs.Prelude.{[], sym, ◌∙◌, ap, arith, all_zero, due_after}
use Rattle.crn_ctree.proofs.PathLaws.{zero_on, plus_on, plus_up, minus_up}
use Rattle.crn_ctree.proofs.path.lead_on.Goals as goal

pub returns-in-Zero-clause-due : goal.returns-in-Zero-clause-due
returns-in-Zero-clause-due c = zero_on c.pop.new.self.items c.loop-option.options.items c.push_reserved.new.self.items c.in-Some.option (due_after [] c.args.options.now.items) c.in-Some.ensures.items c.in-Zero.is c.push_reserved.ensures.items c.loop-option.invariant.0

pub returns-then-not-is_all_zero-clause-due : goal.returns-then-not-is_all_zero-clause-due
returns-then-not-is_all_zero-clause-due c = plus_on c.pop.new.self.items c.loop-option.options.items c.push_reserved-then-not-is_all_zero.new.self.items c.in-Some.option (due_after [] c.args.options.now.items) c.in-Some.ensures.items c.in-Plus.is (ap all_zero (sym c.deref.ensures.value) ∙ sym c.is_all_zero.ensures ∙ c.if-not-is_all_zero.true) c.push_reserved-then-not-is_all_zero.ensures.items c.loop-option.invariant.0

pub loop-option-preserved-else-not-is_all_zero : goal.loop-option-preserved-else-not-is_all_zero
loop-option-preserved-else-not-is_all_zero c = (plus_up c.pop.new.self.items c.loop-option.options.items c.in-Some.option (due_after [] c.args.options.now.items) c.in-Some.ensures.items c.in-Plus.is (ap all_zero (sym c.deref.ensures.value) ∙ sym c.is_all_zero.ensures ∙ c.if-not-is_all_zero.false) c.loop-option.invariant.0, c.in-Some.ensures.capacity ∙ c.loop-option.invariant.1, omega (arith, c.in-Some.ensures.len, c.loop-option.invariant.2))

pub loop-option-preserved : goal.loop-option-preserved
loop-option-preserved c = (minus_up c.pop.new.self.items c.loop-option.options.items c.in-Some.option (due_after [] c.args.options.now.items) c.in-Some.ensures.items c.in-Minus.is c.loop-option.invariant.0, c.in-Some.ensures.capacity ∙ c.loop-option.invariant.1, omega (arith, c.in-Some.ensures.len, c.loop-option.invariant.2))
