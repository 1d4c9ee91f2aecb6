use Rattle.crn_check.proofs.Prelude.{◌∙◌, [], List, get_or, inr, sym, ap, subst, arith, ℤ, w128, dot, AreSkips, narrow_within, to_z-of_z}
use Rattle.crn_check.proofs.duals.product_with.Goals as goal

pub dot_past-requires-clause-a : goal.dot_past-requires-clause-a
dot_past-requires-clause-a c = narrow_within c.args.list.now c.requires.list.each

pub dot_past-requires-clause-skips : goal.dot_past-requires-clause-skips
dot_past-requires-clause-skips c = inr (subst (λ (v : List ℤ). AreSkips v (get_or c.args.skips.now c.args.j [])) (sym c.vector_of-vector.ensures.value) (c.requires.skips c.args.j c.requires.member (omega arith)))

pub dot_past-requires-2-clause-a : goal.dot_past-requires-2-clause-a
dot_past-requires-2-clause-a c = narrow_within c.args.list.now c.requires.list.each

pub dot_past-requires-2-clause-skips : goal.dot_past-requires-2-clause-skips
dot_past-requires-2-clause-skips c = inr c.skips_of.ensures

pub returns-then-j-skips : goal.returns-then-j-skips
returns-then-j-skips c = to_z-of_z w128 c.dot_past.result (record { sfits = c.dot_past.type_inv }) ∙ c.dot_past.ensures ∙ ap (dot c.args.list.now) c.vector_of-vector.ensures.value

pub returns : goal.returns
returns c = to_z-of_z w128 c.dot_past-2.result (record { sfits = c.dot_past-2.type_inv }) ∙ c.dot_past-2.ensures ∙ ap (dot c.args.list.now) c.vector_of-vector.ensures.value
