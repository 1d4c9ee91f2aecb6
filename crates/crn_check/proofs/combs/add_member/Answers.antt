use Rattle.crn_check.proofs.Prelude.{◌∙◌, ◌+ℤ◌, ◌*ℤ◌, [], List, get_or, sym, ap, subst, arith, ℤ, entry, AreSkips}
use Rattle.crn_check.proofs.combs.add_member.Goals as goal

pub add_multiple-requires-clause-skips : goal.add_multiple-requires-clause-skips
add_multiple-requires-clause-skips c = subst (λ (v : List ℤ). AreSkips v (get_or c.args.skips.now c.args.j [])) (sym c.vector_of-vector.ensures.value) (c.requires.skips c.args.j c.requires.member (omega arith))

pub add_multiple-requires-clause-few : goal.add_multiple-requires-clause-few
add_multiple-requires-clause-few c = omega (arith, c.requires.member, c.requires.base.count)

pub add_multiple-requires-2-clause-few : goal.add_multiple-requires-2-clause-few
add_multiple-requires-2-clause-few c = omega (arith, c.requires.member, c.requires.base.count)

pub returns-then-j-skips-clause-each : goal.returns-then-j-skips-clause-each
returns-then-j-skips-clause-each c = λ s lt.
    c.add_multiple.ensures.each s (omega (arith, lt, c.vector_of-vector.ensures.width))
    ∙ ap (λ (v : List ℤ). entry c.args.sums.now s +ℤ (c.args.number.now *ℤ entry v s)) c.vector_of-vector.ensures.value

pub returns-clause-each : goal.returns-clause-each
returns-clause-each c = λ s lt.
    c.add_multiple-2.ensures.each s (omega (arith, lt, c.vector_of-vector.ensures.width))
    ∙ ap (λ (v : List ℤ). entry c.args.sums.now s +ℤ (c.args.number.now *ℤ entry v s)) c.vector_of-vector.ensures.value
