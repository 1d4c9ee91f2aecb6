use Rattle.crn_solve.proofs.Prelude.{[], ◌∷◌, ◌++◌, List, sym, subst, arith, Verdict, built, AllTrueOrLicensed, AreOpenIfSpent, FirstAreDecided, IsVectorFirst}
use Rattle.crn_solve.proofs.Solved.{one_more, solved_after, verdicts_counted, verdicts_with}
use Rattle.crn_solve.proofs.answers.solve_verdicts.Goals as goal

pub push_verdict-requires : goal.push_verdict-requires
push_verdict-requires c = let n = verdicts_counted c.args.net.now c.args.budget c.in_ok-first.first.answers _ c.in_ok-first.ensures.answers.all c.in-Ok.ensures in omega (arith, n)

pub push_verdict-requires-2 : goal.push_verdict-requires-2
push_verdict-requires-2 c =
    let n = verdicts_counted c.args.net.now c.args.budget c.in_ok-first.first.answers _ c.in_ok-first.ensures.answers.all c.in-Ok.ensures in
    omega (arith, n, one_more _ _ _ c.push_verdict.ensures)

pub returns : goal.returns
returns c =
    let net = c.args.net.now in
    let budget = c.args.budget in
    let h = c.in_ok-on_tables.ensures.plain in
    let k = c.in_ok-on_tables.ensures.strong in
    let s = solved_after net budget c.in_ok-first.first.answers h.0 k.0 c.in_ok-first.ensures.answers (record { plain = h.2; strong = k.2 }) in
    let e = verdicts_with c.in_ok-first.first.answers h.0 k.0 c.in_ok-on_tables.on_tables.plain.verdict c.in_ok-on_tables.on_tables.strong.verdict _ _ _ h.1 k.1 c.in-Ok.ensures c.push_verdict.ensures c.push_verdict-2.ensures in
    record {
      answers = (c.in_ok-first.first.answers ++ h.0 ∷ k.0 ∷ [], e, s.formed, s.valid);
      answered = subst (λ (vs : List Verdict). AllTrueOrLicensed net budget [] built vs) (sym e) s.answered;
      decided = subst FirstAreDecided (sym e) s.decided;
      spent = subst (AreOpenIfSpent net budget) (sym e) s.spent;
      first = subst (IsVectorFirst net) (sym e) s.first;
    }
