use Rattle.crn_robust_text.proofs.Prelude.{refl, subst, arith, err_from_is_err_and, Answer, Q1, Q2, Q5, WroteAll-then, HoldsNoSides, stops_first, stops_later, ends_with}
use Rattle.crn_robust_text.proofs.Written.{three, is_first, is_second, is_rank, full, first_lines, second_lines, three_lines}
use Rattle.crn_robust_text.proofs.write.put_blocks.Goals as goal

pub get-requires-clause-built : goal.get-requires-clause-built
get-requires-clause-built g c = omega (arith, full c.args.net.now c.args.answers.now (three c.args.net.now c.args.answers.now c.requires))

pub put_alone-requires-clause-sides : goal.put_alone-requires-clause-sides
put_alone-requires-clause-sides g c =
    let t = three c.args.net.now c.args.answers.now c.requires in
    subst (λ (a : Answer). HoldsNoSides a.proof) (is_first c.args.net.now c.args.answers.now t c.get.result.now c.get.ensures) t.first_sides

pub returns-in_err-put_alone : goal.returns-in_err-put_alone
returns-in_err-put_alone g c =
    let net = c.args.net.now in
    let answers = c.args.answers.now in
    let t = three net answers c.requires in
    let p = err_from_is_err_and c.from_residual.result c.from_residual.ensures.1 in
    let one = (let h = c.in_err-put_alone.ensures in h Q1 t.one refl) in
    stops_first _ (first_lines net answers t c.get.result.now (is_first net answers t c.get.result.now c.get.ensures)) p.1 one.prefix

pub get-requires-2-clause-built : goal.get-requires-2-clause-built
get-requires-2-clause-built g c = omega (arith, full c.args.net.now c.args.answers.now (three c.args.net.now c.args.answers.now c.requires))

pub put_alone-requires-2-clause-sides : goal.put_alone-requires-2-clause-sides
put_alone-requires-2-clause-sides g c =
    let t = three c.args.net.now c.args.answers.now c.requires in
    subst (λ (a : Answer). HoldsNoSides a.proof) (is_second c.args.net.now c.args.answers.now t c.get-2.result.now c.get-2.ensures) t.second_sides

pub returns-in_err-put_alone-2 : goal.returns-in_err-put_alone-2
returns-in_err-put_alone-2 g c =
    let net = c.args.net.now in
    let answers = c.args.answers.now in
    let t = three net answers c.requires in
    let p = err_from_is_err_and c.from_residual-in_err-put_alone-2.result c.from_residual-in_err-put_alone-2.ensures.1 in
    let one = (let h = c.in_ok-put_alone.ensures in h Q1 t.one refl) in
    let two = (let h = c.in_err-put_alone-2.ensures in h Q2 t.two refl) in
    stops_later _ (second_lines net answers t c.get.result.now c.get-2.result.now (is_first net answers t c.get.result.now c.get.ensures) (is_second net answers t c.get-2.result.now c.get-2.ensures)) p.1 one.all two.prefix

pub get-requires-3-clause-built : goal.get-requires-3-clause-built
get-requires-3-clause-built g c = omega (arith, full c.args.net.now c.args.answers.now (three c.args.net.now c.args.answers.now c.requires))

pub put_alone-requires-3-clause-sides : goal.put_alone-requires-3-clause-sides
put_alone-requires-3-clause-sides g c =
    let t = three c.args.net.now c.args.answers.now c.requires in
    subst (λ (a : Answer). HoldsNoSides a.proof) (is_rank c.args.net.now c.args.answers.now t c.get-3.result.now c.get-3.ensures) t.rank_sides

pub returns : goal.returns
returns g c =
    let net = c.args.net.now in
    let answers = c.args.answers.now in
    let t = three net answers c.requires in
    let one = (let h = c.in_ok-put_alone.ensures in h Q1 t.one refl) in
    let two = (let h = c.in_ok-put_alone-2.ensures in h Q2 t.two refl) in
    let last = (let h = c.put_alone-3.ensures in h Q5 t.five refl) in
    ends_with (three_lines net answers t c.get.result.now c.get-2.result.now c.get-3.result.now (is_first net answers t c.get.result.now c.get.ensures) (is_second net answers t c.get-2.result.now c.get-2.ensures) (is_rank net answers t c.get-3.result.now c.get-3.ensures))
    (WroteAll-then one.all two.all) last
