use Rattle.crn_robust_text.proofs.Prelude.{◌≡◌, ◌∙◌, List, true, sym, subst, ℤ, ◌↔◌, false≢true, err_from_is_err_and, step_exits, case_in, AreSmall, CaseSaid, SaysOne}
use Rattle.crn_robust_text.proofs.VerdictsRead.{line_small, line_stops, case_small, case_said, case_stops, line_differs, line_agrees, line_refused, case_right, case_refused, both_right}
use Rattle.crn_robust_text.proofs.verdict.next_decided.Goals as goal

pub returns-in_err-next_line-clause-step : goal.returns-in_err-next_line-clause-step
returns-in_err-next_line-clause-step g c = λ earlier d.
    step_exits _ _ c.from_residual.result _ c.args.at.now _ _ _ (err_from_is_err_and c.from_residual.result c.from_residual.ensures.1)
    (line_stops c.args.net.now earlier _ c.args.at.now _ _ c.in_err-next_line.ensures.step)

pub says_one-is_one-requires : goal.says_one-is_one-requires
says_one-is_one-requires g c = let s = c.in_ok-next_line.ensures.step in subst AreSmall (sym c.as_slice.ensures) (line_small _ c.next_line.new.at.numbers.list s.0 s.1)

pub returns-in_err-place-clause-step : goal.returns-in_err-place-clause-step
returns-in_err-place-clause-step g c = λ earlier d.
    let s = c.in_ok-next_line.ensures.step in
    step_exits _ _ c.from_residual-in_err-place.result _ c.args.at.now _ _ _ (err_from_is_err_and c.from_residual-in_err-place.result c.from_residual-in_err-place.ensures.1)
    (case_stops c.args.net.now earlier s.0 _ c.args.at.now c.next_line.new.at _ _ _ (s.2, s.3) c.in_ok-next_line.ensures.line c.in_err-place.ensures.step)

pub returns-then-is_one-says_line-clause-step : goal.returns-then-is_one-says_line-clause-step
returns-then-is_one-says_line-clause-step g c = λ earlier d.
    let net = c.args.net.now in
    let at = c.args.at.now in
    let mid = c.next_line.new.at in
    let new = c.next_case.new.at in
    let s = c.in_ok-next_line.ensures.step in
    let t = c.in_ok-place.ensures.step in
    let one = subst (λ (zs : List ℤ). (c.says_one-is_one.result ≡ true) ↔ SaysOne zs) c.as_slice.ensures c.says_one-is_one.ensures in
    line_refused net earlier s.0 t.0 at mid new _ _ _ (record { line = (s.2, s.3); case = (t.2, t.3); second = c.in_ok-next_line.ensures.line; third = c.in_ok-place.ensures.line })
    (line_differs net earlier c.args.robust.now _ mid.numbers.list s.0 c.says_one-is_one.result c.says_line.result d s.1 one c.says_line.ensures c.if-is_one-says_line.true) c.in_ok-place.ensures.goes.reads

pub is_said-requires : goal.is_said-requires
is_said-requires g c = let t = c.in_ok-place.ensures.step in subst AreSmall (sym c.as_slice-2.ensures) (case_small c.args.net.now _ c.next_case.new.at.numbers.list t.0 c.meets_definition.ensures t.1)

pub returns-then-not-is_said-clause-step : goal.returns-then-not-is_said-clause-step
returns-then-not-is_said-clause-step g c = λ earlier d.
    let net = c.args.net.now in
    let robust = c.args.robust.now in
    let at = c.args.at.now in
    let mid = c.next_line.new.at in
    let new = c.next_case.new.at in
    let s = c.in_ok-next_line.ensures.step in
    let t = c.in_ok-place.ensures.step in
    let one = subst (λ (zs : List ℤ). (c.says_one-is_one.result ≡ true) ↔ SaysOne zs) c.as_slice.ensures c.says_one-is_one.ensures in
    let says = line_agrees net earlier robust _ mid.numbers.list s.0 c.says_one-is_one.result c.says_line.result d s.1 one c.says_line.ensures c.if-is_one-says_line.false in
    let said = subst (λ (zs : List ℤ). CaseSaid c.in_ok-place.place zs (case_in t.0)) (sym c.as_slice-2.ensures) (case_said net c.in_ok-place.place new.numbers.list t.0 t.1) in
    let test = (let h = c.is_said.ensures in h (case_in t.0) said) in
    case_refused net earlier s.0 t.0 at mid new _ _ _ (record { line = (s.2, s.3); case = (t.2, t.3); second = c.in_ok-next_line.ensures.line; third = c.in_ok-place.ensures.line })
    says (λ h. false≢true (sym c.if-not-is_said.true ∙ test.1 ((case_right net earlier robust c.in_ok-place.place new.numbers.list t.0 d t.1).0 h))) c.in_ok-place.ensures.goes.reads

pub returns-clause-step : goal.returns-clause-step
returns-clause-step g c = λ earlier d.
    let net = c.args.net.now in
    let robust = c.args.robust.now in
    let at = c.args.at.now in
    let mid = c.next_line.new.at in
    let new = c.next_case.new.at in
    let s = c.in_ok-next_line.ensures.step in
    let t = c.in_ok-place.ensures.step in
    let one = subst (λ (zs : List ℤ). (c.says_one-is_one.result ≡ true) ↔ SaysOne zs) c.as_slice.ensures c.says_one-is_one.ensures in
    let says = line_agrees net earlier robust _ mid.numbers.list s.0 c.says_one-is_one.result c.says_line.result d s.1 one c.says_line.ensures c.if-is_one-says_line.false in
    let said = subst (λ (zs : List ℤ). CaseSaid c.in_ok-place.place zs (case_in t.0)) (sym c.as_slice-2.ensures) (case_said net c.in_ok-place.place new.numbers.list t.0 t.1) in
    let test = (let h = c.is_said.ensures in h (case_in t.0) said) in
    let e = test.0 c.if-not-is_said.false in
    both_right net earlier robust s.0 t.0 at mid new _ _ _ (record { line = (s.2, s.3); case = (t.2, t.3); second = c.in_ok-next_line.ensures.line; third = c.in_ok-place.ensures.line })
    says ((case_right net earlier robust c.in_ok-place.place new.numbers.list t.0 d t.1).1 e) e
