use Rattle.crn_indep_text.proofs.Prelude.{ℕ, List, sym, subst, ◌∙◌, arith, err_from_is_err_and, step_exits, IsShownForm, naturals, JudgesLines}
use Rattle.crn_indep_text.proofs.AnswersRead.{label_stop, up_stop, depth_stop, links_then, links_formed}
use Rattle.crn_indep_text.proofs.verify.next_links.Goals as goal

pub returns-in_err-label-clause-step : goal.returns-in_err-label-clause-step
returns-in_err-label-clause-step g c =
    step_exits _ _ c.from_residual.result _ _ _ _ _ (err_from_is_err_and c.from_residual.result c.from_residual.ensures.1) (label_stop c.args.net.now c.args.head c.args.proof.now _ c.args.at.now _ _ c.in_err-label.ensures.step)

pub returns-in_err-up-clause-step : goal.returns-in_err-up-clause-step
returns-in_err-up-clause-step g c =
    let s = c.in_ok-label.ensures.step in
    let e = c.in_err-up.field-0.0 in
    step_exits _ _ _ e _ _ _ _ (err_from_is_err_and _ c.from_residual-in_err-up.ensures.1)
    (up_stop c.args.net.now c.args.head c.args.proof.now s.0 e c.args.at.now c.next_label.new.at _ _ _ (s.2, s.3) c.in_ok-label.ensures.line c.in_err-up.ensures.step)

pub returns-in_err-depth-clause-step : goal.returns-in_err-depth-clause-step
returns-in_err-depth-clause-step g c =
    let s = c.in_ok-label.ensures.step in
    let u = c.in_ok-up.ensures.step in
    let e = c.in_err-depth.field-0.0 in
    step_exits _ _ _ e _ _ _ _ (err_from_is_err_and _ c.from_residual-in_err-depth.ensures.1)
    (depth_stop c.args.net.now c.args.head c.args.proof.now s.0 u.0 e c.args.at.now c.next_label.new.at c.next_up.new.at _ _ _ _ (s.2, s.3) c.in_ok-label.ensures.line (u.2, u.3) c.in_ok-up.ensures.line c.in_err-depth.ensures.step)

pub judged-requires-clause-form : goal.judged-requires-clause-form
judged-requires-clause-form g c =
    let net = c.args.net.now in
    let proof = c.args.proof.now in
    let s = c.in_ok-label.ensures.step in
    let u = c.in_ok-up.ensures.step in
    let d = c.in_ok-depth.ensures.step in
    let p = c.requires.proof in
    let label = c.as_slice.ensures ∙ (let a = s.1 in a.list) in
    let up = c.as_slice-2.ensures ∙ (let a = u.1 in a.list) in
    let depth = c.as_slice-3.ensures ∙ (let a = d.1 in a.list) in
    let form = links_formed net p.0 proof s.0 u.0 d.0 p.1 p.2 p.3 p.4 (let a = s.1 in a.form) (let a = u.1 in a.form) (let a = d.1 in a.form) in (
      p.0,
      subst (λ (xs : List ℕ). IsShownForm net p.0 proof xs c.as_slice-2.result.now c.as_slice-3.result.now) (sym label)
          (subst (λ (xs : List ℕ). IsShownForm net p.0 proof (naturals s.0) xs c.as_slice-3.result.now) (sym up)
          (subst (λ (xs : List ℕ). IsShownForm net p.0 proof (naturals s.0) (naturals u.0) xs) (sym depth) form)),
    )

pub judged-requires-clause-head : goal.judged-requires-clause-head
judged-requires-clause-head g c =
    omega (arith, c.requires.line, c.in_ok-label.ensures.line, c.in_ok-up.ensures.line, c.in_ok-depth.ensures.line, c.in_ok-depth.ensures.goes.reads.taken, c.in_ok-depth.ensures.goes.counted)

pub returns-clause-step : goal.returns-clause-step
returns-clause-step g c =
    let net = c.args.net.now in
    let proof = c.args.proof.now in
    let s = c.in_ok-label.ensures.step in
    let u = c.in_ok-up.ensures.step in
    let d = c.in_ok-depth.ensures.step in
    let label = c.as_slice.ensures ∙ (let a = s.1 in a.list) in
    let up = c.as_slice-2.ensures ∙ (let a = u.1 in a.list) in
    let depth = c.as_slice-3.ensures ∙ (let a = d.1 in a.list) in
    let judged = subst (λ (xs : List ℕ). JudgesLines net c.args.head proof xs (naturals u.0) (naturals d.0) c.judged.result) label
    (subst (λ (xs : List ℕ). JudgesLines net c.args.head proof c.as_slice.result.now xs (naturals d.0) c.judged.result) up
    (subst (λ (xs : List ℕ). JudgesLines net c.args.head proof c.as_slice.result.now c.as_slice-2.result.now xs c.judged.result) depth c.judged.ensures)) in
    links_then net c.args.head proof s.0 u.0 d.0 c.judged.result c.args.at.now c.next_label.new.at c.next_up.new.at c.next_depth.new.at _ _ _ _ (s.2, s.3) c.in_ok-label.ensures.line (u.2, u.3) c.in_ok-up.ensures.line (d.2, d.3) c.in_ok-depth.ensures.line c.in_ok-depth.ensures.goes.reads judged
