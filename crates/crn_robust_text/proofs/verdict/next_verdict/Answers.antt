use Rattle.crn_robust_text.proofs.Prelude.{refl, sym, subst, ◌∙◌, err_from_is_err_and, after_facts, step_exits, Verdict, Q1, Q2, Q5, IsTrueOf, IsTrueOrOpen, IsPicked, linkage_true, sound_on, strong_true}
use Rattle.crn_robust_text.proofs.VerdictsRead.{decides, rests_stops, rests_then, decided_stops, decided_then}
use Rattle.crn_robust_text.proofs.verdict.next_verdict.Goals as goal

pub is_rank_open-requires : goal.is_rank_open-requires
is_rank_open-requires g c = c.requires.holds.rank

pub returns-in_err-next_rests-clause-step : goal.returns-in_err-next_rests-clause-step
returns-in_err-next_rests-clause-step g c = λ blocks.
    let at = c.args.at.now in
    let after = after_facts c.args.net.now c.args.facts.now.earlier at.line blocks in
    step_exits _ _ c.from_residual.result _ at _ _ _ (err_from_is_err_and c.from_residual.result c.from_residual.ensures.1)
    (rests_stops c.args.net.now after _ at _ _ (sym c.is_rank_open.ensures ∙ c.if-is_rank_open.true) refl c.in_err-next_rests.ensures.step)

pub returns-then-is_rank_open-clause-step : goal.returns-then-is_rank_open-clause-step
returns-then-is_rank_open-clause-step g c = λ blocks.
    let at = c.args.at.now in
    let after = after_facts c.args.net.now c.args.facts.now.earlier at.line blocks in
    let s = c.in_ok-next_rests.ensures.step in
    rests_then c.args.net.now after s.0 at c.next_rests.new.at _ _ (sym c.is_rank_open.ensures ∙ c.if-is_rank_open.true) refl (s.2, s.3) c.in_ok-next_rests.ensures.line

pub returns-then-is_rank_open-clause-holds : goal.returns-then-is_rank_open-clause-holds
returns-then-is_rank_open-clause-holds g c = λ closed. absurd (closed refl)

pub pick-robust-requires-clause-linkage : goal.pick-robust-requires-clause-linkage
pick-robust-requires-clause-linkage g c = subst (IsTrueOf c.args.net.now Q1) (sym c.verdict.ensures) (linkage_true c.args.net.now c.args.facts.now c.requires.facts c.requires.holds.linkage)

pub pick-robust-requires-clause-strong : goal.pick-robust-requires-clause-strong
pick-robust-requires-clause-strong g c = subst (IsTrueOf c.args.net.now Q2) (sym c.verdict-2.ensures) (strong_true c.args.net.now c.args.facts.now c.requires.facts c.requires.holds.strong)

pub pick-robust-requires-clause-rank : goal.pick-robust-requires-clause-rank
pick-robust-requires-clause-rank g c = subst (IsTrueOrOpen c.args.net.now Q5) (sym c.verdict-3.ensures) (sound_on c.args.net.now c.args.facts.now.earlier Q5 c.requires.facts.sound c.requires.holds.rank)

pub returns-in_err-next_decided-clause-step : goal.returns-in_err-next_decided-clause-step
returns-in_err-next_decided-clause-step g c = λ blocks.
    let net = c.args.net.now in
    let at = c.args.at.now in
    let facts = c.args.facts.now in
    let shut = sym c.is_rank_open.ensures ∙ c.if-is_rank_open.false in
    let d = decides net facts c.pick-robust.result c.meets_definition.ensures c.requires.facts c.requires.holds shut (subst (λ (v : Verdict). IsPicked net v c.pick-robust.result) c.verdict-3.ensures c.pick-robust.ensures) in
    step_exits _ _ c.from_residual-in_err-next_decided.result _ at _ _ _ (err_from_is_err_and c.from_residual-in_err-next_decided.result c.from_residual-in_err-next_decided.ensures.1)
    (decided_stops net (after_facts net facts.earlier at.line blocks) _ at _ _ shut refl (let h = c.in_err-next_decided.ensures.step in h facts.earlier d.0))

pub returns-clause-step : goal.returns-clause-step
returns-clause-step g c = λ blocks.
    let net = c.args.net.now in
    let at = c.args.at.now in
    let facts = c.args.facts.now in
    let shut = sym c.is_rank_open.ensures ∙ c.if-is_rank_open.false in
    let d = decides net facts c.pick-robust.result c.meets_definition.ensures c.requires.facts c.requires.holds shut (subst (λ (v : Verdict). IsPicked net v c.pick-robust.result) c.verdict-3.ensures c.pick-robust.ensures) in
    decided_then net (after_facts net facts.earlier at.line blocks) c.pick-robust.result at c.next_decided.new.at _ _ shut refl (let h = c.in_ok-next_decided.ensures.step in h facts.earlier d.0)

pub returns-clause-holds : goal.returns-clause-holds
returns-clause-holds g c = λ closed.
    let shut = sym c.is_rank_open.ensures ∙ c.if-is_rank_open.false in
    let net = c.args.net.now in
    let picked = subst (λ (v : Verdict). IsPicked net v c.pick-robust.result) c.verdict-3.ensures c.pick-robust.ensures in
    (decides net c.args.facts.now c.pick-robust.result c.meets_definition.ensures c.requires.facts c.requires.holds shut picked).1
