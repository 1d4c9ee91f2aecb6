use Rattle.crn_indep_text.proofs.Prelude.{◌-◌, ◌∷◌, [], ℕ, suc, length, refl, ap, Ok, Err, codes, add-one, err_from_is_err_and, free_form, step_exits, stops_here, dual_forms, comb_forms}
use Rattle.crn_reading.specs.declared.fault.CheckStop.TheVariants as stop
use Rattle.crn_indep_text.proofs.LinesRead.{rows_named}
use Rattle.crn_indep_text.proofs.AnswersRead.{proof_stop, duals_stop, combs_stop_after, proof_then}
use Rattle.crn_indep_text.proofs.proof.next_proof.Goals as goal

pub returns-in_err-duals-clause-step : goal.returns-in_err-duals-clause-step
returns-in_err-duals-clause-step g c =
    step_exits _ _ c.from_residual.result stop.NoMemory _ _ _ _ (err_from_is_err_and c.from_residual.result c.from_residual.ensures.1) (stops_here c.args.at.now _ c.requires.goes.reads, refl)

pub returns-in_err-combs-clause-step : goal.returns-in_err-combs-clause-step
returns-in_err-combs-clause-step g c =
    step_exits _ _ _ stop.NoMemory _ _ _ _ (err_from_is_err_and _ c.from_residual-in_err-combs.ensures.1) (stops_here c.args.at.now _ c.requires.goes.reads, refl)

pub returns-in_err-base-clause-step : goal.returns-in_err-base-clause-step
returns-in_err-base-clause-step g c =
    step_exits _ _ _ c.in_err-base.field-0.0 _ _ _ _ (err_from_is_err_and _ c.from_residual-in_err-base.ensures.1) (proof_stop c.args.net.now c.args.rank _ c.args.at.now _ _ c.in_err-base.ensures.step)

pub returns-in_err-next_rows-clause-step : goal.returns-in_err-next_rows-clause-step
returns-in_err-next_rows-clause-step g c =
    let net = c.args.net.now in
    let s = c.in_ok-base.ensures.step in
    let e = c.in_err-next_rows.field-0.0 in
    let species = c.species-species.ensures.count in
    step_exits _ _ _ e _ _ _ _ (err_from_is_err_and _ c.from_residual-in_err-next_rows.ensures.1)
    (duals_stop net c.args.rank s.0 e c.args.at.now c.next_base.new.at _ _ _ (s.2, s.3) c.in_ok-base.ensures.line
    (rows_named _ (dual_forms net) _ (length net.names) _ c.args.rank _ [] c.next_rows.new.into (Err e) c.next_base.new.at c.next_rows.new.at _ _ (ap (λ (n : ℕ). free_form (codes "dual") n ∷ []) species) species refl c.in_ok-duals.ensures c.in_err-next_rows.ensures.step))

pub returns-in_err-next_rows-2-clause-step : goal.returns-in_err-next_rows-2-clause-step
returns-in_err-next_rows-2-clause-step g c =
    let net = c.args.net.now in
    let rank = c.args.rank in
    let s = c.in_ok-base.ensures.step in
    let e = c.in_err-next_rows-2.field-0.0 in
    let species = c.species-species.ensures.count in
    let duals = rows_named _ (dual_forms net) _ (length net.names) _ rank _ [] c.next_rows.new.into (Ok tt) c.next_base.new.at c.next_rows.new.at _ _ (ap (λ (n : ℕ). free_form (codes "dual") n ∷ []) species) species refl c.in_ok-duals.ensures c.in_ok-next_rows.ensures.step in
    step_exits _ _ _ e _ _ _ _ (err_from_is_err_and _ c.from_residual-in_err-next_rows-2.ensures.1)
    (combs_stop_after net rank s.0 c.next_rows.new.into e c.args.at.now c.next_base.new.at c.next_rows.new.at _ _ _ _ (s.2, s.3) c.in_ok-base.ensures.line duals c.in_ok-next_rows.ensures.line
    (rows_named _ (comb_forms rank) _ (suc rank) _ (length net.reactions - rank) _ [] c.next_rows-2.new.into (Err e) c.next_rows.new.at c.next_rows-2.new.at _ _ (ap (λ (n : ℕ). free_form (codes "comb") n ∷ []) (add-one rank)) (add-one rank) (ap (λ (n : ℕ). n - rank) c.reactions.ensures.count) c.in_ok-combs.ensures c.in_err-next_rows-2.ensures.step))

pub returns-clause-step : goal.returns-clause-step
returns-clause-step g c =
    let net = c.args.net.now in
    let rank = c.args.rank in
    let s = c.in_ok-base.ensures.step in
    let species = c.species-species.ensures.count in
    let duals = rows_named _ (dual_forms net) _ (length net.names) _ rank _ [] c.next_rows.new.into (Ok tt) c.next_base.new.at c.next_rows.new.at _ _ (ap (λ (n : ℕ). free_form (codes "dual") n ∷ []) species) species refl c.in_ok-duals.ensures c.in_ok-next_rows.ensures.step in
    let combs = rows_named _ (comb_forms rank) _ (suc rank) _ (length net.reactions - rank) _ [] c.next_rows-2.new.into (Ok tt) c.next_rows.new.at c.next_rows-2.new.at _ _ (ap (λ (n : ℕ). free_form (codes "comb") n ∷ []) (add-one rank)) (add-one rank) (ap (λ (n : ℕ). n - rank) c.reactions.ensures.count) c.in_ok-combs.ensures c.in_ok-next_rows-2.ensures.step in
    proof_then net rank s.0 c.in_ok-base.base c.next_rows.new.into c.next_rows-2.new.into c.args.at.now c.next_base.new.at c.next_rows.new.at c.next_rows-2.new.at _ _ _ _ s.1 (s.2, s.3) c.in_ok-base.ensures.line duals c.in_ok-next_rows.ensures.line combs
