use Rattle.crn_check.proofs.Prelude.{err_from_is_err_and, inl, inr, refl, Q12, Q13, formed_answers_have_formed_verdicts, IsBuilt}
use Rattle.crn_check.proofs.Fits.{answer_fits}
use Rattle.crn_check.proofs.Forms.{facts_push}
use Rattle.crn_check.proofs.SignalRows.{lists_fit, rows_stop, rows_hold}
use Rattle.crn_check.proofs.Truths.{answer_valid, sound_on, strong_true}
use Rattle.crn_check.proofs.check.check_signal_answer.Goals as goal

built : IsBuilt 13
built = inr (inr (inr (inr (inr (inr (inr (inr (inr (inr (inr (inr (inl refl))))))))))))

pub check_signal_rows-requires : goal.check_signal_rows-requires
check_signal_rows-requires c =
    let net = c.args.net.now in
    let facts = c.args.facts.now in
    let a = c.args.answer.now in
    lists_fit net facts.earlier a.verdict c.args.shape.now (strong_true net facts c.requires.facts c.requires.needs.0) (sound_on net facts.earlier Q12 c.requires.facts.sound c.requires.needs.1.1.0)
    (formed_answers_have_formed_verdicts net facts.earlier Q13 a.verdict a.proof c.requires.formed) c.requires.shape

pub accept-requires-clause-fits : goal.accept-requires-clause-fits
accept-requires-clause-fits c = answer_fits c.args.net.now c.args.facts.now 13 c.args.answer.now c.meets_definition.ensures built c.requires.facts c.requires.needs c.requires.formed

pub returns-in_err-check_signal_rows-clause-judged : goal.returns-in_err-check_signal_rows-clause-judged
returns-in_err-check_signal_rows-clause-judged c =
    let net = c.args.net.now in
    let facts = c.args.facts.now in
    let a = c.args.answer.now in
    let p = err_from_is_err_and c.from_residual-in_err-check_signal_rows.result c.from_residual-in_err-check_signal_rows.ensures.1 in
    rows_stop net facts.earlier a c.args.shape.now c.from_residual-in_err-check_signal_rows.result p.0 c.in_err-check_signal_rows.field-0.0 c.meets_definition.ensures (sound_on net facts.earlier Q12 c.requires.facts.sound c.requires.needs.1.1.0)
    c.requires.shape p.1 p.2 c.in_ok-check_head.ensures c.in_err-check_signal_rows.ensures

pub returns-clause-judged : goal.returns-clause-judged
returns-clause-judged c =
    let net = c.args.net.now in
    let facts = c.args.facts.now in
    let a = c.args.answer.now in
    rows_hold net facts.earlier a c.args.shape.now c.meets_definition.ensures (sound_on net facts.earlier Q12 c.requires.facts.sound c.requires.needs.1.1.0) c.requires.shape c.in_ok-check_head.ensures c.in_ok-check_signal_rows.ensures

pub returns-clause-sound : goal.returns-clause-sound
returns-clause-sound c = answer_valid c.args.net.now c.args.facts.now 13 c.args.answer.now c.meets_definition.ensures built c.requires.facts c.requires.needs c.requires.formed (returns-clause-judged c)

pub returns-clause-facts : goal.returns-clause-facts
returns-clause-facts c = facts_push c.args.net.now c.args.facts.now c.accept.new.self 13 c.args.answer.now c.requires.facts c.requires.formed c.accept.ensures (returns-clause-sound c)
