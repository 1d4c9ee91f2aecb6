use Rattle.crn_document.proofs.Prelude.{inl, inr}
use Rattle.crn_document.proofs.Linkages.{holds_second}
use Rattle.crn_document.proofs.rows.push_many.Goals as goal

pub strong_of-requires : goal.strong_of-requires
strong_of-requires c = holds_second c.args.net.now c.args.question c.args.facts.now (inl c.if-question-eq11.true) c.requires.known

pub strong_of-requires-then-place-eq1-3 : goal.strong_of-requires-then-place-eq1-3
strong_of-requires-then-place-eq1-3 c = holds_second c.args.net.now c.args.question c.args.facts.now (inr c.if-question-eq13.true) c.requires.known
