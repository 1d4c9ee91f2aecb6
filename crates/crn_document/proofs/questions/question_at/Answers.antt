use Rattle.crn_document.proofs.Prelude.{sym, subst, ℕ, IsAt}
use Rattle.crn_document.proofs.Places.{at_place}
use Rattle.crn_document.proofs.questions.question_at.Goals as goal

pub returns : goal.returns
returns c = subst (λ (n : ℕ). IsAt c.args.place n) (sym c.question_number.ensures) (at_place c.args.place c.requires.first c.requires.last)
