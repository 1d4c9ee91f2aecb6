use Rattle.crn_ctext.proofs.Prelude.{◌≡◌, [], take, forms_in, texts_of, AreTried}
use Rattle.crn_ctext.proofs.part.seek_choice.Given as goal

abbrev pub invariant-loop-choice : goal.invariant-loop-choice
invariant-loop-choice l = record {
  tried : AreTried l.so_far (take l.choice-index (forms_in (texts_of l.words) l.due l.runs)) l.line;
  list : l.into.list ≡ [];
  spare : l.into.spare ≡ l.initial.into.spare;
}
