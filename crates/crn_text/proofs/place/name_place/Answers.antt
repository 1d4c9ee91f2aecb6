use Rattle.crn_text.proofs.Prelude.{List, ℕ, ◌++◌, refl, ap, ◌∙◌}
use Rattle.crn_text.proofs.place.name_place.Goals as goal

pub returns : goal.returns
returns c =
    let name = c.in_ok-name.name.now in
    let run = c.split_blanks_after_name.ensures in
    let blanks = c.split_blanks_after_name.result.0.now in
    record {
      name = name;
      blanks = blanks;
      whole = c.in_ok-name.ensures.0 ∙ ap (λ (u : List ℕ). name ++ u) (run.whole ∙ ap (λ (u : List ℕ). blanks ++ u) c.in_ok-after.ensures);
      named = c.in_ok-name.ensures.1;
      blank = run.all;
      at = refl;
      long = refl;
      counts = refl;
    }
