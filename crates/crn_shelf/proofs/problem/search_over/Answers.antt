use Rattle.crn_shelf.proofs.Prelude.{length, ap, ◌∙◌, sym, Mat, signals, rows_count, IsSearchEnd, IsSearchStop}
use Rattle.crn_shelf.proofs.Searched.{matched, end_by, stop_by}
use Rattle.crn_shelf.proofs.problem.search_over.Goals as goal

pub invariant_of-problem : goal.invariant_of-problem
invariant_of-problem c = record {
  choices_are = c.in_ok-choices.ensures;
  coordinates_b_are = c.in_ok-coordinates_b.ensures;
  part_a = c.in_ok-system.ensures;
  species = ap (λ (a : Mat). length a.rows) c.in_ok-matrix.ensures ∙ rows_count c.args.net.now ∙ sym c.requires.species;
}

pub returns : goal.returns
returns c =
    let net = c.args.net.now in
    let s = c.args.shape.now in
    let m = c.in_ok-matrix.matrix in
    matched (IsSearchEnd (signals s m) c.args.budget) _ (IsSearchStop (signals s m)) _ c.search.result
    (λ e h. end_by net s m c.args.budget e c.in_ok-matrix.ensures h) (λ e h. stop_by net s m e c.in_ok-matrix.ensures h) c.search.ensures
