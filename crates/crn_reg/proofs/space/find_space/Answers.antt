use Rattle.crn_reg.proofs.Prelude.{◌≡◌, ℕ, ap, sym, subst, ◌∙◌, Mat, AreEntered}
use Rattle.crn_reg.proofs.space.find_space.Goals as goal

pub by_columns-requires : goal.by_columns-requires
by_columns-requires c =
    let t = c.enter_rows.new.self in
    let same : c.cols.result ≡ t.matrix.cols = c.cols.ensures.count ∙ sym (ap (λ (m : Mat). m.cols) (c.enter_rows.ensures.matrix ∙ c.in_ok-tableau.ensures.matrix)) in
    subst (λ (n : ℕ). AreEntered t.matrix t.basis n) same c.in_default.ensures.entered
