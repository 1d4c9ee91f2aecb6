use Rattle.crn_rank.proofs.Prelude.{◌≡◌, ℕ, Result, Ok, Err, OnOk, ap, sym, subst, ◌∙◌, Mat, AreEntered}
use Rattle.crn_rank.proofs.rank_proof.rank_by.Goals as goal

pub proof_of-requires-clause-entered : goal.proof_of-requires-clause-entered
proof_of-requires-clause-entered c =
    let t = c.enter_rows.new.self in
    let same : c.cols.result ≡ t.matrix.cols = c.cols.ensures ∙ sym (ap (λ (m : Mat). m.cols) c.enter_rows.ensures.matrix) in
    subst (λ (n : ℕ). AreEntered t.matrix t.basis n) same c.in_default.ensures.entered

on_ok : {T E : Type 0} (r : Result T E) (P : Type 0) → P → OnOk r P
on_ok (Ok x) P p = p
on_ok (Err e) P p = tt

pub returns-clause-entered : goal.returns-clause-entered
returns-clause-entered c =
    let t = c.enter_rows.new.self in
    let same : c.cols.result ≡ t.matrix.cols = c.cols.ensures ∙ sym (ap (λ (m : Mat). m.cols) c.enter_rows.ensures.matrix) in
    on_ok c.proof_of.result (AreEntered t.matrix t.basis t.matrix.cols) (subst (λ (n : ℕ). AreEntered t.matrix t.basis n) same c.in_default.ensures.entered)
