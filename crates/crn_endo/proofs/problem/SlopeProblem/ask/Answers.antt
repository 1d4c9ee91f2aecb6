use Rattle.crn_endo.proofs.Prelude.{◌≡◌, ◌<◌, ℕ, inl, inr, sym, ap, subst, ◌∙◌, arith, Mat, width, kind_at, eq_or, kind_in, word_count, put_here, put_other, slope_kinds, firm_kind}
use Rattle.crn_endo.proofs.problem.SlopeProblem.ask.Goals as goal

pub kind-requires : goal.kind-requires
kind-requires c =
    let p = c.args.self.now in
    let lt : c.loop-k.k < width p.matrix = omega (arith, c.loop-k-test.true, c.cols.ensures.count, c.rows.ensures.count) in
    subst (λ (a : Mat). c.loop-k.k < width a) p.matrix_is lt

pub put_asked-requires : goal.put_asked-requires
put_asked-requires c = omega (arith, c.loop-k.invariant.count, c.loop-k-test.true, c.cols.ensures.count, c.rows.ensures.count)

pub loop-k-preserved : goal.loop-k-preserved
loop-k-preserved c =
    let old = c.loop-k.asked in
    let new = c.put_asked.new.words in
    let s = c.args.self.now.given.now in
    let kinds = slope_kinds s.net s.reaction c.args.prefix.now in
    let is = c.put_asked.ensures in
    let x = c.asked_of_kind.result in
    record {
      count = is.count ∙ c.loop-k.invariant.count;
      done = λ j lt. elim (eq_or j c.loop-k.k) as (λ _. kind_in new j ≡ firm_kind (kind_at kinds j)) [
        | inl e ↦ subst (λ (i : ℕ). kind_in new i ≡ firm_kind (kind_at kinds i)) (sym e) (put_here old c.loop-k.k x new is ∙ c.asked_of_kind.ensures ∙ ap firm_kind c.kind.ensures)
        | inr ne ↦ put_other old c.loop-k.k x new is j ne ∙ c.loop-k.invariant.done j (omega (arith, lt, ne))
      ];
    }

pub returns : goal.returns
returns c =
    let p = c.args.self.now in
    record {
      count = c.loop-k.invariant.count ∙ ap word_count p.matrix_is;
      each = λ k lt.
          let inside : k < width p.matrix = subst (λ (a : Mat). k < width a) (sym p.matrix_is) lt in
          c.loop-k.invariant.done k (omega (arith, inside, c.loop-k-test.false, c.cols.ensures.count, c.rows.ensures.count));
    }
