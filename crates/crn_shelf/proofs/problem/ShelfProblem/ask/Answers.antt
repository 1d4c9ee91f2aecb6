use Rattle.crn_shelf.proofs.Prelude.{◌≡◌, ◌<◌, ℕ, inl, inr, sym, subst, ◌∙◌, arith, Mat, width, shelf_kinds, kind_at, eq_or, kind_in, put_here, put_other}
use Rattle.crn_shelf.proofs.ShelfKinds.{shelf_strict}
use Rattle.crn_shelf.proofs.problem.ShelfProblem.ask.Goals as goal

pub kind-requires : goal.kind-requires
kind-requires c =
    let p = c.args.self.now in
    let lt : c.loop-k.k < width p.system = omega (arith, c.loop-k-test.true, c.cols.ensures.count, c.rows.ensures.count) in
    subst (λ (a : Mat). c.loop-k.k < width a) p.part_a lt

pub put_asked-requires : goal.put_asked-requires
put_asked-requires c = omega (arith, c.loop-k.invariant.count, c.loop-k-test.true, c.cols.ensures.count, c.rows.ensures.count)

pub asked_of_kind-requires : goal.asked_of_kind-requires
asked_of_kind-requires c = λ e. shelf_strict c.args.self.now.shape.now c.args.prefix.now c.loop-k.k (sym c.kind.ensures ∙ e)

pub loop-k-preserved : goal.loop-k-preserved
loop-k-preserved c =
    let old = c.loop-k.asked in
    let new = c.put_asked.new.words in
    let kinds = shelf_kinds c.args.self.now.shape.now c.args.prefix.now in
    let is = c.put_asked.ensures in
    record {
      count = is.count ∙ c.loop-k.invariant.count;
      done = λ j lt. elim (eq_or j c.loop-k.k) as (λ _. kind_in new j ≡ kind_at kinds j) [
        | inl e ↦ subst (λ (i : ℕ). kind_in new i ≡ kind_at kinds i) (sym e) (put_here old c.loop-k.k c.asked_of_kind.result new is ∙ c.asked_of_kind.ensures ∙ c.kind.ensures)
        | inr ne ↦ put_other old c.loop-k.k c.asked_of_kind.result new is j ne ∙ c.loop-k.invariant.done j (omega (arith, lt, ne))
      ];
    }

pub returns : goal.returns
returns c = record {
  count = c.loop-k.invariant.count;
  each = λ k lt. c.loop-k.invariant.done k (omega (arith, lt, c.loop-k-test.false, c.cols.ensures.count, c.rows.ensures.count));
}
