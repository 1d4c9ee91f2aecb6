use Rattle.crn_shelf.proofs.Prelude.{◌≡◌, ◌<◌, ℕ, inl, inr, sym, subst, ◌∙◌, arith, Mat, width, shelf_kinds, kind_at, eq_or, kind_in, added_kind}
use Rattle.crn_shelf.proofs.Gradual.{added_strict}
use Rattle.crn_shelf.proofs.ShelfKinds.{shelf_strict}
use Rattle.crn_shelf.proofs.choice.put_added.Goals as goal

pub added_kind-requires : goal.added_kind-requires
added_kind-requires c =
    let lt : c.loop-k.k < width c.args.matrix.now = omega (arith, c.loop-k-test.true, c.cols.ensures.count, c.rows.ensures.count) in
    subst (λ (a : Mat). c.loop-k.k < width a) c.requires.matrix lt

pub put_kind-requires : goal.put_kind-requires
put_kind-requires c =
    let s = c.args.shape.now in
    let old = kind_at (shelf_kinds s c.args.before.now) c.loop-k.k in
    let new = kind_at (shelf_kinds s c.args.prefix.now) c.loop-k.k in
    record {
      inside = omega (arith, c.loop-k.invariant.count, c.loop-k-test.true, c.cols.ensures.count, c.rows.ensures.count);
      free = c.loop-k.invariant.free c.loop-k.k (omega arith);
      kind = λ e. added_strict old new (shelf_strict s c.args.prefix.now c.loop-k.k) (sym c.added_kind.ensures ∙ e);
    }

pub loop-k-init : goal.loop-k-init
loop-k-init c = record {
  count = c.requires.count;
  done = λ j lt. absurd (omega (arith, lt));
  free = λ j le. c.requires.free j;
}

pub loop-k-preserved : goal.loop-k-preserved
loop-k-preserved c =
    let s = c.args.shape.now in
    let new = c.put_kind.new.words in
    let is = c.put_kind.ensures in
    let there = λ (j : ℕ). added_kind (kind_at (shelf_kinds s c.args.before.now) j) (kind_at (shelf_kinds s c.args.prefix.now) j) in
    record {
      count = is.count ∙ c.loop-k.invariant.count;
      done = λ j lt. elim (eq_or j c.loop-k.k) as (λ _. kind_in new j ≡ there j) [
        | inl e ↦ subst (λ (i : ℕ). kind_in new i ≡ there i) (sym e) (is.here ∙ c.added_kind.ensures)
        | inr ne ↦ is.others j ne ∙ c.loop-k.invariant.done j (omega (arith, lt, ne))
      ];
      free = λ j le. is.others j (λ e. omega (arith, le, e)) ∙ c.loop-k.invariant.free j (omega (arith, le));
    }

pub returns : goal.returns
returns c = record {
  count = c.loop-k.invariant.count;
  added = λ k lt. c.loop-k.invariant.done k (omega (arith, lt, c.loop-k-test.false, c.cols.ensures.count, c.rows.ensures.count));
}
