use Rattle.crn_ctree.proofs.Prelude.{◌∙◌, [], get_or, refl, sym, arith, ◌-ℤ◌, None, w128, to_z-of_z, false≢true, complex_at, top_kind, HasKind, dot, zip_from, zip_at}
use Rattle.crn_ctree.proofs.SignalLaws.{has_both, kind_next}
use Rattle.crn_ctree.proofs.signal.are_on_shelves.Goals as goal

pub returns-then-not-has_kind : goal.returns-then-not-has_kind
returns-then-not-has_kind c =
    let s = c.args.shape.now in
    let shelves = c.args.shelves.now in
    let mu = c.args.mu.now in
    let r = c.loop-c.c in (
      λ t. absurd (false≢true t),
      λ h.
          let k = zip_at (λ top y. HasKind (top_kind shelves top) (dot y mu -ℤ c.args.level.now)) None [] s.tops s.complexes h r (omega (arith, c.loop-c-test.true, c.complexes-c-end.ensures.tops)) in
          absurd (false≢true (sym c.if-not-has_kind.true ∙ c.has_kind.ensures.1 (has_both c.complex_kind.ensures (to_z-of_z w128 c.height.result (record { sfits = c.height.type_inv }) ∙ c.height.ensures) k))),
    )

pub loop-c-preserved : goal.loop-c-preserved
loop-c-preserved c =
    let s = c.args.shape.now in
    kind_next (λ j. top_kind c.args.shelves.now (get_or s.tops j None)) (λ j. dot (complex_at s j) c.args.mu.now -ℤ c.args.level.now) c.loop-c.c c.loop-c.invariant c.complex_kind.ensures (to_z-of_z w128 c.height.result (record { sfits = c.height.type_inv }) ∙ c.height.ensures) (c.has_kind.ensures.0 c.if-not-has_kind.false)

pub returns : goal.returns
returns c =
    let s = c.args.shape.now in
    let shelves = c.args.shelves.now in
    let mu = c.args.mu.now in (
      λ t. zip_from (λ top y. HasKind (top_kind shelves top) (dot y mu -ℤ c.args.level.now)) None [] s.tops s.complexes (sym c.complexes-c-end.ensures.count ∙ c.complexes-c-end.ensures.tops)
          (λ k lt. c.loop-c.invariant k (omega (arith, lt, c.complexes-c-end.ensures.tops, c.loop-c-test.false, c.loop-c.auto.c-end))),
      λ h. refl,
    )
