use Rattle.crn_ctree.proofs.Prelude.{◌∙◌, get_or, refl, sym, arith, w128, to_z-of_z, false≢true, pair_kind, HasKind, all_at, all_given, no_pair}
use Rattle.crn_ctree.proofs.SignalLaws.{change, has_both, kind_next}
use Rattle.crn_ctree.proofs.signal.are_right_rises.Goals as goal

pub returns-then-not-has_kind : goal.returns-then-not-has_kind
returns-then-not-has_kind c =
    let s = c.args.shape.now in
    let shelves = c.args.shelves.now in
    let mu = c.args.mu.now in (
      λ t. absurd (false≢true t),
      λ h.
          let k = all_at (λ pair. HasKind (pair_kind shelves pair) (change s mu pair)) s.pairs c.loop-i.i no_pair h (omega (arith, c.loop-i-test.true, c.pairs-i-end.ensures.count)) in
          absurd (false≢true (sym c.if-not-has_kind.true ∙ c.has_kind.ensures.1 (has_both c.pair_kind.ensures (to_z-of_z w128 c.rise.result (record { sfits = c.rise.type_inv }) ∙ c.rise.ensures) k))),
    )

pub loop-i-preserved : goal.loop-i-preserved
loop-i-preserved c =
    let s = c.args.shape.now in
    kind_next (λ j. pair_kind c.args.shelves.now (get_or s.pairs j no_pair)) (λ j. change s c.args.mu.now (get_or s.pairs j no_pair)) c.loop-i.i c.loop-i.invariant c.pair_kind.ensures (to_z-of_z w128 c.rise.result (record { sfits = c.rise.type_inv }) ∙ c.rise.ensures) (c.has_kind.ensures.0 c.if-not-has_kind.false)

pub returns : goal.returns
returns c =
    let s = c.args.shape.now in
    let shelves = c.args.shelves.now in
    let mu = c.args.mu.now in (
      λ t. all_given (λ pair. HasKind (pair_kind shelves pair) (change s mu pair)) s.pairs no_pair (λ k lt. c.loop-i.invariant k (omega (arith, lt, c.pairs-i-end.ensures.count, c.loop-i-test.false, c.loop-i.auto.i-end))),
      λ h. refl,
    )
