use Rattle.crn_vec.proofs.Prelude.{◌∙◌, sym, refl, arith, pos, false≢true, Free, Pos, HasKind}
use Rattle.crn_vec.proofs.Entries.{zip_from, zip_at}
use Rattle.crn_vec.proofs.signs.agrees.Goals as goal

pub returns-then-not-has_kind : goal.returns-then-not-has_kind
returns-then-not-has_kind c = (
  λ t. absurd (false≢true t),
  λ h. absurd (false≢true (sym c.if-not-has_kind.true ∙ c.has_kind.ensures.1 (zip_at HasKind Pos (pos 0) c.args.kinds.now c.args.values.now h c.loop-k.k c.loop-k-test.true))),
)

pub returns : goal.returns
returns c = (λ t. zip_from HasKind Free (pos 0) c.args.kinds.now c.args.values.now c.requires (λ k lt. c.loop-k.invariant k (omega arith)), λ h. refl)
