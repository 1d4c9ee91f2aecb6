use Rattle.crn_ctree.proofs.Prelude.{ap, subst, sym, ◌∙◌, false≢true, all_zero, AreOfColumns, table_of}
use Rattle.crn_ctree.proofs.PairLaws.{shown, balanced_zero, some_change, all_of_kinds}
use Rattle.crn_ctree.proofs.pair.check_pair.Goals as goal

pub returns-then-not-is_all_zero : goal.returns-then-not-is_all_zero
returns-then-not-is_all_zero c =
    let zero = c.is_all_zero.ensures ∙ ap all_zero c.put_signs.ensures in (
      λ t. absurd (false≢true t),
      λ d. absurd (false≢true (sym c.if-not-is_all_zero.true ∙ zero ∙ balanced_zero c.args.net.now c.args.table c.args.alpha.now c.args.weights.now d)),
    )

pub returns-then-is_all_zero : goal.returns-then-is_all_zero
returns-then-is_all_zero c =
    let zero = c.is_all_zero-2.ensures ∙ ap all_zero c.put_signs-2.ensures in (
      λ t. absurd (false≢true t),
      λ d. absurd (false≢true (sym (some_change c.args.net.now c.args.table c.args.alpha.now c.args.weights.now d) ∙ sym zero ∙ c.if-is_all_zero.true)),
    )

pub returns : goal.returns
returns c =
    let net = c.args.net.now in
    let zero = c.is_all_zero.ensures ∙ ap all_zero c.put_signs.ensures in
    let some = c.is_all_zero-2.ensures ∙ ap all_zero c.put_signs-2.ensures in (
      λ t. shown net c.species.ensures.network c.args.table c.args.alpha.now c.args.weights.now c.requires.alpha.long c.requires.weights.long (sym zero ∙ c.if-not-is_all_zero.false) (sym some ∙ c.if-is_all_zero.false)
          (subst (λ p. AreOfColumns (table_of net c.args.table) p c.args.alpha.now) c.put_signs-2.ensures (c.all_have_kinds.ensures.0 t)),
      λ d. c.all_have_kinds.ensures.1 (subst (λ p. AreOfColumns (table_of net c.args.table) p c.args.alpha.now) (sym c.put_signs-2.ensures) (all_of_kinds net c.species.ensures.network c.args.table c.args.alpha.now c.args.weights.now d)),
    )
