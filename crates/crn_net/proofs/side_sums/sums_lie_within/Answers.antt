use Rattle.crn_net.proofs.Prelude.{◌≡◌, ◌+◌, ◌<◌, length, get_or, refl, sym, ◌∙◌, arith, rules, w32, pos, ◌+ℤ◌, ints, Share, name_in}
use mir.Val.{SFits}
use Rattle.crn_net.proofs.Sums.{names_differ, names_agree, summing_at, summing_more, summing_next, summing_stops}
use Rattle.crn_net.proofs.side_sums.sums_lie_within.Goals as goal
use Rattle.crn_net.proofs.side_sums.sums_lie_within.Goals.{then-ne+else-sum-lt0+else-limit-sum, else-ne, then-sum-lt0-via-then-sum-lt0, then-sum-lt0-via-else-sum-lt0+then-limit-sum}

abbrev none : Share
none = record { at = 0; length = 0; count = pos 0 }

pub loop-share-preserved : goal.loop-share-preserved
loop-share-preserved c =
    let text = c.args.text.now in
    let shares = c.args.shares.now in
    let i = c.loop-share.share-index in
    let name = c.loop-share.name.now in
    let next = c.name-next.result.now in
    let share = get_or shares i none in
    let fits : SFits w32 share.count = search rules in
    let here : next ≡ name_in text share = c.name-next.ensures in
    let test = c.ne.ensures in
    let lt : i < length shares = c.loop-share-test.true in
    let add = c.from-sum.ensures in
    elim c.if-ne.branch [
      | then-ne+else-sum-lt0+else-limit-sum w ↦
          let ne = names_differ next name c.ne.result test w.if-ne.true in
          let is : name_in text share ≡ c.if-ne.name.now = let e = w.name-is in cc in
          let started = w.sum-is in
          let low = w.if-sum-lt0.false in
          let high = w.if-limit-sum.false in
          summing_at text shares (i + 1) _ _ (name_in text share) _ (pos 0 +ℤ share.count) _ refl is (omega (arith, ints, started, add, fits))
          (summing_next text shares _ i none name _ c.requires.by_name c.loop-share.invariant lt (λ e. ne (here ∙ e)) (omega (arith, ints, low), omega (arith, ints, high)) fits)
      | else-ne w ↦
          let same = names_agree next name c.ne.result test w.if-ne.false in
          let is : name ≡ c.if-ne.name.now = let e = w.name-is in cc in
          let kept = w.sum-is in
          summing_at text shares (i + 1) _ _ name _ (_ +ℤ share.count) _ refl is (omega (arith, ints, kept, add, fits))
          (summing_more text shares _ i none name _ c.loop-share.invariant lt (sym here ∙ same) fits)
    ]

pub returns-then-sum-lt0 : goal.returns-then-sum-lt0
returns-then-sum-lt0 c = (
  λ no'. absurd cc,
  λ h.
      let text = c.args.text.now in
      let shares = c.args.shares.now in
      let name = c.loop-share.name.now in
      let next = c.name-next.result.now in
      let here : next ≡ name_in text (get_or shares c.loop-share.share-index none) = c.name-next.ensures in
      let ne = names_differ next name c.ne.result c.ne.ensures c.if-ne.true in
      let whole = h name in
      absurd (summing_stops text shares _ c.loop-share.share-index none name _ c.requires.by_name c.loop-share.invariant c.loop-share-test.true (λ e. ne (here ∙ e)) (omega (arith, ints))
      (λ within. elim c.then-sum-lt0.branch [
        | then-sum-lt0-via-then-sum-lt0 w ↦ let low = w.if-sum-lt0.true in let least = within.0 in absurd (omega (arith, ints, low, least))
        | then-sum-lt0-via-else-sum-lt0+then-limit-sum w ↦ let high = w.if-limit-sum.true in let most = within.1 in absurd (omega (arith, ints, high, most))
      ]) (whole.0, omega (arith, ints, whole))),
)
