use Rattle.crn_ctree.proofs.Prelude.{◌≡◌, ◌+◌, length, refl, sym, ap, subst, ◌∙◌, arith, IsTrue, false≢true, width, MayWeigh, kind_at, HasSign, Mat, entry, AreFree, kinds_of, matrix_of, weights_of}
use Rattle.crn_ctree.proofs.CutLaws.{CountsTo, may_next, counts_more, counts_here, counts_last, cut_from, cut_weighs, cut_counts}
use Rattle.crn_ctree.proofs.cut.rules_out.Goals.{then-counts_at, else-counts_at}
use Rattle.crn_ctree.proofs.cut.rules_out.Goals as goal

pub fits-requires : goal.fits-requires
fits-requires c =
    let e = ap (λ (a : Mat). width a) (c.system_of-system.ensures.matrix c.args.net.now) in
    omega (arith, e, c.loop-k-test.true, c.loop-k.auto.k-end, c.columns.ensures.count, c.rows.ensures.count)

pub counts_at-requires : goal.counts_at-requires
counts_at-requires c =
    let e = ap (λ (a : Mat). width a) (c.system_of-system.ensures.matrix c.args.net.now) in
    omega (arith, e, c.loop-k-test.true, c.loop-k.auto.k-end, c.columns.ensures.count, c.rows.ensures.count)

pub skips_by-skips-requires : goal.skips_by-skips-requires
skips_by-skips-requires c =
    subst (λ (a : Mat). AreFree (length a.rows) c.args.u.now) (sym (c.system_of-system.ensures.matrix c.args.net.now)) c.requires

pub weight-sign-requires-clause-numbers : goal.weight-sign-requires-clause-numbers
weight-sign-requires-clause-numbers c =
    subst (λ (a : Mat). AreFree (length a.rows) c.args.u.now) (sym (c.system_of-system.ensures.matrix c.args.net.now)) c.requires

pub weight-sign-requires-clause-place : goal.weight-sign-requires-clause-place
weight-sign-requires-clause-place c = omega (arith, c.loop-k-test.true, c.loop-k.auto.k-end, c.columns.ensures.count, c.rows.ensures.count)

pub returns-then-not-fits : goal.returns-then-not-fits
returns-then-not-fits c =
    let net = c.args.net.now in
    let u = c.args.u.now in
    let a = matrix_of net c.args.problem c.args.part in
    let kinds = kinds_of net c.args.problem c.args.part c.args.prefix.now in
    let w = weights_of a u in
    let k = c.loop-k.k in
    let sign = subst (λ (b : Mat). HasSign c.weight-sign.result (entry (weights_of b u) k)) (c.system_of-system.ensures.matrix net) c.weight-sign.ensures in (
      λ t. absurd (false≢true t),
      λ cut.
          let m = cut_weighs a kinds u c.requires.long cut k in
          absurd (false≢true (sym c.if-not-fits.true ∙ (c.fits.ensures (entry w k) sign).1 m)),
    )

pub loop-k-preserved : goal.loop-k-preserved
loop-k-preserved c =
    let net = c.args.net.now in
    let u = c.args.u.now in
    let a = matrix_of net c.args.problem c.args.part in
    let kinds = kinds_of net c.args.problem c.args.part c.args.prefix.now in
    let w = weights_of a u in
    let k = c.loop-k.k in
    let sign = subst (λ (b : Mat). HasSign c.weight-sign.result (entry (weights_of b u) k)) (c.system_of-system.ensures.matrix net) c.weight-sign.ensures in
    let weighs : MayWeigh (kind_at kinds k) (entry w k) = (c.fits.ensures (entry w k) sign).0 c.if-not-fits.false in
    let tells = c.counts_at.ensures (entry w k) sign in (
      may_next kinds w k c.loop-k.invariant.0 weighs,
      elim c.if-counts_at.branch as (λ _. (IsTrue c.if-counts_at.some → CountsTo kinds w (k + 1)) × (CountsTo kinds w (k + 1) → IsTrue c.if-counts_at.some)) [
        | then-counts_at b ↦
            let here = tells.0 b.if-counts_at.true in
            (λ _. counts_here kinds w k refl here.0 here.1, λ _. b.some-is)
        | else-counts_at b ↦ (
          λ t. counts_more kinds w k (c.loop-k.invariant.1.0 (sym b.some-is ∙ t)),
          λ h. b.some-is ∙ c.loop-k.invariant.1.1 (counts_last kinds w k refl h (λ s. absurd (false≢true (sym b.if-counts_at.false ∙ tells.1 s)))),
        )
      ],
    )

pub returns : goal.returns
returns c =
    let net = c.args.net.now in
    let u = c.args.u.now in
    let a = matrix_of net c.args.problem c.args.part in
    let kinds = kinds_of net c.args.problem c.args.part c.args.prefix.now in
    let n = c.loop-k.k in
    let e = c.system_of-system.ensures.matrix net in
    let same = ap (λ (b : Mat). width b) e in
    let long : length kinds ≡ width a = c.system_of-system.ensures.kinds net c.args.prefix.now ∙ same in
    let all : n ≡ width a = omega (arith, same, c.loop-k-test.false, c.loop-k.auto.k-end, c.columns.ensures.count, c.rows.ensures.count) in (
      λ t. cut_from a kinds u n c.requires.long long all c.loop-k.invariant.0 (c.loop-k.invariant.1.0 t),
      λ cut. c.loop-k.invariant.1.1 (cut_counts a kinds u n c.requires.long all cut),
    )
