use Rattle.crn_check.proofs.Prelude.{◌≡◌, ◌≢◌, ◌<◌, length, get_or, refl, sym, ap, ◌∙◌, arith, of_z, pos, w128, ints, refused, vector_of, vectors_of}
use Rattle.crn_check.proofs.Decided.{granted}
use Rattle.crn_check.proofs.RankParts.{product_at, length_vectors, own_next, others_next}
use Rattle.crn_check.proofs.duals.is_dual.Goals as goal
use Rattle.crn_check.proofs.duals.is_dual.Goals.{else-i-j-via-then-i-j+else-product-eq0, else-i-j-via-else-i-j, else-i-j-2-via-then-i-j-2+else-product-ne0, else-i-j-2-via-else-i-j-2}

pub returns-then-product-ne0 : goal.returns-then-product-ne0
returns-then-product-ne0 c =
    let net = c.args.net.now in
    let base = c.args.base.now in
    let j = c.loop-j.j in
    let inside : j < length base = omega arith in
    let is = product_at net base c.args.dual.now (vector_of net (get_or base j 0)) c.product_with-product.result j inside refl c.product_with-product.ensures in
    refused (λ h. c.if-product-ne0.true (ap (of_z w128) (sym is ∙ h.others j (omega (arith, inside, length_vectors net base)) (λ e. c.if-i-j-2.true e))))

pub loop-j-preserved : goal.loop-j-preserved
loop-j-preserved c =
    let net = c.args.net.now in
    let base = c.args.base.now in
    let vs = vectors_of net base in
    let dual = c.args.dual.now in
    let i = c.args.i in
    let j = c.loop-j.j in
    let p = c.product_with-product.result in
    let inside : j < length base = omega arith in
    let is = product_at net base dual (vector_of net (get_or base j 0)) p j inside refl c.product_with-product.ensures in
    let own : i ≡ j → p ≢ pos 0 = elim c.else-i-j.branch as (λ _. i ≡ j → p ≢ pos 0) [
      | else-i-j-via-then-i-j+else-product-eq0 w ↦ λ e z. w.if-product-eq0.false (ap (of_z w128) z)
      | else-i-j-via-else-i-j w ↦ λ e z. w.if-i-j.false e
    ] in
    let others : i ≢ j → p ≡ pos 0 = elim c.else-i-j-2.branch as (λ _. i ≢ j → p ≡ pos 0) [
      | else-i-j-2-via-then-i-j-2+else-product-ne0 w ↦ λ ne. omega (arith, ints, w.if-product-ne0.false)
      | else-i-j-2-via-else-i-j-2 w ↦ λ ne. absurd (ne w.if-i-j-2.false)
    ] in
    record {
      own = own_next vs i j dual p is c.loop-j.invariant.own own;
      others = others_next vs i j dual p is c.loop-j.invariant.others others;
    }

pub returns : goal.returns
returns c =
    let n = length_vectors c.args.net.now c.args.base.now in
    granted (record {
      own = c.loop-j.invariant.own (omega (arith, c.requires.member));
      others = λ j lt ne. c.loop-j.invariant.others j (omega (arith, lt, n)) ne;
    })
