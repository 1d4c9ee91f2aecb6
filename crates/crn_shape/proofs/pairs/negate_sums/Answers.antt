use Rattle.crn_shape.proofs.Prelude.{◌<◌, ◌^◌, sym, ap, subst, ◌∙◌, arith, unsigned_abs, length-set, all_at, opposite_linked, LinkedPair}
use Rattle.crn_shape.proofs.Opposites.{no_linked, done_more, rest_more, all_opposite}
use Rattle.crn_shape.proofs.pairs.negate_sums.Goals as goal

pub opposite_of-requires : goal.opposite_of-requires
opposite_of-requires c =
    let old = c.args.pairs.now in
    let i = c.loop-i.i in
    let small = all_at (λ (p : LinkedPair). unsigned_abs p.sum < 2 ^ 127) old i no_linked c.requires (omega (arith, c.loop-i-test.true, c.loop-i.invariant.long)) in
    subst (λ (p : LinkedPair). unsigned_abs p.sum < 2 ^ 127) (sym (c.loop-i.invariant.rest i (omega arith))) small

pub loop-i-preserved : goal.loop-i-preserved
loop-i-preserved c =
    let old = c.args.pairs.now in
    let ps = c.loop-i.pairs in
    let i = c.loop-i.i in
    let p = c.opposite_of.result in
    record {
      long = length-set ps i p ∙ c.loop-i.invariant.long;
      done = done_more old ps i p (omega (arith, c.loop-i-test.true, c.loop-i.invariant.long)) c.loop-i.invariant.done (c.opposite_of.ensures ∙ ap opposite_linked (c.loop-i.invariant.rest i (omega arith)));
      rest = rest_more old ps i p c.loop-i.invariant.rest;
    }

pub returns : goal.returns
returns c = all_opposite c.args.pairs.now c.loop-i.pairs c.loop-i.invariant.long (λ j lt. c.loop-i.invariant.done j (omega (arith, lt, c.loop-i-test.false, c.loop-i.invariant.long)))
