use Rattle.crn_net.proofs.Prelude.{arith, get_or, ◌++◌, ◌∷◌, [], List, ap, sym, ◌∙◌, ℤ, pos, ◌-ℤ◌, w128, ints, to_z-of_z, fits_signed_from_abs, length-set, take_more_set}
use Rattle.crn_net.proofs.Differences.{minus_more, entry_holds}
use Rattle.crn_net.proofs.tables.put_difference.Goals as goal

pub loop-s-preserved : goal.loop-s-preserved
loop-s-preserved c =
    let s = c.loop-s.s in
    let n = c.args.species in
    let a : ℤ = get_or c.args.product.now s (pos 0) in
    let b : ℤ = get_or c.args.reactant.now s (pos 0) in
    let p = entry_holds n c.args.product.now s c.requires.product (omega arith) (omega arith) in
    let q = entry_holds n c.args.reactant.now s c.requires.reactant (omega arith) (omega arith) in
    let p0 = p.0 in
    let p1 = p.1 in
    let q0 = q.0 in
    let q1 = q.1 in
    let fa = fits_signed_from_abs w128 a (omega (arith, ints)) in
    let fb = fits_signed_from_abs w128 b (omega (arith, ints)) in
    let fd = fits_signed_from_abs w128 (a -ℤ b) (omega (arith, ints)) in
    rw (to_z-of_z w128 a fa, to_z-of_z w128 b fb, to_z-of_z w128 (a -ℤ b) fd) (record {
      long = length-set c.loop-s.row s (a -ℤ b) ∙ c.loop-s.invariant.long;
      are = take_more_set c.loop-s.row s (a -ℤ b) (omega (arith, c.loop-s.invariant.long)) ∙ ap (λ (t : List ℤ). t ++ (a -ℤ b) ∷ []) c.loop-s.invariant.are ∙ sym (minus_more c.args.product.now c.args.reactant.now s (pos 0) (pos 0) (omega arith) (omega arith));
    })
