use Rattle.std.proofs.Common.{◌∷◌, [], ap, sym, subst, arith, to_z, of_z}
use Rattle.std.specs.Prelude.{is_ok}
use Rattle.std.specs.Int.{w128}
use Rattle.std.proofs.lemmas.Int.{to_z-of_z}
use Rattle.crn_vec.specs.declared.limits.TheConstants.{MAX_AMOUNT}
use Rattle.crn_vec.specs.Vectors.{AreWithin}
use Rattle.crn_vec.proofs.CallerLemmas.{within_append}
use Rattle.crn_tests.proofs.matrices.push_row.Goals as goal

pub loop-j-preserved : goal.loop-j-preserved
loop-j-preserved g c =
    let ok = ap is_ok c.expect.ensures in
    let same = to_z-of_z w128 c.small.result (record { sfits = c.small.type_inv }) in
    let items = rw ok at c.push.ensures.items in
    let len = rw ok at c.push.ensures.len in
    record {
      within = subst (λ v. AreWithin MAX_AMOUNT v) (sym items) (within_append MAX_AMOUNT c.loop-j.entries.items (to_z w128 (of_z w128 c.small.result) ∷ []) c.loop-j.invariant.within (rw same c.small.ensures, tt));
      count = omega (arith, len, c.loop-j.invariant.count);
    }
