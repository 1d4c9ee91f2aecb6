use Rattle.std.proofs.Common.{◌≡◌, ◌+◌, vec_len}
use Rattle.crn_vec.specs.declared.limits.TheConstants.{MAX_AMOUNT}
use Rattle.crn_vec.specs.Vectors.{AreWithin}
use Rattle.crn_tests.proofs.matrices.push_row.Given as goal

abbrev pub invariant-loop-j : goal.invariant-loop-j
invariant-loop-j g l = record {
  within : AreWithin MAX_AMOUNT l.entries.items;
  count : vec_len l.entries ≡ vec_len l.initial.entries + l.j;
}
