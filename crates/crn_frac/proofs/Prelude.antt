-- What this crate's proofs use of other crates and of its specs.
pub use Rattle.crn_frac.specs.Multiple.{IsLcm}
pub use Rattle.std.proofs.Common.{ap, arith, negsuc, of_z, refl, rules, subst, suc, sym, to_z, zero, ℕ, ◌%◌, ◌*◌, ◌+◌, ◌-◌, ◌/◌, ◌<◌, ◌^◌, ◌∙◌, ◌≡◌, ◌≢◌, ◌≤◌}
pub use Rattle.std.proofs.Math.Nat.{div-add-mod, div-lt_iff_lt-mul, div-mul_cancel, dvd-mod_iff, dvd-mul_left, dvd-mul_right, dvd-sub, dvd_of_mul-dvd-mul_right, le-div_iff_mul-le, le-mul_of_pos_right, mul-dvd-mul_right, mul_assoc, mul_comm, one-dvd, one-le-mul, one-mul, pos_of_dvd_of_pos}
pub use Rattle.std.proofs.lemmas.Int.{fits_signed_from_abs, ints, quot-rem, quot_fits, quot_is, to_z-of_z, unsigned_abs-mul}
pub use Rattle.std.proofs.lemmas.Nat.Gcd.{IsGcd-from_mod, IsGcd-from_zero, dvd_antisymm, dvd_refl, dvd_trans, mod-eq-zero_of_dvd, same_from_IsGcd}
pub use Rattle.std.specs.Int.{IsGcd, w128, w64, ◌∣◌}
pub use Rattle.std.specs.Prelude.{FitsSigned, int_div, int_rem, neg_ℤ, pos, unsigned_abs, ℤ, ◌*ℤ◌, ◌-ℤ◌, ◌≤ℤ◌}
