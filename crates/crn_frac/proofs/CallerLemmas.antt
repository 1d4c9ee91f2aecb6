-- What a crate above may cite of the proofs of this one.

-- Common divisors, and the least common multiple.
pub use Rattle.crn_frac.proofs.Divisors.{common, lcm_is}
-- Exact quotients.
pub use Rattle.crn_frac.proofs.Whole.{exact}
-- A factor is no larger than its product, and the parts without the greatest common divisor have none but 1.
pub use Rattle.crn_frac.proofs.Lowest.{smaller, reduced}
-- The negative of a number, and its absolute value.
pub use Rattle.crn_frac.proofs.Lowest.{minus, abs_minus}
