use Rattle.crn_tab.proofs.Prelude.{arith}
use Rattle.crn_tab.proofs.scratch.Scratch.new.Goals as goal

pub invariant_of-result : goal.invariant_of-result
invariant_of-result c = record {
  places_fit = omega (arith, c.in_ok-vec.ensures.len, c.in_ok-with_capacity.ensures.exact);
  work_long = omega (arith, c.in_ok-vec.ensures.len, c.in_ok-vec-2.ensures.len);
  narrow_lead_long = omega (arith, c.in_ok-vec.ensures.len, c.in_ok-vec-3.ensures.len);
  narrow_work_long = omega (arith, c.in_ok-vec.ensures.len, c.in_ok-vec-4.ensures.len);
}
