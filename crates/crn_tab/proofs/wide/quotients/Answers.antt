use Rattle.crn_tab.proofs.Prelude.{◌≡◌, ◌<◌, inl, inr, length, sym, ap, ◌∙◌, arith, to_z, of_z, ℤ, ◌*ℤ◌, unsigned_abs, w64, length-set, WIDE_ENTRY, entry}
use Rattle.crn_tab.proofs.Cross.{read}
use Rattle.crn_tab.proofs.NewRows.{look}
use Rattle.crn_tab.proofs.SameRows.{small_everywhere}
use Rattle.crn_tab.proofs.wide.quotients.Goals as goal

pub loop-j-preserved : goal.loop-j-preserved
loop-j-preserved c =
    let j = c.loop-j.j in
    let row = c.loop-j.row in
    let by = c.args.by.now in
    let y = c.in-Some.y in
    let x = to_z w64 (of_z w64 y) in
    let low : unsigned_abs y < WIDE_ENTRY = c.in-Some.ensures.small in
    let same : x ≡ y = read y low in
    let inside : j < length row = omega (arith, c.loop-j-test.true, c.loop-j.invariant.long) in
    record {
      done = λ k lt. elim (look row j k x inside) [
        | inl r ↦ ap (λ (z : ℤ). z *ℤ by) (r.1 ∙ same) ∙ c.in-Some.ensures.whole ∙ ap (λ i. entry c.args.work.now i) (sym r.0)
        | inr r ↦ ap (λ (z : ℤ). z *ℤ by) r.1 ∙ c.loop-j.invariant.done k (omega (arith, r.0, lt))
      ];
      small = λ k lt. elim (look row j k x inside) [
        | inl r ↦ omega (arith, ap unsigned_abs (r.1 ∙ same), low)
        | inr r ↦ omega (arith, ap unsigned_abs r.1, c.loop-j.invariant.small k (omega (arith, r.0, lt)))
      ];
      long = length-set row j x ∙ c.loop-j.invariant.long;
    }

pub returns-clause-whole : goal.returns-clause-whole
returns-clause-whole c = λ _ k lt. c.loop-j.invariant.done k (omega (arith, lt))

pub returns-clause-small : goal.returns-clause-small
returns-clause-small c = λ _. small_everywhere c.loop-j.row (λ k lt. c.loop-j.invariant.small k (omega (arith, lt, c.loop-j.invariant.long)))
