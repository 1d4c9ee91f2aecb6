use Rattle.crn_tab.proofs.Prelude.{◌≡◌, ◌<◌, inl, inr, length, sym, ap, ◌∙◌, arith, to_z, of_z, ℤ, ◌*ℤ◌, unsigned_abs, w64, length-set, ints, lt_or, WIDE_ENTRY, entry, smaller}
use Rattle.crn_tab.proofs.Cross.{read}
use Rattle.crn_tab.proofs.NewRows.{look}
use Rattle.crn_tab.proofs.SameRows.{same_rows}
use Rattle.crn_tab.proofs.low.try_divide.Goals as goal

pub restore-requires-clause-small : goal.restore-requires-clause-small
restore-requires-clause-small c = λ k lt. omega (arith, ap unsigned_abs (c.loop-j.invariant.done k lt), c.requires.small k)

pub loop-j-preserved : goal.loop-j-preserved
loop-j-preserved c =
    let j = c.loop-j.j in
    let row = c.loop-j.row in
    let by = c.args.by.now in
    let y = c.in-Some.y in
    let was : entry row j ≡ entry c.args.row.now j = c.loop-j.invariant.left j (omega arith) in
    let is : y *ℤ by ≡ entry c.args.row.now j = c.in-Some.ensures ∙ was in
    let low : unsigned_abs y < WIDE_ENTRY = omega (arith, smaller (entry c.args.row.now j) by y (omega (arith, ints, c.requires.some)) is, c.requires.small j) in
    let x = to_z w64 (of_z w64 y) in
    let same : x ≡ y = read y low in
    let inside : j < length row = omega (arith, c.loop-j-test.true, c.loop-j.auto.row) in
    record {
      done = λ k lt. elim (look row j k x inside) [
        | inl r ↦ ap (λ (z : ℤ). z *ℤ by) (r.1 ∙ same) ∙ is ∙ ap (λ i. entry c.args.row.now i) (sym r.0)
        | inr r ↦ ap (λ (z : ℤ). z *ℤ by) r.1 ∙ c.loop-j.invariant.done k (omega (arith, r.0, lt))
      ];
      left = λ k le. elim (look row j k x inside) [
        | inl r ↦ absurd (omega (arith, r.0, le))
        | inr r ↦ r.1 ∙ c.loop-j.invariant.left k (omega (arith, le))
      ];
      small = λ k. elim (look row j k x inside) [
        | inl r ↦ omega (arith, ap unsigned_abs (r.1 ∙ same), low)
        | inr r ↦ omega (arith, ap unsigned_abs r.1, c.loop-j.invariant.small k)
      ];
      long = length-set row j x ∙ c.loop-j.invariant.long;
    }

pub returns-in-None-clause-same : goal.returns-in-None-clause-same
returns-in-None-clause-same c = λ _.
    let row = c.restore.new.row in
    same_rows row c.args.row.now (c.restore.auto.row ∙ c.loop-j.invariant.long)
    (λ k lt. elim (lt_or k c.loop-j.j) [
      | inl before ↦ c.restore.ensures.done k before ∙ c.loop-j.invariant.done k before
      | inr after ↦ c.restore.ensures.left k after ∙ c.loop-j.invariant.left k after
    ])

pub returns-in-None-clause-small : goal.returns-in-None-clause-small
returns-in-None-clause-small c = λ k.
    elim (lt_or k c.loop-j.j) [
      | inl before ↦ omega (arith, ap unsigned_abs (c.restore.ensures.done k before ∙ c.loop-j.invariant.done k before), c.requires.small k)
      | inr after ↦ omega (arith, ap unsigned_abs (c.restore.ensures.left k after ∙ c.loop-j.invariant.left k after), c.requires.small k)
    ]
