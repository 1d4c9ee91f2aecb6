use Rattle.crn_tab.proofs.Prelude.{◌≡◌, ◌+◌, ◌-◌, ℕ, List, subst, arith, lit<, add-one, ℤ, pos, ◌≤ℤ◌, ints, entry, row_at, IsKeptRow, IsScale, IsScaledBy}
use Rattle.crn_tab.proofs.Scales.{no_rows, more_rows}
use Rattle.crn_tab.proofs.column.scale.Goals as goal

-- one more row, read from a part of the rows
one_more : (n c : ℕ) (rows row : List ℤ) (i l k : ℕ) → row ≡ row_at (n + 1) rows i → IsKeptRow (n + 1) (row_at (n + 1) rows i) → IsScale n c rows i l
    → IsScaledBy (entry row c) (entry row n) l k → IsScale n c rows (i + 1) k
one_more n c rows row i l k e kept s r =
    let R : List ℤ → Type 0 = λ v. IsScaledBy (entry v c) (entry v n) l k in
    let h : R (row_at (n + 1) rows i) = subst R e r in
    let last : n + 1 - 1 ≡ n = omega arith in
    let P : ℕ → Type 0 = λ k. pos 1 ≤ℤ entry (row_at (n + 1) rows i) k in
    let den : pos 1 ≤ℤ entry (row_at (n + 1) rows i) n = subst P last kept.positive in
    rw add-one (more_rows n c rows i l h.q h.g k s h.gcd h.reduced (omega (arith, ints, den)) h.is)

pub loop-i-init : goal.loop-i-init
loop-i-init c = record { is = no_rows c.args.n c.args.c c.args.rows.now; small = lit< tt }

pub returns-in-None : goal.returns-in-None
returns-in-None c =
    let i = c.loop-i.i in
    record {
      i = i + 1;
      inside = omega (arith, c.loop-i-test.true);
      l = c.in-None.ensures.0;
      is = one_more c.args.n c.args.c c.args.rows.now c.part-row.result.now i c.loop-i.l c.in-None.ensures.0 c.part-row.ensures
          (c.requires.row i (omega (arith, c.loop-i-test.true))) c.loop-i.invariant.is c.in-None.ensures.1;
      wide = c.in-None.ensures.2;
    }

pub loop-i-preserved : goal.loop-i-preserved
loop-i-preserved c =
    let i = c.loop-i.i in
    record {
      is = one_more c.args.n c.args.c c.args.rows.now c.part-row.result.now i c.loop-i.l c.in-Some.next c.part-row.ensures
          (c.requires.row i (omega (arith, c.loop-i-test.true))) c.loop-i.invariant.is c.in-Some.ensures.0;
      small = c.in-Some.ensures.1;
    }
