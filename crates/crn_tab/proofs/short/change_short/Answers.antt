use Rattle.crn_tab.proofs.Prelude.{◌≡◌, ◌<◌, ◌^◌, ℕ, List, length, sym, ap, ◌∙◌, arith, subst, refl, lit<, ℤ, pos, ◌≤ℤ◌, ◌*ℤ◌, ◌-ℤ◌, unsigned_abs, ◌∣◌, dvd-zero, entry, IsContent, IsCombined}
use Rattle.crn_tab.proofs.Differences.{differences, length-differences, entry-differences}
use Rattle.crn_tab.proofs.Divided.{each_difference}
use Rattle.crn_tab.proofs.Primitive.{combined_of}
use Rattle.crn_tab.proofs.LowCross.{read_low}
use Rattle.crn_tab.proofs.ShortCross.{read_short}
use Rattle.crn_tab.proofs.SameRows.{everywhere}
use Rattle.crn_tab.proofs.WideProducts.{times_divides}
use Rattle.crn_tab.proofs.short.change_short.Goals as goal

-- quotients of the difference of two rows by a number that divides all of it, and that all of what does divides
combined_by : (p q g : ℤ) (row lead new : List ℤ) → length lead ≡ length row → length new ≡ length row → pos 1 ≤ℤ g
    → ((k : ℕ) → k < length row → entry new k *ℤ g ≡ (p *ℤ entry row k) -ℤ (q *ℤ entry lead k))
    → ((d : ℕ) → ((k : ℕ) → d ∣ unsigned_abs ((p *ℤ entry row k) -ℤ (q *ℤ entry lead k))) → d ∣ unsigned_abs g) → IsCombined p q row lead new
combined_by p q g row lead new lead_count count some done greatest =
    let u = differences p q row lead in
    let long : length u ≡ length row = length-differences p q row lead lead_count in
    let value : (k : ℕ) → k < length row → entry u k ≡ (p *ℤ entry row k) -ℤ (q *ℤ entry lead k) = λ k lt. entry-differences p q row lead k lead_count in
    let parts : (k : ℕ) → k < length row → entry new k *ℤ g ≡ entry u k = λ k lt. done k lt ∙ sym (value k lt) in
    let content : IsContent u (unsigned_abs g) = record {
      divides = everywhere (λ x. unsigned_abs g ∣ unsigned_abs x) u (dvd-zero (unsigned_abs g))
          (λ k lt. times_divides (entry new k) g (entry u k) (parts k (omega (arith, lt, long))));
      greatest = λ d h. greatest d (each_difference d p q row lead u lead_count value h);
    } in
    combined_of p q row lead u new g lead_count long count value content some parts

pub first_divisor-requires-clause-known : goal.first_divisor-requires-clause-known
first_divisor-requires-clause-known c = rw c.put_narrow.ensures c.requires.known

pub returns-clause-combined : goal.returns-clause-combined
returns-clause-combined c = λ _.
    let p = c.args.p.now in
    let q = c.args.q.now in
    let row = c.args.row.now in
    let lead = c.args.lead.now in
    let g = c.first_divisor.result in
    let by = c.narrow-by.result in
    let is : by ≡ g = c.narrow-by.ensures ∙ read_low g (omega (arith, c.first_divisor.ensures.short)) in
    let short : unsigned_abs by < 2 ^ 14 = omega (arith, ap unsigned_abs is, c.first_divisor.ensures.short) in
    let value = rw (read_short by (omega (arith, short)), c.put_narrow.ensures) at c.if-not-put_quotients.ensures.value refl in
    let greatest = rw c.put_narrow.ensures at c.first_divisor.ensures.greatest in
    combined_by p q by row lead c.put_long.new.into c.requires.lead_count (omega arith) (subst (λ (z : ℤ). pos 1 ≤ℤ z) (sym is) c.first_divisor.ensures.some)
    (λ k lt. subst (λ (v : List ℤ). entry v k *ℤ by ≡ (p *ℤ entry row k) -ℤ (q *ℤ entry lead k)) (sym c.put_long.ensures) (value k lt))
    (λ d h. subst (λ (z : ℤ). d ∣ unsigned_abs z) (sym is) (greatest d h))

pub returns-clause-short : goal.returns-clause-short
returns-clause-short c = λ _ k.
    let short = c.if-not-put_quotients.ensures.short refl in
    everywhere (λ z. unsigned_abs z < 2 ^ 14) c.put_long.new.into (lit< tt)
    (λ k lt. subst (λ (v : List ℤ). unsigned_abs (entry v k) < 2 ^ 14) (sym c.put_long.ensures) (short k (omega arith))) k
