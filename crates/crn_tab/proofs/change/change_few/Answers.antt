use Rattle.crn_tab.proofs.Prelude.{◌≡◌, ◌∙◌, ◌<◌, ℕ, List, length, ap, sym, subst, arith, to_z, ℤ, pos, ◌*ℤ◌, ◌-ℤ◌, unsigned_abs, w64, ◌∣◌, one-dvd, ints, entry}
use Rattle.crn_tab.proofs.Cross.{read}
use Rattle.crn_tab.proofs.Divided.{each_difference}
use Rattle.crn_tab.proofs.Primitive.{combined_of}
use Rattle.crn_tab.proofs.change.change_few.Goals as goal

once : (x y : ℤ) → x -ℤ y ≡ (pos 1 *ℤ x) -ℤ y
once x y = omega (arith, ints)

pub make_primitive-low-requires-clause-known : goal.make_primitive-low-requires-clause-known
make_primitive-low-requires-clause-known c = λ d h.
    c.requires.known d (each_difference d (pos 1) c.args.q.now c.args.row.now c.args.lead.now c.take_places-low.new.row c.requires.lead_count
    (λ k lt. c.take_places-low.ensures.value k ∙ once (entry c.args.row.now k) (c.args.q.now *ℤ entry c.args.lead.now k)) h)

value : (q : ℤ) (row lead new : List ℤ) → ((k : ℕ) → entry new k ≡ entry row k -ℤ (q *ℤ entry lead k)) → (k : ℕ) → k < length row → entry new k ≡ (pos 1 *ℤ entry row k) -ℤ (q *ℤ entry lead k)
value q row lead new h k lt = h k ∙ once (entry row k) (q *ℤ entry lead k)

times_one : (x : ℤ) → x *ℤ pos 1 ≡ x
times_one x = omega (arith, ints)

pub returns-then-known-eq1-clause-combined : goal.returns-then-known-eq1-clause-combined
returns-then-known-eq1-clause-combined c =
    let row = c.args.row.now in
    let lead = c.args.lead.now in
    let q = c.args.q.now in
    let new = c.take_places-low.new.row in
    let is : unsigned_abs c.args.known.now ≡ 1 = ap unsigned_abs (sym (read c.args.known.now c.requires.known_small) ∙ ap (to_z w64) c.if-known-eq1.true) in
    combined_of (pos 1) q row lead new new (pos 1) c.requires.lead_count (omega arith) (omega arith) (value q row lead new c.take_places-low.ensures.value)
    (record {
      divides = λ k. one-dvd (unsigned_abs (entry new k));
      greatest = λ d h. subst (λ (n : ℕ). d ∣ n) is (c.requires.known d (each_difference d (pos 1) q row lead new c.requires.lead_count (value q row lead new c.take_places-low.ensures.value) h));
    })
    (omega (arith, ints)) (λ k lt. times_one (entry new k))

pub returns-then-low-clause-combined : goal.returns-then-low-clause-combined
returns-then-low-clause-combined c =
    let m = c.make_primitive-low.ensures.primitive in
    combined_of (pos 1) c.args.q.now c.args.row.now c.args.lead.now c.take_places-low.new.row c.make_primitive-low.new.row m.t c.requires.lead_count (omega arith) (omega arith)
    (value c.args.q.now c.args.row.now c.args.lead.now c.take_places-low.new.row c.take_places-low.ensures.value) m.content m.some (λ k lt. m.parts k (omega arith))

pub returns-else-low-clause-combined : goal.returns-else-low-clause-combined
returns-else-low-clause-combined c =
    let m = c.make_primitive-low.ensures.primitive in
    combined_of (pos 1) c.args.q.now c.args.row.now c.args.lead.now c.take_places-low.new.row c.make_primitive-low.new.row m.t c.requires.lead_count (omega arith) (omega arith)
    (value c.args.q.now c.args.row.now c.args.lead.now c.take_places-low.new.row c.take_places-low.ensures.value) m.content m.some (λ k lt. m.parts k (omega arith))
