use Rattle.crn_tab.proofs.Prelude.{◌≡◌, ◌-◌, ◌<◌, ◌^◌, ℕ, length, ap, ◌∙◌, sym, arith, to_z, of_z, ℤ, pos, ◌*ℤ◌, ◌≤ℤ◌, unsigned_abs, w64, ints, entry, smaller, put}
use Rattle.crn_tab.proofs.Cross.{read}
use Rattle.crn_tab.proofs.LowCross.{read_low}
use Rattle.crn_tab.proofs.NewRows.{below_without, new_row_none}
use Rattle.crn_tab.proofs.Lowered.{lowered, divides_both, new_row_lowered}
use Rattle.crn_tab.proofs.change.new_low_row.Goals as goal

pub returns-then-q-eq0-clause-new : goal.returns-then-q-eq0-clause-new
returns-then-q-eq0-clause-new c =
    let old = c.args.row.now in
    let bits : of_z w64 (entry old c.args.lead.now.slot) ≡ 0 = c.if-q-eq0.true in
    let is : entry old c.args.lead.now.slot ≡ pos 0 = sym (read_low (entry old c.args.lead.now.slot) (c.requires.row c.args.lead.now.slot)) ∙ ap (to_z w64) bits in
    new_row_none (length old - 1) c.args.lead.now.slot old (put c.args.lead.now.entries.now (length old - 1) c.args.lead.now.own.now) (omega (arith, c.requires.place)) is c.requires.primitive

pub over-mine-requires-clause-divides : goal.over-mine-requires-clause-divides
over-mine-requires-clause-divides c = rw (read c.common-t.result c.common-t.ensures.small) c.common-t.ensures.gcd.1

pub over-other-requires-clause-divides : goal.over-other-requires-clause-divides
over-other-requires-clause-divides c = rw (read c.common-t.result c.common-t.ensures.small) c.common-t.ensures.gcd.0

pub change-requires-clause-row : goal.change-requires-clause-row
change-requires-clause-row c = below_without (2 ^ 30) c.args.row.now c.args.lead.now.slot (omega arith) (omega (arith, c.requires.place)) c.requires.row

pub change-requires-clause-short : goal.change-requires-clause-short
change-requires-clause-short c = λ yes.
    let h = c.requires.short yes in (
      h.0,
      h.1,
      below_without (2 ^ 14) c.args.row.now c.args.lead.now.slot (omega arith) (omega (arith, c.requires.place)) h.2,
    )

-- a factor of a low number, as its quotient is kept
part_low : (z t s u : ℤ) → s ≡ t → z *ℤ s ≡ u → pos 1 ≤ℤ t → unsigned_abs u < 2 ^ 30 → unsigned_abs z < 2 ^ 30
part_low z t s u e is some low = omega (arith, low, smaller u t z (omega (arith, ints, some)) (ap (λ (x : ℤ). z *ℤ x) (sym e) ∙ is))

pub change-requires-clause-p : goal.change-requires-clause-p
change-requires-clause-p c =
    let t = c.common-t.result in
    rw (read c.over-mine.result c.over-mine.ensures.small)
    (part_low c.over-mine.result t (to_z w64 (of_z w64 t)) c.args.lead.now.own.now (read t c.common-t.ensures.small) c.over-mine.ensures.value c.common-t.ensures.some c.requires.p)

pub change-requires-clause-q : goal.change-requires-clause-q
change-requires-clause-q c =
    let t = c.common-t.result in
    let x = entry c.args.row.now c.args.lead.now.slot in
    let small : unsigned_abs (to_z w64 (of_z w64 x)) < 2 ^ 30 = omega (arith, c.requires.row c.args.lead.now.slot, ap unsigned_abs (read_low x (c.requires.row c.args.lead.now.slot))) in
    rw (read c.over-other.result c.over-other.ensures.small)
    (part_low c.over-other.result t (to_z w64 (of_z w64 t)) (to_z w64 (of_z w64 x)) (read t c.common-t.ensures.small) c.over-other.ensures.value c.common-t.ensures.some small)

pub change-requires-clause-known : goal.change-requires-clause-known
change-requires-clause-known c =
    let old = c.args.row.now in
    let n : ℕ = length old - 1 in
    let t = c.common-t.result in
    let q = to_z w64 (of_z w64 (entry old c.args.lead.now.slot)) in
    let l = lowered c.args.lead.now.own.now q c.over-mine.result c.over-other.result t (to_z w64 (of_z w64 t)) (read t c.common-t.ensures.small) c.common-t.ensures.gcd c.common-t.ensures.some c.over-mine.ensures.value c.over-other.ensures.value in
    rw (read c.over-mine.result c.over-mine.ensures.small, read c.over-other.result c.over-other.ensures.small, read c.common-known.result c.common-known.ensures.small)
    (λ d h.
    let both = divides_both n c.args.lead.now.slot old c.args.lead.now.entries.now c.args.lead.now.own.now q c.over-mine.result c.over-other.result t l (read_low (entry old c.args.lead.now.slot) (c.requires.row c.args.lead.now.slot))
    (omega (arith, c.requires.place)) (omega (arith, c.requires.place)) (omega (arith, c.requires.place)) c.requires.lead_last c.requires.primitive c.requires.lead_primitive d h in
    c.common-known.ensures.gcd.2 d both.0 both.1)

pub returns-clause-new : goal.returns-clause-new
returns-clause-new c =
    let old = c.args.row.now in
    let t = c.common-t.result in
    let q = to_z w64 (of_z w64 (entry old c.args.lead.now.slot)) in
    let l = lowered c.args.lead.now.own.now q c.over-mine.result c.over-other.result t (to_z w64 (of_z w64 t)) (read t c.common-t.ensures.small) c.common-t.ensures.gcd c.common-t.ensures.some c.over-mine.ensures.value c.over-other.ensures.value in
    let made = rw (read c.over-mine.result c.over-mine.ensures.small, read c.over-other.result c.over-other.ensures.small) at c.change.ensures.combined in
    new_row_lowered (length old - 1) c.args.lead.now.slot old c.args.lead.now.entries.now c.change.new.row c.args.lead.now.own.now q c.over-mine.result c.over-other.result t l
    (read_low (entry old c.args.lead.now.slot) (c.requires.row c.args.lead.now.slot)) (omega (arith, c.requires.place)) c.requires.lead_last c.requires.p_some made
