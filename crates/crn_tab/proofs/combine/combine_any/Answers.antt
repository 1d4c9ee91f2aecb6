use Rattle.crn_tab.proofs.Prelude.{◌≡◌, ◌<◌, ℕ, inl, inr, length, refl, ap, ◌∙◌, sym, subst, arith, ℤ, pos, unsigned_abs, ints, length-set, put, AreSmall, entry}
use Rattle.std.specs.Prelude.{List}
use Rattle.crn_tab.proofs.Divided.{each_difference}
use Rattle.crn_tab.proofs.NewRows.{look}
use Rattle.crn_tab.proofs.Primitive.{combined_of}
use Rattle.crn_tab.proofs.combine.combine_any.Goals as goal

small_without : (v : List ℤ) (c : ℕ) → c < length v → AreSmall v → AreSmall (put v c (pos 0))
small_without v c lt h k = elim (look v c k (pos 0) lt) [
  | inl r ↦ omega (arith, ints, ap unsigned_abs r.1)
  | inr r ↦ omega (arith, h k, ap unsigned_abs r.1)
]

pub subtract-requires-clause-row : goal.subtract-requires-clause-row
subtract-requires-clause-row c = rw c.copy_from_slice.ensures.after (small_without c.args.old.now c.args.lead.now.slot c.requires.place c.requires.old)

pub reduce-requires-clause-small : goal.reduce-requires-clause-small
reduce-requires-clause-small c =
    let fit = c.if-subtract.ensures in
    subst (λ (v : List ℤ). AreSmall v) (sym fit.3.0) fit.3.1

-- what divides the differences divides the number that is known
pub reduce-requires-clause-known : goal.reduce-requires-clause-known
reduce-requires-clause-known c =
    let old = c.args.old.now in
    let row = put old c.args.lead.now.slot (pos 0) in
    let fit = rw c.copy_from_slice.ensures.after at c.if-subtract.ensures in
    λ d h. c.requires.known d (each_difference d c.args.p.now c.args.q.now row c.args.lead.now.entries.now c.subtract.new.row (c.requires.lead_count ∙ sym (length-set old c.args.lead.now.slot (pos 0)))
    (λ k lt. ap (λ (v : List ℤ). entry v k) fit.3.0 ∙ fit.2 k lt) h)

pub returns-then-subtract : goal.returns-then-subtract
returns-then-subtract c =
    let old = c.args.old.now in
    let row = put old c.args.lead.now.slot (pos 0) in
    let u = c.subtract.new.row in
    let fit = rw c.copy_from_slice.ensures.after at c.if-subtract.ensures in
    let m = c.reduce.ensures.primitive in
    let long : length u ≡ length row = ap (λ (v : List ℤ). length v) fit.3.0 ∙ fit.1 in (
      c.reduce.new.row,
      combined_of c.args.p.now c.args.q.now row c.args.lead.now.entries.now u c.reduce.new.row m.t (c.requires.lead_count ∙ sym (length-set old c.args.lead.now.slot (pos 0)))
          long (c.reduce.auto.row ∙ long) (λ k lt. ap (λ (v : List ℤ). entry v k) fit.3.0 ∙ fit.2 k lt) m.content m.some (λ k lt. m.parts k (omega (arith, lt, long))),
      (refl, c.reduce.ensures.small),
    )

pub combine-requires-clause-row : goal.combine-requires-clause-row
combine-requires-clause-row c = rw c.copy_from_slice-2.ensures.after (small_without c.args.old.now c.args.lead.now.slot c.requires.place c.requires.old)

pub combine-requires-clause-known : goal.combine-requires-clause-known
combine-requires-clause-known c = rw c.copy_from_slice-2.ensures.after c.requires.known
