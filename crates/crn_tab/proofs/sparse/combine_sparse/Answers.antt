use Rattle.crn_tab.proofs.Prelude.{◌≡◌, ◌<◌, inl, inr, length, refl, ap, ◌∙◌, sym, subst, arith, to_z, of_z, ℤ, pos, neg_ℤ, ◌*ℤ◌, unsigned_abs, w64, ◌∣◌, length-set, entry, put}
use Rattle.crn_tab.proofs.Cross.{read}
use Rattle.crn_tab.proofs.NewRows.{look}
use Rattle.crn_tab.proofs.Primitive.{combined_of}
use Rattle.crn_tab.proofs.SparseRow.{sparse_value}
use Rattle.crn_tab.proofs.sparse.combine_sparse.Goals as goal

pub make_primitive-requires-clause-small : goal.make_primitive-requires-clause-small
make_primitive-requires-clause-small c = λ k.
    let n = c.negative_times.result in
    let is : to_z w64 (of_z w64 n) ≡ n = read n c.negative_times.ensures.small in
    let inside : c.args.lead.now.slot < length c.put_differences.new.into = omega (arith, c.put_differences.auto.into, c.copy_from_slice.auto.self, c.requires.into_count, c.requires.place) in
    elim (look c.put_differences.new.into c.args.lead.now.slot k (to_z w64 (of_z w64 n)) inside) [
      | inl r ↦ omega (arith, ap unsigned_abs (r.1 ∙ is), c.negative_times.ensures.small)
      | inr r ↦ omega (arith, ap unsigned_abs r.1, c.if-not-put_differences.ensures.small refl k)
    ]

pub make_primitive-requires-clause-known : goal.make_primitive-requires-clause-known
make_primitive-requires-clause-known c = λ d h.
    let into = c.put_differences.new.into in
    let n = c.negative_times.result in
    let is : to_z w64 (of_z w64 n) ≡ neg_ℤ (c.args.q.now *ℤ entry c.args.lead.now.entries.now c.args.lead.now.slot) = read n c.negative_times.ensures.small ∙ c.negative_times.ensures.value in
    let one : c.args.p.now ≡ pos 1 = sym (read c.args.p.now c.requires.p) ∙ ap (to_z w64) c.if-p-ne1.false in
    let long : length into ≡ length c.args.row.now = omega (arith, c.put_differences.auto.into, c.copy_from_slice.auto.self, c.requires.into_count) in
    c.requires.known d (λ k. subst (λ (z : ℤ). d ∣ unsigned_abs z)
    (sparse_value c.args.row.now c.args.lead.now.entries.now into c.args.lead.now.slot c.args.p.now c.args.q.now (to_z w64 (of_z w64 n)) one c.requires.place long (c.if-not-put_differences.ensures.value refl) is k) (h k))

pub returns-clause-combined : goal.returns-clause-combined
returns-clause-combined c = λ _.
    let row = c.args.row.now in
    let into = c.put_differences.new.into in
    let n = c.negative_times.result in
    let x = to_z w64 (of_z w64 n) in
    let is : x ≡ neg_ℤ (c.args.q.now *ℤ entry c.args.lead.now.entries.now c.args.lead.now.slot) = read n c.negative_times.ensures.small ∙ c.negative_times.ensures.value in
    let one : c.args.p.now ≡ pos 1 = sym (read c.args.p.now c.requires.p) ∙ ap (to_z w64) c.if-p-ne1.false in
    let long : length into ≡ length row = omega (arith, c.put_differences.auto.into, c.copy_from_slice.auto.self, c.requires.into_count) in
    let m = c.make_primitive.ensures.primitive in
    let without : length (put row c.args.lead.now.slot (pos 0)) ≡ length row = length-set row c.args.lead.now.slot (pos 0) in
    let whole : length (put into c.args.lead.now.slot x) ≡ length (put row c.args.lead.now.slot (pos 0)) = length-set into c.args.lead.now.slot x ∙ long ∙ sym without in
    combined_of c.args.p.now c.args.q.now (put row c.args.lead.now.slot (pos 0)) c.args.lead.now.entries.now (put into c.args.lead.now.slot x) c.make_primitive.new.row m.t (c.requires.lead_count ∙ sym without) whole (c.make_primitive.auto.row ∙ whole)
    (λ k lt. sparse_value row c.args.lead.now.entries.now into c.args.lead.now.slot c.args.p.now c.args.q.now x one c.requires.place long (c.if-not-put_differences.ensures.value refl) is k)
    m.content m.some (λ k lt. m.parts k (omega (arith, lt, whole)))
