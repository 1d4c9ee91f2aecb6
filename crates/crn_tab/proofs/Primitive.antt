-- Primitive rows: a row divided by its content.
use Rattle.crn_tab.proofs.Prelude.{◌≡◌, ◌≢◌, ℕ, ◌*◌, ◌<◌, ◌≤◌, inl, inr, List, length, sym, ap, subst, ◌∙◌, arith, ℤ, pos, ◌-ℤ◌, ◌*ℤ◌, ◌≤ℤ◌, unsigned_abs, ◌∣◌, ints, unsigned_abs-mul, one-dvd, mul-le-mul, mul-dvd-mul_right, dvd_of_mul-dvd-mul_right, pos_of_dvd_of_pos, past_end, inside_or, lt_or, zero_times, abs_some, entry, IsContent, IsCombined, IsPrimitivePart}
use Rattle.std.proofs.Math.Nat.{one-mul}
use lib.IntN.{*ℤ-zero}

pub content_some : (v : List ℤ) (g k : ℕ) → IsContent v g → entry v k ≢ pos 0 → 1 ≤ g
content_some v g k h ne = pos_of_dvd_of_pos (h.divides k) (abs_some (entry v k) ne)

pub primitive_part : (u z : List ℤ) (t : ℤ) → IsContent u (unsigned_abs t) → 1 ≤ unsigned_abs t → ((k : ℕ) → entry z k *ℤ t ≡ entry u k) → IsContent z 1
primitive_part u z t h some e = record {
  divides = λ k. one-dvd (unsigned_abs (entry z k));
  greatest = λ d p.
      let g = unsigned_abs t in
      let D : ℕ → Type 0 = λ m. d * g ∣ m in
      let each : (k : ℕ) → d * g ∣ unsigned_abs (entry u k) = λ k.
      subst D (sym (unsigned_abs-mul (entry z k) t) ∙ ap unsigned_abs (e k)) (mul-dvd-mul_right d (p k) g) in
      dvd_of_mul-dvd-mul_right d some (subst D (sym (one-mul g)) (h.greatest (d * g) each));
}

pub no_more : (p q x y : ℤ) → x ≡ pos 0 → y ≡ pos 0 → (p *ℤ x) -ℤ (q *ℤ y) ≡ pos 0
no_more p q x y e f =
    omega (arith, ints, ap (λ (t : ℤ). p *ℤ t) e, ap (λ (t : ℤ). q *ℤ t) f, *ℤ-zero p, *ℤ-zero q)

pub none_left : (p q t z w v : ℤ) → z ≡ pos 0 → w ≡ pos 0 → v ≡ pos 0 → z *ℤ t ≡ (p *ℤ w) -ℤ (q *ℤ v)
none_left p q t z w v e f g = zero_times z t e ∙ sym (no_more p q w v f g)

-- what a row divided by its content has is no larger than what it had
pub part_below : (b : ℕ) (u z : List ℤ) → length z ≡ length u → 1 ≤ b → IsPrimitivePart u z → ((k : ℕ) → unsigned_abs (entry u k) < b) → (k : ℕ) → unsigned_abs (entry z k) < b
part_below b u z long some p h k = elim (lt_or k (length u)) as (λ _. unsigned_abs (entry z k) < b) [
  | inl lt ↦
      let a = unsigned_abs (entry z k) in
      let t_some : 1 ≤ unsigned_abs p.t = (let x = p.some in omega (arith, ints, x)) in
      let a_le : a ≤ a = omega arith in
      let more : a * 1 ≤ a * unsigned_abs p.t = mul-le-mul a_le t_some in
      omega (arith, more, unsigned_abs-mul (entry z k) p.t, ap unsigned_abs (p.parts k lt), h k)
  | inr le ↦ let e = past_end z k (omega (arith, le, long)) in omega (arith, some, ap unsigned_abs e)
]

-- the products u, divided by their content, are the primitive difference
pub combined_of : (p q : ℤ) (w v u z : List ℤ) (t : ℤ) → length v ≡ length w → length u ≡ length w → length z ≡ length w
    → ((k : ℕ) → k < length w → entry u k ≡ (p *ℤ entry w k) -ℤ (q *ℤ entry v k))
    → IsContent u (unsigned_abs t) → pos 1 ≤ℤ t → ((k : ℕ) → k < length w → entry z k *ℤ t ≡ entry u k) → IsCombined p q w v z
combined_of p q w v u z t ev eu ez value content some divided =
    let all : (k : ℕ) → entry u k ≡ (p *ℤ entry w k) -ℤ (q *ℤ entry v k) = λ k. elim (inside_or w k) [
      | inl lt ↦ value k lt
      | inr le ↦ past_end u k (omega arith) ∙ sym (no_more p q (entry w k) (entry v k) (past_end w k le) (past_end v k (omega arith)))
    ] in
    let parts : (k : ℕ) → entry z k *ℤ t ≡ entry u k = λ k. elim (inside_or w k) [
      | inl lt ↦ divided k lt
      | inr le ↦ zero_times (entry z k) t (past_end z k (omega arith)) ∙ sym (past_end u k (omega arith))
    ] in
    record {
      t = t;
      some = some;
      long = ez;
      is = λ k. parts k ∙ all k;
      primitive = primitive_part u z t content (omega (arith, ints)) parts;
    }
