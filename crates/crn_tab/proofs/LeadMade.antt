-- A lead from a row whose places c and w - 1 were swapped.
use Rattle.crn_tab.proofs.Prelude.{◌≡◌, ◌≢◌, ℕ, ◌-◌, inl, inr, List, length, refl, ap, ◌∙◌, arith, to_z, of_z, false, true, sym, ℤ, pos, negsuc, neg_ℤ, ◌≤ℤ◌, int_lt, SwappedAt, w64, ints, entry, minus_one, one-mul, AreSmall, IsLead}
use Rattle.crn_tab.proofs.Cross.{read}

no_less : (n : ℕ) → int_lt (pos n) (pos 0) ≡ true → ⊥
no_less n h = grind (arith, ints)

not_less : (x : ℤ) → int_lt x (pos 0) ≡ false → x ≢ pos 0 → pos 1 ≤ℤ x
not_less (pos n) h ne = omega (arith, ints, ne)
not_less (negsuc n) h ne = absurd (cc)

less : (x : ℤ) → int_lt x (pos 0) ≡ true → pos 1 ≤ℤ neg_ℤ x
less (pos n) h = absurd (no_less n h)
less (negsuc n) h = omega (arith, ints)

pub plain : (w c : ℕ) (row copy lead : List ℤ) → copy ≡ row → length row ≡ w → length lead ≡ length copy → SwappedAt copy lead c (w - 1) → AreSmall row → entry row c ≢ pos 0
    → int_lt (to_z w64 (of_z w64 (entry lead (w - 1)))) (pos 0) ≡ false → IsLead w c row lead
plain w c row copy lead e long same s small some sign =
    let last : entry lead (w - 1) ≡ entry row c = s.1 (pos 0) ∙ ap (λ (v : List ℤ). entry v c) e in
    let value : to_z w64 (of_z w64 (entry lead (w - 1))) ≡ entry row c = ap (λ (x : ℤ). to_z w64 (of_z w64 x)) last ∙ read (entry row c) (small c) in
    let test : int_lt (entry row c) (pos 0) ≡ false = rw value at sign in
    record {
      sign = pos 1;
      unit = inl refl;
      long = same ∙ ap length e ∙ long;
      leaves = last ∙ sym (one-mul (entry row c));
      enters = s.0 (pos 0) ∙ ap (λ (v : List ℤ). entry v (w - 1)) e ∙ sym (one-mul (entry row (w - 1)));
      others = λ k nc nn. s.2 k (pos 0) nc nn ∙ ap (λ (v : List ℤ). entry v k) e ∙ sym (one-mul (entry row k));
      positive = rw last (not_less (entry row c) test some);
    }

pub lead_made : (w c : ℕ) (row copy swapped lead : List ℤ) → copy ≡ row → length row ≡ w → length swapped ≡ length copy → length lead ≡ length swapped → SwappedAt copy swapped c (w - 1) → AreSmall row
    → ((k : ℕ) → entry lead k ≡ neg_ℤ (entry swapped k))
    → int_lt (to_z w64 (of_z w64 (entry swapped (w - 1)))) (pos 0) ≡ true → IsLead w c row lead
lead_made w c row copy swapped lead e long same long' s small neg sign =
    let last : entry swapped (w - 1) ≡ entry row c = s.1 (pos 0) ∙ ap (λ (v : List ℤ). entry v c) e in
    let value : to_z w64 (of_z w64 (entry swapped (w - 1))) ≡ entry row c = ap (λ (x : ℤ). to_z w64 (of_z w64 x)) last ∙ read (entry row c) (small c) in
    let test : int_lt (entry row c) (pos 0) ≡ true = rw value at sign in
    let first : entry swapped c ≡ entry row (w - 1) = s.0 (pos 0) ∙ ap (λ (v : List ℤ). entry v (w - 1)) e in
    record {
      sign = negsuc 0;
      unit = inr refl;
      long = long' ∙ same ∙ ap length e ∙ long;
      leaves = neg (w - 1) ∙ ap neg_ℤ last ∙ sym (minus_one (entry row c));
      enters = neg c ∙ ap neg_ℤ first ∙ sym (minus_one (entry row (w - 1)));
      others = λ k nc nn. neg k ∙ ap neg_ℤ (s.2 k (pos 0) nc nn ∙ ap (λ (v : List ℤ). entry v k) e) ∙ sym (minus_one (entry row k));
      positive = rw (neg (w - 1), last) (less (entry row c) test);
    }
