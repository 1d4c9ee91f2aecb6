-- Amounts of the names of a side, and tests that decide whether names, complexes, sides and reactions are equal.
use Rattle.crn_vec.proofs.Prelude.{◌≡◌, ◌⊎◌, ℕ, true, cond, ◌&&◌, List, [], ◌∷◌, map, refl, sym, ap, ap₂, inl, inr, arith, ℤ, pos, Decides, bytes_eq, int_eq, pointwise, signed_items, cases_Bool, Decides-eqb, bytes_eq-Decides, sum_by-cons, IsIn, sides_eq, amount_in, amounts_in}
use Rattle.std.proofs.Common.{◌==◌}
use Rattle.crn_vec.proofs.Lists.{any_is, and_cases, pair, map_same}

-- ---- tests that decide

pub name_decides : (name known : List ℕ) → Decides (bytes_eq known name) (known ≡ name)
name_decides name known = bytes_eq-Decides known name

pub row_decides : (row known : List ℤ) → Decides (pointwise int_eq known row) (known ≡ row)
row_decides row known = signed_items known row

pub sides_decide : (a b : List ℤ × List ℤ) → Decides (sides_eq a b) (a ≡ b)
sides_decide a b = (
  λ h. let p = and_cases (pointwise int_eq a.0 b.0) (pointwise int_eq a.1 b.1) h in ap₂ pair ((signed_items a.0 b.0).0 p.0) ((signed_items a.1 b.1).0 p.1),
  λ e. let p = (signed_items a.0 b.0).1 (ap (λ (t : List ℤ × List ℤ). t.0) e) in let q = (signed_items a.1 b.1).1 (ap (λ (t : List ℤ × List ℤ). t.1) e) in rw (p, q) refl,
)

pub reaction_decides : (r known : ℕ × ℕ) → Decides ((known.0 == r.0) && (known.1 == r.1)) (known ≡ r)
reaction_decides r known = (
  λ h. let p = and_cases (known.0 == r.0) (known.1 == r.1) h in let a : known.0 ≡ r.0 = (Decides-eqb known.0 r.0).0 p.0 in let b : known.1 ≡ r.1 = (Decides-eqb known.1 r.1).0 p.1 in ap₂ pair a b,
  λ e. let a : (known.0 == r.0) ≡ true = (Decides-eqb known.0 r.0).1 (ap (λ (p : ℕ × ℕ). p.0) e) in let b : (known.1 == r.1) ≡ true = (Decides-eqb known.1 r.1).1 (ap (λ (p : ℕ × ℕ). p.1) e) in rw (a, b) refl,
)

-- ---- amounts

-- a name that a side doesn't have has the amount 0
pub none_said : (side : List (List ℕ × ℕ)) (name : List ℕ) → (IsIn name (map (λ t. t.0) side) → ⊥) → amount_in side name ≡ 0
none_said [] name h = refl
none_said (t ∷ side) name h =
    let f : List ℕ × ℕ → ℕ = λ u. cond (bytes_eq u.0 name) u.1 0 in
    let cons = sum_by-cons f t side in
    let rest = none_said side name (λ i. h (inr i)) in
    elim (cases_Bool (bytes_eq t.0 name)) [
      | inl hit ↦ absurd (h (inl (sym ((name_decides name t.0).0 hit))))
      | inr miss ↦ let one : f t ≡ 0 = rw miss refl in omega (arith, cons, rest, one)
    ]

pub has_name : (side : List (List ℕ × ℕ)) (name : List ℕ) → IsIn name (map (λ t. t.0) side) ⊎ (IsIn name (map (λ t. t.0) side) → ⊥)
has_name side name = elim (any_is (λ known. bytes_eq known name) name (λ known. name_decides name known) (map (λ t. t.0) side)) [ inl a ↦ inl a.1 | inr b ↦ inr b.1 ]

-- sides with the same amount of each name have the same amounts of all names
pub amounts_same : (names : List (List ℕ)) (x y : List (List ℕ × ℕ)) → ((name : List ℕ) → amount_in x name ≡ amount_in y name) → amounts_in names x ≡ amounts_in names y
amounts_same names x y h = map_same (λ name. pos (amount_in x name)) (λ name. pos (amount_in y name)) names (λ name i. ap pos (h name))
