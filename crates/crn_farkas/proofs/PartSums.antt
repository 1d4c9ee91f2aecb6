-- Sums of vectors (x, Ax) that are right everywhere.
use Rattle.crn_farkas.proofs.Prelude.{◌≡◌, ◌≢◌, ℕ, zero, suc, ◌+◌, ◌*◌, ◌<◌, ◌≤◌, ◌⊎◌, inl, inr, List, [], ◌∷◌, length, get_or, take, refl, sym, ap, ap₂, subst, ◌∙◌, add-one, arith, ℤ, pos, ◌+ℤ◌, unsigned_abs, Bool, true, ext_get_or, length-take-le, WIDE_ENTRY, MAX_SIGNED, Kind, Mat, entry, dot, InRowSpace, MayTake, kind_at, is_signed, one_if, signed_count, eq_or, sum_within, plus, entry-plus, length-plus, dot-plus, dot-comm, take_sum, sum_some, IsWitness, IsPartSum}

count_suc : (kinds : List Kind) (g : ℕ) → g < length kinds → signed_count (take (suc g) kinds) ≡ signed_count (take g kinds) + one_if (is_signed (kind_at kinds g))
count_suc [] g h = absurd (omega arith)
count_suc (κ ∷ kinds) zero h = omega arith
count_suc (κ ∷ kinds) (suc g) h = omega (arith, count_suc kinds g (omega arith))

pub count_step : (kinds : List Kind) (g : ℕ) → g < length kinds → signed_count (take (g + 1) kinds) ≡ signed_count (take g kinds) + one_if (is_signed (kind_at kinds g))
count_step kinds g h = rw add-one (count_suc kinds g h)

pub count_prefix : (kinds : List Kind) (g : ℕ) → signed_count (take g kinds) ≤ signed_count kinds
count_prefix [] zero = omega arith
count_prefix [] (suc g) = omega arith
count_prefix (κ ∷ kinds) zero = omega arith
count_prefix (κ ∷ kinds) (suc g) = omega (arith, count_prefix kinds g)

-- one more coordinate, where it need not be or is not 0
pub part_more : (a : Mat) (kinds : List Kind) (g : ℕ) (v : List ℤ) → g < length kinds → IsPartSum a kinds g v → (is_signed (kind_at kinds g) ≡ true → entry v g ≢ pos 0) → IsPartSum a kinds (g + 1) v
part_more a kinds g v lt p here = record {
  space = p.space;
  takes = p.takes;
  some = λ k k_lt s. elim (eq_or k g) as (λ _. entry v k ≢ pos 0) [
    | inr ne ↦ p.some k (omega (arith, k_lt, ne)) s
    | inl e ↦ subst (λ (j : ℕ). entry v j ≢ pos 0) (sym e) (here (subst (λ (j : ℕ). is_signed (kind_at kinds j) ≡ true) e s))
  ];
  small = λ k. omega (arith, p.small k, count_step kinds g lt);
}

pub take-plus : (n : ℕ) (v w : List ℤ) → take n (plus v w) ≡ plus (take n v) (take n w)
take-plus zero v w = refl
take-plus (suc n) [] w = refl
take-plus (suc n) (x ∷ v) [] = refl
take-plus (suc n) (x ∷ v) (y ∷ w) = ap (λ (t : List ℤ). (x +ℤ y) ∷ t) (take-plus n v w)

pub row_plus : (a : Mat) (v w : List ℤ) → InRowSpace a v → InRowSpace a w → InRowSpace a (plus v w)
row_plus a v w h k =
    let same : length v ≡ length w = h.long ∙ sym k.long in
    let n = a.cols in
    let prefixes : length (take n v) ≡ length (take n w) = length-take-le n v (omega (arith, h.long)) ∙ sym (length-take-le n w (omega (arith, k.long))) in
    record {
      long = length-plus v w same ∙ h.long;
      is = λ i lt.
          let r = get_or a.rows i [] in
          entry-plus v w (n + i) same ∙ ap₂ (λ (x y : ℤ). x +ℤ y) (h.is i lt ∙ dot-comm r (take n v)) (k.is i lt ∙ dot-comm r (take n w))
          ∙ sym (dot-plus (take n v) (take n w) r prefixes) ∙ dot-comm (plus (take n v) (take n w)) r ∙ ap (dot r) (sym (take-plus n v w));
    }

-- a witness added
pub part_added : (a : Mat) (kinds : List Kind) (g : ℕ) (v y z : List ℤ) → g < length kinds → is_signed (kind_at kinds g) ≡ true → IsPartSum a kinds g v → IsWitness a kinds g y
    → length z ≡ length v → ((k : ℕ) → entry z k ≡ entry v k +ℤ entry y k) → IsPartSum a kinds (g + 1) z
part_added a kinds g v y z lt s p w long entries =
    let same : length v ≡ length y = p.space.long ∙ sym w.space.long in
    let is : z ≡ plus v y = ext_get_or (pos 0) z (plus v y) (long ∙ sym (length-plus v y same)) (λ k k_lt. entries k ∙ sym (entry-plus v y k same)) in
    record {
      space = subst (λ (l : List ℤ). InRowSpace a l) (sym is) (row_plus a v y p.space w.space);
      takes = λ k. subst (λ (x : ℤ). MayTake (kind_at kinds k) x) (sym (entries k)) (take_sum (kind_at kinds k) (entry v k) (entry y k) (p.takes k) (w.takes k));
      some = λ k k_lt signed. subst (λ (x : ℤ). x ≢ pos 0) (sym (entries k)) (sum_some (kind_at kinds k) (entry v k) (entry y k) signed (p.takes k) (w.takes k)
          (elim (eq_or k g) as (λ _. (entry v k ≢ pos 0) ⊎ (entry y k ≢ pos 0)) [
            | inl e ↦ inr (subst (λ (j : ℕ). entry y j ≢ pos 0) (sym e) w.some)
            | inr ne ↦ inl (p.some k (omega (arith, k_lt, ne)) signed)
          ]));
      small = λ k.
          let n = signed_count (take g kinds) in
          let b : unsigned_abs (entry v k +ℤ entry y k) ≤ n * WIDE_ENTRY + WIDE_ENTRY = sum_within (entry v k) (entry y k) (n * WIDE_ENTRY) (WIDE_ENTRY) (p.small k) (omega (arith, w.small k)) in
          let c : signed_count (take (g + 1) kinds) ≡ n + one_if true = count_step kinds g lt ∙ ap (λ (q : Bool). n + one_if q) s in
          subst (λ (x : ℤ). unsigned_abs x ≤ signed_count (take (g + 1) kinds) * WIDE_ENTRY) (sym (entries k)) (omega (arith, b, c));
    }

pub part_bound : (a : Mat) (kinds : List Kind) (g : ℕ) (v : List ℤ) → IsPartSum a kinds g v → signed_count kinds ≤ MAX_SIGNED → (k : ℕ) → unsigned_abs (entry v k) ≤ MAX_SIGNED * WIDE_ENTRY
part_bound a kinds g v p few k = omega (arith, p.small k, count_prefix kinds g, few)
