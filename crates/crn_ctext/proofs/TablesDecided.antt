-- The tests of trees of influence tables, and of pairs that show a table discordant, are decided, whatever the records hold.
use Rattle.crn_ctext.proofs.Prelude.{◌≡◌, ◌≤◌, ◌<◌, ◌++◌, ◌∙◌, ℕ, zero, suc, true, List, [], ◌∷◌, length, drop, refl, sym, ap, inl, inr, arith, ℤ, pos, negsuc, ◌≢◌, neg_ℤ, AllZip, cases_lt, length-append, drop_at, Mat, entry, dot, column, InDualSpace, Sign, Pos, Neg, NonNeg, MayWeigh, HasWeight, AreRuling, IsCut, is_signed, HasPositive, HasNegative, IsNought, GoesWith, IsDiscordant, shares, image, listed, length-listed, entry-listed, weights_decide_cuts, cut_long}
use Rattle.crn_vec.specs.declared.signs.Kind.{Kind}
use Rattle.crn_vec.specs.declared.signs.Kind.TheVariants.{Zero, Free}
use Rattle.crn_vec.specs.Systems.{kind_at}
use Rattle.crn_ctext.proofs.Decided.{IsDecided, both_decided, one_decided, not_decided, if_decided, moved, nat_decided, bool_decided, int_decided, int_le_decided, all_decided}
use Rattle.crn_ctext.proofs.TestsDecided.{some_below}

-- ---- lists that are related place by place

pub zip_decided : {A B : Type 0} (R : A → B → Type 0) → ((x : A) (y : B) → IsDecided (R x y)) → (xs : List A) (ys : List B) → IsDecided (AllZip R xs ys)
zip_decided R each [] [] = inl tt
zip_decided R each [] (y ∷ ys) = inr (λ h. h)
zip_decided R each (x ∷ xs) [] = inr (λ h. h)
zip_decided R each (x ∷ xs) (y ∷ ys) = both_decided (each x y) (zip_decided R each xs ys)

-- ---- cuts

weigh_decided : (kind : Kind) (w : ℤ) → IsDecided (MayWeigh kind w)
weigh_decided Neg w = int_le_decided w (pos 0)
weigh_decided Zero w = inl tt
weigh_decided Free w = int_decided w (pos 0)
weigh_decided kind w = int_le_decided (pos 0) w

-- past the end of the kinds each coordinate is free
free_past : (kinds : List Kind) (k : ℕ) → length kinds ≤ k → is_signed (kind_at kinds k) ≡ true → ⊥
free_past [] k h e = cc
free_past (kind ∷ kinds) zero h e = omega (arith, h)
free_past (kind ∷ kinds) (suc k) h e = free_past kinds k (omega (arith, h)) e

abbrev Weighs : List Kind → List ℤ → ℕ → Type 0
Weighs kinds w k = (is_signed (kind_at kinds k) ≡ true) × (entry w k ≢ pos 0)

weight_decided : (kinds : List Kind) (w : List ℤ) → IsDecided (HasWeight kinds w)
weight_decided kinds w =
    moved (λ h. (h.0, h.2.0, h.2.1)) (λ h. (h.0, below h.0 h.1, (h.1, h.2))) (some_below (Weighs kinds w) (λ k. both_decided (bool_decided (is_signed (kind_at kinds k)) true) (not_decided (int_decided (entry w k) (pos 0)))) (length kinds))
  where
    below : (k : ℕ) → is_signed (kind_at kinds k) ≡ true → k < length kinds
    below k e = elim (cases_lt k (length kinds)) [ inl less ↦ less | inr more ↦ absurd (free_past kinds k more e) ]

ruling_decided : (kinds : List Kind) (w : List ℤ) → IsDecided (AreRuling kinds w)
ruling_decided kinds w = both_decided (zip_decided MayWeigh weigh_decided kinds w) (weight_decided kinds w)

entry_prefix : (xs ys : List ℤ) (j : ℕ) → j < length xs → entry (xs ++ ys) j ≡ entry xs j
entry_prefix [] ys j h = absurd (omega (arith, h))
entry_prefix (x ∷ xs) ys zero h = refl
entry_prefix (x ∷ xs) ys (suc j) h = entry_prefix xs ys j (omega (arith, h))

-- the list (-uA, u)
weights : Mat → List ℤ → List ℤ
weights a u = listed a.cols (λ j. neg_ℤ (dot u (column a.rows j))) ++ u

rows_are : (a : Mat) (u : List ℤ) → drop a.cols (weights a u) ≡ u
unfolding weights
rows_are a u = drop_at (listed a.cols (λ j. neg_ℤ (dot u (column a.rows j)))) u a.cols (length-listed a.cols (λ j. neg_ℤ (dot u (column a.rows j))))

weights_dual : (a : Mat) (u : List ℤ) → length u ≡ length a.rows → InDualSpace a (weights a u)
unfolding weights
weights_dual a u long =
    let f : ℕ → ℤ = λ j. neg_ℤ (dot u (column a.rows j)) in
    let prefix = length-listed a.cols f in
    record {
      long = omega (arith, long, prefix, length-append (listed a.cols f) u);
      is = λ j less. entry_prefix (listed a.cols f) u j (omega (arith, less, prefix)) ∙ entry-listed a.cols f j less ∙ sym (ap (λ (v : List ℤ). neg_ℤ (dot v (column a.rows j))) (rows_are a u));
    }

pub cut_decided : (a : Mat) (kinds : List Kind) (u : List ℤ) → IsDecided (IsCut a kinds u)
cut_decided a kinds u = elim (nat_decided (length u) (length a.rows)) [
  | inl long ↦ let both = weights_decide_cuts a kinds u (weights a u) (weights_dual a u long) (rows_are a u) in moved both.1 both.0 (ruling_decided kinds (weights a u))
  | inr apart ↦ inr (λ cut. apart (cut_long a kinds u cut))
]

-- ---- discordance

positive_decided : (xs : List ℤ) → IsDecided (HasPositive xs)
positive_decided [] = inr (λ h. h)
positive_decided (x ∷ xs) = one_decided (int_le_decided (pos 1) x) (positive_decided xs)

negative_decided : (xs : List ℤ) → IsDecided (HasNegative xs)
negative_decided [] = inr (λ h. h)
negative_decided (x ∷ xs) = one_decided (int_le_decided x (negsuc 0)) (negative_decided xs)

nought_decided : (x : ℤ) → IsDecided (IsNought x)
nought_decided x = int_decided x (pos 0)

goes_decided : (xs : List ℤ) (x : ℤ) → IsDecided (GoesWith xs x)
goes_decided xs x = moved (λ h. record { up = h.0; down = h.1.0; still = h.1.1 }) (λ h. (h.up, (h.down, h.still)))
    (both_decided (if_decided (int_le_decided (pos 1) x) (positive_decided xs)) (both_decided (if_decided (int_le_decided x (negsuc 0)) (negative_decided xs))
    (if_decided (int_decided x (pos 0)) (one_decided (all_decided IsNought nought_decided xs) (both_decided (positive_decided xs) (negative_decided xs))))))

pub discordant_decided : (m : Mat) (table : List (List Sign)) (alpha weights : List ℤ) → IsDecided (IsDiscordant m table alpha weights)
discordant_decided m table alpha weights = moved (λ h. record { long_alpha = h.0; long_weights = h.1.0; balanced = h.1.1.0; some = h.1.1.1.0; goes = h.1.1.1.1 }) (λ h. (h.long_alpha, (h.long_weights, (h.balanced, (h.some, h.goes)))))
    (both_decided (nat_decided (length alpha) m.cols) (both_decided (nat_decided (length weights) m.cols) (both_decided (all_decided IsNought nought_decided (image m alpha)) (both_decided
    (one_decided (positive_decided (image m weights)) (negative_decided (image m weights))) (zip_decided (λ signs x. GoesWith (shares signs (image m weights)) x) (λ signs x. goes_decided (shares signs (image m weights)) x) table alpha)))))
