-- Lists that rule a system out, from their entries.
use Rattle.crn_farkas.proofs.Prelude.{◌≡◌, ◌≢◌, ℕ, zero, suc, ◌+◌, ◌<◌, ◌≤◌, inl, inr, List, [], ◌∷◌, ◌++◌, length, get_or, take, drop, refl, sym, ap, subst, ◌∙◌, add-one, arith, ℤ, pos, ◌*ℤ◌, unsigned_abs, Bool, true, false, ints, false≢true, get_or-drop, WIDE_ENTRY, Kind, Free, Sign, Zero, Mat, entry, HasSign, scale, IsIn, width, InDualSpace, IsNamed, IsNamedRow, HasWeight, IsCut, MayWeigh, kind_at, is_signed, kinds_at, weights_decide_cuts, lt_or, past_end, zip_from, entry-scale, no_zero, NamesRows, RulesBelow, one_row, as_row, IsSmallCut, factor, CutsBy, AreNamedMultipliers, AreSignsOf, IsRowOfSign}
use lib.IntN.{zero-*ℤ}
use Rattle.crn_farkas.proofs.Pairs.{named_scaled, dual_scaled, drop-scale, own_some}

-- the first so many entries are what a list that rules a system out may have
abbrev WeighsBelow : List Kind → List ℤ → ℕ → Type 0
WeighsBelow kinds w n = (k : ℕ) → k < n → MayWeigh (kind_at kinds k) (entry w k)

-- some of the first so many coordinates has to be positive or negative, and has a weight
abbrev CountsBelow : List Kind → List ℤ → ℕ → Type 0
CountsBelow kinds w n = (k : ℕ) × (k < n) × (is_signed (kind_at kinds k) ≡ true) × (entry w k ≢ pos 0)

-- what a list (-uA, u) that rules a system of these kinds out has at each place
abbrev pub IsRuling : List Kind → List ℤ → Type 0
IsRuling kinds w = ((k : ℕ) → MayWeigh (kind_at kinds k) (entry w k)) × HasWeight kinds w

pub cut_of_ruling : (a : Mat) (kinds : List Kind) (w : List ℤ) → InDualSpace a w → length kinds ≡ width a → IsRuling kinds w → IsCut a kinds (drop a.cols w)
cut_of_ruling a kinds w space long rules = (w, record { space = space; rows = refl; each = zip_from MayWeigh Free (pos 0) kinds w (space.long ∙ sym long) (λ k lt. rules.0 k); some = rules.1 })

pub ruling_of_cut : (a : Mat) (kinds : List Kind) (w : List ℤ) → InDualSpace a w → IsCut a kinds (drop a.cols w) → IsRuling kinds w
ruling_of_cut a kinds w space cut = let r = (weights_decide_cuts a kinds (drop a.cols w) w space refl).0 cut in (kinds_at MayWeigh kinds w refl r.0, r.1)

pub kind_past : (kinds : List Kind) (k : ℕ) → length kinds ≤ k → kind_at kinds k ≡ Free
kind_past [] k h = refl
kind_past (κ ∷ kinds) zero h = absurd (omega arith)
kind_past (κ ∷ kinds) (suc k) h = kind_past kinds k (omega arith)

pub ruling_from : (kinds : List Kind) (w : List ℤ) → length w ≡ length kinds → WeighsBelow kinds w (length kinds) → CountsBelow kinds w (length kinds) → IsRuling kinds w
ruling_from kinds w e weighs (k, lt, s, n) = (
  λ j. elim (lt_or j (length kinds)) as (λ _. MayWeigh (kind_at kinds j) (entry w j)) [
    | inl h ↦ weighs j h
    | inr h ↦ subst (λ (κ : Kind). MayWeigh κ (entry w j)) (sym (kind_past kinds j h)) (past_end w j (omega (arith, e, h)))
  ],
  (k, s, n),
)

free_unsigned : (κ : Kind) → κ ≡ Free → is_signed κ ≡ true → ⊥
free_unsigned κ e s = false≢true (ap is_signed (sym e) ∙ s)

-- a signed coordinate is one of those that have a kind
pub signed_inside : (kinds : List Kind) (k : ℕ) → is_signed (kind_at kinds k) ≡ true → k < length kinds
signed_inside kinds k s = elim (lt_or k (length kinds)) as (λ _. k < length kinds) [
  | inl h ↦ h
  | inr h ↦ absurd (free_unsigned (kind_at kinds k) (kind_past kinds k h) s)
]

pub ruling_counts : (kinds : List Kind) (w : List ℤ) → IsRuling kinds w → CountsBelow kinds w (length kinds)
ruling_counts kinds w (weighs, (k, s, n)) = (k, signed_inside kinds k s, s, n)

-- the same of the coordinates below a count that are all
pub rules_below : (kinds : List Kind) (count : ℕ) (w : List ℤ) → length kinds ≡ count → IsRuling kinds w → RulesBelow kinds count w
rules_below kinds count w e r = let k = ruling_counts kinds w r in (λ c lt. r.0 c, (k.0, omega (arith, k.1, e), k.2, k.3))

pub rules_of : (kinds : List Kind) (count : ℕ) (w : List ℤ) → length kinds ≡ count → length w ≡ count → RulesBelow kinds count w → IsRuling kinds w
rules_of kinds count w e long r = ruling_from kinds w (omega (arith, e, long)) (λ c lt. r.0 c (omega (arith, lt, e))) (r.1.0, omega (arith, r.1.1, e), r.1.2, r.1.3)

scale_suc : (q : ℤ) (v : List ℤ) (k : ℕ) → k < length v → scale q (take (suc k) v) ≡ scale q (take k v) ++ (q *ℤ entry v k) ∷ []
scale_suc q [] k h = absurd (omega arith)
scale_suc q (x ∷ v) zero h = refl
scale_suc q (x ∷ v) (suc k) h = ap (λ (t : List ℤ). (q *ℤ x) ∷ t) (scale_suc q v k (omega arith))

pub scale_step : (q : ℤ) (v : List ℤ) (k : ℕ) → k < length v → scale q (take (k + 1) v) ≡ scale q (take k v) ++ (q *ℤ entry v k) ∷ []
scale_step q v k h = rw add-one (scale_suc q v k h)

pub unit_size : (s : Bool) (x : ℤ) → unsigned_abs (factor s *ℤ x) ≡ unsigned_abs x
unit_size true x = omega (arith, ints)
unit_size false x = omega (arith, ints)

pub scaled_small : (s : Bool) (v : List ℤ) (m : ℕ) → ((k : ℕ) → unsigned_abs (entry v k) < m) → (k : ℕ) → unsigned_abs (entry (scale (factor s) v) k) < m
scaled_small s v m h k = subst (λ (t : ℕ). t < m) (sym (ap unsigned_abs (entry-scale (factor s) v k) ∙ unit_size s (entry v k))) (h k)

pub unscaled_small : (s : Bool) (v : List ℤ) (m : ℕ) → ((k : ℕ) → unsigned_abs (entry (scale (factor s) v) k) < m) → (k : ℕ) → unsigned_abs (entry v k) < m
unscaled_small s v m h k = subst (λ (t : ℕ). t < m) (ap unsigned_abs (entry-scale (factor s) v k) ∙ unit_size s (entry v k)) (h k)

-- the multipliers of a named vector with its sign
pub cut_from : (a : Mat) (basis : List ℕ) (kinds : List Kind) (e : ℕ) (sign : Sign) (s : Bool) (w u : List ℤ) → NamesRows a basis → e < width a → ¬ IsIn e basis → length kinds ≡ width a
    → CutsBy a basis kinds e sign → IsNamed a basis e w → ((k : ℕ) → unsigned_abs (entry w k) < WIDE_ENTRY) → (entry w e ≢ pos 0 → sign ≢ Zero → HasSign sign (factor s *ℤ entry w e))
    → u ≡ scale (factor s) (drop a.cols w) → IsSmallCut a kinds u
cut_from a basis kinds e sign s w u t lt out long cuts named small signs same =
    let small_part : (k : ℕ) → unsigned_abs (entry (drop a.cols w) k) < WIDE_ENTRY = λ k. subst (λ (z : ℤ). unsigned_abs z < WIDE_ENTRY) (sym (get_or-drop a.cols w k (pos 0))) (small (a.cols + k)) in
    let q = factor s in
    let signed = signs (own_some a basis e w t lt out named) cuts.some in
    let row = as_row a basis e w out named in
    let v = scale q w in
    let named_v = named_scaled a basis e q w row in
    let rules = cuts.rules v named_v (subst (HasSign sign) (sym (entry-scale q w e)) signed) in
    record {
      cut = subst (IsCut a kinds) (drop-scale q a.cols w ∙ sym same) rules;
      small = subst (λ (l : List ℤ). (k : ℕ) → unsigned_abs (entry l k) < WIDE_ENTRY) (sym same) (scaled_small s (drop a.cols w) (WIDE_ENTRY) small_part);
    }

-- they are those of a vector that the basis names
pub multipliers_from : (a : Mat) (basis : List ℕ) (e : ℕ) (s : Bool) (w u : List ℤ) → ¬ IsIn e basis → IsNamed a basis e w → u ≡ scale (factor s) (drop a.cols w) → AreNamedMultipliers a basis u
multipliers_from a basis e s w u out named same =
    let q = factor s in
    record {
      e = e;
      outside = out;
      w = w;
      named = named;
      q = q;
      space = dual_scaled a q w (as_row a basis e w out named).space;
      rows = drop-scale q a.cols w ∙ sym same;
    }

-- they are those of a vector of this sign at its coordinate
pub row_from : (a : Mat) (basis : List ℕ) (e : ℕ) (sign : Sign) (s : Bool) (w u : List ℤ) → NamesRows a basis → e < width a → ¬ IsIn e basis → sign ≢ Zero → IsNamed a basis e w
    → (entry w e ≢ pos 0 → sign ≢ Zero → HasSign sign (factor s *ℤ entry w e)) → u ≡ scale (factor s) (drop a.cols w) → (v : List ℤ) × IsRowOfSign a basis e sign v × (drop a.cols v ≡ u)
row_from a basis e sign s w u t lt out some named signs same =
    let q = factor s in
    let signed = signs (own_some a basis e w t lt out named) some in
    (scale q w, (named_scaled a basis e q w (as_row a basis e w out named), subst (HasSign sign) (sym (entry-scale q w e)) signed), drop-scale q a.cols w ∙ sym same)

-- the signs of all such vectors are those of the one with these multipliers
pub signs_of_row : (a : Mat) (basis : List ℕ) (e : ℕ) (sign : Sign) (u : List ℤ) (signs : List Sign) → length signs ≡ width a
    → ((w : List ℤ) → IsRowOfSign a basis e sign w → (k : ℕ) → k < width a → HasSign (get_or signs k Zero) (entry w k)) → (w : List ℤ) × IsRowOfSign a basis e sign w × (drop a.cols w ≡ u) → AreSignsOf a u signs
signs_of_row a basis e sign u signs long are r = record {
  w = r.0;
  space = r.1.0.space;
  rows = r.2;
  are = zip_from HasSign Zero (pos 0) signs r.0 (r.1.0.space.long ∙ sym long) (λ k lt. are r.0 r.1 k (omega (arith, lt, long)));
  long = long;
}

-- a named vector that rules the system out is not 0 at its coordinate
pub ruling_some : (a : Mat) (basis : List ℕ) (kinds : List Kind) (e : ℕ) (w : List ℤ) → NamesRows a basis → IsNamedRow a basis e w → IsCut a kinds (drop a.cols w) → entry w e ≢ pos 0
ruling_some a basis kinds e w t row cut none =
    let rules = ruling_of_cut a kinds w row.space cut in
    let v = t.rows e row.inside row.outside in
    let k = rules.1.0 in
    let p : entry v.w e *ℤ entry w k ≡ entry w e *ℤ entry v.w k = one_row a basis e w v.w t.wide t.basis_is row (as_row a basis e v.w row.outside v.named) k in
    let q : entry w e *ℤ entry v.w k ≡ pos 0 *ℤ entry v.w k = ap (λ (t : ℤ). t *ℤ entry v.w k) none in
    rules.1.2 (no_zero (entry v.w e) (entry w k) (p ∙ q ∙ zero-*ℤ (entry v.w k)) (λ z. omega (arith, ints, z, v.positive)))
