-- The tests of a document on endotactic networks are decided, whatever its records hold.
use Rattle.crn_endo_text.proofs.Prelude.{◌≡◌, ◌≢◌, ◌<◌, ◌+◌, ℕ, Bool, true, false, if◌then◌else◌, List, length, refl, inl, inr, arith, ℤ, pos, negsuc, ◌≤ℤ◌, ◌<ℤ◌, ◌+ℤ◌, ints, Net, entry, width, Sign, Kind, Pos, Neg, NonNeg, IsCut, MayWeigh, is_signed, kind_at, cut_long, Splits, Flats, CutsA, Fits, IsDecided, both_decided, not_decided, moved, nat_decided, lt_decided, bool_decided, int_decided, int_le_decided, each_below, some_below, HasLowerRise, IsAgainst, height, reaction_at, rise, is_slope_closed, others, slope_kinds, slope_matrix, slopes, MayWeighTo, CountsTo, cut_from, cut_weighs, cut_counts, kinds_long}
use Rattle.crn_vec.specs.declared.signs.Kind.TheVariants.{Zero, Free}

-- ---- cuts

weight_allowed : (kind : Kind) (w : ℤ) → IsDecided (MayWeigh kind w)
weight_allowed Pos w = int_le_decided (pos 0) w
weight_allowed Neg w = int_le_decided w (pos 0)
weight_allowed NonNeg w = int_le_decided (pos 0) w
weight_allowed Zero w = inl tt
weight_allowed Free w = int_decided w (pos 0)

-- the weights of the first n coordinates
weights_allowed : (kinds : List Kind) (w : List ℤ) (n : ℕ) → IsDecided (MayWeighTo kinds w n × CountsTo kinds w n)
weights_allowed kinds w n =
    both_decided (each_below (λ j. MayWeigh (kind_at kinds j) (entry w j)) (λ j. weight_allowed (kind_at kinds j) (entry w j)) n)
    (moved (λ h. (h.0, h.1, h.2.0, h.2.1)) (λ h. (h.0, h.1, (h.2, h.3)))
    (some_below (λ j. (is_signed (kind_at kinds j) ≡ true) × (entry w j ≢ pos 0)) (λ j. both_decided (bool_decided (is_signed (kind_at kinds j)) true) (not_decided (int_decided (entry w j) (pos 0)))) n))

slope_cut_decided : (net : Net) (r : ℕ) (prefix : List Sign) (u : List ℤ) → IsDecided (IsCut (slope_matrix net r) (slope_kinds net r prefix) u)
slope_cut_decided net r prefix u =
    let a = slope_matrix net r in
    let kinds = slope_kinds net r prefix in
    elim (nat_decided (length u) (length a.rows)) [
      | inl long ↦ moved (λ h. cut_from a kinds u (width a) long (kinds_long net r prefix) refl h.0 h.1) (λ cut. (λ k lt. cut_weighs a kinds u long cut k, cut_counts a kinds u (width a) long refl cut)) (weights_allowed kinds _ (width a))
      | inr apart ↦ inr (λ cut. apart (cut_long a kinds u cut))
    ]

-- ---- nodes

pub fits_decided : (net : Net) (r : ℕ) (prefix : List Sign) (splits flats : Bool) (u : List ℤ) → IsDecided (Fits (slopes net r) prefix (if splits then Splits else (if flats then Flats else CutsA u)))
fits_decided net r prefix true flats u = lt_decided (length prefix) (1 + length (others net r))
fits_decided net r prefix false true u = bool_decided (is_slope_closed prefix) true
fits_decided net r prefix false false u = slope_cut_decided net r prefix u

-- ---- slopes

int_lt_decided : (a b : ℤ) → IsDecided (a <ℤ b)
int_lt_decided a b = moved {P = (a +ℤ pos 1) ≤ℤ b} (λ h. omega (arith, ints, h)) (λ h. omega (arith, ints, h)) (int_le_decided (a +ℤ pos 1) b)

lower_decided : (net : Net) (w : List ℤ) (r : ℕ) → IsDecided (HasLowerRise net w r)
lower_decided net w r =
    moved {P = (q : ℕ) × (q < length net.reactions) × ((pos 1 ≤ℤ rise net w q) × (height net w (reaction_at net q).0 <ℤ height net w (reaction_at net r).0))}
    (λ h. record { q = h.0; inside = h.1; rises = h.2.0; lower = h.2.1 }) (λ h. (h.q, h.inside, (h.rises, h.lower)))
    (some_below (λ q. (pos 1 ≤ℤ rise net w q) × (height net w (reaction_at net q).0 <ℤ height net w (reaction_at net r).0))
    (λ q. both_decided (int_le_decided (pos 1) (rise net w q)) (int_lt_decided (height net w (reaction_at net q).0) (height net w (reaction_at net r).0))) (length net.reactions))

pub against_decided : (net : Net) (r : ℕ) (w : List ℤ) → IsDecided (IsAgainst net r w)
against_decided net r w =
    moved {P = (length w ≡ length net.names) × ((rise net w r ≤ℤ negsuc 0) × (HasLowerRise net w r → ⊥))} (λ h. record { long = h.0; falls = h.1.0; none = h.1.1 }) (λ h. (h.long, (h.falls, h.none)))
    (both_decided (nat_decided (length w) (length net.names)) (both_decided (int_le_decided (rise net w r) (negsuc 0)) (not_decided (lower_decided net w r))))
