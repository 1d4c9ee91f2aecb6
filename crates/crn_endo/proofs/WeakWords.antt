-- Words that make the coordinates weak at which a number is at least 0.
use Rattle.crn_endo.proofs.Prelude.{◌≡◌, ◌≢◌, ℕ, zero, suc, ◌+◌, ◌/◌, ◌%◌, ◌<◌, ◌⊎◌, inl, inr, List, replicate, sym, ap, subst, refl, ◌∙◌, arith, bit_at, bit_at-zero, Sign, Kind, Pos, Neg, NonNeg, Free, Net, kind_at, eq_or, bit_of, word_of, AtLeastZeroOrFree, NeverAtLeastZero, slope_kinds, IsAskable}
use Rattle.crn_vec.specs.declared.signs.Kind.TheVariants.{Zero}

weak_askable : (κ : Kind) → (κ ≡ NonNeg) ⊎ (κ ≡ Free) → IsAskable 1 κ
weak_askable κ (inl e) = subst (IsAskable 1) (sym e) refl
weak_askable κ (inr e) = subst (IsAskable 1) (sym e) refl

firm_askable : (κ : Kind) → κ ≢ NonNeg → IsAskable 0 κ
firm_askable Pos ne = refl
firm_askable Neg ne = refl
firm_askable Zero ne = refl
firm_askable NonNeg ne = absurd (ne refl)
firm_askable Free ne = refl

word_none : (n w : ℕ) → word_of (replicate n 0) w ≡ 0
word_none zero w = refl
word_none (suc n) zero = refl
word_none (suc n) (suc w) = word_none n w

-- nothing is weak to begin with
pub none_weak : (n j : ℕ) → bit_of (replicate n 0) j ≡ 0
none_weak n j = ap (λ (w : ℕ). bit_at w (j % 64)) (word_none n (j / 64)) ∙ bit_at-zero (j % 64)

abbrev pub AreAskable : Net → ℕ → List ℕ → ℕ → Type 0
AreAskable net r words k = (p : List Sign) (j : ℕ) → j < k → IsAskable (bit_of words j) (kind_at (slope_kinds net r p) j)

-- one coordinate more, weak or not
pub weak_more : (net : Net) (r k : ℕ) (old new : List ℕ) → AreAskable net r old k → bit_of new k ≡ 1 → ((j : ℕ) → j ≢ k → bit_of new j ≡ bit_of old j) → AtLeastZeroOrFree net r k → AreAskable net r new (k + 1)
weak_more net r k old new h here others either p j lt = elim (eq_or j k) as (λ _. IsAskable (bit_of new j) (kind_at (slope_kinds net r p) j)) [
  | inl e ↦ subst (λ (i : ℕ). IsAskable (bit_of new i) (kind_at (slope_kinds net r p) i)) (sym e) (subst (λ (b : ℕ). IsAskable b (kind_at (slope_kinds net r p) k)) (sym here) (weak_askable (kind_at (slope_kinds net r p) k) (either p)))
  | inr ne ↦ subst (λ (b : ℕ). IsAskable b (kind_at (slope_kinds net r p) j)) (sym (others j ne)) (h p j (omega (arith, lt, ne)))
]

pub firm_more : (net : Net) (r k : ℕ) (words : List ℕ) → AreAskable net r words k → bit_of words k ≡ 0 → NeverAtLeastZero net r k → AreAskable net r words (k + 1)
firm_more net r k words h here never p j lt = elim (eq_or j k) as (λ _. IsAskable (bit_of words j) (kind_at (slope_kinds net r p) j)) [
  | inl e ↦ subst (λ (i : ℕ). IsAskable (bit_of words i) (kind_at (slope_kinds net r p) i)) (sym e) (subst (λ (b : ℕ). IsAskable b (kind_at (slope_kinds net r p) k)) (sym here) (firm_askable (kind_at (slope_kinds net r p) k) (never p)))
  | inr ne ↦ h p j (omega (arith, lt, ne))
]
