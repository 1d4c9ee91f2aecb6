-- Which coordinates of a reaction's problem are at least 0 at some prefix.
use Rattle.crn_endo_check.proofs.Prelude.{◌≡◌, ◌≢◌, ◌⊎◌, ℕ, zero, suc, ◌+◌, ◌-◌, ◌<◌, ◌≤◌, inl, inr, List, [], ◌∷◌, length, Bool, true, false, cond, sym, subst, refl, arith, ◌==◌, ◌&&◌, eqb-true, eq-eqb, Sign, Zero, Plus, Minus, Kind, NonNeg, Free, Net, kind_at, is_minus, is_plus, kind_of_sign, row_kinds, eq_or, lt_or, reaction_at, AtLeastZeroOrFree, NeverAtLeastZero, at_least_zero_if, fall_kind, later, option_of, others, rise_kind, slope_kinds}
use Rattle.crn_endo_check.proofs.SlopeCoordinates.{fall_row, height_row, rise_row, species_kind}

abbrev IsEither : Kind → Type 0
IsEither κ = (κ ≡ NonNeg) ⊎ (κ ≡ Free)

either_if : (b : Bool) → IsEither (at_least_zero_if b)
either_if true = inl refl
either_if false = inr refl

-- a condition that does not hold
other_branch : (b : Bool) (x y : Kind) → b ≡ false → cond b x y ≡ y
other_branch true x y e = absurd (cc)
other_branch false x y e = refl

rise_either : (net : Net) (r q : ℕ) (p : List Sign) → (q == r) ≡ false → IsEither (rise_kind net r p q)
rise_either net r q [] ne = inr refl
rise_either net r q (s ∷ p) ne =
    let b = is_plus (option_of (others net r) p (reaction_at net q).0) in
    let k = at_least_zero_if (is_plus s && b) in
    subst IsEither (sym (other_branch (q == r) (kind_of_sign s) k ne)) (either_if (is_plus s && b))

fall_either : (net : Net) (r q : ℕ) (p : List Sign) → IsEither (fall_kind net r p q)
fall_either net r q [] = inr refl
fall_either net r q (s ∷ p) = either_if (is_minus s && is_minus (option_of (others net r) p (reaction_at net q).0))

neq_eqb : (c d : ℕ) → c ≢ d → (c == d) ≡ false
neq_eqb c d ne = by (c == d) refl
  where
    by : (b : Bool) → (c == d) ≡ b → (c == d) ≡ false
    by true f = absurd (ne (eqb-true c d f))
    by false f = f

-- rises along other reactions and falls are free or at least 0
pub either_at : (net : Net) (r k : ℕ) → length net.names ≤ k → k - length net.names < length net.reactions + length net.reactions → k - length net.names ≢ r → AtLeastZeroOrFree net r k
either_at net r k le lt ne p =
    let n = length net.reactions in
    let row = k - length net.names in
    elim (lt_or row n) as (λ _. IsEither (kind_at (slope_kinds net r p) k)) [
      | inl rises ↦ subst IsEither (rise_row net r p k row le refl rises) (rise_either net r row p (neq_eqb row r ne))
      | inr past ↦ subst IsEither (fall_row net r p k row (row - n) le refl past refl (omega (arith, lt, past))) (fall_either net r (row - n) p)
    ]

free_apart : Free ≢ NonNeg
free_apart e = absurd (cc)

sign_apart : (s : Sign) → kind_of_sign s ≢ NonNeg
sign_apart Zero e = absurd (cc)
sign_apart Plus e = absurd (cc)
sign_apart Minus e = absurd (cc)

rows_apart : (n : ℕ) (p : List Sign) (j : ℕ) → kind_at (row_kinds n p) j ≢ NonNeg
rows_apart zero p j = free_apart
rows_apart (suc n) [] zero = free_apart
rows_apart (suc n) [] (suc j) = rows_apart n [] j
rows_apart (suc n) (s ∷ p) zero = sign_apart s
rows_apart (suc n) (s ∷ p) (suc j) = rows_apart n p j

own_apart : (net : Net) (r : ℕ) (p : List Sign) → rise_kind net r p r ≢ NonNeg
own_apart net r [] = free_apart
own_apart net r (s ∷ p) =
    let k = at_least_zero_if (is_plus s && is_plus (option_of (others net r) p (reaction_at net r).0)) in
    subst (λ (b : Bool). cond b (kind_of_sign s) k ≢ NonNeg) (sym (eq-eqb r r refl)) (sign_apart s)

-- the numbers of species, the rise along the reaction itself and the heights are never at least 0
pub never_at : (net : Net) (r k : ℕ) → r < length net.reactions → (length net.names ≤ k → k - length net.names < length net.reactions + length net.reactions → k - length net.names ≢ r → ⊥) → NeverAtLeastZero net r k
never_at net r k inside out p =
    let names = length net.names in
    let n = length net.reactions in
    let row = k - names in
    let Apart : Kind → Type 0 = λ κ. κ ≢ NonNeg in
    elim (lt_or k names) as (λ _. kind_at (slope_kinds net r p) k ≢ NonNeg) [
      | inl species ↦ subst Apart (species_kind net r p k species) free_apart
      | inr le ↦ elim (eq_or row r) as (λ _. kind_at (slope_kinds net r p) k ≢ NonNeg) [
        | inl e ↦ subst Apart (rise_row net r p k row le refl (omega (arith, e, inside))) (subst (λ (q : ℕ). rise_kind net r p q ≢ NonNeg) (sym e) (own_apart net r p))
        | inr ne ↦ elim (lt_or row (n + n)) as (λ _. kind_at (slope_kinds net r p) k ≢ NonNeg) [
          | inl lt ↦ absurd (out le lt ne)
          | inr far ↦ subst Apart (height_row net r p k row (row - n) (row - n - n) le refl (omega (arith, far)) refl (omega (arith, far)) refl) (rows_apart (length (others net r)) (later p) (row - n - n))
        ]
      ]
    ]
