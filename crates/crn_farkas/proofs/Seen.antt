-- What a view shows: that there is such a vector, and how an exchange changes the view.
use Rattle.crn_farkas.proofs.Prelude.{◌≡◌, ◌≢◌, ℕ, ◌<◌, ◌↔◌, inl, inr, List, refl, sym, subst, ◌∙◌, arith, ℤ, pos, negsuc, ◌+ℤ◌, ◌*ℤ◌, true, ints, Kind, Mat, entry, scale, IsIn, width, IsNamed, IsNamedColumn, HasKind, is_signed, entry-scale, eq_or, NamesRows, isIn_or, column_at, as_row, View, Row, Column, IsView, IsSeen, IsSwapped}
use lib.IntN.{*ℤ_comm}
use Rattle.crn_farkas.proofs.Pairs.{pair, own_some, column_scaled, named_scaled, signed_kind, other_some}

pub record Shown (a : Mat) (basis : List ℕ) (view : View) (g : ℕ) (kind : Kind) : Type 0 where
  pub y : List ℤ
  pub is : IsSeen a basis view g kind y

scaled_kind : (κ : Kind) (q : ℤ) (y : List ℤ) (g : ℕ) → HasKind κ (q *ℤ entry y g) → HasKind κ (entry (scale q y) g)
scaled_kind κ q y g h = subst (HasKind κ) (sym (entry-scale q y g)) h

-- some vector is seen
pub shown : (a : Mat) (basis : List ℕ) (view : View) (g : ℕ) (κ : Kind) → NamesRows a basis → g < width a → is_signed κ ≡ true → IsView a basis view g → Shown a basis view g κ
shown a basis Row g κ t lt s v =
    let r = t.rows g lt v in
    let named = as_row a basis g r.w v r.named in
    elim (signed_kind κ (entry r.w g) s (λ e. omega (arith, ints, e, r.positive))) as (λ _. Shown a basis Row g κ) [
      | inl h ↦ record { y = scale (pos 1) r.w; is = (named_scaled a basis g (pos 1) r.w named, scaled_kind κ (pos 1) r.w g h) }
      | inr h ↦ record { y = scale (negsuc 0) r.w; is = (named_scaled a basis g (negsuc 0) r.w named, scaled_kind κ (negsuc 0) r.w g h) }
    ]
shown a basis (Column b) g κ t lt s (y, named, some) =
    elim (signed_kind κ (entry y g) s some) as (λ _. Shown a basis (Column b) g κ) [
      | inl h ↦ record { y = scale (pos 1) y; is = (column_scaled a basis b (pos 1) y named, scaled_kind κ (pos 1) y g h) }
      | inr h ↦ record { y = scale (negsuc 0) y; is = (column_scaled a basis b (negsuc 0) y named, scaled_kind κ (negsuc 0) y g h) }
    ]

-- a row view that is wrong at c becomes a view of column c
pub row_crossed : (a : Mat) (basis : List ℕ) (g c : ℕ) (κ : Kind) → NamesRows a basis → g < width a → is_signed κ ≡ true → IsView a basis Row g → c ≢ g
    → ((y : List ℤ) → IsSeen a basis Row g κ y → entry y c ≢ pos 0) → IsView a basis (Column c) g
row_crossed a basis g c κ t lt s v other some =
    let y = shown a basis Row g κ t lt s v in
    let member : IsIn c basis = elim (isIn_or c basis) as (λ _. IsIn c basis) [
      | inl m ↦ m
      | inr o ↦ absurd (some y.y y.is (y.is.0.zero_outside c o other))
    ] in
    let col = column_at a basis c t.wide t.basis_is member in
    let named : IsNamedColumn a basis c col.y = record { member = member; space = col.row; zero_on_rest = col.rest } in
    let zero : entry y.y c *ℤ entry col.y c +ℤ entry y.y g *ℤ entry col.y g ≡ pos 0 = pair a basis g c y.y col.y y.is.0 named in
    let swapped : entry col.y g *ℤ entry y.y g +ℤ entry y.y c *ℤ entry col.y c ≡ pos 0 = omega (arith, ints, zero, *ℤ_comm (entry col.y g) (entry y.y g)) in
    (col.y, named, other_some (entry col.y g) (entry y.y g) (entry y.y c) (entry col.y c) swapped (some y.y y.is) col.some)

-- a column view that is wrong at another coordinate c: c is outside the basis
pub wrong_outside : (a : Mat) (basis : List ℕ) (b g c : ℕ) (κ : Kind) → NamesRows a basis → g < width a → is_signed κ ≡ true → IsView a basis (Column b) g
    → ((y : List ℤ) → IsSeen a basis (Column b) g κ y → entry y c ≢ pos 0) → c ≢ b → ¬ IsIn c basis
wrong_outside a basis b g c κ t lt s v some ne i =
    let y = shown a basis (Column b) g κ t lt s v in
    some y.y y.is (y.is.0.zero_on_rest c i ne)

pub wrong_enters : (a : Mat) (basis : List ℕ) (b g c : ℕ) (κ : Kind) → NamesRows a basis → g < width a → c < width a → is_signed κ ≡ true → IsView a basis (Column b) g
    → ((y : List ℤ) → IsSeen a basis (Column b) g κ y → entry y c ≢ pos 0) → c ≢ b → (w : List ℤ) → IsNamed a basis c w → entry w b ≢ pos 0
wrong_enters a basis b g c κ t lt c_lt s v some ne w named =
    let y = shown a basis (Column b) g κ t lt s v in
    let out = wrong_outside a basis b g c κ t lt s v some ne in
    other_some (entry w b) (entry y.y b) (entry w c) (entry y.y c) (pair a basis c b w y.y (as_row a basis c w out named) y.is.0)
    (own_some a basis c w t c_lt out named) (some y.y y.is)

-- g is outside the basis after the exchange
pub column_left : (a : Mat) (basis next : List ℕ) (b g c : ℕ) → IsView a basis (Column b) g → c ≢ g → IsSwapped basis b c next → ¬ IsIn g next
column_left a basis next b g c (y, named, some) other (inl (same, e)) i =
    elim (eq_or g b) as (λ _. ⊥) [
      | inl f ↦ other (same ∙ sym f)
      | inr ne ↦ some (named.zero_on_rest g (subst (λ (z : List ℕ). IsIn g z) e i) ne)
    ]
column_left a basis next b g c (y, named, some) other (inr (apart, x)) i =
    elim ((x.members g).0 i) as (λ _. ⊥) [
      | inl m ↦ some (named.zero_on_rest g m.0 m.1)
      | inr e ↦ other (sym e)
    ]

pub column_entered : (a : Mat) (basis next : List ℕ) (b g c : ℕ) → IsView a basis (Column b) g → IsSwapped basis b c next → IsIn c next
column_entered a basis next b g c (y, named, some) (inl (same, e)) = subst (λ (z : List ℕ). IsIn c z) (sym e) (subst (λ (k : ℕ). IsIn k basis) (sym same) named.member)
column_entered a basis next b g c v (inr (apart, x)) = (x.members c).1 (inr refl)

pub column_others : (basis next : List ℕ) (b c k : ℕ) → IsSwapped basis b c next → k ≢ c → (IsIn k basis × (k ≢ b)) ↔ IsIn k next
column_others basis next b c k (inl (same, e)) ne = (λ h. subst (λ (z : List ℕ). IsIn k z) (sym e) h.0, λ i. (subst (λ (z : List ℕ). IsIn k z) e i, λ f. ne (f ∙ sym same)))
column_others basis next b c k (inr (apart, x)) ne = (λ h. (x.members k).1 (inl h), λ i. elim ((x.members k).0 i) as (λ _. IsIn k basis × (k ≢ b)) [ inl h ↦ h | inr e ↦ absurd (ne e) ])
