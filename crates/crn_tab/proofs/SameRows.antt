-- Rows by their entries.
use Rattle.crn_tab.proofs.Prelude.{◌≡◌, ℕ, ◌<◌, inl, inr, List, length, sym, subst, lit<, ℤ, pos, unsigned_abs, ext_get_or, WIDE_ENTRY, entry, past_end, inside_or, AreSmall}

pub same_rows : (v w : List ℤ) → length v ≡ length w → ((k : ℕ) → k < length v → entry v k ≡ entry w k) → v ≡ w
same_rows v w e h = ext_get_or (pos 0) v w e h

-- what holds of 0 and of each entry holds at every place
pub everywhere : (P : ℤ → Type 0) (v : List ℤ) → P (pos 0) → ((k : ℕ) → k < length v → P (entry v k)) → (k : ℕ) → P (entry v k)
everywhere P v z h k = elim (inside_or v k) [
  | inl lt ↦ h k lt
  | inr le ↦ subst P (sym (past_end v k le)) z
]

pub small_everywhere : (v : List ℤ) → ((k : ℕ) → k < length v → unsigned_abs (entry v k) < WIDE_ENTRY) → AreSmall v
small_everywhere v h = everywhere (λ z. unsigned_abs z < WIDE_ENTRY) v (lit< tt) h
