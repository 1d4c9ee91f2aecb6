-- The place of a name in a table, to which it may be added.
use Rattle.crn_net.proofs.Prelude.{◌≡◌, ◌⊎◌, ℕ, ◌<◌, ◌≤◌, true, List, [], ◌∷◌, ◌++◌, length, get_or, sym, ap, subst, ◌∙◌, inl, inr, arith, Some, slice_get, Ok, Err, Decides, position_or_len, bytes_eq, cases_Bool, get_or_from_slice_get, bytes_eq-Decides, length_push, position_or_len_is, insert_key, IsIn, MAX_SPECIES, TooManySpecies, NotesName, at_in, any_is}

decides : (name known : List ℕ) → Decides (bytes_eq name known) (known ≡ name)
decides name known = (λ h. sym ((bytes_eq-Decides name known).0 h), λ e. (bytes_eq-Decides name known).1 (sym e))

-- the place of a new name
absent_place : (name : List ℕ) (old : List (List ℕ)) → (IsIn name old → ⊥) → position_or_len (bytes_eq name) old ≡ length old
absent_place name old free =
    position_or_len_is (bytes_eq name) old (length old) [] (omega arith)
    (λ k lt. elim (cases_Bool (bytes_eq name (get_or old k []))) [
      | inl hit ↦ absurd (free (subst (λ (t : List ℕ). IsIn t old) ((decides name (get_or old k [])).0 hit) (at_in old k [] lt)))
      | inr miss ↦ miss
    ])
    (λ lt. absurd (omega (arith, lt)))

-- a set with a name inserted: the name is at its place
pub record IsPlaced (old : List (List ℕ)) (name : List ℕ) (place : ℕ) (new : List (List ℕ)) : Type 0 where
  pub keys : new ≡ insert_key bytes_eq old name
  pub index : place ≡ position_or_len (bytes_eq name) old
  pub within : place < length new
  pub stored : (k : List ℕ) × (slice_get new place ≡ Some k) × (bytes_eq name k ≡ true)

is_there : (old : List (List ℕ)) (name : List ℕ) (place : ℕ) (new : List (List ℕ)) → IsPlaced old name place new → get_or new place [] ≡ name
is_there old name place new h = get_or_from_slice_get new place h.stored.0 [] h.stored.1 ∙ (decides name h.stored.0).0 h.stored.2

-- known, or new at the end
pub placed_puts : (old : List (List ℕ)) (name : List ℕ) (place : ℕ) (new : List (List ℕ)) → IsPlaced old name place new → (IsIn name old × (new ≡ old)) ⊎ ((IsIn name old → ⊥) × (new ≡ old ++ name ∷ []) × (place ≡ length old))
placed_puts old name place new h =
    elim (any_is (bytes_eq name) name (decides name) old) [
      | inl a ↦ let e = h.keys in inl (a.1, rw a.0 at e)
      | inr b ↦ let e = h.keys in inr (b.1, rw b.0 at e, h.index ∙ absent_place name old b.1)
    ]

pub name_noted : (old : List (List ℕ)) (name : List ℕ) (place : ℕ) (new : List (List ℕ)) → IsPlaced old name place new → length old ≤ MAX_SPECIES → place < MAX_SPECIES → NotesName old name (Ok place) new
name_noted old name place new h few lt =
    let at = is_there old name place new h in
    let within = h.within in
    elim (placed_puts old name place new h) [
      | inl a ↦ let long = ap length a.1 in (inl a, within, at, omega (arith, long, few))
      | inr b ↦ let long = ap length b.1 in let more = length_push old name in let end = b.2 in (inr (b.0, b.1), within, at, omega (arith, long, more, end, lt))
    ]

pub name_over : (old : List (List ℕ)) (name : List ℕ) (place : ℕ) (new : List (List ℕ)) → IsPlaced old name place new → length old ≤ MAX_SPECIES → MAX_SPECIES ≤ place → NotesName old name (Err TooManySpecies) new
name_over old name place new h few le =
    let within = h.within in
    elim (placed_puts old name place new h) [
      | inl a ↦ let long = ap length a.1 in absurd (omega (arith, long, within, few, le))
      | inr b ↦ let end = b.2 in (b.0, omega (arith, end, le))
    ]
