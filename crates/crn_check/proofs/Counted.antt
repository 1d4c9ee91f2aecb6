-- Reactions by their numbers.
use Rattle.crn_check.proofs.Prelude.{◌≡◌, inl, inr, ℕ, ◌+◌, ◌-◌, ◌<◌, ◌≤◌, List, length, get_or, refl, sym, subst, ◌∙◌, arith, common_steps, IsIn, Net, ReactsTo, IsReaction, in_at, at_in, lt_or, AreFrom, HasNoReverse, IsReverse}

-- a reaction between two complexes has a place
pub place_between : (net : Net) (y z : ℕ) → ReactsTo net.reactions y z → (r : ℕ) × IsReaction net.reactions r y z
place_between net y z h = let f = in_at (y, z) net.reactions (0, 0) h in (f.0, (f.1, f.2))

pub between_place : (net : Net) (r y z : ℕ) → IsReaction net.reactions r y z → ReactsTo net.reactions y z
between_place net r y z h = subst (λ (p : ℕ × ℕ). IsIn p net.reactions) h.1 (at_in net.reactions r (0, 0) h.0)

-- what holds of each reaction so far, and of one more
pub one_more : (net : Net) (P : ℕ → ℕ → Type 0) (r y z : ℕ) → ((q a b : ℕ) → q < r → IsReaction net.reactions q a b → P a b) → IsReaction net.reactions r y z → P y z → (q a b : ℕ) → q < r + 1 → IsReaction net.reactions q a b → P a b
one_more net P r y z before goes here q a b lt at = elim (lt_or q r) [
  | inl early ↦ before q a b early at
  | inr late ↦
      let e : q ≡ r = omega (arith, lt, late) in
      let same : (y, z) ≡ (a, b) = sym goes.1 ∙ (subst (λ (k : ℕ). IsReaction net.reactions k a b) e at).1 in
      subst (λ (p : ℕ × ℕ). P p.0 p.1) same here
]

-- a reaction with a reverse
pub has_reverse : (net : Net) (r b : ℕ) → IsReverse net (r - 1) b → HasNoReverse net r → ⊥
has_reverse net r b h none =
    let same : (h.y, h.z) ≡ (none.0, none.1) = sym h.goes.1 ∙ none.2.1.1 in
    none.3 (subst (λ (p : ℕ × ℕ). ReactsTo net.reactions p.1 p.0) same (between_place net (b - 1) h.z h.y h.back.1))

-- a reaction of which none is the reverse
pub no_reverse : (net : Net) (r : ℕ) → 1 ≤ r → r ≤ length net.reactions → ((q : ℕ) → q < length net.reactions → IsReverse net (r - 1) (q + 1) → ⊥) → HasNoReverse net r
no_reverse net r one most none =
    let y = (get_or net.reactions (r - 1) (0, 0)).0 in
    let z = (get_or net.reactions (r - 1) (0, 0)).1 in
    let goes : IsReaction net.reactions (r - 1) y z = (omega arith, refl) in (
      y,
      z,
      (one, goes),
      λ back.
          let f = place_between net z y back in
          let e : f.0 ≡ f.0 + 1 - 1 = omega arith in
          none f.0 f.1.0 (record { y = y; z = z; goes = goes; back = (omega arith, subst (λ (k : ℕ). IsReaction net.reactions k z y) e f.1) }),
    )

-- a list of labels gives each complex one from 1 to the count
pub label_from : (count most : ℕ) (labels : List ℕ) (y : ℕ) → AreFrom count 1 most labels → y < count → (1 ≤ get_or labels y 0) × (get_or labels y 0 ≤ most)
label_from count most labels y h lt = grind (arith, common_steps, h.each)
