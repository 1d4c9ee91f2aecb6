-- Every linked pair of a terminal strong class is joined by a first reaction, and is a cut pair if the pair of that reaction has a side.
use Rattle.crn_reg.proofs.Prelude.{◌≡◌, ◌⊎◌, ℕ, zero, suc, ◌-◌, ◌<◌, ◌≤◌, List, [], ◌∷◌, length, get_or, refl, sym, ap, subst, ◌∙◌, inl, inr, arith, ℤ, AllZip, IsIn, Net, IsReaction, IsBetween, IsCutPair, IsTerminalPair, IsFirstOfPair, ArePairs, eq_or, is_between, linked_back, place_of, strong_back, terminal_on, cut_back, from_zero, AreAllCutPairs, HasSide}

-- ---- a pair in either order

cut_between : (rs : List (ℕ × ℕ)) (y z a b : ℕ) → IsBetween y z a b → IsCutPair rs a b → IsCutPair rs y z
cut_between rs y z a b (inl p) c = subst (λ (v : ℕ). IsCutPair rs v z) p.0 (subst (λ (v : ℕ). IsCutPair rs a v) p.1 c)
cut_between rs y z a b (inr p) c = cut_back rs z y (subst (λ (v : ℕ). IsCutPair rs v y) p.0 (subst (λ (v : ℕ). IsCutPair rs a v) p.1 c))

terminal_back : (rs : List (ℕ × ℕ)) (y z : ℕ) → IsTerminalPair rs y z → IsTerminalPair rs z y
terminal_back rs y z p = record { linked = linked_back rs y z p.linked; within = strong_back rs y z p.within; terminal = terminal_on rs y z p.terminal p.within.0 }

terminal_between : (rs : List (ℕ × ℕ)) (y z a b : ℕ) → IsBetween y z a b → IsTerminalPair rs y z → IsTerminalPair rs a b
terminal_between rs y z a b (inl p) t = subst (λ (v : ℕ). IsTerminalPair rs v b) (sym p.0) (subst (λ (v : ℕ). IsTerminalPair rs y v) (sym p.1) t)
terminal_between rs y z a b (inr p) t = subst (λ (v : ℕ). IsTerminalPair rs v b) (sym p.0) (subst (λ (v : ℕ). IsTerminalPair rs z v) (sym p.1) (terminal_back rs y z t))

between_then : (y z a b u v : ℕ) → IsBetween y z a b → IsBetween a b u v → IsBetween y z u v
between_then y z a b u v (inl p) (inl q) = inl (q.0 ∙ p.0, q.1 ∙ p.1)
between_then y z a b u v (inl p) (inr q) = inr (q.0 ∙ p.1, q.1 ∙ p.0)
between_then y z a b u v (inr p) (inl q) = inr (q.0 ∙ p.0, q.1 ∙ p.1)
between_then y z a b u v (inr p) (inr q) = inl (q.0 ∙ p.1, q.1 ∙ p.0)

-- ---- the first reaction that joins two complexes

-- reaction k joins y and z, in one order or the other
record Joins (rs : List (ℕ × ℕ)) (y z k : ℕ) : Type 0 where
  a : ℕ
  b : ℕ
  goes : IsReaction rs k a b
  between : IsBetween y z a b

record First (rs : List (ℕ × ℕ)) (y z : ℕ) : Type 0 where
  k : ℕ
  joins : Joins rs y z k
  none : (q : ℕ) → q < k → Joins rs y z q → ⊥

at_joins : (rs : List (ℕ × ℕ)) (y z k : ℕ) (p : ℕ × ℕ) → get_or rs k (0, 0) ≡ p → (IsBetween y z p.0 p.1 → ⊥) → Joins rs y z k → ⊥
at_joins rs y z k p e nay j =
    let same : (j.a, j.b) ≡ p = sym j.goes.1 ∙ e in
    nay (subst (λ (w : ℕ × ℕ). IsBetween y z w.0 w.1) same j.between)

first_among : (rs : List (ℕ × ℕ)) (y z n : ℕ) → n ≤ length rs → First rs y z ⊎ ((q : ℕ) → q < n → Joins rs y z q → ⊥)
first_among rs y z zero le = inr (λ q lt j. absurd (omega (arith, lt)))
first_among rs y z (suc n) le = elim (first_among rs y z n (omega (arith, le))) as (λ _. First rs y z ⊎ ((q : ℕ) → q < suc n → Joins rs y z q → ⊥)) [
  | inl f ↦ inl f
  | inr none ↦
      let e : ℕ × ℕ = get_or rs n (0, 0) in
      elim (is_between y z e.0 e.1) as (λ _. First rs y z ⊎ ((q : ℕ) → q < suc n → Joins rs y z q → ⊥)) [
        | inl b ↦ inl (record { k = n; joins = record { a = e.0; b = e.1; goes = (omega (arith, le), refl); between = b }; none = none })
        | inr nb ↦ inr (λ q lt j. elim (eq_or q n) as (λ _. ⊥) [
          | inl same ↦ at_joins rs y z n e refl nb (subst (λ (m : ℕ). Joins rs y z m) same j)
          | inr ne ↦ none q (below q n lt ne) j
        ])
      ]
]
  where
    below : (q n : ℕ) → q < suc n → (q ≡ n → ⊥) → q < n
    below zero zero lt ne = absurd (ne refl)
    below zero (suc n) lt ne = omega arith
    below (suc q) zero lt ne = absurd (omega (arith, lt))
    below (suc q) (suc n) lt ne = let h = below q n (omega (arith, lt)) (λ e. ne (ap suc e)) in omega (arith, h)

joined : (rs : List (ℕ × ℕ)) (y z : ℕ) → IsTerminalPair rs y z → (k : ℕ) × Joins rs y z k
joined rs y z t = elim t.linked as (λ _. (k : ℕ) × Joins rs y z k) [
  | inl i ↦ let p = place_of (y, z) rs i in (p.0, record { a = y; b = z; goes = (p.1, p.2); between = inl (refl, refl) })
  | inr i ↦ let p = place_of (z, y) rs i in (p.0, record { a = z; b = y; goes = (p.1, p.2); between = inr (refl, refl) })
]

first_of : (rs : List (ℕ × ℕ)) (y z : ℕ) → IsTerminalPair rs y z → First rs y z
first_of rs y z t = elim (first_among rs y z (length rs) (omega arith)) as (λ _. First rs y z) [
  | inl f ↦ f
  | inr none ↦ let j = joined rs y z t in absurd (none j.0 j.1.goes.0 j.1)
]

is_first : (rs : List (ℕ × ℕ)) (y z : ℕ) → IsTerminalPair rs y z → (f : First rs y z) → IsFirstOfPair rs f.k
is_first rs y z t f =
    record {
      a = f.joins.a;
      b = f.joins.b;
      goes = f.joins.goes;
      pair = terminal_between rs y z f.joins.a f.joins.b f.joins.between t;
      first = λ q u v lt goes between. f.none q lt (record { a = u; b = v; goes = goes; between = between_then y z f.joins.a f.joins.b u v f.joins.between between });
    }

-- ---- sides of all pairs

side_at : (net : Net) (pairs : List ℕ) (sides : List (List ℤ)) (k : ℕ) → AllZip (HasSide net) pairs sides → IsIn k (from_zero pairs) → (r : ℕ) × (m : List ℤ) × HasSide net r m × (r - 1 ≡ k)
side_at net [] sides k h i = absurd i
side_at net (r ∷ pairs) [] k h i = absurd h
side_at net (r ∷ pairs) (m ∷ sides) k h (inl e) = (r, m, h.0, sym e)
side_at net (r ∷ pairs) (m ∷ sides) k h (inr i) = side_at net pairs sides k h.1 i

cut_at : (net : Net) (r k a b : ℕ) (m : List ℤ) → HasSide net r m → r - 1 ≡ k → IsReaction net.reactions k a b → IsCutPair net.reactions a b
cut_at net r k a b m h e goes =
    let same : (h.y, h.z) ≡ (a, b) = sym h.goes.1.1 ∙ ap (λ (j : ℕ). get_or net.reactions j (0, 0)) e ∙ goes.1 in
    subst (λ (p : ℕ × ℕ). IsCutPair net.reactions p.0 p.1) same h.pair

pub all_cut_pairs : (net : Net) (pairs : List ℕ) (sides : List (List ℤ)) → ArePairs net.reactions (from_zero pairs) → AllZip (HasSide net) pairs sides → AreAllCutPairs net
all_cut_pairs net pairs sides are h y z t =
    let f = first_of net.reactions y z t in
    let i = (are.each f.k).1 (is_first net.reactions y z t f) in
    let s = side_at net pairs sides f.k h i in
    cut_between net.reactions y z f.joins.a f.joins.b f.joins.between (cut_at net s.0 f.k f.joins.a f.joins.b s.1 s.2 s.3 f.joins.goes)
