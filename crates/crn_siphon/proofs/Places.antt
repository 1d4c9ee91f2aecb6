-- What the visit of one prefix shows, and full prefixes that stand.
use Rattle.crn_siphon.proofs.Prelude.{◌≡◌, ℕ, zero, suc, ◌-◌, ◌<◌, ◌≤◌, ◌⊎◌, inl, inr, Bool, true, false, List, [], ◌∷◌, length, map, get_or, refl, sym, ap, subst, ◌∙◌, arith, ℤ, pos, negsuc, ◌≤ℤ◌, AllByRecursion, false≢true, length-map, ints, Net, IsNetwork, IsVector, JoinsTwo, Holds, amount_at, entry, lt_or, all_at, all_in, in_at, past_end, AreFree, AreBits, HasMember, HoldsMember, IsSiphon, Covers, IsZeroOutside, set_of, IsOut, IsBad, IsVoid, IsFull, Stands, Bad, Law, covered_has_none, Place, mark, IsPlace, AreIncreased, IsLawIn, HasNoBad, IsLeafAt, IsStanding}
use Rattle.crn_siphon_check.specs.Trees.{Void}
use Rattle.crn_siphon.proofs.SetLaws.{member_inside}

-- ---- nodes

pub bad_leaf : (net : Net) (p : List Bool) (r : ℕ) → IsBad net p r → IsLeafAt net p (Bad r)
bad_leaf net p r b = record { valid = b; formed = b.inside; one = refl; none = λ s. s (inl (r, b)) }

pub void_leaf : (net : Net) (p : List Bool) → IsVoid net p → IsLeafAt net p Void
void_leaf net p v = record { valid = v; formed = tt; one = refl; none = λ s. s (inr (inr v)) }

-- a law within the species that are in
pub law_leaf : (net : Net) (place : Place) (p : List Bool) (x : List ℤ) → IsPlace place p → IsLawIn net place.inside x → IsLeafAt net p (Law x)
law_leaf net place p x is l =
    let outside : IsZeroOutside p x = λ s none. zero_or (entry x s) (λ some. none ((is.inside s).0 (l.within s some))) in
    record { valid = (l.law, outside); formed = l.free; one = refl; none = λ s. s (inr (inl (x, l.law, outside))) }
  where
    zero_or : (z : ℤ) → ((z ≡ pos 0 → ⊥) → ⊥) → z ≡ pos 0
    zero_or (pos zero) h = refl
    zero_or (pos (suc n)) h = absurd (h (λ e. omega (arith, ints, e)))
    zero_or (negsuc n) h = absurd (h (λ e. omega (arith, ints, e)))

-- a prefix with numbers that increase each species that is in stands, if no reaction stops it and it is
-- not void
pub stands_by : (net : Net) (p : List Bool) (x : List ℤ) → HasNoBad net p → ¬ (IsVoid net p) → Covers net p x → Stands net p
stands_by net p x bad void c (inl b) = bad b.0 b.1
stands_by net p x bad void c (inr (inl l)) = covered_has_none net p x c l
stands_by net p x bad void c (inr (inr v)) = void v

-- and so it does if the numbers increase the species of its place that are in
pub cover_stands : (net : Net) (place : Place) (p : List Bool) (x : List ℤ) → IsPlace place p → place.chosen ≤ length net.names → AreFree (length net.reactions) x → AreIncreased net place.inside x → HasNoBad net p → ¬ (IsVoid net p) → IsStanding net p x
cover_stands net place p x is le free more bad void =
    let covers : Covers net p x = record { long = free.long; increases = λ s m. more s (omega (arith, member_inside p s m, is.chosen, le)) ((is.inside s).1 m) } in
    record { free = free; covers = covers; stands = stands_by net p x bad void covers }

-- ---- full prefixes

-- a mark at a place inside is the same whatever stands past the end
same_mark : (p : List Bool) (s : ℕ) → s < length p → get_or p s true ≡ get_or p s false
same_mark [] s lt = absurd (omega (arith, lt))
same_mark (b ∷ p) zero lt = refl
same_mark (b ∷ p) (suc s) lt = same_mark p s (omega (arith, lt))

-- a complex holds no species past its amounts
holds_inside : (net : Net) (c s : ℕ) → Holds net c s → s < length (get_or net.complexes c [])
holds_inside net c s h = elim (lt_or s (length (get_or net.complexes c []))) as (λ _. s < length (get_or net.complexes c [])) [
  | inl lt ↦ lt
  | inr past ↦ absurd (let none : amount_at net c s ≡ pos 0 = past_end (get_or net.complexes c []) s past in omega (arith, ints, none, h))
]

pub holds_or : (net : Net) (c s : ℕ) → Holds net c s ⊎ (Holds net c s → ⊥)
holds_or net c s = one_or (amount_at net c s)
  where
    one_or : (x : ℤ) → (pos 1 ≤ℤ x) ⊎ (pos 1 ≤ℤ x → ⊥)
    one_or (pos zero) = inr (λ h. omega (arith, ints, h))
    one_or (pos (suc n)) = inl (omega (arith, ints))
    one_or (negsuc n) = inr (λ h. omega (arith, ints, h))

-- some species is in, or none
some_or_none : (p : List Bool) → ((s : ℕ) × HasMember p s) ⊎ ((s : ℕ) → HasMember p s → ⊥)
some_or_none [] = inr (λ s h. false≢true h)
some_or_none (true ∷ p) = inl (0, refl)
some_or_none (false ∷ p) = elim (some_or_none p) as (λ _. ((s : ℕ) × HasMember (false ∷ p) s) ⊎ ((s : ℕ) → HasMember (false ∷ p) s → ⊥)) [
  | inl h ↦ inl (suc h.0, h.1)
  | inr none ↦ inr (none_more p none)
]
  where
    none_more : (q : List Bool) → ((s : ℕ) → HasMember q s → ⊥) → (s : ℕ) → HasMember (false ∷ q) s → ⊥
    none_more q none zero h = false≢true h
    none_more q none (suc s) h = none s h

-- some species below n that the complex holds is in, or each is out
abbrev InOrOut : Net → List Bool → ℕ → ℕ → Type 0
InOrOut net p c n = HoldsMember net p c ⊎ ((s : ℕ) → s < n → Holds net c s → IsOut p s)

in_or_out : (net : Net) (p : List Bool) (c n : ℕ) → n ≤ length p → InOrOut net p c n
in_or_out net p c zero le = inr (λ s lt h. absurd (omega (arith, lt)))
in_or_out net p c (suc n) le = with_more (in_or_out net p c n (omega (arith, le)))
  where
    out_here : ((s : ℕ) → s < n → Holds net c s → IsOut p s) → (Holds net c n → IsOut p n) → (s : ℕ) → s < suc n → Holds net c s → IsOut p s
    out_here h here s lt holds = elim (lt_or s n) as (λ _. IsOut p s) [
      | inl less ↦ h s less holds
      | inr past ↦
          let same : n ≡ s = omega (arith, lt, past) in
          subst (IsOut p) same (here (subst (Holds net c) (sym same) holds))
    ]

    by : (b : Bool) → get_or p n true ≡ b → ((s : ℕ) → s < n → Holds net c s → IsOut p s) → InOrOut net p c (suc n)
    by false e h = inr (out_here h (λ holds. e))
    by true e h = elim (holds_or net c n) as (λ _. InOrOut net p c (suc n)) [
      | inl holds ↦ inl (n, sym (same_mark p n (omega (arith, le))) ∙ e, holds)
      | inr none ↦ inr (out_here h (λ holds. absurd (none holds)))
    ]

    with_more : InOrOut net p c n → InOrOut net p c (suc n)
    with_more (inl h) = inl h
    with_more (inr h) = by (get_or p n true) refl h

-- a full prefix that stands is a siphon
pub standing_is_siphon : (net : Net) (p : List Bool) → IsNetwork net → IsFull net p → Stands net p → IsSiphon net p
standing_is_siphon net p n full stands = record {
  long = full;
  some = some_in;
  closed = λ r i held.
      let at = in_at r net.reactions (0, 0) i in
      let joins : JoinsTwo (length net.complexes) r = all_in (JoinsTwo (length net.complexes)) net.reactions r n.partial.apart i in
      let long = (all_at (IsVector (length net.names)) net.complexes r.0 [] n.partial.vectors joins.1).0 in
      let is : get_or net.reactions (suc at.0 - 1) (0, 0) ≡ r = ap (λ (k : ℕ). get_or net.reactions k (0, 0)) (omega arith) ∙ at.2 in
      elim (in_or_out net p r.0 (length net.names) (omega (arith, full))) as (λ _. HoldsMember net p r.0) [
        | inl h ↦ h
        | inr out ↦ absurd (stands (inl (
          suc at.0,
          record {
            inside = (omega arith, omega (arith, at.1));
            product = subst (λ (q : ℕ × ℕ). HoldsMember net p q.1) (sym is) held;
            reactant = λ s holds.
                let h : Holds net r.0 s = subst (λ (q : ℕ × ℕ). Holds net q.0 s) is holds in
                out s (omega (arith, long, holds_inside net r.0 s h)) h;
          },
        )))
      ];
}
  where
    some_in : (s : ℕ) × HasMember p s
    some_in = elim (some_or_none p) [ inl s ↦ s | inr none ↦ absurd (stands (inr (inr (record { full = full; none = none })))) ]

-- ---- marks

pub marks_set : (p : List Bool) → set_of (map mark p) ≡ p
marks_set [] = refl
marks_set (true ∷ p) = ap (λ (l : List Bool). true ∷ l) (marks_set p)
marks_set (false ∷ p) = ap (λ (l : List Bool). false ∷ l) (marks_set p)

are_bits : (p : List Bool) → AllByRecursion (λ x. (x ≡ pos 0) ⊎ (x ≡ pos 1)) (map mark p)
are_bits [] = tt
are_bits (true ∷ p) = (inr refl, are_bits p)
are_bits (false ∷ p) = (inl refl, are_bits p)

pub marks_formed : (n : ℕ) (p : List Bool) → length p ≡ n → AreBits n (map mark p)
marks_formed n p e = record { long = length-map p mark ∙ e; each = are_bits p }
