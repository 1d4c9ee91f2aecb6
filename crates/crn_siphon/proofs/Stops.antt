-- Reactions that stop a prefix, and void prefixes, by words of bits.
use Rattle.crn_siphon.proofs.Prelude.{◌≡◌, ℕ, ◌+◌, ◌-◌, ◌<◌, ◌≤◌, ◌⊎◌, ◌≢◌, inl, inr, Bool, List, [], ◌∷◌, ◌++◌, length, get_or, refl, sym, ap, subst, ◌∙◌, arith, get_or-append, false≢true, get_or_push, length-append, ◌↔◌, bit_at, bit_at-zero, Net, Holds, eq_or, all_push, all_at, IsBad, IsVoid, SpeciesSet, Place, Ends, Holders, Has, HasCommon, IsWithin, IsPlace, AreEnds, AreEndsOf, AreHolders, AreAllHolders, HoldsIn, IsReaction, IsStopping, NoneStops, StopsLast, HasNoBad}
use Rattle.crn_siphon.proofs.Places.{holds_or}

abbrev ends_at : Net → ℕ → ℕ × ℕ
ends_at net r = get_or net.reactions r (0, 0)

-- a word of zeros has no species
pub none_has : (set : SpeciesSet) (s : ℕ) → set.bits ≡ 0 → Has set s → ⊥
none_has set s e h =
    let none : 0 ≡ 1 = sym (ap (λ (n : ℕ). bit_at n s) e ∙ bit_at-zero s) ∙ h in
    omega (arith, none)

pub by_stopping : (net : Net) (place : Place) (r : ℕ) (e : Ends) → AreEndsOf net (ends_at net r) e → IsStopping net place r → HasCommon e.product place.inside × IsWithin e.reactant place.outside
by_stopping net place r e ends h =
    let s = h.0.0 in
    let common : HasCommon e.product place.inside = (s, (ends.product s).1 h.0.2, h.0.1) in
    let within : IsWithin e.reactant place.outside = λ t has. h.1 t ((ends.reactant t).0 has) in
    (common, within)

-- a reaction whose product meets what is in, and whose reactant is within what is out, stops the prefix
pub bad_among : (net : Net) (place : Place) (p : List Bool) (s : ℕ) (all : List Ends) (i : ℕ) (none : Ends) → AreHolders net (length net.reactions) s all → i < length all
    → HasCommon (get_or all i none).product place.inside × IsWithin (get_or all i none).reactant place.outside → IsPlace place p → IsBad net p (get_or all i none).reaction
bad_among net place p s all i none holders lt h is =
    let one : IsReaction net (get_or all i none) = all_at (λ x. IsReaction net x) all i none holders.each lt in
    let ends = one.2 in
    let t = h.0.0 in
    record {
      inside = (one.0, one.1);
      product = (t, (is.inside t).0 h.0.2, (ends.product t).0 h.0.1);
      reactant = λ u holds. (is.outside u).0 (h.1 u ((ends.reactant u).1 holds));
    }

-- if no reaction stops the place, none stops the prefix
pub no_bad : (net : Net) (place : Place) (p : List Bool) → IsPlace place p → NoneStops net place → HasNoBad net p
no_bad net place p is none = λ r bad.
    let held = bad.product in
    none (r - 1) (omega (arith, bad.inside.0, bad.inside.1)) ((held.0, (is.inside held.0).1 held.1, held.2), λ s h. (is.outside s).1 (bad.reactant s h))

-- ---- the species that was chosen last

pub root_last : (net : Net) (place : Place) → place.inside.bits ≡ 0 → StopsLast net place
root_last net place e = λ r lt h. absurd (none_has place.inside h.0.0 e h.0.1)

-- if no reaction stops the place, one that stops the place with one species more holds that species
pub child_last : (net : Net) (place next : Place) → NoneStops net place → next.chosen ≡ place.chosen + 1
    → ((s : ℕ) → s ≢ place.chosen → Has next.inside s ↔ Has place.inside s) → ((s : ℕ) → s ≢ place.chosen → Has next.outside s ↔ Has place.outside s)
    → StopsLast net next
child_last net place next none count inside outside = λ r lt h.
    let last : place.chosen ≡ next.chosen - 1 = omega (arith, count) in
    let some : 1 ≤ next.chosen = omega (arith, count) in
    elim (holds_or net (ends_at net r).0 place.chosen) as (λ _. (1 ≤ next.chosen) × HoldsIn net r (next.chosen - 1)) [
      | inl holds ↦ (some, inl (subst (λ (k : ℕ). Holds net (ends_at net r).0 k) last holds))
      | inr free ↦ elim (eq_or h.0.0 place.chosen) as (λ _. (1 ≤ next.chosen) × HoldsIn net r (next.chosen - 1)) [
        | inl e ↦ (some, inr (subst (λ (k : ℕ). Holds net (ends_at net r).1 k) (e ∙ last) h.0.2))
        | inr ne ↦ absurd (none r lt (
          (h.0.0, (inside h.0.0 ne).0 h.0.1, h.0.2),
          λ t holds.
              (outside t (λ e. free (subst (λ (k : ℕ). Holds net (ends_at net r).0 k) e holds))).0 (h.1 t holds),
        ))
      ]
    ]

-- ---- lists of reactions

abbrev IsAt : Net → ℕ → Ends → Type 0
IsAt net k x = (x.reaction ≡ k + 1) × AreEndsOf net (ends_at net k) x

-- some place of the list has reaction k
abbrev HasAt : List Ends → ℕ → Type 0
HasAt all k = (i : ℕ) × (i < length all) × ((none : Ends) → (get_or all i none).reaction ≡ k + 1)

-- the ends of one reaction more
pub ends_more : (net : Net) (r : ℕ) (all : List Ends) (e : Ends) → AreEnds net r all → e.reaction ≡ r + 1 → AreEndsOf net (ends_at net r) e → AreEnds net (r + 1) (all ++ e ∷ [])
ends_more net r all e h is one = record {
  long = omega (arith, length-append all (e ∷ []), h.long);
  each = λ k none lt. elim (eq_or k r) as (λ _. IsAt net k (get_or (all ++ e ∷ []) k none)) [
    | inl same ↦
        let last : get_or (all ++ e ∷ []) k none ≡ e = get_or_push all e none k (h.long ∙ sym same) in
        subst (λ (x : Ends). IsAt net k x) (sym last) (subst (λ (j : ℕ). IsAt net j e) (sym same) (is, one))
    | inr ne ↦
        let k_lt : k < r = omega (arith, lt, ne) in
        subst (λ (x : Ends). IsAt net k x) (sym (get_or-append all (e ∷ []) none k (omega (arith, k_lt, h.long)))) (let each = h.each in each k none k_lt)
  ];
}

-- one reaction more, which holds the species
pub holders_more : (net : Net) (r s : ℕ) (all : List Ends) (e : Ends) → r < length net.reactions → AreHolders net r s all → e.reaction ≡ r + 1 → AreEndsOf net (ends_at net r) e → AreHolders net (r + 1) s (all ++ e ∷ [])
holders_more net r s all e lt h is ends = record {
  each = all_push (λ x. IsReaction net x) all e h.each (omega (arith, is), omega (arith, lt, is), subst (λ (k : ℕ). AreEndsOf net (ends_at net k) e) (omega (arith, is)) ends);
  some = λ k less holds. elim (eq_or k r) as (λ _. HasAt (all ++ e ∷ []) k) [
    | inl same ↦ (length all, omega (arith, length-append all (e ∷ [])), λ none. ap (λ (x : Ends). x.reaction) (get_or_push all e none (length all) refl) ∙ is ∙ ap (λ (j : ℕ). j + 1) (sym same))
    | inr ne ↦
        let old = (let some = h.some in some k (omega (arith, less, ne)) holds) in
        (old.0, omega (arith, length-append all (e ∷ []), old.1), λ none. ap (λ (x : Ends). x.reaction) (get_or-append all (e ∷ []) none old.0 old.1) ∙ old.2 none)
  ];
}

-- one reaction more, which does not hold it
pub holders_same : (net : Net) (r s : ℕ) (all : List Ends) (e : Ends) → AreHolders net r s all → AreEndsOf net (ends_at net r) e → (Has e.reactant s ⊎ Has e.product s → ⊥) → AreHolders net (r + 1) s all
holders_same net r s all e h ends free = record {
  each = h.each;
  some = λ k less holds. elim (eq_or k r) as (λ _. HasAt all k) [
    | inl same ↦ absurd (free (has (subst (λ (j : ℕ). HoldsIn net j s) same holds)))
    | inr ne ↦ (let some = h.some in some k (omega (arith, less, ne)) holds)
  ];
}
  where
    has : HoldsIn net r s → Has e.reactant s ⊎ Has e.product s
    has (inl x) = inl ((ends.reactant s).1 x)
    has (inr x) = inr ((ends.product s).1 x)

-- the reactions of one species more
pub all_holders_more : (net : Net) (s : ℕ) (all : List Holders) (one : Holders) → AreAllHolders net s all → AreHolders net (length net.reactions) s one.ends.items → AreAllHolders net (s + 1) (all ++ one ∷ [])
all_holders_more net s all one h is = record {
  long = omega (arith, length-append all (one ∷ []), h.long);
  each = λ k none lt. elim (eq_or k s) as (λ _. AreHolders net (length net.reactions) k (get_or (all ++ one ∷ []) k none).ends.items) [
    | inl same ↦
        let last : get_or (all ++ one ∷ []) k none ≡ one = get_or_push all one none k (h.long ∙ sym same) in
        subst (λ (x : Holders). AreHolders net (length net.reactions) k x.ends.items) (sym last) (subst (λ (j : ℕ). AreHolders net (length net.reactions) j one.ends.items) (sym same) is)
    | inr ne ↦
        let less : k < s = omega (arith, lt, ne) in
        subst (λ (x : Holders). AreHolders net (length net.reactions) k x.ends.items) (sym (get_or-append all (one ∷ []) none k (omega (arith, less, h.long)))) (let each = h.each in each k none less)
  ];
}

-- if no reaction of those that hold the last species stops the place, none does
pub none_stops : (net : Net) (place : Place) (s : ℕ) (all : List Ends) → AreHolders net (length net.reactions) s all → StopsLast net place → place.chosen ≡ s + 1
    → ((k : ℕ) (none : Ends) → k < length all → HasCommon (get_or all k none).product place.inside × IsWithin (get_or all k none).reactant place.outside → ⊥) → (none : Ends) → NoneStops net place
none_stops net place s all h last at free none = λ r lt stops.
    let held : HoldsIn net r s = subst (λ (k : ℕ). HoldsIn net r k) (omega (arith, at)) ((last r lt stops).1) in
    let i = (let some = h.some in some r lt held) in
    let e = get_or all i.0 none in
    let ends : IsReaction net e = all_at (λ x. IsReaction net x) all i.0 none h.each i.1 in
    free i.0 none i.1 (by_stopping net place r e (subst (λ (k : ℕ). AreEndsOf net (ends_at net k) e) (omega (arith, i.2 none)) ends.2) stops)

pub root_place : (place : Place) → place.chosen ≡ 0 → place.inside.bits ≡ 0 → place.outside.bits ≡ 0 → IsPlace place []
root_place place c i o = record {
  chosen = c;
  inside = λ s. (λ h. absurd (none_has place.inside s i h), λ m. absurd (false≢true m));
  outside = λ s. (λ h. absurd (none_has place.outside s o h), λ m. absurd (false≢true (sym m)));
}

pub void_by : (net : Net) (place : Place) (p : List Bool) (none : SpeciesSet) → none.bits ≡ 0 → IsPlace place p → place.chosen ≡ length net.names → IsWithin place.inside none → IsVoid net p
void_by net place p none e is full h = record {
  full = sym is.chosen ∙ full;
  none = λ s m. none_has none s e (h s ((is.inside s).1 m));
}

pub by_void : (net : Net) (place : Place) (p : List Bool) (none : SpeciesSet) → IsPlace place p → IsVoid net p → (place.chosen ≡ length net.names) × IsWithin place.inside none
by_void net place p none is v = (is.chosen ∙ v.full, λ s h. absurd (let no = v.none in no s ((is.inside s).0 h)))
