-- Texts with the same statements in another order spell the same network in another order.
use Rattle.crn_laws.proofs.Prelude.{◌≡◌, ℕ, ◌<◌, ◌≤◌, inl, inr, List, [], ◌∷◌, length, get_or, map, refl, sym, ap, ap₂, subst, ◌∙◌, arith, ℤ, pos, flat_map, bytes_eq, ints, ext_get_or, get_or-map, IsIn, firsts, Holds, Net, IsNetwork, Statement, amount_at, amount_in, amounts_in, ends, names_in, said_by, sides_eq, sides_of, at_in, firsts_from, firsts_has, has_name, in_at, in_flat_map, in_left, in_map, in_right, inside_at, map_in, name_decides, none_said, pair, place_of, same_place, sides_decide, vector_long, all_statements, Spells, lines, AreAlike, IsRenumbered, StatementsInAnyOrder}
use Rattle.crn_laws.proofs.Renumberings.{end_at, ends_inside, matching, reaction_here}

-- ---- what the statements say

-- the network of these statements
record IsSaidBy (ss : List Statement) (net : Net) : Type 0 where
  names : net.names ≡ firsts bytes_eq (flat_map names_in ss)
  reactions : map (sides_of net) net.reactions ≡ firsts sides_eq (map (said_by net.names) ss)
  network : IsNetwork net

-- each statement is like one of the others
abbrev Within : List Statement → List Statement → Type 0
Within ss ts = (s : Statement) → IsIn s ss → (t : Statement) × IsIn t ts × AreAlike s t

-- the statement that says a reaction
record Says (ss : List Statement) (net : Net) (r : ℕ × ℕ) : Type 0 where
  by : Statement
  member : IsIn by ss
  is : sides_of net r ≡ said_by net.names by

says : (ss : List Statement) (net : Net) → IsSaidBy ss net → (r : ℕ × ℕ) → IsIn r net.reactions → Says ss net r
says ss net p r i =
    let S = List ℤ × List ℤ in
    let mine = subst (λ (rs : List S). IsIn (sides_of net r) rs) p.reactions (map_in (sides_of net) net.reactions r i) in
    let said = in_map (said_by net.names) ss (sides_of net r) (firsts_from sides_eq (map (said_by net.names) ss) (sides_of net r) mine) in
    record { by = said.0; member = said.1; is = said.2 }

-- a name of which a side says some is on it
named : (side : List (List ℕ × ℕ)) (name : List ℕ) → 1 ≤ amount_in side name → IsIn name (map (λ t. t.0) side)
named side name some = elim (has_name side name) as (λ _. IsIn name (map (λ t. t.0) side)) [
  | inl i ↦ i
  | inr none ↦ absurd (omega (arith, some, none_said side name none))
]

-- what holds of both complexes of each reaction holds of each complex that is in one
in_reactions : (P : ℕ → Type 0) (rs : List (ℕ × ℕ)) (c : ℕ) → IsIn c (ends rs) → ((r : ℕ × ℕ) → IsIn r rs → P r.0 × P r.1) → P c
in_reactions P [] c i h = absurd i
in_reactions P (r ∷ rs) c (inl e) h = subst P (sym e) (h r (inl refl)).0
in_reactions P (r ∷ rs) c (inr (inl e)) h = subst P (sym e) (h r (inl refl)).1
in_reactions P (r ∷ rs) c (inr (inr i)) h = in_reactions P rs c i (λ q j. h q (inr j))

-- the amount of a species in a complex is what a side says of its name
amount_is : (net : Net) (side : List (List ℕ × ℕ)) (c s : ℕ) → s < length net.names → get_or net.complexes c [] ≡ amounts_in net.names side → amount_at net c s ≡ pos (amount_in side (get_or net.names s []))
amount_is net side c s lt e = ap (λ (v : List ℤ). get_or v s (pos 0)) e ∙ get_or-map (λ name. pos (amount_in side name)) net.names s [] (pos 0) lt

name_there : (ss ts : List Statement) (net other : Net) → IsSaidBy ss net → IsSaidBy ts other → Within ss ts → (name : List ℕ) → IsIn name net.names → IsIn name other.names
name_there ss ts net other p q within name i =
    let at = in_at name net.names [] i in
    let s = at.0 in
    let held = p.network.partial.each_in_a_complex s at.1 in
    let listed : (t : Statement) → IsIn t ts → IsIn name (names_in t) → IsIn name other.names = λ t j k.
    subst (λ (ns : List (List ℕ)). IsIn name ns) (sym q.names) (firsts_has bytes_eq (λ a b. name_decides b a) (flat_map names_in ts) name (in_flat_map names_in ts t name j k)) in
    let some : (side : List (List ℕ × ℕ)) (c : ℕ) → get_or net.complexes c [] ≡ amounts_in net.names side → Holds net c s → 1 ≤ amount_in side name = λ side c e holds.
    let a = amount_is net side c s at.1 e in
    let b : amount_in side (get_or net.names s []) ≡ amount_in side name = ap (amount_in side) at.2 in
    omega (arith, ints, a, b, holds) in
    in_reactions (λ c. Holds net c s → IsIn name other.names) net.reactions held.0 (p.network.partial.each_in_a_reaction held.0 held.1) (λ r j.
    let said = says ss net p r j in
    let x = said.by.0 in
    let y = said.by.1 in
    let t = within said.by said.member in
    let left : get_or net.complexes r.0 [] ≡ amounts_in net.names x = ap (λ (w : List ℤ × List ℤ). w.0) said.is in
    let right : get_or net.complexes r.1 [] ≡ amounts_in net.names y = ap (λ (w : List ℤ × List ℤ). w.1) said.is in (
      λ holds. listed t.0 t.1 (in_left name (map (λ t. t.0) t.0.0) (map (λ t. t.0) t.0.1) (named t.0.0 name (omega (arith, some x r.0 left holds, (t.2 name).0)))),
      λ holds. listed t.0 t.1 (in_right name (map (λ t. t.0) t.0.0) (map (λ t. t.0) t.0.1) (named t.0.1 name (omega (arith, some y r.1 right holds, (t.2 name).1)))),
    )) held.2

-- a complex of each network with the same amount of each name
abbrev SameAmounts : Net → Net → ℕ → ℕ → Type 0
SameAmounts net other c d = (s t : ℕ) → s < length net.names → t < length other.names → get_or net.names s [] ≡ get_or other.names t [] → amount_at net c s ≡ amount_at other d t

record SameReaction (net other : Net) (r : ℕ × ℕ) : Type 0 where
  there : ℕ × ℕ
  member : IsIn there other.reactions
  reactant : SameAmounts net other r.0 there.0
  product : SameAmounts net other r.1 there.1

-- complexes that sides with the same amounts give
same_side : (net other : Net) (x y : List (List ℕ × ℕ)) → ((name : List ℕ) → amount_in x name ≡ amount_in y name) → (c d : ℕ) → get_or net.complexes c [] ≡ amounts_in net.names x → get_or other.complexes d [] ≡ amounts_in other.names y → SameAmounts net other c d
same_side net other x y alike c d e f s t ls lt same =
    amount_is net x c s ls e
    ∙ ap (λ (name : List ℕ). pos (amount_in x name)) same
    ∙ ap pos (alike (get_or other.names t []))
    ∙ sym (amount_is other y d t lt f)

reaction_there : (ss ts : List Statement) (net other : Net) → IsSaidBy ss net → IsSaidBy ts other → Within ss ts → (r : ℕ × ℕ) → IsIn r net.reactions → SameReaction net other r
reaction_there ss ts net other p q within r i =
    let S = List ℤ × List ℤ in
    let said = says ss net p r i in
    let s = said.by in
    let like = within s said.member in
    let t = like.0 in
    let there = firsts_has sides_eq sides_decide (map (said_by other.names) ts) (said_by other.names t) (map_in (said_by other.names) ts t like.1) in
    let of = in_map (sides_of other) other.reactions (said_by other.names t) (subst (λ (rs : List S). IsIn (said_by other.names t) rs) (sym q.reactions) there) in
    record {
      there = of.0;
      member = of.1;
      reactant = same_side net other s.0 t.0 (λ name. (like.2 name).0) r.0 of.0.0 (ap (λ (w : S). w.0) said.is) (sym (ap (λ (w : S). w.0) of.2));
      product = same_side net other s.1 t.1 (λ name. (like.2 name).1) r.1 of.0.1 (ap (λ (w : S). w.1) said.is) (sym (ap (λ (w : S). w.1) of.2));
    }

complex_there : (ss ts : List Statement) (net other : Net) → IsSaidBy ss net → IsSaidBy ts other → Within ss ts → (c : ℕ) → c < length net.complexes → (d : ℕ) × (d < length other.complexes) × SameAmounts net other c d
complex_there ss ts net other p q within c lt =
    in_reactions (λ c. (d : ℕ) × (d < length other.complexes) × SameAmounts net other c d) net.reactions c (p.network.partial.each_in_a_reaction c lt) (λ r i.
    let h = reaction_there ss ts net other p q within r i in
    let at = inside_at (length other.complexes) other.reactions q.network.partial.apart h.there.0 h.there.1 h.member in
    ((h.there.0, at.0, h.reactant), (h.there.1, at.1, h.product)))

same_back : (net other : Net) (c d : ℕ) → SameAmounts net other c d → SameAmounts other net d c
same_back net other c d h t s lt ls e = sym (h s t ls lt (sym e))

-- complexes of the other network with the amounts of one are one
one_complex : (ss ts : List Statement) (net other : Net) → IsSaidBy ss net → IsSaidBy ts other → Within ts ss → (c i j : ℕ) → i < length other.complexes → j < length other.complexes → SameAmounts net other c i → SameAmounts net other c j → i ≡ j
one_complex ss ts net other p q within c i j li lj f g =
    let long : (k : ℕ) → k < length other.complexes → length (get_or other.complexes k []) ≡ length other.names = λ k lt. vector_long (length other.names) other.complexes q.network.partial.vectors k lt in
    same_place other.complexes i j [] q.network.partial.complexes li lj
    (ext_get_or (pos 0) (get_or other.complexes i []) (get_or other.complexes j []) (long i li ∙ sym (long j lj)) (λ t l.
    let lt : t < length other.names = omega (arith, l, long i li) in
    let s = in_at (get_or other.names t []) net.names [] (name_there ts ss other net q p within (get_or other.names t []) (at_in other.names t [] lt)) in
    sym (f s.0 t s.1 lt s.2) ∙ g s.0 t s.1 lt s.2))

-- ---- the same network in another order

renumbered : (ss ts : List Statement) (net other : Net) → IsSaidBy ss net → IsSaidBy ts other → Within ss ts → Within ts ss → IsRenumbered net other
renumbered ss ts net other p q to fro =
    let N = length net.names in
    let M = length other.names in
    let C = length net.complexes in
    let D = length other.complexes in
    let name_at : Net → ℕ → List ℕ = λ n s. get_or n.names s [] in
    let one : (c i j : ℕ) → i < D → j < D → SameAmounts net other c i → SameAmounts net other c j → i ≡ j = λ c i j. one_complex ss ts net other p q fro c i j in
    let alone : (d i j : ℕ) → i < C → j < C → SameAmounts net other i d → SameAmounts net other j d → i ≡ j = λ d i j li lj f g.
    one_complex ts ss other net q p to d i j li lj (same_back net other i d f) (same_back net other j d g) in
    let species = matching N M (λ s t. name_at net s ≡ name_at other t)
    (λ s lt. let t = in_at (name_at net s) other.names [] (name_there ss ts net other p q to (name_at net s) (at_in net.names s [] lt)) in (t.0, t.1, sym t.2))
    (λ t lt. let s = in_at (name_at other t) net.names [] (name_there ts ss other net q p fro (name_at other t) (at_in other.names t [] lt)) in (s.0, s.1, s.2))
    (λ s i j ls li lj e f. same_place other.names i j [] q.network.partial.names li lj (sym e ∙ f))
    (λ i s t li ls lt e f. same_place net.names i s [] p.network.partial.names li ls (e ∙ sym f)) in
    let complexes = matching C D (SameAmounts net other)
    (complex_there ss ts net other p q to)
    (λ d lt. let c = complex_there ts ss other net q p fro d lt in (c.0, c.1, same_back other net d c.0 c.2))
    (λ c i j lc li lj. one c i j li lj)
    (λ i c d li lc ld. alone d i c li lc) in
    let R : ℕ → ℕ → Type 0 = λ r k. SameAmounts net other (end_at net.reactions r).0 (end_at other.reactions k).0 × SameAmounts net other (end_at net.reactions r).1 (end_at other.reactions k).1 in
    let in_net : (r : ℕ) → r < length net.reactions → ((end_at net.reactions r).0 < C) × ((end_at net.reactions r).1 < C) = λ r lt. ends_inside net p.network r (end_at net.reactions r).0 (end_at net.reactions r).1 (reaction_here net.reactions r lt) in
    let in_other : (r : ℕ) → r < length other.reactions → ((end_at other.reactions r).0 < D) × ((end_at other.reactions r).1 < D) = λ r lt. ends_inside other q.network r (end_at other.reactions r).0 (end_at other.reactions r).1 (reaction_here other.reactions r lt) in
    let reactions = matching (length net.reactions) (length other.reactions) R
    (λ r lt.
    let h = reaction_there ss ts net other p q to (end_at net.reactions r) (at_in net.reactions r (0, 0) lt) in
    let k = place_of h.there other.reactions h.member in
    (k.0, k.1, subst (λ (w : ℕ × ℕ). SameAmounts net other (end_at net.reactions r).0 w.0 × SameAmounts net other (end_at net.reactions r).1 w.1) (sym k.2) (h.reactant, h.product)))
    (λ k lt.
    let h = reaction_there ts ss other net q p fro (end_at other.reactions k) (at_in other.reactions k (0, 0) lt) in
    let r = place_of h.there net.reactions h.member in (
      r.0,
      r.1,
      subst (λ (w : ℕ × ℕ). SameAmounts net other w.0 (end_at other.reactions k).0 × SameAmounts net other w.1 (end_at other.reactions k).1) (sym r.2)
          (same_back other net (end_at other.reactions k).0 h.there.0 h.reactant, same_back other net (end_at other.reactions k).1 h.there.1 h.product),
    ))
    (λ r i j lr li lj f g. same_place other.reactions i j (0, 0) q.network.partial.reactions li lj
    (ap₂ pair (one (end_at net.reactions r).0 (end_at other.reactions i).0 (end_at other.reactions j).0 (in_other i li).0 (in_other j lj).0 f.0 g.0)
    (one (end_at net.reactions r).1 (end_at other.reactions i).1 (end_at other.reactions j).1 (in_other i li).1 (in_other j lj).1 f.1 g.1)))
    (λ i r k li lr lk f g. same_place net.reactions i r (0, 0) p.network.partial.reactions li lr
    (ap₂ pair (alone (end_at other.reactions k).0 (end_at net.reactions i).0 (end_at net.reactions r).0 (in_net i li).0 (in_net r lr).0 f.0 g.0)
    (alone (end_at other.reactions k).1 (end_at net.reactions i).1 (end_at net.reactions r).1 (in_net i li).1 (in_net r lr).1 f.1 g.1))) in
    record {
      species = species.numbering;
      complexes = complexes.numbering;
      reactions = reactions.numbering;
      amounts = λ c s lc ls. sym (complexes.is c lc s (species.numbering.to s) ls (species.numbering.to_below s ls) (species.is s ls));
      ends = λ r y z is.
          let k = reactions.numbering.to r in
          let lk = reactions.numbering.to_below r is.0 in
          let at = ends_inside net p.network r y z is in
          let same : SameAmounts net other y (end_at other.reactions k).0 × SameAmounts net other z (end_at other.reactions k).1 =
          subst (λ (w : ℕ × ℕ). SameAmounts net other w.0 (end_at other.reactions k).0 × SameAmounts net other w.1 (end_at other.reactions k).1) is.1 (reactions.is r is.0) in (
            lk,
            ap₂ pair (one y (end_at other.reactions k).0 (complexes.numbering.to y) (in_other k lk).0 (complexes.numbering.to_below y at.0) same.0 (complexes.is y at.0))
                (one z (end_at other.reactions k).1 (complexes.numbering.to z) (in_other k lk).1 (complexes.numbering.to_below z at.1) same.1 (complexes.is z at.1)),
          );
    }

said : (text : List ℕ) (net : Net) → Spells text net → IsSaidBy (all_statements (lines text)) net
said text net h = record { names = h.names; reactions = h.reactions; network = h.network }

pub statements_in_any_order : StatementsInAnyOrder
statements_in_any_order text another net other p q same =
    renumbered (all_statements (lines text)) (all_statements (lines another)) net other (said text net p) (said another other q) same.0 same.1
