-- Every linked pair of a terminal class has a least reaction, whose side is tested.
use Rattle.crn_cert.proofs.Prelude.{◌≡◌, ◌⊎◌, ℕ, zero, suc, ◌+◌, ◌-◌, ◌<◌, ◌≤◌, Bool, true, false, List, [], ◌∷◌, length, get_or, refl, sym, ap, subst, ◌∙◌, inl, inr, arith, ◌==◌, ◌&&◌, not, ℤ, AllByRecursion, range_with_len, list_any, eq-eqb, eqb-true, IsIn, Net, IsNetwork, IsCutPair, IsTerminalPair, place_of, inside_at, in_range, filter_has, cut_back, and_cases, and_true, AllHold, of_class, AreSideMarks, AreBits, linkage, strong, exits, ends_at, is_within_terminal, is_same_pair, is_least_of_pair, pair_places, side_tests, Earlier}
use Rattle.crn_cert.proofs.Filters.{some_place, or_either}
use Rattle.crn_cert.proofs.Known.{ClassesKnown}
use Rattle.crn_cert.proofs.Cycles.{cut_by_tests}

-- the reaction joins y and z, in one order or the other
abbrev Joins : ℕ × ℕ → ℕ → ℕ → Type 0
Joins r y z = (r ≡ (y, z)) ⊎ (r ≡ (z, y))

-- a reaction with the same pair joins the same two
same_joins : (q r : ℕ × ℕ) (y z : ℕ) → is_same_pair q r ≡ true → Joins r y z → Joins q y z
same_joins q r y z e j =
    let pair : (a b c d : ℕ) → ((a == c) && (b == d)) ≡ true → (a ≡ c) × (b ≡ d) = λ a b c d h. let p = and_cases (a == c) (b == d) h in (eqb-true a c p.0, eqb-true b d p.1) in
    elim (or_either ((q.0 == r.0) && (q.1 == r.1)) ((q.0 == r.1) && (q.1 == r.0)) e) [
      | inl h ↦ let p = pair q.0 q.1 r.0 r.1 h in
          let same : q ≡ r = pair_is q r p.0 p.1 in
          elim j [ inl k ↦ inl (same ∙ k) | inr k ↦ inr (same ∙ k) ]
      | inr h ↦ let p = pair q.0 q.1 r.1 r.0 h in
          elim j [
            | inl k ↦ inr (pair_is q (z, y) (p.0 ∙ ap (λ (w : ℕ × ℕ). w.1) k) (p.1 ∙ ap (λ (w : ℕ × ℕ). w.0) k))
            | inr k ↦ inl (pair_is q (y, z) (p.0 ∙ ap (λ (w : ℕ × ℕ). w.1) k) (p.1 ∙ ap (λ (w : ℕ × ℕ). w.0) k))
          ]
    ]
  where
    pair_is : (a b : ℕ × ℕ) → a.0 ≡ b.0 → a.1 ≡ b.1 → a ≡ b
    pair_is a b e f = ap (λ (x : ℕ). (x, a.1)) e ∙ ap (λ (x : ℕ). (b.0, x)) f

-- the least reaction that joins y and z
record Least (net : Net) (y z : ℕ) : Type 0 where
  r : ℕ
  some : 1 ≤ r
  most : r ≤ length net.reactions
  joins : Joins (ends_at net r) y z
  least : is_least_of_pair net r ≡ true

not_false : (b : Bool) → b ≡ true ⊎ (not b ≡ true)
not_false true = inl refl
not_false false = inr refl

least_from : (net : Net) (y z n r : ℕ) → r ≤ n → 1 ≤ r → r ≤ length net.reactions → Joins (ends_at net r) y z → Least net y z
least_from net y z zero r le some most j = absurd (omega (arith, le, some))
least_from net y z (suc n) r le some most j = elim (not_false (list_any (λ q. is_same_pair (ends_at net q) (ends_at net r)) (range_with_len 1 (r - 1)))) [
  | inr h ↦ record { r = r; some = some; most = most; joins = j; least = h }
  | inl h ↦
      let q = some_place (λ q. is_same_pair (ends_at net q) (ends_at net r)) 1 (r - 1) h in
      least_from net y z n q.0 (omega (arith, q.2, le, some)) q.1 (omega (arith, q.2, most, some)) (same_joins (ends_at net q.0) (ends_at net r) y z q.3 j)
]

-- the tested sides of these pairs
tested : (net : Net) (earlier : Earlier) (part : ℕ) (rs : List ℕ) (sides : List (List ℤ)) → AllHold (side_tests net earlier part rs sides) → AllByRecursion (AreBits (length net.complexes)) sides → (r : ℕ) → IsIn r rs
    → (marks : List ℤ) × AreSideMarks net (linkage earlier) r marks × (length marks ≡ length net.complexes)
tested net earlier part [] sides h b r i = absurd i
tested net earlier part (s ∷ rs) [] h b r i = absurd h.0
tested net earlier part (s ∷ rs) (m ∷ sides) h b r (inl e) = (m, subst (λ (k : ℕ). AreSideMarks net (linkage earlier) k m) (sym e) h.0, b.0.long)
tested net earlier part (s ∷ rs) (m ∷ sides) h b r (inr i) = tested net earlier (suc part) rs sides h.1 b.1 r i

cut_either : (net : Net) (e : ℕ × ℕ) (a b y z : ℕ) → e ≡ (a, b) → Joins e y z → IsCutPair net.reactions a b → IsCutPair net.reactions y z
cut_either net e a b y z is (inl j) c = let w : (a, b) ≡ (y, z) = sym is ∙ j in subst (λ (p : ℕ × ℕ). IsCutPair net.reactions p.0 p.1) w c
cut_either net e a b y z is (inr j) c = let w : (a, b) ≡ (z, y) = sym is ∙ j in cut_back net.reactions z y (subst (λ (p : ℕ × ℕ). IsCutPair net.reactions p.0 p.1) w c)

-- equal pairs are both within a terminal class, or neither is
same_within : (earlier : Earlier) (w v : ℕ × ℕ) → w ≡ v → is_within_terminal earlier v ≡ true → is_within_terminal earlier w ≡ true
same_within earlier w v e h = subst (λ (u : ℕ × ℕ). is_within_terminal earlier u ≡ true) (sym e) h

pub pairs_cut : (net : Net) → IsNetwork net → (earlier : Earlier) (sides : List (List ℤ)) → ClassesKnown net earlier → AllHold (side_tests net earlier 1 (pair_places net earlier) sides) → AllByRecursion (AreBits (length net.complexes)) sides
    → (y z : ℕ) → IsTerminalPair net.reactions y z → IsCutPair net.reactions y z
pairs_cut net network earlier sides known tests bits y z pair =
    let rs = net.reactions in
    let s = known.strong_is.is in
    let start : (k : ℕ) × (k < length rs) × Joins (get_or rs k (0, 0)) y z = elim pair.linked [
      | inl i ↦ let p = place_of (y, z) rs i in (p.0, p.1, inl p.2)
      | inr i ↦ let p = place_of (z, y) rs i in (p.0, p.1, inr p.2)
    ] in
    let k = start.0 in
    let joins : Joins (ends_at net (k + 1)) y z = subst (λ (n : ℕ). Joins (get_or rs n (0, 0)) y z) (omega arith) start.2 in
    let l = least_from net y z (k + 1) (k + 1) (omega arith) (omega arith) (omega (arith, start.1)) joins in
    let ends : (y < length net.complexes) × (z < length net.complexes) = elim pair.linked [
      | inl i ↦ inside_at (length net.complexes) rs network.partial.apart y z i
      | inr i ↦ let w = inside_at (length net.complexes) rs network.partial.apart z y i in (w.1, w.0)
    ] in
    let ly : y < length (strong earlier) = omega (arith, ends.0, s.places) in
    let lz : z < length (strong earlier) = omega (arith, ends.1, s.places) in
    let same : get_or (strong earlier) y 0 ≡ get_or (strong earlier) z 0 = s.right.together y z ly lz pair.within in
    let none : of_class (strong earlier) (exits earlier) y ≡ 0 = (s.exits_are.terminal y ly).1 pair.terminal in
    let none_z : of_class (strong earlier) (exits earlier) z ≡ 0 = subst (λ (m : ℕ). get_or (exits earlier) (m - 1) 0 ≡ 0) same none in
    let straight : is_within_terminal earlier (y, z) ≡ true = and_true (get_or (strong earlier) y 0 == get_or (strong earlier) z 0) (of_class (strong earlier) (exits earlier) y == 0) (eq-eqb (get_or (strong earlier) y 0) (get_or (strong earlier) z 0) same) (eq-eqb (of_class (strong earlier) (exits earlier) y) 0 none) in
    let other_way : is_within_terminal earlier (z, y) ≡ true = and_true (get_or (strong earlier) z 0 == get_or (strong earlier) y 0) (of_class (strong earlier) (exits earlier) z == 0) (eq-eqb (get_or (strong earlier) z 0) (get_or (strong earlier) y 0) (sym same)) (eq-eqb (of_class (strong earlier) (exits earlier) z) 0 none_z) in
    let within : is_within_terminal earlier (ends_at net l.r) ≡ true = elim l.joins [
      | inl e ↦ same_within earlier (ends_at net l.r) (y, z) e straight
      | inr e ↦ same_within earlier (ends_at net l.r) (z, y) e other_way
    ] in
    let place : IsIn l.r (pair_places net earlier) = filter_has (λ r. is_within_terminal earlier (ends_at net r) && is_least_of_pair net r) (range_with_len 1 (length rs)) l.r
    (in_range l.r 1 (length rs) l.some (omega (arith, l.most)))
    (and_true (is_within_terminal earlier (ends_at net l.r)) (is_least_of_pair net l.r) within l.least) in
    let t = tested net earlier 1 (pair_places net earlier) sides tests bits l.r place in
    let m = t.1 in
    cut_either net (ends_at net l.r) m.y m.z y z m.goes.1.1 l.joins (cut_by_tests net network (linkage earlier) l.r t.0 known.linkage_is.labelled t.2 m)
