-- A regular network has fewer pairs than complexes, so its sign problem of signals is lawful.
use Rattle.crn_vec.proofs.Prelude.{◌≡◌, ◌≢◌, ℕ, zero, suc, ◌≤◌, ◌<◌, ◌⊎◌, inl, inr, List, [], ◌∷◌, length, get_or, map, refl, sym, ap, ap₂, subst, ◌∙◌, arith, ℤ, pos, ◌+ℤ◌, ◌-ℤ◌, ◌*ℤ◌, Option, ints, get_or-map, length-map, dot, entry, AreOfLength, Net, IsNetwork, minus, IsLinked, IsReaction, IsBetween, IsFreeStep, IsOnSide, IsCutPair, IsTerminalPair, IsFirstOfPair, AreMarks, IsRegular, reaction_system, Pair, Shape, IsPairOf, IsShapeOf, NetworksAreLawful}
use lib.IntN.{*ℤ-zero, zero-*ℤ}
use Rattle.crn_vec.proofs.Lists.{at_in}
use Rattle.crn_vec.proofs.Entries.{lt_or, past_end, zip_at, zip_long}
use Rattle.crn_vec.proofs.Sums.{comb, dots, dot-comm, dot_zero, transposed, entry-dots, length-dots}
use Rattle.crn_vec.proofs.Null.{Zero, dot-zero, zero_from}
use Rattle.crn_vec.proofs.Many.{too_many}
use Rattle.crn_vec.proofs.Flows.{unit, dot_unit}
use Rattle.crn_vec.proofs.Orthogonal.{listed, length-listed, entry-listed}
use Rattle.crn_vec.proofs.WalkLaws.{leads_then, leads_here, leads_step, leads_back}
use Rattle.crn_vec.proofs.Reached.{reaction_in, inside_at}
use Rattle.crn_vec.proofs.Level.{minus-dot, all_at}
use Rattle.crn_vec.proofs.NetTables.{networks_have_tables, length-minus}
use Rattle.crn_vec.proofs.Ascending.{ascending_at}
use Rattle.crn_vec.proofs.SideLaws.{free_back}
use Rattle.crn_vec.proofs.SignalLawful.{signals_are_lawful}

-- ---- vectors of pairs

point : ℕ → ℕ → List ℤ
point n p = listed n (λ j. unit j p)

edge : ℕ → Pair → List ℤ
edge n pair = minus (point n pair.high) (point n pair.low)

point_long : (n p : ℕ) → length (point n p) ≡ n
unfolding point
point_long n p = length-listed n (λ j. unit j p)

edge_long : (n : ℕ) (pair : Pair) → length (edge n pair) ≡ n
unfolding edge
edge_long n pair = length-minus n (point n pair.high) (point n pair.low) (point_long n pair.high) (point_long n pair.low)

point_dot : (n p : ℕ) (x : List ℤ) → length x ≡ n → dot (point n p) x ≡ entry x p
unfolding point
point_dot n p x e = ap (λ (k : ℕ). dot (listed k (λ j. unit j p)) x) (sym e) ∙ dot_unit x p

edge_dot : (n : ℕ) (pair : Pair) (x : List ℤ) → length x ≡ n → dot (edge n pair) x ≡ entry x pair.high -ℤ entry x pair.low
unfolding edge
edge_dot n pair x e =
    minus-dot (point n pair.high) (point n pair.low) x (point_long n pair.high ∙ sym (point_long n pair.low))
    ∙ ap₂ (λ (a b : ℤ). a -ℤ b) (point_dot n pair.high x e) (point_dot n pair.low x e)

edges_long : (n : ℕ) (pairs : List Pair) → AreOfLength n (map (edge n) pairs)
edges_long n [] = tt
edges_long n (pair ∷ pairs) = (edge_long n pair, edges_long n pairs)

-- a product with a list that is zero but at one place
single : (cs vs : List ℤ) (i : ℕ) → ((j : ℕ) → j ≢ i → entry vs j ≡ pos 0) → dot cs vs ≡ entry cs i *ℤ entry vs i
single [] vs i h = sym (zero-*ℤ (entry vs i))
single (c ∷ cs) [] i h = sym (*ℤ-zero (entry (c ∷ cs) i))
single (c ∷ cs) (v ∷ vs) zero h =
    let rest : dot cs vs ≡ pos 0 = dot_zero cs vs (λ j. ap (λ (t : ℤ). entry cs j *ℤ t) (h (suc j) (λ e. omega (arith, e))) ∙ *ℤ-zero (entry cs j)) in
    omega (arith, ints, rest)
single (c ∷ cs) (v ∷ vs) (suc i) h =
    let first : c *ℤ v ≡ pos 0 = ap (λ (t : ℤ). c *ℤ t) (h 0 (λ e. omega (arith, e))) ∙ *ℤ-zero c in
    omega (arith, ints, first, single cs vs i (λ j ne. h (suc j) (λ e. ne (omega (arith, e)))))

-- ---- pairs of a shape

abbrev none : Pair
none = record { low = 0; high = 0; top = 0; sum = pos 0 }

-- a pair of a regular network: a cut pair, of its least reaction
record Cut (net : Net) (r : ℕ) (pair : Pair) : Type 0 where
  goes : IsReaction net.reactions r pair.low pair.high
  cut : IsCutPair net.reactions pair.low pair.high
  first : (q y z : ℕ) → q < r → IsReaction net.reactions q y z → IsBetween pair.low pair.high y z → ⊥

cut_of : (net : Net) (g : List ℤ) (tops : List (Option ℕ)) (r : ℕ) (pair : Pair) → IsRegular net → IsFirstOfPair net.reactions r → IsPairOf net g tops r pair → Cut net r pair
cut_of net g tops r pair regular f p =
    let ends : (f.a, f.b) ≡ (pair.low, pair.high) = sym f.goes.1 ∙ p.goes.1 in
    let terminal : IsTerminalPair net.reactions pair.low pair.high = subst (λ (w : ℕ × ℕ). IsTerminalPair net.reactions w.0 w.1) ends f.pair in
    record {
      goes = p.goes;
      cut = regular.cut_pairs pair.low pair.high terminal;
      first = subst (λ (w : ℕ × ℕ). (q y z : ℕ) → q < r → IsReaction net.reactions q y z → IsBetween w.0 w.1 y z → ⊥) ends f.first;
    }

abbrev pub Mark : Type 0 → ℤ → Type 0
Mark P x = (P × (x ≡ pos 1)) ⊎ ((P → ⊥) × (x ≡ pos 0))

pub mark_yes : (P : Type 0) (x : ℤ) → P → Mark P x → x ≡ pos 1
mark_yes P x p (inl h) = h.1
mark_yes P x p (inr h) = absurd (h.0 p)

pub mark_no : (P : Type 0) (x : ℤ) → (P → ⊥) → Mark P x → x ≡ pos 0
mark_no P x n (inl h) = absurd (n h.0)
mark_no P x n (inr h) = h.1

mark_same : (P Q : Type 0) (x y : ℤ) → (P → Q) → (Q → P) → Mark P x → Mark Q y → x ≡ y
mark_same P Q x y to back (inl p) (inl q) = p.1 ∙ sym q.1
mark_same P Q x y to back (inl p) (inr q) = absurd (q.0 (to p.0))
mark_same P Q x y to back (inr p) (inl q) = absurd (p.0 (back q.0))
mark_same P Q x y to back (inr p) (inr q) = p.1 ∙ sym q.1

-- the marks of a pair's side differ by 1 over it
own_step : (net : Net) (r : ℕ) (pair : Pair) (m : List ℤ) → Cut net r pair → AreMarks (IsOnSide net.reactions pair.low pair.high) m → pair.low < length m → pair.high < length m → entry m pair.high -ℤ entry m pair.low ≡ pos 1
own_step net r pair m c marks ll lh =
    let rs = net.reactions in
    let S = IsFreeStep rs pair.low pair.high in
    let high = mark_yes (IsOnSide rs pair.low pair.high pair.high) (entry m pair.high) (leads_here S pair.high) (marks pair.high lh) in
    let low = mark_no (IsOnSide rs pair.low pair.high pair.low) (entry m pair.low) (λ s. c.cut.cut (leads_back S (free_back rs pair.low pair.high) pair.high pair.low s)) (marks pair.low ll) in
    omega (arith, ints, high, low)

-- and are equal over any other step
pub other_step : (rs : List (ℕ × ℕ)) (a b y z : ℕ) (m : List ℤ) → AreMarks (IsOnSide rs a b) m → y < length m → z < length m → IsFreeStep rs a b y z → entry m z -ℤ entry m y ≡ pos 0
other_step rs a b y z m marks ly lz f =
    let S = IsFreeStep rs a b in
    let same = mark_same (IsOnSide rs a b y) (IsOnSide rs a b z) (entry m y) (entry m z) (λ s. leads_then S b y z s (leads_step S y z f)) (λ s. leads_then S b z y s (leads_step S z y (free_back rs a b y z f))) (marks y ly) (marks z lz) in
    omega (arith, ints, same)

-- two pairs of different reactions are different
apart : (net : Net) (q r : ℕ) (p u : Pair) → Cut net q p → Cut net r u → q ≢ r → IsBetween p.low p.high u.low u.high → ⊥
apart net q r p u a b ne between = elim (lt_or q r) [
  | inl less ↦ b.first q p.low p.high less a.goes (elim between as (λ _. IsBetween u.low u.high p.low p.high) [ inl e ↦ inl (sym e.0, sym e.1) | inr e ↦ inr (sym e.1, sym e.0) ])
  | inr most ↦ elim (lt_or r q) [
    | inl less ↦ a.first r u.low u.high less b.goes between
    | inr least ↦ ne (omega (arith, most, least))
  ]
]

-- ---- the count

-- what is known of the pair at a place
record Known (net : Net) (g : List ℤ) (s : Shape) (places : List ℕ) (j : ℕ) : Type 0 where
  cut : Cut net (get_or places j 0) (get_or s.pairs j none)
  pair : IsPairOf net g s.tops (get_or places j 0) (get_or s.pairs j none)
  low : (get_or s.pairs j none).low < length net.complexes
  high : (get_or s.pairs j none).high < length net.complexes

known_at : (net : Net) (g : List ℤ) (s : Shape) → IsNetwork net → IsRegular net → (sh : IsShapeOf net g s) → (j : ℕ) → j < length s.pairs → Known net g s sh.places j
known_at net g s n regular sh j lt =
    let r = get_or sh.places j 0 in
    let u : Pair = get_or s.pairs j none in
    let l : j < length sh.places = omega (arith, lt, zip_long (IsPairOf net g s.tops) sh.places s.pairs sh.pairs) in
    let pair : IsPairOf net g s.tops r u = zip_at (IsPairOf net g s.tops) 0 none sh.places s.pairs sh.pairs j l in
    let inside = inside_at (length net.complexes) net.reactions n.partial.apart u.low u.high (reaction_in net.reactions r (u.low, u.high) pair.goes.0 pair.goes.1) in
    record { cut = cut_of net g s.tops r u regular ((sh.places_are.each r).0 (at_in sh.places j 0 l)) pair; pair = pair; low = inside.0; high = inside.1 }

edge_at : (n : ℕ) (pairs : List Pair) (x : List ℤ) (j : ℕ) → length x ≡ n → j < length pairs → entry (dots (map (edge n) pairs) x) j ≡ entry x (get_or pairs j none).high -ℤ entry x (get_or pairs j none).low
edge_at n pairs x j e lt =
    entry-dots (map (edge n) pairs) x j (omega (arith, lt, length-map pairs (edge n)))
    ∙ ap (λ (row : List ℤ). dot row x) (get_or-map (edge n) pairs j none [] lt)
    ∙ edge_dot n (get_or pairs j none) x e

edges_past : (n : ℕ) (pairs : List Pair) (x : List ℤ) (j : ℕ) → length pairs ≤ j → entry (dots (map (edge n) pairs) x) j ≡ pos 0
edges_past n pairs x j le = past_end (dots (map (edge n) pairs) x) j (omega (arith, le, length-dots (map (edge n) pairs) x, length-map pairs (edge n)))

-- multiples of the vectors that add up to zero are orthogonal to what the vectors make of a list
crossed : (n : ℕ) (pairs : List Pair) (a : ℤ) (cs x : List ℤ) → length x ≡ n → Zero (comb n (a ∷ cs) (point n 0 ∷ map (edge n) pairs)) → a *ℤ entry x 0 +ℤ dot cs (dots (map (edge n) pairs) x) ≡ pos 0
crossed n pairs a cs x e z =
    let rows = point n 0 ∷ map (edge n) pairs in
    let sum = comb n (a ∷ cs) rows in
    let total : dot (a ∷ cs) (dots rows x) ≡ pos 0 = transposed n (a ∷ cs) x rows (point_long n 0, edges_long n pairs) ∙ dot-comm sum x ∙ dot-zero x sum z in
    ap (λ (t : ℤ). a *ℤ t +ℤ dot cs (dots (map (edge n) pairs) x)) (sym (point_dot n 0 x e)) ∙ total

-- the multiple of the point is zero
point_zero : (net : Net) (g : List ℤ) (s : Shape) → IsNetwork net → IsRegular net → IsShapeOf net g s → (a : ℤ) (cs : List ℤ) → Zero (comb (length net.complexes) (a ∷ cs) (point (length net.complexes) 0 ∷ map (edge (length net.complexes)) s.pairs)) → a ≡ pos 0
point_zero net g s n regular sh a cs z =
    let size = length net.complexes in
    let ones : List ℤ = listed size (λ j. pos 1) in
    let long : length ones ≡ size = length-listed size (λ j. pos 1) in
    let some : 0 < size = let j = all_at (λ (r : ℕ × ℕ). (r.0 ≡ r.1 → ⊥) × (r.0 < size) × (r.1 < size)) net.reactions (0, 0) 0 n.some n.partial.apart in omega (arith, j.1) in
    let made = dots (map (edge size) s.pairs) ones in
    let rest : dot cs made ≡ pos 0 = dot_zero cs made (λ j. elim (lt_or j (length s.pairs)) as (λ _. entry cs j *ℤ entry made j ≡ pos 0) [
      | inl lt ↦
          let k = known_at net g s n regular sh j lt in
          let u : Pair = get_or s.pairs j none in
          let none' : entry made j ≡ pos 0 = edge_at size s.pairs ones j long lt ∙ ap₂ (λ (x y : ℤ). x -ℤ y) (entry-listed size (λ i. pos 1) u.high k.high) (entry-listed size (λ i. pos 1) u.low k.low) in
          ap (λ (t : ℤ). entry cs j *ℤ t) none' ∙ *ℤ-zero (entry cs j)
      | inr le ↦ ap (λ (t : ℤ). entry cs j *ℤ t) (edges_past size s.pairs ones j le) ∙ *ℤ-zero (entry cs j)
    ]) in
    let one : a *ℤ entry ones 0 ≡ a *ℤ pos 1 = ap (λ (t : ℤ). a *ℤ t) (entry-listed size (λ i. pos 1) 0 some) in
    omega (arith, ints, one, rest, crossed size s.pairs a cs ones long z)

-- the multiple of each pair is zero
pair_zero : (net : Net) (g : List ℤ) (s : Shape) → IsNetwork net → IsRegular net → length g ≡ length net.complexes → IsShapeOf net g s → (a : ℤ) (cs : List ℤ) → a ≡ pos 0 → Zero (comb (length net.complexes) (a ∷ cs) (point (length net.complexes) 0 ∷ map (edge (length net.complexes)) s.pairs)) → (i : ℕ) → i < length s.pairs → entry cs i ≡ pos 0
pair_zero net g s n regular even sh a cs first z i lt =
    let size = length net.complexes in
    let k = known_at net g s n regular sh i lt in
    let u : Pair = get_or s.pairs i none in
    let m : List ℤ = k.pair.sum.marks in
    let long : length m ≡ size = k.pair.sum.long ∙ even in
    let made = dots (map (edge size) s.pairs) m in
    let own : entry made i ≡ pos 1 = edge_at size s.pairs m i long lt ∙ own_step net (get_or sh.places i 0) u m k.cut k.pair.sum.right (omega (arith, k.low, long)) (omega (arith, k.high, long)) in
    let others : (j : ℕ) → j ≢ i → entry made j ≡ pos 0 = λ j ne. elim (lt_or j (length s.pairs)) as (λ _. entry made j ≡ pos 0) [
      | inr le ↦ edges_past size s.pairs m j le
      | inl l ↦
          let o = known_at net g s n regular sh j l in
          let v : Pair = get_or s.pairs j none in
          let linked : IsLinked net.reactions v.low v.high = inl (reaction_in net.reactions (get_or sh.places j 0) (v.low, v.high) o.pair.goes.0 o.pair.goes.1) in
          let free : IsFreeStep net.reactions u.low u.high v.low v.high = (linked, apart net (get_or sh.places i 0) (get_or sh.places j 0) u v k.cut o.cut (places_apart net g s sh i j lt l (λ e. ne (sym e)))) in
          edge_at size s.pairs m j long l ∙ other_step net.reactions u.low u.high v.low v.high m k.pair.sum.right (omega (arith, o.low, long)) (omega (arith, o.high, long)) free
    ] in
    let total : a *ℤ entry m 0 +ℤ dot cs made ≡ pos 0 = crossed size s.pairs a cs m long z in
    let gone : a *ℤ entry m 0 ≡ pos 0 = ap (λ (t : ℤ). t *ℤ entry m 0) first ∙ zero-*ℤ (entry m 0) in
    let one : entry cs i *ℤ entry made i ≡ entry cs i *ℤ pos 1 = ap (λ (t : ℤ). entry cs i *ℤ t) own in
    omega (arith, ints, total, gone, one, single cs made i others)
  where
    places_apart : (net : Net) (g : List ℤ) (s : Shape) → (sh : IsShapeOf net g s) → (i j : ℕ) → i < length s.pairs → j < length s.pairs → i ≢ j → get_or sh.places i 0 ≢ get_or sh.places j 0
    places_apart net g s sh i j li lj ne e =
        let even = zip_long (IsPairOf net g s.tops) sh.places s.pairs sh.pairs in
        elim (lt_or i j) [
          | inl less ↦ let h = ascending_at sh.places i j sh.places_are.ascending less (omega (arith, lj, even)) in omega (arith, h, e)
          | inr most ↦ elim (lt_or j i) [
            | inl less ↦ let h = ascending_at sh.places j i sh.places_are.ascending less (omega (arith, li, even)) in omega (arith, h, e)
            | inr least ↦ ne (omega (arith, most, least))
          ]
        ]

all_zeros : (net : Net) (g : List ℤ) (s : Shape) → IsNetwork net → IsRegular net → length g ≡ length net.complexes → IsShapeOf net g s → (c : List ℤ) → length c ≡ suc (length s.pairs) → Zero (comb (length net.complexes) c (point (length net.complexes) 0 ∷ map (edge (length net.complexes)) s.pairs)) → (i : ℕ) → entry c i ≡ pos 0
all_zeros net g s n regular even sh [] long z i = refl
all_zeros net g s n regular even sh (a ∷ cs) long z zero = point_zero net g s n regular sh a cs z
all_zeros net g s n regular even sh (a ∷ cs) long z (suc i) = elim (lt_or i (length s.pairs)) as (λ _. entry cs i ≡ pos 0) [
  | inl lt ↦ pair_zero net g s n regular even sh a cs (point_zero net g s n regular sh a cs z) z i lt
  | inr le ↦ past_end cs i (omega (arith, le, long))
]

pub few_pairs : (net : Net) (g : List ℤ) (s : Shape) → IsNetwork net → IsRegular net → length g ≡ length net.complexes → IsShapeOf net g s → length s.pairs < length net.complexes
few_pairs net g s n regular even sh = elim (lt_or (length s.pairs) (length net.complexes)) as (λ _. length s.pairs < length net.complexes) [
  | inl less ↦ less
  | inr most ↦
      let size = length net.complexes in
      let rows = point size 0 ∷ map (edge size) s.pairs in
      let r = too_many size rows (point_long size 0, edges_long size s.pairs) (omega (arith, most, length-map s.pairs (edge size))) in
      absurd (r.nonzero (zero_from r.c (λ k lt. all_zeros net g s n regular even sh r.c (omega (arith, r.long, length-map s.pairs (edge size))) r.none k)))
]

pub networks_are_lawful : NetworksAreLawful
networks_are_lawful net g s n regular even sh =
    let species = (networks_have_tables net n).columns.species in
    let few = few_pairs net g s n regular even sh in
    signals_are_lawful s (reaction_system net) (record {
      rows = species ∙ sym sh.shape.species;
      species = omega (arith, sh.shape.species, n.partial.species_limit);
      complexes = omega (arith, ap length sh.shape.complexes, n.partial.complexes_limit);
      tops = sh.shape.tops;
      pairs = omega (arith, few, ap length sh.shape.complexes);
    })
