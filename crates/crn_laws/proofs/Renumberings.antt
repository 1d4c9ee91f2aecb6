-- A renumbering the other way round, the reactions, complexes and vectors of a network numbered anew, and renumberings by a relation.
use Rattle.crn_laws.proofs.Prelude.{◌≡◌, ◌⊎◌, ℕ, ◌<◌, ◌≤◌, inl, inr, List, [], length, get_or, refl, sym, ap, ◌∙◌, arith, ℤ, ◌-ℤ◌, ints, Net, IsNetwork, amount_at, reaction_vector, entry, column, IsReaction, ReactsTo, vectors, entry-column, entry-listed, entry-minus, inside_at, length-column, length-listed, listed, lt_or, place_of, reaction_in, vector_at, vector_long, vector_width, vectors_count, IsMoved, Renumbering, IsRenumbered}

abbrev pub turned : (n m : ℕ) → Renumbering n m → Renumbering m n
turned n m p = record { to = p.back; back = p.to; to_below = p.back_below; back_below = p.to_below; back_to = p.to_back; to_back = p.back_to }

pub ends_inside : (net : Net) → IsNetwork net → (r y z : ℕ) → IsReaction net.reactions r y z → (y < length net.complexes) × (z < length net.complexes)
ends_inside net n r y z h = inside_at (length net.complexes) net.reactions n.partial.apart y z (reaction_in net.reactions r (y, z) h.0 h.1)

abbrev pub end_at : List (ℕ × ℕ) → ℕ → ℕ × ℕ
end_at rs r = get_or rs r (0, 0)

pub reaction_here : (rs : List (ℕ × ℕ)) (r : ℕ) → r < length rs → IsReaction rs r (end_at rs r).0 (end_at rs r).1
reaction_here rs r lt = (lt, refl)

pub turned_amounts : (net other : Net) (h : IsRenumbered net other) (d t : ℕ) → d < length other.complexes → t < length other.names → amount_at net (h.complexes.back d) (h.species.back t) ≡ amount_at other d t
turned_amounts net other h d t ld lt =
    let s = h.species in
    let c = h.complexes in
    sym (h.amounts (c.back d) (s.back t) (c.back_below d ld) (s.back_below t lt))
    ∙ ap (λ (k : ℕ). amount_at other k (s.to (s.back t))) (c.to_back d ld)
    ∙ ap (amount_at other d) (s.to_back t lt)

pub turned_ends : (net other : Net) → IsNetwork net → (h : IsRenumbered net other) (r y z : ℕ) → IsReaction other.reactions r y z → IsReaction net.reactions (h.reactions.back r) (h.complexes.back y) (h.complexes.back z)
turned_ends net other n h r y z is =
    let c = h.complexes in
    let k = h.reactions.back r in
    let lt = h.reactions.back_below r is.0 in
    let e = end_at net.reactions k in
    let inside = ends_inside net n k e.0 e.1 (reaction_here net.reactions k lt) in
    let there : IsReaction other.reactions (h.reactions.to k) (c.to e.0) (c.to e.1) = h.ends k e.0 e.1 (reaction_here net.reactions k lt) in
    let pair : (c.to e.0, c.to e.1) ≡ (y, z) = sym there.1 ∙ ap (λ (j : ℕ). get_or other.reactions j (0, 0)) (h.reactions.to_back r is.0) ∙ is.1 in
    let one : e.0 ≡ c.back y = sym (c.back_to e.0 inside.0) ∙ ap (λ (w : ℕ × ℕ). c.back w.0) pair in
    let two : e.1 ≡ c.back z = sym (c.back_to e.1 inside.1) ∙ ap (λ (w : ℕ × ℕ). c.back w.1) pair in
    (lt, ap (λ (a : ℕ). (a, e.1)) one ∙ ap (λ (b : ℕ). (c.back y, b)) two)

-- the other network numbered back
abbrev pub turned_net : (net other : Net) → IsNetwork net → IsRenumbered net other → IsRenumbered other net
turned_net net other n h = record {
  species = turned (length net.names) (length other.names) h.species;
  complexes = turned (length net.complexes) (length other.complexes) h.complexes;
  reactions = turned (length net.reactions) (length other.reactions) h.reactions;
  amounts = turned_amounts net other h;
  ends = turned_ends net other n h;
}

-- a reaction of the one is a reaction of the other
pub reacts_anew : (net other : Net) (h : IsRenumbered net other) (y z : ℕ) → ReactsTo net.reactions y z → ReactsTo other.reactions (h.complexes.to y) (h.complexes.to z)
reacts_anew net other h y z i =
    let k = place_of (y, z) net.reactions i in
    let there = h.ends k.0 y z (k.1, k.2) in
    reaction_in other.reactions (h.reactions.to k.0) (h.complexes.to y, h.complexes.to z) there.0 there.1

-- ---- vectors

-- an entry of a reaction vector
pub vector_entry : (net : Net) → IsNetwork net → (r y z s : ℕ) → IsReaction net.reactions r y z → entry (get_or (vectors net) r []) s ≡ amount_at net z s -ℤ amount_at net y s
vector_entry net n r y z s is =
    let inside = ends_inside net n r y z is in
    let long : (c : ℕ) → c < length net.complexes → length (get_or net.complexes c []) ≡ length net.names = λ c lt. vector_long (length net.names) net.complexes n.partial.vectors c lt in
    ap (λ (v : List ℤ). entry v s) (vector_at net r is.0)
    ∙ ap (λ (w : ℕ × ℕ). entry (reaction_vector net w) s) is.1
    ∙ entry-minus (get_or net.complexes z []) (get_or net.complexes y []) s (long z inside.1 ∙ sym (long y inside.0))

pub entries_same : (net other : Net) → IsNetwork net → IsNetwork other → (h : IsRenumbered net other) → (r s : ℕ) → r < length net.reactions → s < length net.names
    → entry (get_or (vectors other) (h.reactions.to r) []) (h.species.to s) ≡ entry (get_or (vectors net) r []) s
entries_same net other n o h r s lr ls =
    let e = end_at net.reactions r in
    let here = reaction_here net.reactions r lr in
    let inside = ends_inside net n r e.0 e.1 here in
    let there = h.ends r e.0 e.1 here in
    omega (
      arith,
      ints,
      vector_entry net n r e.0 e.1 s here,
      vector_entry other o (h.reactions.to r) (h.complexes.to e.0) (h.complexes.to e.1) (h.species.to s) there,
      h.amounts e.0 s inside.0 ls,
      h.amounts e.1 s inside.1 ls,
    )

-- a column of the vectors, over the reactions, and a vector, over the species
pub column_moved : (net other : Net) → IsNetwork net → IsNetwork other → (h : IsRenumbered net other) → (s : ℕ) → s < length net.names
    → IsMoved (length net.reactions) (length other.reactions) h.reactions (column (vectors net) s) (column (vectors other) (h.species.to s))
column_moved net other n o h s lt = record {
  long = length-column (vectors net) s ∙ vectors_count net;
  long_too = length-column (vectors other) (h.species.to s) ∙ vectors_count other;
  same = λ k lk. entry-column (vectors other) (h.species.to s) (h.reactions.to k) ∙ entries_same net other n o h k s lk lt ∙ sym (entry-column (vectors net) s k);
}

pub vector_moved : (net other : Net) → IsNetwork net → IsNetwork other → (h : IsRenumbered net other) → (r : ℕ) → r < length net.reactions
    → IsMoved (length net.names) (length other.names) h.species (get_or (vectors net) r []) (get_or (vectors other) (h.reactions.to r) [])
vector_moved net other n o h r lt = record {
  long = vector_width net n r lt;
  long_too = vector_width other o (h.reactions.to r) (h.reactions.to_below r lt);
  same = λ s ls. entries_same net other n o h r s lt ls;
}

-- ---- lists in the new order

abbrev pub anew : (n m : ℕ) → Renumbering n m → List ℤ → List ℤ
anew n m p xs = listed m (λ k. entry xs (p.back k))

pub moved_anew : (n m : ℕ) (p : Renumbering n m) (xs : List ℤ) → length xs ≡ n → IsMoved n m p xs (anew n m p xs)
moved_anew n m p xs long = record {
  long = long;
  long_too = length-listed m (λ k. entry xs (p.back k));
  same = λ k lt. entry-listed m (λ k. entry xs (p.back k)) (p.to k) (p.to_below k lt) ∙ ap (entry xs) (p.back_to k lt);
}

-- an entry in the new order is one in the old
pub entry_back : (n m : ℕ) (p : Renumbering n m) (xs ys : List ℤ) → IsMoved n m p xs ys → (k : ℕ) → k < m → entry ys k ≡ entry xs (p.back k)
entry_back n m p xs ys h k lt = ap (entry ys) (sym (p.to_back k lt)) ∙ h.same (p.back k) (p.back_below k lt)

-- ---- numbers that a relation matches one to one

pub record Matching (n m : ℕ) (R : ℕ → ℕ → Type 0) : Type 0 where
  pub numbering : Renumbering n m
  pub is : (k : ℕ) → k < n → R k (numbering.to k)

-- the number that matches, 0 past the end
abbrev match_by : (n m : ℕ) (R : ℕ → ℕ → Type 0) → ((k : ℕ) → k < n → (j : ℕ) × (j < m) × R k j) → (k : ℕ) → (k < n) ⊎ (n ≤ k) → ℕ
match_by n m R f k (inl lt) = (f k lt).0
match_by n m R f k (inr le) = 0

matched : (n m : ℕ) (R : ℕ → ℕ → Type 0) (f : (k : ℕ) → k < n → (j : ℕ) × (j < m) × R k j) (k : ℕ) (p : (k < n) ⊎ (n ≤ k)) → k < n → (match_by n m R f k p < m) × R k (match_by n m R f k p)
matched n m R f k (inl lt) inside = ((f k lt).1, (f k lt).2)
matched n m R f k (inr le) inside = absurd (omega (arith, le, inside))

pub matching : (n m : ℕ) (R : ℕ → ℕ → Type 0) → ((k : ℕ) → k < n → (j : ℕ) × (j < m) × R k j) → ((j : ℕ) → j < m → (k : ℕ) × (k < n) × R k j)
    → ((k i j : ℕ) → k < n → i < m → j < m → R k i → R k j → i ≡ j) → ((i k j : ℕ) → i < n → k < n → j < m → R i j → R k j → i ≡ k) → Matching n m R
matching n m R f g one alone =
    let back : (j : ℕ) → j < m → (k : ℕ) × (k < n) × R k j = g in
    let Q : ℕ → ℕ → Type 0 = λ j k. R k j in
    let to : ℕ → ℕ = λ k. match_by n m R f k (lt_or k n) in
    let fro : ℕ → ℕ = λ j. match_by m n Q g j (lt_or j m) in
    let there : (k : ℕ) → k < n → (to k < m) × R k (to k) = λ k lt. matched n m R f k (lt_or k n) lt in
    let here : (j : ℕ) → j < m → (fro j < n) × R (fro j) j = λ j lt. matched m n Q g j (lt_or j m) lt in
    record {
      numbering = record {
        to = to;
        back = fro;
        to_below = λ k lt. (there k lt).0;
        back_below = λ j lt. (here j lt).0;
        back_to = λ k lt. let t = there k lt in let h = here (to k) t.0 in alone (fro (to k)) k (to k) h.0 lt t.0 h.1 t.1;
        to_back = λ j lt. let h = here j lt in let t = there (fro j) h.0 in one (fro j) (to (fro j)) j h.0 t.0 lt t.1 h.1;
      };
      is = λ k lt. (there k lt).1;
    }
