-- A node's line, and the tree of a prefix, as they are read.
use Rattle.crn_siphon_text.proofs.Prelude.{◌≡◌, ◌≤◌, ◌⊎◌, ℕ, Bool, List, [], ◌∷◌, length, refl, sym, ap, subst, ◌∙◌, inl, inr, arith, ℤ, pos, codes, IsIn, AreFree, Place, Gives, FailsFirst, word_of, one_word, free_row, bare_back, one_back, find, place_is, Net, Record, Form, Fits, IsPartSaid, words, node_forms, Node, Forks, IsBadBy, HasLaw, Voids, node_of, leaf}
use Rattle.crn_siphon_text.proofs.Nodes.{IsGood}

-- what a record of a node says, by the place of its word
abbrev pub NodeSaid : Net → ℕ → List ℤ → Node → Type 0
NodeSaid net place read node = ((place ≡ 8) × (node ≡ Forks))
    ⊎ (((place ≡ 9) × ((k : ℕ) × (read ≡ pos k ∷ []) × ((1 ≤ k) × (k ≤ length net.reactions)) × (node ≡ IsBadBy k)))
    ⊎ (((place ≡ 10) × AreFree (length net.names) read × (node ≡ HasLaw read)) ⊎ ((place ≡ 11) × (node ≡ Voids))))

pub node_said : (net : Net) (place : ℕ) (read : List ℤ) (r : Record) → IsPartSaid words (node_forms net) place read r → NodeSaid net place read (node_of r)
unfolding find
node_said net place read r s = by s.form
  where
    at : (w : List ℕ) (numbers : List ℤ) → r ≡ one_word w numbers → find w words ≡ place
    at w numbers e = place_is words place w refl s.inside (sym s.kind ∙ ap (λ (q : Record). word_of q) e)

    by : (form : Form) × IsIn form (node_forms net) × Fits form r → NodeSaid net place read (node_of r)
    by (form, inl e, f) =
        let is = bare_back (codes "fork") r (subst (λ (x : Form). Fits x r) e f) in
        inl (sym (at (codes "fork") [] is), ap node_of is)
    by (form, inr (inl e), f) =
        let b = one_back (codes "bad") 1 (length net.reactions) r (subst (λ (x : Form). Fits x r) e f) in
        inr (inl (sym (at (codes "bad") (pos b.0 ∷ []) b.1), (b.0, s.numbers ∙ ap (λ (q : Record). q.numbers) b.1, b.2, ap node_of b.1)))
    by (form, inr (inr (inl e)), f) =
        let b = free_row (codes "law") (length net.names) r (subst (λ (x : Form). Fits x r) e f) in
        inr (inr (inl (sym (at (codes "law") r.numbers b.0), subst (AreFree (length net.names)) (sym s.numbers) b.1, ap node_of b.0 ∙ ap HasLaw (sym s.numbers))))
    by (form, inr (inr (inr (inl e))), f) =
        let is = bare_back (codes "void") r (subst (λ (x : Form). Fits x r) e f) in
        inr (inr (inr (sym (at (codes "void") [] is), ap node_of is)))
    by (form, inr (inr (inr (inr none))), f) = absurd none

-- ---- tests

pub leaf_gives : (net : Net) (prefix : List Bool) (node : Node) → IsGood net prefix node → (n : ℕ) (at : Place) → Gives (leaf net prefix n node) at tt at
unfolding Gives
leaf_gives net prefix Forks g n at = absurd g
leaf_gives net prefix (IsBadBy r) g n at = (tt, g, (refl, refl))
leaf_gives net prefix (HasLaw x) g n at = (tt, g, (refl, refl))
leaf_gives net prefix Voids g n at = (tt, g, (refl, refl))

abbrev pub fault_of : Node → ℕ
fault_of Forks = 54
fault_of (IsBadBy r) = 54
fault_of (HasLaw x) = 53
fault_of Voids = 54

pub leaf_fails : (net : Net) (prefix : List Bool) (node : Node) → (IsGood net prefix node → ⊥) → (n : ℕ) (at : Place) → FailsFirst (leaf net prefix n node) at n (fault_of node)
unfolding FailsFirst
leaf_fails net prefix Forks none n at = inl (refl, refl, λ x p. p)
leaf_fails net prefix (IsBadBy r) none n at = inl (refl, refl, λ x p. none p)
leaf_fails net prefix (HasLaw x) none n at = inl (refl, refl, λ y p. none p)
leaf_fails net prefix Voids none n at = inl (refl, refl, λ x p. none p)

-- ---- what a node says, by its place

pub fork_said : (net : Net) (place : ℕ) (read : List ℤ) (r : Record) → place ≡ 8 → IsPartSaid words (node_forms net) place read r → node_of r ≡ Forks
fork_said net place read r e s = by (node_said net place read r s)
  where
    by : NodeSaid net place read (node_of r) → node_of r ≡ Forks
    by (inl h) = h.1
    by (inr (inl h)) = absurd (omega (arith, e, h.0))
    by (inr (inr (inl h))) = absurd (omega (arith, e, h.0))
    by (inr (inr (inr h))) = absurd (omega (arith, e, h.0))

pub bad_said : (net : Net) (place : ℕ) (read : List ℤ) (r : Record) → place ≡ 9 → IsPartSaid words (node_forms net) place read r → (k : ℕ) × (read ≡ pos k ∷ []) × ((1 ≤ k) × (k ≤ length net.reactions)) × (node_of r ≡ IsBadBy k)
bad_said net place read r e s = by (node_said net place read r s)
  where
    by : NodeSaid net place read (node_of r) → (k : ℕ) × (read ≡ pos k ∷ []) × ((1 ≤ k) × (k ≤ length net.reactions)) × (node_of r ≡ IsBadBy k)
    by (inl h) = absurd (omega (arith, e, h.0))
    by (inr (inl h)) = h.1
    by (inr (inr (inl h))) = absurd (omega (arith, e, h.0))
    by (inr (inr (inr h))) = absurd (omega (arith, e, h.0))

pub law_said : (net : Net) (place : ℕ) (read : List ℤ) (r : Record) → place ≡ 10 → IsPartSaid words (node_forms net) place read r → AreFree (length net.names) read × (node_of r ≡ HasLaw read)
law_said net place read r e s = by (node_said net place read r s)
  where
    by : NodeSaid net place read (node_of r) → AreFree (length net.names) read × (node_of r ≡ HasLaw read)
    by (inl h) = absurd (omega (arith, e, h.0))
    by (inr (inl h)) = absurd (omega (arith, e, h.0))
    by (inr (inr (inl h))) = (h.1, h.2)
    by (inr (inr (inr h))) = absurd (omega (arith, e, h.0))

pub void_said : (net : Net) (place : ℕ) (read : List ℤ) (r : Record) → (place ≡ 8 → ⊥) → (place ≡ 9 → ⊥) → (place ≡ 10 → ⊥) → IsPartSaid words (node_forms net) place read r → node_of r ≡ Voids
void_said net place read r a b d s = by (node_said net place read r s)
  where
    by : NodeSaid net place read (node_of r) → node_of r ≡ Voids
    by (inl h) = absurd (a h.0)
    by (inr (inl h)) = absurd (b h.0)
    by (inr (inr (inl h))) = absurd (d h.0)
    by (inr (inr (inr h))) = h.1

pub node_gives : (net : Net) (prefix : List Bool) (node other : Node) → node ≡ other → IsGood net prefix other → (n : ℕ) (at : Place) → Gives (leaf net prefix n node) at tt at
node_gives net prefix node other e g n at = subst (λ (x : Node). Gives (leaf net prefix n x) at tt at) (sym e) (leaf_gives net prefix other g n at)

pub node_fails : (net : Net) (prefix : List Bool) (node other : Node) → node ≡ other → (IsGood net prefix other → ⊥) → (n : ℕ) (at : Place) → FailsFirst (leaf net prefix n node) at n (fault_of other)
node_fails net prefix node other e none n at = subst (λ (x : Node). FailsFirst (leaf net prefix n x) at n (fault_of other)) (sym e) (leaf_fails net prefix other none n at)
