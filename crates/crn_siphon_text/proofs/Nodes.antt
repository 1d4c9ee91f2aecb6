-- The records of a document on persistence, one by one: what their lines say, and that those of formed answers fit.
use Rattle.crn_siphon_text.proofs.Prelude.{◌≡◌, ◌≢◌, ◌≤◌, ◌+◌, ◌⊎◌, ℕ, Bool, List, [], ◌∷◌, length, map, refl, sym, ap, ap₂, subst, ◌∙◌, inl, inr, arith, ℤ, pos, codes, Net, IsNetwork, MAX_BUDGET, IsBasisOf, Record, Form, Fits, small_form, Give, ◌>>=◌, IsWrittenBy, small_record, IsOneOf, one_word, IsBounded, number_back, number_then, record_is, free_row, bare_back, one_back, wide_fields, wide_numbers, wide_numbers_fit, species_few, reactions_few, small_bounded, IsSemiLaw, IsZeroOutside, IsBad, IsVoid, IsValidTree, IsFormedTree, Plan, Bad, Law, Void, wide_form, node_forms, Node, Forks, IsBadBy, HasLaw, Voids, node_of, leaf, tree_records}

-- ---- systems

pub wide_back : (system columns rows : ℕ) (r : Record) → Fits (wide_form system columns rows) r → (index : ℕ) × (basis : List ℕ) × (r ≡ small_record (codes "wide") (system ∷ index ∷ basis)) × IsBasisOf columns rows index basis
wide_back system columns rows r f =
    let a = number_back system system (wide_fields columns rows) r.numbers f.1 in
    let w = wide_numbers columns rows a.1 a.4 in
    let same : pos a.0 ≡ pos system = ap pos (omega (arith, a.3.0, a.3.1)) in
    (w.0, w.1, record_is r (codes "wide" ∷ []) (map pos (system ∷ w.0 ∷ w.1)) f.0 (a.2 ∙ ap₂ (λ (x : ℤ) (xs : List ℤ). x ∷ xs) same w.2), w.3)

pub wide_fits : (system columns rows index : ℕ) (basis : List ℕ) → IsBasisOf columns rows index basis → Fits (wide_form system columns rows) (small_record (codes "wide") (system ∷ index ∷ basis))
wide_fits system columns rows index basis b =
    (refl, number_then system system system (wide_fields columns rows) (map pos (index ∷ basis)) (omega arith) (omega arith) (wide_numbers_fit columns rows index basis b))

-- ---- nodes

-- what a node that is no fork has to show at its prefix
abbrev pub IsGood : Net → List Bool → Node → Type 0
IsGood net prefix Forks = ⊥
IsGood net prefix (IsBadBy r) = IsBad net prefix r
IsGood net prefix (HasLaw x) = IsSemiLaw net x × IsZeroOutside prefix x
IsGood net prefix Voids = IsVoid net prefix

pub leaf_back : (net : Net) (prefix : List Bool) (n : ℕ) (node : Node) (ls : List (List ℕ)) (y : ℕ) → IsWrittenBy (leaf net prefix n node >>= (λ x. Give (n + 1))) ls y → IsGood net prefix node × (ls ≡ [])
unfolding IsWrittenBy
leaf_back net prefix n Forks ls y w = absurd w.1
leaf_back net prefix n (IsBadBy r) ls y w = (w.1, w.2.1)
leaf_back net prefix n (HasLaw x) ls y w = (w.1, w.2.1)
leaf_back net prefix n Voids ls y w = (w.1, w.2.1)

pub leaf_on : (net : Net) (prefix : List Bool) (n : ℕ) (node : Node) → IsGood net prefix node → IsWrittenBy (leaf net prefix n node >>= (λ x. Give (n + 1))) [] (n + 1)
unfolding IsWrittenBy
leaf_on net prefix n Forks g = absurd g
leaf_on net prefix n (IsBadBy r) g = (tt, g, (refl, refl))
leaf_on net prefix n (HasLaw x) g = (tt, g, (refl, refl))
leaf_on net prefix n Voids g = (tt, g, (refl, refl))

-- a tree without children, of this one record
pub record IsLeafOf (net : Net) (r : Record) (tree : Plan) : Type 0 where
  pub formed : (chosen : ℕ) → IsFormedTree net chosen tree
  pub records : tree_records tree ≡ r ∷ []
  pub valid : (prefix : List Bool) → IsGood net prefix (node_of r) → IsValidTree net prefix tree
  pub apart : node_of r ≢ Forks

-- a node's record is a fork's, or that of a tree without children
abbrev pub IsNode : Net → Record → Type 0
IsNode net r = (r ≡ one_word (codes "fork") []) ⊎ ((tree : Plan) × IsLeafOf net r tree)

pub node_back : (net : Net) (r : Record) → IsOneOf (node_forms net) r → IsNode net r
node_back net r (form, inl e, f) = inl (bare_back (codes "fork") r (subst (λ (x : Form). Fits x r) e f))
node_back net r (form, inr (inl e), f) =
    let b = one_back (codes "bad") 1 (length net.reactions) r (subst (λ (x : Form). Fits x r) e f) in
    inr (Bad b.0, subst (λ (q : Record). IsLeafOf net q (Bad b.0)) (sym b.1) (record { formed = λ chosen. b.2; records = refl; valid = λ prefix g. g; apart = λ e. cc }))
node_back net r (form, inr (inr (inl e)), f) =
    let b = free_row (codes "law") (length net.names) r (subst (λ (x : Form). Fits x r) e f) in
    inr (Law r.numbers, subst (λ (q : Record). IsLeafOf net q (Law r.numbers)) (sym b.0) (record { formed = λ chosen. b.1; records = refl; valid = λ prefix g. g; apart = λ e. cc }))
node_back net r (form, inr (inr (inr (inl e))), f) =
    inr (Void, subst (λ (q : Record). IsLeafOf net q Void) (sym (bare_back (codes "void") r (subst (λ (x : Form). Fits x r) e f))) (record { formed = λ chosen. tt; records = refl; valid = λ prefix g. g; apart = λ e. cc }))
node_back net r (form, inr (inr (inr (inr none))), f) = absurd none

-- ---- bounds

pub marks_row : (net : Net) → IsNetwork net → IsBounded (small_form (codes "siphon") (length net.names) 0 1)
marks_row net n = small_bounded (codes "siphon") (length net.names) 0 1 refl (species_few net n) (omega arith) (omega arith)

pub bad_row : (net : Net) → IsNetwork net → IsBounded (small_form (codes "bad") 1 1 (length net.reactions))
bad_row net n = small_bounded (codes "bad") 1 1 (length net.reactions) refl (omega arith) (omega arith) (omega (arith, reactions_few net n))

pub spent_row : IsBounded (small_form (codes "spent") 1 1 MAX_BUDGET)
spent_row = small_bounded (codes "spent") 1 1 MAX_BUDGET refl (omega arith) (omega arith) (omega arith)

pub wide_row : (system columns rows : ℕ) → system ≤ 2 → columns ≤ 240 → rows ≤ 240 → IsBounded (wide_form system columns rows)
wide_row system columns rows s c r = record { words = refl; few = omega (arith, c); fields = ((omega (arith, s), omega (arith, s)), ((omega arith, omega (arith, c, r)), (omega (arith, c, r), tt))) }

pub wide_first : (net : Net) → IsNetwork net → IsBounded (wide_form 1 (length net.names) (length net.reactions))
wide_first net n = wide_row 1 (length net.names) (length net.reactions) (omega arith) (omega (arith, n.partial.species_limit)) (omega (arith, n.partial.reactions_limit))

pub wide_second : (net : Net) → IsNetwork net → IsBounded (wide_form 2 (length net.reactions) (length net.names))
wide_second net n = wide_row 2 (length net.reactions) (length net.names) (omega arith) (omega (arith, n.partial.reactions_limit)) (omega (arith, n.partial.species_limit))
