-- The lists of the cuts of formed answers may be shared.
use Rattle.crn_ctext.proofs.Prelude.{◌≤◌, ◌+◌, ◌++◌, ℕ, List, [], ◌∷◌, length, refl, sym, subst, inl, inr, arith, slice_index_or, AllByRecursion, range_with_len, length-range_with_len, Net, IsNetwork, Sign, Zero, Plus, Minus, all_append, some_species, inside_at, reaction_in, filter_few, MAX_NUMBERS, Proof, AreFree, Plan, Both, Three, RulesA, RulesB, Level, IsFormedTree, cuts_of, cuts_in, Earlier, Q2, on, terminal_of, ends_at, is_within_terminal, is_least_of_pair, pair_places}
use Rattle.std.proofs.Common.{ℤ}
use Rattle.std.specs.Prelude.{◌&&◌}
use Rattle.crn_cert.specs.Shares.{IsShareable}
use Rattle.crn_ctext.proofs.TablesLinked.{IsTreeOrNone}
use Rattle.crn_ctext.proofs.SignalLinked.{HasSignalTrees}

-- ---- species

pub few_species : (net : Net) → IsNetwork net → length net.names ≤ MAX_NUMBERS
few_species net n = let h = n.partial in let few = h.species_limit in omega (arith, few)

-- ---- cuts

shareable : (n most : ℕ) (u : List ℤ) → 1 ≤ n → n ≤ most → AreFree n u → IsShareable most u
shareable n most u some few f = let long = f.long in let each = f.each in record { some = omega (arith, some, long); few = omega (arith, few, long); narrow = each }

-- as many numbers as a line may hold, and at least one
abbrev FitsLine : ℕ → ℕ → Type 0
FitsLine most n = (1 ≤ n) × (n ≤ most)

-- the cuts of a formed tree
formed_cuts : (c a b most : ℕ) (p : List Sign) (t : Plan) → FitsLine most a → FitsLine most b → IsFormedTree c a b p t → AllByRecursion (IsShareable most) (cuts_of t)
formed_cuts c a b most p (Both z q) i j f = all_append (IsShareable most) (cuts_of z) (cuts_of q) (formed_cuts c a b most (p ++ Zero ∷ []) z i j f.2) (formed_cuts c a b most (p ++ Plus ∷ []) q i j f.3)
formed_cuts c a b most p (Three z q m) i j f =
    all_append (IsShareable most) (cuts_of z ++ cuts_of q) (cuts_of m) (all_append (IsShareable most) (cuts_of z) (cuts_of q) (formed_cuts c a b most (p ++ Zero ∷ []) z i j f.2) (formed_cuts c a b most (p ++ Plus ∷ []) q i j f.3))
    (formed_cuts c a b most (p ++ Minus ∷ []) m i j f.4)
formed_cuts c a b most p (RulesA u) i j f = (shareable a most u i.0 i.1 f, tt)
formed_cuts c a b most p (RulesB u) i j f = (shareable b most u j.0 j.1 f, tt)
formed_cuts c a b most p Level i j f = tt

species_fit : (net : Net) → IsNetwork net → FitsLine MAX_NUMBERS (length net.names)
species_fit net n = (some_species net n, few_species net n)

-- the cuts of the one tree, if there is one
pub one_tree_cuts : (net : Net) (p : Proof) → IsNetwork net → IsTreeOrNone net p → AllByRecursion (IsShareable MAX_NUMBERS) (cuts_in p)
one_tree_cuts net p n (inl none) = subst (λ (x : Proof). AllByRecursion (IsShareable MAX_NUMBERS) (cuts_in x)) (sym none) tt
one_tree_cuts net p n (inr t) = subst (λ (x : Proof). AllByRecursion (IsShareable MAX_NUMBERS) (cuts_in x)) (sym t.1) (formed_cuts (length net.names) (length net.names) (length net.names) MAX_NUMBERS [] _ (species_fit net n) (species_fit net n) t.2)

-- a network has a complex, and no more complexes and pairs than a line may have numbers
shelf_fit : (net : Net) (earlier : Earlier) → IsNetwork net → FitsLine MAX_NUMBERS (length net.complexes + length (pair_places net earlier))
shelf_fit net earlier n =
    let h = n.partial in
    let some = n.some in
    let complexes = h.complexes_limit in
    let reactions = h.reactions_limit in
    let first = slice_index_or net.reactions 0 (0, 0) in
    let ends = inside_at (length net.complexes) net.reactions h.apart first.0 first.1 (reaction_in net.reactions 0 (first.0, first.1) (omega (arith, some)) refl) in
    let few = filter_few (λ (r : ℕ). is_within_terminal earlier (ends_at net r) && is_least_of_pair net r) (range_with_len 1 (length net.reactions)) in
    (omega (arith, ends.0), omega (arith, complexes, reactions, few, length-range_with_len 1 (length net.reactions)))

-- the cuts of the trees of an answer on signals
pub signal_cuts : (net : Net) (earlier : Earlier) (p : Proof) → IsNetwork net → HasSignalTrees net earlier p → AllByRecursion (IsShareable MAX_NUMBERS) (cuts_in p)
signal_cuts net earlier p n (inl none) = subst (λ (x : Proof). AllByRecursion (IsShareable MAX_NUMBERS) (cuts_in x)) (sym none) tt
signal_cuts net earlier p n (inr (inl t)) =
    subst (λ (x : Proof). AllByRecursion (IsShareable MAX_NUMBERS) (cuts_in x)) (sym t.1) (formed_cuts (terminal_of (on earlier Q2) + length net.names) (length net.complexes + length (pair_places net earlier)) (length net.names) MAX_NUMBERS [] _ (shelf_fit net earlier n) (species_fit net n) t.3)
signal_cuts net earlier p n (inr (inr t)) =
    let c = terminal_of (on earlier Q2) + length net.names in
    let a = length net.complexes + length (pair_places net earlier) in
    let b = length net.names in
    subst (λ (x : Proof). AllByRecursion (IsShareable MAX_NUMBERS) (cuts_in x)) (sym t.2) (all_append (IsShareable MAX_NUMBERS) (cuts_of t.0) (cuts_of t.1)
    (formed_cuts c a b MAX_NUMBERS [] t.0 (shelf_fit net earlier n) (species_fit net n) t.4) (formed_cuts c a b MAX_NUMBERS [] t.1 (shelf_fit net earlier n) (species_fit net n) t.5))
