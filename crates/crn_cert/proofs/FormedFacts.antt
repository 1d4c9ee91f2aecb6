-- What the block of a formed answer tells of its proof: proofs of ranks, sides, and trees.
use Rattle.crn_cert.proofs.Prelude.{◌≡◌, Bool, true, false, ℕ, List, [], ◌∷◌, length, refl, sym, ap, subst, ℤ, min, codes, IsSome, AllZip, range_with_len, KeptInts, KeptNums, Net, Verdict, Rank, Deficiency, Yes, YesVec, OnlyZero, Proof, Nothing, RankRows, Ranks, Sides, Ties, One, Two, RankProof, Earlier, Question, Q4, Q5, Q6, Q11, Q12, on, is_yes, has_vector, vector_given, IsYes, Plan, linkage_count, pair_places, IsFrom, AreFrom, AreFree, AreFreeRows, IsRankProof, AreClassProofs, AreSides, AreSignalTrees, TreeRow, one_or_two, signal_tree, sizes_of, FitsTree, proof_by, tight_proof, IsFormedOf}
use Rattle.std.specs.Prelude.{◌+◌, ◌-◌}
use Rattle.crn_cert.specs.Blocks.{trees_of}
use Rattle.crn_cert.proofs.BlockRows.{ranks_there, ranks_back, rank_again, classes_there, classes_back, classes_again, duals_counted, sides_there, sides_back, sides_again, free_back, list_back}

-- ---- answers without a proof

-- if no tree is due, a proof by trees is nothing
is_nothing : (p : Proof) → AllZip FitsTree [] (trees_of p) → proof_by (trees_of p) ≡ tight_proof p → p ≡ Nothing
is_nothing Nothing t e = refl
is_nothing (One tree) t e = absurd t
is_nothing (Two tree second) t e = absurd t
is_nothing p t e = absurd cc

pub bare_formed : (net : Net) (earlier : Earlier) (q : Question) (v : Verdict) (p : Proof) → AllZip FitsTree [] (trees_of p) → proof_by (trees_of p) ≡ tight_proof p → IsFormedOf net earlier q v p → IsFormedOf net earlier q v Nothing
bare_formed net earlier q v p t e f = subst (λ (x : Proof). IsFormedOf net earlier q v x) (is_nothing p t e) f

-- ---- ranks

abbrev base_in : Verdict → List ℕ
base_in (Rank rank base) = base.list
base_in other = []

abbrev duals_in : Proof → List (List ℤ)
duals_in (RankRows p) = p.duals
duals_in other = []

abbrev ranks_in : Proof → List RankProof
ranks_in (Ranks list) = list
ranks_in other = []

pub same_base : (net : Net) (earlier : Earlier) (rank : ℕ) (base : KeptNums) (p : RankProof) → IsFormedOf net earlier Q5 (Rank rank base) (RankRows p) → base.list ≡ p.base.list
same_base net earlier rank base p f = sym (ap base_in f.1.0)

pub rank_formed : (net : Net) (earlier : Earlier) (rank : ℕ) (base : KeptNums) (p : RankProof) → IsFormedOf net earlier Q5 (Rank rank base) (RankRows p) → IsRankProof net (range_with_len 1 (length net.reactions)) rank p
rank_formed net earlier rank base p f =
    let species = length net.names in
    let members = range_with_len 1 (length net.reactions) in
    ranks_there species members rank net p (duals_counted species rank members p f.0.rows (ap duals_in f.1.1)) refl f.0.rows

pub classes_formed : (net : Net) (earlier : Earlier) (total : ℕ) (classes : KeptNums) (list : List RankProof) → IsFormedOf net earlier Q6 (Deficiency total classes) (Ranks list) → AreClassProofs net earlier 1 classes.list list
classes_formed net earlier total classes list f = classes_there net earlier 1 classes.list list f.0.rows (ap ranks_in f.1.1)

pub rank_is_formed : (net : Net) (earlier : Earlier) (rank : ℕ) (base : KeptNums) (p : RankProof) → IsFrom 1 (min (length net.names) (length net.reactions)) rank → base.list ≡ p.base.list
    → IsRankProof net (range_with_len 1 (length net.reactions)) rank p → IsFormedOf net earlier Q5 (Rank rank base) (RankRows p)
rank_is_formed net earlier rank base p from same f =
    let duals = f.duals in (
      record { head = (from, tt); rows = ranks_back (length net.names) (range_with_len 1 (length net.reactions)) rank net p refl f; trees = tt },
      (ap (λ (xs : List ℕ). Rank rank (record { list = xs; spare = 0 })) (sym same), ap RankRows (rank_again rank p duals.long)),
    )

pub classes_are_formed : (net : Net) (earlier : Earlier) (total : ℕ) (classes : KeptNums) (list : List RankProof) → IsFrom 0 (length net.complexes) total → AreFrom (linkage_count earlier) 0 (length net.complexes) classes.list
    → AreClassProofs net earlier 1 classes.list list → IsFormedOf net earlier Q6 (Deficiency total classes) (Ranks list)
classes_are_formed net earlier total classes list from each f =
    (record { head = ((from, each), tt); rows = classes_back net earlier 1 classes.list list f; trees = tt }, (refl, ap Ranks (classes_again net earlier 1 classes.list list f)))

-- ---- sides and ties

pub sides_formed : (net : Net) (earlier : Earlier) (sides : List (List ℤ)) → IsFormedOf net earlier Q11 Yes (Sides sides) → AreSides net (pair_places net earlier) sides
sides_formed net earlier sides f = sides_there (length net.complexes) net (pair_places net earlier) sides refl f.0.rows

pub sides_are_formed : (net : Net) (earlier : Earlier) (sides : List (List ℤ)) → AreSides net (pair_places net earlier) sides → IsFormedOf net earlier Q11 Yes (Sides sides)
sides_are_formed net earlier sides f =
    let pairs = pair_places net earlier in
    (record { head = tt; rows = sides_back (length net.complexes) net pairs sides refl f; trees = tt }, (refl, ap Sides (sides_again pairs sides f.long)))

pub vector_is_formed : (net : Net) (earlier : Earlier) (vector : KeptInts) (ties : List (List ℤ)) → AreFree (length net.complexes) vector.list → AreFreeRows (length net.complexes - 1) (length net.names + linkage_count earlier) ties → IsFormedOf net earlier Q12 (YesVec vector) (Ties ties)
vector_is_formed net earlier vector ties v f =
    (record { head = tt; rows = (v, free_back (codes "tie") (length net.complexes - 1) (length net.names + linkage_count earlier) ties f.long f.each); trees = tt }, (refl, ap Ties (list_back ties)))

pub zero_is_formed : (net : Net) (earlier : Earlier) (ties : List (List ℤ)) → AreFreeRows (length net.complexes) (length net.names + linkage_count earlier) ties → IsFormedOf net earlier Q12 OnlyZero (Ties ties)
zero_is_formed net earlier ties f =
    (record { head = tt; rows = free_back (codes "tie") (length net.complexes) (length net.names + linkage_count earlier) ties f.long f.each; trees = tt }, (refl, ap Ties (list_back ties)))

-- ---- the vector of question 12

pub vector_is_given : (v : Verdict) → IsSome (vector_given v) → has_vector v ≡ true
vector_is_given (YesVec vector) s = refl
vector_is_given v s = absurd cc

-- ---- trees

tree_there : (net : Net) (earlier : Earlier) (w : Verdict) (row : TreeRow) (tree : Plan) → AllZip FitsTree (one_or_two (is_yes w) row) (tree ∷ []) → (IsYes w → ⊥) × FitsTree row tree
tree_there net earlier Yes row tree f = absurd f.1
tree_there net earlier (YesVec vector) row tree f = absurd f.1
tree_there net earlier w row tree f = ((λ y. y), f.0)

trees_there : (net : Net) (earlier : Earlier) (w : Verdict) (row : TreeRow) (tree second : Plan) → AllZip FitsTree (one_or_two (is_yes w) row) (tree ∷ second ∷ []) → IsYes w × FitsTree row tree × FitsTree row second
trees_there net earlier Yes row tree second f = (tt, f.0, f.1.0)
trees_there net earlier (YesVec vector) row tree second f = (tt, f.0, f.1.0)
trees_there net earlier w row tree second f = absurd f.1

none_there : (b : Bool) (row : TreeRow) → AllZip FitsTree (one_or_two b row) [] → ⊥
none_there true row f = f
none_there false row f = f

-- the trees of a formed no on signals
pub signal_trees_formed : (net : Net) (earlier : Earlier) (p : Proof) → AllZip FitsTree (one_or_two (is_yes (on earlier Q4)) (signal_tree (sizes_of net earlier))) (trees_of p) → AreSignalTrees net earlier (trees_of p)
signal_trees_formed net earlier (One tree) f = tree_there net earlier (on earlier Q4) (signal_tree (sizes_of net earlier)) tree f
signal_trees_formed net earlier (Two tree second) f = trees_there net earlier (on earlier Q4) (signal_tree (sizes_of net earlier)) tree second f
signal_trees_formed net earlier p f = none_there (is_yes (on earlier Q4)) (signal_tree (sizes_of net earlier)) f

tree_back : (w : Verdict) (row : TreeRow) (tree : Plan) → (IsYes w → ⊥) → FitsTree row tree → AllZip FitsTree (one_or_two (is_yes w) row) (tree ∷ [])
tree_back Yes row tree n f = absurd (n tt)
tree_back (YesVec vector) row tree n f = absurd (n tt)
tree_back w row tree n f = (f, tt)

trees_back : (w : Verdict) (row : TreeRow) (tree second : Plan) → IsYes w → FitsTree row tree → FitsTree row second → AllZip FitsTree (one_or_two (is_yes w) row) (tree ∷ second ∷ [])
trees_back Yes row tree second y f g = (f, (g, tt))
trees_back (YesVec vector) row tree second y f g = (f, (g, tt))
trees_back w row tree second y f g = absurd y

-- such trees follow a no on signals
pub signal_trees_fit : (net : Net) (earlier : Earlier) (ts : List Plan) → AreSignalTrees net earlier ts → AllZip FitsTree (one_or_two (is_yes (on earlier Q4)) (signal_tree (sizes_of net earlier))) ts
signal_trees_fit net earlier (tree ∷ []) f = tree_back (on earlier Q4) (signal_tree (sizes_of net earlier)) tree f.0 f.1
signal_trees_fit net earlier (tree ∷ second ∷ []) f = trees_back (on earlier Q4) (signal_tree (sizes_of net earlier)) tree second f.0 f.1 f.2
signal_trees_fit net earlier ts f = absurd f
