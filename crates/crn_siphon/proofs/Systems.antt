-- The system of a set of species: its kinds, what its solutions increase, and the laws that its cuts are.
use Rattle.crn_siphon.proofs.Prelude.{◌≡◌, ℕ, zero, suc, ◌+◌, ◌-◌, ◌<◌, ◌≤◌, inl, inr, Bool, true, false, List, [], ◌∷◌, ◌++◌, length, map, get_or, take, drop, refl, sym, ap, subst, ◌∙◌, arith, ℤ, pos, neg_ℤ, ◌≤ℤ◌, replicate, get_or-append, ints, false≢true, cases_Bool, get_or-replicate, length-replicate, get_or-append_right, get_or-drop, length-drop, length-append, length-map, Kind, Free, Net, IsNetwork, Mat, entry, dot, column, width, combination_at, vectors, HasKind, MayWeigh, is_signed, kind_at, signed_count, reaction_system, kinds_at, lt_or, all_given, row_is, rows_count, column_is, vectors_count, dot-comm, AreFree, IsNarrow, IsDecision, IsSmallCut, IsSmallSolution, Decision, solution_free, SpeciesSet, Has, members, change_kind, siphon_kinds, AreIncreased, IsLawIn, IsCoverIn}
use Rattle.crn_siphon.proofs.SetLaws.{length-members, member_has, has_member}

-- ---- kinds

-- the part of the kinds that the species have
abbrev row_kinds : Net → SpeciesSet → List Kind
row_kinds net set = map change_kind (members set (length net.names))

rows_long : (net : Net) (set : SpeciesSet) → length (row_kinds net set) ≡ length net.names
rows_long net set = length-map (members set (length net.names)) change_kind ∙ length-members set (length net.names)

pub kinds_long : (net : Net) (set : SpeciesSet) → length (siphon_kinds net set) ≡ width (reaction_system net)
kinds_long net set = omega (arith, length-append (replicate (length net.reactions) Free) (row_kinds net set), length-replicate (length net.reactions) Free, rows_long net set, rows_count net)

column_free : (net : Net) (set : SpeciesSet) (j : ℕ) → j < length net.reactions → kind_at (siphon_kinds net set) j ≡ Free
column_free net set j lt =
    get_or-append (replicate (length net.reactions) Free) (row_kinds net set) Free j (omega (arith, lt, length-replicate (length net.reactions) Free))
    ∙ get_or-replicate (length net.reactions) j Free Free lt

mapped : (p : List Bool) (s : ℕ) → get_or (map change_kind p) s Free ≡ change_kind (get_or p s false)
mapped [] s = refl
mapped (b ∷ p) zero = refl
mapped (b ∷ p) (suc s) = mapped p s

row_kind : (net : Net) (set : SpeciesSet) (s : ℕ) → kind_at (siphon_kinds net set) (length net.reactions + s) ≡ change_kind (get_or (members set (length net.names)) s false)
row_kind net set s =
    get_or-append_right (replicate (length net.reactions) Free) (row_kinds net set) (length net.reactions) (length net.reactions + s) Free (length-replicate (length net.reactions) Free) (omega arith)
    ∙ ap (λ (k : ℕ). get_or (row_kinds net set) k Free) (omega arith)
    ∙ mapped (members set (length net.names)) s

few_rows : (p : List Bool) → signed_count (map change_kind p) ≤ length p
few_rows [] = omega arith
few_rows (true ∷ p) = omega (arith, few_rows p)
few_rows (false ∷ p) = omega (arith, few_rows p)

few_after : (m : ℕ) (kinds : List Kind) → signed_count (replicate m Free ++ kinds) ≡ signed_count kinds
few_after zero kinds = refl
few_after (suc m) kinds = omega (arith, few_after m kinds)

-- no more coordinates have to be positive than there are species
pub few_signed : (net : Net) (set : SpeciesSet) → signed_count (siphon_kinds net set) ≤ length net.names
few_signed net set = omega (arith, few_after (length net.reactions) (row_kinds net set), few_rows (members set (length net.names)), length-members set (length net.names))

-- a coordinate that has to be positive is a species
signed_row : (net : Net) (set : SpeciesSet) (k : ℕ) → is_signed (kind_at (siphon_kinds net set) k) ≡ true → length net.reactions ≤ k
signed_row net set k e = elim (lt_or k (length net.reactions)) as (λ _. length net.reactions ≤ k) [
  | inl lt ↦ absurd (false≢true (sym (ap is_signed (column_free net set k lt)) ∙ e))
  | inr le ↦ le
]

-- what a decision on the system of the set shows
pub decided : (net : Net) (set : SpeciesSet) (m : Mat) (kinds : List Kind) (d e : Decision) → m ≡ reaction_system net → kinds ≡ siphon_kinds net set → IsDecision m kinds d → d ≡ e → IsDecision (reaction_system net) (siphon_kinds net set) e
decided net set m kinds d e same is h on = subst (λ (x : Decision). IsDecision (reaction_system net) (siphon_kinds net set) x) on (subst (λ (a : Mat). IsDecision a (siphon_kinds net set) d) same (subst (λ (ks : List Kind). IsDecision m ks d) is h))

-- ---- solutions

-- a solution increases each member
solution_increases : (net : Net) (set : SpeciesSet) (x : List ℤ) → IsNetwork net → IsSmallSolution (reaction_system net) (siphon_kinds net set) x → AreIncreased net set x
solution_increases net set x n s =
    let v = s.v in
    let columns : take (length net.reactions) v ≡ x = s.solves.columns in
    let has : (k : ℕ) → HasKind (kind_at (siphon_kinds net set) k) (entry v k) = kinds_at HasKind (siphon_kinds net set) v tt s.solves.each in
    λ t lt h.
    let positive : pos 1 ≤ℤ entry v (length net.reactions + t) = subst (λ (κ : Kind). HasKind κ (entry v (length net.reactions + t))) (row_kind net set t ∙ ap change_kind (has_member set (length net.names) t lt h)) (has (length net.reactions + t)) in
    let is : entry v (length net.reactions + t) ≡ combination_at x (vectors net) t =
    s.solves.space.is t (omega (arith, lt, rows_count net)) ∙ ap (λ (l : List ℤ). dot (get_or (reaction_system net).rows t []) l) columns
    ∙ ap (λ (row : List ℤ). dot row x) (row_is net t lt) ∙ dot-comm (column (vectors net) t) x in
    subst (λ (y : ℤ). pos 1 ≤ℤ y) is positive

-- and its numbers are those of a certificate
solution_formed : (net : Net) (set : SpeciesSet) (x : List ℤ) → IsSmallSolution (reaction_system net) (siphon_kinds net set) x → AreFree (length net.reactions) x
solution_formed net set x s = solution_free (reaction_system net) (siphon_kinds net set) x s

-- so it covers the set
pub solution_covers : (net : Net) (set : SpeciesSet) (x : List ℤ) → IsNetwork net → IsSmallSolution (reaction_system net) (siphon_kinds net set) x → IsCoverIn net set x
solution_covers net set x n s = record { free = solution_formed net set x s; increased = solution_increases net set x n s }

-- ---- cuts

pub cut_is_law : (net : Net) (set : SpeciesSet) (u : List ℤ) → IsNetwork net → IsSmallCut (reaction_system net) (siphon_kinds net set) u → IsLawIn net set u
cut_is_law net set u n c =
    let w = c.cut.0 in
    let rules = c.cut.1 in
    let cols = length net.reactions in
    let m = members set (length net.names) in
    let rows : drop cols w ≡ u = rules.rows in
    let may : (k : ℕ) → MayWeigh (kind_at (siphon_kinds net set) k) (entry w k) = kinds_at MayWeigh (siphon_kinds net set) w refl rules.each in
    let long : length u ≡ length net.names = ap (λ (l : List ℤ). length l) (sym rows) ∙ omega (arith, length-drop cols w, rules.space.long, rows_count net) in
    let at : (s : ℕ) → entry u s ≡ entry w (cols + s) = λ s. ap (λ (l : List ℤ). entry l s) (sym rows) ∙ get_or-drop cols w s (pos 0) in
    let weighs : (s : ℕ) → MayWeigh (change_kind (get_or m s false)) (entry u s) = λ s. subst (λ (y : ℤ). MayWeigh (change_kind (get_or m s false)) y) (sym (at s)) (subst (λ (κ : Kind). MayWeigh κ (entry w (cols + s))) (row_kind net set s) (may (cols + s))) in
    let k = rules.some.0 in
    let past : cols ≤ k = signed_row net set k rules.some.1 in
    record {
      free = record { long = long; each = all_given IsNarrow u (pos 0) (λ s lt. omega (arith, c.small s)) };
      law = record {
        long = long;
        weights = all_given (λ y. pos 0 ≤ℤ y) u (pos 0) (λ s lt. weigh (get_or m s false) (entry u s) (weighs s));
        some = (k - cols, λ e. rules.some.2 (ap (λ (j : ℕ). entry w j) (omega (arith, past)) ∙ sym (at (k - cols)) ∙ e));
        conserved = all_given (λ v. dot u v ≡ pos 0) (vectors net) [] (λ r lt.
            let l : r < cols = omega (arith, lt, vectors_count net) in
            let zero_there : entry w r ≡ pos 0 = subst (λ (κ : Kind). MayWeigh κ (entry w r)) (column_free net set r l) (may r) in
            let is : entry w r ≡ neg_ℤ (dot u (column (reaction_system net).rows r)) = rules.space.is r l ∙ ap (λ (x : List ℤ). neg_ℤ (dot x (column (reaction_system net).rows r))) rows in
            let nought : dot u (column (reaction_system net).rows r) ≡ pos 0 = omega (arith, ints, zero_there, is) in
            ap (λ (v : List ℤ). dot u v) (sym (column_is net n r l)) ∙ nought);
      };
      within = λ s some. elim (cases_Bool (get_or m s false)) as (λ _. Has set s) [
        | inl is ↦ member_has set (length net.names) s is
        | inr none ↦ absurd (some (subst (λ (b : Bool). MayWeigh (change_kind b) (entry u s)) none (weighs s)))
      ];
    }
  where
    weigh : (b : Bool) (y : ℤ) → MayWeigh (change_kind b) y → pos 0 ≤ℤ y
    weigh true y h = h
    weigh false y h = omega (arith, ints, h)
