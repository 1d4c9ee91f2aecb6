-- The weights of multipliers at the coordinates of a part, and when they rule the part of a prefix out.
use Rattle.crn_ctree.proofs.Prelude.{◌≡◌, ◌≢◌, ℕ, ◌+◌, ◌-◌, ◌<◌, ◌≤◌, inl, inr, List, ◌++◌, length, map, get_or, drop, replicate, true, refl, sym, ap, subst, ◌∙◌, arith, ℤ, pos, neg_ℤ, ◌↔◌, range_with_len, get_or_append_left, get_or-append_right, length-map, length-append, length-replicate, get_or-map-range_with_len, length-range_with_len, Sign, Kind, Free, ZeroKind, Net, IsNetwork, reaction_vector, reaction_system, Mat, dot, entry, column, InDualSpace, width, AreRuling, IsCut, MayWeigh, is_signed, kind_at, column_kind, row_kinds, kinds_a_of, kinds_b_of, zip_from, kinds_at, weights_decide_cuts, networks_have_tables, lt_or, past_end, rows_count, length-rows, drop_seam, AreFree, problem_of, table_of, InfluenceTable, Problem, Concordance, Signals, Part, A, B, kinds_of, matrix_of, weights_of}
use Rattle.crn_ctree.proofs.KindLaws.{part_b_is, table_long}

-- ---- the weights

-- the weight at a column
abbrev column_weight : Mat → List ℤ → ℕ → ℤ
column_weight a u j = neg_ℤ (dot u (column a.rows j))

columns_long : (a : Mat) (u : List ℤ) → length (map (column_weight a u) (range_with_len 0 a.cols)) ≡ a.cols
columns_long a u = length-map (range_with_len 0 a.cols) (column_weight a u) ∙ length-range_with_len 0 a.cols

pub weight_left : (a : Mat) (u : List ℤ) (k : ℕ) → k < a.cols → neg_ℤ (dot u (column a.rows k)) ≡ entry (weights_of a u) k
weight_left a u k lt =
    sym (get_or-map-range_with_len (column_weight a u) 0 a.cols k k (pos 0) lt (omega arith))
    ∙ sym (get_or_append_left (map (column_weight a u) (range_with_len 0 a.cols)) u (pos 0) k (omega (arith, lt, columns_long a u)))

pub weight_right : (a : Mat) (u : List ℤ) (k : ℕ) → a.cols ≤ k → entry u (k - a.cols) ≡ entry (weights_of a u) k
weight_right a u k le = sym (get_or-append_right (map (column_weight a u) (range_with_len 0 a.cols)) u a.cols k (pos 0) (columns_long a u) le)

-- ---- they are (-uA, u)

pub weights_long : (a : Mat) (u : List ℤ) → length u ≡ length a.rows → length (weights_of a u) ≡ width a
weights_long a u e = omega (arith, e, columns_long a u, length-append (map (column_weight a u) (range_with_len 0 a.cols)) u)

weights_end : (a : Mat) (u : List ℤ) → drop a.cols (weights_of a u) ≡ u
weights_end a u =
    let before = map (column_weight a u) (range_with_len 0 a.cols) in
    ap (λ (n : ℕ). drop n (before ++ u)) (sym (columns_long a u)) ∙ drop_seam before u

weights_dual : (a : Mat) (u : List ℤ) → length u ≡ length a.rows → InDualSpace a (weights_of a u)
weights_dual a u e = record {
  long = weights_long a u e;
  is = λ j lt. sym (weight_left a u j lt) ∙ ap (λ (v : List ℤ). neg_ℤ (dot v (column a.rows j))) (sym (weights_end a u));
}

-- ---- the columns of system 2

pub reaction_column : (net : Net) → IsNetwork net → (r : ℕ) → r < length net.reactions → reaction_vector net (get_or net.reactions r (0, 0)) ≡ column (reaction_system net).rows r
reaction_column net n r lt =
    let s = (networks_have_tables net n).columns in
    sym (s.columns r (omega (arith, lt, s.reactions)))

-- ---- there is a kind for each coordinate

pub table_kinds_long : (net : Net) (table : InfluenceTable) (p : List Sign) → length (kinds_a_of (reaction_system net) (table_of net table) p) ≡ width (reaction_system net)
table_kinds_long net table p =
    let m = reaction_system net in
    let signs = table_of net table in
    omega (arith, rows_count net, table_long net table, length-map signs (λ ss. column_kind ss p), length-append (map (λ ss. column_kind ss p) signs) (replicate (length m.rows) ZeroKind), length-replicate (length m.rows) ZeroKind)

pub row_kinds_long : (m : Mat) (p : List Sign) → length (kinds_b_of m p) ≡ width m
row_kinds_long m p = omega (arith, length-append (replicate m.cols Free) (row_kinds (length m.rows) p), length-replicate m.cols Free, length-rows (length m.rows) p)

-- ---- the system of a part

-- the two cases of a part
part_cases : (net : Net) (problem : Problem) (part : Part) → part ≡ B → matrix_of net problem part ≡ reaction_system net
part_cases net problem part e = ap (λ (q : Part). matrix_of net problem q) e ∙ part_b_is net problem

of_table : (net : Net) (table : InfluenceTable) (part : Part) → reaction_system net ≡ matrix_of net (Concordance table) part
of_table net table A = refl
of_table net table B = refl

table_kinds_of : (net : Net) (table : InfluenceTable) (part : Part) (p : List Sign) → length (kinds_of net (Concordance table) part p) ≡ width (reaction_system net)
table_kinds_of net table A p = table_kinds_long net table p
table_kinds_of net table B p = row_kinds_long (reaction_system net) p

pub table_system : (net : Net) (problem : Problem) (part : Part) {table : InfluenceTable} → problem ≡ Concordance table → reaction_system net ≡ matrix_of net problem part
table_system net problem part {table} e = of_table net table part ∙ ap (λ (q : Problem). matrix_of net q part) (sym e)

pub table_kinds : (net : Net) (problem : Problem) (part : Part) (p : List Sign) {table : InfluenceTable} → problem ≡ Concordance table → length (kinds_of net problem part p) ≡ width (reaction_system net)
table_kinds net problem part p {table} e = ap (λ (q : Problem). length (kinds_of net q part p)) e ∙ table_kinds_of net table part p

pub part_system_b : (net : Net) (problem : Problem) (part : Part) → part ≡ B → reaction_system net ≡ matrix_of net problem part
part_system_b net problem part e = sym (part_cases net problem part e)

b_kinds : (net : Net) (problem : Problem) (p : List Sign) → length ((problem_of net problem).kinds_b p) ≡ width (reaction_system net)
b_kinds net (Concordance table) p = row_kinds_long (reaction_system net) p
b_kinds net (Signals shape) p = row_kinds_long (reaction_system net) (drop shape.now.count p)

pub kinds_b : (net : Net) (problem : Problem) (part : Part) (p : List Sign) → part ≡ B → length (kinds_of net problem part p) ≡ width (reaction_system net)
kinds_b net problem part p e = ap (λ (q : Part). length (kinds_of net problem q p)) e ∙ b_kinds net problem p

-- multipliers of system 2
pub free_by : (net : Net) (u : List ℤ) → AreFree (length (reaction_system net).rows) u → AreFree (length net.names) u
free_by net u h = record { long = h.long ∙ rows_count net; each = h.each }

-- ---- coordinate by coordinate

-- each of the first n coordinates may have its weight
abbrev pub MayWeighTo : List Kind → List ℤ → ℕ → Type 0
MayWeighTo kinds w n = (j : ℕ) → j < n → MayWeigh (kind_at kinds j) (entry w j)

-- one of the first n coordinates has to be positive or negative and has a weight
abbrev pub CountsTo : List Kind → List ℤ → ℕ → Type 0
CountsTo kinds w n = (j : ℕ) × (j < n) × (is_signed (kind_at kinds j) ≡ true) × (entry w j ≢ pos 0)

pub may_next : (kinds : List Kind) (w : List ℤ) (n : ℕ) → MayWeighTo kinds w n → MayWeigh (kind_at kinds n) (entry w n) → MayWeighTo kinds w (n + 1)
may_next kinds w n h m j lt = elim (lt_or j n) as (λ _. MayWeigh (kind_at kinds j) (entry w j)) [
  | inl below ↦ h j below
  | inr above ↦ let e : n ≡ j = omega (arith, lt, above) in subst (λ (i : ℕ). MayWeigh (kind_at kinds i) (entry w i)) e m
]

pub counts_more : (kinds : List Kind) (w : List ℤ) (n : ℕ) → CountsTo kinds w n → CountsTo kinds w (n + 1)
counts_more kinds w n h = (h.0, omega (arith, h.1), h.2, h.3)

pub counts_here : (kinds : List Kind) (w : List ℤ) (n : ℕ) {κ : Kind} → kind_at kinds n ≡ κ → is_signed κ ≡ true → entry w n ≢ pos 0 → CountsTo kinds w (n + 1)
counts_here kinds w n e s some = (n, omega arith, ap is_signed e ∙ s, some)

-- the last of them counts, or one before it does
pub counts_last : (kinds : List Kind) (w : List ℤ) (n : ℕ) {κ : Kind} → kind_at kinds n ≡ κ → CountsTo kinds w (n + 1) → ((is_signed κ ≡ true) × (entry w n ≢ pos 0) → ⊥) → CountsTo kinds w n
counts_last kinds w n same h not = elim (lt_or h.0 n) as (λ _. CountsTo kinds w n) [
  | inl below ↦ (h.0, below, h.2, h.3)
  | inr above ↦
      let e : h.0 ≡ n = omega (arith, h.1, above) in
      let last = subst (λ (i : ℕ). (is_signed (kind_at kinds i) ≡ true) × (entry w i ≢ pos 0)) e (h.2, h.3) in
      absurd (not (ap is_signed (sym same) ∙ last.0, last.1))
]

-- ---- cuts

cut_decides : (a : Mat) (kinds : List Kind) (u : List ℤ) → length u ≡ length a.rows → IsCut a kinds u ↔ AreRuling kinds (weights_of a u)
cut_decides a kinds u e = weights_decide_cuts a kinds u (weights_of a u) (weights_dual a u e) (weights_end a u)

pub cut_from : (a : Mat) (kinds : List Kind) (u : List ℤ) (n : ℕ) → length u ≡ length a.rows → length kinds ≡ width a → n ≡ width a → MayWeighTo kinds (weights_of a u) n → CountsTo kinds (weights_of a u) n → IsCut a kinds u
cut_from a kinds u n e long f h some =
    (cut_decides a kinds u e).1 (zip_from MayWeigh Free (pos 0) kinds (weights_of a u) (weights_long a u e ∙ sym long) (λ k lt. h k (omega (arith, lt, long, f))), (some.0, some.2, some.3))

pub cut_weighs : (a : Mat) (kinds : List Kind) (u : List ℤ) → length u ≡ length a.rows → IsCut a kinds u → (k : ℕ) → MayWeigh (kind_at kinds k) (entry (weights_of a u) k)
cut_weighs a kinds u e cut = kinds_at MayWeigh kinds (weights_of a u) refl ((cut_decides a kinds u e).0 cut).0

pub cut_counts : (a : Mat) (kinds : List Kind) (u : List ℤ) (n : ℕ) → length u ≡ length a.rows → n ≡ width a → IsCut a kinds u → CountsTo kinds (weights_of a u) n
cut_counts a kinds u n e f cut =
    let some = ((cut_decides a kinds u e).0 cut).1 in
    elim (lt_or some.0 n) as (λ _. CountsTo kinds (weights_of a u) n) [
      | inl below ↦ (some.0, below, some.1, some.2)
      | inr above ↦ absurd (some.2 (past_end (weights_of a u) some.0 (omega (arith, above, f, weights_long a u e))))
    ]
