-- The problem of a table keeps what every sign problem keeps.
use Rattle.crn_vec.proofs.Prelude.{◌≡◌, ℕ, zero, suc, ◌+◌, ◌≤◌, List, [], ◌∷◌, ◌++◌, length, get_or, map, take, replicate, Bool, true, false, ◌&&◌, refl, sym, ap, ap₂, ◌∙◌, arith, lit≤, eqb, ℤ, neg_ℤ, AllZip, ints, false≢true, eqb-true, length-append, length-replicate, take-map, append-nil, MAX_REACTIONS, MAX_SPECIES, MAX_SIGNED, Sign, Zero, Plus, Minus, Kind, Free, ZeroKind, Mat, dot, entry, InRowSpace, IsSolution, mirror, all_zero, IsLawful, IsSteady, IsTable, concordance, column_kind, row_kinds, kinds_a_of, kinds_b_of}
use Rattle.crn_vec.proofs.Ring.{mul-neg}
use Rattle.crn_vec.proofs.Mirrors.{length-mirror}
use Rattle.crn_vec.proofs.TableKinds.{zip_append, Refines, all_refined, refines_same, columns_longer, rows_longer, Mirrored, columns_opposite, rows_opposite, zeros_opposite, frees_opposite, all_opposite, length-rows, length-columns, count_at_most, count-append, count_none}

pub dot-neg : (r v : List ℤ) → dot r (map neg_ℤ v) ≡ neg_ℤ (dot r v)
dot-neg [] v = refl
dot-neg (x ∷ r) [] = refl
dot-neg (x ∷ r) (y ∷ v) = omega (arith, ints, dot-neg r v, mul-neg x y)

pub entry-neg : (v : List ℤ) (k : ℕ) → entry (map neg_ℤ v) k ≡ neg_ℤ (entry v k)
entry-neg [] k = refl
entry-neg (x ∷ v) zero = refl
entry-neg (x ∷ v) (suc k) = entry-neg v k

pub length-neg : (v : List ℤ) → length (map neg_ℤ v) ≡ length v
length-neg [] = refl
length-neg (x ∷ v) = ap suc (length-neg v)

-- the negative of a vector (x, Ax)
pub row_negative : (a : Mat) (v : List ℤ) → InRowSpace a v → InRowSpace a (map neg_ℤ v)
row_negative a v h = record {
  long = length-neg v ∙ h.long;
  is = λ i lt.
      let r = get_or a.rows i [] in
      entry-neg v (a.cols + i) ∙ ap neg_ℤ (h.is i lt) ∙ sym (dot-neg r (take a.cols v)) ∙ ap (dot r) (sym (take-map neg_ℤ a.cols v));
}

-- the negative of a solution solves the system of the mirrored kinds
pub solution_opposite : (a : Mat) (ks' ks : List Kind) (x : List ℤ) → AllZip Mirrored ks' ks → IsSolution a ks x → IsSolution a ks' (map neg_ℤ x)
solution_opposite a ks' ks x m s = (
  map neg_ℤ s.0,
  record {
    space = row_negative a s.0 s.1.space;
    columns = take-map neg_ℤ a.cols s.0 ∙ ap (λ (l : List ℤ). map neg_ℤ l) s.1.columns;
    each = all_opposite ks' ks s.0 m s.1.each;
  },
)

pub solution_refined : (a : Mat) (ks' ks : List Kind) (x : List ℤ) → AllZip Refines ks' ks → IsSolution a ks' x → IsSolution a ks x
solution_refined a ks' ks x r s = (s.0, record { space = s.1.space; columns = s.1.columns; each = all_refined ks' ks s.0 r s.1.each })

pub all_zero-mirror : (p : List Sign) → all_zero (mirror p) ≡ all_zero p
all_zero-mirror [] = refl
all_zero-mirror (Zero ∷ p) = all_zero-mirror p
all_zero-mirror (Plus ∷ p) = refl
all_zero-mirror (Minus ∷ p) = refl

pub and_first : (a b : Bool) → (a && b) ≡ true → a ≡ true
and_first true b e = refl
and_first false b e = absurd (false≢true e)

pub no_more : (p rest : List Sign) (n : ℕ) → length (p ++ rest) ≤ n → length p ≡ n → rest ≡ []
no_more p [] n le e = refl
no_more p (t ∷ rest) n le e = absurd (omega (arith, le, e, length-append p (t ∷ rest)))

pub tables_are_steady : (m : Mat) (table : List (List Sign)) → IsSteady (concordance m table)
tables_are_steady m table = record {
  shorter_a = λ p rest x le s. solution_refined m (kinds_a_of m table (p ++ rest)) (kinds_a_of m table p) x
      (zip_append Refines (map (λ ss. column_kind ss (p ++ rest)) table) (map (λ ss. column_kind ss p) table) (replicate (length m.rows) ZeroKind) (replicate (length m.rows) ZeroKind) (columns_longer table p rest) (refines_same (replicate (length m.rows) ZeroKind))) s;
  shorter_b = λ p rest x le s. solution_refined m (kinds_b_of m (p ++ rest)) (kinds_b_of m p) x
      (zip_append Refines (replicate m.cols Free) (replicate m.cols Free) (row_kinds (length m.rows) (p ++ rest)) (row_kinds (length m.rows) p) (refines_same (replicate m.cols Free)) (rows_longer (length m.rows) p rest)) s;
  mirrored_a = λ p x le s. solution_opposite m (kinds_a_of m table (mirror p)) (kinds_a_of m table p) x
      (zip_append Mirrored (map (λ ss. column_kind ss (mirror p)) table) (map (λ ss. column_kind ss p) table) (replicate (length m.rows) ZeroKind) (replicate (length m.rows) ZeroKind) (columns_opposite table p) (zeros_opposite (length m.rows))) s;
  mirrored_b = λ p x le s. solution_opposite m (kinds_b_of m (mirror p)) (kinds_b_of m p) x
      (zip_append Mirrored (replicate m.cols Free) (replicate m.cols Free) (row_kinds (length m.rows) (mirror p)) (row_kinds (length m.rows) p) (frees_opposite m.cols) (rows_opposite (length m.rows) p)) s;
  longer_closed = λ p rest le e.
      let full : length p ≡ length m.rows = eqb-true (length p) (length m.rows) (and_first (eqb (length p) (length m.rows)) (all_zero p) e) in
      let same : p ++ rest ≡ p = ap (λ (r : List Sign). p ++ r) (no_more p rest (length m.rows) le full) ∙ append-nil p in
      ap (λ (q : List Sign). eqb (length q) (length m.rows) && all_zero q) same ∙ e;
  mirror_closed = λ p le. ap₂ (λ (n : ℕ) (b : Bool). eqb n (length m.rows) && b) (length-mirror p) (all_zero-mirror p);
}

pub tables_are_lawful : (m : Mat) (table : List (List Sign)) → IsTable m table → IsLawful (concordance m table)
tables_are_lawful m table t = record {
  long_a = λ p le. length-append (map (λ ss. column_kind ss p) table) (replicate (length m.rows) ZeroKind) ∙ ap₂ (λ (i j : ℕ). i + j) (length-columns table p ∙ t.reactions) (length-replicate (length m.rows) ZeroKind);
  long_b = λ p le. length-append (replicate m.cols Free) (row_kinds (length m.rows) p) ∙ ap₂ (λ (i j : ℕ). i + j) (length-replicate m.cols Free) (length-rows (length m.rows) p);
  shorter_a = (tables_are_steady m table).shorter_a;
  shorter_b = (tables_are_steady m table).shorter_b;
  mirrored_a = (tables_are_steady m table).mirrored_a;
  mirrored_b = (tables_are_steady m table).mirrored_b;
  longer_closed = (tables_are_steady m table).longer_closed;
  mirror_closed = (tables_are_steady m table).mirror_closed;
  few_a = λ p le.
      let r : MAX_REACTIONS ≤ MAX_SIGNED = lit≤ tt in
      omega (arith, r, t.few_reactions, t.reactions, count-append (map (λ ss. column_kind ss p) table) (replicate (length m.rows) ZeroKind), count_none (length m.rows) ZeroKind refl, count_at_most (map (λ ss. column_kind ss p) table), length-columns table p);
  few_b = λ p le.
      let s : MAX_SPECIES ≤ MAX_SIGNED = lit≤ tt in
      omega (arith, s, t.few_species, count-append (replicate m.cols Free) (row_kinds (length m.rows) p), count_none m.cols Free refl, count_at_most (row_kinds (length m.rows) p), length-rows (length m.rows) p);
}
