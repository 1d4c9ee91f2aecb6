-- The visits with which each search over a table begins: no kind excludes 0 at a prefix of zeros.
use Rattle.crn_conc.proofs.Prelude.{◌≡◌, ℕ, zero, suc, ◌+◌, ◌-◌, ◌<◌, ◌≤◌, ◌==◌, ◌&&◌, List, [], ◌∷◌, ◌++◌, length, map, get_or, drop, take, replicate, Bool, true, false, refl, sym, ap, subst, ◌∙◌, arith, ℤ, pos, if◌then◌else◌, AllByRecursion, AllZip, eq-eqb, false≢true, ne_eqb, length-append, length-map, length-replicate, Sign, Zero, Plus, Minus, Kind, Free, ZeroKind, Mat, dot, width, HasKind, IsSolution, IsFeasible, all_zero, options_below, IsTable, column_kind, concordance, is_minus, is_plus, kind_of_sum, kinds_a_of, kinds_b_of, products, row_kinds, some_sign, Passes, PassesBudget, begun, past, below, all_append, dot-zeros, entry-zeros, length-rows, length-zeros, take-zeros, zeros}
use Rattle.crn_conc.proofs.LastSigns.{product_zero}

-- 0 is of the kind
abbrev IsQuiet : Kind → Type 0
IsQuiet kind = HasKind kind (pos 0)

-- ---- the vector 0

quiet_zip : (kinds : List Kind) (n : ℕ) → length kinds ≡ n → AllByRecursion IsQuiet kinds → AllZip HasKind kinds (zeros n)
quiet_zip [] zero e h = tt
quiet_zip [] (suc n) e h = absurd (omega (arith, e))
quiet_zip (kind ∷ kinds) zero e h = absurd (omega (arith, e))
quiet_zip (kind ∷ kinds) (suc n) e h = (h.0, quiet_zip kinds n (omega (arith, e)) h.1)

zeros_solve : (a : Mat) (kinds : List Kind) → length kinds ≡ width a → AllByRecursion IsQuiet kinds → (x : List ℤ) × IsSolution a kinds x
zeros_solve a kinds long h =
    let t = take-zeros a.cols (width a) in (
      take a.cols (zeros (width a)),
      (
        zeros (width a),
        record {
          space = record {
            long = length-zeros (width a);
            is = λ i lt. entry-zeros (width a) (a.cols + i) ∙ sym (ap (dot (get_or a.rows i [])) t.1 ∙ dot-zeros t.0 (get_or a.rows i []));
          };
          columns = refl;
          each = quiet_zip kinds (width a) long h;
        },
      ),
    )

-- ---- kinds at a prefix of zeros

none_some : (test : Sign → Bool) → test Zero ≡ false → (signs p : List Sign) → all_zero p ≡ true → some_sign test (products signs p) ≡ false
none_some test z [] p e = refl
none_some test z (x ∷ ss) [] e = refl
none_some test z (x ∷ ss) (Zero ∷ p) e =
    ap (λ (t : Sign). if test t then true else some_sign test (products ss p)) (product_zero x)
    ∙ ap (λ (b : Bool). if b then true else some_sign test (products ss p)) z ∙ none_some test z ss p e
none_some test z (x ∷ ss) (Plus ∷ p) e = absurd (false≢true e)
none_some test z (x ∷ ss) (Minus ∷ p) e = absurd (false≢true e)

quiet_if : (b plus minus : Bool) → plus ≡ false → minus ≡ false → IsQuiet (if b then kind_of_sum plus minus else Free)
quiet_if true false false e f = refl
quiet_if true true minus e f = absurd (false≢true (sym e))
quiet_if true false true e f = absurd (false≢true (sym f))
quiet_if false plus minus e f = tt

quiet_columns : (table : List (List Sign)) (p : List Sign) → all_zero p ≡ true → AllByRecursion IsQuiet (map (λ signs. column_kind signs p) table)
quiet_columns [] p e = tt
quiet_columns (signs ∷ table) p e = (
  quiet_if (all_zero (drop (length p) signs)) (some_sign is_plus (products signs p)) (some_sign is_minus (products signs p)) (none_some is_plus refl signs p e) (none_some is_minus refl signs p e),
  quiet_columns table p e,
)

quiet_rows : (n : ℕ) (p : List Sign) → all_zero p ≡ true → AllByRecursion IsQuiet (row_kinds n p)
quiet_rows zero p e = tt
quiet_rows (suc n) [] e = (tt, quiet_rows n [] e)
quiet_rows (suc n) (Zero ∷ p) e = (refl, quiet_rows n p e)
quiet_rows (suc n) (Plus ∷ p) e = absurd (false≢true e)
quiet_rows (suc n) (Minus ∷ p) e = absurd (false≢true e)

quiet_same : (n : ℕ) (kind : Kind) → IsQuiet kind → AllByRecursion IsQuiet (replicate n kind)
quiet_same zero kind h = tt
quiet_same (suc n) kind h = (h, quiet_same n kind h)

-- ---- visits

not_full : (k n : ℕ) (b : Bool) → k < n → ((k == n) && b) ≡ false
not_full k n b lt = ap (λ (x : Bool). x && b) (ne_eqb k n (λ e. omega (arith, e, lt)))

full_closed : (k n : ℕ) (b : Bool) → k ≡ n → b ≡ true → ((k == n) && b) ≡ true
full_closed k n b e z = ap (λ (x : Bool). x && b) (eq-eqb k n e) ∙ z

zeros_feasible : (m : Mat) (table : List (List Sign)) → IsTable m table → (p : List Sign) → all_zero p ≡ true → length p < length m.rows → IsFeasible (concordance m table) p
zeros_feasible m table t p e lt =
    let a = length-append (map (λ signs. column_kind signs p) table) (replicate (length m.rows) ZeroKind) in
    let b = length-append (replicate m.cols Free) (row_kinds (length m.rows) p) in
    record {
      opened = not_full (length p) (length m.rows) (all_zero p) lt;
      part_a = zeros_solve m (kinds_a_of m table p) (omega (arith, a, length-map table (λ signs. column_kind signs p), length-replicate (length m.rows) ZeroKind, t.reactions))
          (all_append IsQuiet (map (λ signs. column_kind signs p) table) (replicate (length m.rows) ZeroKind) (quiet_columns table p e) (quiet_same (length m.rows) ZeroKind refl));
      part_b = zeros_solve m (kinds_b_of m p) (omega (arith, b, length-replicate m.cols Free, length-rows (length m.rows) p))
          (all_append IsQuiet (replicate m.cols Free) (row_kinds (length m.rows) p) (quiet_same m.cols Free tt) (quiet_rows (length m.rows) p e));
    }

-- a visit of zeros, and those below it
zeros_visited : (m : Mat) (table : List (List Sign)) → IsTable m table → (p : List Sign) (rest : List (List Sign)) (n : ℕ) → all_zero p ≡ true → length p < length m.rows
    → Passes (concordance m table) ((p ++ Zero ∷ []) ∷ (p ++ Plus ∷ []) ∷ rest) n → Passes (concordance m table) (p ∷ rest) (suc n)
zeros_visited m table t p rest n e lt h =
    below (zeros_feasible m table t p e lt) (λ full. omega (arith, full, lt))
    (subst (λ (b : Bool). Passes (concordance m table) (map (λ s. p ++ s ∷ []) (options_below b) ++ rest) n) (sym e) h)

zero_more : (p : List Sign) → all_zero p ≡ true → all_zero (p ++ Zero ∷ []) ≡ true
zero_more [] e = refl
zero_more (Zero ∷ p) e = zero_more p e
zero_more (Plus ∷ p) e = absurd (false≢true e)
zero_more (Minus ∷ p) e = absurd (false≢true e)

-- the visits of the zeros below a prefix of zeros, and one more
zeros_pass : (m : Mat) (table : List (List Sign)) → IsTable m table → (left : ℕ) (p q : List Sign) (rest : List (List Sign)) (n : ℕ) → all_zero p ≡ true → length p + left ≡ length m.rows → n ≤ left + 1
    → Passes (concordance m table) (p ∷ q ∷ rest) n
zeros_pass m table t left p q rest zero e long le = begun
zeros_pass m table t zero p q rest (suc zero) e long le =
    past (λ f. false≢true (sym f.opened ∙ full_closed (length p) (length m.rows) (all_zero p) (omega (arith, long)) e)) begun
zeros_pass m table t zero p q rest (suc (suc n)) e long le = absurd (omega (arith, le))
zeros_pass m table t (suc left) p q rest (suc n) e long le =
    zeros_visited m table t p (q ∷ rest) n e (omega (arith, long))
    (zeros_pass m table t left (p ++ Zero ∷ []) (p ++ Plus ∷ []) (q ∷ rest) n (zero_more p e) (let l = length-append p (Zero ∷ []) in omega (arith, l, long)) (omega (arith, le)))

-- each search visits the prefixes of zeros, and one more
pub start_passes : (m : Mat) (table : List (List Sign)) → IsTable m table → (budget : ℕ) → 1 ≤ length m.rows → budget ≤ length m.rows + 1 → PassesBudget (concordance m table) budget
start_passes m table t zero some le = begun
start_passes m table t (suc n) some le =
    let left = length m.rows - 1 in
    zeros_visited m table t [] [] n refl (omega (arith, some))
    (zeros_pass m table t left (Zero ∷ []) (Plus ∷ []) [] n refl (omega (arith, some)) (omega (arith, some, le)))
