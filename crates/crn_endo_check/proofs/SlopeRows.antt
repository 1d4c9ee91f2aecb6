-- Solutions of part A of a reaction's problem, by the rises of a slope and by its heights.
use Rattle.crn_endo_check.proofs.Prelude.{◌≡◌, ℕ, ◌<◌, List, [], ◌∷◌, ◌++◌, length, get_or, map, replicate, take, sym, ap, subst, ◌∙◌, refl, arith, ℤ, pos, neg_ℤ, AllZip, range_with_len, ints, get_or-map, length-map, length-replicate, length-take-le, get_or-map-range_with_len, length-map-range_with_len, take-append_seam, Kind, Free, Mat, dot, entry, width, Net, reaction_vector, vectors, HasKind, IsSolution, image, zip_from, zip_at, zip_append, map_twice, neg-mul, vector_at, vectors_count, has_both, reaction_at, rise, others, negated, row_above, slope_matrix, entry-image, vector_is, solution_of, parts_of, frees_have, map-append, prefix_zip, back_zip}

-- how high a slope is at complex c above the reactant of reaction r
abbrev pub above : Net → ℕ → List ℤ → ℕ → ℤ
above net r x c = dot (row_above net r c) x

-- a kind for each coordinate, by the kinds of rises, falls and heights
abbrev pub kinds_by : Net → (ℕ → Kind) → (ℕ → Kind) → List Kind → List Kind
kinds_by net rises falls tops = replicate (length net.names) Free
    ++ (map rises (range_with_len 0 (length net.reactions)) ++ (map falls (range_with_len 0 (length net.reactions)) ++ tops))

-- the rises, the falls and the heights of a slope are of these kinds
pub record Has (net : Net) (r : ℕ) (rises falls : ℕ → Kind) (tops : List Kind) (x : List ℤ) : Type 0 where
  pub long : length x ≡ length net.names
  pub rises_have : (q : ℕ) → q < length net.reactions → HasKind (rises q) (rise net x q)
  pub falls_have : (q : ℕ) → q < length net.reactions → HasKind (falls q) (neg_ℤ (rise net x q))
  pub tops_have : AllZip HasKind tops (map (above net r x) (others net r))

neg-dot : (v x : List ℤ) → dot (negated v) x ≡ neg_ℤ (dot v x)
neg-dot [] x = refl
neg-dot (a ∷ v) [] = refl
neg-dot (a ∷ v) (b ∷ x) = omega (arith, ints, neg-dot v x, neg-mul a b)

-- ---- the values of the rows

rows_image : (net : Net) (r : ℕ) (x : List ℤ) → image (slope_matrix net r) x ≡ map (λ row. dot row x) (vectors net) ++ (map (λ row. dot row x) (map negated (vectors net)) ++ map (λ row. dot row x) (map (row_above net r) (others net r)))
rows_image net r x =
    let d = λ (row : List ℤ). dot row x in
    map-append d (vectors net) (map negated (vectors net) ++ map (row_above net r) (others net r))
    ∙ ap (λ (l : List ℤ). map d (vectors net) ++ l) (map-append d (map negated (vectors net)) (map (row_above net r) (others net r)))

rise_at : (net : Net) (x : List ℤ) (q : ℕ) → q < length net.reactions → entry (map (λ row. dot row x) (vectors net)) q ≡ rise net x q
rise_at net x q lt = entry-image (vectors net) x q (omega (arith, lt, vectors_count net)) ∙ ap (λ (v : List ℤ). dot v x) (vector_at net q lt)

fall_at : (net : Net) (x : List ℤ) (q : ℕ) → q < length net.reactions → entry (map (λ row. dot row x) (map negated (vectors net))) q ≡ neg_ℤ (rise net x q)
fall_at net x q lt =
    let in_vectors : q < length (vectors net) = omega (arith, lt, vectors_count net) in
    entry-image (map negated (vectors net)) x q (omega (arith, in_vectors, length-map (vectors net) negated))
    ∙ ap (λ (v : List ℤ). dot v x) (get_or-map negated (vectors net) q [] [] in_vectors ∙ ap negated (vector_at net q lt))
    ∙ neg-dot (reaction_vector net (reaction_at net q)) x

tops_at : (net : Net) (r : ℕ) (x : List ℤ) → map (λ row. dot row x) (map (row_above net r) (others net r)) ≡ map (above net r x) (others net r)
tops_at net r x = map_twice (row_above net r) (λ row. dot row x) (others net r)

kind_listed : (kinds : ℕ → Kind) (n k : ℕ) → k < n → get_or (map kinds (range_with_len 0 n)) k Free ≡ kinds k
kind_listed kinds n k lt = get_or-map-range_with_len kinds 0 n k k Free lt (omega arith)

-- ---- both ways

pub solution_by : (net : Net) (r : ℕ) (rises falls : ℕ → Kind) (tops : List Kind) (x : List ℤ) → Has net r rises falls tops x → IsSolution (slope_matrix net r) (kinds_by net rises falls tops) x
solution_by net r rises falls tops x h =
    let d = λ (row : List ℤ). dot row x in
    let n = length net.reactions in
    let ks = map rises (range_with_len 0 n) in
    let qs = map falls (range_with_len 0 n) in
    let vs = map d (vectors net) in
    let us = map d (map negated (vectors net)) in
    let ts = map d (map (row_above net r) (others net r)) in
    let ks_long : length ks ≡ n = length-map-range_with_len rises 0 n in
    let qs_long : length qs ≡ n = length-map-range_with_len falls 0 n in
    let vs_long : length vs ≡ n = length-map (vectors net) d ∙ vectors_count net in
    let us_long : length us ≡ n = length-map (map negated (vectors net)) d ∙ length-map (vectors net) negated ∙ vectors_count net in
    let first : AllZip HasKind ks vs = zip_from HasKind Free (pos 0) ks vs (vs_long ∙ sym ks_long)
    (λ k lt. let at : k < n = omega (arith, lt, ks_long) in has_both (kind_listed rises n k at) (rise_at net x k at) (h.rises_have k at)) in
    let second : AllZip HasKind qs us = zip_from HasKind Free (pos 0) qs us (us_long ∙ sym qs_long)
    (λ k lt. let at : k < n = omega (arith, lt, qs_long) in has_both (kind_listed falls n k at) (fall_at net x k at) (h.falls_have k at)) in
    let third : AllZip HasKind tops ts = subst (λ (l : List ℤ). AllZip HasKind tops l) (sym (tops_at net r x)) h.tops_have in
    solution_of (slope_matrix net r) (replicate (length net.names) Free) (ks ++ (qs ++ tops)) x h.long (frees_have (length net.names) x h.long)
    (subst (λ (l : List ℤ). AllZip HasKind (ks ++ (qs ++ tops)) l) (sym (rows_image net r x)) (zip_append HasKind ks vs (qs ++ tops) (us ++ ts) first (zip_append HasKind qs us tops ts second third)))

pub has_by : (net : Net) (r : ℕ) (rises falls : ℕ → Kind) (tops : List Kind) (x : List ℤ) → IsSolution (slope_matrix net r) (kinds_by net rises falls tops) x → Has net r rises falls tops x
has_by net r rises falls tops x s =
    let d = λ (row : List ℤ). dot row x in
    let n = length net.reactions in
    let ks = map rises (range_with_len 0 n) in
    let qs = map falls (range_with_len 0 n) in
    let vs = map d (vectors net) in
    let us = map d (map negated (vectors net)) in
    let ts = map d (map (row_above net r) (others net r)) in
    let ks_long : length ks ≡ n = length-map-range_with_len rises 0 n in
    let qs_long : length qs ≡ n = length-map-range_with_len falls 0 n in
    let vs_long : length vs ≡ n = length-map (vectors net) d ∙ vectors_count net in
    let us_long : length us ≡ n = length-map (map negated (vectors net)) d ∙ length-map (vectors net) negated ∙ vectors_count net in
    let parts = parts_of (slope_matrix net r) (replicate (length net.names) Free) (ks ++ (qs ++ tops)) x (length-replicate (length net.names) Free) s in
    let rows : AllZip HasKind (ks ++ (qs ++ tops)) (vs ++ (us ++ ts)) = subst (λ (l : List ℤ). AllZip HasKind (ks ++ (qs ++ tops)) l) (rows_image net r x) parts.rows in
    let same : length ks ≡ length vs = ks_long ∙ sym vs_long in
    let first : AllZip HasKind ks vs = prefix_zip ks (qs ++ tops) vs (us ++ ts) same rows in
    let rest : AllZip HasKind (qs ++ tops) (us ++ ts) = back_zip ks (qs ++ tops) vs (us ++ ts) same rows in
    let even : length qs ≡ length us = qs_long ∙ sym us_long in
    let second : AllZip HasKind qs us = prefix_zip qs tops us ts even rest in
    let third : AllZip HasKind tops ts = back_zip qs tops us ts even rest in
    record {
      long = parts.long;
      rises_have = λ q lt. has_both (sym (kind_listed rises n q lt)) (sym (rise_at net x q lt)) (zip_at HasKind Free (pos 0) ks vs first q (omega (arith, lt, ks_long)));
      falls_have = λ q lt. has_both (sym (kind_listed falls n q lt)) (sym (fall_at net x q lt)) (zip_at HasKind Free (pos 0) qs us second q (omega (arith, lt, qs_long)));
      tops_have = subst (λ (l : List ℤ). AllZip HasKind tops l) (tops_at net r x) third;
    }

-- ---- part B

pub free_solution : (m : Mat) (x : List ℤ) → length x ≡ m.cols → IsSolution m (replicate (width m) Free) x
free_solution m x e = (
  x ++ image m x,
  record {
    space = vector_is m x e;
    columns = ap (λ (n : ℕ). take n (x ++ image m x)) (sym e) ∙ take-append_seam x (image m x);
    each = frees_have (width m) (x ++ image m x) (vector_is m x e).long;
  },
)

pub solution_long : (m : Mat) (ks : List Kind) (x : List ℤ) → IsSolution m ks x → length x ≡ m.cols
solution_long m ks x s = omega (arith, ap length s.1.columns, length-take-le m.cols s.0 (omega (arith, s.1.space.long)))
