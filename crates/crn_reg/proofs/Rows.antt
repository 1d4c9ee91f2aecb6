-- The rows of the confluence system one after another in a list.
use Rattle.crn_reg.proofs.Prelude.{◌≡◌, ℕ, suc, ◌+◌, ◌*◌, ◌<◌, ◌≤◌, ◌==◌, get_or, inl, inr, List, [], ◌∷◌, ◌++◌, length, map, take, drop, append_assoc, refl, sym, ap, ap₂, ◌∙◌, arith, ℤ, pos, if◌then◌else◌, flat_map, range_with_len, length-append, length-map, length-range_with_len, take-append_seam, IsIn, Net, IsNetwork, label_marks, length-column, inside_at, reaction_in, drop_seam, length-rows_after, rows_of, column}

-- the rows of lists one after another, and then of others, are these lists and then those of the others
pub rows_then : (n m : ℕ) (f : ℕ → List ℤ) (rs : List ℕ) (ys : List ℤ) → ((r : ℕ) → IsIn r rs → length (f r) ≡ n) → rows_of (length rs + m) n (flat_map f rs ++ ys) ≡ map f rs ++ rows_of m n ys
rows_then n m f [] ys h = let e : 0 + m ≡ m = omega arith in ap (λ (k : ℕ). rows_of k n ys) e
rows_then n m f (r ∷ rs) ys h =
    let long = h r (inl refl) in
    let tail = flat_map f rs ++ ys in
    let count : suc (length rs) + m ≡ suc (length rs + m) = omega arith in
    let joined : (f r ++ flat_map f rs) ++ ys ≡ f r ++ tail = append_assoc (f r) (flat_map f rs) ys in
    let first : take n (f r ++ tail) ≡ f r = ap (λ (k : ℕ). take k (f r ++ tail)) (sym long) ∙ take-append_seam (f r) tail in
    let rest : drop n (f r ++ tail) ≡ tail = ap (λ (k : ℕ). drop k (f r ++ tail)) (sym long) ∙ drop_seam (f r) tail in
    ap (λ (k : ℕ). rows_of k n ((f r ++ flat_map f rs) ++ ys)) count
    ∙ ap (rows_of (suc (length rs + m)) n) joined
    ∙ ap₂ (λ (x : List ℤ) (t : List (List ℤ)). x ∷ t) first (ap (rows_of (length rs + m) n) rest ∙ rows_then n m f rs ys (λ q i. h q (inr i)))

-- ---- the rows of the confluence system

pub amounts_long : (net : Net) (s : ℕ) → length (column net.complexes s) ≡ length net.complexes
amounts_long net s = length-column net.complexes s

pub marks_long : (net : Net) (labels : List ℕ) (k : ℕ) → length labels ≡ length net.complexes → length (label_marks labels k) ≡ length net.complexes
marks_long net labels k e = length-map labels (λ (l : ℕ). if l == k then pos 1 else pos 0) ∙ e

pub system_long : (net : Net) (labels : List ℕ) (count : ℕ) → length labels ≡ length net.complexes
    → length (flat_map (column net.complexes) (range_with_len 0 (length net.names)) ++ flat_map (label_marks labels) (range_with_len 1 count)) ≡ (length net.names + count) * length net.complexes
system_long net labels count e =
    let n = length net.complexes in
    let s = length net.names in
    let a = flat_map (column net.complexes) (range_with_len 0 s) in
    let b = flat_map (label_marks labels) (range_with_len 1 count) in
    let one : length a ≡ s * n = length-rows_after n (column net.complexes) (range_with_len 0 s) (λ k i. amounts_long net k) ∙ ap (λ (m : ℕ). m * n) (length-range_with_len 0 s) in
    let two : length b ≡ count * n = length-rows_after n (label_marks labels) (range_with_len 1 count) (λ k i. marks_long net labels k e) ∙ ap (λ (m : ℕ). m * n) (length-range_with_len 1 count) in
    omega (arith, length-append a b, one, two)

-- a network has a complex, as its first reaction has a reactant
pub some_complex : (net : Net) → IsNetwork net → 1 ≤ length net.complexes
some_complex net n =
    let r : ℕ × ℕ = get_or net.reactions 0 (0, 0) in
    let lt : 0 < length net.reactions = omega (arith, n.some) in
    let at = inside_at (length net.complexes) net.reactions n.partial.apart r.0 r.1 (reaction_in net.reactions 0 r lt refl) in
    omega (arith, at.0)
