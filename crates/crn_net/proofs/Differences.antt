-- Differences of vectors, place by place.
use Rattle.crn_net.proofs.Prelude.{difference_of, ◌≡◌, ℕ, zero, suc, ◌<◌, ◌≤◌, ◌+◌, List, [], ◌∷◌, ◌++◌, length, get_or, set, take, map, refl, sym, ap, ap₂, subst, ◌∙◌, add-one, arith, ℤ, pos, ◌-ℤ◌, AllByRecursion, ints, get_or-map, get_or-take, length-map, length-take-le, map_more, map_push, Net, IsPartialNetwork, IsNetwork, IsAmount, IsVector, JoinsTwo, minus, reaction_vector, AreWithin, MAX_AMOUNT, net_of, vectors_of, all_at, map_same}

minus_suc : (a b : List ℤ) (s : ℕ) (d e : ℤ) → s < length a → s < length b → minus (take (suc s) a) (take (suc s) b) ≡ minus (take s a) (take s b) ++ (get_or a s d -ℤ get_or b s e) ∷ []
minus_suc [] b s d e p q = absurd (omega arith)
minus_suc (x ∷ a) [] s d e p q = absurd (omega arith)
minus_suc (x ∷ a) (y ∷ b) zero d e p q = refl
minus_suc (x ∷ a) (y ∷ b) (suc s) d e p q = ap (λ (t : List ℤ). (x -ℤ y) ∷ t) (minus_suc a b s d e (omega arith) (omega arith))

pub minus_more : (a b : List ℤ) (s : ℕ) (d e : ℤ) → s < length a → s < length b → minus (take (s + 1) a) (take (s + 1) b) ≡ minus (take s a) (take s b) ++ (get_or a s d -ℤ get_or b s e) ∷ []
minus_more a b s d e p q = rw add-one (minus_suc a b s d e p q)

pub minus_within : (a b : List ℤ) → AllByRecursion IsAmount a → AllByRecursion IsAmount b → AreWithin MAX_AMOUNT (minus a b)
minus_within [] b p q = tt
minus_within (x ∷ a) [] p q = tt
minus_within (x ∷ a) (y ∷ b) p q = (let xl = p.0.0 in let xm = p.0.1 in let yl = q.0.0 in let ym = q.0.1 in omega (arith, ints), minus_within a b p.1 q.1)

-- ---- tables of a network

-- the complexes hold amounts
vectors_hold : (n : ℕ) (vectors : List (List ℤ)) → AllByRecursion (IsVector n) vectors → AllByRecursion (λ row. AllByRecursion IsAmount row) vectors
vectors_hold n [] h = tt
vectors_hold n (v ∷ vectors) h = (h.0.1, vectors_hold n vectors h.1)

-- so do the rows at the places of the species
pub row_holds : (n : ℕ) (rows : List (List ℤ)) (c : ℕ) → AllByRecursion (λ row. AllByRecursion IsAmount row) (vectors_of n rows) → c < length rows → AllByRecursion IsAmount (take n (get_or rows c []))
row_holds n rows c all lt =
    let count = length-map rows (take n) in
    subst (AllByRecursion IsAmount) (get_or-map (take n) rows c [] [] lt) (all_at (λ row. AllByRecursion IsAmount row) (vectors_of n rows) c [] all (omega (arith, lt, count)))

pub entry_holds : (n : ℕ) (row : List ℤ) (s : ℕ) → AllByRecursion IsAmount (take n row) → n ≤ length row → s < n → IsAmount (get_or row s (pos 0))
entry_holds n row s all long lt =
    let prefix : length (take n row) ≡ n = length-take-le n row long in
    subst IsAmount (get_or-take n row s (pos 0) lt) (all_at IsAmount (take n row) s (pos 0) all (omega (arith, lt, prefix)))

-- a table with the complexes of the rows
pub rows_same : (names : List (List ℕ)) (rows seen made : List (List ℤ)) (n : ℕ) → n ≡ length names → seen ≡ rows → vectors_of n made ≡ vectors_of n seen → vectors_of (length names) made ≡ vectors_of (length names) rows
rows_same names rows seen made n width is e = subst (λ (k : ℕ). vectors_of k made ≡ vectors_of k rows) width (e ∙ ap (vectors_of n) is)

net_with : List (List ℕ) → List (ℕ × ℕ) → List (List ℤ) → Net
net_with names reactions complexes = record { names = names; complexes = complexes; reactions = reactions }

pub net_same : (names : List (List ℕ)) (rows made : List (List ℤ)) (reactions : List (ℕ × ℕ)) → vectors_of (length names) made ≡ vectors_of (length names) rows → net_of names made reactions ≡ net_of names rows reactions
unfolding net_with
net_same names rows made reactions e = ap (net_with names reactions) e

pub joins_rows : (names : List (List ℕ)) (rows made seen : List (List ℤ)) (reactions : List (ℕ × ℕ)) → IsPartialNetwork (net_of names rows reactions) → vectors_of (length names) made ≡ vectors_of (length names) rows → seen ≡ made → AllByRecursion (JoinsTwo (length seen)) reactions
joins_rows names rows made seen reactions net e is =
    let count : length (vectors_of (length names) rows) ≡ length seen = ap length (sym e) ∙ length-map made (take (length names)) ∙ ap length (sym is) in
    subst (λ (k : ℕ). AllByRecursion (JoinsTwo k) reactions) count net.apart

pub made_amounts : (names : List (List ℕ)) (rows made seen : List (List ℤ)) (reactions : List (ℕ × ℕ)) (n : ℕ) → IsPartialNetwork (net_of names rows reactions) → n ≡ length names → vectors_of (length names) made ≡ vectors_of (length names) rows → seen ≡ made
    → AllByRecursion (λ row. AllByRecursion IsAmount row) (vectors_of n seen)
made_amounts names rows made seen reactions n net width e is =
    let same = ap₂ (λ (k : ℕ) (t : List (List ℤ)). vectors_of k t) width is ∙ e in
    subst (AllByRecursion (λ row. AllByRecursion IsAmount row)) (sym same) (vectors_hold (length names) (vectors_of (length names) rows) net.vectors)

pub made_vectors : (names : List (List ℕ)) (rows seen : List (List ℤ)) (reactions seen_reactions : List (ℕ × ℕ)) (made : List (List ℤ)) (n : ℕ) → n ≡ length names → seen ≡ rows → seen_reactions ≡ reactions
    → vectors_of n made ≡ map (difference_of (vectors_of n seen)) seen_reactions → vectors_of (length names) made ≡ map (reaction_vector (net_of names rows reactions)) reactions
made_vectors names rows seen reactions seen_reactions made n width a b e =
    let complexes = ap₂ (λ (k : ℕ) (t : List (List ℤ)). vectors_of k t) width a in
    ap (λ (k : ℕ). vectors_of k made) (sym width)
    ∙ e
    ∙ ap₂ (λ (cs : List (List ℤ)) (rs : List (ℕ × ℕ)). map (difference_of cs) rs) complexes b
    ∙ map_same (difference_of (vectors_of (length names) rows)) (reaction_vector (net_of names rows reactions)) reactions (λ r i. refl)

-- ---- what the accessors lend

pub vector_amounts : (net : Net) (c : ℕ) → IsNetwork net → c < length net.complexes → AllByRecursion IsAmount (get_or net.complexes c [])
vector_amounts net c h lt = (all_at (IsVector (length net.names)) net.complexes c [] h.partial.vectors lt).1

pub reaction_small : (net : Net) (r : ℕ) → IsNetwork net → r < length net.reactions → AreWithin MAX_AMOUNT (reaction_vector net (get_or net.reactions r (0, 0)))
reaction_small net r h lt =
    let j = all_at (JoinsTwo (length net.complexes)) net.reactions r (0, 0) h.partial.apart lt in
    minus_within (get_or net.complexes (get_or net.reactions r (0, 0)).1 []) (get_or net.complexes (get_or net.reactions r (0, 0)).0 []) (vector_amounts net (get_or net.reactions r (0, 0)).1 h j.2) (vector_amounts net (get_or net.reactions r (0, 0)).0 h j.1)

pub lent_vector : (m : ℕ) (rows vectors : List (List ℤ)) (r : ℕ) (row : List ℤ) → vectors_of m rows ≡ vectors → r < length vectors → row ≡ get_or rows r row → take m row ≡ get_or vectors r []
lent_vector m rows vectors r row e lt is =
    let count = length-map rows (take m) in
    let l = ap length e in
    ap (take m) is ∙ sym (get_or-map (take m) rows r row [] (omega (arith, count, l))) ∙ ap (λ (t : List (List ℤ)). get_or t r []) e

-- ---- the tables, row by row

-- the last entry takes another value
pub set_last : (xs : List (List ℤ)) (y z : List ℤ) (i : ℕ) → length xs ≡ i → set (xs ++ y ∷ []) i z ≡ xs ++ z ∷ []
set_last [] y z zero e = refl
set_last [] y z (suc i) e = absurd (omega (arith, e))
set_last (x ∷ xs) y z zero e = absurd (omega (arith, e))
set_last (x ∷ xs) y z (suc i) e = ap (λ (t : List (List ℤ)). x ∷ t) (set_last xs y z i (omega (arith, e)))

pub one_row : (n : ℕ) (rows made made' : List (List ℤ)) (c : ℕ) (row from : List ℤ) → c < length rows → vectors_of n made ≡ vectors_of n (take c rows) → from ≡ get_or rows c from → take n row ≡ take n from → made' ≡ made ++ row ∷ []
    → vectors_of n made' ≡ vectors_of n (take (c + 1) rows)
one_row n rows made made' c row from lt are is put new =
    ap (vectors_of n) new
    ∙ map_push (take n) made row
    ∙ ap₂ (λ (t : List (List ℤ)) (u : List ℤ). t ++ u ∷ []) are (put ∙ ap (take n) is)
    ∙ sym (map_more (take n) rows c from lt)

pub one_difference : (n : ℕ) (rows : List (List ℤ)) (reactions : List (ℕ × ℕ)) (i : ℕ) (made made' : List (List ℤ)) (row : List ℤ) → i < length reactions → AllByRecursion (JoinsTwo (length rows)) reactions
    → vectors_of n made ≡ map (difference_of (vectors_of n rows)) (take i reactions) → take n row ≡ minus (take n (get_or rows (get_or reactions i (0, 0)).1 [])) (take n (get_or rows (get_or reactions i (0, 0)).0 [])) → made' ≡ made ++ row ∷ []
    → vectors_of n made' ≡ map (difference_of (vectors_of n rows)) (take (i + 1) reactions)
one_difference n rows reactions i made made' row lt apart is at new =
    let j = all_at (JoinsTwo (length rows)) reactions i (0, 0) apart lt in
    let r = get_or reactions i (0, 0) in
    let here = at ∙ ap₂ minus (sym (get_or-map (take n) rows r.1 [] [] j.2)) (sym (get_or-map (take n) rows r.0 [] [] j.1)) in
    ap (vectors_of n) new
    ∙ map_push (take n) made row
    ∙ ap₂ (λ (t : List (List ℤ)) (u : List ℤ). t ++ u ∷ []) is here
    ∙ sym (map_more (difference_of (vectors_of n rows)) reactions i (0, 0) lt)
