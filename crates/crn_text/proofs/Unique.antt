-- A text spells at most one network, since networks with the same names and the same reactions, as amounts, are equal.
use Rattle.crn_text.proofs.Prelude.{◌≡◌, ℕ, suc, ◌<◌, ◌≤◌, List, [], ◌∷◌, length, get_or, map, refl, sym, ap, ap₂, subst, ◌∙◌, inl, inr, arith, ℤ, flat_map, cases_lt, same_place, IsNumberedInOrder, appears_in_order, pair, ends_below, IsIn, AreDistinct, firsts, Net, IsPartialNetwork, ends, sides_of, sides_eq, said_by, lines, all_statements, Spells}

lists_same : {A : Type 0} (xs ys : List A) (e : A) → length xs ≡ length ys → ((k : ℕ) → k < length xs → get_or xs k e ≡ get_or ys k e) → xs ≡ ys
lists_same [] [] e long at = refl
lists_same [] (y ∷ ys) e long at = absurd (omega arith)
lists_same (x ∷ xs) [] e long at = absurd (omega arith)
lists_same {A} (x ∷ xs) (y ∷ ys) e long at = ap₂ (λ (a : A) (tail : List A). a ∷ tail) (at 0 (omega arith)) (lists_same xs ys e (omega arith) (λ k lt. at (suc k) (omega arith)))

-- two lists agree on the places below
abbrev Agree : List (List ℤ) → List (List ℤ) → ℕ → Type 0
Agree cs ds next = (k : ℕ) → k < next → get_or cs k [] ≡ get_or ds k []

abbrev AllBelow : ℕ → List ℕ → Type 0
AllBelow count places = (k : ℕ) → IsIn k places → k < count

one_further : (cs ds : List (List ℤ)) (next : ℕ) → Agree cs ds next → get_or cs next [] ≡ get_or ds next [] → Agree cs ds (suc next)
one_further cs ds next agree here k lt = elim (cases_lt k next) [ inl below ↦ agree k below | inr late ↦ let is : k ≡ next = omega arith in ap (λ (i : ℕ). get_or cs i []) is ∙ here ∙ ap (λ (i : ℕ). get_or ds i []) (sym is) ]

-- places that are numbered in order and read the same from two lists are the same
same_places : (cs ds : List (List ℤ)) (next : ℕ) (xs ys : List ℕ) → AreDistinct cs → AreDistinct ds → AllBelow (length cs) xs → AllBelow (length ds) ys → next ≤ length cs → next ≤ length ds → Agree cs ds next
    → IsNumberedInOrder next xs → IsNumberedInOrder next ys → map (λ k. get_or cs k []) xs ≡ map (λ k. get_or ds k []) ys → xs ≡ ys
same_places cs ds next [] [] dc dd bc bd nc nd agree p q e = refl
same_places cs ds next [] (y ∷ ys) dc dd bc bd nc nd agree p q e = absurd cc
same_places cs ds next (x ∷ xs) [] dc dd bc bd nc nd agree p q e = absurd cc
same_places cs ds next (x ∷ xs) (y ∷ ys) dc dd bc bd nc nd agree (inl p) (inl q) e =
    let heads : get_or cs x [] ≡ get_or ds y [] = cc in
    let tails : map (λ k. get_or cs k []) xs ≡ map (λ k. get_or ds k []) ys = cc in
    let is : x ≡ y = same_place ds x y [] dd (omega arith) (bd y (inl refl)) (sym (agree x p.0) ∙ heads) in
    ap₂ (λ (a : ℕ) (tail : List ℕ). a ∷ tail) is (same_places cs ds next xs ys dc dd (λ k i. bc k (inr i)) (λ k i. bd k (inr i)) nc nd agree p.1 q.1 tails)
same_places cs ds next (x ∷ xs) (y ∷ ys) dc dd bc bd nc nd agree (inl p) (inr q) e =
    let heads : get_or cs x [] ≡ get_or ds y [] = cc in
    let is : x ≡ y = same_place ds x y [] dd (omega arith) (bd y (inl refl)) (sym (agree x p.0) ∙ heads) in
    absurd (omega (arith, p.0, q.0))
same_places cs ds next (x ∷ xs) (y ∷ ys) dc dd bc bd nc nd agree (inr p) (inl q) e =
    let heads : get_or cs x [] ≡ get_or ds y [] = cc in
    let is : x ≡ y = same_place cs x y [] dc (bc x (inl refl)) (omega arith) (heads ∙ sym (agree y q.0)) in
    absurd (omega (arith, p.0, q.0))
same_places cs ds next (x ∷ xs) (y ∷ ys) dc dd bc bd nc nd agree (inr p) (inr q) e =
    let heads : get_or cs x [] ≡ get_or ds y [] = cc in
    let tails : map (λ k. get_or cs k []) xs ≡ map (λ k. get_or ds k []) ys = cc in
    let here : get_or cs next [] ≡ get_or ds next [] = ap (λ (k : ℕ). get_or cs k []) (sym p.0) ∙ heads ∙ ap (λ (k : ℕ). get_or ds k []) q.0 in
    let below = bc x (inl refl) in
    let under = bd y (inl refl) in
    ap₂ (λ (a : ℕ) (tail : List ℕ). a ∷ tail) (p.0 ∙ sym q.0)
    (same_places cs ds (suc next) xs ys dc dd (λ k i. bc k (inr i)) (λ k i. bd k (inr i)) (omega (arith, p.0)) (omega (arith, q.0)) (one_further cs ds next agree here) p.1 q.1 tails)

-- ---- the places of a network

abbrev both : List ℤ × List ℤ → List (List ℤ)
both s = s.0 ∷ s.1 ∷ []

read_ends : (net : Net) (reactions : List (ℕ × ℕ)) → map (λ k. get_or net.complexes k []) (ends reactions) ≡ flat_map both (map (sides_of net) reactions)
read_ends net [] = refl
read_ends net (r ∷ rs) = ap (λ (t : List (List ℤ)). get_or net.complexes r.0 [] ∷ get_or net.complexes r.1 [] ∷ t) (read_ends net rs)

ends_same : (rs ts : List (ℕ × ℕ)) → ends rs ≡ ends ts → rs ≡ ts
ends_same [] [] e = refl
ends_same [] (t ∷ ts) e = absurd cc
ends_same (r ∷ rs) [] e = absurd cc
ends_same (r ∷ rs) (t ∷ ts) e =
    let left : r.0 ≡ t.0 = cc in
    let right : r.1 ≡ t.1 = cc in
    let tails : ends rs ≡ ends ts = cc in
    ap₂ (λ (a : ℕ × ℕ) (tail : List (ℕ × ℕ)). a ∷ tail) (ap₂ pair left right) (ends_same rs ts tails)

fits : (n m : ℕ) (places : List ℕ) → ((c : ℕ) → c < n → IsIn c places) → AllBelow m places → n ≤ m
fits n m places each below = elim (cases_lt m n) [ inl lt ↦ let bad = below m (each m lt) in absurd (omega arith) | inr late ↦ late ]

read_same : (f g : ℕ → List ℤ) (places : List ℕ) (k : ℕ) → map f places ≡ map g places → IsIn k places → f k ≡ g k
read_same f g [] k e i = absurd i
read_same f g (p ∷ places) k e (inl is) = let heads : f p ≡ g p = cc in ap f is ∙ heads ∙ ap g (sym is)
read_same f g (p ∷ places) k e (inr i) = let tails : map f places ≡ map g places = cc in read_same f g places k tails i

net_path : (a b : Net) → a.names ≡ b.names → a.complexes ≡ b.complexes → a.reactions ≡ b.reactions → a ≡ b
net_path a b names complexes reactions =
    let first : List (List ℕ) → Net = λ t. record { names = t; complexes = a.complexes; reactions = a.reactions } in
    let second : List (List ℤ) → Net = λ t. record { names = b.names; complexes = t; reactions = a.reactions } in
    let third : List (ℕ × ℕ) → Net = λ t. record { names = b.names; complexes = b.complexes; reactions = t } in
    ap first names ∙ ap second complexes ∙ ap third reactions

-- complexes are numbered by first appearance, so the names and the reactions as amounts determine a network
network_unique : (a b : Net) → IsPartialNetwork a → IsPartialNetwork b → a.names ≡ b.names → map (sides_of a) a.reactions ≡ map (sides_of b) b.reactions → a ≡ b
network_unique a b p q names sides =
    let below = ends_below (length a.complexes) a.reactions p.apart in
    let under = ends_below (length b.complexes) b.reactions q.apart in
    let read : map (λ k. get_or a.complexes k []) (ends a.reactions) ≡ map (λ k. get_or b.complexes k []) (ends b.reactions) = read_ends a a.reactions ∙ ap (flat_map both) sides ∙ sym (read_ends b b.reactions) in
    let same : ends a.reactions ≡ ends b.reactions = same_places a.complexes b.complexes 0 (ends a.reactions) (ends b.reactions) p.complexes q.complexes below under (omega arith) (omega arith) (λ k lt. absurd (omega arith)) (appears_in_order (ends a.reactions) p.numbered) (appears_in_order (ends b.reactions) q.numbered) read in
    let in_b : (c : ℕ) → IsIn c (ends a.reactions) → IsIn c (ends b.reactions) = λ c i. subst (λ (t : List ℕ). IsIn c t) same i in
    let in_a : (c : ℕ) → IsIn c (ends b.reactions) → IsIn c (ends a.reactions) = λ c i. subst (λ (t : List ℕ). IsIn c t) (sym same) i in
    let ab = fits (length a.complexes) (length b.complexes) (ends b.reactions) (λ c lt. in_b c (p.each_in_a_reaction c lt)) under in
    let ba = fits (length b.complexes) (length a.complexes) (ends a.reactions) (λ c lt. in_a c (q.each_in_a_reaction c lt)) below in
    let again : map (λ k. get_or a.complexes k []) (ends a.reactions) ≡ map (λ k. get_or b.complexes k []) (ends a.reactions) = read ∙ ap (map (λ k. get_or b.complexes k [])) (sym same) in
    let complexes : a.complexes ≡ b.complexes = lists_same a.complexes b.complexes [] (omega arith) (λ k lt. read_same (λ i. get_or a.complexes i []) (λ i. get_or b.complexes i []) (ends a.reactions) k again (p.each_in_a_reaction k lt)) in
    net_path a b names complexes (ends_same a.reactions b.reactions same)

pub spelling_unique : (text : List ℕ) (net other : Net) → Spells text net → Spells text other → net ≡ other
spelling_unique text net other h i =
    let names : net.names ≡ other.names = h.names ∙ sym i.names in
    let said : firsts sides_eq (map (said_by net.names) (all_statements (lines text))) ≡ firsts sides_eq (map (said_by other.names) (all_statements (lines text))) = ap (λ (t : List (List ℕ)). firsts sides_eq (map (said_by t) (all_statements (lines text)))) names in
    network_unique net other h.network.partial i.network.partial names (h.reactions ∙ said ∙ sym i.reactions)
