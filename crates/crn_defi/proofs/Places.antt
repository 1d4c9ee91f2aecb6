-- The complexes and reactions of a linkage class.
use Rattle.crn_defi.proofs.Prelude.{◌≡◌, ◌≢◌, ◌⊎◌, ℕ, suc, ◌+◌, ◌-◌, ◌<◌, ◌≤◌, ◌==◌, inl, inr, Bool, List, [], ◌∷◌, ◌++◌, length, get_or, refl, sym, ap, ◌∙◌, arith, filter, range_with_len, cases_Bool, eqb-true, eq-eqb, ne_eqb, length-map, KeptNums, IsIn, IsAscending, Net, IsNetwork, reaction_vector, ends, IsLabelled, class_reactions, class_vectors, class_members, in_range, filter_has, filter_from, filter_ascending, range_more, filter_yes, filter_no, range_ascending, range_bounds, first_stays, first_goes, Classes, Earlier, Q1, vector_of, vectors_of, class_vectors_are, one_label, reactions_of, IsClass}

-- ---- the complexes of a class

abbrev pub complexes_at : List ℕ → ℕ → List ℕ
complexes_at labels k = filter (λ y. get_or labels y 0 == k) (range_with_len 0 (length labels))

size_from : (labels ls : List ℕ) (k a : ℕ) → ((i : ℕ) → i < length ls → get_or labels (a + i) 0 ≡ get_or ls i 0)
    → length (filter (λ y. get_or labels y 0 == k) (range_with_len a (length ls))) ≡ length (class_members ls k)
size_from labels [] k a h = refl
size_from labels (l ∷ ls) k a h =
    let p : ℕ → Bool = λ y. get_or labels y 0 == k in
    let q : ℕ → Bool = λ l. l == k in
    let later = range_with_len (a + 1) (length ls) in
    let here : get_or labels a 0 ≡ l = ap (λ (j : ℕ). get_or labels j 0) (omega arith) ∙ h 0 (omega arith) in
    let rest = size_from labels ls k (a + 1) (λ i lt. ap (λ (j : ℕ). get_or labels j 0) (omega arith) ∙ h (suc i) (omega (arith, lt))) in
    elim (cases_Bool (q l)) as (λ _. length (filter p (a ∷ later)) ≡ length (class_members (l ∷ ls) k)) [
      | inl hit ↦ ap length (first_stays p a later (ap q here ∙ hit)) ∙ ap suc rest ∙ ap length (sym (first_stays q l ls hit))
      | inr miss ↦ ap length (first_goes p a later (ap q here ∙ miss)) ∙ rest ∙ ap length (sym (first_goes q l ls miss))
    ]

pub size_is : (labels : List ℕ) (k : ℕ) → length (complexes_at labels k) ≡ length (class_members labels k)
size_is labels k = size_from labels labels k 0 (λ i lt. ap (λ (j : ℕ). get_or labels j 0) (omega arith))

pub in_class : (labels : List ℕ) (k y : ℕ) → y < length labels → get_or labels y 0 ≡ k → IsIn y (complexes_at labels k)
in_class labels k y lt e = filter_has (λ y. get_or labels y 0 == k) (range_with_len 0 (length labels)) y (in_range y 0 (length labels) (omega arith) (omega (arith, lt))) (eq-eqb (get_or labels y 0) k e)

-- ---- the reactions of a class

pub class_reaction : (net : Net) (labels : List ℕ) (k : ℕ) (r : ℕ × ℕ) → IsIn r (class_reactions net labels k) → IsIn r net.reactions × (get_or labels r.0 0 ≡ k)
class_reaction net labels k r i = let f = filter_from (λ r. get_or labels r.0 0 == k) net.reactions r i in (f.0, eqb-true (get_or labels r.0 0) k f.1)

end_of : (rs : List (ℕ × ℕ)) (c : ℕ) → IsIn c (ends rs) → (r : ℕ × ℕ) × IsIn r rs × ((c ≡ r.0) ⊎ (c ≡ r.1))
end_of [] c i = absurd i
end_of (r ∷ rs) c (inl e) = (r, inl refl, inl e)
end_of (r ∷ rs) c (inr (inl e)) = (r, inl refl, inr e)
end_of (r ∷ rs) c (inr (inr i)) = let f = end_of rs c i in (f.0, inr f.1, f.2)

some_if_in : {A : Type 0} (x : A) (xs : List A) → IsIn x xs → 1 ≤ length xs
some_if_in x [] i = absurd i
some_if_in x (y ∷ ys) i = omega arith

-- a class has a reaction
pub class_some : (net : Net) (labels : List ℕ) (k : ℕ) → IsNetwork net → IsLabelled net labels → IsClass labels k → 1 ≤ length (class_reactions net labels k)
class_some net labels k n l (y, lt, e) =
    let f = end_of net.reactions y (n.partial.each_in_a_reaction y (omega (arith, lt, l.long))) in
    let same : get_or labels f.0.0 0 ≡ get_or labels f.0.1 0 = one_label net labels n l f.0.0 f.0.1 f.1 in
    let here : get_or labels f.0.0 0 ≡ k = elim f.2 as (λ _. get_or labels f.0.0 0 ≡ k) [
      | inl g ↦ ap (λ (c : ℕ). get_or labels c 0) (sym g) ∙ e
      | inr g ↦ same ∙ ap (λ (c : ℕ). get_or labels c 0) (sym g) ∙ e
    ] in
    some_if_in f.0 (class_reactions net labels k) (filter_has (λ r. get_or labels r.0 0 == k) net.reactions f.0 f.1 (eq-eqb (get_or labels f.0.0 0) k here))

-- the vectors of a class by the numbers of its reactions
pub vectors_are : (net : Net) (labels : List ℕ) (k : ℕ) → vectors_of net (reactions_of net labels k) ≡ class_vectors net labels k
vectors_are net labels k =
    let kept : KeptNums = record { list = labels; spare = 0 } in
    let earlier : Earlier = (Q1, Classes 0 kept) ∷ [] in
    class_vectors_are net earlier k

pub reactions_count : (net : Net) (labels : List ℕ) (k : ℕ) → length (reactions_of net labels k) ≡ length (class_reactions net labels k)
reactions_count net labels k =
    sym (length-map (reactions_of net labels k) (vector_of net)) ∙ ap length (vectors_are net labels k) ∙ length-map (class_reactions net labels k) (reaction_vector net)

pub reactions_ascend : (net : Net) (labels : List ℕ) (k : ℕ) → IsAscending (reactions_of net labels k)
reactions_ascend net labels k = filter_ascending (λ r. get_or labels (get_or net.reactions (r - 1) (0, 0)).0 0 == k) (range_with_len 1 (length net.reactions)) (range_ascending 1 (length net.reactions))

pub reactions_inside : (net : Net) (labels : List ℕ) (k r : ℕ) → IsIn r (reactions_of net labels k) → (1 ≤ r) × (r ≤ length net.reactions)
reactions_inside net labels k r i =
    let f = filter_from (λ r. get_or labels (get_or net.reactions (r - 1) (0, 0)).0 0 == k) (range_with_len 1 (length net.reactions)) r i in
    let b = range_bounds r 1 (length net.reactions) f.0 in
    (b.0, omega (arith, b.1))

-- ---- one more at the end

-- the reactions of a class among the first of the network
abbrev pub before : Net → List ℕ → ℕ → ℕ → List ℕ
before net labels k n = filter (λ r. get_or labels (get_or net.reactions (r - 1) (0, 0)).0 0 == k) (range_with_len 1 n)

test_at : (net : Net) (labels : List ℕ) (k r c : ℕ) → c ≡ (get_or net.reactions r (0, 0)).0 → (get_or labels (get_or net.reactions (r + 1 - 1) (0, 0)).0 0 == k) ≡ (get_or labels c 0 == k)
test_at net labels k r c e =
    let back : r + 1 - 1 ≡ r = omega arith in
    ap (λ (j : ℕ). get_or labels (get_or net.reactions j (0, 0)).0 0 == k) back ∙ ap (λ (y : ℕ). get_or labels y 0 == k) (sym e)

pub before_yes : (net : Net) (labels : List ℕ) (k r c : ℕ) → c ≡ (get_or net.reactions r (0, 0)).0 → get_or labels c 0 ≡ k → before net labels k (r + 1) ≡ before net labels k r ++ (r + 1) ∷ []
before_yes net labels k r c e h =
    let p : ℕ → Bool = λ r. get_or labels (get_or net.reactions (r - 1) (0, 0)).0 0 == k in
    ap (filter p) (range_more 1 r (r + 1) (omega arith)) ∙ filter_yes p (range_with_len 1 r) (r + 1) (test_at net labels k r c e ∙ eq-eqb (get_or labels c 0) k h)

pub before_no : (net : Net) (labels : List ℕ) (k r c : ℕ) → c ≡ (get_or net.reactions r (0, 0)).0 → get_or labels c 0 ≢ k → before net labels k (r + 1) ≡ before net labels k r
before_no net labels k r c e h =
    let p : ℕ → Bool = λ r. get_or labels (get_or net.reactions (r - 1) (0, 0)).0 0 == k in
    ap (filter p) (range_more 1 r (r + 1) (omega arith)) ∙ filter_no p (range_with_len 1 r) (r + 1) (test_at net labels k r c e ∙ ne_eqb (get_or labels c 0) k h)
