-- The species of a network appear in its canonical text in their order.
use Rattle.crn_text.proofs.Prelude.{◌≡◌, ℕ, zero, suc, ◌+◌, ◌<◌, ◌≤◌, List, [], ◌∷◌, ◌++◌, length, map, get_or, eqb, refl, sym, ap, ap₂, subst, ◌∙◌, append_assoc, add-one, inl, inr, arith, ℤ, pos, negsuc, ◌≤ℤ◌, flat_map, bytes_eq, cases_lt, Decides-eqb, ints, map-append, length_push, bytes_eq-Decides, get_or-append_seam, IsIn, firsts, Net, IsPartialNetwork, IsVector, IsHeldBefore, Holds, ends, firsts_map, all_at, same_place, same_test, in_flat_map, of_flat_map}
use Rattle.std.proofs.Common.{◌⊎◌}
use Rattle.crn_text.proofs.Complexes.{all_kept, upto, places_all, ends_are, numbers_are}
use Rattle.crn_text.proofs.Numbering.{AreAfter, known_or_first, after_known, after_append, in_order, in_upto, of_upto}

-- ---- what a complex holds

-- the names of which there is some, with their amounts
abbrev pub held : List (List ℕ) → List ℤ → List (List ℕ × ℕ)
held (name ∷ names) (pos (suc n) ∷ v) = (name, suc n) ∷ held names v
held (name ∷ names) (a ∷ v) = held names v
held (name ∷ names) [] = []
held [] v = []

-- the numbers of those species, if the first is number s
abbrev held_from : ℕ → List ℤ → List ℕ
held_from s (pos (suc n) ∷ v) = s ∷ held_from (suc s) v
held_from s (a ∷ v) = held_from (suc s) v
held_from s [] = []

held_at : (s : ℕ) (v : List ℤ) (k : ℕ) → IsIn k (held_from s v) → (j : ℕ) × (k ≡ s + j) × (pos 1 ≤ℤ get_or v j (pos 0))
held_at s [] k i = absurd i
held_at s (pos zero ∷ v) k i = let p = held_at (suc s) v k i in (suc p.0, omega (arith, p.1), p.2)
held_at s (negsuc n ∷ v) k i = let p = held_at (suc s) v k i in (suc p.0, omega (arith, p.1), p.2)
held_at s (pos (suc n) ∷ v) k (inl e) = (0, omega (arith, e), omega (arith, ints))
held_at s (pos (suc n) ∷ v) k (inr i) = let p = held_at (suc s) v k i in (suc p.0, omega (arith, p.1), p.2)

is_held : (s : ℕ) (v : List ℤ) (j k : ℕ) → k ≡ s + j → pos 1 ≤ℤ get_or v j (pos 0) → IsIn k (held_from s v)
is_held s [] j k e h = absurd (omega (arith, ints))
is_held s (pos zero ∷ v) zero k e h = absurd (omega (arith, ints))
is_held s (negsuc n ∷ v) zero k e h = absurd (omega (arith, ints))
is_held s (pos (suc n) ∷ v) zero k e h = inl (omega (arith, e))
is_held s (pos zero ∷ v) (suc j) k e h = is_held (suc s) v j k (omega (arith, e)) h
is_held s (negsuc n ∷ v) (suc j) k e h = is_held (suc s) v j k (omega (arith, e)) h
is_held s (pos (suc n) ∷ v) (suc j) k e h = inr (is_held (suc s) v j k (omega (arith, e)) h)

held_below : (v : List ℤ) (j : ℕ) → pos 1 ≤ℤ get_or v j (pos 0) → j < length v
held_below [] j h = absurd (omega (arith, ints))
held_below (a ∷ v) zero h = omega arith
held_below (a ∷ v) (suc j) h = let p = held_below v j h in omega (arith, p)

-- the names after one more
names_after : (prefix : List (List ℕ)) (x : List ℕ) (names : List (List ℕ)) (v : List ℤ) → length v ≡ length names → map (λ t. t.0) (held names v) ≡ map (λ s. get_or ((prefix ++ x ∷ []) ++ names) s []) (held_from (length (prefix ++ x ∷ [])) v)
    → map (λ t. t.0) (held names v) ≡ map (λ s. get_or (prefix ++ x ∷ names) s []) (held_from (suc (length prefix)) v)
names_after prefix x names v e h = h ∙ ap₂ (λ (t : List (List ℕ)) (n : ℕ). map (λ s. get_or t s []) (held_from n v)) (append_assoc prefix (x ∷ []) names) (length_push prefix x ∙ add-one (length prefix))

names_of_held : (prefix names : List (List ℕ)) (v : List ℤ) → length v ≡ length names → map (λ t. t.0) (held names v) ≡ map (λ s. get_or (prefix ++ names) s []) (held_from (length prefix) v)
names_of_held prefix [] [] e = refl
names_of_held prefix [] (a ∷ v) e = absurd (omega (arith, e))
names_of_held prefix (x ∷ names) [] e = absurd (omega (arith, e))
names_of_held prefix (x ∷ names) (pos zero ∷ v) e = names_after prefix x names v (omega (arith, e)) (names_of_held (prefix ++ x ∷ []) names v (omega (arith, e)))
names_of_held prefix (x ∷ names) (negsuc n ∷ v) e = names_after prefix x names v (omega (arith, e)) (names_of_held (prefix ++ x ∷ []) names v (omega (arith, e)))
names_of_held prefix (x ∷ names) (pos (suc n) ∷ v) e = ap₂ (λ (t : List ℕ) (ts : List (List ℕ)). t ∷ ts) (sym (get_or-append_seam prefix x names [])) (names_after prefix x names v (omega (arith, e)) (names_of_held (prefix ++ x ∷ []) names v (omega (arith, e))))

-- ---- complexes one after another

after_held : (P : ℕ → Type 0) (s : ℕ) (v : List ℤ) → ((t k : ℕ) → IsIn t (held_from s v) → k < t → P k ⊎ IsIn k (held_from s v)) → AreAfter P (held_from s v)
after_held P s [] h = tt
after_held P s (pos zero ∷ v) h = after_held P (suc s) v h
after_held P s (negsuc n ∷ v) h = after_held P (suc s) v h
after_held P s (pos (suc n) ∷ v) h = (
  λ k lt. elim (h s k (inl refl) lt) [ inl p ↦ p | inr i ↦ absurd (let p = held_at s (pos (suc n) ∷ v) k i in omega (arith, p.1)) ],
  after_held (λ k. P k ⊎ (k ≡ s)) (suc s) v (λ t k i lt. known_or_first P s (held_from (suc s) v) k (h t k (inr i) lt)),
)

-- the numbers of the species that complex c holds
abbrev species_of : Net → ℕ → List ℕ
species_of net c = held_from 0 (get_or net.complexes c [])

before_or_here : (net : Net) (c k : ℕ) → IsHeldBefore net (suc c) k → IsHeldBefore net c k ⊎ IsIn k (species_of net c)
before_or_here net c k h = elim (cases_lt h.0 c) [
  | inl less ↦ inl (h.0, less, h.2)
  | inr most ↦ let is : h.0 ≡ c = let lt = h.1 in omega arith in inr (is_held 0 (get_or net.complexes c []) k k (omega arith) (subst (λ (b : ℕ). Holds net b k) is h.2))
]

holds : (net : Net) (c k : ℕ) → IsIn k (species_of net c) → Holds net c k
holds net c k i =
    let p = held_at 0 (get_or net.complexes c []) k i in
    let is : p.0 ≡ k = let e = p.1 in omega arith in
    subst (λ (j : ℕ). Holds net c j) is p.2

species_below : (net : Net) (c k : ℕ) → IsPartialNetwork net → c < length net.complexes → Holds net c k → k < length net.names
species_below net c k h lt here =
    let vector = all_at (IsVector (length net.names)) net.complexes c [] h.vectors lt in
    let p = held_below (get_or net.complexes c []) k here in
    omega (arith, vector.0, p)

after_complexes : (net : Net) (c n : ℕ) → IsPartialNetwork net → c + n ≤ length net.complexes → AreAfter (IsHeldBefore net c) (flat_map (species_of net) (upto c n))
after_complexes net c zero h le = tt
after_complexes net c (suc n) h le =
    let lt : c < length net.complexes = omega arith in
    after_append (IsHeldBefore net c) (species_of net c) (flat_map (species_of net) (upto (suc c) n))
    (after_held (IsHeldBefore net c) 0 (get_or net.complexes c []) (λ t k i less.
    let here = holds net c t i in
    before_or_here net c k (h.species_in_order (suc c) k t (omega arith) less (species_below net c t h lt here) (c, omega arith, here))))
    (after_known (IsHeldBefore net (suc c)) (λ k. IsHeldBefore net c k ⊎ IsIn k (species_of net c)) (flat_map (species_of net) (upto (suc c) n)) (before_or_here net c) (after_complexes net (suc c) n h (omega arith)))

below_all : (net : Net) (s : ℕ) → IsPartialNetwork net → IsIn s (flat_map (species_of net) (upto 0 (length net.complexes))) → s < length net.names
below_all net s h i =
    let p = of_flat_map (species_of net) (upto 0 (length net.complexes)) s i in
    let lt = of_upto 0 (length net.complexes) p.0 p.1 in
    species_below net p.0 s h (omega arith) (holds net p.0 s p.2)

species_are : (net : Net) → IsPartialNetwork net → firsts eqb (flat_map (species_of net) (upto 0 (length net.complexes))) ≡ upto 0 (length net.names)
species_are net h =
    let n = length net.complexes in
    numbers_are (length net.names) (flat_map (species_of net) (upto 0 n))
    (in_order (IsHeldBefore net 0) 0 (flat_map (species_of net) (upto 0 n)) (λ k p. absurd (let lt = p.1 in omega arith)) (after_complexes net 0 n h (omega arith)))
    (λ s lt. let p = h.each_in_a_complex s lt in in_flat_map (species_of net) (upto 0 n) p.0 s (in_upto 0 n p.0 (omega arith) (let l = p.1 in omega arith)) (is_held 0 (get_or net.complexes p.0 []) s s (omega arith) p.2))
    (λ s i. below_all net s h i)

-- ---- names

-- the names that complex c holds
abbrev pub names_at : Net → ℕ → List (List ℕ)
names_at net c = map (λ t. t.0) (held net.names (get_or net.complexes c []))

names_flat : (net : Net) (a n : ℕ) → IsPartialNetwork net → a + n ≤ length net.complexes → flat_map (names_at net) (upto a n) ≡ map (λ s. get_or net.names s []) (flat_map (species_of net) (upto a n))
names_flat net a zero h le = refl
names_flat net a (suc n) h le =
    let vector = all_at (IsVector (length net.names)) net.complexes a [] h.vectors (omega arith) in
    ap₂ (λ (t u : List (List ℕ)). t ++ u) (names_of_held [] net.names (get_or net.complexes a []) vector.0) (names_flat net (suc a) n h (omega arith))
    ∙ sym (map-append (λ s. get_or net.names s []) (species_of net a) (flat_map (species_of net) (upto (suc a) n)))

-- the names of the species by first appearance in the ends of the reactions are those of the network
pub names_are : (net : Net) → IsPartialNetwork net → firsts bytes_eq (flat_map (names_at net) (ends net.reactions)) ≡ net.names
names_are net h =
    let n = length net.complexes in
    let at : ℕ → List ℕ = λ s. get_or net.names s [] in
    let all : List ℕ = flat_map (species_of net) (upto 0 n) in
    let test : (s t : ℕ) → IsIn s all → IsIn t all → bytes_eq (at s) (at t) ≡ eqb s t = λ s t i j.
    same_test (bytes_eq (at s) (at t)) (eqb s t) (at s ≡ at t) (s ≡ t) (bytes_eq-Decides (at s) (at t)) (Decides-eqb s t) (same_place net.names s t [] h.names (below_all net s h i) (below_all net t h j)) (ap at) in
    sym (all_kept eqb Decides-eqb bytes_eq bytes_eq-Decides (names_at net) (ends net.reactions) [])
    ∙ ap (λ (cs : List ℕ). firsts bytes_eq (flat_map (names_at net) cs)) (ends_are net h)
    ∙ ap (firsts bytes_eq) (names_flat net 0 n h (omega arith))
    ∙ firsts_map eqb bytes_eq at all test
    ∙ ap (map at) (species_are net h)
    ∙ places_all net.names []
