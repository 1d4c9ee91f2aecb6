-- The numbers of a record, one after another.
use Rattle.crn_ctext.proofs.Prelude.{◌≡◌, ◌≤◌, ◌<◌, ◌+◌, ◌++◌, ◌↔◌, ℕ, suc, List, [], ◌∷◌, length, map, drop, get_or, refl, sym, ap, ap₂, subst, ◌∙◌, inl, inr, arith, ℤ, pos, negsuc, ◌≤ℤ◌, ◌<ℤ◌, slice_index, append-nil, drop_more, drop_all, cases_lt, AllByRecursion, ints, IsIn, IsAbove, IsAscending, above_ascending, ascending_tail, above_in, Field, Rising, ClassWide, Takes, AreOf, AreBetween, AreRising, small, AreMembers}
use Rattle.std.proofs.Common.{◌≢◌}

-- ---- rising numbers

-- ascending numbers above k, from 1 to the greatest
abbrev pub RisesAbove : (k greatest : ℕ) → List ℤ → Type 0
RisesAbove k greatest zs = (ns : List ℕ) × (zs ≡ map pos ns) × IsAbove k ns × AreBetween (pos 1) (pos greatest) zs

pub rises_more : (k greatest : ℕ) (z : ℤ) (zs : List ℤ) → pos k <ℤ z → z ≤ℤ pos greatest → (m : ℕ) × (z ≡ pos m) × (RisesAbove m greatest zs ↔ RisesAbove k greatest (z ∷ zs))
rises_more k greatest (negsuc n) zs low high = absurd (omega (arith, ints, low))
rises_more k greatest (pos m) zs low high = (m, refl, ((λ h. (m ∷ h.0, ap (λ t. pos m ∷ t) h.1, (omega (arith, ints, low), h.2), ((omega (arith, ints, low), high), h.3))), (λ h. back h.0 h.1 h.2 h.3)))
  where
    back : (ns : List ℕ) → pos m ∷ zs ≡ map pos ns → IsAbove k ns → AreBetween (pos 1) (pos greatest) (pos m ∷ zs) → RisesAbove m greatest zs
    back [] e a b = absurd cc
    back (n ∷ ns) e a b = let same : n ≡ m = cc in (ns, cc, subst (λ x. IsAbove x ns) same a.1, b.1)

pub rises_low : (k greatest : ℕ) (z : ℤ) (zs : List ℤ) → z ≤ℤ pos k → RisesAbove k greatest (z ∷ zs) → ⊥
rises_low k greatest z zs le h = none h.0 h.1 h.2
  where
    none : (ns : List ℕ) → z ∷ zs ≡ map pos ns → IsAbove k ns → ⊥
    none [] e a = cc
    none (n ∷ ns) e a = let is : z ≡ pos n = cc in let low : pos n ≤ℤ pos k = subst (λ x. x ≤ℤ pos k) is le in omega (arith, ints, low, a.0)

-- ---- ascending members

weaker : (m : ℕ) (ms ns : List ℕ) → AllByRecursion (λ n. IsIn n ms) ns → AllByRecursion (λ n. IsIn n (m ∷ ms)) ns
weaker m ms [] h = tt
weaker m ms (n ∷ ns) h = (inr h.0, weaker m ms ns h.1)

-- members above the first are members of the rest
stronger : (k m : ℕ) (ms ns : List ℕ) → m ≤ k → IsAbove k ns → AllByRecursion (λ n. IsIn n (m ∷ ms)) ns → AllByRecursion (λ n. IsIn n ms) ns
stronger k m ms [] le a h = tt
stronger k m ms (n ∷ ns) le a h = (elim h.0 [ inl same ↦ absurd (omega (arith, same, le, a.0)) | inr later ↦ later ], stronger n m ms ns (omega (arith, le, a.0)) a.1 h.1)

ascending_above : (k : ℕ) (ns ms : List ℕ) → IsAbove k ms → IsAscending ns → AllByRecursion (λ n. IsIn n ms) ns → IsAbove k ns
ascending_above k [] ms a b h = tt
ascending_above k (n ∷ ns) ms a b h = (above_in k ms a n h.0, b)

pub member_met : (m : ℕ) (ms : List ℕ) (z : ℤ) (zs : List ℤ) → IsAscending (m ∷ ms) → z ≡ pos m → AreMembers ms zs ↔ AreMembers (m ∷ ms) (z ∷ zs)
member_met m ms z zs a is = (
  (λ h. (m ∷ h.0, ap₂ (λ x t. x ∷ t) is h.1, ascending_above m h.0 ms a h.2 h.3, (inl refl, weaker m ms h.0 h.3))),
  (λ h. back h.0 h.1 h.2 h.3),
)
  where
    back : (ns : List ℕ) → z ∷ zs ≡ map pos ns → IsAscending ns → AllByRecursion (λ n. IsIn n (m ∷ ms)) ns → AreMembers ms zs
    back [] e b h = absurd cc
    back (n ∷ ns) e b h = let same : n ≡ m = let k : z ≡ pos n = cc in cc in (ns, cc, above_ascending n ns b, stronger n m ms ns (omega (arith, same)) b h.1)

-- the first of the numbers is not this
abbrev pub BeginsNot : ℤ → List ℤ → Type 0
BeginsNot x [] = Unit {0}
BeginsNot x (z ∷ zs) = z ≢ x

pub member_passed : (m : ℕ) (ms : List ℕ) (zs : List ℤ) → IsAscending (m ∷ ms) → BeginsNot (pos m) zs → AreMembers ms zs ↔ AreMembers (m ∷ ms) zs
member_passed m ms zs a ne = (
  (λ h. (h.0, h.1, h.2, weaker m ms h.0 h.3)),
  (λ h. (h.0, h.1, h.2, back h.0 zs h.1 ne h.2 h.3)),
)
  where
    back : (ns : List ℕ) (zs : List ℤ) → zs ≡ map pos ns → BeginsNot (pos m) zs → IsAscending ns → AllByRecursion (λ n. IsIn n (m ∷ ms)) ns → AllByRecursion (λ n. IsIn n ms) ns
    back [] zs e ne b h = tt
    back (n ∷ ns) [] e ne b h = absurd cc
    back (n ∷ ns) (z ∷ zs) e ne b h = elim h.0 [
      | inl same ↦ absurd (ne (let k : z ≡ pos n = cc in k ∙ ap pos same))
      | inr later ↦ (later, stronger n m ms ns (let lt = above_in m ms a n later in omega (arith, lt)) b h.1)
    ]

pub rest_ascends : (members : List ℕ) (i : ℕ) → i < length members → IsAscending (drop i members) → IsAscending (drop (i + 1) members)
rest_ascends members i lt a = ascending_tail (get_or members i 0) (drop (i + 1) members) (rw (drop_more members i 0 lt) at a)

pub members_met : (members : List ℕ) (numbers : List ℤ) (i j : ℕ) → i < length members → j < length numbers → IsAscending (drop i members) → get_or numbers j (pos 0) ≡ pos (get_or members i 0)
    → AreMembers (drop (i + 1) members) (drop (j + 1) numbers) ↔ AreMembers (drop i members) (drop j numbers)
members_met members numbers i j lt less a e = rw (drop_more members i 0 lt, drop_more numbers j (pos 0) less)
    (member_met (get_or members i 0) (drop (i + 1) members) (get_or numbers j (pos 0)) (drop (j + 1) numbers) (rw (drop_more members i 0 lt) at a) e)

pub members_passed : (members : List ℕ) (numbers : List ℤ) (i j : ℕ) → i < length members → IsAscending (drop i members) → (j < length numbers → get_or numbers j (pos 0) ≡ pos (get_or members i 0) → ⊥)
    → AreMembers (drop (i + 1) members) (drop j numbers) ↔ AreMembers (drop i members) (drop j numbers)
members_passed members numbers i j lt a none = rw (drop_more members i 0 lt)
    (member_passed (get_or members i 0) (drop (i + 1) members) (drop j numbers) (rw (drop_more members i 0 lt) at a) (elim (cases_lt j (length numbers)) [
      | inl less ↦ rw (drop_more numbers j (pos 0) less) (none less)
      | inr ge ↦ rw (drop_all j numbers ge) tt
    ]))

-- ---- fields, one after another

pub chain : {P Q R : Type 0} → P ↔ Q → Q ↔ R → P ↔ R
chain a b = ((λ p. b.0 (a.0 p)), (λ r. a.1 (b.1 r)))

-- what an answer says of the rest it says of the whole
pub through : {P Q R : Type 0} → P ↔ Q → R ↔ Q → P ↔ R
through a b = ((λ p. b.1 (a.0 p)), (λ r. a.1 (b.0 r)))

-- one field takes all numbers
pub alone : (field : Field) (zs : List ℤ) → AreOf Takes (field ∷ []) zs ↔ Takes field zs
alone field zs = (
  (λ h. subst (Takes field) (sym (h.2 ∙ ap (λ t. h.0 ++ t) h.4 ∙ append-nil h.0)) h.3),
  (λ t. (zs, [], sym (append-nil zs), t, refl)),
)

-- the class is known, and the rest is a coordinate and a basis
pub class_known : (species : ℕ) (reactions : List ℕ) (k : ℕ) (rest : List ℤ) → k < length reactions
    → AreOf Takes (small 1 1 (species + slice_index reactions k) ∷ Rising species (species + slice_index reactions k) ∷ []) rest ↔ Takes (ClassWide species reactions) (pos (suc k) ∷ rest)
class_known species reactions k rest lt = ((λ h. on h.0 h.1 h.2 h.3 h.4), (λ h. back h.0 h.1 h.2 h.3 h.5 h.6 h.7 h.8))
  where
    on : (prefix back : List ℤ) → rest ≡ prefix ++ back → Takes (small 1 1 (species + slice_index reactions k)) prefix → AreOf Takes (Rising species (species + slice_index reactions k) ∷ []) back → Takes (ClassWide species reactions) (pos (suc k) ∷ rest)
    on [] back e t h = absurd (let one : 0 ≡ 1 = t.0 in omega (arith, one))
    on (negsuc n ∷ prefix) back e t h = absurd (omega (arith, ints, t.1.0.0))
    on (pos n ∷ x ∷ prefix) back e t h = absurd (let one : length (pos n ∷ x ∷ prefix) ≡ 1 = t.0 in omega (arith, one))
    on (pos n ∷ []) back e t h =
        let rises = (alone (Rising species (species + slice_index reactions k)) back).0 h in
        (k, n, back, ap (λ t. pos (suc k) ∷ t) e, lt, omega (arith, ints, t.1.0.0), omega (arith, ints, t.1.0.1), rises.0, rises.1)

    back : (j n : ℕ) (basis : List ℤ) → pos (suc k) ∷ rest ≡ pos (suc j) ∷ pos n ∷ basis → 1 ≤ n → n ≤ species + slice_index reactions j → length basis ≡ species → AreRising (species + slice_index reactions j) basis
        → AreOf Takes (small 1 1 (species + slice_index reactions k) ∷ Rising species (species + slice_index reactions k) ∷ []) rest
    back j n basis e low high len rises =
        let same : j ≡ k = cc in
        let is : rest ≡ pos n ∷ basis = cc in
        let up : n ≤ species + slice_index reactions k = subst (λ i. n ≤ species + slice_index reactions i) same high in
        let more : AreRising (species + slice_index reactions k) basis = subst (λ i. AreRising (species + slice_index reactions i) basis) same rises in
        (pos n ∷ [], basis, is, (refl, ((omega (arith, ints, low), omega (arith, ints, up)), tt)), (alone (Rising species (species + slice_index reactions k)) basis).1 (len, more))

pub class_wide : (species : ℕ) (reactions : List ℕ) (numbers : List ℤ) (k : ℕ) (rest : List ℤ) → 0 < length numbers → get_or numbers 0 (pos 0) ≡ pos (suc k) → k < length reactions → rest ≡ drop 1 numbers
    → AreOf Takes (small 1 1 (species + slice_index reactions k) ∷ Rising species (species + slice_index reactions k) ∷ []) rest ↔ Takes (ClassWide species reactions) numbers
class_wide species reactions [] k rest some e lt is = absurd (omega (arith, some))
class_wide species reactions (z ∷ zs) k rest some e lt is = rw (e, is) (class_known species reactions k zs lt)

pub no_class_wide : (species : ℕ) (reactions : List ℕ) (numbers : List ℤ) → ((k : ℕ) → get_or numbers 0 (pos 0) ≡ pos (suc k) → k < length reactions → ⊥) → Takes (ClassWide species reactions) numbers → ⊥
no_class_wide species reactions numbers none h = none h.0 (ap (λ (t : List ℤ). get_or t 0 (pos 0)) h.3) h.4
