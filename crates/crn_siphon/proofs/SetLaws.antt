-- Sets of species as words of bits, their members, and the prefixes that they mark.
use Rattle.crn_siphon.proofs.Prelude.{◌≡◌, ◌≢◌, ◌<◌, ◌≤◌, ◌+◌, ◌==◌, ℕ, zero, suc, inl, inr, Bool, true, false, List, [], ◌∷◌, ◌++◌, length, get_or, refl, sym, ap, ap₂, subst, ◌∙◌, min, max, ◌/◌, ◌%◌, arith, ◌↔◌, bit_at, bit_and, bit_or, get_or-append, false≢true, eq-eqb, eqb-true, get_or_push, get_or_past, length-append, bit_at-zero, bit_at-lt, bit_at_and, bit_at_or, bit_at_lowest, bit_at-suc, same_from_bits, eq_or, lt_or, HasMember, IsOut, SpeciesSet, Place, Has, members, IsPlace}

-- ---- bits of two words

-- a word that is not 0 has a bit
some_bit : (n fuel : ℕ) → n ≤ fuel → 0 < n → (s : ℕ) × (bit_at n s ≡ 1)
some_bit n zero le lt = absurd (omega (arith, le, lt))
some_bit n (suc fuel) le lt = elim (eq_or (n % 2) 1) as (λ _. (s : ℕ) × (bit_at n s ≡ 1)) [
  | inl e ↦ (0, bit_at_lowest n ∙ e)
  | inr ne ↦ let half = some_bit (n / 2) fuel (omega (arith, le, lt)) (omega (arith, lt, ne)) in (suc half.0, bit_at-suc n half.0 ∙ half.1)
]

-- what both words have is some bit, or none
pub common_bit : (a b : ℕ) → 0 < bit_and a b → (s : ℕ) × (bit_at a s ≡ 1) × (bit_at b s ≡ 1)
common_bit a b some =
    let t = some_bit (bit_and a b) (bit_and a b) (omega arith) some in
    let one : min (bit_at a t.0) (bit_at b t.0) ≡ 1 = sym (bit_at_and a b t.0) ∙ t.1 in
    (t.0, omega (arith, one, bit_at-lt a t.0, bit_at-lt b t.0), omega (arith, one, bit_at-lt a t.0, bit_at-lt b t.0))

pub no_common : (a b s : ℕ) → bit_and a b ≡ 0 → bit_at a s ≡ 1 → bit_at b s ≡ 1 → ⊥
no_common a b s e p q =
    let none : min (bit_at a s) (bit_at b s) ≡ 0 = sym (bit_at_and a b s) ∙ ap (λ (n : ℕ). bit_at n s) e ∙ bit_at-zero s in
    omega (arith, none, p, q)

-- the bits of one word are bits of another just if they add none to it
pub bit_within : (a b s : ℕ) → bit_or a b ≡ b → bit_at a s ≡ 1 → bit_at b s ≡ 1
bit_within a b s e p =
    let most : max (bit_at a s) (bit_at b s) ≡ bit_at b s = sym (bit_at_or a b s) ∙ ap (λ (n : ℕ). bit_at n s) e in
    omega (arith, most, p, bit_at-lt b s)

more_bit : (x y : ℕ) → x < 2 → y < 2 → (x ≡ 1 → y ≡ 1) → max x y ≡ y
more_bit zero y lx ly h = omega arith
more_bit (suc zero) y lx ly h = omega (arith, h refl)
more_bit (suc (suc x)) y lx ly h = absurd (omega (arith, lx))

pub within_or : (a b : ℕ) → ((s : ℕ) → bit_at a s ≡ 1 → bit_at b s ≡ 1) → bit_or a b ≡ b
within_or a b h = same_from_bits (bit_or a b) b (λ i. bit_at_or a b i ∙ more_bit (bit_at a i) (bit_at b i) (bit_at-lt a i) (bit_at-lt b i) (h i))

-- ---- members

pub length-members : (set : SpeciesSet) (n : ℕ) → length (members set n) ≡ n
length-members set zero = refl
length-members set (suc n) = omega (arith, length-append (members set n) ((bit_at set.bits n == 1) ∷ []), length-members set n)

member_is : (set : SpeciesSet) (n s : ℕ) → s < n → get_or (members set n) s false ≡ (bit_at set.bits s == 1)
member_is set zero s lt = absurd (omega (arith, lt))
member_is set (suc n) s lt = elim (eq_or s n) as (λ _. get_or (members set (suc n)) s false ≡ (bit_at set.bits s == 1)) [
  | inl e ↦ subst (λ (k : ℕ). get_or (members set (suc n)) k false ≡ (bit_at set.bits k == 1)) (sym e) (get_or_push (members set n) (bit_at set.bits n == 1) false n (length-members set n))
  | inr ne ↦ get_or-append (members set n) ((bit_at set.bits n == 1) ∷ []) false s (omega (arith, lt, ne, length-members set n)) ∙ member_is set n s (omega (arith, lt, ne))
]

pub member_has : (set : SpeciesSet) (n s : ℕ) → HasMember (members set n) s → Has set s
member_has set n s m = elim (lt_or s n) as (λ _. Has set s) [
  | inl lt ↦ eqb-true (bit_at set.bits s) 1 (sym (member_is set n s lt) ∙ m)
  | inr past ↦ absurd (false≢true (sym (get_or_past (members set n) s false (omega (arith, past, length-members set n))) ∙ m))
]

pub has_member : (set : SpeciesSet) (n s : ℕ) → s < n → Has set s → HasMember (members set n) s
has_member set n s lt h = member_is set n s lt ∙ eq-eqb (bit_at set.bits s) 1 h

-- ---- prefixes

same_bool : (a b : Bool) → (a ≡ true → b ≡ true) → (b ≡ true → a ≡ true) → a ≡ b
same_bool true true f g = refl
same_bool true false f g = sym (f refl)
same_bool false true f g = g refl
same_bool false false f g = refl

same_list : (p q : List Bool) → length p ≡ length q → ((s : ℕ) → s < length p → get_or p s false ≡ get_or q s false) → p ≡ q
same_list [] [] l h = refl
same_list [] (c ∷ q) l h = absurd (omega (arith, l))
same_list (b ∷ p) [] l h = absurd (omega (arith, l))
same_list (b ∷ p) (c ∷ q) l h = ap₂ (λ (x : Bool) (t : List Bool). x ∷ t) (h 0 (omega arith)) (same_list p q (omega (arith, l)) (λ s lt. h (suc s) (omega (arith, lt))))

-- a species that is in is chosen
pub member_inside : (p : List Bool) (s : ℕ) → HasMember p s → s < length p
member_inside p s m = elim (lt_or s (length p)) as (λ _. s < length p) [
  | inl lt ↦ lt
  | inr past ↦ absurd (false≢true (sym (get_or_past p s false past) ∙ m))
]

-- the members among the species that are chosen are the prefix
pub members_are : (place : Place) (p : List Bool) → IsPlace place p → members place.inside place.chosen ≡ p
members_are place p is = same_list (members place.inside place.chosen) p (length-members place.inside place.chosen ∙ is.chosen) (λ s lt.
    let inside : s < place.chosen = omega (arith, lt, length-members place.inside place.chosen) in
    same_bool (get_or (members place.inside place.chosen) s false) (get_or p s false)
    (λ m. (is.inside s).0 (member_has place.inside place.chosen s m))
    (λ m. has_member place.inside place.chosen s inside ((is.inside s).1 m)))

-- ---- children

-- in a longer prefix the members are those of the prefix, and the last species if it is in
pub member_before : (p : List Bool) (b : Bool) (s : ℕ) → s ≢ length p → get_or (p ++ b ∷ []) s false ≡ get_or p s false
member_before [] b zero ne = absurd (ne refl)
member_before [] b (suc s) ne = refl
member_before (a ∷ p) b zero ne = refl
member_before (a ∷ p) b (suc s) ne = member_before p b s (λ e. ne (ap suc e))

pub out_before : (p : List Bool) (b : Bool) (s : ℕ) → s ≢ length p → get_or (p ++ b ∷ []) s true ≡ get_or p s true
out_before [] b zero ne = absurd (ne refl)
out_before [] b (suc s) ne = refl
out_before (a ∷ p) b zero ne = refl
out_before (a ∷ p) b (suc s) ne = out_before p b s (λ e. ne (ap suc e))

pub last_is : (p : List Bool) (b d : Bool) → get_or (p ++ b ∷ []) (length p) d ≡ b
last_is p b d = get_or_push p b d (length p) refl

-- a set with one more bit, or as it was, marks a longer prefix
pub child_place : (place next : Place) (p : List Bool) (b : Bool) → IsPlace place p → next.chosen ≡ place.chosen + 1
    → ((s : ℕ) → s ≢ place.chosen → Has next.inside s ↔ Has place.inside s) → ((s : ℕ) → s ≢ place.chosen → Has next.outside s ↔ Has place.outside s)
    → (Has next.inside place.chosen ↔ b ≡ true) → (Has next.outside place.chosen ↔ b ≡ false) → IsPlace next (p ++ b ∷ [])
child_place place next p b is count inside outside here out = record {
  chosen = count ∙ omega (arith, is.chosen, length-append p (b ∷ []));
  inside = λ s. elim (eq_or s (length p)) as (λ _. Has next.inside s ↔ HasMember (p ++ b ∷ []) s) [
    | inl e ↦
        let at : s ≡ place.chosen = e ∙ sym is.chosen in
        let last : get_or (p ++ b ∷ []) s false ≡ b = ap (λ (k : ℕ). get_or (p ++ b ∷ []) k false) e ∙ last_is p b false in
        (λ h. last ∙ here.0 (subst (Has next.inside) at h), λ m. subst (Has next.inside) (sym at) (here.1 (sym last ∙ m)))
    | inr ne ↦
        let apart : s ≢ place.chosen = λ e. ne (e ∙ is.chosen) in
        let same = member_before p b s ne in
        (λ h. same ∙ (is.inside s).0 ((inside s apart).0 h), λ m. (inside s apart).1 ((is.inside s).1 (sym same ∙ m)))
  ];
  outside = λ s. elim (eq_or s (length p)) as (λ _. Has next.outside s ↔ IsOut (p ++ b ∷ []) s) [
    | inl e ↦
        let at : s ≡ place.chosen = e ∙ sym is.chosen in
        let last : get_or (p ++ b ∷ []) s true ≡ b = ap (λ (k : ℕ). get_or (p ++ b ∷ []) k true) e ∙ last_is p b true in
        (λ h. last ∙ out.0 (subst (Has next.outside) at h), λ m. subst (Has next.outside) (sym at) (out.1 (sym last ∙ m)))
    | inr ne ↦
        let apart : s ≢ place.chosen = λ e. ne (e ∙ is.chosen) in
        let same = out_before p b s ne in
        (λ h. same ∙ (is.outside s).0 ((outside s apart).0 h), λ m. (outside s apart).1 ((is.outside s).1 (sym same ∙ m)))
  ];
}
