-- The numbers of a record of one field, and the places of tests.
use Rattle.crn_document.proofs.Prelude.{◌≡◌, ◌≤◌, ◌<◌, ◌^◌, ◌++◌, ◌∙◌, ℕ, List, [], ◌∷◌, refl, sym, subst, ap, inl, inr, arith, ℤ, pos, negsuc, ints, append-nil, Test, FailsFirst, Record, Field, Takes, AreNarrow, AreOf, AreBetween, Fits, small, small_form, AreSmall, AreSmallAt}

-- ---- numbers

abbrev pub Holds : Field → List ℤ → Type 0
Holds field zs = Takes field zs × AreNarrow field zs

-- the numbers of one field
pub one_field : (field : Field) (zs : List ℤ) → AreOf Holds (field ∷ []) zs → Holds field zs
one_field field zs p = subst (λ (ys : List ℤ). Holds field ys) (sym (p.2 ∙ ap (λ (t : List ℤ). p.0 ++ t) p.4 ∙ append-nil p.0)) p.3

pub one_number : (least greatest : ℕ) (zs : List ℤ) → Holds (small 1 least greatest) zs → (n : ℕ) × (zs ≡ pos n ∷ []) × ((least ≤ n) × (n ≤ greatest))
one_number least greatest (pos n ∷ []) p = (n, refl, (omega (arith, ints, p.0.1.0.0), omega (arith, ints, p.0.1.0.1)))
one_number least greatest (negsuc n ∷ []) p = absurd (omega (arith, ints, p.0.1.0.0))
one_number least greatest zs p = absurd (let e = p.0.0 in omega (arith, e))

-- ---- the places of tests

-- the tests are of the head or of so many records
abbrev pub PartsWithin : ℕ → List {1} Test → Type 0
PartsWithin k [] = Unit {0}
PartsWithin k (t ∷ ts) = (t.part ≤ k) × PartsWithin k ts

pub part_within : (k : ℕ) (ts : List {1} Test) (part code : ℕ) → PartsWithin k ts → FailsFirst ts part code → part ≤ k
part_within k [] part code w f = absurd f
part_within k (t ∷ ts) part code w (inl f) = omega (arith, w.0, f.1)
part_within k (t ∷ ts) part code w (inr f) = part_within k ts part code w.1 f.1

-- ---- small numbers

pub small_list : (least greatest : ℕ) (zs : List ℤ) → greatest < 2 ^ 32 → AreBetween (pos least) (pos greatest) zs → AreSmall zs
small_list least greatest [] lt b = tt
small_list least greatest (negsuc n ∷ zs) lt b = absurd (omega (arith, ints, b.0.0))
small_list least greatest (pos n ∷ zs) lt b = (omega (arith, ints, lt, b.0.1), small_list least greatest zs lt b.1)

pub form_small : (word : List ℕ) (count least greatest : ℕ) (r : Record) → greatest < 2 ^ 32 → Fits (small_form word count least greatest) r → AreSmall r.numbers
form_small word count least greatest r lt f = let p = one_field (small count least greatest) r.numbers f.1 in small_list least greatest r.numbers lt p.0.1

pub none_small : (places : List ℕ) → AreSmallAt places []
none_small [] = tt
none_small (i ∷ is) = (tt, none_small is)
