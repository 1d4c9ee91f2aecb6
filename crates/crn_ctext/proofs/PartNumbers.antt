-- The numbers of a part's records, from the fields that they fit: small ones, and the first of several.
use Rattle.crn_ctext.proofs.Prelude.{◌≡◌, ◌≤◌, ◌++◌, ◌∙◌, ℕ, List, [], ◌∷◌, length, map, refl, sym, ap, arith, ℤ, pos, negsuc, ints, append-nil, length-map, IsAscending, AreFrom, Field, Rising, Takes, AreNarrow, AreOf, AreBetween, small}
use Rattle.crn_ctext.proofs.FieldsTyped.{naturals}
use Rattle.crn_ctext.proofs.FieldsSaid.{between}

-- numbers that fit fields
abbrev pub FitFields : List Field → List ℤ → Type 0
FitFields fields zs = AreOf (λ field part. Takes field part × AreNarrow field part) fields zs

-- one number, and then others
pub number_then : (least greatest n : ℕ) (fields : List Field) (zs : List ℤ) → least ≤ n → n ≤ greatest → FitFields fields zs → FitFields (small 1 least greatest ∷ fields) (pos n ∷ zs)
number_then least greatest n fields zs a b f = (pos n ∷ [], zs, refl, ((refl, ((omega (arith, ints, a), omega (arith, ints, b)), tt)), tt), f)

pub rising_fits : (count greatest : ℕ) (xs : List ℕ) → AreFrom count 1 greatest xs → IsAscending xs → FitFields (Rising count greatest ∷ []) (map pos xs)
rising_fits count greatest xs p up =
    let long = p.long in
    let each = p.each in
    (map pos xs, [], sym (append-nil (map pos xs)), ((length-map xs pos ∙ long, (xs, refl, up, between 1 greatest xs each)), tt), refl)

pub small_numbers : (count least greatest : ℕ) (zs : List ℤ) → FitFields (small count least greatest ∷ []) zs → (xs : List ℕ) × (zs ≡ map pos xs) × AreFrom count least greatest xs
small_numbers count least greatest zs p =
    let all : zs ≡ p.0 = p.2 ∙ ap (λ (t : List ℤ). p.0 ++ t) p.4 ∙ append-nil p.0 in
    let back = naturals least greatest p.0 p.3.0.1 in
    (back.0, all ∙ back.1, record { long = sym (length-map back.0 pos) ∙ sym (ap length back.1) ∙ p.3.0.0; each = back.2 })

pub one_number : (least greatest : ℕ) (zs : List ℤ) → FitFields (small 1 least greatest ∷ []) zs → (n : ℕ) × (zs ≡ pos n ∷ []) × ((least ≤ n) × (n ≤ greatest))
one_number least greatest zs p = by (small_numbers 1 least greatest zs p)
  where
    by : ((xs : List ℕ) × (zs ≡ map pos xs) × AreFrom 1 least greatest xs) → (n : ℕ) × (zs ≡ pos n ∷ []) × ((least ≤ n) × (n ≤ greatest))
    by ([], e, f) = absurd (let l = f.long in omega (arith, l))
    by (n ∷ [], e, f) = (n, e, (let a = f.each in a.0))
    by (n ∷ m ∷ xs, e, f) = absurd (let l = f.long in omega (arith, l))

pub number_fits : (most n : ℕ) → 1 ≤ n → n ≤ most → FitFields (small 1 1 most ∷ []) (pos n ∷ [])
number_fits most n a b = (pos n ∷ [], [], refl, ((refl, ((omega (arith, ints, a), omega (arith, ints, b)), tt)), tt), refl)

-- the first number, and the others
pub number_back : (least greatest : ℕ) (fields : List Field) (zs : List ℤ) → FitFields (small 1 least greatest ∷ fields) zs → (n : ℕ) × (rest : List ℤ) × (zs ≡ pos n ∷ rest) × ((least ≤ n) × (n ≤ greatest)) × FitFields fields rest
number_back least greatest fields zs f = by f.0 f.2 f.3.0.0 f.3.0.1
  where
    by : (prefix : List ℤ) → zs ≡ prefix ++ f.1 → length prefix ≡ 1 → AreBetween (pos least) (pos greatest) prefix → (n : ℕ) × (rest : List ℤ) × (zs ≡ pos n ∷ rest) × ((least ≤ n) × (n ≤ greatest)) × FitFields fields rest
    by [] e l b = absurd (omega (arith, l))
    by (x ∷ y ∷ prefix) e l b = absurd (omega (arith, l))
    by (negsuc n ∷ []) e l b = absurd (omega (arith, ints, b.0.0))
    by (pos n ∷ []) e l b = (n, f.1, e, (omega (arith, ints, b.0.0), omega (arith, ints, b.0.1)), f.4)
