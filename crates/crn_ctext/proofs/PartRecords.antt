-- The records of a part, one by one: what a record that fits a form is, and that those of formed answers fit and are plain.
use Rattle.crn_ctext.proofs.Prelude.{◌≡◌, ◌≤◌, ◌+◌, ◌++◌, ◌^◌, ◌⊎◌, ℕ, true, List, [], ◌∷◌, length, map, refl, sym, ap, subst, ◌∙◌, inl, inr, arith, ℤ, pos, ◌≤ℤ◌, append-nil, length-map, Net, IsNetwork, AreBits, AreFrom, IsBasisOf, Record, Form, Field, Rising, Fits, small, record_form, small_form, free_form, IsOneOf, one_word}
use Rattle.crn_ctext.proofs.Bounded.{IsPlain, IsBounded, words_fit, fitting_is_plain}
use Rattle.crn_ctext.proofs.RanksLinked.{record_is}
use Rattle.crn_ctext.proofs.PartNumbers.{FitFields, number_back, number_then, rising_fits, one_number}
use Rattle.crn_ctext.proofs.FieldsTyped.{rising, between_bits}
use Rattle.crn_ctext.proofs.FieldsSaid.{between, bits}

-- a record that fits one form
pub only : (form : Form) (r : Record) → IsOneOf (form ∷ []) r → Fits form r
only form r (f, inl e, fits) = subst (λ (x : Form). Fits x r) e fits
only form r (f, inr none, fits) = absurd none

-- ---- numbers

-- a form without numbers
pub bare_back : (word : List ℕ) (r : Record) → Fits (record_form word []) r → r ≡ one_word word []
bare_back word r f = record_is r (word ∷ []) [] f.0 f.1

-- a form of one number
pub one_back : (word : List ℕ) (least most : ℕ) (r : Record) → Fits (small_form word 1 least most) r → (k : ℕ) × (r ≡ one_word word (pos k ∷ [])) × ((least ≤ k) × (k ≤ most))
one_back word least most r f =
    let n = one_number least most r.numbers f.1 in
    (n.0, record_is r (word ∷ []) (pos n.0 ∷ []) f.0 n.1, n.2)

-- marks
pub bits_back : (word : List ℕ) (count : ℕ) (r : Record) → Fits (small_form word count 0 1) r → (r ≡ one_word word r.numbers) × AreBits count r.numbers
bits_back word count r f =
    let p = f.1 in
    let all : p.0 ≡ r.numbers = sym (p.2 ∙ ap (λ (t : List ℤ). p.0 ++ t) p.4 ∙ append-nil p.0) in
    (record_is r (word ∷ []) r.numbers f.0 refl, subst (AreBits count) all (record { long = p.3.0.0; each = between_bits p.0 p.3.0.1 }))

pub bits_fit : (word : List ℕ) (count : ℕ) (zs : List ℤ) → AreBits count zs → Fits (small_form word count 0 1) (one_word word zs)
bits_fit word count zs b =
    let each = b.each in
    (refl, (zs, [], sym (append-nil zs), ((b.long, bits zs each), tt), refl))

pub small_numbers_fit : (count least greatest : ℕ) (xs : List ℕ) → AreFrom count least greatest xs → FitFields (small count least greatest ∷ []) (map pos xs)
small_numbers_fit count least greatest xs f =
    let long = f.long in
    let each = f.each in
    (map pos xs, [], sym (append-nil (map pos xs)), ((length-map xs pos ∙ long, between least greatest xs each), tt), refl)

-- ---- a wide vector

-- its coordinate and its basis, of a system with this many columns and rows
abbrev pub wide_fields : (columns rows : ℕ) → List Field
wide_fields columns rows = small 1 1 (columns + rows) ∷ Rising columns (columns + rows) ∷ []

pub wide_numbers : (columns rows : ℕ) (zs : List ℤ) → FitFields (wide_fields columns rows) zs → (index : ℕ) × (basis : List ℕ) × (zs ≡ map pos (index ∷ basis)) × IsBasisOf columns rows index basis
wide_numbers columns rows zs f =
    let all = columns + rows in
    let c = number_back 1 all (Rising columns all ∷ []) zs f in
    let p = c.4 in
    let q = rising columns all p.0 p.3.0 in
    let last : c.1 ≡ map pos q.0 = p.2 ∙ ap (λ (t : List ℤ). p.0 ++ t) p.4 ∙ append-nil p.0 ∙ q.1 in
    (c.0, q.0, c.2 ∙ ap (λ (xs : List ℤ). pos c.0 ∷ xs) last, record { coordinate = c.3; members = q.2; ascending = q.3 })

pub wide_numbers_fit : (columns rows index : ℕ) (basis : List ℕ) → IsBasisOf columns rows index basis → FitFields (wide_fields columns rows) (map pos (index ∷ basis))
wide_numbers_fit columns rows index basis b =
    let at = b.coordinate in
    let members = b.members in
    let up = b.ascending in
    let all = columns + rows in
    number_then 1 all index (Rising columns all ∷ []) (map pos basis) at.0 at.1 (rising_fits columns all basis members up)

-- ---- bounds

pub species_few : (net : Net) → IsNetwork net → length net.names ≤ 400
species_few net n = omega (arith, n.partial.species_limit)

pub reactions_few : (net : Net) → IsNetwork net → length net.reactions ≤ 400
reactions_few net n = omega (arith, n.partial.reactions_limit)

pub free_bounded : (word : List ℕ) (count : ℕ) → words_fit (word ∷ []) ≡ true → count ≤ 400 → IsBounded (free_form word count)
free_bounded word count w few = record { words = w; few = omega (arith, few); fields = (tt, tt) }

pub species_row : (net : Net) (word : List ℕ) → IsNetwork net → words_fit (word ∷ []) ≡ true → IsBounded (free_form word (length net.names))
species_row net word n w = free_bounded word (length net.names) w (species_few net n)

pub reactions_row : (net : Net) (word : List ℕ) → IsNetwork net → words_fit (word ∷ []) ≡ true → IsBounded (free_form word (length net.reactions))
reactions_row net word n w = free_bounded word (length net.reactions) w (reactions_few net n)

-- small numbers between small ones
pub small_bounded : (word : List ℕ) (count least most : ℕ) → words_fit (word ∷ []) ≡ true → count ≤ 400 → least ≤ 2 ^ 32 → most ≤ 2 ^ 32 → IsBounded (small_form word count least most)
small_bounded word count least most w few low high = record { words = w; few = omega (arith, few); fields = ((omega (arith, low), omega (arith, high)), tt) }

pub rising_bounded : (word : List ℕ) (count most : ℕ) → words_fit (word ∷ []) ≡ true → count ≤ 400 → most ≤ 2 ^ 32 → IsBounded (record_form word (Rising count most ∷ []))
rising_bounded word count most w few high = record { words = w; few = omega (arith, few); fields = (omega (arith, high), tt) }

pub bare_row : (word : List ℕ) → words_fit (word ∷ []) ≡ true → IsBounded (record_form word [])
bare_row word w = record { words = w; few = omega arith; fields = tt }

pub plain_bare : (word : List ℕ) → words_fit (word ∷ []) ≡ true → IsPlain (one_word word [])
plain_bare word w = fitting_is_plain (record_form word []) (one_word word []) (bare_row word w) (refl, refl)
