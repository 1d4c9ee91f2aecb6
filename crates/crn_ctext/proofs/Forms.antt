-- The forms and the records of documents, from the table of blocks.
use Rattle.crn_ctext.proofs.Prelude.{◌≡◌, ◌+◌, ◌-◌, ◌++◌, ◌∙◌, ℕ, suc, Bool, true, false, List, [], ◌∷◌, length, map, refl, ap, ap₂, arith, ℤ, pos, codes, slice_index_or, flat_map, range_with_len, MAX_BUDGET, Question, Datum, Odd, Num, Int, Nums, Ints, Marks, Led, Basis, Row, Sizes, HeadKind, Record, Form, Field, small, just, head_word, words, ways, wide_numbers, if_may, place_of, zero, replicate, AllByRecursion}
use Rattle.crn_cert.specs.Data.{Two}

-- ---- records

-- its numbers in order
abbrev pub numbers_of : Datum → List ℤ
numbers_of Odd = []
numbers_of (Num n) = pos n ∷ []
numbers_of (Two n m) = pos n ∷ pos m ∷ []
numbers_of (Int z) = z ∷ []
numbers_of (Nums xs) = map pos xs
numbers_of (Ints zs) = zs
numbers_of (Marks n zs) = pos n ∷ zs
numbers_of (Led n xs) = map pos (n ∷ xs)
numbers_of (Basis system class index basis) = map pos (system ∷ class ∷ index ∷ basis)

-- the record of a head of this kind
abbrev pub head_record : Question → HeadKind → List Datum → Record
head_record q kind head =
    record { words = head_word q ∷ words kind; numbers = flat_map numbers_of head }

-- the record below a head
abbrev pub row_record : Row → Datum → Record
row_record row datum = record { words = row.word ∷ []; numbers = numbers_of datum }

-- the records of some rows
abbrev pub row_records : List Row → List Datum → List Record
row_records (row ∷ rows) (datum ∷ more) = row_record row datum ∷ row_records rows more
row_records rows given = []

-- ---- forms

-- the only way of a field of a record below a head
abbrev pub way_of : List (List Field) → List Field
way_of [] = []
way_of (way ∷ more) = way

-- the form of a record below a head
abbrev pub row_form : Row → Form
row_form row = record { place = 0; words = row.word ∷ []; fields = way_of (ways row.field) }

-- ---- the forms of heads, as they come

abbrev pub head : List ℕ → ℕ → List (List ℕ) → List Field → Form
head word place words fields = record { place = place; words = word ∷ words; fields = fields }

abbrev pub yes : List (List ℕ)
yes = codes "yes" ∷ []

abbrev pub no : List (List ℕ)
no = codes "no" ∷ []

abbrev pub no_by : List ℕ → List (List ℕ)
no_by reason = codes "no" ∷ reason ∷ []

abbrev pub none_by : List ℕ → List (List ℕ)
none_by reason = codes "none" ∷ reason ∷ []

abbrev pub open_by : List ℕ → List (List ℕ)
open_by reason = codes "open" ∷ reason ∷ []

abbrev pub wide : List ℕ → ℕ → (system columns rows : ℕ) → Form
wide word place system columns rows = head word place (open_by (codes "wide")) (wide_numbers system columns rows)

abbrev pub spent : List ℕ → ℕ → Form
spent word place = head word place (open_by (codes "budget")) (small 1 1 MAX_BUDGET ∷ [])

abbrev pub rests : List ℕ → ℕ → ℕ → Form
rests word place question = head word place (open_by (codes "rests")) (just question ∷ [])

-- ---- the last forms of question 13

-- system 5 may be wide
abbrev pub wide_signal : Bool → Sizes → List Form
wide_signal may z = map (λ way. head (codes "q13") 4 (open_by (codes "wide")) way) (flat_map (λ way. map (λ more. way ++ more) ([] ∷ [])) (if_may may (wide_numbers 5 (z.species + 1) (z.complexes + z.pairs))))

abbrev pub last_forms : Bool → Sizes → List Form
last_forms may z = wide_signal may z ++ spent (codes "q13") 5 ∷ rests (codes "q13") 6 12 ∷ []

pub spent_place : (b : Bool) (z : Sizes) → place_of (last_forms b z) (codes "q13" ∷ open_by (codes "budget")) ≡ 5
spent_place true z = refl
spent_place false z = refl

pub rests_place : (b : Bool) (z : Sizes) → place_of (last_forms b z) (codes "q13" ∷ open_by (codes "rests")) ≡ 6
rests_place true z = refl
rests_place false z = refl

-- ---- sizes that are given

-- what a function gives from here on, if it gives the members of a list
from_at : (f : ℕ → ℕ) (a : ℕ) (xs : List ℕ) → ((i : ℕ) → f (a + i) ≡ slice_index_or xs i 0) → map f (range_with_len a (length xs)) ≡ xs
from_at f a [] e = refl
from_at f a (x ∷ xs) e =
    let here : a ≡ a + 0 = omega arith in
    ap₂ (λ (y : ℕ) (ys : List ℕ). y ∷ ys) (ap f here ∙ e 0) (from_at f (a + 1) xs (λ i. ap f (let m : a + 1 + i ≡ a + suc i = omega arith in m) ∙ e (suc i)))

-- the numbers of reactions of the classes are the list that is given
pub given_back : (xs : List ℕ) → map (λ k. slice_index_or xs (k - 1) 0) (range_with_len 1 (length xs)) ≡ xs
given_back xs = from_at (λ k. slice_index_or xs (k - 1) 0) 1 xs (λ i. ap (λ (j : ℕ). slice_index_or xs j 0) (let m : 1 + i - 1 ≡ i = omega arith in m))

-- ---- one member, as often as this

pub all_same : {A : Type 0} (P : A → Type 0) (n : ℕ) (x : A) → P x → AllByRecursion P (replicate n x)
all_same P zero x p = tt
all_same P (suc n) x p = (p, all_same P n x p)
