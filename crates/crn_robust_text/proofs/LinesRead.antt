-- The forms of the lines that may stand next, as they are handed to the reader.
use Rattle.crn_robust_text.proofs.Prelude.{◌≡◌, ℕ, List, [], ◌∷◌, length, refl, ap, ap₂, codes, Net, Field, small, record_form, end_form, forms_in, field_of, Run, Choice, words, rests_forms, line_forms, case_forms}

abbrev choice : ℕ → ℕ → ℕ → Choice
choice word first count = record { word = word; first = first; count = count }

pub line_forms_are : (bit : Run) → field_of bit ≡ small 1 0 1 → forms_in words (choice 0 0 1 ∷ []) (bit ∷ []) ≡ line_forms
line_forms_are bit p = ap (λ (f : Field). record_form (codes "line") (f ∷ []) ∷ []) p

pub case_forms_are : (net : Net) (species pair number : Run) → field_of species ≡ small 1 1 (length net.names) → field_of pair ≡ small 2 1 (length net.complexes) → field_of number ≡ small 1 0 (length net.complexes)
    → forms_in words (choice 1 0 2 ∷ choice 2 2 1 ∷ choice 3 0 0 ∷ []) (species ∷ pair ∷ number ∷ []) ≡ case_forms net
case_forms_are net species pair number p q r =
    ap₂ (λ (fs : List Field) (f : Field). record_form (codes "yes") fs ∷ record_form (codes "number") (f ∷ []) ∷ record_form (codes "none") [] ∷ []) (ap₂ (λ (f g : Field). f ∷ g ∷ []) p q) r

pub rests_forms_are : forms_in words (choice 4 0 0 ∷ []) [] ≡ rests_forms
rests_forms_are = refl

pub last_forms_are : forms_in words (choice 5 0 0 ∷ []) [] ≡ end_form ∷ []
last_forms_are = refl
