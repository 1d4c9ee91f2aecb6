-- The forms of the lines that may stand next, as they are handed to the reader.
use Rattle.crn_siphon_text.proofs.Prelude.{◌≡◌, ◌+◌, ℕ, List, [], ◌∷◌, length, refl, ap, ap₂, ◌∙◌, codes, Net, MAX_BUDGET, Form, Field, Free, Rising, small, just, record_form, end_form, forms_in, field_of, Run, Choice, words, wide_form, verdict_forms, law_forms, no_forms, cover_forms, node_forms}

-- ---- forms

abbrev choice : ℕ → ℕ → ℕ → Choice
choice word first count = record { word = word; first = first; count = count }

wide_is : (system columns rows all : ℕ) (one index basis : Run) → all ≡ columns + rows → field_of one ≡ just system → field_of index ≡ small 1 1 all → field_of basis ≡ Rising columns all
    → record_form (codes "wide") (field_of one ∷ field_of index ∷ field_of basis ∷ []) ≡ wide_form system columns rows
wide_is system columns rows all one index basis e p q r =
    ap₂ (λ (f : Field) (fs : List Field). record_form (codes "wide") (f ∷ fs)) p (ap₂ (λ (f g : Field). f ∷ g ∷ []) (q ∙ ap (λ (k : ℕ). small 1 1 k) e) (r ∙ ap (λ (k : ℕ). Rising columns k) e))

pub verdict_forms_are : (net : Net) (all : ℕ) (one index basis two other members budget : Run) → all ≡ length net.names + length net.reactions → all ≡ length net.reactions + length net.names
    → field_of one ≡ just 1 → field_of index ≡ small 1 1 all → field_of basis ≡ Rising (length net.names) all → field_of two ≡ just 2 → field_of other ≡ small 1 1 all → field_of members ≡ Rising (length net.reactions) all
    → field_of budget ≡ small 1 1 MAX_BUDGET
    → forms_in words (choice 0 0 0 ∷ choice 1 0 0 ∷ choice 2 0 3 ∷ choice 2 3 3 ∷ choice 3 6 1 ∷ []) (one ∷ index ∷ basis ∷ two ∷ other ∷ members ∷ budget ∷ []) ≡ verdict_forms net
verdict_forms_are net all one index basis two other members budget e d p1 p2 p3 q1 q2 q3 r =
    ap₂ (λ (f : Form) (gs : List Form). record_form (codes "yes") [] ∷ record_form (codes "no") [] ∷ f ∷ gs)
    (wide_is 1 (length net.names) (length net.reactions) all one index basis e p1 p2 p3)
    (ap₂ (λ (f : Form) (g : Field). f ∷ record_form (codes "spent") (g ∷ []) ∷ []) (wide_is 2 (length net.reactions) (length net.names) all two other members d q1 q2 q3) r)

pub law_forms_are : (net : Net) (law : Run) → field_of law ≡ Free (length net.names) → forms_in words (choice 4 0 1 ∷ []) (law ∷ []) ≡ law_forms net
law_forms_are net law p = ap (λ (f : Field). record_form (codes "vec") (f ∷ []) ∷ []) p

pub no_forms_are : (net : Net) (cut marks : Run) → field_of cut ≡ Free (length net.reactions) → field_of marks ≡ small (length net.names) 0 1 → forms_in words (choice 5 0 1 ∷ choice 6 1 1 ∷ []) (cut ∷ marks ∷ []) ≡ no_forms net
no_forms_are net cut marks p q = ap₂ (λ (f g : Field). record_form (codes "cut") (f ∷ []) ∷ record_form (codes "siphon") (g ∷ []) ∷ []) p q

pub cover_forms_are : (net : Net) (cover : Run) → field_of cover ≡ Free (length net.reactions) → forms_in words (choice 7 0 1 ∷ []) (cover ∷ []) ≡ cover_forms net
cover_forms_are net cover p = ap (λ (f : Field). record_form (codes "mult") (f ∷ []) ∷ []) p

pub node_forms_are : (net : Net) (bad law : Run) → field_of bad ≡ small 1 1 (length net.reactions) → field_of law ≡ Free (length net.names)
    → forms_in words (choice 8 0 0 ∷ choice 9 0 1 ∷ choice 10 1 1 ∷ choice 11 2 0 ∷ []) (bad ∷ law ∷ []) ≡ node_forms net
node_forms_are net bad law p q = ap₂ (λ (f g : Field). record_form (codes "fork") [] ∷ record_form (codes "bad") (f ∷ []) ∷ record_form (codes "law") (g ∷ []) ∷ record_form (codes "void") [] ∷ []) p q

pub last_forms_are : forms_in words (choice 12 0 0 ∷ []) [] ≡ end_form ∷ []
last_forms_are = refl
