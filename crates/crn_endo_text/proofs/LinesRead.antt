-- The lines that are due, as the runs of numbers after their words say them.
use Rattle.crn_endo_text.proofs.Prelude.{◌≡◌, ◌+◌, ◌++◌, ℕ, Bool, true, false, List, [], ◌∷◌, length, refl, sym, ap, ap₂, ◌∙◌, codes, Net, MAX_BUDGET, Form, Field, Free, Rising, small, record_form, end_form, forms_in, field_of, Run, Choice, row_count, words, is_small, yes_forms, other_forms, verdict_forms, slope_forms, node_forms}

abbrev choice : ℕ → ℕ → ℕ → Choice
choice word first count = record { word = word; first = first; count = count }

-- the lines of a verdict but for yes
abbrev pub others_in : (reaction index basis another budget : Run) → List Form
others_in reaction index basis another budget =
    forms_in words (choice 1 0 1 ∷ choice 2 0 3 ∷ choice 3 3 2 ∷ choice 4 0 0 ∷ []) (reaction ∷ index ∷ basis ∷ another ∷ budget ∷ [])

-- the runs of the numbers of a verdict
pub record AreRuns (net : Net) (all : ℕ) (reaction index basis another budget : Run) : Type 0 where
  pub all_is : all ≡ length net.names + row_count net
  pub reaction_is : field_of reaction ≡ small 1 1 (length net.reactions)
  pub index_is : field_of index ≡ small 1 1 all
  pub basis_is : field_of basis ≡ Rising (length net.names) all
  pub another_is : field_of another ≡ small 1 1 (length net.reactions)
  pub budget_is : field_of budget ≡ small 1 1 MAX_BUDGET

pub others_are : (net : Net) (all : ℕ) (reaction index basis another budget : Run) → AreRuns net all reaction index basis another budget → others_in reaction index basis another budget ≡ other_forms net
others_are net all reaction index basis another budget are =
    ap₂ (λ (f : Field) (gs : List Field). record_form (codes "no") (f ∷ []) ∷ record_form (codes "wide") (f ∷ gs) ∷ record_form (codes "spent") (field_of another ∷ field_of budget ∷ []) ∷ record_form (codes "large") [] ∷ []) are.reaction_is
    (ap₂ (λ (f g : Field). f ∷ g ∷ []) (are.index_is ∙ ap (λ (k : ℕ). small 1 1 k) are.all_is) (are.basis_is ∙ ap (λ (k : ℕ). Rising (length net.names) k) are.all_is))
    ∙ ap₂ (λ (f g : Field). record_form (codes "no") (small 1 1 (length net.reactions) ∷ [])
    ∷ record_form (codes "wide") (small 1 1 (length net.reactions) ∷ small 1 1 (length net.names + row_count net) ∷ Rising (length net.names) (length net.names + row_count net) ∷ [])
    ∷ record_form (codes "spent") (f ∷ g ∷ []) ∷ record_form (codes "large") [] ∷ []) are.another_is are.budget_is

-- with a yes, if the network is small enough
pub small_are : (net : Net) (fs : List Form) → is_small net ≡ true → fs ≡ other_forms net → record_form (codes "yes") [] ∷ fs ≡ verdict_forms net
small_are net fs e are = ap (λ (gs : List Form). record_form (codes "yes") [] ∷ gs) are ∙ ap (λ (b : Bool). yes_forms b ++ other_forms net) (sym e)

-- and without it, if it is not
pub large_are : (net : Net) (fs : List Form) → is_small net ≡ false → fs ≡ other_forms net → fs ≡ verdict_forms net
large_are net fs e are = are ∙ ap (λ (b : Bool). yes_forms b ++ other_forms net) (sym e)

pub slope_forms_are : (net : Net) (slope : Run) → field_of slope ≡ Free (length net.names) → forms_in words (choice 5 0 1 ∷ []) (slope ∷ []) ≡ slope_forms net
slope_forms_are net slope p = ap (λ (f : Field). record_form (codes "slope") (f ∷ []) ∷ []) p

pub node_forms_are : (rows : ℕ) (cut : Run) → field_of cut ≡ Free rows → forms_in words (choice 6 0 0 ∷ choice 7 0 0 ∷ choice 8 0 1 ∷ []) (cut ∷ []) ≡ node_forms rows
node_forms_are rows cut p = ap (λ (f : Field). record_form (codes "split") [] ∷ record_form (codes "flat") [] ∷ record_form (codes "cuta") (f ∷ []) ∷ []) p

pub last_forms_are : forms_in words (choice 9 0 0 ∷ []) [] ≡ end_form ∷ []
last_forms_are = refl
