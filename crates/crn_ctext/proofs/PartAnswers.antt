-- The lines of a part: the first of those that are written, what the others say, and a test after a line.
use Rattle.crn_ctext.proofs.Prelude.{◌≡◌, ◌++◌, ℕ, Bool, true, false, List, [], ◌∷◌, refl, sym, ap, subst, ◌∙◌, AllZip, IsIn, Record, Form, Says, Fits, record_text, kind_of, Course, Give, ◌>>=◌, test_own, IsWrittenBy, either, IsOneOf, asks_part}
use Rattle.crn_ctext.proofs.Bounded.{IsBounded, fitting_is_plain, slim_are_short}
use Rattle.crn_ctext.proofs.FormWords.{words_yes, are_words}
use Rattle.crn_ctext.proofs.Image.{HasNoEnd, written_then, written_cuts, part_record_is_written, written_is_part_record, part_no_end}

-- one line that is due, and then others
pub record IsFirst {A : Type 0} (forms : List Form) (f : Record → Course A) (ls : List (List ℕ)) (y : A) : Type 0 where
  pub line : List ℕ
  pub first : Record
  pub more : List (List ℕ)
  pub are : ls ≡ line ∷ more
  pub says : Says line first
  pub fits : IsOneOf forms first
  pub rest : IsWrittenBy (f first) more y

pub first_back : {A : Type 0} (words : List (List ℕ)) (n : ℕ) (forms : List Form) (f : Record → Course A) (ls : List (List ℕ)) (y : A) → IsWrittenBy (asks_part words n forms >>= f) ls y → IsFirst forms f ls y
first_back words n forms f ls y h =
    let a = written_cuts (asks_part words n forms) f ls y h in
    let b = written_is_part_record words n forms a.1 a.0 a.4 in
    record { line = b.0; first = a.0; more = a.2; are = a.3 ∙ ap (λ (t : List (List ℕ)). t ++ a.2) b.1; says = b.2; fits = b.3; rest = a.5 }

-- the lines say these records
abbrev pub Say : List (List ℕ) → List Record → Type 0
Say ls rs = AllZip Says ls rs

pub one_said : (ls more : List (List ℕ)) (line : List ℕ) (r : Record) (rs : List Record) → ls ≡ line ∷ more → Says line r → Say more rs → Say ls (r ∷ rs)
one_said ls more line r rs e s m = subst (λ (t : List (List ℕ)). Say t (r ∷ rs)) (sym e) (s, m)

pub none_said : (ls : List (List ℕ)) → ls ≡ [] → Say ls []
none_said ls e = subst (λ (t : List (List ℕ)). Say t []) (sym e) tt

-- a record's line is written, and then others
pub line_on : {A : Type 0} (words : List (List ℕ)) (n : ℕ) (forms : List Form) (form : Form) (r : Record) (f : Record → Course A) (ms : List (List ℕ)) (y : A) → IsIn form forms → are_words form.words ≡ true → IsIn (kind_of form) words → IsBounded form → Fits form r
    → IsWrittenBy (f r) ms y → IsWrittenBy (asks_part words n forms >>= f) (record_text r ∷ ms) y
line_on words n forms form r f ms y i w known b fits more =
    let plain = fitting_is_plain form r b fits in
    let numbers = plain.numbers in
    written_then (asks_part words n forms) f (record_text r ∷ []) ms r y (part_no_end words n forms)
    (part_record_is_written words n forms form r i (words_yes form.words w) known fits (slim_are_short r.numbers numbers)) more

-- nothing more is written
pub given : {A : Type 0} (x : A) → IsWrittenBy (Give x) [] x
unfolding IsWrittenBy
given x = (refl, refl)

-- ---- tests

pub test_back : {A : Type 0} (n code : ℕ) (P : Type 0) (f : Unit {0} → Course A) (ls : List (List ℕ)) (y : A) → IsWrittenBy (test_own n code P >>= f) ls y → P × IsWrittenBy (f tt) ls y
unfolding IsWrittenBy
test_back n code P f ls y w = (w.1, w.2)

pub test_on : {A : Type 0} (n code : ℕ) (P : Type 0) (f : Unit {0} → Course A) (ls : List (List ℕ)) (y : A) → P → IsWrittenBy (f tt) ls y → IsWrittenBy (test_own n code P >>= f) ls y
unfolding IsWrittenBy
test_on n code P f ls y p w = (tt, p, w)

-- ---- no end within

pub either_no_end : {A : Type 0} (b : Bool) (this that : Course A) → HasNoEnd this → HasNoEnd that → HasNoEnd (either b this that)
either_no_end true this that p q = p
either_no_end false this that p q = q
