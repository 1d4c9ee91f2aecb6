-- What is due if a record is, in the words of a document's course.
use Rattle.crn_document.proofs.Prelude.{◌≡◌, ◌+◌, ◌++◌, ◌∙◌, ℕ, Bool, false, List, [], ◌∷◌, refl, sym, subst, ap, inl, inr, Result, Ok, append_assoc, append-nil, AllZip, ℤ, pos, codes, SourceSeen, Record, Form, Fits, Several, just, record_form, small, Course, Give, due, ◌>>=◌, reads, asks, asks_all, IsOneOf, AreSizes, MayBeDue, due_forms, forms_of, is_after, misplaced, tag_of, Sizes, Due, Expect, asks_for, IsSaid, Expects, IsOwnDue, IsPartDue, IsRowDue, IsRow, AreRows, StepGives, lists, Reading, CheckStop, IsVersion, StepIs, step_gives, step_then_is, step_map, Fault, WrongOrder}
use Rattle.crn_ctext.specs.Expect.{sizes_of}
use Rattle.crn_ctext.specs.declared.expect.Due.TheVariants as due_kinds

abbrev course_by : ℕ → ℕ → Bool → List Form → Fault → Course Record
course_by version n after forms mis = due false >>= (λ line. reads version n after forms mis line)

-- what is said of the record that is due is said of the record of these forms
pub as_expected : (P : Course Record → Type 0) (e : Expect) (version n : ℕ) (after : Bool) (forms : List Form) → Expects e version after forms → P (asks_for e n) → P (asks version n after forms)
as_expected P e version n after forms x p =
    subst (λ (m : Fault). P (course_by version n after forms m)) x.misplaced
    (subst (λ (fs : List Form). P (course_by version n after fs (misplaced e.due))) x.has
    (subst (λ (b : Bool). P (course_by version n b (forms_of e) (misplaced e.due))) x.by_tree
    (subst (λ (v : ℕ). P (course_by v n (is_after e.due e.after_tree) (forms_of e) (misplaced e.due))) x.of_version p)))

-- what a record below a head that is due says, if there are so many complexes
pub record DueFacts (complexes : ℕ) (form : Form) (d : Due) : Type 0 where
  pub has : (version : ℕ) (z : Sizes) → z.complexes ≡ complexes → due_forms d version z ≡ form ∷ []
  pub may : (version : ℕ) → MayBeDue d version
  pub after : (b : Bool) → b ≡ false → is_after d b ≡ false
  pub misplaced : misplaced d ≡ WrongOrder
  pub untagged : (z : Sizes) (r : Record) → tag_of d z r ≡ []

own_facts : (c : ℕ) (form : Form) (d : Due) → IsOwnDue c form d → DueFacts c form d
own_facts c form (due_kinds.Base count members) b = record { has = λ v z e. ap (λ (f : Form). f ∷ []) b.0; may = b.1; after = λ b e. e; misplaced = refl; untagged = λ z r. refl }
own_facts c form (due_kinds.Side reaction) b = record {
  has = λ v z e. ap (λ (k : ℕ). record_form (codes "side") (just reaction ∷ small k 0 1 ∷ []) ∷ []) e ∙ ap (λ (f : Form). f ∷ []) b;
  may = λ v. tt;
  after = λ b e. e;
  misplaced = refl;
  untagged = λ z r. refl;
}
own_facts c form due_kinds.Walk b = record {
  has = λ v z e. ap (λ (k : ℕ). record_form (codes "walk") (Several 2 k (pos 1) (pos k) ∷ []) ∷ []) e ∙ ap (λ (f : Form). f ∷ []) b;
  may = λ v. tt;
  after = λ b e. e;
  misplaced = refl;
  untagged = λ z r. refl;
}
own_facts c form d b = absurd b

part_facts : (c : ℕ) (form : Form) (d : Due) → IsPartDue form d → DueFacts c form d
part_facts c form d p = subst (λ (d : Due). DueFacts c form d) (sym p.is) (record { has = λ v z e. ap (λ (f : Form). f ∷ []) p.has; may = p.may; after = λ b e. e; misplaced = refl; untagged = λ z r. refl })

due_facts : (c : ℕ) (form : Form) (d : Due) → IsRowDue c form d → DueFacts c form d
due_facts c form d (inl b) = own_facts c form d b
due_facts c form d (inr p) = part_facts c form d p

-- a row has no tag
pub row_untagged : (c : ℕ) (form : Form) (d : Due) → IsRowDue c form d → (z : Sizes) (r : Record) → tag_of d z r ≡ []
row_untagged c form d i z r = let f = due_facts c form d i in let u = f.untagged in u z r

-- the row that is due
pub row_expects : (version c : ℕ) (form : Form) (e : Expect) → IsVersion version → e.version ≡ version → e.after_tree ≡ false → AreSizes e.sizes → (sizes_of e.sizes).complexes ≡ c → IsRowDue c form e.due → Expects e version false (form ∷ [])
row_expects version c form e v same none sizes many i =
    let f = due_facts c form e.due i in record {
      may = record { version = subst (λ (k : ℕ). IsVersion k) (sym same) v; sizes = sizes; due = (let m = f.may in m e.version) };
      of_version = same;
      by_tree = (let a = f.after in a e.after_tree none);
      has = (let h = f.has in h e.version (sizes_of e.sizes) many);
      misplaced = f.misplaced;
    }

-- a record that was due where nothing is tagged
pub row_said : (e : Expect) (version : ℕ) (after : Bool) (form : Form) → Expects e version after (form ∷ []) → ((r : Record) → tag_of e.due (sizes_of e.sizes) r ≡ []) → (r : Record) (read : List ℤ) → IsSaid e read r → Fits form r × (read ≡ r.numbers)
row_said e version after form x none r read said =
    (only (subst (λ (fs : List Form). IsOneOf fs r) x.has said.form), said.numbers ∙ ap (λ (zs : List ℤ). zs ++ r.numbers) (none r))
  where
    only : IsOneOf (form ∷ []) r → Fits form r
    only (f, inl is, fits) = subst (λ (f : Form). Fits f r) is fits
    only (f, inr none, fits) = absurd none

-- ---- records one after another

-- what follows the first of several records
abbrev pub rows_after : ℕ → ℕ → List Form → Record → Course (List Record)
rows_after version n forms r = asks_all version (n + 1) false forms >>= (λ rs. Give (r ∷ rs))

-- what is said of the first record and those after it is said of all
pub first_row : (P : Course (List Record) → Type 0) (version n : ℕ) (form : Form) (forms all : List Form) → all ≡ form ∷ forms → P (asks version n false (form ∷ []) >>= rows_after version n forms) → P (asks_all version n false all)
unfolding asks_all
first_row P version n form forms all is p = subst (λ (fs : List Form). P (asks_all version n false fs)) (sym is) p

-- no records
pub no_rows : (version n : ℕ) (forms : List Form) (at : Reading) (kept : List (List ℤ)) (seen : SourceSeen) → forms ≡ [] → StepIs (asks_all version n false forms) (λ (t : Unit {0}) rs. AreRows forms kept kept rs) (Ok tt) at at seen seen
unfolding asks_all
no_rows version n forms at kept seen none =
    subst (λ (fs : List Form). StepIs (asks_all version n false fs) (λ (t : Unit {0}) rs. AreRows fs kept kept rs) (Ok tt) at at seen seen) (sym none)
    (step_gives [] (λ (t : Unit {0}) (rs : List Record). AreRows [] kept kept rs) tt at seen (tt, sym (append-nil kept)))

-- one record, and then the others
pub rows_then : (version n : ℕ) (form : Form) (forms all : List Form) (r : Record) (a b c : List (List ℤ)) (result : Result (Unit {0}) CheckStop) (old mid new : Reading) (before between now : SourceSeen)
    → all ≡ form ∷ forms → mid.version ≡ version → mid.line ≡ n + 1 → IsRow form a b r
    → StepGives (asks version n false (form ∷ [])) r old.line mid.line old.lines mid.lines before.left between.left → between.faults ≡ before.faults
    → StepIs (asks_all mid.version mid.line false forms) (λ t rs. AreRows forms b c rs) result mid new between now
    → StepIs (asks_all version n false all) (λ t rs. AreRows all a c rs) result old new before now
rows_then version n form forms all r a b c result old mid new before between now is v l row p same q =
    first_row (λ d. StepIs d (λ t rs. AreRows all a c rs) result old new before now) version n form forms all is
    (step_then_is (asks version n false (form ∷ [])) (rows_after version n forms) r (λ t rs. AreRows all a c rs) result old mid new before between now p same
    (step_map (asks_all version (n + 1) false forms) (λ rs. r ∷ rs) (λ t rs. AreRows forms b c rs) (λ t rs. AreRows all a c rs) result mid new between now more
    (subst (λ (k : ℕ). StepIs (asks_all version k false forms) (λ t rs. AreRows forms b c rs) result mid new between now) l
    (subst (λ (k : ℕ). StepIs (asks_all k mid.line false forms) (λ t rs. AreRows forms b c rs) result mid new between now) v q))))
  where
    more : (t : Unit {0}) (rs : List Record) → AreRows forms b c rs → AreRows all a c (r ∷ rs)
    more t rs h = (subst (λ (fs : List Form). AllZip Fits fs (r ∷ rs)) (sym is) (row.0, h.0), h.1 ∙ ap (λ (x : List (List ℤ)). x ++ lists rs) row.1 ∙ append_assoc a (r.numbers ∷ []) (lists rs))
