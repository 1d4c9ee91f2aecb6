-- The lines that open sections, and the blocks of the questions one after another.
use Rattle.crn_document.proofs.Prelude.{◌≡◌, ◌≢◌, ◌+◌, ℕ, Bool, true, false, ◌==◌, List, [], ◌∷◌, length, map, refl, sym, subst, ap, arith, Ok, ℤ, if◌then◌else◌, ne_eqb, SourceSeen, Net, Earlier, Question, Record, Form, section_form, opens, Course, Give, ◌>>=◌, AfterBlocks, asks, asks_all, asks_block, asks_blocks, after_sections, sections, Known, meaning, asked, Reading, CheckStop, StepGives, IsOpened, after_by, still_by_tree, StepIs, StopIs, step_gives, step_map, stop_first}

-- ---- sections

if_none : (b : Bool) (x : List (List ℕ)) → x ≡ [] → (if b then x else []) ≡ []
if_none true x e = e
if_none false x e = refl

pub first_opens : (version n : ℕ) → opens (asked n) ≡ [] → map section_form (sections version (asked n)) ≡ []
first_opens version n none = ap (λ (x : List (List ℕ)). map section_form x) (if_none (version == 2) (opens (asked n)) none)

pub second_opens : (version n : ℕ) → version ≢ 2 → map section_form (sections version (asked n)) ≡ []
second_opens version n differs = ap (λ (b : Bool). map section_form (if b then opens (asked n) else [])) (ne_eqb version 2 differs)

pub no_section : (version n : ℕ) (after : Bool) (forms : List Form) (at : Reading) (seen : SourceSeen) → forms ≡ [] → StepIs (asks_all version n after forms) (λ (t : Bool) (rs : List Record). IsOpened at at after t rs) (Ok after) at at seen seen
unfolding asks_all
no_section version n after forms at seen none =
    subst (λ (fs : List Form). StepIs (asks_all version n after fs) (λ (t : Bool) (rs : List Record). IsOpened at at after t rs) (Ok after) at at seen seen) (sym none)
    (step_gives [] (λ (t : Bool) (rs : List Record). IsOpened at at after t rs) after at seen (omega arith, refl))

pub one_section : (Says : Unit {0} → Record → Type 0) (version n : ℕ) (after : Bool) (form : Form) (r : Record) (old new : Reading) (before now : SourceSeen) → new.line ≡ old.line + 1
    → StepGives (asks version n after (form ∷ [])) r old.line new.line old.lines new.lines before.left now.left → now.faults ≡ before.faults → StepIs (asks_all version n after (form ∷ [])) (λ (t : Bool) (rs : List Record). IsOpened old new after t rs) (Ok false) old new before now
unfolding asks_all
one_section Says version n after form r old new before now line p same =
    step_map {T = Bool} (asks version n after (form ∷ [])) (λ r. r ∷ []) (λ t x. Unit {0}) (λ (t : Bool) (rs : List Record). IsOpened old new after false rs) (Ok false) old new before now (λ t x s. (line, refl)) (r, tt, p, same)

pub section_stops : (version n : ℕ) (after : Bool) (form : Form) (e : CheckStop) (old : Reading) (before now : SourceSeen) → StopIs (asks version n after (form ∷ [])) e old before now → StopIs (asks_all version n after (form ∷ [])) e old before now
unfolding asks_all
section_stops version n after form e old before now p = stop_first (asks version n after (form ∷ [])) (λ r. Give (r ∷ [])) e old before now p

-- ---- blocks one after another

pub after_is : (net : Net) (earlier : Earlier) (by_tree : Bool) (line : ℕ) (blocks : List (List Record)) (opened : List Record) → after_sections opened (after_by net earlier by_tree line blocks) ≡ after_by net earlier (still_by_tree opened by_tree) (line + length opened) blocks
after_is net earlier by_tree line blocks [] = ap (λ (k : ℕ). after_by net earlier by_tree k blocks) (omega arith)
after_is net earlier by_tree line blocks (r ∷ rs) = refl

-- what follows the sections before a question
abbrev pub question_course : (version : ℕ) → List (List ℤ) → Question → List Question → AfterBlocks Known → List Record → Course (AfterBlocks Known)
question_course version table q qs at opened = asks_block meaning version table q (after_sections opened at) >>= (λ after. asks_blocks meaning version table qs after)

pub blocks_by : (P : Course (AfterBlocks Known) → Type 0) (version : ℕ) (table : List (List ℤ)) (q : Question) (qs all : List Question) (at : AfterBlocks Known) → all ≡ q ∷ qs
    → P (asks_all version at.line at.by_tree (map section_form (sections version q)) >>= question_course version table q qs at) → P (asks_blocks meaning version table all at)
unfolding asks_blocks
blocks_by P version table q qs all at is p = subst (λ (xs : List Question). P (asks_blocks meaning version table xs at)) (sym is) p

pub no_blocks : (Says : Unit {0} → AfterBlocks Known → Type 0) (version : ℕ) (table : List (List ℤ)) (all : List Question) (at : AfterBlocks Known) (here : Reading) (seen : SourceSeen) → all ≡ [] → Says tt at → StepIs (asks_blocks meaning version table all at) Says (Ok tt) here here seen seen
unfolding asks_blocks
no_blocks Says version table all at here seen is says = subst (λ (xs : List Question). StepIs (asks_blocks meaning version table xs at) Says (Ok tt) here here seen seen) (sym is) (step_gives at Says tt here seen says)
