-- Records that are read and not kept: the shared lists of a document, and the lines that open sections.
use Rattle.crn_document.proofs.Prelude.{◌≡◌, ◌+◌, ◌++◌, ◌∙◌, ℕ, suc, false, List, [], ◌∷◌, replicate, refl, sym, subst, ap, inl, inr, arith, append_assoc, Result, Ok, append-nil, ℤ, pos, negsuc, ints, MAX_NUMBERS, MAX_SHARED, SourceSeen, Record, Form, FreeSeveral, lists, IsShared, small, table_form, vector_form, first_number, Course, Give, ◌>>=◌, asks, asks_all, asks_table, StepGives, Reading, CheckStop, Table, Vector, IsPlain, IsVersion, StopIs, StepIs, AreListed, IsCount, IsTable, MovesBy, step_gives, step_then_is, step_map, stop_first}
use Rattle.crn_document.proofs.Records.{rows_after, first_row}
use Rattle.crn_document.proofs.Fields.{Holds, one_field}

-- the number of shared lists is one small number
one_count : (zs : List ℤ) → Holds (small 1 0 MAX_SHARED) zs → IsCount zs
one_count (pos n ∷ []) p = (n, refl, omega (arith, ints, p.0.1.0.1))
one_count (negsuc n ∷ []) p = absurd (omega (arith, ints, p.0.1.0.0))
one_count zs p = absurd (let e = p.0.0 in omega (arith, e))

pub count_is : (numbers : List ℤ) (r : Record) → IsPlain Table numbers r → IsCount numbers
count_is numbers r p = subst IsCount (sym p.1) (one_count r.numbers (one_field (small 1 0 MAX_SHARED) r.numbers p.0.1))

-- a document that is not of version 1 is of version 2
pub is_second : (version : ℕ) → IsVersion version → (version ≡ 1 → ⊥) → version ≡ 2
is_second version (inl e) other = absurd (other e)
is_second version (inr e) other = e

-- a shared list has at least one number, and no more than a line
pub shared_is : (numbers : List ℤ) (r : Record) → IsPlain Vector numbers r → IsShared numbers
shared_is numbers r p =
    let h = one_field (FreeSeveral 1 MAX_NUMBERS) r.numbers p.0.1 in
    subst IsShared (sym p.1) (record { some = h.0.0; few = (let e = h.0.1 in omega (arith, e)); narrow = h.1 })

-- ---- records one after another

-- one record, and then the others
pub kept_then : (version : ℕ) (form : Form) (forms all : List Form) (r : Record) (a b k : List (List ℤ)) (result : Result (Unit {0}) CheckStop) (old mid new : Reading) (before between now : SourceSeen)
    → all ≡ form ∷ forms → mid.version ≡ version → mid.line ≡ old.line + 1 → b ≡ a ++ r.numbers ∷ []
    → StepGives (asks version old.line false (form ∷ [])) r old.line mid.line old.lines mid.lines before.left between.left → between.faults ≡ before.faults
    → StepIs (asks_all mid.version mid.line false forms) (λ t rs. AreListed mid new b k rs) result mid new between now
    → StepIs (asks_all version old.line false all) (λ t rs. AreListed old new a k rs) result old new before now
kept_then version form forms all r a b k result old mid new before between now is v l row p same q =
    first_row (λ d. StepIs d (λ t rs. AreListed old new a k rs) result old new before now) version old.line form forms all is
    (step_then_is (asks version old.line false (form ∷ [])) (rows_after version old.line forms) r (λ t rs. AreListed old new a k rs) result old mid new before between now p same
    (step_map (asks_all version (old.line + 1) false forms) (λ rs. r ∷ rs) (λ t rs. AreListed mid new b k rs) (λ t rs. AreListed old new a k rs) result mid new between now more
    (subst (λ (j : ℕ). StepIs (asks_all version j false forms) (λ t rs. AreListed mid new b k rs) result mid new between now) l
    (subst (λ (j : ℕ). StepIs (asks_all j mid.line false forms) (λ t rs. AreListed mid new b k rs) result mid new between now) v q))))
  where
    more : (t : Unit {0}) (rs : List Record) → AreListed mid new b k rs → AreListed old new a k (r ∷ rs)
    more t rs h = (let m = h.0 in omega (arith, m, l), h.1 ∙ ap (λ (x : List (List ℤ)). x ++ lists rs) row ∙ append_assoc a (r.numbers ∷ []) (lists rs))

-- what stops the first record stops all
pub stops_first : (version n : ℕ) (form : Form) (forms all : List Form) (e : CheckStop) (old : Reading) (before now : SourceSeen) → all ≡ form ∷ forms → StopIs (asks version n false (form ∷ [])) e old before now
    → StopIs (asks_all version n false all) e old before now
stops_first version n form forms all e old before now is p =
    first_row (λ d. StopIs d e old before now) version n form forms all is (stop_first (asks version n false (form ∷ [])) (rows_after version n forms) e old before now p)

-- no records
pub kept_none : (version n : ℕ) (all : List Form) (kept : List (List ℤ)) (at : Reading) (seen : SourceSeen) → all ≡ [] → StepIs (asks_all version n false all) (λ (t : Unit {0}) rs. AreListed at at kept kept rs) (Ok tt) at at seen seen
unfolding asks_all
kept_none version n all kept at seen none =
    subst (λ (fs : List Form). StepIs (asks_all version n false fs) (λ (t : Unit {0}) rs. AreListed at at kept kept rs) (Ok tt) at at seen seen) (sym none)
    (step_gives [] (λ (t : Unit {0}) (rs : List Record). AreListed at at kept kept rs) tt at seen (omega arith, sym (append-nil kept)))

-- ---- shared lists

-- the shared lists after their number
abbrev pub table_rest : ℕ → ℕ → Record → Course (List Record)
table_rest version n head = asks_all version (n + 1) false (replicate (first_number head.numbers) vector_form) >>= (λ rows. Give (head ∷ rows))

-- what is said of the number of shared lists and those after it is said of the table of version 2
pub as_table : (P : Course (List Record) → Type 0) (version n : ℕ) → version ≡ 2 → P (asks version n false (table_form ∷ []) >>= table_rest version n) → P (asks_table version n)
as_table P version n e p = subst (λ (v : ℕ). P (asks_table v n)) (sym e) (subst (λ (v : ℕ). P (asks v n false (table_form ∷ []) >>= table_rest v n)) e p)

-- the number of shared lists, and then these
pub table_then : {T : Type 0} (head : Record) (count : ℕ) (Mid Says : T → List Record → Type 0) (result : Result T CheckStop) (old mid new : Reading) (before between now : SourceSeen)
    → old.version ≡ 2 → mid.version ≡ old.version → mid.line ≡ old.line + 1 → count ≡ first_number head.numbers → ((t : T) (rs : List Record) → Mid t rs → Says t (head ∷ rs))
    → StepGives (asks old.version old.line false (table_form ∷ [])) head old.line mid.line old.lines mid.lines before.left between.left → between.faults ≡ before.faults
    → StepIs (asks_all mid.version mid.line false (replicate count vector_form)) Mid result mid new between now
    → StepIs (asks_table old.version old.line) Says result old new before now
table_then head count Mid Says result old mid new before between now second v l number more p same q =
    as_table (λ d. StepIs d Says result old new before now) old.version old.line second
    (step_then_is (asks old.version old.line false (table_form ∷ [])) (table_rest old.version old.line) head Says result old mid new before between now p same
    (step_map (asks_all old.version (old.line + 1) false (replicate (first_number head.numbers) vector_form)) (λ rs. head ∷ rs) Mid Says result mid new between now more
    (subst (λ (k : ℕ). StepIs (asks_all old.version (old.line + 1) false (replicate k vector_form)) Mid result mid new between now) number
    (subst (λ (k : ℕ). StepIs (asks_all old.version k false (replicate count vector_form)) Mid result mid new between now) l
    (subst (λ (k : ℕ). StepIs (asks_all k mid.line false (replicate count vector_form)) Mid result mid new between now) v q)))))

pub table_stops : (e : CheckStop) (old : Reading) (before now : SourceSeen) → old.version ≡ 2 → StopIs (asks old.version old.line false (table_form ∷ [])) e old before now → StopIs (asks_table old.version old.line) e old before now
table_stops e old before now second p = as_table (λ d. StopIs d e old before now) old.version old.line second (stop_first (asks old.version old.line false (table_form ∷ [])) (table_rest old.version old.line) e old before now p)

-- the lists after their number are the table
pub table_is : (old mid new : Reading) (kept : List (List ℤ)) (head : Record) (all rs : List Record) → rs ≡ all → MovesBy mid new all → kept ≡ lists all → mid.line ≡ old.line + 1 → IsTable old new kept (head ∷ rs)
table_is old mid new kept head all rs same moves is l =
    subst (λ (xs : List Record). IsTable old new kept (head ∷ xs)) (sym same) (omega (arith, moves, l), is)

-- version 1 has none
pub no_table : {T : Type 0} (Says : T → List Record → Type 0) (t : T) (at : Reading) (seen : SourceSeen) → at.version ≡ 1 → Says t [] → StepIs (asks_table at.version at.line) Says (Ok t) at at seen seen
no_table Says t at seen first says = subst (λ (v : ℕ). StepIs (asks_table v at.line) Says (Ok t) at at seen seen) (sym first)
    (step_gives [] Says t at seen says)

-- so many of one form, of which the first is split off
pub replicate_first : (form : Form) (k m : ℕ) → k ≡ suc m → replicate k form ≡ form ∷ replicate m form
replicate_first form k m e = ap (λ (n : ℕ). replicate n form) e

pub replicate_none : (form : Form) (k : ℕ) → k ≡ 0 → replicate k form ≡ []
replicate_none form k e = ap (λ (n : ℕ). replicate n form) e
