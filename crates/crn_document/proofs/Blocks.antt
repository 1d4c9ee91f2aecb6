-- The tests of a block, in the words of a document's course, and what is known after it.
use Rattle.crn_document.proofs.Prelude.{◌≡◌, ◌≤◌, ◌+◌, ◌-◌, ◌++◌, ◌∙◌, ℕ, zero, suc, Bool, true, false, ◌==◌, ◌&&◌, List, [], ◌∷◌, length, map, replicate, refl, sym, subst, ap, ap₂, inl, inr, arith, Result, ℤ, if◌then◌else◌, slice_index_or, AllByRecursion, AllZip, flat_map, eqb-true, length-map, map-append, Place, Net, MAX_COMPLEXES, Verdict, No, Yes, Rests, Proof, Answer, Earlier, Question, Q2, Q13, Q14, Q15, on, terminal_of, Test, AllHold, FailsFirst, HasVector, exits, head_tests, linkage, linkage_count, row_tests, strong, tests_of, pairs_to, IsFormed, IsFormedOf, hold_parts, Record, Form, Fits, decided, kind_at, later_numbers, open_kinds, Course, Give, ◌>>=◌, Gives, AfterBlocks, Problem, asks_all, asks_trees, below, claims, has_tree, StepGives, SourceSeen, and_first, zip_long, records_formed, Reading, CheckStop, StepIs, step_map, step_then_is, Known, lists, problems_by, sizes_of, shapes_of, verdict_by, verdict_of, proof_by, proof_of, meaning, KeptFacts, asked, AsksForTree, IsBuilt, shown_by_tree, tree_place, tight, Part, verdict_of_head, FitAnswer, part_proofs, proof_of_head, IsKnownFor, parts_below, AreRows, MayBeRow, fixed_rows, many_rows, part_rows, row_form, rows_below, Row, Comb, Dual, M, Mu, Shelves, Side, Tie, Weights, IsHead, known_of, class_count, HeadHolds, IsAfter, IsBlock, Learns, after_at, after_by, end_course, forms_below, head_course, many_after, parts_after, rows_course, tests_course, Block, Checked, IsRead, AreSmall, HoldsNoTree, answer_treeless, all_same, all_append}
use Rattle.crn_document.specs.Inner.Answer.{kind_of}
use Rattle.crn_ctext.specs.Course as course
use Rattle.crn_ctext.specs.Meaning as said
use Rattle.crn_document.proofs.Fields.{part_within}
use Rattle.crn_document.proofs.Ranks.{AreRanks}
use Rattle.crn_document.proofs.HeadKinds.{heads_hold, tight_and_bare}
use Rattle.crn_document.proofs.HeadFacts.{HeadFacts}
use Rattle.crn_document.proofs.Heads.{said_facts}
use Rattle.crn_document.proofs.TreesBelow.{no_tree_below}

-- ---- claims

pub claims_hold : (n : ℕ) (cs : List {1} Test) (place : Place) → AllHold cs → Gives (claims n cs) place tt place
unfolding claims Gives
claims_hold n [] place h = (refl, refl)
claims_hold n (c ∷ cs) place h = (tt, h.0, claims_hold n cs place h.1)

pub claims_fail : (n : ℕ) (cs : List {1} Test) (part code : ℕ) (place : Place) → FailsFirst cs part code → course.FailsFirst (claims n cs) place (n + part) code
unfolding claims course.FailsFirst
claims_fail n [] part code place f = absurd f
claims_fail n (c ∷ cs) part code place (inl f) = inl (ap (λ (k : ℕ). n + k) (sym f.1), sym f.2, λ x. f.0)
claims_fail n (c ∷ cs) part code place (inr f) = inr (tt, f.0, claims_fail n cs part code place f.1)

fail_after : (hs ts : List {1} Test) (part code : ℕ) → AllHold hs → FailsFirst (hs ++ ts) part code → FailsFirst ts part code
fail_after [] ts part code h f = f
fail_after (t ∷ hs) ts part code h (inl f) = absurd (f.0 h.0)
fail_after (t ∷ hs) ts part code h (inr f) = fail_after hs ts part code h.1 f.1

-- ---- rows

pub block_length : {net : Net} {earlier : Earlier} {block : Block} {h : Record} {rs : List Record} → IsBlock net earlier block h rs → length block.rows.now ≡ length rs
block_length {net} {earlier} {block} {h} {rs} b = ap (λ (x : List (List ℤ)). length x) b.rows_are ∙ length-map rs (λ (r : Record). r.numbers)

-- what the head of a block that was read says
read_head : {net : Net} {checked : Checked} {line : ℕ} {block : Block} → IsRead net checked line block → (h : Record) → IsHead net checked.facts.earlier block.question block.head.now h → HeadFacts net checked.facts.earlier block.question h block.head.now
read_head {net} {checked} {line} {block} read h said = said_facts net block.question checked.facts block.head.now h read.built read.ready.known said

pub read_small : {net : Net} {checked : Checked} {line : ℕ} {block : Block} → IsRead net checked line block → AreSmall block.head.now
read_small read = let b = read.some.2 in let f = read_head read read.some.0 b.is_head in f.small

pub block_fits : {net : Net} {checked : Checked} {line : ℕ} {block : Block} → IsRead net checked line block → FitAnswer (asked block.question) block.head.now block.parts.now block.rows.now
block_fits {net} {checked} {line} {block} read =
    let b = read.some.2 in
    let f = read_head read read.some.0 b.is_head in
    let g = f.fit in
    subst (λ (ps : List Part). FitAnswer (asked block.question) block.head.now ps block.rows.now) (sym read.parts_are)
    (subst (λ (x : List (List ℤ)). FitAnswer (asked block.question) block.head.now (parts_after net checked.facts.earlier block.question block.head.now) x) (sym b.rows_are) (g read.some.1 read.holds b.fit))

-- each record below a head has at most as many numbers as a line

parts_may : (parts : List Part) → AreRanks parts → AllByRecursion MayBeRow (flat_map part_rows parts)
parts_may [] a = tt
parts_may (p ∷ ps) a = (a.0, all_append MayBeRow (replicate p.rank Dual ++ replicate (p.count - p.rank) (Comb p.rank)) (flat_map part_rows ps) (all_append MayBeRow (replicate p.rank Dual) (replicate (p.count - p.rank) (Comb p.rank)) (all_same MayBeRow p.rank Dual tt) (all_same MayBeRow (p.count - p.rank) (Comb p.rank) a.0)) (parts_may ps a.1))

if_may : (b : Bool) (xs ys : List Row) → AllByRecursion MayBeRow xs → AllByRecursion MayBeRow ys → AllByRecursion MayBeRow (if b then xs else ys)
if_may true xs ys a c = a
if_may false xs ys a c = c

fixed_may : (n place : ℕ) → AllByRecursion MayBeRow (fixed_rows n place)
fixed_may n place =
    if_may (n == 1) _ _ (tt, (tt, (tt, tt))) (if_may (n == 2) _ _ (tt, (tt, (tt, (tt, (tt, (tt, (tt, tt))))))) (if_may (n == 3 && place == 1) _ _ (tt, tt) (if_may (n == 7 && place == 1) _ _ (tt, tt) (if_may (n == 7 && place == 2) _ _ (tt, tt) (if_may (n == 8 && place == 1) _ _ (tt, tt) (if_may (n == 8 && place == 2) _ _ (tt, tt) (if_may (n == 11 && place == 4) _ _ (tt, tt) (if_may (n == 12 && place == 1) _ _ (tt, tt) (if_may (n == 12 && place == 4) _ _ (tt, (tt, tt)) (if_may (n == 14 && place == 2) _ _ (tt, (tt, tt)) (if_may (n == 15 && place == 2) _ _ (tt, (tt, tt)) tt)))))))))))

sides_may : (pairs : List ℕ) → AllByRecursion MayBeRow (map (λ (r : ℕ). Side r) pairs)
sides_may [] = tt
sides_may (r ∷ rs) = (tt, sides_may rs)

signal_may : (b : Bool) (terminal : ℕ) → (b ≡ true → terminal ≤ MAX_COMPLEXES) → AllByRecursion MayBeRow (if b then Shelves terminal ∷ Mu ∷ M ∷ Weights ∷ [] else [])
signal_may true terminal few = (few refl, (tt, (tt, (tt, tt))))
signal_may false terminal few = tt

many_may : (net : Net) (labels exits : List ℕ) (terminal classes n place : ℕ) → (n ≡ 13 → terminal ≤ MAX_COMPLEXES) → classes ≤ MAX_COMPLEXES → AllByRecursion MayBeRow (many_rows net labels exits terminal classes n place)
many_may net labels exits terminal classes n place most few =
    if_may (n == 11 && place == 1) _ _ (sides_may (pairs_to net labels exits (length net.reactions)))
    (if_may (n == 12 && place == 1) _ _ (all_same MayBeRow (length net.complexes - 1) (Tie classes) few) (if_may (n == 12 && place == 3) _ _ (all_same MayBeRow (length net.complexes) (Tie classes) few) (signal_may (n == 13 && place == 1) terminal (λ e. most (eqb-true n 13 (and_first (n == 13) (place == 1) e))))))

pub rows_may : (net : Net) (labels exits : List ℕ) (terminal classes n place : ℕ) (parts : List Part) → (n ≡ 13 → terminal ≤ MAX_COMPLEXES) → classes ≤ MAX_COMPLEXES → AreRanks parts → AllByRecursion MayBeRow (rows_below n place (many_rows net labels exits terminal classes n place) parts)
rows_may net labels exits terminal classes n place parts most few a =
    let many = many_rows net labels exits terminal classes n place in
    all_append MayBeRow (fixed_rows n place) (many ++ flat_map part_rows parts) (fixed_may n place) (all_append MayBeRow many (flat_map part_rows parts) (many_may net labels exits terminal classes n place most few) (parts_may parts a))

-- ---- what is known

pub so_far_next : (qs : List Question) (q : Question) (old new : Earlier) (v : Verdict) → map (λ (e : Question × Verdict). e.0) old ≡ qs → new ≡ old ++ (q, v) ∷ [] → map (λ (e : Question × Verdict). e.0) new ≡ qs ++ q ∷ []
so_far_next qs q old new v so_far same =
    ap (λ (es : Earlier). map (λ (e : Question × Verdict). e.0) es) same ∙ map-append (λ (e : Question × Verdict). e.0) old ((q, v) ∷ [])
    ∙ ap (λ (xs : List Question). xs ++ q ∷ []) so_far

-- ---- after the records of a block

-- the verdict that a head and the records below it say is that of its numbers
head_says : (net : Net) (earlier : Earlier) (n : ℕ) (head : List ℤ) (h : Record) (rs : List Record) → IsHead net earlier n head h → verdict_of (asked n) (sizes_of (known_of net earlier)) h rs ≡ verdict_of_head (asked n) head rs
head_says net earlier n head h rs is = ap (λ (t : List ℤ). verdict_of_head (asked n) t rs) (sym is.tag)

-- the trees that are due after the records are those of the form of the head
pub trees_due : (net : Net) (earlier : Earlier) (n : ℕ) (head : List ℤ) (h : Record) → IsHead net earlier n head h → problems_by (asked n) (known_of net earlier) (said.number head 0) ≡ meaning.problems (asked n) (known_of net earlier) h
trees_due net earlier n head h is = ap (λ (t : List ℤ). problems_by (asked n) (known_of net earlier) (said.number t 0)) is.tag

-- ---- an answer and its block

-- the verdict and the proof that a head with these numbers and these records say
abbrev pub said_verdict : ℕ → List ℤ → List Record → Verdict
said_verdict n head rs = verdict_of_head (asked n) head rs

abbrev pub said_proof : Net → Earlier → ℕ → List ℤ → List Record → Proof
said_proof net earlier n head rs = proof_of_head (asked n) (parts_after net earlier n head) head rs

signal_place : (place : ℕ) (head : List ℤ) (rows : List (List ℤ)) → verdict_by (kind_at Q13 place) head rows ≡ No → place ≡ 2
signal_place (suc (suc zero)) head rows y = refl
signal_place (suc (suc (suc (suc (suc (suc zero)))))) head rows y = absurd cc
signal_place place head rows y = absurd cc

-- of the kinds of questions 14 and 15 the first alone says yes
yes_first : (i : ℕ) (head : List ℤ) (rows : List (List ℤ)) → verdict_by (slice_index_or (decided Q14 ++ open_kinds) i Rests) head rows ≡ Yes → i ≡ 0
yes_first zero head rows y = refl
yes_first (suc (suc (suc (suc zero)))) head rows y = absurd cc
yes_first i head rows y = absurd cc

plain_place : (place : ℕ) (head : List ℤ) (rows : List (List ℤ)) → verdict_by (kind_at Q14 place) head rows ≡ Yes → place ≡ 1
plain_place zero head rows y = absurd cc
plain_place (suc i) head rows y = ap (λ (k : ℕ). suc k) (yes_first i head rows y)

strong_place : (place : ℕ) (head : List ℤ) (rows : List (List ℤ)) → verdict_by (kind_at Q15 place) head rows ≡ Yes → place ≡ 1
strong_place zero head rows y = absurd cc
strong_place (suc i) head rows y = ap (λ (k : ℕ). suc k) (yes_first i head rows y)

-- the head of such a verdict is of the form below which trees follow
pub shown_first : (n : ℕ) (head : List ℤ) (rs : List Record) → AsksForTree n → said_verdict n head rs ≡ shown_by_tree (asked n) → said.number head 0 ≡ tree_place n
shown_first n head rs (inl e) y = signal_place (said.number head 0) (later_numbers head) (lists rs) (subst (λ (m : ℕ). said_verdict m head rs ≡ shown_by_tree (asked m)) e y) ∙ ap (λ (m : ℕ). tree_place m) (sym e)
shown_first n head rs (inr (inl e)) y = plain_place (said.number head 0) (later_numbers head) (lists rs) (subst (λ (m : ℕ). said_verdict m head rs ≡ shown_by_tree (asked m)) e y) ∙ ap (λ (m : ℕ). tree_place m) (sym e)
shown_first n head rs (inr (inr e)) y = strong_place (said.number head 0) (later_numbers head) (lists rs) (subst (λ (m : ℕ). said_verdict m head rs ≡ shown_by_tree (asked m)) e y) ∙ ap (λ (m : ℕ). tree_place m) (sym e)

-- the tests of the records
abbrev block_tests : Net → Earlier → Block → List Record → List {1} Test
block_tests net earlier block rs = row_tests net earlier (asked block.question) (said_verdict block.question block.head.now rs) (said_proof net earlier block.question block.head.now rs)

-- what is said of these tests is said of the course of the tests
block_course : {net : Net} {checked : Checked} {line : ℕ} {block : Block} {h : Record} {rs : List Record} (P : Course (Unit {0}) → Type 0) → IsRead net checked line block → IsBlock net checked.facts.earlier block h rs → P (claims block.line (block_tests net checked.facts.earlier block rs)) → P (tests_course net checked.facts.earlier block.question block.line h rs)
block_course {net} {checked} {line} {block} {h} {rs} P read b x =
    let earlier = checked.facts.earlier in
    let q = asked block.question in
    let f = read_head read h b.is_head in
    subst (λ (w : Verdict). P (claims block.line (row_tests net earlier q w (proof_of q (shapes_of (known_of net earlier)) h rs)))) (sym (head_says net earlier block.question block.head.now h rs b.is_head))
    (subst (λ (w : Proof). P (claims block.line (row_tests net earlier q (said_verdict block.question block.head.now rs) w))) (sym (let s = f.shown in s rs)) x)

-- the verdict that the block says is learnt
block_known : {net : Net} {earlier : Earlier} {block : Block} {h : Record} {rs : List Record} → IsBlock net earlier block h rs → (new : Earlier) → new ≡ earlier ++ (asked block.question, said_verdict block.question block.head.now rs) ∷ [] → Learns net earlier block.question new h rs
block_known {net} {earlier} {block} {h} {rs} b new is =
    ap (λ (es : Earlier). known_of net es) (is ∙ ap (λ (w : Verdict). earlier ++ (asked block.question, w) ∷ []) (sym (head_says net earlier block.question block.head.now h rs b.is_head)))

-- the answer is the one that a block that was read says
pub record IsAnswerOf (net : Net) (checked : Checked) (line : ℕ) (block : Block) (h : Record) (rs : List Record) (a : Answer) : Type 0 where
  pub read : IsRead net checked line block
  pub is_block : IsBlock net checked.facts.earlier block h rs
  pub verdict_is : a.verdict ≡ said_verdict block.question block.head.now rs
  pub proof_is : a.proof ≡ said_proof net checked.facts.earlier block.question block.head.now rs

pub said_answer : {net : Net} {checked : Checked} {line : ℕ} {block : Block} {h : Record} {rs : List Record} (a : Answer) → IsRead net checked line block → IsBlock net checked.facts.earlier block h rs
    → ((rs : List Record) → lists rs ≡ block.rows.now → a.verdict ≡ verdict_of_head (asked block.question) block.head.now rs) → ((rs : List Record) → lists rs ≡ block.rows.now → a.proof ≡ proof_of_head (asked block.question) block.parts.now block.head.now rs)
    → IsAnswerOf net checked line block h rs a
said_answer {net} {checked} {line} {block} {h} {rs} a read b verdict proof = record {
  read = read;
  is_block = b;
  verdict_is = verdict rs (sym b.rows_are);
  proof_is = proof rs (sym b.rows_are) ∙ ap (λ (ps : List Part). proof_of_head (asked block.question) ps block.head.now rs) read.parts_are;
}

same_answer : {net : Net} {checked : Checked} {line : ℕ} {block : Block} {h : Record} {rs : List Record} {a : Answer} (P : Verdict → Proof → Type 0) → IsAnswerOf net checked line block h rs a → P (said_verdict block.question block.head.now rs) (said_proof net checked.facts.earlier block.question block.head.now rs) → P a.verdict a.proof
same_answer {net} {checked} {line} {block} {h} {rs} {a} P is p =
    subst (λ (v : Verdict). P v a.proof) (sym is.verdict_is) (subst (λ (w : Proof). P (said_verdict block.question block.head.now rs) w) (sym is.proof_is) p)

other_answer : {net : Net} {checked : Checked} {line : ℕ} {block : Block} {h : Record} {rs : List Record} {a : Answer} (P : Verdict → Proof → Type 0) → IsAnswerOf net checked line block h rs a → P a.verdict a.proof → P (said_verdict block.question block.head.now rs) (said_proof net checked.facts.earlier block.question block.head.now rs)
other_answer {net} {checked} {line} {block} {h} {rs} {a} P is p =
    subst (λ (v : Verdict). P v (said_proof net checked.facts.earlier block.question block.head.now rs)) is.verdict_is (subst (λ (w : Proof). P a.verdict w) is.proof_is p)

pub answer_formed : {net : Net} {checked : Checked} {line : ℕ} {block : Block} {h : Record} {rs : List Record} {a : Answer} → IsAnswerOf net checked line block h rs a → (AsksForTree block.question → said.number block.head.now 0 ≡ tree_place block.question → ⊥) → IsFormed net checked.facts.earlier (asked block.question) a
answer_formed {net} {checked} {line} {block} {h} {rs} {a} is other =
    let earlier = checked.facts.earlier in
    let n = block.question in
    let head = block.head.now in
    let q = asked n in
    let here = known_of net earlier in
    let b = is.is_block in
    let f = read_head is.read h b.is_head in
    let below_is : below q (shapes_of here) h ≡ forms_below net earlier n head = f.below_is in
    let none : meaning.problems q here h ≡ [] = sym (trees_due net earlier n head h b.is_head) ∙ no_tree_below n is.read.built here (said.number head 0) other in
    let formed = records_formed here q h rs (let s = b.is_head in s.form) (subst (λ (fs : List Form). AllZip Fits fs rs) (sym below_is) b.fit) none in
    same_answer (λ v p. IsFormedOf net earlier q v p) is
    (subst (λ (v : Verdict). IsFormedOf net earlier q v (said_proof net earlier n head rs)) (head_says net earlier n head h rs b.is_head) (subst (λ (p : Proof). IsFormedOf net earlier q (verdict_of q (sizes_of here) h rs) p) (let s = f.shown in s rs) formed))

answer_holds : {net : Net} {checked : Checked} {line : ℕ} {block : Block} {h : Record} {rs : List Record} {a : Answer} → IsAnswerOf net checked line block h rs a → AllHold (tests_of net checked.facts.earlier (asked block.question) a) → AllHold (block_tests net checked.facts.earlier block rs)
answer_holds {net} {checked} {line} {block} {h} {rs} {a} is held =
    let tests = row_tests net checked.facts.earlier (asked block.question) in
    other_answer (λ v p. AllHold (tests v p)) is (hold_parts (head_tests net checked.facts.earlier (asked block.question) a.verdict) (tests a.verdict a.proof) held).1

-- the tests of its head hold
pub answer_heads : {net : Net} {checked : Checked} {line : ℕ} {block : Block} {h : Record} {rs : List Record} {a : Answer} → IsAnswerOf net checked line block h rs a → AllHold (head_tests net checked.facts.earlier (asked block.question) a.verdict)
answer_heads {net} {checked} {line} {block} {h} {rs} {a} is =
    let q = asked block.question in
    subst (λ (v : Verdict). AllHold (head_tests net checked.facts.earlier q v)) (sym is.verdict_is) (heads_hold net checked.facts.earlier q (kind_of q block.head.now) (later_numbers block.head.now) (lists rs) is.read.holds)

-- its verdict is as it is kept
pub answer_tight : {net : Net} {checked : Checked} {line : ℕ} {block : Block} {h : Record} {rs : List Record} {a : Answer} → IsAnswerOf net checked line block h rs a → tight a.verdict ≡ a.verdict
answer_tight {net} {checked} {line} {block} {h} {rs} {a} is =
    ap tight is.verdict_is ∙ (tight_and_bare (kind_of (asked block.question) block.head.now) (later_numbers block.head.now) (lists rs)).0 ∙ sym is.verdict_is

-- no tree shows it
pub answer_without_tree : {net : Net} {checked : Checked} {line : ℕ} {block : Block} {h : Record} {rs : List Record} {a : Answer} → IsAnswerOf net checked line block h rs a → (AsksForTree block.question → said.number block.head.now 0 ≡ tree_place block.question → ⊥) → AsksForTree block.question → HoldsNoTree a.proof
answer_without_tree {net} {checked} {line} {block} {h} {rs} {a} is other =
    answer_treeless net checked.facts.earlier block.question a (λ tree shown. other tree (shown_first block.question block.head.now rs tree (sym is.verdict_is ∙ shown))) (answer_formed is other)

answer_fails : {net : Net} {checked : Checked} {line : ℕ} {block : Block} {h : Record} {rs : List Record} {a : Answer} → IsAnswerOf net checked line block h rs a → (part code : ℕ) → FailsFirst (tests_of net checked.facts.earlier (asked block.question) a) part code → FailsFirst (block_tests net checked.facts.earlier block rs) part code
answer_fails {net} {checked} {line} {block} {h} {rs} {a} is part code f =
    let tests = row_tests net checked.facts.earlier (asked block.question) in
    other_answer (λ v p. FailsFirst (tests v p) part code) is (fail_after (head_tests net checked.facts.earlier (asked block.question) a.verdict) (tests a.verdict a.proof) part code (answer_heads is) f)

pub answer_part : {net : Net} {checked : Checked} {line : ℕ} {block : Block} {h : Record} {rs : List Record} {a : Answer} → IsAnswerOf net checked line block h rs a → (part code : ℕ) → FailsFirst (tests_of net checked.facts.earlier (asked block.question) a) part code → part ≤ suc (length block.rows.now)
answer_part {net} {checked} {line} {block} {h} {rs} {a} is part code f =
    let b = is.is_block in
    let g = read_head is.read h b.is_head in
    let l = block_length b in
    let w = part_within (suc (length rs)) (block_tests net checked.facts.earlier block rs) part code (let w = g.row_parts in w rs is.read.holds b.fit) (answer_fails is part code f) in
    omega (arith, l, w)

-- the tests of the records hold, and this is known after the block
pub block_learns : {net : Net} {checked : Checked} {line : ℕ} {block : Block} {h : Record} {rs : List Record} {a : Answer} → IsAnswerOf net checked line block h rs a → (new : Earlier)
    → AllHold (tests_of net checked.facts.earlier (asked block.question) a) → new ≡ checked.facts.earlier ++ (asked block.question, tight a.verdict) ∷ []
    → Learns net checked.facts.earlier block.question new h rs × ((place : Place) → Gives (tests_course net checked.facts.earlier block.question block.line h rs) place tt place)
block_learns {net} {checked} {line} {block} {h} {rs} {a} is new holds kept = (
  block_known is.is_block new (kept ∙ ap (λ (w : Verdict). checked.facts.earlier ++ (asked block.question, w) ∷ []) (answer_tight is ∙ is.verdict_is)),
  λ place. block_course (λ d. Gives d place tt place) is.read is.is_block (claims_hold block.line (block_tests net checked.facts.earlier block rs) place (answer_holds is holds)),
)

-- or the first test that the answer fails is that of the records
pub block_fails : {net : Net} {checked : Checked} {line : ℕ} {block : Block} {h : Record} {rs : List Record} {a : Answer} → IsAnswerOf net checked line block h rs a → (part code : ℕ) → FailsFirst (tests_of net checked.facts.earlier (asked block.question) a) part code
    → (place : Place) → course.FailsFirst (tests_course net checked.facts.earlier block.question block.line h rs) place (block.line + part) code
block_fails {net} {checked} {line} {block} {h} {rs} {a} is part code fails place =
    block_course (λ d. course.FailsFirst d place (block.line + part) code) is.read is.is_block
    (claims_fail block.line (block_tests net checked.facts.earlier block rs) part code place (answer_fails is part code fails))

-- ---- a verdict that trees show

-- that form says the verdict, and the records below it have no tests but those of the trees
record IsShownSaid (net : Net) (earlier : Earlier) (n : ℕ) (head : List ℤ) (rs : List Record) : Type 1 where
  verdict : said_verdict n head rs ≡ shown_by_tree (asked n)
  tests : row_tests net earlier (asked n) (said_verdict n head rs) (said_proof net earlier n head rs) ≡ []

shown_said : (net : Net) (earlier : Earlier) (n : ℕ) (head : List ℤ) (rs : List Record) → AsksForTree n → said.number head 0 ≡ tree_place n → IsShownSaid net earlier n head rs
shown_said net earlier n head rs (inl e) place =
    let two : said.number head 0 ≡ 2 = place ∙ ap (λ (m : ℕ). tree_place m) e in
    subst (λ (m : ℕ). IsShownSaid net earlier m head rs) (sym e) (record {
      verdict = subst (λ (k : ℕ). verdict_by (kind_at Q13 k) (later_numbers head) (lists rs) ≡ No) (sym two) refl;
      tests = subst (λ (k : ℕ). row_tests net earlier Q13 (verdict_by (kind_at Q13 k) (later_numbers head) (lists rs)) (proof_by (kind_at Q13 k) Q13 (part_proofs (parts_after net earlier 13 head) (lists rs)) (later_numbers head) (lists rs)) ≡ []) (sym two) refl;
    })
shown_said net earlier n head rs (inr (inl e)) place =
    let one : said.number head 0 ≡ 1 = place ∙ ap (λ (m : ℕ). tree_place m) e in
    subst (λ (m : ℕ). IsShownSaid net earlier m head rs) (sym e) (record {
      verdict = subst (λ (k : ℕ). verdict_by (kind_at Q14 k) (later_numbers head) (lists rs) ≡ Yes) (sym one) refl;
      tests = subst (λ (k : ℕ). row_tests net earlier Q14 (verdict_by (kind_at Q14 k) (later_numbers head) (lists rs)) (proof_by (kind_at Q14 k) Q14 (part_proofs (parts_after net earlier 14 head) (lists rs)) (later_numbers head) (lists rs)) ≡ []) (sym one) refl;
    })
shown_said net earlier n head rs (inr (inr e)) place =
    let one : said.number head 0 ≡ 1 = place ∙ ap (λ (m : ℕ). tree_place m) e in
    subst (λ (m : ℕ). IsShownSaid net earlier m head rs) (sym e) (record {
      verdict = subst (λ (k : ℕ). verdict_by (kind_at Q15 k) (later_numbers head) (lists rs) ≡ Yes) (sym one) refl;
      tests = subst (λ (k : ℕ). row_tests net earlier Q15 (verdict_by (kind_at Q15 k) (later_numbers head) (lists rs)) (proof_by (kind_at Q15 k) Q15 (part_proofs (parts_after net earlier 15 head) (lists rs)) (later_numbers head) (lists rs)) ≡ []) (sym one) refl;
    })

-- a no to question 13 whose head passes its tests is about a vector
pub vector_shown : (net : Net) (earlier : Earlier) (n : ℕ) (head : List ℤ) → n ≡ 13 → said.number head 0 ≡ tree_place n → HeadHolds net earlier n head → HasVector earlier
vector_shown net earlier n head e place hold =
    let two : said.number head 0 ≡ 2 = place ∙ ap (λ (m : ℕ). tree_place m) e in
    let h : HeadHolds net earlier 13 head = subst (λ (m : ℕ). HeadHolds net earlier m head) e hold in
    (subst (λ (k : ℕ). AllHold (head_tests net earlier Q13 (verdict_by (kind_at Q13 k) (later_numbers head) []))) two h).0

-- no test of the records fails, and this is known after the block
pub block_shown : {net : Net} {checked : Checked} {line : ℕ} {block : Block} {h : Record} {rs : List Record} → IsRead net checked line block → IsBlock net checked.facts.earlier block h rs → (new : Earlier) → AsksForTree block.question → said.number block.head.now 0 ≡ tree_place block.question → new ≡ checked.facts.earlier ++ (asked block.question, shown_by_tree (asked block.question)) ∷ []
    → Learns net checked.facts.earlier block.question new h rs × ((place : Place) → Gives (tests_course net checked.facts.earlier block.question block.line h rs) place tt place)
block_shown {net} {checked} {line} {block} {h} {rs} read b new tree place kept =
    let t = shown_said net checked.facts.earlier block.question block.head.now rs tree place in (
      block_known b new (kept ∙ ap (λ (w : Verdict). checked.facts.earlier ++ (asked block.question, w) ∷ []) (sym t.verdict)),
      λ place. block_course (λ d. Gives d place tt place) read b (subst (λ (ts : List {1} Test). Gives (claims block.line ts) place tt place) (sym t.tests) (claims_hold block.line [] place tt)),
    )

-- the tests of the records, and then the trees
pub block_then : {net : Net} {checked : Checked} {block : Block} {h : Record} {rs : List Record} (mid : Reading) → IsRead net checked mid.line block → IsBlock net checked.facts.earlier block h rs
    → (new : Earlier) (place : ℕ) (table : List (List ℤ)) (blocks : List (List Record)) (result : Result (Unit {0}) CheckStop) (last : Reading) (between now : SourceSeen)
    → place ≡ said.number block.head.now 0 → Learns net checked.facts.earlier block.question new h rs
    → StepGives (tests_course net checked.facts.earlier block.question block.line h rs) tt mid.line mid.line mid.lines mid.lines between.left between.left
    → StepIs (asks_trees mid.version table (problems_by (asked block.question) (known_of net checked.facts.earlier) place) mid.line) (λ t l. l ≡ last.line) result mid last between now
    → StepIs (end_course mid.version table (asked block.question) (after_at net checked.facts.earlier block.line blocks) h rs) (λ t y. IsAfter net new (has_tree (problems_by (asked block.question) (known_of net checked.facts.earlier) place)) last.line y) result mid last between now
block_then {net} {checked} {block} {h} {rs} mid read b new place table blocks result last between now is learnt s q =
    step_then_is (tests_course net earlier n block.line h rs) (λ x. asks_trees mid.version table due (block.line + 1 + length rs) >>= (λ l. Give (after l))) tt (λ t y. IsAfter net new by_tree last.line y) result mid mid last between between now s refl
    (step_map (asks_trees mid.version table due (block.line + 1 + length rs)) after (λ t l. l ≡ last.line) (λ t y. IsAfter net new by_tree last.line y) result mid last between now more
    (subst (λ (ps : List {1} Problem). StepIs (asks_trees mid.version table ps (block.line + 1 + length rs)) (λ t l. l ≡ last.line) result mid last between now) trees
    (subst (λ (k : ℕ). StepIs (asks_trees mid.version table (problems_by (asked n) (known_of net earlier) place) k) (λ t l. l ≡ last.line) result mid last between now) (sym ends) q)))
  where
    n : ℕ
    n = block.question

    earlier : Earlier
    earlier = checked.facts.earlier

    due : List {1} Problem
    due = meaning.problems (asked n) (known_of net earlier) h

    trees : problems_by (asked n) (known_of net earlier) place ≡ due
    trees = ap (λ (k : ℕ). problems_by (asked n) (known_of net earlier) k) is ∙ trees_due net earlier n block.head.now h b.is_head

    ends : block.line + 1 + length rs ≡ mid.line
    ends = let long = block_length b in omega (arith, long, read.ends)

    after : ℕ → AfterBlocks Known
    after l = record { known = meaning.learn (asked n) (known_of net earlier) h rs; by_tree = has_tree due; line = l; blocks = blocks ++ (h ∷ rs) ∷ [] }

    by_tree : Bool
    by_tree = has_tree (problems_by (asked n) (known_of net earlier) place)

    more : (t : Unit {0}) (l : ℕ) → l ≡ last.line → IsAfter net new by_tree last.line (after l)
    more t l e = (
      blocks ++ (h ∷ rs) ∷ [],
      ap (λ (ps : List {1} Problem). record { known = meaning.learn (asked n) (known_of net earlier) h rs; by_tree = has_tree ps; line = l; blocks = blocks ++ (h ∷ rs) ∷ [] }) (sym trees)
          ∙ ap (λ (k : Known). record { known = k; by_tree = by_tree; line = l; blocks = blocks ++ (h ∷ rs) ∷ [] }) (sym learnt)
          ∙ ap (λ (k : ℕ). after_by net new by_tree k (blocks ++ (h ∷ rs) ∷ [])) e,
    )

-- ---- after a head

-- what is said of the course of these records is said of what is due below the head
pub rows_course_by : (P : Course (AfterBlocks Known) → Type 0) (version : ℕ) (table : List (List ℤ)) (net : Net) (facts : KeptFacts) (n m line : ℕ) (head : List ℤ) (h : Record) (blocks : List (List Record)) → IsBuilt n → IsKnownFor net n facts → IsHead net facts.earlier n head h → m + 1 ≡ line
    → P (asks_all version line false (forms_below net facts.earlier n head) >>= (λ rows. end_course version table (asked n) (after_at net facts.earlier m blocks) h rows)) → P (rows_course version table (asked n) (after_at net facts.earlier m blocks) h)
rows_course_by P version table net facts n m line head h blocks built known said next p =
    let earlier = facts.earlier in
    let f = said_facts net n facts head h built known said in
    subst (λ (forms : List Form). P (asks_all version (m + 1) false forms >>= (λ rows. end_course version table (asked n) (after_at net earlier m blocks) h rows))) (sym f.below_is)
    (subst (λ (k : ℕ). P (asks_all version k false (forms_below net earlier n head) >>= (λ rows. end_course version table (asked n) (after_at net earlier m blocks) h rows))) (sym next) p)

-- the same course, by its tests
abbrev head_by : List {1} Test → Net → Earlier → ℕ → List (List Record) → (version : ℕ) → List (List ℤ) → Question → Record → Course (AfterBlocks Known)
head_by ts net earlier n blocks version table q h = claims n ts >>= (λ x. rows_course version table q (after_at net earlier n blocks) h)

pub head_course_by : (P : Course (AfterBlocks Known) → Type 0) (version : ℕ) (table : List (List ℤ)) (net : Net) (facts : KeptFacts) (n m : ℕ) (head : List ℤ) (h : Record) (blocks : List (List Record)) → IsBuilt n → IsKnownFor net n facts → IsHead net facts.earlier n head h
    → P (claims m (head_tests net facts.earlier (asked n) (said_verdict n head [])) >>= (λ x. rows_course version table (asked n) (after_at net facts.earlier m blocks) h)) → P (head_course version table (asked n) (after_at net facts.earlier m blocks) h)
head_course_by P version table net facts n m head h blocks built known said p =
    let earlier = facts.earlier in
    subst (λ (v : Verdict). P (head_by (head_tests net earlier (asked n) v) net earlier m blocks version table (asked n) h)) (sym (head_says net earlier n head h [] said)) p

-- the records that were read below a head
pub rows_block : (net : Net) (earlier : Earlier) (block : Block) (forms : List Form) (old : List (List ℤ)) (h : Record) (rs : List Record) → forms ≡ forms_below net earlier block.question block.head.now → old ≡ [] → IsHead net earlier block.question block.head.now h → AreRows forms old block.rows.now rs → IsBlock net earlier block h rs
rows_block net earlier block forms old h rs is none said r = record {
  is_head = said;
  fit = subst (λ (fs : List Form). AllZip Fits fs rs) is r.0;
  rows_are = r.1 ∙ ap (λ (x : List (List ℤ)). x ++ lists rs) none;
}

-- the forms of the records below a head, by what was computed of it
pub forms_are : (net : Net) (earlier : Earlier) (n : ℕ) (head : List ℤ) (labels : List ℕ) (count k place : ℕ) (parts : List Part) (due : List Row) → labels ≡ linkage earlier → count ≡ linkage_count earlier → k ≡ class_count n head → place ≡ said.number head 0 → parts ≡ parts_below net labels n head → due ≡ rows_below n place (many_rows net (strong earlier) (exits earlier) (terminal_of (on earlier Q2)) count n place) parts → map (row_form net labels k) due ≡ forms_below net earlier n head
forms_are net earlier n head labels count k place parts due lis cis kis pis tis dis =
    ap (λ (rows : List Row). map (row_form net labels k) rows) (dis ∙ ap₂ (λ (t : List Part) (c : ℕ). rows_below n place (many_rows net (strong earlier) (exits earlier) (terminal_of (on earlier Q2)) c n place) t) tis cis)
    ∙ ap (λ (l : List ℕ). map (row_form net l k) (rows_below n place (many_after net earlier n place) (parts_below net l n head))) lis
    ∙ ap₂ (λ (j : ℕ) (p : ℕ). map (row_form net (linkage earlier) j) (rows_below n p (many_after net earlier n p) (parts_after net earlier n head))) kis pis

pub rows_counted : (forms : List Form) (rows old : List (List ℤ)) (rs : List Record) → old ≡ [] → AreRows forms old rows rs → length rows ≡ length forms
rows_counted forms rows old rs none r =
    ap (λ (x : List (List ℤ)). length x) (r.1 ∙ ap (λ (x : List (List ℤ)). x ++ lists rs) none) ∙ length-map rs (λ (r : Record). r.numbers) ∙ zip_long forms rs r.0
