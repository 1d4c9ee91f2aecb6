-- A formed answer and the records of its block: what is required of the one is required of the other.
use Rattle.crn_ctext.proofs.Prelude.{◌≡◌, ◌⊎◌, ◌+◌, ◌∙◌, ℕ, Bool, true, List, [], ◌∷◌, length, refl, sym, ap, ap₂, subst, inl, inr, Option, ℤ, pos, IsSome, IsSomeAnd, AllZip, Net, plain_table, strong_table, abs_back, Budget, Verdict, Unknown, Proof, RankProof, Forest, StrongTrees, Back, RankRows, Ranks, Sides, Ties, One, Two, HeadKind, Earlier, Question, Q1, Q2, Q3, Q5, Q6, Q7, Q8, Q9, Q11, Q12, Q13, Q14, Q15, on, rank_of, WrongNumber, WrongVerdict, Plan, linkage_count, head_tests, row_tests, signal_head, AreClassNumbers, IsValid, tight, tight_proof, TreeRow, trees, Block, FitsTree, block_of, trees_of, proof_of, HeadMayBe, IsFormedOf, Record, Fits, Problem, below, IsFormed, IsOneOf, AreTrees, heads, kind_at, head_of, records, records_below, proof_nodes, Known, has_vector, shapes_of, sizes_of, verdict_by, said_verdict, said_proof, meaning}
use Rattle.crn_cert.specs.declared.answer.Gap.TheVariants.{Rests}
use Rattle.crn_cert.specs.declared.answer.Verdict.TheVariants.{Classes, Strong, Rank, Deficiency, Yes, YesWeak, YesVec, YesSignal, No, OnlyZero}
use Rattle.crn_cert.specs.Tests.{Test, test}
use Rattle.crn_cert.specs.Blocks.{head_of as kind_of}
use Rattle.crn_cert.specs.Table as table
use Rattle.crn_ctext.specs.Documents as documents
use Rattle.crn_ctext.proofs.Forms.{head_record, row_records, spent_place, rests_place}
use Rattle.crn_ctext.proofs.Shown.{shown}
use Rattle.crn_ctext.proofs.KnownBefore.{AreKnown, IsStrong, IsStrongTrue}
use Rattle.crn_ctext.proofs.Joined.{IsLinked, IsJoinedAt, answer, parts, linked_there, linked_back}
use Rattle.crn_ctext.proofs.RanksLinked.{said_again, tests_said}
use Rattle.crn_ctext.proofs.TablesLinked.{concordant_tree, strongly_tree, tables_shown, plain_there, plain_back, strong_there, strong_back}
use Rattle.crn_ctext.proofs.SignalLinked.{signal_trees, signals_shown, signal_there, signal_back}
use Rattle.crn_ctext.proofs.RecordsDerived.{head_as_before, records_as_before}
use Rattle.crn_ctext.proofs.BlocksFormed.{AreLike, blocks_are_formed, nodes_in, trees_due, Leaf}
use Rattle.crn_ctext.proofs.BlocksSaid.{block_said, turn_is}
use Rattle.crn_ctext.proofs.BlocksShown.{block_shown}
use Rattle.crn_ctext.proofs.RecordsTold.{ComesAfter, of_trees}

-- ---- no trees

none_of : (ts : List Plan) → AllZip FitsTree [] ts → ts ≡ []
none_of [] f = refl
none_of (t ∷ ts) f = absurd f

shown_apart : (p : Proof) → trees_of p ≡ [] → shown (tight_proof p) ≡ shown p
shown_apart (One tree) e = absurd cc
shown_apart (Two tree second) e = absurd cc
shown_apart (Ranks list) e = ap (λ (ps : List RankProof). (Ranks ps, [])) (said_again list)
shown_apart p e = refl

-- ---- tests

-- no test looks at spares
rows_tight : (net : Net) (earlier : Earlier) (q : Question) (v : Verdict) (p : Proof) → row_tests net earlier q (tight v) (tight_proof p) ≡ row_tests net earlier q v p
rows_tight net earlier Q1 (Classes count label) (Forest up depth) = refl
rows_tight net earlier Q2 (Strong count terminal label exit) (StrongTrees from from_depth to to_depth level) = refl
rows_tight net earlier Q3 Yes (Back back) = refl
rows_tight net earlier Q5 (Rank rank base) (RankRows r) = refl
rows_tight net earlier Q6 (Deficiency total classes) (Ranks list) = tests_said net earlier 1 1 list
rows_tight net earlier Q7 (Unknown gap) p = refl
rows_tight net earlier Q8 (Unknown gap) p = refl
rows_tight net earlier Q11 Yes (Sides sides) = refl
rows_tight net earlier Q12 (YesVec vector) (Ties ties) = refl
rows_tight net earlier Q12 OnlyZero (Ties ties) = refl
rows_tight net earlier Q13 No (One tree) = refl
rows_tight net earlier Q14 Yes (One tree) = refl
rows_tight net earlier Q15 Yes (One tree) = refl
rows_tight net earlier q v p = refl

-- the tests of a head on deficiencies, by what they rest on
abbrev deficiency_tests : Net → ℕ → ℕ → Option ℕ → Type 0 → List {1} Test
deficiency_tests net total count rank Numbers = test 0 WrongVerdict (IsSome rank) ∷ test 0 WrongNumber (IsSomeAnd rank (λ s. total + count + s ≡ length net.complexes) × Numbers) ∷ []

-- the tests of the record of a head are those of the verdict
claims_are : (known : Known) (q : Question) (v : Verdict) → HeadMayBe known.net known.earlier q v → meaning.head_claims q known (head_of q v) ≡ head_tests known.net known.earlier q v
claims_are known Q6 (Deficiency total classes) h =
    ap (λ (xs : List ℕ). deficiency_tests known.net total (linkage_count known.earlier) (rank_of (on known.earlier Q5)) (AreClassNumbers known.net known.earlier 1 xs)) (abs_back classes.list)
claims_are known Q9 (YesWeak true) h = refl
claims_are known Q13 (YesSignal turn shelves mu level weights) h = ap (λ (z : ℤ). signal_head known.earlier (YesSignal z shelves mu level weights)) (turn_is turn h.0)
claims_are known Q13 (Unknown (Budget nodes)) h = ap (λ (place : ℕ). signal_head known.earlier (verdict_by (kind_at Q13 place) (pos nodes ∷ []) [])) (spent_place (has_vector (on known.earlier Q12)) (sizes_of known))
claims_are known Q13 (Unknown (Rests question)) h = ap (λ (place : ℕ). signal_head known.earlier (verdict_by (kind_at Q13 place) (pos question ∷ []) [])) (rests_place (has_vector (on known.earlier Q12)) (sizes_of known))
claims_are known q (Unknown (Rests question)) h = search (refl, h)
claims_are known q v h = search (refl, h)

-- ---- an answer and its block

abbrev block : Known → Verdict → Proof → Block
block known v p = block_of known.net known.earlier v p

-- the records of a block, but for its trees
abbrev head_in : Question → Block → Record
head_in q b = head_record q b.kind b.head

abbrev rows_in : Known → Question → Block → List Record
rows_in known q b = row_records (table.rows known.net known.earlier q b.kind b.head) b.rows

-- those of the answer are they
above : (known : Known) (q : Question) (v : Verdict) (p : Proof) → IsFormedOf known.net known.earlier q v p → (head_of q v ≡ head_in q (block known v p)) × (records_below (shapes_of known) (answer v p) ≡ rows_in known q (block known v p))
above known q v p f = (head_as_before q v, records_as_before known q v p f)

-- the records of a formed answer are formed
pub block_formed : (known : Known) (q : Question) (v : Verdict) (p : Proof) → IsFormedOf known.net known.earlier q v p → IsFormed meaning q known (records q (shapes_of known) (answer v p)) (parts q known (answer v p))
block_formed known q v p f =
    let b : Block = block known v p in
    let own = records_below (shapes_of known) (answer v p) in
    let a = above known q v p f in
    let formed = blocks_are_formed of_trees known q b f.0 in
    record {
      head = subst (λ (h : Record). IsOneOf (heads q (sizes_of known)) h) (sym a.0) formed.head;
      rows = subst (λ (h : Record). AllZip Fits (below q (shapes_of known) h) own) (sym a.0) (subst (λ (rs : List Record). AllZip Fits (below q (shapes_of known) (head_in q b)) rs) (sym a.1) formed.rows);
      trees = subst (λ (h : Record). AreTrees Leaf (meaning.problems q known h) (proof_nodes p)) (sym a.0) (subst (λ (ns : List Record). AreTrees Leaf (meaning.problems q known (head_in q b)) ns) (sym (nodes_in p)) formed.trees);
    }

-- and say its verdict
pub block_says : (known : Known) (q : Question) (v : Verdict) (p : Proof) → IsFormedOf known.net known.earlier q v p → said_verdict q (sizes_of known) (head_of q v) (records_below (shapes_of known) (answer v p)) ≡ tight v
block_says known q v p f =
    let b : Block = block known v p in
    let fits = f.0 in
    let a = above known q v p f in
    ap₂ (λ (h : Record) (rs : List Record). said_verdict q (sizes_of known) h rs) a.0 a.1 ∙ block_said known q b.kind b.head b.rows fits.head fits.rows ∙ f.1.0

-- problems like no trees are none
none_like : (ts : List TreeRow) (ws : List {1} Problem) → ts ≡ [] → AreLike ts ws → ws ≡ []
none_like [] [] e l = refl
none_like [] (w ∷ ws) e l = absurd l
none_like (t ∷ ts) ws e l = absurd cc

-- a formed answer to which no trees are due
pub linked : (known : Known) (q : Question) (v : Verdict) (p : Proof) → trees known.net known.earlier q (block known v p).kind ≡ [] → IsFormedOf known.net known.earlier q v p → IsLinked known q (answer v p)
linked known q v p due f =
    let b : Block = block known v p in
    let fits = f.0 in
    let own = records_below (shapes_of known) (answer v p) in
    let a = above known q v p f in
    let none : trees_of p ≡ [] = none_of (trees_of p) (subst (λ (ts : List TreeRow). AllZip FitsTree ts (trees_of p)) due fits.trees) in
    let says = block_says known q v p f in
    let whole : said_proof q (shapes_of known) (head_of q v) own ≡ tight_proof p =
    ap₂ (λ (h : Record) (rs : List Record). said_proof q (shapes_of known) h rs) a.0 a.1 ∙ block_shown known q b.kind b.head b.rows fits.head fits.rows
    ∙ ap (λ (ts : List Plan). proof_of known.net known.earlier q b.kind b.head b.rows ts) (sym none) ∙ f.1.1 in
    record {
      formed = block_formed known q v p f;
      bare = none_like (trees known.net known.earlier q b.kind) (meaning.problems q known (head_of q v)) due
          (subst (λ (h : Record). AreLike (trees known.net known.earlier q b.kind) (meaning.problems q known h)) (sym a.0) (trees_due known q b.kind b.head fits.head));
      heads = claims_are known q v fits.head;
      rows = ap₂ (λ (w : Verdict) (u : Proof). row_tests known.net known.earlier q w u) says whole ∙ rows_tight known.net known.earlier q v p;
      says = says;
      shows = ap shown whole ∙ shown_apart p none;
    }

-- ---- answers with trees

-- the answers that have trees
abbrev HaveTrees : Question → Verdict → Type 0
HaveTrees Q13 No = Unit {0}
HaveTrees Q14 Yes = Unit {0}
HaveTrees Q15 Yes = Unit {0}
HaveTrees q v = ⊥

by_trees : (P : Question → Verdict → Type 0) (q : Question) (v : Verdict) → HaveTrees q v → P Q13 No → P Q14 Yes → P Q15 Yes → P q v
by_trees P Q13 No t a b c = a
by_trees P Q14 Yes t a b c = b
by_trees P Q15 Yes t a b c = c
by_trees P q v t a b c = absurd t

bare_or : (net : Net) (earlier : Earlier) (q : Question) (v : Verdict) → (trees net earlier q (kind_of v).0 ≡ []) ⊎ HaveTrees q v
bare_or net earlier Q13 No = inr tt
bare_or net earlier Q14 Yes = inr tt
bare_or net earlier Q15 Yes = inr tt
bare_or net earlier q (Unknown (Rests question)) = inl refl
bare_or net earlier q v = inl refl

-- ---- each question

abbrev IsThere : Known → Question → Verdict → Proof → Type 0
IsThere known q v p = documents.IsValid meaning q known (records q (shapes_of known) (answer v p)) (parts q known (answer v p))

strong_for : (b : Bool) (known : Known) → b ≡ true → AreKnown b known.earlier → IsStrong (on known.earlier Q2)
strong_for b known o k = subst (λ (x : Bool). AreKnown x known.earlier) o k

there_by : (b : Bool) (q : Question) → ComesAfter b q → (known : Known) (v : Verdict) (p : Proof) → AreKnown b known.earlier → IsFormedOf known.net known.earlier q v p → (trees known.net known.earlier q (kind_of v).0 ≡ []) ⊎ HaveTrees q v → IsValid known.net known.earlier q (answer v p) → IsThere known q v p
there_by b q o known v p k f (inl due) valid = linked_there known q (answer v p) (linked known q v p due f) valid
there_by b q o known v p k f (inr t) valid =
    by_trees (λ (q : Question) (v : Verdict). ComesAfter b q → IsFormedOf known.net known.earlier q v p → IsValid known.net known.earlier q (answer v p) → IsThere known q v p) q v t
    (λ o f valid. signal_there known p (strong_for b known o k) f valid) (λ o f valid. plain_there known p f valid) (λ o f valid. strong_there known p f valid) o f valid

back_by : (b : Bool) (q : Question) → ComesAfter b q → (known : Known) (v : Verdict) (p : Proof) → AreKnown b known.earlier → IsStrongTrue b known → IsFormedOf known.net known.earlier q v p → (trees known.net known.earlier q (kind_of v).0 ≡ []) ⊎ HaveTrees q v → IsThere known q v p → IsValid known.net known.earlier q (answer v p)
back_by b q o known v p k s f (inl due) valid = linked_back known q (answer v p) (linked known q v p due f) valid
back_by b q o known v p k s f (inr t) valid =
    by_trees (λ (q : Question) (v : Verdict). ComesAfter b q → IsFormedOf known.net known.earlier q v p → IsThere known q v p → IsValid known.net known.earlier q (answer v p)) q v t
    (λ o f valid. signal_back known p (strong_for b known o k) (subst (λ (x : Bool). IsStrongTrue x known) o s) f valid) (λ o f valid. plain_back known p f valid) (λ o f valid. strong_back known p f valid) o f valid

abbrev AlikeShown : Known → Question → Verdict → Verdict → Proof → Proof → Type 0
AlikeShown known q v w p r = head_of q v ≡ head_of q w → records_below (shapes_of known) (answer v p) ≡ records_below (shapes_of known) (answer w r) → proof_nodes p ≡ proof_nodes r → shown p ≡ shown r

bare_shown : (b : Bool) (q : Question) → ComesAfter b q → ((net : Net) (earlier : Earlier) (kind : HeadKind) → trees net earlier q kind ≡ []) → (known : Known) (v w : Verdict) (p r : Proof) → AreKnown b known.earlier → IsFormedOf known.net known.earlier q v p → IsFormedOf known.net known.earlier q w r → AlikeShown known q v w p r
bare_shown b q o none known v w p r k f g head rows nodes =
    let l = linked known q v p (none known.net known.earlier (kind_of v).0) f in
    let m = linked known q w r (none known.net known.earlier (kind_of w).0) g in
    sym l.shows ∙ ap₂ (λ (x : Record) (xs : List Record). shown (said_proof q (shapes_of known) x xs)) head rows ∙ m.shows

shows_by : (b : Bool) (q : Question) → ComesAfter b q → (known : Known) (v w : Verdict) (p r : Proof) → AreKnown b known.earlier → IsFormedOf known.net known.earlier q v p → IsFormedOf known.net known.earlier q w r → AlikeShown known q v w p r
shows_by b Q13 o known v w p r k f g head rows nodes = signals_shown known p r (strong_for b known o k) (signal_trees known.net known.earlier v p f) (signal_trees known.net known.earlier w r g) nodes
shows_by b Q14 o known v w p r k f g head rows nodes = tables_shown known.net (plain_table known.net) p r (concordant_tree known.net known.earlier v p f) (concordant_tree known.net known.earlier w r g) nodes
shows_by b Q15 o known v w p r k f g head rows nodes = tables_shown known.net (strong_table known.net) p r (strongly_tree known.net known.earlier v p f) (strongly_tree known.net known.earlier w r g) nodes
shows_by b q o known v w p r k f g head rows nodes = bare_shown b q o (λ net earlier kind. refl) known v w p r k f g head rows nodes

pub joined : (b : Bool) (q : Question) → ComesAfter b q → IsJoinedAt b q
joined b q o = record {
  formed = λ known v p k f. block_formed known q v p f;
  there = λ known v p k f valid. there_by b q o known v p k f (bare_or known.net known.earlier q v) valid;
  back = λ known v p k s f valid. back_by b q o known v p k s f (bare_or known.net known.earlier q v) valid;
  says = λ known v p k f. block_says known q v p f;
  shows = λ known v w p r k f g head rows nodes. shows_by b q o known v w p r k f g head rows nodes;
}
