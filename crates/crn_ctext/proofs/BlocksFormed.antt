-- Blocks with their trees: the records of one that fits are formed, and formed records are of one that fits.
use Rattle.crn_ctext.proofs.Prelude.{◌≡◌, ◌+◌, ◌++◌, ◌∙◌, ℕ, suc, Bool, true, false, List, [], ◌∷◌, map, refl, sym, ap, ap₂, subst, AllZip, flat_map, append-nil, Sign, Question, Q1, Q2, Q3, Q4, Q5, Q6, Q7, Q8, Q9, Q10, Q11, Q12, Q13, Q14, Q15, on, Plan, IsFormedTree, Proof, Gap, RankProof, KeptNums, tight, tight_proof, tight_nums, tight_gap, tight_rank, Record, Problem, nodes, proof_nodes, IsOneOf, IsTree, AreTrees, Parts, leaf_forms, Known, has_vector, is_yes, sizes_of, problems_by, meaning, signal_problems, HeadKind, Classes, Strong, Rank, Deficiency, Yes, YesWeak, YesVec, YesSignal, No, NoReaction, NoVec, NoNumber, NoTerminal, NoClass, NoSum, NoDependence, NoCycle, NoPair, NotRegular, OnlyZero, Plane, NotApplicable, Rests, Datum, Nums, Led, Basis, TreeRow, fields, trees, one_or_two, signal_tree, others, rank_in, IsFormedOf, Block, FitsBlock, FitsHead, FitsTree, SaysAnswer, trees_of, proof_of, proof_by, rank_proof, class_proofs, class_length, at, nat_in, second_in, nums_in, list_in, gap_in, head_back, blocks_are_of_answers}
use Rattle.std.specs.Prelude.{take, drop}
use Rattle.crn_cert.specs.declared.head_kind.HeadKind.TheVariants.{Wide, Budget}
use Rattle.crn_cert.specs.Blocks.{verdict_of}
use Rattle.crn_cert.specs.declared.answer.Proof.TheVariants as proof
use Rattle.crn_cert.specs.declared.answer.Verdict.TheVariants as verdict
use Rattle.crn_ctext.specs.Documents as documents
use Rattle.crn_cert.specs.Table as table
use Rattle.crn_ctext.proofs.Forms.{head_record, row_records, spent_place, rests_place}
use Rattle.crn_ctext.proofs.RowsDerived.{HeadOf, head_by}
use Rattle.crn_ctext.proofs.RecordsTyped.{records_are_blocks}
use Rattle.crn_ctext.proofs.RowsSaid.{blocks_are_records}

-- ---- the trees that are due

-- the problem has the sizes of the tree
abbrev pub HasSizes : TreeRow → Problem → Type 0
HasSizes t w = (t.choices ≡ w.choices) × (t.count_a ≡ w.count_a) × (t.count_b ≡ w.count_b)

-- and so have several
abbrev pub AreLike : List TreeRow → List {1} Problem → Type 0
AreLike [] [] = Unit {0}
AreLike (t ∷ ts) (w ∷ ws) = HasSizes t w × AreLike ts ws
AreLike ts ws = ⊥

signals_like : (known : Known) → (b : Bool) → AreLike (one_or_two b (signal_tree (table.sizes_of known.net known.earlier))) (signal_problems known b)
signals_like known true = ((refl, refl, refl), ((refl, refl, refl), tt))
signals_like known false = ((refl, refl, refl), tt)

abbrev pub AreDue : Known → Question → HeadKind → List Datum → Type 0
AreDue known q kind h = AreLike (trees known.net known.earlier q kind) (meaning.problems q known (head_record q kind h))

like_by : (known : Known) (q : Question) (kind : HeadKind) (a : HeadOf known q kind) → FitsHead q (table.sizes_of known.net known.earlier) kind (head_by known q kind a) → AreDue known q kind (head_by known q kind a)
like_by known Q13 No a h = signals_like known (is_yes (on known.earlier Q4))
like_by known Q13 Budget a h = subst (λ (place : ℕ). AreLike [] (problems_by Q13 known place)) (sym (spent_place (has_vector (on known.earlier Q12)) (sizes_of known))) tt
like_by known Q13 Rests a h = subst (λ (place : ℕ). AreLike [] (problems_by Q13 known place)) (sym (rests_place (has_vector (on known.earlier Q12)) (sizes_of known))) tt
like_by known Q14 Yes a h = ((refl, refl, refl), tt)
like_by known Q15 Yes a h = ((refl, refl, refl), tt)
like_by known q kind a h = search (tt, h)

pub trees_due : (known : Known) (q : Question) (kind : HeadKind) (h : List Datum) → FitsHead q (table.sizes_of known.net known.earlier) kind h → AreDue known q kind h
trees_due known q kind h f =
    let a = head_back (fields q (table.sizes_of known.net known.earlier) kind) h f in
    let head = subst (λ (h : List Datum). FitsHead q (table.sizes_of known.net known.earlier) kind h) a.1 f in
    subst (λ (h : List Datum). AreDue known q kind h) (sym a.1) (like_by known q kind a.0 head)

-- ---- trees as records, by the laws of one tree

abbrev pub Leaf : Problem → List Sign → Record → Type 0
Leaf w prefix r = IsOneOf (leaf_forms w) r

abbrev pub At : Problem → Plan → Type 0
At w tree = IsFormedTree w.choices w.count_a w.count_b [] tree

-- the records of a formed tree are a tree, and those of a tree are of a formed one
pub record OfTrees : Type 1 where
  pub there : (w : Problem) (tree : Plan) → At w tree → IsTree (Leaf w) w.choices [] (nodes tree)
  pub back : (w : Problem) (rs : List Record) → IsTree (Leaf w) w.choices [] rs → (tree : Plan) × (rs ≡ nodes tree) × At w tree

moved : (t : TreeRow) (w : Problem) (tree : Plan) → HasSizes t w → FitsTree t tree → At w tree
moved t w tree s f = subst (λ (n : ℕ). IsFormedTree n w.count_a w.count_b [] tree) s.0 (subst (λ (n : ℕ). IsFormedTree t.choices n w.count_b [] tree) s.1 (subst (λ (n : ℕ). IsFormedTree t.choices t.count_a n [] tree) s.2 f))

moved_back : (t : TreeRow) (w : Problem) (tree : Plan) → HasSizes t w → At w tree → FitsTree t tree
moved_back t w tree s f = subst (λ (n : ℕ). IsFormedTree t.choices t.count_a n [] tree) (sym s.2) (subst (λ (n : ℕ). IsFormedTree t.choices n w.count_b [] tree) (sym s.1) (subst (λ (n : ℕ). IsFormedTree n w.count_a w.count_b [] tree) (sym s.0) f))

trees_said : OfTrees → (ts : List TreeRow) (ws : List {1} Problem) (plans : List Plan) → AreLike ts ws → AllZip FitsTree ts plans → AreTrees Leaf ws (flat_map nodes plans)
trees_said o [] [] [] l f = refl
trees_said o [] (w ∷ ws) plans l f = absurd l
trees_said o (t ∷ ts) [] plans l f = absurd l
trees_said o (t ∷ ts) (w ∷ ws) (tree ∷ plans) l f = (nodes tree, flat_map nodes plans, refl, o.there w tree (moved t w tree l.0 f.0), trees_said o ts ws plans l.1 f.1)
trees_said o ts ws plans l f = absurd f

trees_given : OfTrees → (ts : List TreeRow) (ws : List {1} Problem) (rs : List Record) → AreLike ts ws → AreTrees Leaf ws rs → (plans : List Plan) × AllZip FitsTree ts plans × (rs ≡ flat_map nodes plans)
trees_given o [] [] rs l f = ([], tt, f)
trees_given o (t ∷ ts) (w ∷ ws) rs l f =
    let one = o.back w f.0 f.3 in
    let more = trees_given o ts ws f.1 l.1 f.4 in
    (one.0 ∷ more.0, (moved_back t w one.0 l.0 one.2, more.1), f.2 ∙ ap₂ (λ (x y : List Record). x ++ y) one.1 more.2)
trees_given o ts ws rs l f = absurd l

-- ---- a block

-- the records of a block
abbrev pub records_in : Known → Question → Block → List Record
records_in known q b = head_record q b.kind b.head ∷ row_records (table.rows known.net known.earlier q b.kind b.head) b.rows ++ flat_map nodes b.trees

-- its parts
abbrev pub parts_in : (known : Known) (q : Question) (b : Block) → Parts (records_in known q b)
parts_in known q b = record { head = head_record q b.kind b.head; rows = row_records (table.rows known.net known.earlier q b.kind b.head) b.rows; nodes = flat_map nodes b.trees; all = refl }

pub blocks_are_formed : OfTrees → (known : Known) (q : Question) (b : Block) → FitsBlock known.net known.earlier q b → documents.IsFormed meaning q known (records_in known q b) (parts_in known q b)
blocks_are_formed o known q b f =
    let head = f.head in
    let rows = f.rows in
    let plans = f.trees in
    let there = blocks_are_records known q (head_record q b.kind b.head) (row_records (table.rows known.net known.earlier q b.kind b.head) b.rows)
    (record { kind = b.kind; head = b.head; rows = b.rows; head_fits = head; rows_fit = rows; head_is = refl; rows_are = refl }) in
    record { head = there.0; rows = there.1; trees = trees_said o (trees known.net known.earlier q b.kind) (meaning.problems q known (head_record q b.kind b.head)) b.trees (trees_due known q b.kind b.head head) plans }

pub formed_are_blocks : OfTrees → (known : Known) (q : Question) (rs : List Record) (p : Parts rs) → documents.IsFormed meaning q known rs p
    → (b : Block) × FitsBlock known.net known.earlier q b × (rs ≡ records_in known q b) × (p.head ≡ head_record q b.kind b.head) × (p.rows ≡ row_records (table.rows known.net known.earlier q b.kind b.head) b.rows) × (p.nodes ≡ flat_map nodes b.trees)
formed_are_blocks o known q rs p f =
    let head_of = f.head in
    let rows_of = f.rows in
    let trees_of = f.trees in
    let b = records_are_blocks known q p.head p.rows head_of rows_of in
    let kind = b.kind in
    let head = b.head in
    let rows = b.rows in
    let head_fits = b.head_fits in
    let rows_fit = b.rows_fit in
    let due = subst (λ (h : Record). AreLike (trees known.net known.earlier q kind) (meaning.problems q known h)) (sym b.head_is) (trees_due known q kind head head_fits) in
    let t = trees_given o (trees known.net known.earlier q kind) (meaning.problems q known p.head) p.nodes due trees_of in (
      record { kind = kind; head = head; rows = rows; trees = t.0 },
      record { head = head_fits; rows = rows_fit; trees = t.1 },
      p.all ∙ ap₂ (λ (h : Record) (more : List Record). h ∷ more) b.head_is (ap₂ (λ (x y : List Record). x ++ y) b.rows_are t.2),
      b.head_is,
      b.rows_are,
      t.2,
    )

-- ---- an answer

pub nodes_in : (p : Proof) → proof_nodes p ≡ flat_map nodes (trees_of p)
nodes_in (proof.One tree) = sym (append-nil (nodes tree))
nodes_in (proof.Two tree second) = ap (λ (t : List Record). nodes tree ++ t) (sym (append-nil (nodes second)))
nodes_in p = refl

-- ---- the answer of a block has no spares

nums_tight : (d : Datum) → tight_nums (nums_in d) ≡ nums_in d
nums_tight (Nums xs) = refl
nums_tight d = refl

gap_tight : (d : Datum) → tight_gap (gap_in d) ≡ gap_in d
gap_tight (Basis system class index basis) = refl
gap_tight d = refl

verdict_tight : (kind : HeadKind) (h r : List Datum) → tight (verdict_of kind h r) ≡ verdict_of kind h r
verdict_tight Classes h r = ap (λ (x : KeptNums). verdict.Classes (nat_in (at h 0)) x) (nums_tight (at r 0))
verdict_tight Strong h r = ap₂ (λ (x y : KeptNums). verdict.Strong (nat_in (at h 0)) (second_in (at h 0)) x y) (nums_tight (at r 0)) (nums_tight (at r 6))
verdict_tight Rank h r = ap (λ (x : KeptNums). verdict.Rank (nat_in (at h 0)) x) (nums_tight (at r 0))
verdict_tight Deficiency h r = ap (λ (x : KeptNums). verdict.Deficiency (nat_in (at h 0)) x) (nums_tight (at h 0))
verdict_tight NoCycle h r = ap (λ (x : KeptNums). verdict.NoCycle (nat_in (at h 0)) x) (nums_tight (at r 0))
verdict_tight Wide h r = ap (λ (x : Gap). verdict.Unknown x) (gap_tight (at h 0))
verdict_tight kind h r = refl

rank_tight : (rank : ℕ) (r : List Datum) → tight_rank (rank_proof rank r) ≡ rank_proof rank r
rank_tight rank r = ap (λ (x : KeptNums). record { base = x; duals = map list_in (take rank (drop 1 r)); combs = map list_in (drop (suc rank) r) }) (nums_tight (at r 0))

pub classes_tight : (known : Known) (k : ℕ) (ds : List ℕ) (r : List Datum) → map tight_rank (class_proofs known.net known.earlier k ds r) ≡ class_proofs known.net known.earlier k ds r
classes_tight known k [] r = refl
classes_tight known k (d ∷ ds) r = ap₂ (λ (x : RankProof) (xs : List RankProof). x ∷ xs) (rank_tight (rank_in known.net known.earlier k d) (take (class_length known.net known.earlier k d) r)) (classes_tight known (suc k) ds (drop (class_length known.net known.earlier k d) r))

plans_tight : (plans : List Plan) → tight_proof (proof_by plans) ≡ proof_by plans
plans_tight (tree ∷ []) = refl
plans_tight plans = refl

proof_tight : (known : Known) (q : Question) (kind : HeadKind) (h r : List Datum) (plans : List Plan) → tight_proof (proof_of known.net known.earlier q kind h r plans) ≡ proof_of known.net known.earlier q kind h r plans
proof_tight known Q1 Classes h r plans = ap₂ (λ (x y : KeptNums). proof.Forest x y) (nums_tight (at r 1)) (nums_tight (at r 2))
proof_tight known Q2 Strong h r plans =
    ap₂ (λ (x y : KeptNums). proof.Strong x y (tight_nums (nums_in (at r 3))) (tight_nums (nums_in (at r 4))) (tight_nums (nums_in (at r 5)))) (nums_tight (at r 1)) (nums_tight (at r 2))
    ∙ ap₂ (λ (x y : KeptNums). proof.Strong (nums_in (at r 1)) (nums_in (at r 2)) x y (tight_nums (nums_in (at r 5)))) (nums_tight (at r 3)) (nums_tight (at r 4))
    ∙ ap (λ (x : KeptNums). proof.Strong (nums_in (at r 1)) (nums_in (at r 2)) (nums_in (at r 3)) (nums_in (at r 4)) x) (nums_tight (at r 5))
proof_tight known Q3 Yes h r plans = ap (λ (x : KeptNums). proof.Back x) (nums_tight (at r 0))
proof_tight known Q5 Rank h r plans = ap (λ (x : RankProof). proof.Rank x) (rank_tight (nat_in (at h 0)) r)
proof_tight known Q6 Deficiency h r plans = ap (λ (x : List RankProof). proof.Ranks x) (classes_tight known 1 (others h) r)
proof_tight known Q11 Yes h r plans = refl
proof_tight known Q12 YesVec h r plans = refl
proof_tight known Q12 OnlyZero h r plans = refl
proof_tight known q kind h r plans = plans_tight plans

-- the answer of a block that fits is formed
pub answers_formed : (known : Known) (q : Question) (b : Block) → FitsBlock known.net known.earlier q b → IsFormedOf known.net known.earlier q (verdict_of b.kind b.head b.rows) (proof_of known.net known.earlier q b.kind b.head b.rows b.trees)
answers_formed known q b f =
    subst (λ (c : Block). FitsBlock known.net known.earlier q c × SaysAnswer known.net known.earlier q c (verdict_of b.kind b.head b.rows) (proof_of known.net known.earlier q b.kind b.head b.rows b.trees)) (sym (blocks_are_of_answers known.net known.earlier q b f))
    (f, (sym (verdict_tight b.kind b.head b.rows), sym (proof_tight known q b.kind b.head b.rows b.trees)))
