-- The block of the answer of a block that fits is that block.
use Rattle.crn_cert.proofs.Prelude.{◌≡◌, ◌≤◌, ◌-◌, ◌++◌, ◌∙◌, ◌==◌, ℕ, suc, Bool, true, false, List, [], ◌∷◌, length, map, take, drop, refl, sym, ap, ap₂, subst, arith, replicate, codes, AllZip, flat_map, range_with_len, length-replicate, take_at, drop_at, zip_long, Net, Earlier, Question, Q1, Q2, Q3, Q4, Q5, Q6, Q7, Q8, Q9, Q10, Q11, Q12, Q13, Q14, Q15, on, Plan, class_places, pair_places, is_yes, HeadKind, No, Datum, Num, Nums, Ints, Marks, Led, FreeSeveral, Side, TreeRow, row, rows, rank_rows, rank_in, class_rows, fields, trees, one_or_two, signal_tree, sizes_of, FitsRow, FitsTree, FitsHead, block_of, verdict_of, proof_of, list_in, one_if, rank_data, rank_proof, class_length, class_proofs, side_data, BlocksAreOfAnswers}
use Rattle.crn_cert.specs.declared.head_kind.HeadKind.TheVariants.{Classes, Strong, Rank, Deficiency, Yes, YesWeak, YesVec, OnlyZero}
use Rattle.crn_cert.proofs.BlockRows.{free_lists, cut_rows, rank_long}
use Rattle.crn_cert.proofs.DatumShapes.{AllOf, given, fields_in, fields_of, head_back, rows_back}

-- the block of the answer of this block is this block
abbrev IsAgain : Net → Earlier → Question → HeadKind → List Datum → List Datum → List Plan → Type 0
IsAgain net earlier q kind head rows trees = block_of net earlier (verdict_of kind head rows) (proof_of net earlier q kind head rows trees) ≡ record { kind = kind; head = head; rows = rows; trees = trees }

-- the data of the head of this kind of the question, and of the records below it
abbrev HeadOf : Net → Earlier → Question → HeadKind → Type 0
HeadOf net earlier q kind = AllOf (fields_in (fields q (sizes_of net earlier) kind))

abbrev head_by : (net : Net) (earlier : Earlier) (q : Question) (kind : HeadKind) → HeadOf net earlier q kind → List Datum
head_by net earlier q kind a = given (fields_in (fields q (sizes_of net earlier) kind)) a

abbrev RowsOf : (net : Net) (earlier : Earlier) (q : Question) (kind : HeadKind) → HeadOf net earlier q kind → Type 0
RowsOf net earlier q kind a = AllOf (fields_of (rows net earlier q kind (head_by net earlier q kind a)))

abbrev rows_by : (net : Net) (earlier : Earlier) (q : Question) (kind : HeadKind) (a : HeadOf net earlier q kind) → RowsOf net earlier q kind a → List Datum
rows_by net earlier q kind a b = given (fields_of (rows net earlier q kind (head_by net earlier q kind a))) b

abbrev Fit : Net → Earlier → Question → HeadKind → List Datum → List Datum → List Plan → Type 0
Fit net earlier q kind h r t = FitsHead q (sizes_of net earlier) kind h × AllZip FitsRow (rows net earlier q kind h) r × AllZip FitsTree (trees net earlier q kind) t

-- a block without trees is there again, if each of data of its fields is
made : (net : Net) (earlier : Earlier) (q : Question) (kind : HeadKind) (h r : List Datum) (t : List Plan) → trees net earlier q kind ≡ [] → Fit net earlier q kind h r t
    → ((a : HeadOf net earlier q kind) (b : RowsOf net earlier q kind a) → IsAgain net earlier q kind (head_by net earlier q kind a) (rows_by net earlier q kind a b) []) → IsAgain net earlier q kind h r t
made net earlier q kind h r t e f again =
    let a = head_back (fields q (sizes_of net earlier) kind) h f.0 in
    let below = subst (λ (h : List Datum). AllZip FitsRow (rows net earlier q kind h) r) a.1 f.1 in
    let b = rows_back (rows net earlier q kind (head_by net earlier q kind a.0)) r below in
    let none = no_tree t (subst (λ (ts : List TreeRow). AllZip FitsTree ts t) e f.2) in
    subst (λ (h : List Datum). IsAgain net earlier q kind h r t) (sym a.1) (subst (λ (r : List Datum). IsAgain net earlier q kind (head_by net earlier q kind a.0) r t) (sym b.1)
    (subst (λ (t : List Plan). IsAgain net earlier q kind (head_by net earlier q kind a.0) (rows_by net earlier q kind a.0 b.0) t) (sym none) (again a.0 b.0)))
  where
    no_tree : (ts : List Plan) → AllZip FitsTree [] ts → ts ≡ []
    no_tree [] f = refl
    no_tree (t ∷ ts) f = absurd f

-- the same of a head with no records below it, whatever the trees
alone : (net : Net) (earlier : Earlier) (q : Question) (kind : HeadKind) (h r : List Datum) (t : List Plan) → FitsHead q (sizes_of net earlier) kind h → AllZip FitsRow [] r
    → ((a : HeadOf net earlier q kind) → IsAgain net earlier q kind (head_by net earlier q kind a) [] t) → IsAgain net earlier q kind h r t
alone net earlier q kind h [] t f g again = let a = head_back (fields q (sizes_of net earlier) kind) h f in subst (λ (h : List Datum). IsAgain net earlier q kind h [] t) (sym a.1) (again a.0)
alone net earlier q kind h (d ∷ ds) t f g again = absurd g

-- ---- records in numbers

ranks_again : (species rank count : ℕ) (us : List Datum) → AllZip FitsRow (replicate rank (row (codes "dual") (FreeSeveral species)) ++ replicate count (row (codes "comb") (FreeSeveral (suc rank)))) us
    → map Ints (map list_in (take rank us)) ++ map Ints (map list_in (drop rank us)) ≡ us
ranks_again species rank count us f =
    let c = cut_rows (replicate rank (row (codes "dual") (FreeSeveral species))) (replicate count (row (codes "comb") (FreeSeveral (suc rank)))) us f in
    let long : length c.0 ≡ rank = zip_long FitsRow (replicate rank (row (codes "dual") (FreeSeveral species))) c.0 c.3 ∙ length-replicate rank (row (codes "dual") (FreeSeveral species)) in
    let first : take rank us ≡ c.0 = ap (take rank) c.2 ∙ take_at c.0 c.1 rank long in
    let last : drop rank us ≡ c.1 = ap (drop rank) c.2 ∙ drop_at c.0 c.1 rank long in
    ap₂ (λ (x y : List Datum). map Ints (map list_in x) ++ map Ints (map list_in y)) first last
    ∙ ap₂ (λ (x y : List Datum). x ++ y) (sym (free_lists (codes "dual") rank species c.0 c.3)) (sym (free_lists (codes "comb") count (suc rank) c.1 c.4)) ∙ sym c.2

rank_made : (species rank : ℕ) (members : List ℕ) (us : List Datum) → AllZip FitsRow (rank_rows species rank members) us → rank_data (rank_proof rank us) ≡ us
rank_made species rank members [] f = absurd f
rank_made species rank members (Nums xs ∷ us) f = ap (λ (t : List Datum). Nums xs ∷ t) (ranks_again species rank (length members - rank) us f.1)
rank_made species rank members (d ∷ us) f = absurd f.0

classes_made : (net : Net) (earlier : Earlier) (k : ℕ) (ds : List ℕ) (us : List Datum) → AllZip FitsRow (class_rows net earlier k ds) us → flat_map rank_data (class_proofs net earlier k ds us) ≡ us
classes_made net earlier k [] [] f = refl
classes_made net earlier k [] (u ∷ us) f = absurd f
classes_made net earlier k (d ∷ ds) us f =
    let s = length net.names in
    let r = rank_in net earlier k d in
    let members = class_places net earlier k in
    let n = class_length net earlier k d in
    let c = cut_rows (rank_rows s r members) (class_rows net earlier (suc k) ds) us f in
    let long : length c.0 ≡ n = zip_long FitsRow (rank_rows s r members) c.0 c.3 ∙ rank_long s r members in
    let first : rank_data (rank_proof r (take n us)) ≡ c.0 = ap (λ (t : List Datum). rank_data (rank_proof r (take n t))) c.2 ∙ ap (λ (t : List Datum). rank_data (rank_proof r t)) (take_at c.0 c.1 n long) ∙ rank_made s r members c.0 c.3 in
    let later : flat_map rank_data (class_proofs net earlier (suc k) ds (drop n us)) ≡ c.1 = ap (λ (t : List Datum). flat_map rank_data (class_proofs net earlier (suc k) ds (drop n t))) c.2 ∙ ap (λ (t : List Datum). flat_map rank_data (class_proofs net earlier (suc k) ds t)) (drop_at c.0 c.1 n long) ∙ classes_made net earlier (suc k) ds c.1 c.4 in
    ap₂ (λ (x y : List Datum). x ++ y) first later ∙ sym c.2

sides_made : (c : ℕ) (pairs : List ℕ) (us : List Datum) → AllZip FitsRow (map (λ r. row (codes "side") (Side r c)) pairs) us → side_data pairs (map list_in us) ≡ us
sides_made c [] [] f = refl
sides_made c (r ∷ pairs) (Marks n zs ∷ us) f = ap₂ (λ (k : ℕ) (t : List Datum). Marks k zs ∷ t) (sym f.0.0) (sides_made c pairs us f.1)
sides_made c (r ∷ pairs) (u ∷ us) f = absurd f.0
sides_made c pairs us f = absurd f

weak_number : (n : ℕ) → n ≤ 1 → one_if (n == 1) ≡ n
weak_number (suc (suc n)) e = absurd (omega (arith, e))
weak_number n e = refl

-- ---- question by question

no_trees : (ts : List Plan) → AllZip FitsTree [] ts → ts ≡ []
no_trees [] f = refl
no_trees (t ∷ ts) f = absurd f

pub by_kind : (net : Net) (earlier : Earlier) (q : Question) (kind : HeadKind) (h r : List Datum) (t : List Plan) → Fit net earlier q kind h r t → IsAgain net earlier q kind h r t
by_kind net earlier Q1 Classes h r t f = made net earlier Q1 Classes h r t refl f (λ a b. refl)
by_kind net earlier Q2 Strong h r t f = made net earlier Q2 Strong h r t refl f (λ a b. refl)
by_kind net earlier Q3 Yes h r t f = made net earlier Q3 Yes h r t refl f (λ a b. refl)
by_kind net earlier Q4 Yes h r t f = made net earlier Q4 Yes h r t refl f (λ a b. refl)
by_kind net earlier Q7 YesVec h r t f = made net earlier Q7 YesVec h r t refl f (λ a b. refl)
by_kind net earlier Q8 YesVec h r t f = made net earlier Q8 YesVec h r t refl f (λ a b. refl)
by_kind net earlier Q10 Yes h r t f = made net earlier Q10 Yes h r t refl f (λ a b. refl)
by_kind net earlier Q5 Rank h r t f =
    let a = head_back (fields Q5 (sizes_of net earlier) Rank) h f.0 in
    let below = subst (λ (h : List Datum). AllZip FitsRow (rows net earlier Q5 Rank h) r) a.1 f.1 in
    subst (λ (h : List Datum). IsAgain net earlier Q5 Rank h r t) (sym a.1) (subst (λ (t : List Plan). IsAgain net earlier Q5 Rank (head_by net earlier Q5 Rank a.0) r t) (sym (no_trees t f.2))
    (ap (λ (u : List Datum). record { kind = Rank; head = Num a.0.0 ∷ []; rows = u; trees = [] }) (rank_made (length net.names) a.0.0 (range_with_len 1 (length net.reactions)) r below)))
by_kind net earlier Q6 Deficiency h r t f =
    let a = head_back (fields Q6 (sizes_of net earlier) Deficiency) h f.0 in
    let below = subst (λ (h : List Datum). AllZip FitsRow (rows net earlier Q6 Deficiency h) r) a.1 f.1 in
    subst (λ (h : List Datum). IsAgain net earlier Q6 Deficiency h r t) (sym a.1) (subst (λ (t : List Plan). IsAgain net earlier Q6 Deficiency (head_by net earlier Q6 Deficiency a.0) r t) (sym (no_trees t f.2))
    (ap (λ (u : List Datum). record { kind = Deficiency; head = Led a.0.0.0 a.0.0.1 ∷ []; rows = u; trees = [] }) (classes_made net earlier 1 a.0.0.1 r below)))
by_kind net earlier Q9 YesWeak [] r t f = absurd f.0
by_kind net earlier Q9 YesWeak (Num n ∷ []) [] [] f = ap (λ (k : ℕ). record { kind = YesWeak; head = Num k ∷ []; rows = []; trees = [] }) (weak_number n f.0.0.1)
by_kind net earlier Q9 YesWeak (Num n ∷ []) [] (t ∷ ts) f = absurd f.2
by_kind net earlier Q9 YesWeak (Num n ∷ []) (d ∷ ds) t f = absurd f.1
by_kind net earlier Q9 YesWeak (Num n ∷ d ∷ ds) r t f = absurd f.0.1
by_kind net earlier Q9 YesWeak (d ∷ ds) r t f = absurd f.0.0
by_kind net earlier Q11 Yes [] r t f = subst (λ (t : List Plan). IsAgain net earlier Q11 Yes [] r t) (sym (no_trees t f.2)) (ap (λ (u : List Datum). record { kind = Yes; head = []; rows = u; trees = [] }) (sides_made (length net.complexes) (pair_places net earlier) r f.1))
by_kind net earlier Q11 Yes (d ∷ ds) r t f = absurd f.0
by_kind net earlier Q12 YesVec [] [] t f = absurd f.1
by_kind net earlier Q12 YesVec [] (Ints zs ∷ us) t f = subst (λ (t : List Plan). IsAgain net earlier Q12 YesVec [] (Ints zs ∷ us) t) (sym (no_trees t f.2)) (ap (λ (u : List Datum). record { kind = YesVec; head = []; rows = Ints zs ∷ u; trees = [] }) (sym (free_lists (codes "tie") _ _ us f.1.1)))
by_kind net earlier Q12 YesVec [] (d ∷ us) t f = absurd f.1.0
by_kind net earlier Q12 YesVec (d ∷ ds) r t f = absurd f.0
by_kind net earlier Q12 OnlyZero [] us t f = subst (λ (t : List Plan). IsAgain net earlier Q12 OnlyZero [] us t) (sym (no_trees t f.2)) (ap (λ (u : List Datum). record { kind = OnlyZero; head = []; rows = u; trees = [] }) (sym (free_lists (codes "tie") _ _ us f.1)))
by_kind net earlier Q12 OnlyZero (d ∷ ds) us t f = absurd f.0
by_kind net earlier Q13 No h r t f = alone net earlier Q13 No h r t f.0 f.1 (λ a. by (is_yes (on earlier Q4)) t f.2)
  where
    by : (b : Bool) (t : List Plan) → AllZip FitsTree (one_or_two b (signal_tree (sizes_of net earlier))) t → IsAgain net earlier Q13 No [] [] t
    by false [] f = absurd f
    by false (x ∷ y ∷ ts) f = absurd f.1
    by true [] f = absurd f
    by true (x ∷ []) f = absurd f.1
    by true (x ∷ y ∷ z ∷ ts) f = absurd f.1.1
    by b t f = refl
by_kind net earlier Q14 Yes h r [] f = absurd f.2
by_kind net earlier Q14 Yes h r (t ∷ []) f = alone net earlier Q14 Yes h r (t ∷ []) f.0 f.1 (λ a. refl)
by_kind net earlier Q14 Yes h r (t ∷ u ∷ ts) f = absurd f.2.1
by_kind net earlier Q15 Yes h r [] f = absurd f.2
by_kind net earlier Q15 Yes h r (t ∷ []) f = alone net earlier Q15 Yes h r (t ∷ []) f.0 f.1 (λ a. refl)
by_kind net earlier Q15 Yes h r (t ∷ u ∷ ts) f = absurd f.2.1
by_kind net earlier q kind h r t f = made net earlier q kind h r t refl f (λ a b. search f.0)

pub blocks_are_of_answers : BlocksAreOfAnswers
blocks_are_of_answers net earlier q b f = by_kind net earlier q b.kind b.head b.rows b.trees (f.head, f.rows, f.trees)
