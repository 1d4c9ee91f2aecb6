-- A block as a value, the answer that it says, and the block of an answer.
-- Source: this project's own format.
use Rattle.std.specs.Prelude.{◌≡◌, ◌==◌, ◌+◌, ◌-◌, ℕ, suc, ℤ, pos, Bool, true, false, Option, Some, None, List, [], ◌∷◌, ◌++◌, length, map, take, drop, slice_index_or}
use Rattle.std.specs.List.{AllZip, flat_map}
use Rattle.crn_vec.specs.Kept.{KeptInts, KeptNums}
use Rattle.crn_vec.specs.Network.{Net}
use Rattle.crn_cert.specs.declared.answer.Gap.{Gap}
use Rattle.crn_cert.specs.declared.answer.Gap.TheVariants.{Wide as WideGap, Budget as Spent, Rests as RestsOn}
use Rattle.crn_cert.specs.declared.answer.Verdict.{Verdict}
use Rattle.crn_cert.specs.declared.answer.Verdict.TheVariants as verdict
use Rattle.crn_cert.specs.declared.answer.RankProof.{RankProof}
use Rattle.crn_cert.specs.declared.answer.Proof.{Proof}
use Rattle.crn_cert.specs.declared.answer.Proof.TheVariants as proof
use Rattle.crn_cert.specs.Questions.{Earlier, Question, Q1, Q2, Q3, Q5, Q6, Q11, Q12}
use Rattle.crn_cert.specs.Trees.{Plan, IsFormedTree}
use Rattle.crn_cert.specs.Valid.{class_places, pair_places}
use Rattle.crn_cert.specs.Verdicts.{tight, tight_proof}
use Rattle.crn_cert.specs.Data.{Datum, Odd, Num, Two, Int, Nums, Ints, Marks, Led, Basis, Field, Fits}
use Rattle.crn_cert.specs.Table.{Sizes, Row, TreeRow, fields, rows, trees, sizes_of, others, rank_in}
use Rattle.crn_cert.specs.declared.head_kind.HeadKind.{HeadKind}
use Rattle.crn_cert.specs.declared.head_kind.HeadKind.TheVariants.{Classes, Strong, Rank, Deficiency, Yes, YesWeak, YesVec, YesSignal, No, NoReaction, NoVec, NoNumber, NoTerminal, NoClass, NoSum, NoDependence, NoCycle, NoPair, NotRegular, OnlyZero, Plane, NotApplicable, Wide, Budget, Rests}

-- a block: the kind and the numbers of its head, the records below it, and its trees
pub record Block : Type 0 where
  pub kind : HeadKind
  pub head : List Datum
  pub rows : List Datum
  pub trees : List Plan

-- the record has what is due
abbrev pub FitsRow : Row → Datum → Type 0
FitsRow row datum = Fits row.field datum

-- the tree has the form that is due
abbrev pub FitsTree : TreeRow → Plan → Type 0
FitsTree tree plan = IsFormedTree tree.choices tree.count_a tree.count_b [] plan

-- there are such fields, and these are their numbers
abbrev pub FitsFields : Option (List Field) → List Datum → Type 0
FitsFields None head = ⊥
FitsFields (Some fields) head = AllZip Fits fields head

-- the head of a block of this question is of a kind that it has, with its fields
abbrev pub FitsHead : Question → Sizes → HeadKind → List Datum → Type 0
FitsHead q z kind head = FitsFields (fields q z kind) head

-- a block of this question has its fields, the records below its head and the trees
pub record FitsBlock (net : Net) (earlier : Earlier) (q : Question) (b : Block) : Type 0 where
  pub head : FitsHead q (sizes_of net earlier) b.kind b.head
  pub rows : AllZip FitsRow (rows net earlier q b.kind b.head) b.rows
  pub trees : AllZip FitsTree (trees net earlier q b.kind) b.trees

-- ---- the block of an answer

-- 1 if it holds, else 0
abbrev pub one_if : Bool → ℕ
one_if true = 1
one_if false = 0

-- the kind and the numbers of a head
abbrev pub head_of : Verdict → HeadKind × List Datum
head_of (verdict.Classes count label) = (Classes, Num count ∷ [])
head_of (verdict.Strong count terminal label exit) = (Strong, Two count terminal ∷ [])
head_of (verdict.Rank rank base) = (Rank, Num rank ∷ [])
head_of (verdict.Deficiency total classes) = (Deficiency, Led total classes.list ∷ [])
head_of verdict.Yes = (Yes, [])
head_of (verdict.YesWeak weak) = (YesWeak, Num (one_if weak) ∷ [])
head_of (verdict.YesVec vector) = (YesVec, [])
head_of (verdict.YesSignal turn shelves mu m weights) = (YesSignal, Int turn ∷ [])
head_of verdict.No = (No, [])
head_of (verdict.NoReaction reaction) = (NoReaction, Num reaction ∷ [])
head_of (verdict.NoVec multipliers) = (NoVec, [])
head_of (verdict.NoNumber number) = (NoNumber, Num number ∷ [])
head_of (verdict.NoTerminal class count) = (NoTerminal, Num class ∷ Num count ∷ [])
head_of (verdict.NoClass class number) = (NoClass, Num class ∷ Num number ∷ [])
head_of (verdict.NoSum total) = (NoSum, Num total ∷ [])
head_of verdict.NoDependence = (NoDependence, [])
head_of (verdict.NoCycle reaction walk) = (NoCycle, Num reaction ∷ [])
head_of (verdict.NoPair alpha weights) = (NoPair, [])
head_of verdict.NotRegular = (NotRegular, [])
head_of verdict.OnlyZero = (OnlyZero, [])
head_of (verdict.Plane first second one two) = (Plane, Two first second ∷ [])
head_of verdict.NotApplicable = (NotApplicable, [])
head_of (verdict.Unknown (WideGap system class index basis)) =
    (Wide, Basis system class index basis.list ∷ [])
head_of (verdict.Unknown (Spent nodes)) = (Budget, Num nodes ∷ [])
head_of (verdict.Unknown (RestsOn question)) = (Rests, Num question ∷ [])

-- the records of the proof of a rank
abbrev pub rank_data : RankProof → List Datum
rank_data p = Nums p.base.list ∷ map Ints p.duals ++ map Ints p.combs

-- the side of each of these pairs, which their least reactions name
abbrev pub side_data : List ℕ → List (List ℤ) → List Datum
side_data [] [] = []
side_data (r ∷ pairs) (marks ∷ sides) = Marks r marks ∷ side_data pairs sides
side_data pairs sides = Odd ∷ []

-- the records below the head; a proof that is none of the verdict gives what no record has
abbrev pub rows_of : Net → Earlier → Verdict → Proof → List Datum
rows_of net earlier (verdict.Classes count label) (proof.Forest up depth) =
    Nums label.list ∷ Nums up.list ∷ Nums depth.list ∷ []
rows_of net earlier (verdict.Strong count terminal label exit)
    (proof.Strong from from_depth to to_depth level) =
    Nums label.list ∷ Nums from.list ∷ Nums from_depth.list ∷ Nums to.list ∷ Nums to_depth.list
    ∷ Nums level.list ∷ Nums exit.list ∷ []
rows_of net earlier (verdict.Rank rank base) (proof.Rank p) = rank_data p
rows_of net earlier (verdict.Deficiency total classes) (proof.Ranks list) = flat_map rank_data list
rows_of net earlier verdict.Yes (proof.Back back) = Nums back.list ∷ []
rows_of net earlier verdict.Yes (proof.Sides sides) =
    side_data (pair_places net earlier) sides
rows_of net earlier (verdict.YesVec vector) proof.Nothing = Ints vector.list ∷ []
rows_of net earlier (verdict.YesVec vector) (proof.Ties ties) = Ints vector.list ∷ map Ints ties
rows_of net earlier (verdict.YesSignal turn shelves mu m weights) proof.Nothing =
    Ints shelves.list ∷ Ints mu.list ∷ Int m ∷ Ints weights.list ∷ []
rows_of net earlier (verdict.NoVec multipliers) proof.Nothing = Ints multipliers.list ∷ []
rows_of net earlier (verdict.NoCycle reaction walk) proof.Nothing = Nums walk.list ∷ []
rows_of net earlier (verdict.NoPair alpha weights) proof.Nothing =
    Ints alpha.list ∷ Ints weights.list ∷ []
rows_of net earlier verdict.OnlyZero (proof.Ties ties) = map Ints ties
rows_of net earlier (verdict.Plane first second one two) proof.Nothing =
    Ints one.list ∷ Ints two.list ∷ []
rows_of net earlier verdict proof.Nothing = []
rows_of net earlier verdict (proof.One tree) = []
rows_of net earlier verdict (proof.Two tree second) = []
rows_of net earlier verdict proof = Odd ∷ []

-- the trees
abbrev pub trees_of : Proof → List Plan
trees_of (proof.One tree) = tree ∷ []
trees_of (proof.Two tree second) = tree ∷ second ∷ []
trees_of p = []

-- the block of an answer
abbrev pub block_of : Net → Earlier → Verdict → Proof → Block
block_of net earlier v p = record {
  kind = (head_of v).0;
  head = (head_of v).1;
  rows = rows_of net earlier v p;
  trees = trees_of p;
}

-- ---- the answer of a block

-- the natural
abbrev pub nat_in : Datum → ℕ
nat_in (Num n) = n
nat_in (Two n m) = n
nat_in (Led n xs) = n
nat_in other = 0

-- the second natural
abbrev pub second_in : Datum → ℕ
second_in (Two n m) = m
second_in other = 0

-- the whole number
abbrev pub int_in : Datum → ℤ
int_in (Int z) = z
int_in other = pos 0

-- the naturals
abbrev pub nums_in : Datum → KeptNums
nums_in (Nums xs) = record { list = xs; spare = 0 }
nums_in (Led n xs) = record { list = xs; spare = 0 }
nums_in other = record { list = []; spare = 0 }

-- the whole numbers
abbrev pub list_in : Datum → List ℤ
list_in (Ints zs) = zs
list_in (Marks n zs) = zs
list_in other = []

-- the whole numbers, as they are held
abbrev pub ints_in : Datum → KeptInts
ints_in datum = record { list = list_in datum; spare = 0 }

-- the vector
abbrev pub gap_in : Datum → Gap
gap_in (Basis system class index basis) =
    WideGap system class index (record { list = basis; spare = 0 })
gap_in other = Spent 0

-- what is at this place, from 0
abbrev pub at : List Datum → ℕ → Datum
at given i = slice_index_or given i Odd

-- the verdict of a block; of its head alone, if the records below it are left out
abbrev pub verdict_of : HeadKind → (head rows : List Datum) → Verdict
verdict_of Classes h r = verdict.Classes (nat_in (at h 0)) (nums_in (at r 0))
verdict_of Strong h r =
    verdict.Strong (nat_in (at h 0)) (second_in (at h 0)) (nums_in (at r 0)) (nums_in (at r 6))
verdict_of Rank h r = verdict.Rank (nat_in (at h 0)) (nums_in (at r 0))
verdict_of Deficiency h r = verdict.Deficiency (nat_in (at h 0)) (nums_in (at h 0))
verdict_of Yes h r = verdict.Yes
verdict_of YesWeak h r = verdict.YesWeak (nat_in (at h 0) == 1)
verdict_of YesVec h r = verdict.YesVec (ints_in (at r 0))
verdict_of YesSignal h r =
    verdict.YesSignal (int_in (at h 0)) (ints_in (at r 0)) (ints_in (at r 1)) (int_in (at r 2))
    (ints_in (at r 3))
verdict_of No h r = verdict.No
verdict_of NoReaction h r = verdict.NoReaction (nat_in (at h 0))
verdict_of NoVec h r = verdict.NoVec (ints_in (at r 0))
verdict_of NoNumber h r = verdict.NoNumber (nat_in (at h 0))
verdict_of NoTerminal h r = verdict.NoTerminal (nat_in (at h 0)) (nat_in (at h 1))
verdict_of NoClass h r = verdict.NoClass (nat_in (at h 0)) (nat_in (at h 1))
verdict_of NoSum h r = verdict.NoSum (nat_in (at h 0))
verdict_of NoDependence h r = verdict.NoDependence
verdict_of NoCycle h r = verdict.NoCycle (nat_in (at h 0)) (nums_in (at r 0))
verdict_of NoPair h r = verdict.NoPair (ints_in (at r 0)) (ints_in (at r 1))
verdict_of NotRegular h r = verdict.NotRegular
verdict_of OnlyZero h r = verdict.OnlyZero
verdict_of Plane h r =
    verdict.Plane (nat_in (at h 0)) (second_in (at h 0)) (ints_in (at r 0)) (ints_in (at r 1))
verdict_of NotApplicable h r = verdict.NotApplicable
verdict_of Wide h r = verdict.Unknown (gap_in (at h 0))
verdict_of Budget h r = verdict.Unknown (Spent (nat_in (at h 0)))
verdict_of Rests h r = verdict.Unknown (RestsOn (nat_in (at h 0)))

-- a proof by its trees
abbrev pub proof_by : List Plan → Proof
proof_by [] = proof.Nothing
proof_by (tree ∷ []) = proof.One tree
proof_by (tree ∷ second ∷ more) = proof.Two tree second

-- the proof of a rank
abbrev pub rank_proof : ℕ → List Datum → RankProof
rank_proof rank r = record {
  base = nums_in (at r 0);
  duals = map list_in (take rank (drop 1 r));
  combs = map list_in (drop (suc rank) r);
}

-- how many records prove the rank of class k, by its deficiency
abbrev pub class_length : Net → Earlier → (k d : ℕ) → ℕ
class_length net earlier k d =
    suc (rank_in net earlier k d + (length (class_places net earlier k) - rank_in net earlier k d))

-- the proofs of the ranks of the classes from k on, by their deficiencies
abbrev pub class_proofs : Net → Earlier → (k : ℕ) → List ℕ → List Datum → List RankProof
class_proofs net earlier k [] r = []
class_proofs net earlier k (d ∷ ds) r =
    rank_proof (rank_in net earlier k d) (take (class_length net earlier k d) r)
    ∷ class_proofs net earlier (suc k) ds (drop (class_length net earlier k d) r)

-- the proof of a block
abbrev pub proof_of :
    Net → Earlier → Question → HeadKind → (head rows : List Datum) → List Plan → Proof
proof_of net earlier Q1 Classes h r trees = proof.Forest (nums_in (at r 1)) (nums_in (at r 2))
proof_of net earlier Q2 Strong h r trees =
    proof.Strong (nums_in (at r 1)) (nums_in (at r 2)) (nums_in (at r 3)) (nums_in (at r 4))
    (nums_in (at r 5))
proof_of net earlier Q3 Yes h r trees = proof.Back (nums_in (at r 0))
proof_of net earlier Q5 Rank h r trees = proof.Rank (rank_proof (nat_in (at h 0)) r)
proof_of net earlier Q6 Deficiency h r trees = proof.Ranks (class_proofs net earlier 1 (others h) r)
proof_of net earlier Q11 Yes h r trees = proof.Sides (map list_in r)
proof_of net earlier Q12 YesVec h r trees = proof.Ties (map list_in (drop 1 r))
proof_of net earlier Q12 OnlyZero h r trees = proof.Ties (map list_in r)
proof_of net earlier q kind h r trees = proof_by trees

-- the block says this answer, but for spares
abbrev pub SaysAnswer : Net → Earlier → Question → Block → Verdict → Proof → Type 0
SaysAnswer net earlier q b v p = (verdict_of b.kind b.head b.rows ≡ tight v)
    × (proof_of net earlier q b.kind b.head b.rows b.trees ≡ tight_proof p)
