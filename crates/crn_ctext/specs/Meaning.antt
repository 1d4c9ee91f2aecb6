-- What the questions mean: the records of a block, read as a verdict and a proof, with the tests
-- of these.
-- Source: this project's own.
-- Shapes: a block is a head and the records below it; verdicts come in the order of the questions.
use Rattle.std.specs.Prelude.{ℕ, zero, suc, ℤ, pos, negsuc, ◌+◌, ◌==◌, Bool, true, false, nat_abs, List, [], ◌∷◌, ◌++◌, length, map, take, drop, slice_index_or}
use Rattle.crn_vec.specs.Kept.{KeptInts, KeptNums}
use Rattle.crn_vec.specs.Network.{Net}
use Rattle.crn_vec.specs.declared.signs.Sign.{Sign}
use Rattle.crn_vec.specs.Deficiency.{class_members}
use Rattle.crn_vec.specs.NetSystems.{reaction_system}
use Rattle.crn_vec.specs.Problems.{Signed}
use Rattle.crn_vec.specs.Concordance.{concordance}
use Rattle.crn_vec.specs.Influence.{plain_table, strong_table}
use Rattle.crn_cert.specs.declared.answer.Gap.{Gap}
use Rattle.crn_cert.specs.declared.answer.Gap.TheVariants.{Wide as WideGap, Budget as Spent, Rests as RestsOn}
use Rattle.crn_cert.specs.declared.answer.Verdict.{Verdict}
use Rattle.crn_cert.specs.declared.answer.Verdict.TheVariants as verdict
use Rattle.crn_cert.specs.declared.answer.RankProof.{RankProof}
use Rattle.crn_cert.specs.declared.answer.Proof.{Proof}
use Rattle.crn_cert.specs.declared.answer.Proof.TheVariants as proof
use Rattle.crn_cert.specs.declared.head_kind.HeadKind.{HeadKind}
use Rattle.crn_cert.specs.declared.head_kind.HeadKind.TheVariants.{Classes, Strong, Rank, Deficiency, Yes, YesWeak, YesVec, YesSignal, No, NoReaction, NoVec, NoNumber, NoTerminal, NoClass, NoSum, NoDependence, NoCycle, NoPair, NotRegular, OnlyZero, Plane, NotApplicable, Wide, Budget, Rests}
use Rattle.crn_cert.specs.Questions.{Earlier, Question, Q2, Q3, Q4, Q11, Q12, Q13, Q14, Q15, on, terminal_of}
use Rattle.crn_cert.specs.Tests.{Test as Claim}
use Rattle.crn_cert.specs.Nodes.{Said, Fits, Flats, CutsA, CutsB}
use Rattle.crn_cert.specs.Valid.{linkage, linkage_count, classes_to, class_places, pair_places, IsNodeOf, head_tests, row_tests}
use Rattle.crn_ctext.specs.Records.{Record}
use Rattle.crn_cert.specs.Table.{Sizes, sizes_of as sizes_in}
use Rattle.crn_ctext.specs.Questions.{Shapes, heads, kind_at, class_rank, later_numbers}
use Rattle.crn_ctext.specs.Blocks.{Meaning, Problem, place_of}
pub use Rattle.crn_cert.specs.Questions.{is_yes, has_vector}

-- what is known before a block: the network, and the verdicts of the blocks before it
pub record Known : Type 0 where
  pub net : Net
  pub earlier : Earlier

-- ---- the sizes of forms

-- the linked pairs within terminal classes
abbrev pub pairs_of : Known → List ℕ
pairs_of known = pair_places known.net known.earlier

-- the reactions of each linkage class
abbrev pub reactions_by_class : Known → List (List ℕ)
reactions_by_class known =
    map (λ k. class_places known.net known.earlier k) (classes_to (linkage_count known.earlier))

-- the complexes of each linkage class
abbrev pub complexes_by_class : Known → List (List ℕ)
complexes_by_class known =
    map (λ k. class_members (linkage known.earlier) k) (classes_to (linkage_count known.earlier))

-- how long each list is
abbrev pub lengths : List (List ℕ) → List ℕ
lengths lists = map (λ list. length list) lists

-- the sizes of heads, by what is known
abbrev pub sizes_of : Known → Sizes
sizes_of known = sizes_in known.net known.earlier

-- the sizes and lists of all forms, by what is known
abbrev pub shapes_of : Known → Shapes
shapes_of known = record {
  sizes = sizes_of known;
  class_complexes = lengths (complexes_by_class known);
  class_members = reactions_by_class known;
  pair_reactions = pairs_of known;
}

-- ---- numbers of records

-- naturals, by their absolute values
abbrev pub nums : List ℤ → KeptNums
nums zs = record { list = map nat_abs zs; spare = 0 }

-- whole numbers
abbrev pub ints : List ℤ → KeptInts
ints zs = record { list = zs; spare = 0 }

-- the number at this place, from 0
abbrev pub number : List ℤ → ℕ → ℕ
number zs i = nat_abs (slice_index_or zs i (pos 0))

-- the numbers of these records
abbrev pub lists : List Record → List (List ℤ)
lists rs = map (λ (r : Record). r.numbers) rs

-- the numbers of the record at this place, from 0
abbrev pub row : List (List ℤ) → ℕ → List ℤ
row rows i = slice_index_or rows i []

-- ---- a verdict

-- the kind of a head, by the place of its form
abbrev pub kind_of : Question → Sizes → Record → HeadKind
kind_of q z h = kind_at q (place_of (heads q z) h.words)

-- the turn that a number says: -1, or else 1
abbrev pub turn_of : ℤ → ℤ
turn_of (negsuc zero) = negsuc 0
turn_of z = pos 1

-- why the answer with this head is open: an elementary vector is wide
abbrev pub wide_gap : List ℤ → Gap
wide_gap n = WideGap (number n 0) (number n 1) (number n 2) (nums (drop 3 n))

-- the verdict of a head of this kind with these numbers, and of the records below it
abbrev pub verdict_by : HeadKind → (head : List ℤ) → (rows : List (List ℤ)) → Verdict
verdict_by Classes n r = verdict.Classes (number n 0) (nums (row r 0))
verdict_by Strong n r = verdict.Strong (number n 0) (number n 1) (nums (row r 0)) (nums (row r 6))
verdict_by Rank n r = verdict.Rank (number n 0) (nums (row r 0))
verdict_by Deficiency n r = verdict.Deficiency (number n 0) (nums (later_numbers n))
verdict_by Yes n r = verdict.Yes
verdict_by YesWeak n r = verdict.YesWeak (number n 0 == 1)
verdict_by YesVec n r = verdict.YesVec (ints (row r 0))
verdict_by YesSignal n r =
    verdict.YesSignal (turn_of (slice_index_or n 0 (pos 0))) (ints (row r 0)) (ints (row r 1))
    (slice_index_or (row r 2) 0 (pos 0)) (ints (row r 3))
verdict_by No n r = verdict.No
verdict_by NoReaction n r = verdict.NoReaction (number n 0)
verdict_by NoVec n r = verdict.NoVec (ints (row r 0))
verdict_by NoNumber n r = verdict.NoNumber (number n 0)
verdict_by NoTerminal n r = verdict.NoTerminal (number n 0) (number n 1)
verdict_by NoClass n r = verdict.NoClass (number n 0) (number n 1)
verdict_by NoSum n r = verdict.NoSum (number n 0)
verdict_by NoDependence n r = verdict.NoDependence
verdict_by NoCycle n r = verdict.NoCycle (number n 0) (nums (row r 0))
verdict_by NoPair n r = verdict.NoPair (ints (row r 0)) (ints (row r 1))
verdict_by NotRegular n r = verdict.NotRegular
verdict_by OnlyZero n r = verdict.OnlyZero
verdict_by Plane n r = verdict.Plane (number n 0) (number n 1) (ints (row r 0)) (ints (row r 1))
verdict_by NotApplicable n r = verdict.NotApplicable
verdict_by Wide n r = verdict.Unknown (wide_gap n)
verdict_by Budget n r = verdict.Unknown (Spent (number n 0))
verdict_by Rests n r = verdict.Unknown (RestsOn (number n 0))

-- the verdict of a block
abbrev pub verdict_of : Question → Sizes → Record → List Record → Verdict
verdict_of q z h rs = verdict_by (kind_of q z h) h.numbers (lists rs)

-- ---- a proof

-- a base, this many duals, and combinations
abbrev pub rank_proof : ℕ → List (List ℤ) → RankProof
rank_proof rank rows = record {
  base = nums (row rows 0);
  duals = take rank (drop 1 rows);
  combs = drop (suc rank) rows;
}

-- the proofs of the classes' ranks, by the class numbers
abbrev pub class_proofs : List ℕ → List (List ℕ) → List ℤ → List Record → List RankProof
class_proofs (complexes ∷ more) (reactions ∷ others) (d ∷ ds) rs =
    rank_proof (class_rank complexes d) (lists (take (suc (length reactions)) rs))
    ∷ class_proofs more others ds (drop (suc (length reactions)) rs)
class_proofs complexes reactions ds rs = []

-- the proof below a head of this kind, but for its trees, by the proofs of the classes' ranks
abbrev pub proof_by : HeadKind → Question → List RankProof → (head : List ℤ) → (rows : List (List ℤ))
    → Proof
proof_by Classes q ranks n r = proof.Forest (nums (row r 1)) (nums (row r 2))
proof_by Strong q ranks n r =
    proof.Strong (nums (row r 1)) (nums (row r 2)) (nums (row r 3)) (nums (row r 4))
    (nums (row r 5))
proof_by Rank q ranks n r = proof.Rank (rank_proof (number n 0) r)
proof_by Deficiency q ranks n r = proof.Ranks ranks
proof_by Yes Q3 ranks n r = proof.Back (nums (row r 0))
proof_by Yes Q11 ranks n r = proof.Sides (map later_numbers r)
proof_by YesVec Q12 ranks n r = proof.Ties (drop 1 r)
proof_by OnlyZero q ranks n r = proof.Ties r
proof_by kind q ranks n r = proof.Nothing

-- the proofs of the ranks of all classes that the records below a head say
abbrev pub ranks_of : Shapes → Record → List Record → List RankProof
ranks_of s h rs = class_proofs s.class_complexes s.class_members (later_numbers h.numbers) rs

-- the proof of a block, but for its trees
abbrev pub proof_of : Question → Shapes → Record → List Record → Proof
proof_of q s h rs =
    proof_by (kind_of q s.sizes h) q (ranks_of s h rs) h.numbers (lists rs)

-- ---- trees

-- a sign problem with these choices and numbers of multipliers of each part, whose leaves have this
-- test
abbrev pub problem_with : (choices count_a count_b : ℕ) → (List Sign → Said → Type 0) → Problem
problem_with choices count_a count_b Holds = record {
  choices = choices;
  count_a = count_a;
  count_b = count_b;
  RulesOutA = λ prefix u. Holds prefix (CutsA u);
  RulesOutB = λ prefix u. Holds prefix (CutsB u);
  IsClosed = λ prefix. Holds prefix Flats;
}

-- a sign problem over the species of the network, with a multiplier of each part for each species
abbrev pub problem_over : Net → Signed → Problem
problem_over net w =
    problem_with (length net.names) (length net.names) (length net.names) (Fits w)

-- the sign problem of an influence table of the network
abbrev pub table_problem : Net → List (List Sign) → Signed
table_problem net table = concordance (reaction_system net) table

-- the sign problem of signals for the vector of question 12 with a turn: over the shelves of the
-- terminal classes and the species, with a multiplier of part A for each complex and each pair
abbrev pub signal_problem : Known → ℤ → Problem
signal_problem known turn =
    problem_with (terminal_of (on known.earlier Q2) + length known.net.names)
    (length known.net.complexes + length (pairs_of known)) (length known.net.names)
    (IsNodeOf known.net known.earlier turn)

-- that for the vector and, if the network is weakly reversible, that for its negative
abbrev pub signal_problems : Known → Bool → List {1} Problem
signal_problems known false = signal_problem known (pos 1) ∷ []
signal_problems known true = signal_problem known (pos 1) ∷ signal_problem known (negsuc 0) ∷ []

-- the trees that follow the records below a head, by the place of its form: a no on signals has one
-- or two, and a yes on concordance has one
abbrev pub problems_by : Question → Known → ℕ → List {1} Problem
problems_by Q13 known (suc (suc zero)) = signal_problems known (is_yes (on known.earlier Q4))
problems_by Q14 known (suc zero) =
    problem_over known.net (table_problem known.net (plain_table known.net)) ∷ []
problems_by Q15 known (suc zero) =
    problem_over known.net (table_problem known.net (strong_table known.net)) ∷ []
problems_by q known place = []

-- the trees of a block
abbrev pub problems_of : Question → Known → Record → List {1} Problem
problems_of q known h = problems_by q known (place_of (heads q (sizes_of known)) h.words)

-- ---- the meaning

-- the tests at a head, which look at the head's numbers alone
abbrev pub head_claims_of : Question → Known → Record → List Claim
head_claims_of q known h = head_tests known.net known.earlier q (verdict_of q (sizes_of known) h [])

-- the tests of the records below a head
abbrev pub row_claims_of : Question → Known → Record → List Record → List Claim
row_claims_of q known h rs =
    row_tests known.net known.earlier q (verdict_of q (sizes_of known) h rs)
    (proof_of q (shapes_of known) h rs)

-- what is known after a block: its verdict, too
abbrev pub learn_of : Question → Known → Record → List Record → Known
learn_of q known h rs =
    record {
      net = known.net;
      earlier = known.earlier ++ (q, verdict_of q (sizes_of known) h rs) ∷ [];
    }

-- what the questions mean
abbrev pub meaning : Meaning Known
meaning = record {
  start = λ net. record { net = net; earlier = [] };
  shapes = shapes_of;
  head_claims = head_claims_of;
  row_claims = row_claims_of;
  problems = problems_of;
  learn = learn_of;
}

-- the verdicts that the answers' records say
abbrev pub verdicts_said : List Question → Known → List (List Record) → List Verdict
verdicts_said (q ∷ qs) known ((h ∷ rs) ∷ more) =
    verdict_of q (sizes_of known) h rs ∷ verdicts_said qs (learn_of q known h rs) more
verdicts_said qs known answers = []

-- ---- what is built

-- the versions of documents that are read
abbrev pub versions : List ℕ
versions = 1 ∷ 2 ∷ []
