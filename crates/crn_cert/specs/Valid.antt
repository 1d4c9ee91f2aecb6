-- The tests of the records of each question, in their order, over the network, the answer and
-- earlier verdicts.
-- Source: this project's own.
-- Shapes: `earlier` holds the verdicts on earlier questions, each with its question. Reactions and
-- classes count from 1, complexes from 0.
use Rattle.std.specs.Prelude.{◌≡◌, ◌≢◌, ◌≤◌, ◌<◌, ◌+◌, ◌-◌, ◌⊎◌, ◌↔◌, ◌==◌, ◌&&◌, ◌||◌, not, Bool, IsTrue, min, ℕ, suc, ℤ, pos, List, [], ◌∷◌, ◌++◌, length, filter, sum, map, negsuc, count_by, slice_index, slice_index_or, Option}
use Rattle.std.specs.Option.{IsSome, IsSomeAnd}
use Rattle.std.specs.List.{list_any, range_with_len}
use Rattle.crn_vec.specs.Network.{Net}
use Rattle.crn_vec.specs.Vectors.{entry}
use Rattle.crn_vec.specs.Elementary.{IsPrimitive}
use Rattle.crn_vec.specs.Confluence.{IsNonzero, LeadsPositive}
use Rattle.crn_vec.specs.declared.signs.Sign.{Sign}
use Rattle.crn_vec.specs.NetSystems.{reaction_system}
use Rattle.crn_vec.specs.Concordance.{sign, IsDiscordant, concordance}
use Rattle.crn_vec.specs.Signals.{Shape, signals}
use Rattle.crn_vec.specs.Influence.{plain_table, strong_table}
use Rattle.crn_vec.specs.NetSignals.{IsSignalOf, IsShapeOf}
use Rattle.crn_vec.specs.Deficiency.{IsPositiveDependence, IsConservationLaw, AreAtMostOne, class_members}
use Rattle.crn_cert.specs.declared.answer.Verdict.{Verdict}
use Rattle.crn_cert.specs.declared.answer.Verdict.TheVariants.{Classes, Strong, Rank, Deficiency, Yes, YesWeak, YesVec, NoReaction, NoVec, NoNumber, NoTerminal, NoClass, NoSum, NoDependence, NoCycle, NotRegular, OnlyZero, Plane, YesSignal, No, NoPair, NotApplicable}
use Rattle.crn_cert.specs.declared.answer.Proof.{Proof}
use Rattle.crn_cert.specs.declared.answer.Proof.TheVariants.{Forest, Strong as StrongTrees, Back, Rank as RankRows, Ranks, Sides, Ties, One, Two}
use Rattle.crn_cert.specs.declared.answer.Answer.{Answer}
use Rattle.crn_cert.specs.declared.answer.RankProof.{RankProof}
use Rattle.crn_cert.specs.Questions.{Earlier, Question, Q1, Q2, Q3, Q4, Q5, Q6, Q7, Q8, Q9, Q10, Q11, Q12, Q13, Q14, Q15, on, vector_given, labels_of, count_of, exits_of, rank_of, deficiencies_of, IsOpen, IsYes, IsNo}
use Rattle.crn_cert.specs.Verdicts.{tight}
use Rattle.crn_cert.specs.Says.{by_turn, IsReactionNumber, HasNoReverse, RuleOutDependence, RuleOutConservation}
use Rattle.crn_cert.specs.Tests.{Test, test, AllHold}
use Rattle.crn_cert.specs.ClassTests.{AreNumbered, AreEven, AreLinkTrees, AreFromTrees, AreToTrees, DoLevelsFall, AreAllExits, zeros_in, of_class, AreReverses, AreSideMarks, IsWayRound}
use Rattle.crn_cert.specs.Trees.{Plan, node_count}
use Rattle.crn_cert.specs.Nodes.{Said, Fits}
use Rattle.crn_cert.specs.TreeTests.{tree_tests}
use Rattle.crn_cert.specs.RankTests.{rank_tests}
use Rattle.crn_cert.specs.ConfluenceTests.{IsInSpace, DoTerminalsGather, least_from, others_than, tie_tests}
use Rattle.crn_cert.specs.Faults.{BadEvidence, BadVector, WrongClasses, WrongNumber, WrongVerdict, WrongWalk}

-- ---- what earlier verdicts give

-- the labels of the linkage classes
abbrev pub linkage : Earlier → List ℕ
linkage earlier = labels_of (on earlier Q1)

-- the number of linkage classes
abbrev pub linkage_count : Earlier → ℕ
linkage_count earlier = count_of (on earlier Q1)

-- the labels of the strong classes
abbrev pub strong : Earlier → List ℕ
strong earlier = labels_of (on earlier Q2)

-- the exits of the strong classes
abbrev pub exits : Earlier → List ℕ
exits earlier = exits_of (on earlier Q2)

-- the classes of a list of labels up to a count
abbrev pub classes_to : ℕ → List ℕ
classes_to count = range_with_len 1 count

-- complex c has strong label m and linkage label k
abbrev pub is_in_both : List ℕ → List ℕ → ℕ → ℕ → ℕ → Bool
is_in_both strong linkage m k c = (slice_index strong c == m) && (slice_index linkage c == k)

-- strong class m has exit 0 and a complex of linkage class k
abbrev pub is_terminal_in : List ℕ → List ℕ → List ℕ → ℕ → ℕ → Bool
is_terminal_in strong exits linkage k m = (slice_index exits (m - 1) == 0)
    && list_any (is_in_both strong linkage m k) (range_with_len 0 (length strong))

-- the number of terminal strong classes of linkage class k, among this many strong classes
abbrev pub terminals_of : List ℕ → List ℕ → List ℕ → ℕ → ℕ → ℕ
terminals_of strong exits linkage count k =
    count_by (is_terminal_in strong exits linkage k) (classes_to count)

-- the number of terminal strong classes of linkage class k
abbrev pub terminals_in : Earlier → ℕ → ℕ
terminals_in earlier k =
    terminals_of (strong earlier) (exits earlier) (linkage earlier) (count_of (on earlier Q2)) k

-- each linkage class before k has one terminal class
abbrev pub HaveOneBefore : Earlier → ℕ → Type 0
HaveOneBefore earlier k = (j : ℕ) → 1 ≤ j → j < k → terminals_in earlier j ≡ 1

-- each linkage class has one terminal class
abbrev pub HaveOneEach : Earlier → Type 0
HaveOneEach earlier = HaveOneBefore earlier (suc (linkage_count earlier))

-- linkage class k is the least with several terminal classes, and has `count` of them
abbrev pub IsFirstSplit : Earlier → ℕ → ℕ → Type 0
IsFirstSplit earlier k count = (terminals_in earlier k ≡ count) × (2 ≤ count)
    × HaveOneBefore earlier k

-- every reaction stays within its strong class
abbrev pub IsWeak : Net → Earlier → Type 0
IsWeak net earlier = AreEven net (strong earlier)

-- the reactions of linkage class k
abbrev pub class_places : Net → Earlier → ℕ → List ℕ
class_places net earlier k =
    filter (λ r. slice_index (linkage earlier) (slice_index_or net.reactions (r - 1) (0, 0)).0 == k)
    (range_with_len 1 (length net.reactions))

-- the two complexes of reaction r
abbrev pub ends_at : Net → ℕ → ℕ × ℕ
ends_at net r = slice_index_or net.reactions (r - 1) (0, 0)

-- the reaction joins two complexes of one terminal class
abbrev pub is_within_terminal : Earlier → ℕ × ℕ → Bool
is_within_terminal earlier r =
    (slice_index (strong earlier) r.0 == slice_index (strong earlier) r.1)
    && (of_class (strong earlier) (exits earlier) r.0 == 0)

-- reaction r joins two complexes of one terminal class
abbrev pub IsWithinTerminal : Net → Earlier → ℕ → Type 0
IsWithinTerminal net earlier r = (1 ≤ r) × (r ≤ length net.reactions)
    × IsTrue (is_within_terminal earlier (ends_at net r))

-- the reactions join the same two complexes
abbrev pub is_same_pair : ℕ × ℕ → ℕ × ℕ → Bool
is_same_pair q r = ((q.0 == r.0) && (q.1 == r.1)) || ((q.0 == r.1) && (q.1 == r.0))

-- no reaction before r joins the same two complexes
abbrev pub is_least_of_pair : Net → ℕ → Bool
is_least_of_pair net r =
    not (list_any (λ q. is_same_pair (ends_at net q) (ends_at net r)) (range_with_len 1 (r - 1)))

-- the linked pairs within terminal classes, each by its least reaction
abbrev pub pair_places : Net → Earlier → List ℕ
pair_places net earlier =
    filter (λ r. is_within_terminal earlier (ends_at net r) && is_least_of_pair net r)
    (range_with_len 1 (length net.reactions))

-- ---- linkage classes: labels, then up and depth

-- the labels, and then the trees
abbrev pub linkage_rows : Net → Verdict → Proof → List Test
linkage_rows net (Classes count label) (Forest up depth) =
    test 1 WrongClasses (AreNumbered label.list count × AreEven net label.list)
    ∷ test 3 WrongClasses (AreLinkTrees net label.list up.list depth.list) ∷ []
linkage_rows net verdict proof = []

-- ---- strong classes: labels, the two trees, levels, exits and their count

-- the labels, the two trees, the levels, the exits, and the number of terminal classes
abbrev pub strong_rows : Net → Verdict → Proof → List Test
strong_rows net (Strong count terminal label exit) (StrongTrees from from_depth to to_depth level) =
    test 1 WrongClasses (AreNumbered label.list count)
    ∷ test 3 WrongClasses (AreFromTrees net label.list from.list from_depth.list)
    ∷ test 5 WrongClasses (AreToTrees net label.list to.list to_depth.list)
    ∷ test 6 WrongClasses (DoLevelsFall net label.list level.list)
    ∷ test 7 WrongClasses (AreAllExits net label.list exit.list)
    ∷ test 7 WrongNumber (zeros_in exit.list ≡ terminal) ∷ []
strong_rows net verdict proof = []

-- ---- reversible

-- the reaction that a no names has no reverse
abbrev pub reversible_head : Net → Verdict → List Test
reversible_head net (NoReaction r) = test 0 WrongVerdict (HasNoReverse net r) ∷ []
reversible_head net verdict = []

-- each reaction has the reverse that the list names
abbrev pub reversible_rows : Net → Verdict → Proof → List Test
reversible_rows net Yes (Back back) = test 1 WrongWalk (AreReverses net back.list) ∷ []
reversible_rows net verdict proof = []

-- reaction r goes from one strong class to another
abbrev pub LeavesLabel : Net → Earlier → ℕ → Type 0
LeavesLabel net earlier r = (y : ℕ) × (z : ℕ) × IsReactionNumber net r y z
    × (slice_index (strong earlier) y ≢ slice_index (strong earlier) z)

-- ---- weakly reversible

-- every reaction stays within its strong class, or the one that a no names leaves it
abbrev pub weak_head : Net → Earlier → Verdict → List Test
weak_head net earlier Yes = test 0 WrongVerdict (IsWeak net earlier) ∷ []
weak_head net earlier (NoReaction r) = test 0 WrongVerdict (LeavesLabel net earlier r) ∷ []
weak_head net earlier verdict = []

-- ---- rank: the duals, then the combinations

-- the duals of the base, and then the combinations of the other vectors
abbrev pub rank_rows : Net → Verdict → Proof → List Test
rank_rows net (Rank rank base) (RankRows proof) =
    rank_tests net
    (range_with_len 1 (length net.reactions)) 1 proof.base.list proof.duals proof.combs
rank_rows net verdict proof = []

-- ---- deficiency
-- the rank is known, and `total` is the number of complexes less that of the linkage classes less
-- the rank
abbrev pub IsLeft : Net → Earlier → ℕ → Option ℕ → Type 0
IsLeft net earlier total rank =
    IsSomeAnd rank (λ s. total + linkage_count earlier + s ≡ length net.complexes)

-- the rank of class k, the number of its complexes less 1 less d, is from 1 to the lesser of the
-- numbers of species and of its reactions
abbrev pub IsClassNumber : Net → Earlier → ℕ → ℕ → Type 0
IsClassNumber net earlier k d = (d + 2 ≤ length (class_members (linkage earlier) k))
    × (length (class_members (linkage earlier) k) ≤ d + 1 + min (length net.names)
    (length (class_places net earlier k)))

-- each of these deficiencies, the first of class k, gives a rank that its class may have
abbrev pub AreClassNumbers : Net → Earlier → ℕ → List ℕ → Type 0
AreClassNumbers net earlier k [] = Unit {0}
AreClassNumbers net earlier k (d ∷ ds) = IsClassNumber net earlier k d
    × AreClassNumbers net earlier (suc k) ds

-- the tests of the ranks of the classes from k on; the first of them is record `part`
abbrev pub class_rank_tests : Net → Earlier → ℕ → ℕ → List RankProof → List Test
class_rank_tests net earlier part k [] = []
class_rank_tests net earlier part k (proof ∷ proofs) =
    rank_tests net (class_places net earlier k) part proof.base.list proof.duals proof.combs
    ++ class_rank_tests net earlier (part + 1 + length proof.duals + length proof.combs)
    (suc k) proofs

-- the rank is known, and the deficiencies are what is left of the complexes
abbrev pub deficiency_head : Net → Earlier → Verdict → List Test
deficiency_head net earlier (Deficiency total classes) =
    test 0 WrongVerdict (IsSome (rank_of (on earlier Q5)))
    ∷ test 0 WrongNumber (IsLeft net earlier total (rank_of (on earlier Q5))
    × AreClassNumbers net earlier 1 classes.list) ∷ []
deficiency_head net earlier verdict = []

-- the records of the rank of each linkage class
abbrev pub deficiency_rows : Net → Earlier → Verdict → Proof → List Test
deficiency_rows net earlier (Deficiency total classes) (Ranks list) =
    class_rank_tests net earlier 1 1 list
deficiency_rows net earlier verdict proof = []

-- ---- positive vectors

-- the positive dependence, or the multipliers that rule it out
abbrev pub dependence_rows : Net → Verdict → List Test
dependence_rows net (YesVec vector) = test 1 BadVector (IsPositiveDependence net vector.list) ∷ []
dependence_rows net (NoVec multipliers) = test 1 BadVector (RuleOutDependence net multipliers.list) ∷ []
dependence_rows net verdict = []

-- the conservation law, or the multipliers that rule it out
abbrev pub conservation_rows : Net → Verdict → List Test
conservation_rows net (YesVec vector) = test 1 BadVector (IsConservationLaw net vector.list) ∷ []
conservation_rows net (NoVec multipliers) = test 1 BadVector (RuleOutConservation net multipliers.list)
    ∷ []
conservation_rows net verdict = []

-- ---- the two deficiency theorems

-- the rank is known, and the deficiency is 0 with its case, or the one that a no names
abbrev pub zero_head : Net → Earlier → Verdict → List Test
zero_head net earlier (YesWeak weak) =
    test 0 WrongVerdict (IsSome (rank_of (on earlier Q5)))
    ∷ test 0 WrongVerdict (IsLeft net earlier 0 (rank_of (on earlier Q5))
    × (IsTrue weak ↔ IsYes (on earlier Q4))) ∷ []
zero_head net earlier (NoNumber d) =
    test 0 WrongVerdict (IsSome (rank_of (on earlier Q5)))
    ∷ test 0 WrongNumber (IsLeft net earlier d (rank_of (on earlier Q5))) ∷ []
zero_head net earlier verdict = []

-- the deficiencies are known, and have the property
abbrev pub WithDeficiencies : (ℕ → List ℕ → Type 0) → Option (ℕ × List ℕ) → Type 0
WithDeficiencies Has known = IsSomeAnd known (λ ds. Has ds.0 ds.1)

-- class k is the least of deficiency 2 or more, and has this one
abbrev pub IsFirstLarge : ℕ → ℕ → List ℕ → Type 0
IsFirstLarge k d classes = (slice_index classes (k - 1) ≡ d) × (2 ≤ d)
    × ((j : ℕ) → j < k - 1 → slice_index classes j ≤ 1)

-- the three hypotheses, or the first that fails
abbrev pub one_head : Earlier → Verdict → List Test
one_head earlier Yes =
    test 0 WrongVerdict
    (HaveOneEach earlier
    × WithDeficiencies (λ total classes. AreAtMostOne classes × (sum classes ≡ total))
    (deficiencies_of (on earlier Q6))) ∷ []
one_head earlier (NoTerminal k count) = test 0 WrongVerdict (IsFirstSplit earlier k count) ∷ []
one_head earlier (NoClass k d) =
    test 0 WrongVerdict
    (HaveOneEach earlier
    × WithDeficiencies (λ total classes. IsFirstLarge k d classes)
    (deficiencies_of (on earlier Q6))) ∷ []
one_head earlier (NoSum x) =
    test 0 WrongVerdict
    (HaveOneEach earlier
    × WithDeficiencies (λ total classes. AreAtMostOne classes × (sum classes ≡ x) × (x ≢ total))
    (deficiencies_of (on earlier Q6))) ∷ []
one_head earlier verdict = []

-- ---- regularity: the head, then the sides or the walk

-- the tests of the sides of these pairs; the first of them is record `part`, and a missing side
-- fails
abbrev pub side_tests : Net → Earlier → ℕ → List ℕ → List (List ℤ) → List Test
side_tests net earlier part (r ∷ rs) (marks ∷ sides) =
    test part BadVector (AreSideMarks net (linkage earlier) r marks)
    ∷ side_tests net earlier (suc part) rs sides
side_tests net earlier part (r ∷ rs) [] = test part BadVector ⊥ ∷ []
side_tests net earlier part [] sides = []

-- the three conditions, or the first that fails, as far as the head shows them
abbrev pub regular_head : Net → Earlier → Verdict → List Test
regular_head net earlier Yes = test 0 WrongVerdict (HaveOneEach earlier × IsYes (on earlier Q7)) ∷ []
regular_head net earlier (NoTerminal k count) = test 0 WrongVerdict (IsFirstSplit earlier k count) ∷ []
regular_head net earlier NoDependence = test 0 WrongVerdict (HaveOneEach earlier × IsNo (on earlier Q7)) ∷ []
regular_head net earlier (NoCycle r walk) =
    test 0 WrongVerdict
    (HaveOneEach earlier × (IsYes (on earlier Q7) ⊎ IsOpen (on earlier Q7))
    × IsWithinTerminal net earlier r) ∷ []
regular_head net earlier verdict = []

-- the sides of all pairs, or the walk round one
abbrev pub regular_rows : Net → Earlier → Verdict → Proof → List Test
regular_rows net earlier Yes (Sides sides) =
    side_tests net earlier 1 (pair_places net earlier) sides
regular_rows net earlier (NoCycle r walk) proof = test 1 WrongWalk (IsWayRound net r walk.list) ∷ []
regular_rows net earlier verdict proof = []

-- ---- confluence: the head, then the vectors and the ties

-- a primitive confluence vector; if the network is weakly reversible, its first nonzero entry is
-- positive
pub record IsNormal (net : Net) (earlier : Earlier) (g : List ℤ) : Type 0 where
  pub space : IsInSpace net (linkage earlier) (linkage_count earlier) g
  pub some : IsNonzero g
  pub gathers : DoTerminalsGather (strong earlier) (exits earlier) g
  pub primitive : IsPrimitive g
  pub leads : IsYes (on earlier Q4) → LeadsPositive g

-- in the confluence space, not zero at c and zero at d, which count from 1
abbrev pub IsApartAt : Net → Earlier → ℕ → ℕ → List ℤ → Type 0
IsApartAt net earlier c d g = IsInSpace net (linkage earlier) (linkage_count earlier) g
    × (entry g (c - 1) ≢ pos 0) × (entry g (d - 1) ≡ pos 0)

-- the network is regular, or is not
abbrev pub confluence_head : Earlier → Verdict → List Test
confluence_head earlier (YesVec vector) = test 0 WrongVerdict (IsYes (on earlier Q11)) ∷ []
confluence_head earlier NotRegular = test 0 WrongVerdict (IsNo (on earlier Q11)) ∷ []
confluence_head earlier OnlyZero = test 0 WrongVerdict (IsYes (on earlier Q11)) ∷ []
confluence_head earlier (Plane first second one two) = test 0 WrongVerdict (IsYes (on earlier Q11)) ∷ []
confluence_head earlier verdict = []

-- the vectors, and then the ties
abbrev pub confluence_rows : Net → Earlier → Verdict → Proof → List Test
confluence_rows net earlier (YesVec vector) (Ties ties) =
    test 1 BadVector (IsNormal net earlier vector.list)
    ∷ tie_tests net (linkage earlier) (linkage_count earlier) (λ d. d
    ≡ least_from 0 vector.list) 2 (others_than net (least_from 0 vector.list)) ties
confluence_rows net earlier OnlyZero (Ties ties) =
    tie_tests net (linkage earlier) (linkage_count earlier) (λ d. ⊥) 1
    (range_with_len 0 (length net.complexes)) ties
confluence_rows net earlier (Plane first second one two) proof =
    test 1 BadVector (IsApartAt net earlier first second one.list)
    ∷ test 2 BadVector (IsApartAt net earlier second first two.list) ∷ []
confluence_rows net earlier verdict proof = []

-- ---- signals: the head, then the signal or the trees

-- a confluence vector is known
abbrev pub HasVector : Earlier → Type 0
HasVector earlier = IsSome (vector_given (on earlier Q12))

-- a confluence vector is known, or is known not to be there
abbrev pub signal_head : Earlier → Verdict → List Test
signal_head earlier (YesSignal turn shelves mu level weights) =
    test 0 WrongVerdict (HasVector earlier × (turn ≡ negsuc 0 → IsYes (on earlier Q4))) ∷ []
signal_head earlier No = test 0 WrongVerdict (HasVector earlier) ∷ []
signal_head earlier NotApplicable =
    test 0 WrongVerdict ((HasVector earlier → ⊥) × (IsOpen (on earlier Q12) → ⊥)) ∷ []
signal_head earlier verdict = []

-- a node of a tree for g fits its prefix in the sign problem of a shape of the network
abbrev pub IsSignalNode : Net → List ℤ → List Sign → Said → Type 0
IsSignalNode net g p said = (s : Shape) × IsShapeOf net g s
    × Fits (signals s (reaction_system net)) p said

-- the property of the vector of question 12 with a turn
abbrev pub OfVector : Earlier → ℤ → (List ℤ → Type 0) → Type 0
OfVector earlier turn Has = IsSomeAnd (vector_given (on earlier Q12)) (λ g. Has (by_turn turn g))

-- a node of the tree for the vector of question 12 with a turn fits its prefix
abbrev pub IsNodeOf : Net → Earlier → ℤ → List Sign → Said → Type 0
IsNodeOf net earlier turn p said = OfVector earlier turn (λ g. IsSignalNode net g p said)

-- the tests of the trees of a signal, the second after the first
abbrev pub signal_tree_tests : Net → Earlier → List Plan → List Test
signal_tree_tests net earlier (tree ∷ []) = tree_tests (IsNodeOf net earlier (pos 1)) 1 [] tree
signal_tree_tests net earlier (tree ∷ second ∷ []) =
    tree_tests (IsNodeOf net earlier (pos 1)) 1 [] tree
    ++ tree_tests (IsNodeOf net earlier (negsuc 0)) (1 + node_count tree) [] second
signal_tree_tests net earlier trees = []

-- the signal, or the nodes of the trees
abbrev pub signal_rows : Net → Earlier → Verdict → Proof → List Test
signal_rows net earlier (YesSignal turn shelves mu level weights) proof =
    test 4 BadEvidence
    (OfVector earlier turn
    (λ g. IsSignalOf net g (map sign shelves.list) mu.list level weights.list)) ∷ []
signal_rows net earlier No (One tree) = signal_tree_tests net earlier (tree ∷ [])
signal_rows net earlier No (Two tree second) =
    signal_tree_tests net earlier (tree ∷ second ∷ [])
signal_rows net earlier verdict proof = []

-- ---- concordance: the pair or the tree

-- the nodes of the tree, or the two lists of numbers
abbrev pub table_rows : Net → List (List Sign) → Verdict → Proof → List Test
table_rows net table Yes (One tree) =
    tree_tests (Fits (concordance (reaction_system net) table)) 1 [] tree
table_rows net table (NoPair alpha weights) proof =
    test 2 BadEvidence (IsDiscordant (reaction_system net) table alpha.list weights.list) ∷ []
table_rows net table verdict proof = []

-- ---- all questions

-- the tests of a head
abbrev pub head_tests : Net → Earlier → Question → Verdict → List Test
head_tests net earlier Q1 verdict = []
head_tests net earlier Q2 verdict = []
head_tests net earlier Q3 verdict = reversible_head net verdict
head_tests net earlier Q4 verdict = weak_head net earlier verdict
head_tests net earlier Q5 verdict = []
head_tests net earlier Q6 verdict = deficiency_head net earlier verdict
head_tests net earlier Q7 verdict = []
head_tests net earlier Q8 verdict = []
head_tests net earlier Q9 verdict = zero_head net earlier verdict
head_tests net earlier Q10 verdict = one_head earlier verdict
head_tests net earlier Q11 verdict = regular_head net earlier verdict
head_tests net earlier Q12 verdict = confluence_head earlier verdict
head_tests net earlier Q13 verdict = signal_head earlier verdict
head_tests net earlier Q14 verdict = []
head_tests net earlier Q15 verdict = []

-- the tests of the records below a head
abbrev pub row_tests : Net → Earlier → Question → Verdict → Proof → List Test
row_tests net earlier Q1 verdict proof = linkage_rows net verdict proof
row_tests net earlier Q2 verdict proof = strong_rows net verdict proof
row_tests net earlier Q3 verdict proof = reversible_rows net verdict proof
row_tests net earlier Q4 verdict proof = []
row_tests net earlier Q5 verdict proof = rank_rows net verdict proof
row_tests net earlier Q6 verdict proof = deficiency_rows net earlier verdict proof
row_tests net earlier Q7 verdict proof = dependence_rows net verdict
row_tests net earlier Q8 verdict proof = conservation_rows net verdict
row_tests net earlier Q9 verdict proof = []
row_tests net earlier Q10 verdict proof = []
row_tests net earlier Q11 verdict proof = regular_rows net earlier verdict proof
row_tests net earlier Q12 verdict proof = confluence_rows net earlier verdict proof
row_tests net earlier Q13 verdict proof = signal_rows net earlier verdict proof
row_tests net earlier Q14 verdict proof = table_rows net (plain_table net) verdict proof
row_tests net earlier Q15 verdict proof = table_rows net (strong_table net) verdict proof

-- the tests of an answer, in order
abbrev pub tests_of : Net → Earlier → Question → Answer → List Test
tests_of net earlier q answer = head_tests net earlier q answer.verdict
    ++ row_tests net earlier q answer.verdict answer.proof

-- the answer is valid: all its tests hold
abbrev pub IsValid : Net → Earlier → Question → Answer → Type 0
IsValid net earlier q answer = AllHold (tests_of net earlier q answer)

-- the answers to these questions are valid, each after the verdicts before, whose lists count
-- without their spares
abbrev pub AreValid : Net → Earlier → List Question → List Answer → Type 0
AreValid net earlier [] [] = Unit {0}
AreValid net earlier (q ∷ qs) (answer ∷ answers) = IsValid net earlier q answer
    × AreValid net (earlier ++ (q, tight answer.verdict) ∷ []) qs answers
AreValid net earlier qs answers = ⊥
