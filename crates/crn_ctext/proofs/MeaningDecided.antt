-- Each test of the built questions is decided, whatever a block holds.
use Rattle.crn_ctext.proofs.Prelude.{inl, inr, refl, ◌≡◌, ◌==◌, ℕ, zero, suc, Bool, true, false, List, [], length, map, drop, ◌≢◌, ℤ, pos, negsuc, Option, Some, None, sum, slice_index_or, IsSome, range_with_len, Net, IsNetwork, reaction_system, Signed, plain_table, strong_table, RankProof, HeadKind, Classes, Strong, Rank, Deficiency, Yes, YesWeak, YesVec, YesSignal, No, NoReaction, NoVec, NoNumber, NoTerminal, NoClass, NoSum, NoDependence, NoCycle, NoPair, NotRegular, OnlyZero, Plane, NotApplicable, Earlier, Q1, Q2, Q3, Q4, Q5, Q6, Q7, Q8, Q9, Q10, Q11, Q12, Q13, Q14, Q15, on, rank_of, deficiencies_of, vector_given, IsOpen, AreAtMostOne, zeros_in, strong, IsFirstLarge, linkage, linkage_count, pair_places, HasVector, Flats, CutsA, CutsB, sign, least_from, others_than, heads, later_numbers, place_of, Known, shapes_of, sizes_of, nums, lists, turn_of, verdict_by, ranks_of, is_yes, problem_over, table_problem, signal_problem, signal_problems, problems_by, meaning, built, ◌∷◌, Question, head_tests, row_tests}
use Rattle.crn_ctext.specs.Meaning.{number, row, ints, rank_proof, kind_of, proof_by}
use Rattle.crn_ctext.proofs.Decided.{IsDecided, both_decided, one_decided as either_decided, not_decided, if_decided, nat_decided, bool_decided, int_decided}
use Rattle.crn_ctext.proofs.SignalsDecided.{node_decided, signal_decided}
use Rattle.crn_ctext.proofs.TestsDecided.{numbered_decided, even_decided, link_trees_decided, from_trees_decided, to_trees_decided, levels_decided, exits_decided, no_reverse_decided, reverses_decided, leaves_decided}
use Rattle.crn_ctext.proofs.RanksDecided.{rank_decided, class_ranks_decided, some_rank_decided, left_decided, class_numbers_decided, dependence_decided, no_dependence_decided, law_decided, no_law_decided}
use Rattle.crn_ctext.proofs.ConfluenceDecided.{no_decided, open_decided, within_decided, sides_decided, way_decided, normal_decided, apart_decided, ties_decided}
use Rattle.crn_ctext.proofs.TheoremsDecided.{three_decided, yes_decided, case_decided, one_each_decided, first_split_decided, known_decided, additive_decided, other_sum_decided, first_large_decided}
use Rattle.crn_ctext.proofs.TablesDecided.{cut_decided, discordant_decided}
use Rattle.crn_ctext.proofs.Settled.{AllDecided, IsDecidedProblem, AreDecidedProblems, IsDecidedFor, IsDecidedMeaning}

-- what is known is of a network
abbrev pub OfNetwork : Known → Type 0
OfNetwork known = IsNetwork known.net

-- ---- the tests of heads

vector_decided : (earlier : Earlier) → IsDecided (HasVector earlier)
vector_decided earlier = by (vector_given (on earlier Q12))
  where
    by : (given : Option (List ℤ)) → IsDecided (IsSome given)
    by None = bool_decided _ true
    by (Some g) = inl refl

-- no vector is given, and question 12 is not open
none_decided : (earlier : Earlier) → IsDecided ((HasVector earlier → ⊥) × (IsOpen (on earlier Q12) → ⊥))
none_decided earlier = both_decided (not_decided (vector_decided earlier)) (not_decided (open_decided (on earlier Q12)))

heads_decided : (net : Net) (earlier : Earlier) (q : Question) (kind : HeadKind) (n : List ℤ) → AllDecided (head_tests net earlier q (verdict_by kind n []))
heads_decided net earlier Q3 NoReaction n = (no_reverse_decided net (number n 0), tt)
heads_decided net earlier Q4 Yes n = (even_decided net (strong earlier), tt)
heads_decided net earlier Q4 NoReaction n = (leaves_decided net earlier (number n 0), tt)
heads_decided net earlier Q6 Deficiency n =
    let rank = rank_of (on earlier Q5) in
    (some_rank_decided rank, (both_decided (left_decided net earlier (number n 0) rank) (class_numbers_decided net earlier 1 (nums (later_numbers n)).list), tt))
heads_decided net earlier Q9 YesWeak n =
    let rank = rank_of (on earlier Q5) in
    (some_rank_decided rank, (both_decided (left_decided net earlier 0 rank) (case_decided (number n 0 == 1) (on earlier Q4)), tt))
heads_decided net earlier Q9 NoNumber n =
    let rank = rank_of (on earlier Q5) in
    (some_rank_decided rank, (left_decided net earlier (number n 0) rank, tt))
heads_decided net earlier Q10 Yes n =
    (both_decided (one_each_decided earlier) (known_decided (λ total classes. AreAtMostOne classes × (sum classes ≡ total)) additive_decided (deficiencies_of (on earlier Q6))), tt)
heads_decided net earlier Q10 NoTerminal n = (first_split_decided earlier (number n 0) (number n 1), tt)
heads_decided net earlier Q10 NoClass n =
    (both_decided (one_each_decided earlier) (known_decided (λ total classes. IsFirstLarge (number n 0) (number n 1) classes) (λ total classes. first_large_decided (number n 0) (number n 1) classes) (deficiencies_of (on earlier Q6))), tt)
heads_decided net earlier Q10 NoSum n =
    let x = number n 0 in
    (both_decided (one_each_decided earlier) (known_decided (λ total classes. AreAtMostOne classes × (sum classes ≡ x) × (x ≢ total)) (other_sum_decided x) (deficiencies_of (on earlier Q6))), tt)
heads_decided net earlier Q11 Yes n = (both_decided (one_each_decided earlier) (yes_decided (on earlier Q7)), tt)
heads_decided net earlier Q11 NoTerminal n = (first_split_decided earlier (number n 0) (number n 1), tt)
heads_decided net earlier Q11 NoDependence n = (both_decided (one_each_decided earlier) (no_decided (on earlier Q7)), tt)
heads_decided net earlier Q11 NoCycle n =
    (three_decided (one_each_decided earlier) (either_decided (yes_decided (on earlier Q7)) (open_decided (on earlier Q7))) (within_decided net earlier (number n 0)), tt)
heads_decided net earlier Q12 YesVec n = (yes_decided (on earlier Q11), tt)
heads_decided net earlier Q12 NotRegular n = (no_decided (on earlier Q11), tt)
heads_decided net earlier Q12 OnlyZero n = (yes_decided (on earlier Q11), tt)
heads_decided net earlier Q12 Plane n = (yes_decided (on earlier Q11), tt)
heads_decided net earlier Q13 YesSignal n = (both_decided (vector_decided earlier) (if_decided (int_decided (turn_of (slice_index_or n 0 (pos 0))) (negsuc 0)) (yes_decided (on earlier Q4))), tt)
heads_decided net earlier Q13 No n = (vector_decided earlier, tt)
heads_decided net earlier Q13 NotApplicable n = (none_decided earlier, tt)
heads_decided net earlier q kind n = tt

-- ---- the tests of the records below them

rows_decided : (net : Net) → IsNetwork net → (earlier : Earlier) (q : Question) (kind : HeadKind) (ps : List RankProof) (n : List ℤ) (rs : List (List ℤ)) → AllDecided (row_tests net earlier q (verdict_by kind n rs) (proof_by kind q ps n rs))
rows_decided net is earlier Q1 Classes ps n rs =
    let label = (nums (row rs 0)).list in
    (both_decided (numbered_decided label (number n 0)) (even_decided net label), (link_trees_decided net label (nums (row rs 1)).list (nums (row rs 2)).list, tt))
rows_decided net is earlier Q2 Strong ps n rs =
    let label = (nums (row rs 0)).list in
    let exit = (nums (row rs 6)).list in (
      numbered_decided label (number n 0),
      (
        from_trees_decided net label (nums (row rs 1)).list (nums (row rs 2)).list,
        (
          to_trees_decided net label (nums (row rs 3)).list (nums (row rs 4)).list,
          (levels_decided net label (nums (row rs 5)).list, (exits_decided net label exit, (nat_decided (zeros_in exit) (number n 1), tt))),
        ),
      ),
    )
rows_decided net is earlier Q3 Yes ps n rs = (reverses_decided net (nums (row rs 0)).list, tt)
rows_decided net is earlier Q5 Rank ps n rs = let p = rank_proof (number n 0) rs in rank_decided net (range_with_len 1 (length net.reactions)) 1 p.base.list p.duals p.combs
rows_decided net is earlier Q6 Deficiency ps n rs = class_ranks_decided net earlier 1 1 ps
rows_decided net is earlier Q7 YesVec ps n rs = (dependence_decided net (ints (row rs 0)).list, tt)
rows_decided net is earlier Q7 NoVec ps n rs = (no_dependence_decided net (ints (row rs 0)).list, tt)
rows_decided net is earlier Q8 YesVec ps n rs = (law_decided net (ints (row rs 0)).list, tt)
rows_decided net is earlier Q8 NoVec ps n rs = (no_law_decided net (ints (row rs 0)).list, tt)
rows_decided net is earlier Q11 Yes ps n rs = sides_decided net earlier 1 (pair_places net earlier) (map later_numbers rs)
rows_decided net is earlier Q11 NoCycle ps n rs = (way_decided net (number n 0) (nums (row rs 0)).list, tt)
rows_decided net is earlier Q12 YesVec ps n rs =
    let v = (ints (row rs 0)).list in
    (normal_decided net earlier v, ties_decided net (linkage earlier) (linkage_count earlier) (λ d. d ≡ least_from 0 v) (λ d. nat_decided d (least_from 0 v)) 2 (others_than net (least_from 0 v)) (drop 1 rs))
rows_decided net is earlier Q12 OnlyZero ps n rs = ties_decided net (linkage earlier) (linkage_count earlier) (λ d. ⊥) (λ d. inr (λ h. h)) 1 (range_with_len 0 (length net.complexes)) rs
rows_decided net is earlier Q12 Plane ps n rs = (apart_decided net earlier (number n 0) (number n 1) (ints (row rs 0)).list, (apart_decided net earlier (number n 1) (number n 0) (ints (row rs 1)).list, tt))
rows_decided net is earlier Q13 YesSignal ps n rs =
    (signal_decided net is earlier (turn_of (slice_index_or n 0 (pos 0))) (map sign (ints (row rs 0)).list) (ints (row rs 1)).list (slice_index_or (row rs 2) 0 (pos 0)) (ints (row rs 3)).list, tt)
rows_decided net is earlier Q14 NoPair ps n rs = (discordant_decided (reaction_system net) (plain_table net) (ints (row rs 0)).list (ints (row rs 1)).list, tt)
rows_decided net is earlier Q15 NoPair ps n rs = (discordant_decided (reaction_system net) (strong_table net) (ints (row rs 0)).list (ints (row rs 1)).list, tt)
rows_decided net is earlier q kind ps n rs = tt

-- ---- the tests of trees

signal_problem_decided : (known : Known) → OfNetwork known → (turn : ℤ) → IsDecidedProblem (signal_problem known turn)
signal_problem_decided known n turn = record {
  part_a = λ prefix u. node_decided known.net n known.earlier turn prefix (CutsA u);
  part_b = λ prefix u. node_decided known.net n known.earlier turn prefix (CutsB u);
  closed = λ prefix. node_decided known.net n known.earlier turn prefix Flats;
}

signal_problems_decided : (known : Known) → OfNetwork known → (weak : Bool) → AreDecidedProblems (signal_problems known weak)
signal_problems_decided known n false = (signal_problem_decided known n (pos 1), tt)
signal_problems_decided known n true = (signal_problem_decided known n (pos 1), (signal_problem_decided known n (negsuc 0), tt))

-- the tests of the leaves of a tree
problem_decided : (net : Net) (w : Signed) → IsDecidedProblem (problem_over net w)
problem_decided net w = record {
  part_a = λ prefix u. cut_decided w.matrix_a (w.kinds_a prefix) u;
  part_b = λ prefix u. cut_decided w.matrix_b (w.kinds_b prefix) u;
  closed = λ prefix. bool_decided (w.closed prefix) true;
}

trees_decided : (known : Known) → OfNetwork known → (q : Question) (place : ℕ) → AreDecidedProblems (problems_by q known place)
trees_decided known n Q13 (suc (suc zero)) = signal_problems_decided known n (is_yes (on known.earlier Q4))
trees_decided known n Q14 (suc zero) = (problem_decided known.net (table_problem known.net (plain_table known.net)), tt)
trees_decided known n Q15 (suc zero) = (problem_decided known.net (table_problem known.net (strong_table known.net)), tt)
trees_decided known n q place = tt

-- ---- all tests

tests_decided : (q : Question) → IsDecidedFor meaning OfNetwork q
tests_decided q = record {
  head = λ known h n. heads_decided known.net known.earlier q (kind_of q (sizes_of known) h) h.numbers;
  rows = λ known h rs n. rows_decided known.net n known.earlier q (kind_of q (sizes_of known) h) (ranks_of (shapes_of known) h rs) h.numbers (lists rs);
  trees = λ known h n. trees_decided known n q (place_of (heads q (sizes_of known)) h.words);
  learn = λ known h rs n. n;
}

questions_decided : (qs : List Question) → IsDecidedMeaning meaning OfNetwork qs
questions_decided [] = tt
questions_decided (q ∷ qs) = (tests_decided q, questions_decided qs)

pub meaning_decided : IsDecidedMeaning meaning OfNetwork built
meaning_decided = questions_decided built
