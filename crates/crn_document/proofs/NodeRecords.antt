-- Records of nodes, and the tests of nodes.
use Rattle.crn_document.proofs.Prelude.{◌≡◌, ◌++◌, ◌∙◌, ℕ, Bool, true, false, List, length, map, refl, sym, ap, subst, inl, inr, arith, Ok, Err, Option, ℤ, length-append, length-map, Sign, Net, complex_row, pair_row, rows_count, Place, KeptLines, AreNumbersFor, Splits, Flats, CutsA, CutsB, AreFree, free_a, free_shape, Record, Form, node_forms, Course, Give, ◌>>=◌, due, Gives, Problem, Node, Split, Flat, CutA, CutB, asks_leaf, asks_node, node_of, reads, IsOneOf, is_after, misplaced, tag_of, due_forms, Due, Expect, Word, StepGives, StepFails, gives_then, fails_before, step_then, step_fails_then, IsTaken, NodeGives, code_of, first, rest, problem_of, TreeProblem, Concordance, Signals, Step, More, Complete, TreeFault, BadLeaf, WrongShape, SourceSeen, Reading, CheckStop, CanRead, StopIs, ExpectsNode, IsNode, IsSaidAs, JudgeGives, Leaves, TakesSome, after_node, asks_node_for, asks_one, choices_in, count_a, node_test, problem_in, stop_first, tests_fail, tests_give}
use Rattle.crn_ctext.specs.Course.{FailsFirst}
use Rattle.crn_ctext.specs.Expect.{sizes_of}
use Rattle.crn_ctree.specs.declared.fault.TreeFault.TheVariants.{NodeNotAllowed, TreeEndsEarly}
use Rattle.crn_cert.specs.Faults as kinds

-- ---- the node that is due

abbrev node_by : ℕ → ℕ → Bool → List Form → kinds.Fault → Course Record
node_by version n after forms mis = due true >>= (λ line. reads version n after forms mis line)

-- what is said of the node that is due is said of the node of these forms
pub as_node : (P : Course Record → Type 0) (e : Expect) (version n count species shared : ℕ) → ExpectsNode e version count species shared → P (asks_node_for e n) → P (asks_node version n (node_forms version count species shared))
as_node P e version n count species shared x p =
    subst (λ (v : ℕ). P (node_by v n false (node_forms v count species shared) kinds.TreeEndsEarly)) x.of_version
    (subst (λ (d : Due). P (node_by e.version n (is_after d e.after_tree) (due_forms d e.version (sizes_of e.sizes)) (misplaced d))) x.due p)

-- a node that was read
pub node_said : (e : Expect) (version count species shared : ℕ) (word : Word) (read : List ℤ) (r : Record) → ExpectsNode e version count species shared → IsSaidAs e word read r → IsNode version count species shared word read r
node_said e version count species shared word read r x s = record {
  form = subst (λ (v : ℕ). IsOneOf (node_forms v count species shared) r) x.of_version (subst (λ (d : Due). IsOneOf (due_forms d e.version (sizes_of e.sizes)) r) x.due s.said.form);
  kind = s.kind;
  numbers_are = s.said.numbers ∙ ap (λ (d : Due). tag_of d (sizes_of e.sizes) r ++ r.numbers) x.due;
}

-- ---- the test of a node

-- a prefix has as many choices as the sign problem
choices_are : (net : Net) (problem : TreeProblem) → (problem_of net problem).choices ≡ choices_in net problem
choices_are net (Concordance table) = rows_count net
choices_are net (Signals shape) = refl

-- a cut of each part has as many numbers as it has rows
rows_of_a : (net : Net) (problem : TreeProblem) → length (problem_of net problem).matrix_a.rows ≡ count_a net problem
rows_of_a net (Concordance table) = rows_count net
rows_of_a net (Signals shape) =
    let s = shape.now in omega (arith, length-append (map complex_row s.complexes) (map (pair_row s) s.pairs), length-map s.complexes complex_row, length-map s.pairs (pair_row s))

rows_of_b : (net : Net) (problem : TreeProblem) → length (problem_of net problem).matrix_b.rows ≡ length net.names
rows_of_b net (Concordance table) = rows_count net
rows_of_b net (Signals shape) = rows_count net

-- numbers of a certificate, as many as a cut of part A has, are those of a cut
pub cut_a_fits : (net : Net) (problem : TreeProblem) (u : List ℤ) → AreFree (count_a net problem) u → AreNumbersFor (problem_of net problem) (CutsA u)
cut_a_fits net (Concordance table) u h = free_a net table u h
cut_a_fits net (Signals shape) u h = free_shape net shape.now u h

-- a node that is taken passes its test, and leaves what is due after it
pub record Passes (net : Net) (problem : TreeProblem) (n : ℕ) (due : List (List Sign)) (node : Node) (step : Step) (after : List (List Sign)) : Type 0 where
  pub gives : (at : Place) → Gives (node_test (problem_in net problem) (first due) n node) at tt at
  pub after_it : after ≡ after_node (first due) (rest due) node
  pub leaves : Leaves step after
  pub taken : TakesSome (problem_of net problem) due after

taken_leaves : (net : Net) (problem : TreeProblem) (due after : List (List Sign)) (node : _) (step : Step) → NodeGives (problem_of net problem) due node after (Ok step) → IsTaken (problem_of net problem) due node after × Leaves step after
taken_leaves net problem due after node More g = g
taken_leaves net problem due after node Complete g = g

pub passes : (net : Net) (problem : TreeProblem) (n : ℕ) (due after : List (List Sign)) (node : Node) (step : Step) → JudgeGives (problem_of net problem) due node after (Ok step) → Passes net problem n due node step after
unfolding Gives
passes net problem n due after Split step g = let t = taken_leaves net problem due after Splits step g in record {
  gives = λ at. (tt, omega (arith, t.0.fits, choices_are net problem), (refl, refl));
  after_it = t.0.next_due;
  leaves = t.1;
  taken = (Splits, t.0);
}
passes net problem n due after Flat step g = let t = taken_leaves net problem due after Flats step g in record { gives = λ at. (tt, t.0.fits, (refl, refl)); after_it = t.0.next_due; leaves = t.1; taken = (Flats, t.0) }
passes net problem n due after (CutA false u) step g = let t = taken_leaves net problem due after (CutsA u) step g in record { gives = λ at. (tt, (λ e. absurd cc), (tt, t.0.fits, (refl, refl))); after_it = t.0.next_due; leaves = t.1; taken = (CutsA u, t.0) }
passes net problem n due after (CutB false u) step g = let t = taken_leaves net problem due after (CutsB u) step g in record { gives = λ at. (tt, (λ e. absurd cc), (tt, t.0.fits, (refl, refl))); after_it = t.0.next_due; leaves = t.1; taken = (CutsB u, t.0) }
passes net problem n due after (CutA true u) step g = let t = taken_leaves net problem due after (CutsA u) step g.1 in record { gives = λ at. (tt, (λ e. g.0 ∙ rows_of_a net problem), (tt, t.0.fits, (refl, refl))); after_it = t.0.next_due; leaves = t.1; taken = (CutsA u, t.0) }
passes net problem n due after (CutB true u) step g = let t = taken_leaves net problem due after (CutsB u) step g.1 in record { gives = λ at. (tt, (λ e. g.0 ∙ rows_of_b net problem), (tt, t.0.fits, (refl, refl))); after_it = t.0.next_due; leaves = t.1; taken = (CutsB u, t.0) }

-- a node that is refused fails its test, with the code of the fault
pub refused : (net : Net) (problem : TreeProblem) (n : ℕ) (due after : List (List Sign)) (node : Node) (fault : TreeFault) → JudgeGives (problem_of net problem) due node after (Err fault) → (at : Place) → FailsFirst (node_test (problem_in net problem) (first due) n node) at n (code_of fault)
unfolding FailsFirst
refused net problem n due after Split BadLeaf g at = absurd (let e = g.1 in cc)
refused net problem n due after Split NodeNotAllowed g at = inl (refl, refl, λ x lt. let f = g.0.fails in f (omega (arith, lt, choices_are net problem)))
refused net problem n due after Flat BadLeaf g at = absurd (let e = g.1 in cc)
refused net problem n due after Flat NodeNotAllowed g at = inl (refl, refl, λ x h. let f = g.0.fails in f h)
refused net problem n due after (CutA false u) BadLeaf g at = inr (tt, (λ e. absurd cc), inl (refl, refl, λ x h. let f = g.0.fails in f h))
refused net problem n due after (CutA false u) NodeNotAllowed g at = absurd (let e = g.1 in cc)
refused net problem n due after (CutB false u) BadLeaf g at = inr (tt, (λ e. absurd cc), inl (refl, refl, λ x h. let f = g.0.fails in f h))
refused net problem n due after (CutB false u) NodeNotAllowed g at = absurd (let e = g.1 in cc)
refused net problem n due after (CutA true u) BadLeaf g at = inr (tt, (λ e. g.0 ∙ rows_of_a net problem), inl (refl, refl, λ x h. let f = g.1.0.fails in f h))
refused net problem n due after (CutA true u) NodeNotAllowed g at = absurd (let e = g.1.1 in cc)
refused net problem n due after (CutA true u) TreeEndsEarly g at = absurd g.1
refused net problem n due after (CutA true u) WrongShape g at = inl (refl, refl, λ x h. let f = g.0 in f (h refl ∙ sym (rows_of_a net problem)))
refused net problem n due after (CutB true u) BadLeaf g at = inr (tt, (λ e. g.0 ∙ rows_of_b net problem), inl (refl, refl, λ x h. let f = g.1.0.fails in f h))
refused net problem n due after (CutB true u) NodeNotAllowed g at = absurd (let e = g.1.1 in cc)
refused net problem n due after (CutB true u) TreeEndsEarly g at = absurd g.1
refused net problem n due after (CutB true u) WrongShape g at = inl (refl, refl, λ x h. let f = g.0 in f (h refl ∙ sym (rows_of_b net problem)))
refused net problem n due after node fault g at = absurd g

-- ---- steps

-- what is said of the node of these forms is said of the node that is due at a prefix
as_leaf : (P : Course Node → Type 0) (version count species shared : ℕ) (table : List (List ℤ)) (p : Problem) (n : ℕ) → p.count_a ≡ count → p.count_b ≡ species → length table ≡ shared
    → P (asks_node version n (node_forms version count species shared) >>= (λ r. Give (node_of table r))) → P (asks_leaf version table p n)
as_leaf P version count species shared table p n a b k h =
    subst (λ (i : ℕ). P (asks_node version n (node_forms version i p.count_b (length table)) >>= (λ r. Give (node_of table r)))) (sym a)
    (subst (λ (i : ℕ). P (asks_node version n (node_forms version count i (length table)) >>= (λ r. Give (node_of table r)))) (sym b)
    (subst (λ (i : ℕ). P (asks_node version n (node_forms version count species i) >>= (λ r. Give (node_of table r)))) (sym k) h))

node_is_read : (e : Expect) (version count species shared : ℕ) (table : List (List ℤ)) (p : Problem) (n m : ℕ) (r : Record) (old mid : KeptLines) (left after : Option (List ℕ))
    → ExpectsNode e version count species shared → p.count_a ≡ count → p.count_b ≡ species → length table ≡ shared → StepGives (asks_node_for e n) r n m old mid left after
    → StepGives (asks_leaf version table p n) (node_of table r) n m old mid left after
unfolding Gives
node_is_read e version count species shared table p n m r old mid left after x a b k s =
    as_leaf (λ c. StepGives c (node_of table r) n m old mid left after) version count species shared table p n a b k
    (step_then (asks_node version n (node_forms version count species shared)) (λ r. Give (node_of table r)) r (node_of table r) n m m old mid mid left after after
    (as_node (λ c. StepGives c r n m old mid left after) e version n count species shared x s)
    (tests_give (Give (node_of table r)) (node_of table r) m mid after (λ at. (refl, refl))))

-- a node that was read and passes its test
pub node_read : (e : Expect) (version count species shared : ℕ) (table : List (List ℤ)) (p : Problem) (prefix : List Sign) (n m : ℕ) (r : Record) (old mid : KeptLines) (left after : Option (List ℕ))
    → ExpectsNode e version count species shared → p.count_a ≡ count → p.count_b ≡ species → length table ≡ shared → StepGives (asks_node_for e n) r n m old mid left after
    → ((at : Place) → Gives (node_test p prefix n (node_of table r)) at tt at)
    → StepGives (asks_one version table p prefix n) (node_of table r) n m old mid left after
unfolding Gives
node_read e version count species shared table p prefix n m r old mid left after x a b k s t =
    let node = node_of table r in
    let leaf = node_is_read e version count species shared table p n m r old mid left after x a b k s in
    step_then (asks_leaf version table p n) (λ node. node_test p prefix n node >>= (λ x. Give node)) node node n m m old mid mid left after after leaf
    (tests_give (node_test p prefix n node >>= (λ x. Give node)) node m mid after (λ at. gives_then (node_test p prefix n node) (λ x. Give node) at at at tt node (t at) (refl, refl)))

-- and one that was read and fails it
pub node_fails : (e : Expect) (version count species shared : ℕ) (table : List (List ℤ)) (p : Problem) (prefix : List Sign) (n m line code : ℕ) (r : Record) (old : KeptLines) (mid : Reading) (left after : Option (List ℕ))
    → ExpectsNode e version count species shared → p.count_a ≡ count → p.count_b ≡ species → length table ≡ shared → StepGives (asks_node_for e n) r n m old mid.lines left after → CanRead mid
    → ((at : Place) → FailsFirst (node_test p prefix n (node_of table r)) at line code)
    → StepFails (asks_one version table p prefix n) n old left after line code
node_fails e version count species shared table p prefix n m line code r old mid left after x a b k s can t =
    let node = node_of table r in
    let leaf = node_is_read e version count species shared table p n m r old mid.lines left after x a b k s in
    step_fails_then (asks_leaf version table p n) (λ node. node_test p prefix n node >>= (λ x. Give node)) node n m line code old mid.lines left after after leaf
    (tests_fail (node_test p prefix n node >>= (λ x. Give node)) m line code mid after can (λ at. fails_before (node_test p prefix n node) (λ x. Give node) at line code (t at)))

-- what stops the line of a node stops the node
pub node_stops : (e : Expect) (version count species shared : ℕ) (table : List (List ℤ)) (p : Problem) (prefix : List Sign) (n : ℕ) (stop : CheckStop) (old : Reading) (before now : SourceSeen)
    → ExpectsNode e version count species shared → p.count_a ≡ count → p.count_b ≡ species → length table ≡ shared → StopIs (asks_node_for e n) stop old before now → StopIs (asks_one version table p prefix n) stop old before now
node_stops e version count species shared table p prefix n stop old before now x a b k s =
    stop_first (asks_leaf version table p n) (λ node. node_test p prefix n node >>= (λ x. Give node)) stop old before now
    (as_leaf (λ c. StopIs c stop old before now) version count species shared table p n a b k (stop_first (asks_node version n (node_forms version count species shared)) (λ r. Give (node_of table r)) stop old before now (as_node (λ c. StopIs c stop old before now) e version n count species shared x s)))
