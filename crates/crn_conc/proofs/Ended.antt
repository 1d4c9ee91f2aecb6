-- The answers that the end of a search over a table, or its stop, gives.
use Rattle.crn_conc.proofs.Prelude.{◌≡◌, ℕ, zero, suc, ◌+◌, ◌<◌, ◌≤◌, ◌⊎◌, inl, inr, List, [], ◌∷◌, ◌++◌, Bool, true, false, length, take, refl, sym, ap, subst, ◌∙◌, arith, length-take-le, ℤ, unsigned_abs, Option, Some, None, IfSome, AllByRecursion, MAX_BUDGET, WIDE_SOLUTION, Sign, Kind, KeptInts, KeptNums, Net, IsNetwork, reaction_system, Mat, entry, NamesWide, IsTable, IsDiscordant, concordance, plain_table, strong_table, PassesBudget, root, all_in, longer_by, networks_have_tables, tables_feasible, rows_count, some_species, Answer, Earlier, Question, Q14, Q15, AreFree, IsNarrow, AllHold, Plan, places, IsFormedTree, Fits, tree_tests, IsBasisOf, IsFormed, IsValid, IsAnswer, valid_answers_are_true, tests_decide_valid_trees, wide_basis, count_places, formed_tree, IsSmallSolution, SearchEnd, Found, Refuted, Infeasible, Spent, SearchStop, WideA, WideB, NoMemory, IsSearchEnd, IsOutcome, IsSearchStop, WideName, IsNameOf, IsNamed, IsStopAnswer, end_answer, AreWide, IsTableAnswer, AnswersTable, outcome_of, plain_answer, Wide, Unknown}
use Rattle.crn_conc.proofs.Starts.{start_passes}

-- the question that a table of the network answers
pub data Asks (net : Net) : List (List Sign) → Question → Type 0 where
  plain : Asks net (plain_table net) Q14
  strong : Asks net (strong_table net) Q15

table_fits : {net : Net} {table : List (List Sign)} {q : Question} → IsNetwork net → Asks net table q → IsTable (reaction_system net) table
table_fits {net} n plain = (networks_have_tables net n).plain
table_fits {net} n strong = (networks_have_tables net n).strong

-- ---- solutions as numbers of a certificate

narrow_prefix : (n : ℕ) (v : List ℤ) → ((k : ℕ) → unsigned_abs (entry v k) < WIDE_SOLUTION) → AllByRecursion IsNarrow (take n v)
narrow_prefix zero [] h = tt
narrow_prefix zero (x ∷ v) h = tt
narrow_prefix (suc n) [] h = tt
narrow_prefix (suc n) (x ∷ v) h = (h 0, narrow_prefix n v (λ k. h (suc k)))

pub solution_free : (a : Mat) (kinds : List Kind) (x : List ℤ) → IsSmallSolution a kinds x → AreFree a.cols x
solution_free a kinds x s = subst (AreFree a.cols) s.solves.columns (record {
  long = length-take-le a.cols s.v (omega (arith, s.solves.space.long));
  each = narrow_prefix a.cols s.v s.small;
})

-- ---- the answers

yes_answer : {net : Net} {table : List (List Sign)} {q : Question} → Asks net table q → (budget : ℕ) (earlier : Earlier) (tree : Plan) → IsNetwork net → IsFormedTree (length net.names) (length net.names) (length net.names) [] tree
    → AllHold (tree_tests (Fits (concordance (reaction_system net) table)) 1 [] tree) → IsAnswer net budget earlier q (end_answer budget (Refuted tree))
yes_answer {net} plain budget earlier tree n f t =
    let answer : Answer = end_answer budget (Refuted tree) in
    let formed : IsFormed net earlier Q14 answer = (record { head = tt; rows = tt; trees = (f, tt) }, (refl, refl)) in
    let valid : IsValid net earlier Q14 answer = t in
    record { formed = formed; valid = valid; answered = valid_answers_are_true Q14 net earlier answer n tt tt formed valid }
yes_answer {net} strong budget earlier tree n f t =
    let answer : Answer = end_answer budget (Refuted tree) in
    let formed : IsFormed net earlier Q15 answer = (record { head = tt; rows = tt; trees = (f, tt) }, (refl, refl)) in
    let valid : IsValid net earlier Q15 answer = t in
    record { formed = formed; valid = valid; answered = valid_answers_are_true Q15 net earlier answer n tt tt formed valid }

no_answer : {net : Net} {table : List (List Sign)} {q : Question} → Asks net table q → (budget : ℕ) (earlier : Earlier) (p : List Sign) (a b : KeptInts) → IsNetwork net → AreFree (length net.reactions) a.list → AreFree (length net.reactions) b.list
    → IsDiscordant (reaction_system net) table a.list b.list → IsAnswer net budget earlier q (end_answer budget (Found p a b))
no_answer {net} plain budget earlier p a b n f g d =
    let answer : Answer = end_answer budget (Found p a b) in
    let formed : IsFormed net earlier Q14 answer = (record { head = tt; rows = (f, (g, tt)); trees = tt }, (refl, refl)) in
    let valid : IsValid net earlier Q14 answer = (d, tt) in
    record { formed = formed; valid = valid; answered = d }
no_answer {net} strong budget earlier p a b n f g d =
    let answer : Answer = end_answer budget (Found p a b) in
    let formed : IsFormed net earlier Q15 answer = (record { head = tt; rows = (f, (g, tt)); trees = tt }, (refl, refl)) in
    let valid : IsValid net earlier Q15 answer = (d, tt) in
    record { formed = formed; valid = valid; answered = d }

spent_answer : {net : Net} {table : List (List Sign)} {q : Question} → Asks net table q → (budget : ℕ) (earlier : Earlier) → 1 ≤ budget → budget ≤ MAX_BUDGET → PassesBudget (concordance (reaction_system net) table) budget → IsAnswer net budget earlier q (end_answer budget Spent)
spent_answer plain budget earlier low high p = record { formed = (record { head = ((low, high), tt); rows = tt; trees = tt }, (refl, refl)); valid = tt; answered = (refl, p) }
spent_answer strong budget earlier low high p = record { formed = (record { head = ((low, high), tt); rows = tt; trees = tt }, (refl, refl)); valid = tt; answered = (refl, p) }

open_answer : {net : Net} {table : List (List Sign)} {q : Question} → Asks net table q → (budget : ℕ) (earlier : Earlier) (index : ℕ) (basis : KeptNums) → IsBasisOf (length net.reactions) (length net.names) index basis.list → NamesWide (reaction_system net) index basis.list → IsAnswer net budget earlier q (plain_answer (Unknown (Wide 2 0 index basis)))
open_answer plain budget earlier index basis b w = record { formed = (record { head = ((refl, refl, b), tt); rows = tt; trees = tt }, (refl, refl)); valid = tt; answered = (((refl, refl, b), tt), w) }
open_answer strong budget earlier index basis b w = record { formed = (record { head = ((refl, refl, b), tt); rows = tt; trees = tt }, (refl, refl)); valid = tt; answered = (((refl, refl, b), tt), w) }

-- ---- by the end of the search

spent_table : {net : Net} {table : List (List Sign)} {q : Question} → Asks net table q → (budget : ℕ) → 1 ≤ budget → budget ≤ MAX_BUDGET → PassesBudget (concordance (reaction_system net) table) budget → IsTableAnswer net budget q table (end_answer budget Spent)
spent_table asks budget low high pass = record { is = λ earlier. spent_answer asks budget earlier low high pass; few = tt; visits = tt; spent = λ p. tt }

wide_table : {net : Net} {table : List (List Sign)} {q : Question} → Asks net table q → (budget index : ℕ) (basis : KeptNums) → NamesWide (reaction_system net) index basis.list → IsTableAnswer net budget q table (plain_answer (Unknown (Wide 2 0 index basis)))
wide_table {net} asks budget index basis h =
    let b = wide_basis (reaction_system net) (length net.reactions) (length net.names) index basis.list refl (rows_count net) h in
    record { is = λ earlier. open_answer asks budget earlier index basis b h; few = tt; visits = tt; spent = λ p. tt }

-- a search that ends with a discordance or a tree stays within the budget
ended : {net : Net} {table : List (List Sign)} {q : Question} → Asks net table q → (budget : ℕ) (e : SearchEnd) → IsNetwork net → 1 ≤ budget → budget ≤ MAX_BUDGET
    → IsSearchEnd (concordance (reaction_system net) table) budget e → IsTableAnswer net budget q table (end_answer budget e)
ended {net} {table} asks budget (Found p a b) n low high h =
    let m = reaction_system net in
    let w = concordance m table in
    let s = h.0 in
    let d = (tables_feasible m table (table_fits n asks)).named p a.list b.list s.full s.opened (s.part_a.v, s.part_a.solves) (s.part_b.v, s.part_b.solves) in
    record {
      is = λ earlier. no_answer asks budget earlier p a b n (solution_free m (w.kinds_a p) a.list s.part_a) (solution_free m (w.kinds_b p) b.list s.part_b) d;
      few = tt;
      visits = tt;
      spent = λ pass. absurd (omega (arith, h.3, longer_by w root (h.1 ++ p ∷ []) true budget h.2 pass));
    }
ended {net} {table} asks budget (Refuted tree) n low high h =
    let m = reaction_system net in
    let w = concordance m table in
    let formed = formed_tree w [] tree h.0.valid h.0.narrow in
    let tests = (tests_decide_valid_trees w (length m.rows) (length m.rows) 1 [] tree formed).1 h.0.valid in
    record {
      is = λ earlier. yes_answer asks budget earlier tree n (subst (λ (k : ℕ). IsFormedTree k k k [] tree) (rows_count net) formed) tests;
      few = omega (arith, h.2, count_places [] tree);
      visits = h.1;
      spent = λ pass. absurd (omega (arith, h.2, longer_by w root (places [] tree) false budget h.1 pass));
    }
ended asks budget Infeasible n low high h = absurd h
ended asks budget Spent n low high h = spent_table asks budget low high h

-- and one that stops leaves the question open
stopped : {net : Net} {table : List (List Sign)} {q : Question} → Asks net table q → (budget : ℕ) (s : SearchStop) (answer : Answer) → IsSearchStop (concordance (reaction_system net) table) s → IsStopAnswer s answer → IsTableAnswer net budget q table answer
stopped {net} {table} {q} asks budget (WideA index basis) answer h e = subst (IsTableAnswer net budget q table) (sym e) (wide_table asks budget index basis h)
stopped {net} {table} {q} asks budget (WideB index basis is_first) answer h e = subst (IsTableAnswer net budget q table) (sym e) (wide_table asks budget index basis h)
stopped asks budget NoMemory answer h e = absurd e

-- ---- with a tree or without

-- an answer that holds all serves in both cases
either : {net : Net} {table : List (List Sign)} {q : Question} (keeps : Bool) (budget : ℕ) (answer : Answer) → IsTableAnswer net budget q table answer → AnswersTable keeps net budget q table answer
either true budget answer h = h
either false budget answer h = (answer, refl, h)

-- what is left of an end without its tree gives the same verdict
same_verdict : (budget : ℕ) (e : SearchEnd) → (end_answer budget (outcome_of e)).verdict ≡ (end_answer budget e).verdict
same_verdict budget (Found p a b) = refl
same_verdict budget (Refuted tree) = refl
same_verdict budget Infeasible = refl
same_verdict budget Spent = refl

outcome_answers : {net : Net} {table : List (List Sign)} {q : Question} → Asks net table q → (keeps : Bool) (budget : ℕ) (e : SearchEnd) → IsNetwork net → 1 ≤ budget → budget ≤ MAX_BUDGET
    → IsOutcome (concordance (reaction_system net) table) budget keeps e → AnswersTable keeps net budget q table (end_answer budget e)
outcome_answers asks true budget e n low high h = ended asks budget e n low high h
outcome_answers asks false budget e n low high h = (end_answer budget h.0, ap (λ (x : SearchEnd). (end_answer budget x).verdict) h.1 ∙ same_verdict budget h.0, ended asks budget h.0 n low high h.2)

-- ---- what both searches begin with

name_wide : (m : Mat) (table : List (List Sign)) (s : SearchStop) (name : WideName) → IsSearchStop (concordance m table) s → IsNameOf s name → NamesWide m name.index name.basis.list
name_wide m table (WideA index basis) name h n = subst (λ (i : ℕ). NamesWide m i name.basis.list) (sym n.0) (subst (λ (l : List ℕ). NamesWide m index l) (sym n.1) h)
name_wide m table (WideB index basis is_first) name h n = subst (λ (i : ℕ). NamesWide m i name.basis.list) (sym n.0) (subst (λ (l : List ℕ). NamesWide m index l) (sym n.1) h)
name_wide m table NoMemory name h n = absurd n

-- the wide vector that stopped a search is one of system 2
pub stop_names : (net : Net) (m : Mat) (table : List (List Sign)) (s : SearchStop) (shared : Option WideName) → m ≡ reaction_system net → IsSearchStop (concordance m table) s → IfSome shared (IsNameOf s) → IsNamed net shared
stop_names net m table s None e h n = tt
stop_names net m table s (Some name) e h n = subst (λ (a : Mat). NamesWide a name.index name.basis.list) e (name_wide m table s name h n)

-- the answer that names a wide vector
pub named_by : {net : Net} {asked : List (List Sign)} {q : Question} → Asks net asked q → (keeps : Bool) (budget index : ℕ) (basis : KeptNums) (answer : Answer) → NamesWide (reaction_system net) index basis.list
    → answer ≡ plain_answer (Unknown (Wide 2 0 index basis)) → AnswersTable keeps net budget q asked answer
named_by {net} {asked} {q} asks keeps budget index basis answer h e = either keeps budget answer (subst (IsTableAnswer net budget q asked) (sym e) (wide_table asks budget index basis h))

-- the answer of a search whose budget is spent by the visits that it begins with
pub spent_by : {net : Net} {asked : List (List Sign)} {q : Question} → Asks net asked q → (keeps : Bool) (budget : ℕ) (answer : Answer) → 1 ≤ budget → budget ≤ MAX_BUDGET → answer ≡ end_answer budget Spent
    → PassesBudget (concordance (reaction_system net) asked) budget → AnswersTable keeps net budget q asked answer
spent_by {net} {asked} {q} asks keeps budget answer low high e pass = either keeps budget answer (subst (IsTableAnswer net budget q asked) (sym e) (spent_table asks budget low high pass))

-- ---- by what the code knows

-- a table of the network fits the matrix that is its system 2
pub fits : (net : Net) (m : Mat) (table : List (List Sign)) → IsNetwork net → m ≡ reaction_system net → (table ≡ plain_table net) ⊎ (table ≡ strong_table net) → IsTable m table
fits net m table n e (inl p) = subst (λ (a : Mat). IsTable a table) (sym e) (subst (IsTable (reaction_system net)) (sym p) (networks_have_tables net n).plain)
fits net m table n e (inr p) = subst (λ (a : Mat). IsTable a table) (sym e) (subst (IsTable (reaction_system net)) (sym p) (networks_have_tables net n).strong)

pub rows_wide : (m : Mat) (table : List (List Sign)) → IsTable m table → AreWide (length m.rows) table
rows_wide m table t signs i = all_in (λ (row : List Sign). length row ≡ length m.rows) table signs t.species i

pub end_by : {net : Net} {asked : List (List Sign)} {q : Question} → Asks net asked q → (m : Mat) (table : List (List Sign)) (keeps : Bool) (budget : ℕ) (e : SearchEnd) (answer : Answer) → IsNetwork net → 1 ≤ budget → budget ≤ MAX_BUDGET
    → m ≡ reaction_system net → answer ≡ end_answer budget e → IsOutcome (concordance m table) budget keeps e → table ≡ asked → AnswersTable keeps net budget q asked answer
end_by {net} {asked} {q} asks m table keeps budget e answer n low high me ae h te =
    let at : IsOutcome (concordance (reaction_system net) asked) budget keeps e = subst (λ (t : List (List Sign)). IsOutcome (concordance (reaction_system net) t) budget keeps e) te (subst (λ (a : Mat). IsOutcome (concordance a table) budget keeps e) me h) in
    subst (AnswersTable keeps net budget q asked) (sym ae) (outcome_answers asks keeps budget e n low high at)

pub stop_by : {net : Net} {asked : List (List Sign)} {q : Question} → Asks net asked q → (m : Mat) (table : List (List Sign)) (keeps : Bool) (budget : ℕ) (s : SearchStop) (answer : Answer)
    → m ≡ reaction_system net → IsSearchStop (concordance m table) s → table ≡ asked → IsStopAnswer s answer → AnswersTable keeps net budget q asked answer
stop_by {net} {asked} asks m table keeps budget s answer me h te a =
    let at : IsSearchStop (concordance (reaction_system net) asked) s = subst (λ (t : List (List Sign)). IsSearchStop (concordance (reaction_system net) t) s) te (subst (λ (x : Mat). IsSearchStop (concordance x table) s) me h) in
    either keeps budget answer (stopped asks budget s answer at a)

-- the visits that each search begins with exceed the budget
pub soon_spent : (net : Net) (table : List (List Sign)) (budget : ℕ) → IsNetwork net → (table ≡ plain_table net) ⊎ (table ≡ strong_table net) → budget ≤ length net.names + 1 → PassesBudget (concordance (reaction_system net) table) budget
soon_spent net table budget n is le =
    let few : 1 ≤ length (reaction_system net).rows = omega (arith, some_species net n, rows_count net) in
    start_passes (reaction_system net) table (fits net (reaction_system net) table n refl is) budget few (omega (arith, le, rows_count net))
