-- The trees that follow the records below a head.
use Rattle.crn_document.proofs.Prelude.{◌≡◌, ◌∙◌, ℕ, zero, suc, Bool, true, false, List, [], ◌∷◌, refl, sym, subst, inl, inr, Ok, Result, Question, number, ℤ, SourceSeen, Q4, Q13, Q14, Q15, on, Problem, asks_tree, asks_trees, has_tree, Known, is_yes, problems_by, signal_problems, asked, AsksForTree, IsBuilt, tree_place, Reading, CheckStop, StepIs, StopIs, StepGives, step_gives, step_map, step_then_is, stop_first, asked_number}

no_signals : (known : Known) (place : ℕ) → (place ≡ 2 → ⊥) → problems_by Q13 known place ≡ []
no_signals known (suc (suc zero)) other = absurd (other refl)
no_signals known place other = refl

no_plain : (known : Known) (place : ℕ) → (place ≡ 1 → ⊥) → problems_by Q14 known place ≡ []
no_plain known (suc zero) other = absurd (other refl)
no_plain known place other = refl

no_strong : (known : Known) (place : ℕ) → (place ≡ 1 → ⊥) → problems_by Q15 known place ≡ []
no_strong known (suc zero) other = absurd (other refl)
no_strong known place other = refl

-- no tree follows a head unless its verdict is one that trees show
by_question : (q : Question) (known : Known) (place : ℕ) → (AsksForTree (number q) → place ≡ tree_place (number q) → ⊥) → problems_by q known place ≡ []
by_question Q13 known place other = no_signals known place (other (inl refl))
by_question Q14 known place other = no_plain known place (other (inr (inl refl)))
by_question Q15 known place other = no_strong known place (other (inr (inr refl)))
by_question q known place other = refl

pub no_tree_below : (n : ℕ) → IsBuilt n → (known : Known) (place : ℕ) → (AsksForTree n → place ≡ tree_place n → ⊥) → problems_by (asked n) known place ≡ []
no_tree_below n i known place other = by_question (asked n) known place (subst (λ (m : ℕ). AsksForTree m → place ≡ tree_place m → ⊥) (sym (asked_number n i)) other)

some_signals : (known : Known) (weak : Bool) → has_tree (signal_problems known weak) ≡ true
some_signals known true = refl
some_signals known false = refl

-- one follows such a head
pub tree_below : (n : ℕ) → AsksForTree n → (known : Known) → has_tree (problems_by (asked n) known (tree_place n)) ≡ true
tree_below n (inl e) known = subst (λ (m : ℕ). has_tree (problems_by (asked m) known (tree_place m)) ≡ true) (sym e) (some_signals known (is_yes (on known.earlier Q4)))
tree_below n (inr (inl e)) known = subst (λ (m : ℕ). has_tree (problems_by (asked m) known (tree_place m)) ≡ true) (sym e) refl
tree_below n (inr (inr e)) known = subst (λ (m : ℕ). has_tree (problems_by (asked m) known (tree_place m)) ≡ true) (sym e) refl

-- a question that trees answer and that is neither of the first two is the last
pub other_question : (n : ℕ) → AsksForTree n → (n ≡ 13 → ⊥) → (n ≡ 14 → ⊥) → n ≡ 15
other_question n (inl e) first other = absurd (first e)
other_question n (inr (inl e)) first other = absurd (other e)
other_question n (inr (inr e)) first other = e

-- no trees
pub trees_none : (version : ℕ) (table : List (List ℤ)) (ps : List {1} Problem) (at : Reading) (seen : SourceSeen) → ps ≡ [] → StepIs (asks_trees version table ps at.line) (λ (t : Unit {0}) line. line ≡ at.line) (Ok tt) at at seen seen
unfolding asks_trees
trees_none version table ps at seen e =
    subst (λ (qs : List {1} Problem). StepIs (asks_trees version table qs at.line) (λ (t : Unit {0}) line. line ≡ at.line) (Ok tt) at at seen seen) (sym e)
    (step_gives at.line (λ (t : Unit {0}) (line : ℕ). line ≡ at.line) tt at seen refl)

-- one tree
pub trees_one : {T : Type 0} (version n : ℕ) (table : List (List ℤ)) (p : Problem) (ps : List {1} Problem) (Says : T → ℕ → Type 0) (result : Result T CheckStop) (old new : Reading) (before now : SourceSeen)
    → ps ≡ p ∷ [] → StepIs (asks_tree version table p p.choices [] n) Says result old new before now → StepIs (asks_trees version table ps n) Says result old new before now
unfolding asks_trees
trees_one version n table p ps Says result old new before now e s =
    subst (λ (qs : List {1} Problem). StepIs (asks_trees version table qs n) Says result old new before now) (sym e)
    (step_map (asks_tree version table p p.choices [] n) (λ m. m) Says Says result old new before now (λ t y h. h) s)

-- one tree, and then another
pub trees_two : {T : Type 0} (version n : ℕ) (table : List (List ℤ)) (p q : Problem) (ps : List {1} Problem) (m : ℕ) (Says : T → ℕ → Type 0) (result : Result T CheckStop) (old mid new : Reading) (before between now : SourceSeen)
    → ps ≡ p ∷ q ∷ [] → StepGives (asks_tree version table p p.choices [] n) m old.line mid.line old.lines mid.lines before.left between.left → between.faults ≡ before.faults
    → StepIs (asks_tree version table q q.choices [] m) Says result mid new between now → StepIs (asks_trees version table ps n) Says result old new before now
unfolding asks_trees
trees_two version n table p q ps m Says result old mid new before between now e first same second =
    subst (λ (qs : List {1} Problem). StepIs (asks_trees version table qs n) Says result old new before now) (sym e)
    (step_then_is (asks_tree version table p p.choices [] n) (λ k. asks_trees version table (q ∷ []) k) m Says result old mid new before between now first same
    (trees_one version m table q (q ∷ []) Says result mid new between now refl second))

-- what stops the first tree stops all
pub trees_stop : (version n : ℕ) (table : List (List ℤ)) (p : Problem) (rest ps : List {1} Problem) (e : CheckStop) (old : Reading) (before now : SourceSeen)
    → ps ≡ p ∷ rest → StopIs (asks_tree version table p p.choices [] n) e old before now → StopIs (asks_trees version table ps n) e old before now
unfolding asks_trees
trees_stop version n table p rest ps e old before now is s =
    subst (λ (qs : List {1} Problem). StopIs (asks_trees version table qs n) e old before now) (sym is)
    (stop_first (asks_tree version table p p.choices [] n) (λ k. asks_trees version table rest k) e old before now s)
