-- The tests of the trees of question 13 are those by the shape of the network and of the vector of question 12.
use Rattle.crn_ctree.proofs.Prelude.{◌≡◌, ℕ, ◌+◌, inl, inr, List, [], ◌∷◌, ◌++◌, refl, sym, ap, subst, ◌∙◌, ℤ, Option, ◌↔◌, IsSomeAnd, Sign, Zero, Plus, Minus, Net, reaction_system, Shape, signals, IsShapeOf, shapes_are_one, by_turn, Test, FailsFirst, Plan, Both, Three, RulesA, RulesB, Level, node_count, Said, Fits, tree_tests, IsSignalNode, IsNodeOf, SignalNodesAreOfShape, FirstSignalFaultsAreThoseOfTests, code_at, fault_number}
use Rattle.crn_ctree.proofs.FirstFails.{first_faults}

-- ---- the test of a node

of_shape : (net : Net) (g : List ℤ) (s : Shape) (p : List Sign) (said : Said) → IsShapeOf net g s → IsSignalNode net g p said ↔ Fits (signals s (reaction_system net)) p said
of_shape net g s p said sh = (
  λ h. subst (λ (u : Shape). Fits (signals u (reaction_system net)) p said) (shapes_are_one net g h.0 s h.1 sh) h.2,
  λ f. (s, sh, f),
)

pub signal_nodes : SignalNodesAreOfShape
signal_nodes net earlier turn g s p said known sh =
    subst (λ (o : Option (List ℤ)). IsSomeAnd o (λ v. IsSignalNode net (by_turn turn v) p said) ↔ Fits (signals s (reaction_system net)) p said) (sym known)
    (of_shape net (by_turn turn g) s p said sh)

-- ---- tests that hold together

record AreAlike (t u : Test) : Type 0 where
  holds : t.holds ↔ u.holds
  part : t.part ≡ u.part
  fault : t.fault ≡ u.fault

abbrev Alike : List Test → List Test → Type 0
Alike [] [] = Unit {0}
Alike [] (u ∷ us) = ⊥
Alike (t ∷ ts) [] = ⊥
Alike (t ∷ ts) (u ∷ us) = AreAlike t u × Alike ts us

alike_append : (ts us vs ws : List Test) → Alike ts us → Alike vs ws → Alike (ts ++ vs) (us ++ ws)
alike_append [] [] vs ws h k = k
alike_append [] (u ∷ us) vs ws h k = absurd h
alike_append (t ∷ ts) [] vs ws h k = absurd h
alike_append (t ∷ ts) (u ∷ us) vs ws h k = (h.0, alike_append ts us vs ws h.1 k)

alike_fails : (ts us : List Test) (part code : ℕ) → Alike ts us → FailsFirst ts part code → FailsFirst us part code
alike_fails [] [] part code h f = absurd f
alike_fails [] (u ∷ us) part code h f = absurd h
alike_fails (t ∷ ts) [] part code h f = absurd h
alike_fails (t ∷ ts) (u ∷ us) part code h (inl f) = inl ((λ u_holds. f.0 (h.0.holds.1 u_holds)), sym h.0.part ∙ f.1, ap fault_number (sym h.0.fault) ∙ f.2)
alike_fails (t ∷ ts) (u ∷ us) part code h (inr f) = inr (h.0.holds.0 f.0, alike_fails ts us part code h.1 f.1)

-- tests of nodes that agree give tests of trees that agree
alike_trees : (H K : List Sign → Said → Type 0) → ((p : List Sign) (said : Said) → H p said ↔ K p said) → (part : ℕ) (p : List Sign) (t : Plan) → Alike (tree_tests H part p t) (tree_tests K part p t)
alike_trees H K f part p (Both z q) = (
  record { holds = f p _; part = refl; fault = refl },
  alike_append (tree_tests H (part + 1) (p ++ Zero ∷ []) z) (tree_tests K (part + 1) (p ++ Zero ∷ []) z) (tree_tests H (part + 1 + node_count z) (p ++ Plus ∷ []) q) (tree_tests K (part + 1 + node_count z) (p ++ Plus ∷ []) q)
      (alike_trees H K f (part + 1) (p ++ Zero ∷ []) z) (alike_trees H K f (part + 1 + node_count z) (p ++ Plus ∷ []) q),
)
alike_trees H K f part p (Three z q m) =
    let last = part + 1 + node_count z + node_count q in (
      record { holds = f p _; part = refl; fault = refl },
      alike_append (tree_tests H (part + 1) (p ++ Zero ∷ []) z ++ tree_tests H (part + 1 + node_count z) (p ++ Plus ∷ []) q) (tree_tests K (part + 1) (p ++ Zero ∷ []) z ++ tree_tests K (part + 1 + node_count z) (p ++ Plus ∷ []) q)
          (tree_tests H last (p ++ Minus ∷ []) m) (tree_tests K last (p ++ Minus ∷ []) m)
          (alike_append (tree_tests H (part + 1) (p ++ Zero ∷ []) z) (tree_tests K (part + 1) (p ++ Zero ∷ []) z) (tree_tests H (part + 1 + node_count z) (p ++ Plus ∷ []) q) (tree_tests K (part + 1 + node_count z) (p ++ Plus ∷ []) q)
          (alike_trees H K f (part + 1) (p ++ Zero ∷ []) z) (alike_trees H K f (part + 1 + node_count z) (p ++ Plus ∷ []) q))
          (alike_trees H K f last (p ++ Minus ∷ []) m),
    )
alike_trees H K f part p (RulesA u) = (record { holds = f p _; part = refl; fault = refl }, tt)
alike_trees H K f part p (RulesB u) = (record { holds = f p _; part = refl; fault = refl }, tt)
alike_trees H K f part p Level = (record { holds = f p _; part = refl; fault = refl }, tt)

pub first_signal_faults : FirstSignalFaultsAreThoseOfTests
first_signal_faults net known turn g s ra rb part tree start more node due vector sh formed are passes bad =
    let w = signals s (reaction_system net) in
    alike_fails (tree_tests (Fits w) part [] tree) (tree_tests (IsNodeOf net known turn) part [] tree) _ (code_at node)
    (alike_trees (Fits w) (IsNodeOf net known turn) (λ p said. let h = signal_nodes net known turn g s p said vector sh in (h.1, h.0)) part [] tree)
    (first_faults w ra rb part tree start more node due formed are passes bad)
