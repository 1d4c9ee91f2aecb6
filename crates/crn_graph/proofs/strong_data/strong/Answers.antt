use Rattle.crn_graph.proofs.Prelude.{◌≡◌, ◌<◌, ◌∙◌, ◌-◌, ℕ, suc, List, length, get_or, sym, ap, subst, arith, IsFrom, AreAllExits, GoesOut, zeros_in, of_class, Along, Against, AreInside, AreArcsWithin, AreClassesTo}
use Rattle.crn_graph.proofs.ExitLaws.{exits_from, terminal_from}
use Rattle.crn_graph.proofs.StrongLaws.{AreWithin, inner_returns, back_returns}
use Rattle.crn_graph.proofs.StrongTests.{AreAllStrong, AreLevels, strong_count, strong_labels, strong_numbered, strong_right, from_forest, to_forest, from_trees, to_trees, strong_levels, strong_falls, out_falls, equal_ranks}
use Rattle.crn_graph.proofs.strong_data.strong.Goals as goal

pub ranks-requires-clause-inside : goal.ranks-requires-clause-inside
ranks-requires-clause-inside c =
    let n_is = c.complexes.ensures.count in
    subst (λ (k : ℕ). AreInside k c.in_ok-graph.graph.arcs) (c.in_ok-graph.ensures.complexes ∙ sym n_is) c.in_ok-graph.ensures.inside

pub new-requires-2-clause-returning : goal.new-requires-2-clause-returning
new-requires-2-clause-returning c =
    let net = c.args.net.now in
    let arcs = c.in_ok-graph.graph.arcs in
    let ranks = c.in_ok-rank.rank.items in
    let n = c.complexes.result in
    let n_is = c.complexes.ensures.count in
    let inside : AreInside n arcs = subst (λ (k : ℕ). AreInside k arcs) (c.in_ok-graph.ensures.complexes ∙ sym n_is) c.in_ok-graph.ensures.inside in
    λ inner w.
    inner_returns net arcs inner ranks n (record { along = c.in_ok-graph.ensures.arcs; inside = inside; ranked = c.in_ok-rank.ensures; within = subst (λ (r : List ℕ). AreArcsWithin net Along r inner) c.deref.ensures.value w })

pub new-requires-3-clause-returning : goal.new-requires-3-clause-returning
new-requires-3-clause-returning c =
    let net = c.args.net.now in
    let arcs = c.in_ok-graph.graph.arcs in
    let ranks = c.in_ok-rank.rank.items in
    let n = c.complexes.result in
    let n_is = c.complexes.ensures.count in
    let inside : AreInside n arcs = subst (λ (k : ℕ). AreInside k arcs) (c.in_ok-graph.ensures.complexes ∙ sym n_is) c.in_ok-graph.ensures.inside in
    let outer = c.in_ok-outward.ensures.classes in
    let inner = outer.0 in
    let within : AreWithin net arcs inner ranks n = record {
      along = c.in_ok-graph.ensures.arcs;
      inside = inside;
      ranked = c.in_ok-rank.ensures;
      within = subst (λ (r : List ℕ). AreArcsWithin net Along r inner) c.deref.ensures.value outer.1;
    } in
    λ back w.
    back_returns net arcs inner back ranks n within (subst (λ (r : List ℕ). AreArcsWithin net Against r back) c.deref-2.ensures.value w)

pub find_levels-requires : goal.find_levels-requires
find_levels-requires c =
    let net = c.args.net.now in
    let arcs = c.in_ok-graph.graph.arcs in
    let ranks = c.in_ok-rank.rank.items in
    let n = c.complexes.result in
    let n_is = c.complexes.ensures.count in
    let inside : AreInside n arcs = subst (λ (k : ℕ). AreInside k arcs) (c.in_ok-graph.ensures.complexes ∙ sym n_is) c.in_ok-graph.ensures.inside in
    let outer = c.in_ok-outward.ensures.classes in
    let inner = outer.0 in
    let within : AreWithin net arcs inner ranks n = record {
      along = c.in_ok-graph.ensures.arcs;
      inside = inside;
      ranked = c.in_ok-rank.ensures;
      within = subst (λ (r : List ℕ). AreArcsWithin net Along r inner) c.deref.ensures.value outer.1;
    } in
    let again = c.in_ok-inward.ensures.classes in
    let back = again.0 in
    let s = c.in_ok-outward.outward.search in
    let b = c.in_ok-inward.inward.search in
    let count = c.in_ok-outward.outward.count in
    let others = c.in_ok-inward.inward.count in
    let all : AreAllStrong net arcs inner back ranks s b count others n = record {
      within = within;
      against = subst (λ (r : List ℕ). AreArcsWithin net Against r back) c.deref-2.ensures.value again.1;
      n_is = n_is;
      some = omega (arith, n_is, c.in_ok-graph.ensures.some, c.in_ok-graph.ensures.complexes);
      places = c.in_ok-outward.ensures.long ∙ sym n_is;
      classes = subst (AreClassesTo inner s count) (sym n_is) outer.2;
      places_back = c.in_ok-inward.ensures.long ∙ sym n_is;
      classes_back = subst (AreClassesTo back b others) (sym n_is) again.2;
    } in
    let long : length c.in_ok-level.level.items ≡ count = omega (arith, c.in_ok-level.ensures.len) in
    let size : length ranks ≡ length net.complexes = within.ranked.long ∙ n_is in
    record {
      labels = rw (c.deref-3.ensures.value, c.deref-4.ensures.value, long, size) (strong_labels net arcs inner back ranks s b count others n all);
      ranks = rw c.deref-4.ensures.value (λ y lt. within.ranked.some y (omega (arith, lt, within.ranked.long)));
      even = rw (c.deref-3.ensures.value, c.deref-4.ensures.value) (λ y z ly lz e. equal_ranks net arcs inner back ranks s b count others n all y z (omega (arith, ly, within.ranked.long)) (omega (arith, lz, within.ranked.long)) e);
    }

pub find_exits-requires-clause-labels : goal.find_exits-requires-clause-labels
find_exits-requires-clause-labels c =
    let net = c.args.net.now in
    let arcs = c.in_ok-graph.graph.arcs in
    let ranks = c.in_ok-rank.rank.items in
    let n = c.complexes.result in
    let n_is = c.complexes.ensures.count in
    let inside : AreInside n arcs = subst (λ (k : ℕ). AreInside k arcs) (c.in_ok-graph.ensures.complexes ∙ sym n_is) c.in_ok-graph.ensures.inside in
    let outer = c.in_ok-outward.ensures.classes in
    let inner = outer.0 in
    let within : AreWithin net arcs inner ranks n = record {
      along = c.in_ok-graph.ensures.arcs;
      inside = inside;
      ranked = c.in_ok-rank.ensures;
      within = subst (λ (r : List ℕ). AreArcsWithin net Along r inner) c.deref.ensures.value outer.1;
    } in
    let again = c.in_ok-inward.ensures.classes in
    let back = again.0 in
    let s = c.in_ok-outward.outward.search in
    let b = c.in_ok-inward.inward.search in
    let count = c.in_ok-outward.outward.count in
    let others = c.in_ok-inward.inward.count in
    let all : AreAllStrong net arcs inner back ranks s b count others n = record {
      within = within;
      against = subst (λ (r : List ℕ). AreArcsWithin net Against r back) c.deref-2.ensures.value again.1;
      n_is = n_is;
      some = omega (arith, n_is, c.in_ok-graph.ensures.some, c.in_ok-graph.ensures.complexes);
      places = c.in_ok-outward.ensures.long ∙ sym n_is;
      classes = subst (AreClassesTo inner s count) (sym n_is) outer.2;
      places_back = c.in_ok-inward.ensures.long ∙ sym n_is;
      classes_back = subst (AreClassesTo back b others) (sym n_is) again.2;
    } in
    let long : length c.in_ok-exit.exit.items ≡ count = omega (arith, c.in_ok-exit.ensures.len) in
    rw (c.deref-5.ensures.value, long) (strong_labels net arcs inner back ranks s b count others n all)

pub returns : goal.returns
returns c =
    let net = c.args.net.now in
    let arcs = c.in_ok-graph.graph.arcs in
    let ranks = c.in_ok-rank.rank.items in
    let n = c.complexes.result in
    let n_is = c.complexes.ensures.count in
    let inside : AreInside n arcs = subst (λ (k : ℕ). AreInside k arcs) (c.in_ok-graph.ensures.complexes ∙ sym n_is) c.in_ok-graph.ensures.inside in
    let outer = c.in_ok-outward.ensures.classes in
    let inner = outer.0 in
    let within : AreWithin net arcs inner ranks n = record {
      along = c.in_ok-graph.ensures.arcs;
      inside = inside;
      ranked = c.in_ok-rank.ensures;
      within = subst (λ (r : List ℕ). AreArcsWithin net Along r inner) c.deref.ensures.value outer.1;
    } in
    let again = c.in_ok-inward.ensures.classes in
    let back = again.0 in
    let s = c.in_ok-outward.outward.search in
    let b = c.in_ok-inward.inward.search in
    let count = c.in_ok-outward.outward.count in
    let others = c.in_ok-inward.inward.count in
    let all : AreAllStrong net arcs inner back ranks s b count others n = record {
      within = within;
      against = subst (λ (r : List ℕ). AreArcsWithin net Against r back) c.deref-2.ensures.value again.1;
      n_is = n_is;
      some = omega (arith, n_is, c.in_ok-graph.ensures.some, c.in_ok-graph.ensures.complexes);
      places = c.in_ok-outward.ensures.long ∙ sym n_is;
      classes = subst (AreClassesTo inner s count) (sym n_is) outer.2;
      places_back = c.in_ok-inward.ensures.long ∙ sym n_is;
      classes_back = subst (AreClassesTo back b others) (sym n_is) again.2;
    } in
    let level = c.find_levels.new.level.items in
    let exit = c.find_exits.new.exit.items in
    let levels_long : length level ≡ count = omega (arith, c.in_ok-level.ensures.len, c.find_levels.ensures.long) in
    let long : length exit ≡ count = omega (arith, c.in_ok-exit.ensures.len, c.find_exits.ensures.long) in
    let given : (y : ℕ) → y < length ranks → of_class s.label.items level y ≡ get_or ranks y 0 - 1 =
    subst (λ (r : List ℕ). (y : ℕ) → y < length r → of_class s.label.items level y ≡ get_or r y 0 - 1) c.deref-4.ensures.value
    (subst (λ (l : List ℕ). (y : ℕ) → y < length c.deref-4.result.now → of_class l level y ≡ get_or c.deref-4.result.now y 0 - 1) c.deref-3.ensures.value c.find_levels.ensures.levels) in
    let are : AreLevels n s.label.items ranks level = λ y lt. given y (omega (arith, lt, within.ranked.long)) in
    let exits : AreAllExits net s.label.items exit = subst (λ (l : List ℕ). AreAllExits net l exit) c.deref-5.ensures.value c.find_exits.ensures.exits in
    let some = strong_count net arcs inner back ranks s b count others n all in
    let falls : (k r : ℕ) → GoesOut net s.label.items (suc k) r → (j : ℕ) × (j < length exit) × (get_or level j 0 < get_or level k 0) = λ k r g. rw long (out_falls net arcs inner back ranks s b count others n level all are k r g) in
    let number : IsFrom 1 count (zeros_in exit) = subst (λ (m : ℕ). IsFrom 1 m (zeros_in exit)) long (terminal_from net s.label.items exit level exits falls (omega (arith, long, some.0))) in
    let terminal : zeros_in exit ≡ c.count_zeros-terminal.result = ap zeros_in (sym c.deref-6.ensures.value) ∙ sym c.count_zeros-terminal.ensures in
    let label = c.from_vec.ensures.list in
    let exit_is = c.from_vec-2.ensures.list in
    let from = c.from_vec-3.ensures.list in
    let from_depth = c.from_vec-4.ensures.list in
    let to = c.from_vec-5.ensures.list in
    let to_depth = c.from_vec-6.ensures.list in
    let level_is = c.from_vec-7.ensures.list in
    record {
      count = some;
      labels = rw label (strong_labels net arcs inner back ranks s b count others n all);
      right = rw label (strong_right net arcs inner back ranks s b count others n all);
      numbered = rw label (strong_numbered net arcs inner back ranks s b count others n all);
      from_forest = rw (from, from_depth) (from_forest net arcs inner back ranks s b count others n all);
      from_trees = rw (label, from, from_depth) (from_trees net arcs inner back ranks s b count others n all);
      to_forest = rw (to, to_depth) (to_forest net arcs inner back ranks s b count others n all);
      to_trees = rw (label, to, to_depth) (to_trees net arcs inner back ranks s b count others n all);
      levels = rw level_is (strong_levels net arcs inner back ranks s b count others n level all levels_long are);
      falls = rw (label, level_is) (strong_falls net arcs inner back ranks s b count others n level all are);
      exit_numbers = rw (exit_is, sym long) (exits_from net s.label.items exit exits);
      exits = rw (label, exit_is) exits;
      terminal = rw exit_is terminal;
      terminal_number = subst (IsFrom 1 count) terminal number;
    }
