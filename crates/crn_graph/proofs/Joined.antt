-- Labels and trees over any arcs pass their tests.
use Rattle.crn_graph.proofs.Prelude.{◌≡◌, ℕ, inl, inr, List, length, ◌∙◌, arith, leads_step, Arc, Search, IsTree, DoLeadBack, HangsByArc, AreJoined, Steps, IsReturning, IsPlaced, AreClassesTo}

pub arcs_return : (arcs : List Arc) → DoLeadBack arcs → IsReturning arcs
arcs_return arcs back r y z h = let q = back r y z h in leads_step (Steps arcs) z y (q.0, q.1)

tree_at : (arcs : List Arc) (s : Search) (y : ℕ) → IsPlaced arcs s y → IsTree (HangsByArc arcs s.up.items s.depth.items) s.label.items s.up.items s.depth.items y
tree_at arcs s y (inl root) = inl root
tree_at arcs s y (inr h) = inr (λ first. first h.root h.earlier h.its, record { d = h.d; by_arc = h.by_arc; deeper = h.deeper })

pub joined : (arcs : List Arc) (s : Search) (count nodes : ℕ) → length s.label.items ≡ nodes → AreClassesTo arcs s count nodes → AreJoined arcs nodes count s.label.items s.up.items s.depth.items
joined arcs s count nodes long h = record {
  labels_long = long;
  up_long = h.long.up ∙ long;
  depth_long = h.long.depth ∙ long;
  few = h.few;
  numbered = record {
    positive = λ y lt. h.before y (omega (arith, lt, long));
    numbered = λ y k lt one less. h.numbered y k one less;
    count_is = record {
      most = λ y lt. h.most y;
      each = λ k one most. let f = h.each k one most in (f.0, omega (arith, f.1, long), f.2);
    };
  };
  even = h.even;
  trees = λ y lt. tree_at arcs s y (h.placed y (h.before y lt));
  shallow = λ y lt. let d = h.deep y (h.before y lt) in omega (arith, d, long);
}
