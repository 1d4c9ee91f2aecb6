-- The answers of the reactions together.
use Rattle.crn_endo.proofs.Prelude.{◌≡◌, ℕ, ◌+◌, ◌-◌, ◌<◌, ◌≤◌, inl, inr, List, [], ◌∷◌, ◌++◌, length, map, get_or, refl, sym, ap, subst, ◌∙◌, add-one, arith, sum, get_or_append_left, get_or-append_right, length-append, map-append, sum_by_push, MAX_BUDGET, Net, IsNetwork, PassesBudget, all_push, eq_or, IsFrom, Plan, Level, IsValid, AreNarrow, node_count, places, count_places, Endo, Yes, No, Wide, Spent, Large, IsSmallEnough, slopes, AreValidTrees, NamesReaction, slope_basis, trees_formed, AreRefutedWithin, IsEndoAnswer, all_nodes, AreDone, EndsAnswer, IsDecidedAt, Refuted}

nodes_push : (trees : List Plan) (t : Plan) → all_nodes (trees ++ t ∷ []) ≡ all_nodes trees + node_count t
nodes_push trees t = ap sum (map-append node_count trees (t ∷ [])) ∙ sum_by_push (λ (n : ℕ). n) (map node_count trees) (node_count t)

-- one reaction more
pub one_done : (net : Net) (budget r left left' : ℕ) (trees : List Plan) (t : Plan) → AreDone net budget r left trees → IsDecidedAt net r left budget (Refuted t) → left' ≡ left - node_count t
    → AreDone net budget (r + 1) left' (trees ++ t ∷ [])
one_done net budget r left left' trees t d h e = record {
  count = omega (arith, d.count, length-append trees (t ∷ []));
  valid = valid;
  narrow = all_push AreNarrow trees t d.narrow h.0.narrow;
  refuted = rw add-one (all_nodes trees, places [] t, d.refuted, h.1, nodes_push trees t ∙ ap (λ (k : ℕ). all_nodes trees + k) (sym (count_places [] t)));
  within = omega (arith, d.within, nodes_push trees t, e, h.2);
}
  where
    valid : (m : ℕ) → m < r + 1 → IsValid (slopes net m) [] (get_or (trees ++ t ∷ []) m Level)
    valid m lt = elim (eq_or m r) [
      | inl same ↦
          let here : get_or (trees ++ t ∷ []) m Level ≡ t =
          get_or-append_right trees (t ∷ []) r m Level d.count (omega (arith, same)) ∙ ap (λ (k : ℕ). get_or (t ∷ []) k Level) (let z : m - r ≡ 0 = omega (arith, same) in z) in
          subst (IsValid (slopes net m) []) (sym here) (subst (λ (k : ℕ). IsValid (slopes net k) [] t) (sym same) h.0.valid)
      | inr other ↦
          let less : m < r = omega (arith, lt, other) in
          subst (IsValid (slopes net m) []) (sym (get_or_append_left trees (t ∷ []) Level m (omega (arith, less, d.count)))) (d.valid m less)
    ]

within_budget : (net : Net) (budget r left : ℕ) (trees : List Plan) → AreDone net budget r left trees → AreRefutedWithin net budget r (all_nodes trees)
within_budget net budget r left trees d = record { refuted = d.refuted; within = omega (arith, d.within) }

from_one : (net : Net) (number r : ℕ) → NamesReaction net number r → IsFrom 1 (length net.reactions) number
from_one net number r h = (omega (arith, h.is), omega (arith, h.is, h.inside))

-- the answer that a reaction gives
pub ended_is : (net : Net) (budget r left : ℕ) (trees : List Plan) (answer : Endo) → IsNetwork net → 1 ≤ budget → budget ≤ MAX_BUDGET → IsSmallEnough net → AreDone net budget r left trees → EndsAnswer net r left budget answer → IsEndoAnswer net budget answer
ended_is net budget r left trees (Yes more) n low high small d e = absurd e
ended_is net budget r left trees (No reaction slope) n low high small d e = record {
  formed = (from_one net reaction r e.0, record { long = e.1.long; each = e.2 });
  valid = (r, e.0, e.1);
  sized = small;
  licensed = (r, e.0, (all_nodes trees, e.3, within_budget net budget r left trees d, e.4, omega (arith, d.within, e.5)));
}
ended_is net budget r left trees (Wide reaction index basis) n low high small d e = record {
  formed = (from_one net reaction r e.0, slope_basis net n r index basis.list e.0.inside e.1);
  valid = tt;
  sized = small;
  licensed = (r, e.0, all_nodes trees, within_budget net budget r left trees d, e.1);
}
ended_is net budget r left trees (Spent reaction nodes) n low high small d e = record {
  formed = (from_one net reaction r e.0, (omega (arith, low, e.1), omega (arith, high, e.1)));
  valid = tt;
  sized = small;
  licensed = (r, e.0, e.1, (all_nodes trees, within_budget net budget r left trees d, subst (PassesBudget (slopes net r)) (let same : left ≡ budget - all_nodes trees = omega (arith, d.within) in same) e.2));
}
ended_is net budget r left trees Large n low high small d e = absurd e

-- the answer that trees for all reactions give
pub all_done : (net : Net) (budget left : ℕ) (trees : List Plan) → IsNetwork net → IsSmallEnough net → AreDone net budget (length net.reactions) left trees → IsEndoAnswer net budget (Yes trees)
all_done net budget left trees n small d =
    let valid : AreValidTrees net trees = record { count = d.count; each = d.valid } in
    record {
      formed = (small, trees_formed net n trees valid d.narrow);
      valid = (small, valid);
      sized = small;
      licensed = (all_nodes trees, within_budget net budget (length net.reactions) left trees d, refl);
    }

pub large_is : (net : Net) (budget : ℕ) → (IsSmallEnough net → ⊥) → IsEndoAnswer net budget Large
large_is net budget h = record { formed = tt; valid = tt; sized = h; licensed = tt }
