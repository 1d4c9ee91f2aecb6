-- Chains of arcs, one arc after another.
use Rattle.crn_graph.proofs.Prelude.{◌≡◌, ℕ, ◌+◌, ◌<◌, List, length, get_or, set, sym, ap, subst, ◌∙◌, inl, inr, arith, get_or-set_other, get_or-set_same, length-set, cases_eq, Arc, arc_at, AreInside, IsNext, IsChained}

pub chained_none : (arcs : List Arc) (first next : List ℕ) → length next ≡ length arcs → ((y : ℕ) → get_or first y 0 ≡ 0) → IsChained arcs 0 first next
chained_none arcs first next l none = record {
  long = l;
  firsts = λ y lt. record { inside = omega (arith, none y); its_own = λ p e. absurd (omega (arith, none y)); others = λ p le less e. absurd (omega arith) };
  nexts = λ p lt. absurd (omega arith);
}

-- the chain of y, if the arc at the limit is not from y
passed : (arcs : List Arc) (y limit chain : ℕ) → IsNext arcs y limit chain → ((arc_at arcs limit).from ≡ y → ⊥) → IsNext arcs y (limit + 1) chain
passed arcs y limit chain h ne = record {
  inside = omega (arith, h.inside);
  its_own = h.its_own;
  others = λ p le less e. elim (cases_eq p limit) [ inl q ↦ ne (subst (λ (k : ℕ). (arc_at arcs k).from ≡ y) q e) | inr q ↦ h.others p le (omega arith) e ];
}

-- the chain that begins with the arc at the limit
begun : (arcs : List Arc) (y limit : ℕ) → (arc_at arcs limit).from ≡ y → IsNext arcs y (limit + 1) (limit + 1)
begun arcs y limit e = record {
  inside = omega arith;
  its_own = λ p q. let at : p ≡ limit = omega arith in subst (λ (k : ℕ). (arc_at arcs k).from ≡ y) (sym at) e;
  others = λ p le less f. absurd (omega arith);
}

pub chained_more : (arcs : List Arc) (limit : ℕ) (first next : List ℕ) → IsChained arcs limit first next → AreInside (length first) arcs → limit < length arcs → (from : ℕ) → from ≡ (arc_at arcs limit).from
    → IsChained arcs (limit + 1) (set first from (limit + 1)) (set next limit (get_or first from 0))
chained_more arcs limit first next h inside lt from e =
    let at : from < length first = omega (arith, inside.from limit lt) in
    let place : limit < length next = omega (arith, h.long) in
    record {
      long = length-set next limit (get_or first from 0) ∙ h.long;
      firsts = λ y ly. elim (cases_eq y from) [
        | inl q ↦ subst (IsNext arcs y (limit + 1)) (sym (ap (λ (k : ℕ). get_or (set first from (limit + 1)) k 0) q ∙ get_or-set_same first from (limit + 1) 0 at)) (begun arcs y limit (sym e ∙ sym q))
        | inr ne ↦ subst (IsNext arcs y (limit + 1)) (sym (get_or-set_other first from y (limit + 1) 0 ne)) (passed arcs y limit (get_or first y 0) (h.firsts y (omega (arith, length-set first from (limit + 1)))) (λ f. ne (sym (e ∙ f))))
      ];
      nexts = λ p lp. elim (cases_eq p limit) [
        | inl q ↦ subst (λ (k : ℕ). IsNext arcs (arc_at arcs k).from k (get_or (set next limit (get_or first from 0)) k 0)) (sym q)
            (subst (λ (y : ℕ). IsNext arcs y limit (get_or (set next limit (get_or first from 0)) limit 0)) e
            (subst (IsNext arcs from limit) (sym (get_or-set_same next limit (get_or first from 0) 0 place)) (h.firsts from at)))
        | inr ne ↦ subst (IsNext arcs (arc_at arcs p).from p) (sym (get_or-set_other next limit p (get_or first from 0) 0 ne)) (h.nexts p (omega arith))
      ];
    }
