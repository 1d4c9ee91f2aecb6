-- Exits of classes: a class whose exit is 0 is left by no reaction, and any other by its exit.
use Rattle.crn_check.proofs.Prelude.{◌≡◌, ◌≢◌, inl, inr, ℕ, ◌+◌, ◌-◌, ◌≤◌, List, length, get_or, sym, subst, ◌∙◌, arith, add-one, cases_eq, Net, IsReaction, GoesOut, AreAllExits, DoFinalsHold, DoExitsLeave}

-- a reaction that leaves a class whose exit is 0
pub leaves_final : (net : Net) (labels exits : List ℕ) (r y z : ℕ) → IsReaction net.reactions r y z → get_or labels y 0 ≢ get_or labels z 0 → 1 ≤ get_or labels y 0 → get_or labels y 0 ≤ length exits → get_or exits (get_or labels y 0 - 1) 0 ≡ 0 → DoFinalsHold net labels exits → ⊥
leaves_final net labels exits r y z goes other one few none hold =
    let k = get_or labels y 0 - 1 in
    let from : get_or labels y 0 ≡ k + 1 = omega arith in
    let same : r ≡ r + 1 - 1 = omega arith in
    hold k (r + 1) (omega arith) none (record {
      y = y;
      z = z;
      goes = (omega arith, subst (λ (q : ℕ). IsReaction net.reactions q y z) same goes);
      from = from;
      other = λ e. other (from ∙ sym e);
    })

pub exits_right : (net : Net) (labels exits : List ℕ) → DoFinalsHold net labels exits → DoExitsLeave net labels exits → AreAllExits net labels exits
exits_right net labels exits hold leave k lt = elim (cases_eq (get_or exits k 0) 0) [
  | inl none ↦ inl (none, λ r out. hold k r lt none (subst (λ (j : ℕ). GoesOut net labels j r) (sym (add-one k)) out))
  | inr some ↦ inr (subst (λ (j : ℕ). GoesOut net labels j (get_or exits k 0)) (add-one k) (leave k lt some))
]

pub finals_hold : (net : Net) (labels exits : List ℕ) → AreAllExits net labels exits → DoFinalsHold net labels exits
finals_hold net labels exits all k r lt none out = elim (all k lt) [
  | inl final ↦ final.1 r (subst (λ (j : ℕ). GoesOut net labels j r) (add-one k) out)
  | inr leaves ↦ let one = leaves.goes.0 in absurd (omega (arith, one, none))
]

pub exits_leave : (net : Net) (labels exits : List ℕ) → AreAllExits net labels exits → DoExitsLeave net labels exits
exits_leave net labels exits all k lt some = elim (all k lt) [
  | inl final ↦ absurd (some final.0)
  | inr leaves ↦ subst (λ (j : ℕ). GoesOut net labels j (get_or exits k 0)) (sym (add-one k)) leaves
]
