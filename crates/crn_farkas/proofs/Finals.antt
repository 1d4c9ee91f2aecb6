-- From the parts of a decision to what it says.
use Rattle.crn_farkas.proofs.Prelude.{◌≡◌, ◌≢◌, ℕ, zero, suc, ◌+◌, ◌-◌, ◌<◌, ◌≤◌, ◌↔◌, inl, inr, List, [], ◌∷◌, length, get_or, take, refl, sym, ap, subst, ◌∙◌, arith, replicate, ℤ, pos, unsigned_abs, Result, Ok, Err, MatchResult, ints, get_or-drop, get_or-replicate, length-replicate, MAX_SIGNED, Kind, Free, Mat, entry, IsIn, width, IsNamedRow, HasKind, MayTake, kind_at, HasOneRowCut, signed_count, HasSigned, lt_or, past_end, zip_from, kind_from, take_zero, dot-zero, AllZero, Stop, Wide, NoMemory, Decision, HasKeptCut, IsNearStop, IsRuledOut, IsSmallSolution, IsDecision, IsTargetStop, IsStop, IsPartSum, AreZeros, IsGoalStop}
use Rattle.crn_farkas.proofs.PartSums.{part_bound}

-- a list filled with zeros
pub all_zeros : (n : ℕ) (v : List ℤ) → v ≡ replicate n (pos 0) → AreZeros n v
all_zeros n v e = subst (λ (l : List ℤ). AreZeros n l) (sym e) (record {
  long = length-replicate n (pos 0);
  zero = λ k. elim (lt_or k n) as (λ _. entry (replicate n (pos 0)) k ≡ pos 0) [
    | inl lt ↦ get_or-replicate n k (pos 0) (pos 0) lt
    | inr le ↦ past_end (replicate n (pos 0)) k (omega (arith, le, length-replicate n (pos 0)))
  ];
})

zero_take : (n : ℕ) (v : List ℤ) → ((j : ℕ) → entry v j ≡ pos 0) → AllZero (take n v)
zero_take zero v h = tt
zero_take (suc n) [] h = tt
zero_take (suc n) (x ∷ v) h = (h 0, zero_take n v (λ j. h (suc j)))

pub part_none : (a : Mat) (kinds : List Kind) (v : List ℤ) → length kinds ≡ width a → AreZeros (length kinds) v → IsPartSum a kinds 0 v
part_none a kinds v long z = record {
  space = record { long = z.long ∙ long; is = λ i lt. z.zero (a.cols + i) ∙ sym (dot-zero (get_or a.rows i []) (take a.cols v) (zero_take a.cols v z.zero)) };
  takes = λ k. subst (λ (x : ℤ). MayTake (kind_at kinds k) x) (sym (z.zero k)) (take_zero (kind_at kinds k));
  some = λ k lt s. absurd (omega (arith, lt));
  small = λ k. let e : unsigned_abs (entry v k) ≡ 0 = ap unsigned_abs (z.zero k) in omega (arith, e);
}

pub solution_from : (a : Mat) (kinds : List Kind) (v x : List ℤ) → length kinds ≡ width a → signed_count kinds ≤ MAX_SIGNED → IsPartSum a kinds (length kinds) v → x ≡ take a.cols v → IsSmallSolution a kinds x
solution_from a kinds v x long few p e = record {
  v = v;
  solves = record {
    space = p.space;
    columns = sym e;
    each = zip_from HasKind Free (pos 0) kinds v (p.space.long ∙ sym long) (λ k lt. kind_from (kind_at kinds k) (entry v k) (p.takes k) (p.some k lt));
  };
  small = λ k. omega (arith, part_bound a kinds (length kinds) v p few k);
}

-- ---- what stops a decision

-- if the basis is the columns, it names one row that rules the system out
pub one_row_kept : (a : Mat) (basis : List ℕ) (kinds : List Kind) → ((k : ℕ) → IsIn k basis ↔ (k < a.cols)) → HasOneRowCut a kinds → HasKeptCut a basis kinds
one_row_kept a basis kinds law h =
    let n = a.cols in
    let w = h.cut.0 in
    let cut = h.cut.1 in
    let at : (k : ℕ) → entry w (n + k) ≡ entry h.u k = λ k. sym (get_or-drop n w k (pos 0)) ∙ ap (λ (l : List ℤ). entry l k) cut.rows in
    let own : entry h.u h.i ≢ pos 0 = elim h.single.unit as (λ _. entry h.u h.i ≢ pos 0) [ inl e ↦ λ f. omega (arith, ints, e, f) | inr e ↦ λ f. omega (arith, ints, e, f) ] in
    let some : entry w (n + h.i) ≢ pos 0 = λ f. own (sym (at h.i) ∙ f) in
    let inside : n + h.i < width a = elim (lt_or (n + h.i) (length w)) as (λ _. n + h.i < width a) [
      | inl lt ↦ omega (arith, lt, cut.space.long)
      | inr le ↦ absurd (some (past_end w (n + h.i) le))
    ] in
    let named : IsNamedRow a basis (n + h.i) w = record {
      inside = inside;
      outside = λ i. let lt : n + h.i < n = (law (n + h.i)).0 i in omega (arith, lt);
      space = cut.space;
      zero_outside = λ k out ne. elim (lt_or k n) as (λ _. entry w k ≡ pos 0) [
        | inl lt ↦ absurd (out ((law k).1 lt))
        | inr le ↦
            let j = k - n in
            let e : n + j ≡ k = omega (arith, le) in
            ap (λ (m : ℕ). entry w m) (sym e) ∙ at j ∙ h.single.others j (λ f. ne (sym e ∙ ap (λ (m : ℕ). n + m) f))
      ];
    } in
    record { e = n + h.i; w = w; named = named; rules = (w, record { space = cut.space; rows = refl; each = cut.each; some = cut.some }) }

-- what a new solver says
pub decision_from : (a : Mat) (kinds : List Kind) (r : Result Decision Stop) → MatchResult r (λ (d : Decision). IsDecision a kinds d) (λ (s : Stop). IsTargetStop a kinds s) → (HasOneRowCut a kinds → IsRuledOut r)
    → MatchResult r (λ (d : Decision). IsDecision a kinds d) (λ (s : Stop). IsStop a kinds s)
decision_from a kinds (Ok d) h k = h
decision_from a kinds (Err (Wide index numbers)) h k = (h.0, h.1, k)
decision_from a kinds (Err NoMemory) h k = tt

-- what stops a target
pub target_stop : (a : Mat) (basis : List ℕ) (kinds : List Kind) (s : Stop) → HasSigned kinds → IsGoalStop a basis s → IsTargetStop a kinds s
target_stop a basis kinds (Wide index numbers) some h = (h.0, some)
target_stop a basis kinds NoMemory some h = tt

pub near_stop : (a : Mat) (basis : List ℕ) (s : Stop) → IsGoalStop a basis s → IsNearStop basis s
near_stop a basis (Wide index numbers) h = h.1
near_stop a basis NoMemory h = tt
