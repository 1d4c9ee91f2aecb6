-- At first, row i of a tableau is (-A_i, e_i).
use Rattle.crn_tab.proofs.Prelude.{◌≡◌, ℕ, ◌+◌, ◌<◌, ◌⊎◌, inl, inr, List, [], length, get_or, sym, ap, ◌∙◌, arith, nat_eq, range_with_len, ℤ, pos, neg_ℤ, ◌↔◌, length-range_with_len, get_or-range_with_len, Mat, entry, AreOfLength, IsIn, width, IsNamed, lt_or, past_end, eq_or, row_count, IsIdentity, start_row, first_entry, choose, slot_entry, spread}
use Rattle.crn_tab.proofs.Places.{lt_true, lt_false, eq_true, eq_false, slot_basic, slot_own, slot_none, length-spread, entry-spread}
use Rattle.crn_tab.proofs.Bases.{spread_primitive}
use Rattle.crn_tab.proofs.FirstRows.{identity_placed, length-start_row, start_entry, start_last, first_dual, one_primitive}
use Rattle.crn_tab.proofs.OneVector.{one_vector}

identity_list : (m : ℕ) → IsIdentity m (range_with_len 0 m)
identity_list m = record { long = length-range_with_len 0 m; is = λ k lt. omega (arith, get_or-range_with_len 0 m k 0 lt) }

entry_is : (a : Mat) (i k : ℕ) → length (get_or a.rows i []) ≡ a.cols → slot_entry a.cols i (start_row (get_or a.rows i [])) k ≡ first_entry a i k
entry_is a i k long =
    let n = a.cols in
    let r = get_or a.rows i [] in
    let F : ℤ = choose (nat_eq k (n + i)) (pos 1) (pos 0) in
    elim (lt_or k n) as (λ _. slot_entry n i (start_row r) k ≡ first_entry a i k) [
      | inl lt ↦ slot_basic n i (start_row r) k lt ∙ start_entry r k (omega (arith, long)) ∙ sym (ap (λ b. choose b (neg_ℤ (entry r k)) F) (lt_true k n lt))
      | inr le ↦ elim (eq_or k (n + i)) as (λ _. slot_entry n i (start_row r) k ≡ first_entry a i k) [
        | inl e ↦ slot_own n i (start_row r) k e ∙ ap (λ j. entry (start_row r) j) (sym long) ∙ start_last r
            ∙ sym (ap (λ b. choose b (neg_ℤ (entry r k)) F) (lt_false k n le) ∙ ap (λ b. choose b (pos 1) (pos 0)) (eq_true k (n + i) e))
        | inr ne ↦ slot_none n i (start_row r) k le ne
            ∙ sym (ap (λ b. choose b (neg_ℤ (entry r k)) F) (lt_false k n le) ∙ ap (λ b. choose b (pos 1) (pos 0)) (eq_false k (n + i) ne))
      ]
    ]

pub first_named : (a : Mat) (basis : List ℕ) (i : ℕ) (v : List ℤ) → AreOfLength a.cols a.rows → ((k : ℕ) → IsIn k basis ↔ (k < a.cols)) → i < length a.rows → IsNamed a basis (a.cols + i) v
    → ((k : ℕ) → k < width a → entry v k ≡ first_entry a i k) ⊎ ((k : ℕ) → k < width a → entry v k ≡ neg_ℤ (first_entry a i k))
first_named a basis i v wide columns lt named =
    let n = a.cols in
    let r = get_or a.rows i [] in
    let row = start_row r in
    let at = range_with_len 0 (width a) in
    let id = identity_list (width a) in
    let r_long : length r ≡ n = row_count n a.rows i wide lt in
    let w = spread n i row at in
    let in_at : (k : ℕ) → k < width a → entry w k ≡ slot_entry n i row k = λ k k_lt. entry-spread n i row at k (omega (arith, id.long)) ∙ ap (slot_entry n i row) (id.is k k_lt) in
    let last : entry row n ≡ pos 1 = ap (λ k. entry row k) (sym r_long) ∙ start_last r in
    let own : IsNamed a basis (n + i) w = record {
      basis_is = named.basis_is;
      primitive = spread_primitive n (width a) at at i row (identity_placed n (width a) at at id id (omega arith)) (omega (arith, lt)) (omega (arith, length-start_row r, r_long)) (one_primitive row n last);
      named = inr (record {
        inside = omega (arith, lt);
        outside = λ m. omega (arith, (columns (n + i)).0 m);
        space = first_dual a at i wide id lt;
        zero_outside = λ k out ne. elim (lt_or k (width a)) as (λ _. entry w k ≡ pos 0) [
          | inl k_lt ↦ elim (lt_or k n) as (λ _. entry w k ≡ pos 0) [
            | inl low ↦ absurd (out ((columns k).1 low))
            | inr high ↦ in_at k k_lt ∙ slot_none n i row k high ne
          ]
          | inr past ↦ past_end w k (omega (arith, length-spread n i row at, id.long))
        ];
      });
    } in
    elim (one_vector a basis (n + i) v w wide named own) as (λ _. ((k : ℕ) → k < width a → entry v k ≡ first_entry a i k) ⊎ ((k : ℕ) → k < width a → entry v k ≡ neg_ℤ (first_entry a i k))) [
      | inl same ↦ inl (λ k k_lt. same k ∙ in_at k k_lt ∙ entry_is a i k r_long)
      | inr negated ↦ inr (λ k k_lt. negated k ∙ ap neg_ℤ (in_at k k_lt ∙ entry_is a i k r_long))
    ]
