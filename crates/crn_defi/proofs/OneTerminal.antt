-- A linkage class has one terminal strong class, if all its complexes that have one have the same.
use Rattle.crn_defi.proofs.Prelude.{◌≡◌, ◌≢◌, ℕ, zero, suc, ◌+◌, ◌<◌, ◌≤◌, inl, inr, true, false, List, length, get_or, refl, sym, ap, subst, ◌∙◌, arith, cases_Bool, eq_or, is_terminal_in, terminals_of, terminals_yes, terminals_no, AreClassNumbers, IsOfTerminal}
use Rattle.crn_defi.proofs.TerminalCounts.{terminal_passes, Passing, passes_by}

-- the strong class `own` is that of each of the first c complexes that is of linkage class k and of a terminal strong
-- class; it is 0 if there is none
pub record IsOnly (labels exits links : List ℕ) (k c own : ℕ) : Type 0 where
  pub some : own ≢ 0 → (y : ℕ) × (y < length labels) × (get_or labels y 0 ≡ own) × IsOfTerminal labels exits links k y
  pub only : (y : ℕ) → y < c → y < length labels → IsOfTerminal labels exits links k y → get_or labels y 0 ≡ own

pub none_yet : (labels exits links : List ℕ) (k : ℕ) → IsOnly labels exits links k 0 0
none_yet labels exits links k = record {
  some = λ ne. absurd (ne refl);
  only = λ y lt inside t. absurd (omega (arith, lt));
}

pub passed_over : (labels exits links : List ℕ) (k c own : ℕ) → IsOnly labels exits links k c own → (IsOfTerminal labels exits links k c → ⊥) → IsOnly labels exits links k (c + 1) own
passed_over labels exits links k c own h none = record {
  some = h.some;
  only = λ y lt inside t. elim (eq_or y c) as (λ _. get_or labels y 0 ≡ own) [
    | inl e ↦ absurd (none (subst (IsOfTerminal labels exits links k) e t))
    | inr ne ↦ h.only y (omega (arith, lt, ne)) inside t
  ];
}

pub one_more : (labels exits links : List ℕ) (k c own here : ℕ) → AreClassNumbers labels (length exits) → IsOnly labels exits links k c own → (own ≢ 0 → own ≡ here) → c < length labels → here ≡ get_or labels c 0 → IsOfTerminal labels exits links k c
    → IsOnly labels exits links k (c + 1) here
one_more labels exits links k c own here numbers h same lt e t = record {
  some = λ ne. (c, lt, sym e, t);
  only = λ y y_lt inside u. elim (eq_or y c) as (λ _. get_or labels y 0 ≡ here) [
    | inl at ↦ ap (λ (j : ℕ). get_or labels j 0) at ∙ sym e
    | inr ne ↦
        let was = h.only y (omega (arith, y_lt, ne)) inside u in
        was ∙ same (λ z. absurd (omega (arith, (numbers y inside).0, was, z)))
  ];
}

-- ---- the count

no_terminals : (labels exits links : List ℕ) (k n : ℕ) → ((m : ℕ) → 1 ≤ m → m ≤ n → is_terminal_in labels exits links k m ≡ false) → terminals_of labels exits links n k ≡ 0
no_terminals labels exits links k zero none = refl
no_terminals labels exits links k (suc n) none =
    let next : n + 1 ≡ suc n = omega arith in
    let rest = no_terminals labels exits links k n (λ m from most. none m from (omega (arith, most))) in
    let fails : is_terminal_in labels exits links k (n + 1) ≡ false = none (n + 1) (omega arith) (omega arith) in
    subst (λ (i : ℕ). terminals_of labels exits links i k ≡ 0) next (terminals_no labels exits links k n fails ∙ rest)

one_terminal : (labels exits links : List ℕ) (k own n : ℕ) → 1 ≤ own → own ≤ n → is_terminal_in labels exits links k own ≡ true → ((m : ℕ) → 1 ≤ m → m ≤ n → m ≢ own → is_terminal_in labels exits links k m ≡ false)
    → terminals_of labels exits links n k ≡ 1
one_terminal labels exits links k own zero from most is others = absurd (omega (arith, from, most))
one_terminal labels exits links k own (suc n) from most is others =
    let next : n + 1 ≡ suc n = omega arith in
    subst (λ (i : ℕ). terminals_of labels exits links i k ≡ 1) next (elim (eq_or own (n + 1)) as (λ _. terminals_of labels exits links (n + 1) k ≡ 1) [
      | inl e ↦
          let here : is_terminal_in labels exits links k (n + 1) ≡ true = ap (is_terminal_in labels exits links k) (sym e) ∙ is in
          let rest = no_terminals labels exits links k n (λ m m_from m_most. others m m_from (omega (arith, m_most)) (λ f. omega (arith, f, e, m_most))) in
          omega (arith, terminals_yes labels exits links k n here, rest)
      | inr ne ↦
          let here : is_terminal_in labels exits links k (n + 1) ≡ false = others (n + 1) (omega arith) (omega arith) (λ f. ne (sym f)) in
          let rest = one_terminal labels exits links k own n from (omega (arith, most, ne)) is (λ m m_from m_most m_ne. others m m_from (omega (arith, m_most)) m_ne) in
          terminals_no labels exits links k n here ∙ rest
    ])

pub counts_one : (labels exits links : List ℕ) (k c own : ℕ) → AreClassNumbers labels (length exits) → IsOnly labels exits links k c own → length labels ≤ c → own ≢ 0 → terminals_of labels exits links (length exits) k ≡ 1
counts_one labels exits links k c own numbers h end ne =
    let y = h.some ne in
    let label : get_or labels y.0 0 ≡ own = y.2 in
    let bounds = numbers y.0 y.1 in
    let p = is_terminal_in labels exits links k in
    let passes : p own ≡ true = subst (λ (m : ℕ). p m ≡ true) label (terminal_passes labels exits links k y.0 y.1 y.3.0 y.3.1) in
    one_terminal labels exits links k own (length exits) (omega (arith, bounds.0, label)) (omega (arith, bounds.1, label)) passes
    (λ m from most m_ne. elim (cases_Bool (p m)) as (λ _. p m ≡ false) [
      | inl yes' ↦
          let t : Passing labels exits links k m = passes_by labels exits links k m yes' in
          absurd (m_ne (sym t.strong_is ∙ h.only t.c (omega (arith, t.inside, end)) t.inside (t.link_is, t.none)))
      | inr no' ↦ no'
    ])
