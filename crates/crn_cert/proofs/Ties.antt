-- Ties show that the confluence space is a line, or holds only zero.
use Rattle.crn_cert.proofs.Prelude.{◌≡◌, ◌≢◌, ℕ, ◌<◌, ◌≤◌, List, length, sym, ap, subst, ◌∙◌, inl, inr, arith, ℤ, pos, ◌+ℤ◌, ◌-ℤ◌, ◌*ℤ◌, ints, Net, entry, dot, AreProportional, confluence_system, no_zero, assoc, left-comm, mul-sub, eq_or, past_end, lt_or, listed, length-listed, entry-listed, across, dots, dot_zero, ratios_cross, dot_single, zero_times, dot_two, IsTie, tie_at}
use lib.IntN.{*ℤ_comm, *ℤ-zero}

-- ---- sums with one or two places

-- ---- a tie on a vector of the space

-- what a tie makes of the complexes
abbrev tied : Net → List ℕ → ℕ → List ℤ → List ℤ
tied net linkage count tie = listed (length net.complexes) (tie_at net linkage count tie)

-- every row of the confluence system is orthogonal to the vector
abbrev pub IsKept : Net → List ℕ → ℕ → List ℤ → Type 0
IsKept net linkage count g = (length g ≡ length net.complexes) × ((k : ℕ) → entry (dots (confluence_system net linkage count).rows g) k ≡ pos 0)

tie_sum : (net : Net) (linkage : List ℕ) (count : ℕ) (tie g : List ℤ) → IsKept net linkage count g → dot (tied net linkage count tie) g ≡ pos 0
tie_sum net linkage count tie g kept =
    let rows = (confluence_system net linkage count).rows in
    ap (λ (n : ℕ). dot (listed n (tie_at net linkage count tie)) g) (sym kept.0)
    ∙ sym (across tie g rows)
    ∙ dot_zero tie (dots rows g) (λ k. ap (λ (z : ℤ). entry tie k *ℤ z) (kept.1 k) ∙ *ℤ-zero (entry tie k))

tied_entry : (net : Net) (linkage : List ℕ) (count : ℕ) (tie : List ℤ) (c : ℕ) → c < length net.complexes → entry (tied net linkage count tie) c ≡ tie_at net linkage count tie c
tied_entry net linkage count tie c lt = entry-listed (length net.complexes) (tie_at net linkage count tie) c lt

-- past the last complex there is nothing
tied_past : (net : Net) (linkage : List ℕ) (count : ℕ) (tie : List ℤ) (i : ℕ) → length net.complexes ≤ i → entry (tied net linkage count tie) i ≡ pos 0
tied_past net linkage count tie i le = past_end (tied net linkage count tie) i (omega (arith, length-listed (length net.complexes) (tie_at net linkage count tie), le))

-- ---- only zero

pub zero_by_tie : (net : Net) (linkage : List ℕ) (count c : ℕ) (tie g : List ℤ) → c < length net.complexes → IsTie net linkage count (λ d. ⊥) c tie → IsKept net linkage count g → entry g c ≡ pos 0
zero_by_tie net linkage count c tie g lt t kept =
    let v = tied net linkage count tie in
    let others : (i : ℕ) → i ≢ c → entry v i *ℤ entry g i ≡ pos 0 = λ i ne. elim (lt_or i (length net.complexes)) [
      | inl l ↦ zero_times (entry v i) (entry g i) (tied_entry net linkage count tie i l ∙ elim (t.others i l ne) [ inl bad ↦ absurd bad | inr z ↦ z ])
      | inr past ↦ zero_times (entry v i) (entry g i) (tied_past net linkage count tie i past)
    ] in
    no_zero (entry v c) (entry g c) (sym (dot_single v g c others) ∙ tie_sum net linkage count tie g kept) (λ e. t.own (sym (tied_entry net linkage count tie c lt) ∙ e))

-- ---- a line

-- the entries of a vector of the space at c and at the spared complex balance by the tie
balance : (net : Net) (linkage : List ℕ) (count c c0 : ℕ) (tie g : List ℤ) → c < length net.complexes → c0 < length net.complexes → c ≢ c0 → IsTie net linkage count (λ d. d ≡ c0) c tie → IsKept net linkage count g
    → (tie_at net linkage count tie c *ℤ entry g c) +ℤ (tie_at net linkage count tie c0 *ℤ entry g c0) ≡ pos 0
balance net linkage count c c0 tie g lt lt0 ne t kept =
    let v = tied net linkage count tie in
    let others : (i : ℕ) → i ≢ c → i ≢ c0 → entry v i *ℤ entry g i ≡ pos 0 = λ i n n0. elim (lt_or i (length net.complexes)) [
      | inl l ↦ zero_times (entry v i) (entry g i) (tied_entry net linkage count tie i l ∙ elim (t.others i l n) [ inl bad ↦ absurd (n0 bad) | inr z ↦ z ])
      | inr past ↦ zero_times (entry v i) (entry g i) (tied_past net linkage count tie i past)
    ] in
    let sum = sym (dot_two v g c c0 ne others) ∙ tie_sum net linkage count tie g kept in
    let first : entry v c *ℤ entry g c ≡ tie_at net linkage count tie c *ℤ entry g c = ap (λ (z : ℤ). z *ℤ entry g c) (tied_entry net linkage count tie c lt) in
    let second : entry v c0 *ℤ entry g c0 ≡ tie_at net linkage count tie c0 *ℤ entry g c0 = ap (λ (z : ℤ). z *ℤ entry g c0) (tied_entry net linkage count tie c0 lt0) in
    omega (arith, ints, sum, first, second)

-- from t g + u g0 = 0 and t h + u h0 = 0 with t not 0: h g0 = g h0
eliminated : (t u g g0 h h0 : ℤ) → t ≢ pos 0 → (t *ℤ g) +ℤ (u *ℤ g0) ≡ pos 0 → (t *ℤ h) +ℤ (u *ℤ h0) ≡ pos 0 → h *ℤ g0 ≡ g *ℤ h0
eliminated t u g g0 h h0 ne eg eh =
    let a : (t *ℤ h) *ℤ g0 ≡ (pos 0 -ℤ (u *ℤ h0)) *ℤ g0 = ap (λ (z : ℤ). z *ℤ g0) (omega (arith, ints, eh)) in
    let b : (t *ℤ g) *ℤ h0 ≡ (pos 0 -ℤ (u *ℤ g0)) *ℤ h0 = ap (λ (z : ℤ). z *ℤ h0) (omega (arith, ints, eg)) in
    let a' : g0 *ℤ (pos 0 -ℤ (u *ℤ h0)) ≡ (g0 *ℤ pos 0) -ℤ (g0 *ℤ (u *ℤ h0)) = mul-sub g0 (pos 0) (u *ℤ h0) in
    let b' : h0 *ℤ (pos 0 -ℤ (u *ℤ g0)) ≡ (h0 *ℤ pos 0) -ℤ (h0 *ℤ (u *ℤ g0)) = mul-sub h0 (pos 0) (u *ℤ g0) in
    let swap : g0 *ℤ (u *ℤ h0) ≡ h0 *ℤ (u *ℤ g0) = left-comm g0 u h0 ∙ ap (λ (z : ℤ). u *ℤ z) (*ℤ_comm g0 h0) ∙ sym (left-comm h0 u g0) in
    let none : t *ℤ ((h *ℤ g0) -ℤ (g *ℤ h0)) ≡ pos 0 =
    omega (
      arith,
      ints,
      mul-sub t (h *ℤ g0) (g *ℤ h0),
      assoc t h g0,
      assoc t g h0,
      a,
      b,
      *ℤ_comm (pos 0 -ℤ (u *ℤ h0)) g0,
      *ℤ_comm (pos 0 -ℤ (u *ℤ g0)) h0,
      a',
      b',
      swap,
      *ℤ-zero g0,
      *ℤ-zero h0,
    ) in
    omega (arith, ints, no_zero t ((h *ℤ g0) -ℤ (g *ℤ h0)) none ne)

-- a tie for each complex but one
abbrev pub AreTied : Net → List ℕ → ℕ → ℕ → Type 0
AreTied net linkage count c0 = (c : ℕ) → c < length net.complexes → c ≢ c0 → (tie : List ℤ) × IsTie net linkage count (λ d. d ≡ c0) c tie

-- every vector of the space is in one ratio to one that is not zero at the spared complex
to_one : (net : Net) (linkage : List ℕ) (count c0 : ℕ) (g h : List ℤ) → c0 < length net.complexes → AreTied net linkage count c0 → IsKept net linkage count g → IsKept net linkage count h
    → (i : ℕ) → entry h i *ℤ entry g c0 ≡ entry g i *ℤ entry h c0
to_one net linkage count c0 g h lt0 tied_all kg kh i = elim (lt_or i (length net.complexes)) [
  | inr past ↦ zero_times (entry h i) (entry g c0) (past_end h i (omega (arith, kh.0, past))) ∙ sym (zero_times (entry g i) (entry h c0) (past_end g i (omega (arith, kg.0, past))))
  | inl lt ↦ elim (eq_or i c0) [
    | inl e ↦ subst (λ (k : ℕ). entry h k *ℤ entry g c0 ≡ entry g k *ℤ entry h c0) (sym e) (*ℤ_comm (entry h c0) (entry g c0))
    | inr ne ↦
        let t = tied_all i lt ne in
        eliminated (tie_at net linkage count t.0 i) (tie_at net linkage count t.0 c0) (entry g i) (entry g c0) (entry h i) (entry h c0) t.1.own
        (balance net linkage count i c0 t.0 g lt lt0 ne t.1 kg)
        (balance net linkage count i c0 t.0 h lt lt0 ne t.1 kh)
  ]
]

pub one_line : (net : Net) (linkage : List ℕ) (count c0 : ℕ) (g h e : List ℤ) → c0 < length net.complexes → entry g c0 ≢ pos 0 → AreTied net linkage count c0
    → IsKept net linkage count g → IsKept net linkage count h → IsKept net linkage count e → AreProportional h e
one_line net linkage count c0 g h e lt0 some tied_all kg kh ke i k =
    ratios_cross (entry g c0) (entry g i) (entry g k) (entry h i) (entry h k) (entry h c0) (entry e i) (entry e k) (entry e c0) some
    (to_one net linkage count c0 g h lt0 tied_all kg kh i)
    (to_one net linkage count c0 g h lt0 tied_all kg kh k)
    (to_one net linkage count c0 g e lt0 tied_all kg ke i)
    (to_one net linkage count c0 g e lt0 tied_all kg ke k)
