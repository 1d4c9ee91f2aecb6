-- The visits of the reactions' problems together say which reaction an answer is spent at.
use Rattle.crn_endo.proofs.Prelude.{◌≡◌, ℕ, zero, suc, ◌+◌, ◌-◌, ◌<◌, ◌≤◌, inl, inr, true, false, List, length, sym, ap, subst, ◌∙◌, arith, false≢true, Sign, Net, IsVisitList, root, are_one, below_or, eq_or, longer_by, lt_or, Yes, No, Wide, Spent, Large, slopes, AreRefuted, AreRefutedWithin, FindWithin, PassTogether, PassingVisitsAreSpent}

-- the visits of the first reactions are one number
refuted_one : (net : Net) (n used used' : ℕ) → AreRefuted net n used → AreRefuted net n used' → used ≡ used'
refuted_one net zero used used' h k = h ∙ sym k
refuted_one net (suc n) used used' h k =
    let same : h.0 ≡ k.0 = refuted_one net n h.0 k.0 h.2 k.2 in
    let lists = are_one (slopes net n) root h.1 k.1 false false h.3 k.3 in
    omega (arith, h.4, k.4, same, ap length lists.visits_are)

-- a reaction before the last, its visits and those before it
record At (net : Net) (m used : ℕ) : Type 0 where
  before : ℕ
  visits : List (List Sign)
  refuted : AreRefuted net m before
  list : IsVisitList (slopes net m) visits false
  within : before + length visits ≤ used

refuted_at : (net : Net) (n m used : ℕ) → m < n → AreRefuted net n used → At net m used
refuted_at net zero m used lt h = absurd (omega (arith, lt))
refuted_at net (suc n) m used lt h = elim (below_or m n lt) [
  | inl less ↦
      let a = refuted_at net n m h.0 less h.2 in
      record { before = a.before; visits = a.visits; refuted = a.refuted; list = a.list; within = omega (arith, a.within, h.4) }
  | inr same ↦ record {
    before = h.0;
    visits = h.1;
    refuted = subst (λ (k : ℕ). AreRefuted net k h.0) (sym same) h.2;
    list = subst (λ (k : ℕ). IsVisitList (slopes net k) h.1 false) (sym same) h.3;
    within = omega (arith, h.4);
  }
]

-- a reaction that is refuted within the budget does not pass it
refuted_passes : (net : Net) (budget n m : ℕ) → m < n → (used : ℕ) → AreRefutedWithin net budget n used → PassTogether net budget m → ⊥
refuted_passes net budget n m lt used h p =
    let a = refuted_at net n m used lt h.refuted in
    let same : p.0 ≡ a.before = refuted_one net m p.0 a.before p.1.refuted a.refuted in
    let longer : budget - p.0 < length a.visits = longer_by (slopes net m) root a.visits false (budget - p.0) a.list p.2 in
    omega (arith, longer, same, a.within, h.within)

-- visits that find something end there
refuted_finds : (net : Net) (budget n m : ℕ) → m < n → (used : ℕ) → AreRefutedWithin net budget n used → FindWithin net budget m → ⊥
refuted_finds net budget n m lt used h f =
    let a = refuted_at net n m used lt h.refuted in
    false≢true ((are_one (slopes net m) root a.visits f.1 false true a.list f.3).found_are)

finds_passes : (net : Net) (budget m : ℕ) → FindWithin net budget m → PassTogether net budget m → ⊥
finds_passes net budget m f p =
    let same : p.0 ≡ f.0 = refuted_one net m p.0 f.0 p.1.refuted f.2.refuted in
    let longer : budget - p.0 < length f.1 = longer_by (slopes net m) root f.1 true (budget - p.0) f.3 p.2 in
    omega (arith, longer, same, f.4)

pub passing_visits_are_spent : PassingVisitsAreSpent
passing_visits_are_spent net budget r (Yes trees) n lt a p = absurd (refuted_passes net budget (length net.reactions) r lt a.licensed.0 a.licensed.1 p)
passing_visits_are_spent net budget r (No reaction slope) n lt a p =
    let m = a.licensed.0 in
    let f = a.licensed.2 in
    elim (lt_or m r) [
      | inl less ↦ absurd (refuted_finds net budget r m less p.0 p.1 f)
      | inr le ↦ elim (eq_or r m) [
        | inl e ↦ absurd (finds_passes net budget m f (subst (PassTogether net budget) e p))
        | inr ne ↦ absurd (refuted_passes net budget m r (omega (arith, le, ne)) f.0 f.2 p)
      ]
    ]
passing_visits_are_spent net budget r (Wide reaction index basis) n lt a p = inl tt
passing_visits_are_spent net budget r (Spent reaction nodes) n lt a p =
    let m = a.licensed.0 in
    let q = a.licensed.3 in
    elim (lt_or m r) [
      | inl less ↦ absurd (refuted_passes net budget r m less p.0 p.1 q)
      | inr le ↦ elim (eq_or r m) [
        | inl e ↦ inr (a.licensed.1.is ∙ ap (λ (k : ℕ). k + 1) (sym e), a.licensed.2)
        | inr ne ↦ absurd (refuted_passes net budget m r (omega (arith, le, ne)) q.0 q.1 p)
      ]
    ]
passing_visits_are_spent net budget r Large n lt a p = inl tt
