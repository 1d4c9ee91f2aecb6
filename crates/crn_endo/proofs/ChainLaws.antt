-- The reactions from each complex one after another, and rises along them.
use Rattle.crn_endo.proofs.Prelude.{◌≡◌, ◌≢◌, ℕ, ◌+◌, ◌<◌, ◌≤◌, inl, inr, List, length, get_or, replicate, refl, sym, ap, subst, ◌∙◌, arith, get_or-replicate, length-replicate, get_or-set_other, get_or-set_same, length-set, set, ◌==◌, not, range_with_len, any_default, at_in, eq_or, filter_from, lt_or, range_bounds, is_reactant, others, reactants, Net, Bits, reaction_at, AreRaised, IsNext, AreChains}

-- no reaction is after the last
next_none : (net : Net) (c : ℕ) → IsNext net c (length net.reactions) (length net.reactions)
next_none net c = record {
  least = omega arith;
  most = omega arith;
  from = λ lt. absurd (omega (arith, lt));
  none = λ k le lt. absurd (omega (arith, le, lt));
}

pub chains_none : (net : Net) (first next : List ℕ) → first ≡ replicate (length net.complexes) (length net.reactions) → next ≡ replicate (length net.reactions) (length net.reactions) → AreChains net (length net.reactions) first next
chains_none net first next a b =
    let n = length net.reactions in
    let long : length next ≡ n = ap (λ (l : List ℕ). length l) b ∙ length-replicate n n in
    let many : length first ≡ length net.complexes = ap (λ (l : List ℕ). length l) a ∙ length-replicate (length net.complexes) n in
    record {
      complexes = many;
      reactions = long;
      begin = λ c lt. subst (IsNext net c n) (sym (ap (λ (l : List ℕ). get_or l c 0) a ∙ get_or-replicate (length net.complexes) c n 0 (omega (arith, lt, many)))) (next_none net c);
      after = λ q le lt. absurd (omega (arith, le, lt, long));
    }

-- a reaction from another complex is passed over
next_past : (net : Net) (c n q : ℕ) → (reaction_at net n).0 ≢ c → IsNext net c (n + 1) q → IsNext net c n q
next_past net c n q ne h = record {
  least = omega (arith, h.least);
  most = h.most;
  from = h.from;
  none = λ k le lt. elim (eq_or k n) as (λ _. (reaction_at net k).0 ≢ c) [
    | inl e ↦ λ y. ne (ap (λ (i : ℕ). (reaction_at net i).0) (sym e) ∙ y)
    | inr other ↦ h.none k (omega (arith, le, other)) lt
  ];
}

-- a reaction more before the others; f is what was the first from its complex
pub chains_more : (net : Net) (n c f : ℕ) (first next : List ℕ) → n < length net.reactions → c < length first → c ≡ (reaction_at net n).0 → f ≡ get_or first c f → AreChains net (n + 1) first next → AreChains net n (set first c n) (set next n f)
chains_more net n c f first next lt inside from was h = record {
  complexes = length-set first c n ∙ h.complexes;
  reactions = length-set next n f ∙ h.reactions;
  begin = λ d less. elim (eq_or d c) as (λ _. IsNext net d n (get_or (set first c n) d 0)) [
    | inl e ↦ subst (λ (i : ℕ). IsNext net i n (get_or (set first c n) i 0)) (sym e) (subst (IsNext net c n) (sym (get_or-set_same first c n 0 inside)) (record {
      least = omega arith;
      most = omega (arith, lt);
      from = λ _. sym from;
      none = λ k le small. absurd (omega (arith, le, small));
    }))
    | inr ne ↦ subst (IsNext net d n) (sym (get_or-set_other first c d n 0 ne))
        (next_past net d n (get_or first d 0) (λ y. ne (sym (from ∙ y))) (h.begin d (omega (arith, less, length-set first c n))))
  ];
  after = λ q le less. elim (eq_or q n) as (λ _. IsNext net (reaction_at net q).0 (q + 1) (get_or (set next n f) q 0)) [
    | inl e ↦ subst (λ (i : ℕ). IsNext net (reaction_at net i).0 (i + 1) (get_or (set next n f) i 0)) (sym e)
        (subst (IsNext net (reaction_at net n).0 (n + 1)) (sym (get_or-set_same next n f 0 (omega (arith, lt, h.reactions))))
        (subst (λ (i : ℕ). IsNext net i (n + 1) f) from (subst (IsNext net c (n + 1)) (sym (was ∙ any_default f 0 first c inside)) (h.begin c inside))))
    | inr ne ↦ subst (IsNext net (reaction_at net q).0 (q + 1)) (sym (get_or-set_other next n q f 0 ne))
        (h.after q (omega (arith, le, ne)) (omega (arith, less, length-set next n f)))
  ];
}

-- ---- rises along a chain

pub raised_none : (net : Net) (c : ℕ) (words : List Bits) → AreRaised net c 0 words words
raised_none net c words = record {
  count = refl;
  here = λ q lt y. absurd (omega (arith, lt));
  others = λ k out. refl;
}

-- reactions from other complexes are passed over
pub raised_to : (net : Net) (c n q : ℕ) (old new : List Bits) → IsNext net c n q → AreRaised net c n old new → AreRaised net c q old new
raised_to net c n q old new h r = record {
  count = r.count;
  here = λ k lt y. r.here k (raised_below k lt y) y;
  others = λ k out. r.others k (λ i lt. out i (omega (arith, lt, h.least)));
}
  where
    raised_below : (k : ℕ) → k < q → (reaction_at net k).0 ≡ c → k < n
    raised_below k lt y = elim (lt_or k n) as (λ _. k < n) [
      | inl less ↦ less
      | inr le ↦ absurd (h.none k le lt y)
    ]

-- a further reactant complex is one of the network
pub other_inside : (net : Net) (r i d : ℕ) → i < length (others net r) → get_or (others net r) i d < length net.complexes
other_inside net r i d lt =
    let c = get_or (others net r) i d in
    let given = (filter_from (λ e. not (e == (reaction_at net r).0)) (reactants net) c (at_in (others net r) i d lt)).0 in
    let inside = (filter_from (is_reactant net) (range_with_len 0 (length net.complexes)) c given).0 in
    omega (arith, (range_bounds c 0 (length net.complexes) inside).1)
