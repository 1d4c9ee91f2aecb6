-- The steps between tied reactions as arcs.
use Rattle.crn_indep.proofs.Prelude.{◌≡◌, ◌⊎◌, ℕ, zero, suc, ◌+◌, ◌-◌, ◌<◌, ◌≤◌, inl, inr, List, [], ◌∷◌, ◌++◌, length, get_or, take, refl, sym, subst, ◌∙◌, arith, IsIn, Net, lt_or, RankProof, Arc, HasArc, AreInside, arc_at, DoLeadBack, arc_same, arc_made, arc_only, DrawsOn, IsProofForm, drawn_member, drawer_bounds, member_bounds, step_to, AddsPair, AreArcsFor, AreTieArcsTo, AreTieArcs}

-- ---- a pair more

-- equal numbers name equal arcs
has_at : (arcs : List Arc) (k l y y' z z' : ℕ) → k ≡ l → y ≡ y' → z ≡ z' → HasArc arcs k y z → HasArc arcs l y' z'
has_at arcs k l y y' z z' e f g h = subst (λ (n : ℕ). HasArc arcs n y' z') e (subst (λ (n : ℕ). HasArc arcs k n z') f (subst (λ (n : ℕ). HasArc arcs k y n) g h))

module _ (Has More : ℕ → ℕ → Type 0) (a b : ℕ) (old : List Arc) (h : AreArcsFor Has old)
    (a_some : 1 ≤ a) (b_some : 1 ≤ b) (more : (r q : ℕ) → Has r q → More r q) (one : More a b) (only : (r q : ℕ) → More r q → Has r q ⊎ ((r ≡ a) × (q ≡ b))) where
  pair_sound : (k y z : ℕ) → HasArc ((old ++ step_to a b ∷ []) ++ step_to b a ∷ []) k y z → (k ≡ suc y) × (More (suc y) (suc z) ⊎ More (suc z) (suc y))
  pair_sound k y z t = elim (arc_only (old ++ step_to a b ∷ []) (step_to b a) k y z t) as (λ _. (k ≡ suc y) × (More (suc y) (suc z) ⊎ More (suc z) (suc y))) [
    | inr (name, from, to) ↦
        let y_is : b ≡ suc y = omega (arith, from, b_some) in
        let z_is : a ≡ suc z = omega (arith, to, a_some) in
        (omega (arith, name, y_is), inr (subst (λ (n : ℕ). More (suc z) n) y_is (subst (λ (n : ℕ). More n b) z_is one)))
    | inl u ↦ elim (arc_only old (step_to a b) k y z u) as (λ _. (k ≡ suc y) × (More (suc y) (suc z) ⊎ More (suc z) (suc y))) [
      | inr (name, from, to) ↦
          let y_is : a ≡ suc y = omega (arith, from, a_some) in
          let z_is : b ≡ suc z = omega (arith, to, b_some) in
          (omega (arith, name, y_is), inl (subst (λ (n : ℕ). More (suc y) n) z_is (subst (λ (n : ℕ). More n b) y_is one)))
      | inl v ↦
          let s = h.sound k y z v in
          (s.0, elim s.1 as (λ _. More (suc y) (suc z) ⊎ More (suc z) (suc y)) [ inl x ↦ inl (more (suc y) (suc z) x) | inr x ↦ inr (more (suc z) (suc y) x) ])
    ]
  ]

  pub pair_more : (new : List Arc) → AddsPair a b old new → AreArcsFor More new
  pair_more new e =
      let mid = old ++ step_to a b ∷ [] in
      let last = mid ++ step_to b a ∷ [] in
      let made : AreArcsFor More last =
      record {
        sound = pair_sound;
        there = λ r q t. elim (only r q t) as (λ _. HasArc last r (r - 1) (q - 1)) [
          | inl x ↦ arc_same mid (step_to b a) r (r - 1) (q - 1) (arc_same old (step_to a b) r (r - 1) (q - 1) (h.there r q x))
          | inr (f, g) ↦ has_at last a r (a - 1) (r - 1) (b - 1) (q - 1) (sym f) (omega (arith, f)) (omega (arith, g)) (arc_same mid (step_to b a) a (a - 1) (b - 1) (arc_made old (step_to a b)))
        ];
        back = λ r q t. elim (only r q t) as (λ _. HasArc last q (q - 1) (r - 1)) [
          | inl x ↦ arc_same mid (step_to b a) q (q - 1) (r - 1) (arc_same old (step_to a b) q (q - 1) (r - 1) (h.back r q x))
          | inr (f, g) ↦ has_at last b q (b - 1) (q - 1) (a - 1) (r - 1) (sym g) (omega (arith, g)) (omega (arith, f)) (arc_made mid (step_to b a))
        ];
      } in
      subst (AreArcsFor More) (sym e) made

-- what relates the same reactions has the same arcs
pub arcs_same : (Has More : ℕ → ℕ → Type 0) (arcs : List Arc) → ((r q : ℕ) → Has r q → More r q) → ((r q : ℕ) → More r q → Has r q) → AreArcsFor Has arcs → AreArcsFor More arcs
arcs_same Has More arcs to from h = record {
  sound = λ k y z t. let s = h.sound k y z t in (s.0, elim s.1 as (λ _. More (suc y) (suc z) ⊎ More (suc z) (suc y)) [ inl x ↦ inl (to (suc y) (suc z) x) | inr x ↦ inr (to (suc z) (suc y) x) ]);
  there = λ r q t. h.there r q (from r q t);
  back = λ r q t. h.back r q (from r q t);
}

pub arcs_none : (Has : ℕ → ℕ → Type 0) → ((r q : ℕ) → Has r q → ⊥) → AreArcsFor Has []
arcs_none Has none = record {
  sound = λ k y z t. absurd (omega (arith, t.inside));
  there = λ r q t. absurd (none r q t);
  back = λ r q t. absurd (none r q t);
}

-- ---- the ties of one reaction after another

-- the ties of earlier reactions, and those of r to the first members of the base
abbrev pub Upto : Net → RankProof → ℕ → ℕ → ℕ → ℕ → Type 0
Upto net proof r i a q = DrawsOn net proof a q × ((a < r) ⊎ ((a ≡ r) × IsIn q (take i proof.base.list)))

in_more : (xs : List ℕ) (i q : ℕ) → IsIn q (take i xs) → IsIn q (take (i + 1) xs)
in_more xs i q h = subst (λ (k : ℕ). IsIn q (take k xs)) (let e : suc i ≡ i + 1 = omega arith in e) (later xs i q h)
  where
    later : (xs : List ℕ) (i q : ℕ) → IsIn q (take i xs) → IsIn q (take (suc i) xs)
    later xs zero q h = absurd h
    later [] (suc i) q h = absurd h
    later (x ∷ xs) (suc i) q (inl e) = inl e
    later (x ∷ xs) (suc i) q (inr h) = inr (later xs i q h)

in_here : (xs : List ℕ) (i : ℕ) → i < length xs → IsIn (get_or xs i 0) (take (i + 1) xs)
in_here xs i lt = subst (λ (k : ℕ). IsIn (get_or xs i 0) (take k xs)) (let e : suc i ≡ i + 1 = omega arith in e) (here xs i lt)
  where
    here : (xs : List ℕ) (i : ℕ) → i < length xs → IsIn (get_or xs i 0) (take (suc i) xs)
    here [] i lt = absurd (omega (arith, lt))
    here (x ∷ xs) zero lt = inl refl
    here (x ∷ xs) (suc i) lt = inr (here xs i (omega (arith, lt)))

in_last : (xs : List ℕ) (i q : ℕ) → IsIn q (take (i + 1) xs) → IsIn q (take i xs) ⊎ (q ≡ get_or xs i 0)
in_last xs i q h = last xs i q (subst (λ (k : ℕ). IsIn q (take k xs)) (let e : i + 1 ≡ suc i = omega arith in e) h)
  where
    last : (xs : List ℕ) (i q : ℕ) → IsIn q (take (suc i) xs) → IsIn q (take i xs) ⊎ (q ≡ get_or xs i 0)
    last [] i q h = absurd h
    last (x ∷ xs) zero q (inl e) = inr e
    last (x ∷ xs) zero q (inr h) = absurd h
    last (x ∷ xs) (suc i) q (inl e) = inl (inl e)
    last (x ∷ xs) (suc i) q (inr h) = elim (last xs i q h) as (λ _. IsIn q (x ∷ take i xs) ⊎ (q ≡ get_or xs i 0)) [ inl j ↦ inl (inr j) | inr e ↦ inr e ]

in_whole : (xs : List ℕ) (i q : ℕ) → length xs ≤ i → IsIn q xs → IsIn q (take i xs)
in_whole [] i q le h = absurd h
in_whole (x ∷ xs) zero q le h = absurd (omega (arith, le))
in_whole (x ∷ xs) (suc i) q le (inl e) = inl e
in_whole (x ∷ xs) (suc i) q le (inr h) = inr (in_whole xs i q (omega (arith, le)) h)

upto_more : (net : Net) (proof : RankProof) (r i a q : ℕ) → Upto net proof r i a q → Upto net proof r (i + 1) a q
upto_more net proof r i a q t = (t.0, elim t.1 as (λ _. (a < r) ⊎ ((a ≡ r) × IsIn q (take (i + 1) proof.base.list))) [ inl lt ↦ inl lt | inr p ↦ inr (p.0, in_more proof.base.list i q p.1) ])

upto_last : (net : Net) (proof : RankProof) (r i a q : ℕ) → Upto net proof r (i + 1) a q → Upto net proof r i a q ⊎ ((a ≡ r) × (q ≡ get_or proof.base.list i 0))
upto_last net proof r i a q t = elim t.1 as (λ _. Upto net proof r i a q ⊎ ((a ≡ r) × (q ≡ get_or proof.base.list i 0))) [
  | inl lt ↦ inl (t.0, inl lt)
  | inr p ↦ elim (in_last proof.base.list i q p.1) as (λ _. Upto net proof r i a q ⊎ ((a ≡ r) × (q ≡ get_or proof.base.list i 0))) [
    | inl j ↦ inl (t.0, inr (p.0, j))
    | inr e ↦ inr (p.0, e)
  ]
]

pub drawn_more : (net : Net) (proof : RankProof) (r i b : ℕ) (old new : List Arc) → i < length proof.base.list → get_or proof.base.list i 0 ≡ b → 1 ≤ r → 1 ≤ b → AreArcsFor (Upto net proof r i) old → DrawsOn net proof r b → AddsPair r b old new → AreArcsFor (Upto net proof r (i + 1)) new
drawn_more net proof r i b old new lt at r1 b1 h t e =
    pair_more (Upto net proof r i) (Upto net proof r (i + 1)) r b old h r1 b1 (upto_more net proof r i)
    (t, inr (refl, subst (λ (k : ℕ). IsIn k (take (i + 1) proof.base.list)) at (in_here proof.base.list i lt)))
    (λ a q u. elim (upto_last net proof r i a q u) as (λ _. Upto net proof r i a q ⊎ ((a ≡ r) × (q ≡ b))) [ inl x ↦ inl x | inr p ↦ inr (p.0, p.1 ∙ at) ])
    new e

pub drawn_same : (net : Net) (proof : RankProof) (r i b : ℕ) (arcs : List Arc) → get_or proof.base.list i 0 ≡ b → (DrawsOn net proof r b → ⊥) → AreArcsFor (Upto net proof r i) arcs → AreArcsFor (Upto net proof r (i + 1)) arcs
drawn_same net proof r i b arcs at none h =
    arcs_same (Upto net proof r i) (Upto net proof r (i + 1)) arcs (upto_more net proof r i)
    (λ a q u. elim (upto_last net proof r i a q u) as (λ _. Upto net proof r i a q) [
      | inl x ↦ x
      | inr p ↦ absurd (none (subst (λ (k : ℕ). DrawsOn net proof k b) p.0 (subst (λ (k : ℕ). DrawsOn net proof a k) (p.1 ∙ at) u.0)))
    ]) h

pub drawn_first : (net : Net) (proof : RankProof) (r : ℕ) (arcs : List Arc) → AreTieArcsTo net proof r arcs → AreArcsFor (Upto net proof r 0) arcs
drawn_first net proof r arcs h =
    arcs_same (λ (a q : ℕ). (a < r) × DrawsOn net proof a q) (Upto net proof r 0) arcs (λ a q t. (t.1, inl t.0))
    (λ a q t. elim t.1 as (λ _. (a < r) × DrawsOn net proof a q) [ inl lt ↦ (lt, t.0) | inr p ↦ absurd p.1 ]) h

pub drawn_all : (net : Net) (proof : RankProof) (r i : ℕ) (arcs : List Arc) → length proof.base.list ≤ i → AreArcsFor (Upto net proof r i) arcs → AreTieArcsTo net proof (r + 1) arcs
drawn_all net proof r i arcs le h =
    arcs_same (Upto net proof r i) (λ (a q : ℕ). (a < r + 1) × DrawsOn net proof a q) arcs
    (λ a q t. (elim t.1 as (λ _. a < r + 1) [ inl lt ↦ omega (arith, lt) | inr p ↦ omega (arith, p.0) ], t.0))
    (λ a q t. (
      t.1,
      elim (lt_or a r) as (λ _. (a < r) ⊎ ((a ≡ r) × IsIn q (take i proof.base.list))) [
        | inl lt ↦ inl lt
        | inr ge ↦ inr (omega (arith, ge, t.0), in_whole proof.base.list i q le (drawn_member net proof a q t.1))
      ],
    )) h

-- a reaction that draws on nothing adds no steps
pub drawn_none : (net : Net) (proof : RankProof) (r : ℕ) (arcs : List Arc) → ((q : ℕ) → DrawsOn net proof r q → ⊥) → AreTieArcsTo net proof r arcs → AreTieArcsTo net proof (r + 1) arcs
drawn_none net proof r arcs none h =
    arcs_same (λ (a q : ℕ). (a < r) × DrawsOn net proof a q) (λ (a q : ℕ). (a < r + 1) × DrawsOn net proof a q) arcs
    (λ a q t. (omega (arith, t.0), t.1))
    (λ a q t. (
      elim (lt_or a r) as (λ _. a < r) [
        | inl lt ↦ lt
        | inr ge ↦ let e : a ≡ r = omega (arith, ge, t.0) in absurd (none q (subst (λ (k : ℕ). DrawsOn net proof k q) e t.1))
      ],
      t.1,
    )) h

-- ---- all ties

pub ties_none : (net : Net) (proof : RankProof) (arcs : List Arc) → arcs ≡ [] → AreTieArcsTo net proof 1 arcs
ties_none net proof arcs e =
    subst (AreTieArcsTo net proof 1) (sym e) (arcs_none (λ (a q : ℕ). (a < 1) × DrawsOn net proof a q) (λ a q t. let b = drawer_bounds net proof a q t.1 in omega (arith, b.0, t.0)))

pub ties_all : (net : Net) (proof : RankProof) (k : ℕ) (arcs : List Arc) → length net.reactions ≤ k → AreTieArcsTo net proof (k + 1) arcs → AreTieArcs net proof arcs
ties_all net proof k arcs le h =
    arcs_same (λ (a q : ℕ). (a < k + 1) × DrawsOn net proof a q) (λ (a q : ℕ). DrawsOn net proof a q) arcs (λ a q t. t.1)
    (λ a q t. (let b = drawer_bounds net proof a q t in omega (arith, b.1, le), t)) h

ends_inside : (net : Net) (proof : RankProof) (arcs : List Arc) (k y z : ℕ) → IsProofForm net proof → AreTieArcs net proof arcs → HasArc arcs k y z → (y < length net.reactions) × (z < length net.reactions)
ends_inside net proof arcs k y z form a h = elim (a.sound k y z h).1 as (λ _. (y < length net.reactions) × (z < length net.reactions)) [
  | inl t ↦
      let b = drawer_bounds net proof (suc y) (suc z) t in
      let m = member_bounds net proof (suc z) form (drawn_member net proof (suc y) (suc z) t) in
      (omega (arith, b.1), omega (arith, m.1))
  | inr t ↦
      let b = drawer_bounds net proof (suc z) (suc y) t in
      let m = member_bounds net proof (suc y) form (drawn_member net proof (suc z) (suc y) t) in
      (omega (arith, m.1), omega (arith, b.1))
]

pub ties_inside : (net : Net) (proof : RankProof) (arcs : List Arc) → IsProofForm net proof → AreTieArcs net proof arcs → AreInside (length net.reactions) arcs
ties_inside net proof arcs form a =
    let has : (p : ℕ) → p < length arcs → HasArc arcs (arc_at arcs p).reaction (arc_at arcs p).from (arc_at arcs p).to = λ p lt. record { place = p; inside = lt; from_is = refl; to_is = refl; reaction_is = refl } in
    record {
      from = λ p lt. (ends_inside net proof arcs (arc_at arcs p).reaction (arc_at arcs p).from (arc_at arcs p).to form a (has p lt)).0;
      to = λ p lt. (ends_inside net proof arcs (arc_at arcs p).reaction (arc_at arcs p).from (arc_at arcs p).to form a (has p lt)).1;
    }

pub ties_back : (net : Net) (proof : RankProof) (arcs : List Arc) → AreTieArcs net proof arcs → DoLeadBack arcs
ties_back net proof arcs a k y z h = elim (a.sound k y z h).1 as (λ _. (q : ℕ) × HasArc arcs q z y) [
  | inl t ↦ (suc z, has_at arcs (suc z) (suc z) (suc z - 1) z (suc y - 1) y refl (omega arith) (omega arith) (a.back (suc y) (suc z) t))
  | inr t ↦ (suc z, has_at arcs (suc z) (suc z) (suc z - 1) z (suc y - 1) y refl (omega arith) (omega arith) (a.there (suc z) (suc y) t))
]
