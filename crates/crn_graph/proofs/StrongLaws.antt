-- Arcs between complexes of equal rank, and walks by them.
use Rattle.crn_graph.proofs.Prelude.{◌≡◌, ℕ, ◌+◌, ◌<◌, ◌≤◌, List, [], ◌∷◌, ◌++◌, length, get_or, refl, sym, ap, subst, ◌∙◌, inl, inr, arith, cases_eq, Net, LeadsTo, leads_then, leads_here, leads_step, leads_keeps, Arc, Way, Along, Against, arc_at, HasArc, AreInside, AreArcsOf, AreArcsWithin, Steps, IsReturning, AreStrong, AreRanks}
use Rattle.crn_graph.proofs.ArcLaws.{arc_same, arc_made, arc_only}

-- ---- arcs of equal rank, one arc after another

-- the arcs before a place between complexes of equal rank
pub record AreEqualTo (ranks : List ℕ) (arcs : List Arc) (count : ℕ) (equal : List Arc) : Type 0 where
  pub sound : (r y z : ℕ) → HasArc equal r y z → HasArc arcs r y z × (get_or ranks y 0 ≡ get_or ranks z 0)
  pub whole : (p : ℕ) → p < count → get_or ranks (arc_at arcs p).from 0 ≡ get_or ranks (arc_at arcs p).to 0 → HasArc equal (arc_at arcs p).reaction (arc_at arcs p).from (arc_at arcs p).to

pub equal_none : (ranks : List ℕ) (arcs : List Arc) → AreEqualTo ranks arcs 0 []
equal_none ranks arcs = record {
  sound = λ r y z h. absurd (omega (arith, h.inside));
  whole = λ p lt e. absurd (omega (arith, lt));
}

pub equal_past : (ranks : List ℕ) (arcs : List Arc) (count : ℕ) (equal : List Arc) → AreEqualTo ranks arcs count equal → (get_or ranks (arc_at arcs count).from 0 ≡ get_or ranks (arc_at arcs count).to 0 → ⊥) → AreEqualTo ranks arcs (count + 1) equal
equal_past ranks arcs count equal h ne = record {
  sound = h.sound;
  whole = λ p lt e. elim (cases_eq p count) [
    | inl q ↦ absurd (ne (subst (λ (k : ℕ). get_or ranks (arc_at arcs k).from 0 ≡ get_or ranks (arc_at arcs k).to 0) q e))
    | inr other ↦ h.whole p (omega (arith, lt, other)) e
  ];
}

pub equal_more : (ranks : List ℕ) (arcs : List Arc) (count : ℕ) (equal : List Arc) (x : Arc) → AreEqualTo ranks arcs count equal → count < length arcs → x ≡ arc_at arcs count → get_or ranks x.from 0 ≡ get_or ranks x.to 0 → AreEqualTo ranks arcs (count + 1) (equal ++ x ∷ [])
equal_more ranks arcs count equal x h lt is e = record {
  sound = λ r y z a. elim (arc_only equal x r y z a) [
    | inl g ↦ h.sound r y z g
    | inr g ↦ (
      record { place = count; inside = lt; from_is = ap (λ (v : Arc). v.from) (sym is) ∙ g.1; to_is = ap (λ (v : Arc). v.to) (sym is) ∙ g.2; reaction_is = ap (λ (v : Arc). v.reaction) (sym is) ∙ g.0 },
      subst (λ (v : ℕ). get_or ranks v 0 ≡ get_or ranks z 0) g.1 (subst (λ (v : ℕ). get_or ranks x.from 0 ≡ get_or ranks v 0) g.2 e),
    )
  ];
  whole = λ p lp f. elim (cases_eq p count) [
    | inl q ↦ subst (λ (v : Arc). HasArc (equal ++ x ∷ []) v.reaction v.from v.to) (is ∙ ap (arc_at arcs) (sym q)) (arc_made equal x)
    | inr other ↦ arc_same equal x (arc_at arcs p).reaction (arc_at arcs p).from (arc_at arcs p).to (h.whole p (omega (arith, lp, other)) f)
  ];
}

pub equal_all : (net : Net) (way : Way) (ranks : List ℕ) (arcs equal : List Arc) → AreArcsOf net way arcs → AreEqualTo ranks arcs (length arcs) equal → AreArcsWithin net way ranks equal
equal_all net way ranks arcs equal a h = record {
  sound = λ r y z k. let g = h.sound r y z k in (a.sound r y z g.0, g.1);
  whole = λ r y z g e.
      let k = a.whole r y z g in
      let same : get_or ranks (arc_at arcs k.place).from 0 ≡ get_or ranks (arc_at arcs k.place).to 0 = ap (λ (v : ℕ). get_or ranks v 0) k.from_is ∙ e ∙ ap (λ (v : ℕ). get_or ranks v 0) (sym k.to_is) in
      subst (λ (v : ℕ). HasArc equal v y z) k.reaction_is
      (subst (λ (v : ℕ). HasArc equal (arc_at arcs k.place).reaction v z) k.from_is
      (subst (λ (v : ℕ). HasArc equal (arc_at arcs k.place).reaction (arc_at arcs k.place).from v) k.to_is (h.whole k.place k.inside same)));
}

pub inside_none : (n : ℕ) → AreInside n []
inside_none n = record { from = λ p lt. absurd (omega (arith, lt)); to = λ p lt. absurd (omega (arith, lt)) }

pub inside_push : (n : ℕ) (arcs : List Arc) (x : Arc) → AreInside n arcs → x.from < n → x.to < n → AreInside n (arcs ++ x ∷ [])
inside_push n arcs x h lf lt =
    let both : (p : ℕ) → p < length (arcs ++ x ∷ []) → ((arc_at (arcs ++ x ∷ []) p).from < n) × ((arc_at (arcs ++ x ∷ []) p).to < n) = λ p lp.
    let a = arc_at (arcs ++ x ∷ []) p in
    elim (arc_only arcs x a.reaction a.from a.to (record { place = p; inside = lp; from_is = refl; to_is = refl; reaction_is = refl })) [
      | inl g ↦ let u = h.from g.place g.inside in let v = h.to g.place g.inside in (omega (arith, u, g.from_is), omega (arith, v, g.to_is))
      | inr g ↦ (omega (arith, lf, g.1), omega (arith, lt, g.2))
    ] in
    record { from = λ p lp. (both p lp).0; to = λ p lp. (both p lp).1 }

-- ---- walks within a class

-- what is known of the ranks, and of the arcs within classes
pub record AreWithin (net : Net) (arcs inner : List Arc) (ranks : List ℕ) (n : ℕ) : Type 0 where
  pub along : AreArcsOf net Along arcs
  pub inside : AreInside n arcs
  pub ranked : AreRanks arcs n ranks
  pub within : AreArcsWithin net Along ranks inner

inner_arc : (net : Net) (arcs inner : List Arc) (ranks : List ℕ) (n r y z : ℕ) → AreWithin net arcs inner ranks n → HasArc inner r y z → HasArc arcs r y z
inner_arc net arcs inner ranks n r y z h a = h.along.whole r y z (h.within.sound r y z a).0

pub inner_walk : (net : Net) (arcs inner : List Arc) (ranks : List ℕ) (n y z : ℕ) → AreWithin net arcs inner ranks n → LeadsTo (Steps inner) y z → LeadsTo (Steps arcs) y z
inner_walk net arcs inner ranks n y z h walk =
    leads_keeps (Steps inner) (LeadsTo (Steps arcs) y) (λ v w step p. leads_then (Steps arcs) y v w p (leads_step (Steps arcs) v w (step.0, inner_arc net arcs inner ranks n step.0 v w h step.1))) y z walk (leads_here (Steps arcs) y)

-- no walk goes to a higher rank
pub walk_falls : (arcs : List Arc) (n : ℕ) (ranks : List ℕ) (y z : ℕ) → AreRanks arcs n ranks → LeadsTo (Steps arcs) y z → get_or ranks z 0 ≤ get_or ranks y 0
walk_falls arcs n ranks y z h walk = leads_keeps (Steps arcs) (λ v. get_or ranks v 0 ≤ get_or ranks y 0) (λ v w step p. let f = h.falls step.0 v w step.1 in omega (arith, f, p)) y z walk (omega arith)

pub strong_even : (arcs : List Arc) (n : ℕ) (ranks : List ℕ) (y z : ℕ) → AreRanks arcs n ranks → AreStrong arcs y z → get_or ranks y 0 ≡ get_or ranks z 0
strong_even arcs n ranks y z h s = let a = walk_falls arcs n ranks y z h s.0 in let b = walk_falls arcs n ranks z y h s.1 in omega (arith, a, b)

-- a walk between complexes of equal rank stays within their class
pub walk_within : (net : Net) (arcs inner : List Arc) (ranks : List ℕ) (n y z : ℕ) → AreWithin net arcs inner ranks n → LeadsTo (Steps arcs) y z → get_or ranks y 0 ≡ get_or ranks z 0 → LeadsTo (Steps inner) y z
walk_within net arcs inner ranks n y z h walk e =
    let rank : ℕ → ℕ = λ v. get_or ranks v 0 in
    let at : (v w : ℕ) → Steps arcs v w → (rank v ≤ rank y) × (rank v ≡ rank y → LeadsTo (Steps inner) y v) → (rank w ≤ rank y) × (rank w ≡ rank y → LeadsTo (Steps inner) y w) = λ v w step p.
    let f = h.ranked.falls step.0 v w step.1 in (
      omega (arith, f, p.0),
      λ q.
          let same : rank v ≡ rank y = omega (arith, f, p.0, q) in
          leads_then (Steps inner) y v w (p.1 same) (leads_step (Steps inner) v w (step.0, h.within.whole step.0 v w (h.along.sound step.0 v w step.1) (same ∙ sym q))),
    ) in
    let end = leads_keeps (Steps arcs) (λ v. (rank v ≤ rank y) × (rank v ≡ rank y → LeadsTo (Steps inner) y v)) at y z walk (omega arith, λ q. leads_here (Steps inner) y) in
    end.1 (sym e)

pub inner_returns : (net : Net) (arcs inner : List Arc) (ranks : List ℕ) (n : ℕ) → AreWithin net arcs inner ranks n → IsReturning inner
inner_returns net arcs inner ranks n h r y z a =
    let arc = inner_arc net arcs inner ranks n r y z h a in
    let e = (h.within.sound r y z a).1 in
    let lt : y < n = let i = h.inside.from arc.place arc.inside in omega (arith, i, arc.from_is) in
    walk_within net arcs inner ranks n z y h (h.ranked.strong y z lt e).1 (sym e)

-- ---- arcs against the reactions

pub back_arc : (net : Net) (arcs inner back : List Arc) (ranks : List ℕ) (n r y z : ℕ) → AreWithin net arcs inner ranks n → AreArcsWithin net Against ranks back → HasArc back r y z → HasArc inner r z y
back_arc net arcs inner back ranks n r y z h k a =
    let g = k.sound r y z a in
    h.within.whole r z y (record { a = g.0.a; b = g.0.b; is = g.0.is; allows = (g.0.allows.1, g.0.allows.0) }) (sym g.1)

pub to_back : (net : Net) (arcs inner back : List Arc) (ranks : List ℕ) (n r y z : ℕ) → AreWithin net arcs inner ranks n → AreArcsWithin net Against ranks back → HasArc inner r y z → HasArc back r z y
to_back net arcs inner back ranks n r y z h k a =
    let g = h.within.sound r y z a in
    k.whole r z y (record { a = g.0.a; b = g.0.b; is = g.0.is; allows = (g.0.allows.1, g.0.allows.0) }) (sym g.1)

pub back_walk : (net : Net) (arcs inner back : List Arc) (ranks : List ℕ) (n y z : ℕ) → AreWithin net arcs inner ranks n → AreArcsWithin net Against ranks back → LeadsTo (Steps back) y z → LeadsTo (Steps inner) z y
back_walk net arcs inner back ranks n y z h k walk =
    leads_keeps (Steps back) (λ v. LeadsTo (Steps inner) v y) (λ v w step p. leads_then (Steps inner) w v y (leads_step (Steps inner) w v (step.0, back_arc net arcs inner back ranks n step.0 v w h k step.1)) p) y z walk (leads_here (Steps inner) y)

pub walk_back : (net : Net) (arcs inner back : List Arc) (ranks : List ℕ) (n y z : ℕ) → AreWithin net arcs inner ranks n → AreArcsWithin net Against ranks back → LeadsTo (Steps inner) y z → LeadsTo (Steps back) z y
walk_back net arcs inner back ranks n y z h k walk =
    leads_keeps (Steps inner) (λ v. LeadsTo (Steps back) v y) (λ v w step p. leads_then (Steps back) w v y (leads_step (Steps back) w v (step.0, to_back net arcs inner back ranks n step.0 v w h k step.1)) p) y z walk (leads_here (Steps back) y)

pub back_returns : (net : Net) (arcs inner back : List Arc) (ranks : List ℕ) (n : ℕ) → AreWithin net arcs inner ranks n → AreArcsWithin net Against ranks back → IsReturning back
back_returns net arcs inner back ranks n h k r y z a =
    walk_back net arcs inner back ranks n y z h k (inner_returns net arcs inner ranks n h r z y (back_arc net arcs inner back ranks n r y z h k a))
