-- The labels, trees and levels of strong classes pass their tests, and are right.
use Rattle.crn_graph.proofs.Prelude.{◌≡◌, ◌≢◌, ℕ, suc, ◌+◌, ◌-◌, ◌<◌, ◌≤◌, List, length, get_or, refl, sym, ap, subst, ◌∙◌, inl, inr, arith, cases_eq, Net, LeadsTo, ReactsTo, Reaches, SameStrong, AreRightStrongLabels, leads_keeps, leads_here, leads_step, leads_then, named_in, IsReactionNumber, IsFrom, AreFrom, IsForest, AreNumbered, AreFromTrees, AreToTrees, of_class, DoLevelsFall, GoesOut, Arc, Along, Against, Search, HasArc, AreArcsOf, AreArcsWithin, Steps, label_at, up_at, AreClassesTo}
use Rattle.crn_graph.proofs.LinkTests.{in_numbered, are_from}
use Rattle.crn_graph.proofs.ReverseLaws.{arc_along, along_arc}
use Rattle.crn_graph.proofs.LabelLaws.{one_strong_labels}
use Rattle.crn_graph.proofs.StrongLaws.{AreWithin, inner_walk, strong_even, walk_within, back_arc, back_walk, walk_back}

-- ---- reaching by reactions and by arcs

by_reactions : (net : Net) (arcs : List Arc) (y z : ℕ) → AreArcsOf net Along arcs → LeadsTo (Steps arcs) y z → Reaches net.reactions y z
by_reactions net arcs y z h walk =
    leads_keeps (Steps arcs) (Reaches net.reactions y)
    (λ v w step p. leads_then (ReactsTo net.reactions) y v w p (leads_step (ReactsTo net.reactions) v w (named_in net step.0 v w (arc_along net arcs step.0 v w h step.1)))) y z walk
    (leads_here (ReactsTo net.reactions) y)

reaction_step : (net : Net) (arcs : List Arc) (y z : ℕ) → AreArcsOf net Along arcs → ReactsTo net.reactions y z → Steps arcs y z
reaction_step net arcs y z h i = let r = in_numbered net y z i in (r.0, along_arc net arcs r.0 y z h r.1)

by_arcs : (net : Net) (arcs : List Arc) (y z : ℕ) → AreArcsOf net Along arcs → Reaches net.reactions y z → LeadsTo (Steps arcs) y z
by_arcs net arcs y z h walk =
    leads_keeps (ReactsTo net.reactions) (LeadsTo (Steps arcs) y)
    (λ v w i p. leads_then (Steps arcs) y v w p (leads_step (Steps arcs) v w (reaction_step net arcs v w h i))) y z walk
    (leads_here (Steps arcs) y)

-- ---- labels

-- the searches of all classes, along the reactions and against them
pub record AreAllStrong (net : Net) (arcs inner back : List Arc) (ranks : List ℕ) (s b : Search) (count others n : ℕ) : Type 0 where
  pub within : AreWithin net arcs inner ranks n
  pub against : AreArcsWithin net Against ranks back
  pub n_is : n ≡ length net.complexes
  pub some : 1 ≤ n
  pub places : length s.label.items ≡ n
  pub classes : AreClassesTo inner s count n
  pub places_back : length b.label.items ≡ n
  pub classes_back : AreClassesTo back b others n

pub strong_count : (net : Net) (arcs inner back : List Arc) (ranks : List ℕ) (s b : Search) (count others n : ℕ) → AreAllStrong net arcs inner back ranks s b count others n → IsFrom 1 (length net.complexes) count
strong_count net arcs inner back ranks s b count others n h =
    let f = h.classes.before 0 (omega (arith, h.some)) in
    let m = h.classes.most 0 in
    (omega (arith, f, m), omega (arith, h.classes.few, h.n_is))

pub strong_labels : (net : Net) (arcs inner back : List Arc) (ranks : List ℕ) (s b : Search) (count others n : ℕ) → AreAllStrong net arcs inner back ranks s b count others n → AreFrom (length net.complexes) 1 count s.label.items
strong_labels net arcs inner back ranks s b count others n h = are_from (length net.complexes) 1 count s.label.items (h.places ∙ h.n_is) (λ y lt. (h.classes.before y (omega (arith, lt, h.n_is)), h.classes.most y))

pub strong_numbered : (net : Net) (arcs inner back : List Arc) (ranks : List ℕ) (s b : Search) (count others n : ℕ) → AreAllStrong net arcs inner back ranks s b count others n → AreNumbered s.label.items count
strong_numbered net arcs inner back ranks s b count others n h = record {
  positive = λ y lt. h.classes.before y (omega (arith, lt, h.places));
  numbered = λ y k lt one less. h.classes.numbered y k one less;
  count_is = record {
    most = λ y lt. h.classes.most y;
    each = λ k one most. let f = h.classes.each k one most in (f.0, omega (arith, f.1, h.places), f.2);
  };
}

inner_strong : (net : Net) (arcs inner : List Arc) (ranks : List ℕ) (n y z : ℕ) → AreWithin net arcs inner ranks n → LeadsTo (Steps inner) y z → LeadsTo (Steps inner) z y → SameStrong net.reactions y z
inner_strong net arcs inner ranks n y z h p q =
    (by_reactions net arcs y z h.along (inner_walk net arcs inner ranks n y z h p), by_reactions net arcs z y h.along (inner_walk net arcs inner ranks n z y h q))

strong_inner : (net : Net) (arcs inner : List Arc) (ranks : List ℕ) (n y z : ℕ) → AreWithin net arcs inner ranks n → SameStrong net.reactions y z → LeadsTo (Steps inner) y z
strong_inner net arcs inner ranks n y z h s =
    let over = by_arcs net arcs y z h.along s.0 in
    let again = by_arcs net arcs z y h.along s.1 in
    walk_within net arcs inner ranks n y z h over (strong_even arcs n ranks y z h.ranked (over, again))

-- labels are equal along walks
even_walk : (arcs : List Arc) (s : Search) (count n y z : ℕ) → AreClassesTo arcs s count n → LeadsTo (Steps arcs) y z → label_at s y ≡ label_at s z
even_walk arcs s count n y z h walk = leads_keeps (Steps arcs) (λ v. label_at s y ≡ label_at s v) (λ v w step p. p ∙ h.even step.0 v w step.1) y z walk refl

pub strong_right : (net : Net) (arcs inner back : List Arc) (ranks : List ℕ) (s b : Search) (count others n : ℕ) → AreAllStrong net arcs inner back ranks s b count others n → AreRightStrongLabels net.reactions s.label.items
strong_right net arcs inner back ranks s b count others n h =
    let one : (y : ℕ) → y < length s.label.items → 1 ≤ label_at s y = λ y lt. h.classes.before y (omega (arith, lt, h.places)) in
    record {
      same = λ y z ly lz e. inner_strong net arcs inner ranks n y z h.within (h.classes.same y z (one y ly) e) (h.classes.same z y (one z lz) (sym e));
      together = λ y z ly lz m. even_walk inner s count n y z h.classes (strong_inner net arcs inner ranks n y z h.within m);
      positive = one;
      numbered = λ y k lt low less. h.classes.numbered y k low less;
    }

back_right : (net : Net) (arcs inner back : List Arc) (ranks : List ℕ) (s b : Search) (count others n : ℕ) → AreAllStrong net arcs inner back ranks s b count others n → AreRightStrongLabels net.reactions b.label.items
back_right net arcs inner back ranks s b count others n h =
    let one : (y : ℕ) → y < length b.label.items → 1 ≤ label_at b y = λ y lt. h.classes_back.before y (omega (arith, lt, h.places_back)) in
    let w = h.within in
    record {
      same = λ y z ly lz e. inner_strong net arcs inner ranks n y z w (back_walk net arcs inner back ranks n z y w h.against (h.classes_back.same z y (one z lz) (sym e))) (back_walk net arcs inner back ranks n y z w h.against (h.classes_back.same y z (one y ly) e));
      together = λ y z ly lz m. even_walk back b others n y z h.classes_back (walk_back net arcs inner back ranks n z y w h.against (strong_inner net arcs inner ranks n z y w (m.1, m.0)));
      positive = one;
      numbered = λ y k lt low less. h.classes_back.numbered y k low less;
    }

-- both searches give the same labels
pub same_labels : (net : Net) (arcs inner back : List Arc) (ranks : List ℕ) (s b : Search) (count others n : ℕ) → AreAllStrong net arcs inner back ranks s b count others n → b.label.items ≡ s.label.items
same_labels net arcs inner back ranks s b count others n h =
    one_strong_labels net.reactions b.label.items s.label.items (back_right net arcs inner back ranks s b count others n h) (strong_right net arcs inner back ranks s b count others n h) (h.places_back ∙ sym h.places)

-- ---- trees

inner_number : (net : Net) (arcs inner : List Arc) (ranks : List ℕ) (n r y z : ℕ) → AreWithin net arcs inner ranks n → HasArc inner r y z → IsReactionNumber net r y z
inner_number net arcs inner ranks n r y z h a = arc_along net arcs r y z h.along (h.along.whole r y z (h.within.sound r y z a).0)

pub from_forest : (net : Net) (arcs inner back : List Arc) (ranks : List ℕ) (s b : Search) (count others n : ℕ) → AreAllStrong net arcs inner back ranks s b count others n → IsForest net s.up.items s.depth.items
from_forest net arcs inner back ranks s b count others n h = record {
  names_are = are_from (length net.complexes) 0 (length net.reactions) s.up.items (h.classes.long.up ∙ h.places ∙ h.n_is) (λ y lt. (
    omega arith,
    elim (h.classes.placed y (h.classes.before y (omega (arith, lt, h.n_is)))) [
      | inl g ↦ omega (arith, g.1)
      | inr g ↦ let r = inner_number net arcs inner ranks n (up_at s y) g.d y h.within g.by_arc in omega (arith, r.0, r.1.0)
    ],
  ));
  depth_is = are_from (length net.complexes) 0 (length net.complexes - 1) s.depth.items (h.classes.long.depth ∙ h.places ∙ h.n_is) (λ y lt. (
    omega arith,
    let d = h.classes.deep y (h.classes.before y (omega (arith, lt, h.n_is))) in omega (arith, d, h.places, h.n_is),
  ));
}

pub to_forest : (net : Net) (arcs inner back : List Arc) (ranks : List ℕ) (s b : Search) (count others n : ℕ) → AreAllStrong net arcs inner back ranks s b count others n → IsForest net b.up.items b.depth.items
to_forest net arcs inner back ranks s b count others n h = record {
  names_are = are_from (length net.complexes) 0 (length net.reactions) b.up.items (h.classes_back.long.up ∙ h.places_back ∙ h.n_is) (λ y lt. (
    omega arith,
    elim (h.classes_back.placed y (h.classes_back.before y (omega (arith, lt, h.n_is)))) [
      | inl g ↦ omega (arith, g.1)
      | inr g ↦ let r = inner_number net arcs inner ranks n (up_at b y) y g.d h.within (back_arc net arcs inner back ranks n (up_at b y) g.d y h.within h.against g.by_arc) in omega (arith, r.0, r.1.0)
    ],
  ));
  depth_is = are_from (length net.complexes) 0 (length net.complexes - 1) b.depth.items (h.classes_back.long.depth ∙ h.places_back ∙ h.n_is) (λ y lt. (
    omega arith,
    let d = h.classes_back.deep y (h.classes_back.before y (omega (arith, lt, h.n_is))) in omega (arith, d, h.places_back, h.n_is),
  ));
}

pub from_trees : (net : Net) (arcs inner back : List Arc) (ranks : List ℕ) (s b : Search) (count others n : ℕ) → AreAllStrong net arcs inner back ranks s b count others n → AreFromTrees net s.label.items s.up.items s.depth.items
from_trees net arcs inner back ranks s b count others n h c lt = elim (h.classes.placed c (h.classes.before c (omega (arith, lt, h.n_is)))) [
  | inl g ↦ inl g
  | inr g ↦ inr (
    λ first. first g.root g.earlier g.its,
    record {
      d = g.d;
      goes = inner_number net arcs inner ranks n (up_at s c) g.d c h.within g.by_arc;
      class = h.classes.even (up_at s c) g.d c g.by_arc;
      deeper = g.deeper;
    },
  )
]

own_trees : (net : Net) (arcs inner back : List Arc) (ranks : List ℕ) (s b : Search) (count others n : ℕ) → AreAllStrong net arcs inner back ranks s b count others n → AreToTrees net b.label.items b.up.items b.depth.items
own_trees net arcs inner back ranks s b count others n h c lt = elim (h.classes_back.placed c (h.classes_back.before c (omega (arith, lt, h.n_is)))) [
  | inl g ↦ inl g
  | inr g ↦ inr (
    λ first. first g.root g.earlier g.its,
    record {
      d = g.d;
      goes = inner_number net arcs inner ranks n (up_at b c) c g.d h.within (back_arc net arcs inner back ranks n (up_at b c) g.d c h.within h.against g.by_arc);
      class = h.classes_back.even (up_at b c) g.d c g.by_arc;
      deeper = g.deeper;
    },
  )
]

pub to_trees : (net : Net) (arcs inner back : List Arc) (ranks : List ℕ) (s b : Search) (count others n : ℕ) → AreAllStrong net arcs inner back ranks s b count others n → AreToTrees net s.label.items b.up.items b.depth.items
to_trees net arcs inner back ranks s b count others n h =
    subst (λ (l : List ℕ). AreToTrees net l b.up.items b.depth.items) (same_labels net arcs inner back ranks s b count others n h) (own_trees net arcs inner back ranks s b count others n h)

-- ---- levels

-- equal labels are those of equal ranks
pub equal_ranks : (net : Net) (arcs inner back : List Arc) (ranks : List ℕ) (s b : Search) (count others n : ℕ) → AreAllStrong net arcs inner back ranks s b count others n → (y z : ℕ) → y < n → z < n → label_at s y ≡ label_at s z → get_or ranks y 0 ≡ get_or ranks z 0
equal_ranks net arcs inner back ranks s b count others n h y z ly lz e =
    let w = h.within in
    strong_even arcs n ranks y z w.ranked (
      inner_walk net arcs inner ranks n y z w (h.classes.same y z (h.classes.before y ly) e),
      inner_walk net arcs inner ranks n z y w (h.classes.same z y (h.classes.before z lz) (sym e)),
    )

-- each class has the rank of its complexes, less by one, as its level
abbrev pub AreLevels : ℕ → List ℕ → List ℕ → List ℕ → Type 0
AreLevels n labels ranks levels = (y : ℕ) → y < n → of_class labels levels y ≡ get_or ranks y 0 - 1

pub strong_levels : (net : Net) (arcs inner back : List Arc) (ranks : List ℕ) (s b : Search) (count others n : ℕ) (levels : List ℕ) → AreAllStrong net arcs inner back ranks s b count others n → length levels ≡ count → AreLevels n s.label.items ranks levels → AreFrom count 0 (length net.complexes) levels
strong_levels net arcs inner back ranks s b count others n levels h long are = are_from count 0 (length net.complexes) levels long (λ k lt. (
  omega arith,
  let f = h.classes.each (k + 1) (omega arith) (omega (arith, lt)) in
      let level = are f.0 f.1 in
      let at : label_at s f.0 - 1 ≡ k = omega (arith, f.2) in
      let e = ap (λ (v : ℕ). get_or levels v 0) at in
      let m = h.within.ranked.most f.0 in
      omega (arith, level, e, m, h.n_is),
))

-- a step between two classes goes to one of smaller level
falls_at : (net : Net) (arcs inner back : List Arc) (ranks : List ℕ) (s b : Search) (count others n : ℕ) (levels : List ℕ) → AreAllStrong net arcs inner back ranks s b count others n → AreLevels n s.label.items ranks levels
    → (y z : ℕ) → Steps arcs y z → label_at s y ≢ label_at s z → of_class s.label.items levels z < of_class s.label.items levels y
falls_at net arcs inner back ranks s b count others n levels h are y z step ne =
    let w = h.within in
    let ly : y < n = let i = w.inside.from step.1.place step.1.inside in omega (arith, i, step.1.from_is) in
    let lz : z < n = let i = w.inside.to step.1.place step.1.inside in omega (arith, i, step.1.to_is) in
    let f = w.ranked.falls step.0 y z step.1 in
    let one = w.ranked.some z lz in
    let other : get_or ranks y 0 ≢ get_or ranks z 0 = λ e. ne (h.classes.even step.0 y z (w.within.whole step.0 y z (w.along.sound step.0 y z step.1) e)) in
    let a = are y ly in
    let c = are z lz in
    omega (arith, a, c, f, one, other)

pub strong_falls : (net : Net) (arcs inner back : List Arc) (ranks : List ℕ) (s b : Search) (count others n : ℕ) (levels : List ℕ) → AreAllStrong net arcs inner back ranks s b count others n → AreLevels n s.label.items ranks levels → DoLevelsFall net s.label.items levels
strong_falls net arcs inner back ranks s b count others n levels h are y z i = elim (cases_eq (label_at s y) (label_at s z)) [
  | inl e ↦ inl e
  | inr ne ↦ inr (falls_at net arcs inner back ranks s b count others n levels h are y z (reaction_step net arcs y z h.within.along i) ne)
]

-- a reaction that leaves a class goes to one of smaller level
pub out_falls : (net : Net) (arcs inner back : List Arc) (ranks : List ℕ) (s b : Search) (count others n : ℕ) (levels : List ℕ) → AreAllStrong net arcs inner back ranks s b count others n → AreLevels n s.label.items ranks levels
    → (k r : ℕ) → GoesOut net s.label.items (suc k) r → (j : ℕ) × (j < count) × (get_or levels j 0 < get_or levels k 0)
out_falls net arcs inner back ranks s b count others n levels h are k r g =
    let step : Steps arcs g.y g.z = (r, along_arc net arcs r g.y g.z h.within.along g.goes) in
    let lz : 1 ≤ label_at s g.z = h.classes.before g.z (let i = h.within.inside.to step.1.place step.1.inside in omega (arith, i, step.1.to_is)) in
    let most = h.classes.most g.z in
    let less = falls_at net arcs inner back ranks s b count others n levels h are g.y g.z step (λ e. g.other (sym e ∙ g.from)) in
    let at : label_at s g.y - 1 ≡ k = omega (arith, g.from) in
    (label_at s g.z - 1, omega (arith, lz, most), subst (λ (v : ℕ). of_class s.label.items levels g.z < get_or levels v 0) at less)
