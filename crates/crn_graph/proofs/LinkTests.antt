-- The labels and trees of linkage classes pass their tests, and are right.
use Rattle.crn_graph.proofs.Prelude.{◌≡◌, ◌⊎◌, ℕ, ◌+◌, ◌-◌, ◌<◌, ◌≤◌, List, length, get_or, refl, sym, ap, subst, ◌∙◌, inl, inr, arith, Net, IsIn, IsLinked, SameClass, AreRightLabels, leads_keeps, leads_here, leads_step, leads_then, in_at, all_from, named_in, IsReactionNumber, IsFrom, AreFrom, IsForest, AreNumbered, AreEven, AreLinkTrees, Arc, Links, Search, HasArc, AreArcsOf, Steps, label_at, up_at, IsReturning, AreClassesTo}

-- ---- numbers of reactions

pub in_numbered : (net : Net) (y z : ℕ) → IsIn (y, z) net.reactions → (r : ℕ) × IsReactionNumber net r y z
in_numbered net y z h =
    let f = in_at (y, z) net.reactions (0, 0) h in
    let e : f.0 + 1 - 1 ≡ f.0 = omega arith in
    (f.0 + 1, (omega arith, (omega (arith, f.1), ap (λ (k : ℕ). get_or net.reactions k (0, 0)) e ∙ f.2)))

-- a list by its entries
pub are_from : (count least greatest : ℕ) (xs : List ℕ) → length xs ≡ count → ((y : ℕ) → y < count → (least ≤ get_or xs y 0) × (get_or xs y 0 ≤ greatest)) → AreFrom count least greatest xs
are_from count least greatest xs l h = record {
  long = l;
  each = all_from (λ x. (least ≤ x) × (x ≤ greatest)) xs (λ x i. let f = in_at x xs 0 i in subst (λ (v : ℕ). (least ≤ v) × (v ≤ greatest)) f.2 (h f.0 (omega (arith, f.1, l))));
}

-- ---- links

pub links_return : (net : Net) (arcs : List Arc) → AreArcsOf net Links arcs → IsReturning arcs
links_return net arcs h r y z a =
    let g = h.sound r y z a in
    leads_step (Steps arcs) z y (r, h.whole r z y (record { a = g.a; b = g.b; is = g.is; allows = elim g.allows [ inl e ↦ inr (e.1, e.0) | inr e ↦ inl (e.1, e.0) ] }))

-- the reaction of an arc goes from one of its complexes to the other
arc_links : (net : Net) (arcs : List Arc) (r y z : ℕ) → AreArcsOf net Links arcs → HasArc arcs r y z → IsReactionNumber net r y z ⊎ IsReactionNumber net r z y
arc_links net arcs r y z h a =
    let g = h.sound r y z a in
    elim g.allows [
      | inl e ↦ inl (subst (λ (v : ℕ). IsReactionNumber net r v z) (sym e.0) (subst (λ (v : ℕ). IsReactionNumber net r g.a v) (sym e.1) g.is))
      | inr e ↦ inr (subst (λ (v : ℕ). IsReactionNumber net r v y) (sym e.1) (subst (λ (v : ℕ). IsReactionNumber net r g.a v) (sym e.0) g.is))
    ]

reaction_arc : (net : Net) (arcs : List Arc) (r y z : ℕ) → AreArcsOf net Links arcs → IsReactionNumber net r y z → HasArc arcs r y z
reaction_arc net arcs r y z h is = h.whole r y z (record { a = y; b = z; is = is; allows = inl (refl, refl) })

-- ---- all complexes have labels

pub record AreAllClasses (net : Net) (arcs : List Arc) (s : Search) (count n : ℕ) : Type 0 where
  pub links : AreArcsOf net Links arcs
  pub n_is : n ≡ length net.complexes
  pub some : 1 ≤ n
  pub places : length s.label.items ≡ n
  pub classes : AreClassesTo arcs s count n

pub count_is : (net : Net) (arcs : List Arc) (s : Search) (count n : ℕ) → AreAllClasses net arcs s count n → IsFrom 1 (length net.complexes) count
count_is net arcs s count n h =
    let b = h.classes.before 0 (omega (arith, h.some)) in
    let m = h.classes.most 0 in
    (omega (arith, b, m), omega (arith, h.classes.few, h.n_is))

pub labels_from : (net : Net) (arcs : List Arc) (s : Search) (count n : ℕ) → AreAllClasses net arcs s count n → AreFrom (length net.complexes) 1 count s.label.items
labels_from net arcs s count n h = are_from (length net.complexes) 1 count s.label.items (h.places ∙ h.n_is) (λ y lt. (h.classes.before y (omega (arith, lt, h.n_is)), h.classes.most y))

pub labels_numbered : (net : Net) (arcs : List Arc) (s : Search) (count n : ℕ) → AreAllClasses net arcs s count n → AreNumbered s.label.items count
labels_numbered net arcs s count n h = record {
  positive = λ y lt. h.classes.before y (omega (arith, lt, h.places));
  numbered = λ y k lt one less. h.classes.numbered y k one less;
  count_is = record {
    most = λ y lt. h.classes.most y;
    each = λ k one most. let f = h.classes.each k one most in (f.0, omega (arith, f.1, h.places), f.2);
  };
}

pub labels_even : (net : Net) (arcs : List Arc) (s : Search) (count n : ℕ) → AreAllClasses net arcs s count n → AreEven net s.label.items
labels_even net arcs s count n h y z i =
    let r = in_numbered net y z i in
    h.classes.even r.0 y z (reaction_arc net arcs r.0 y z h.links r.1)

pub labels_right : (net : Net) (arcs : List Arc) (s : Search) (count n : ℕ) → AreAllClasses net arcs s count n → AreRightLabels net.reactions s.label.items
labels_right net arcs s count n h =
    let rs = net.reactions in
    let linked : (y z : ℕ) → Steps arcs y z → IsLinked rs y z = λ y z a. elim (arc_links net arcs a.0 y z h.links a.1) [ inl g ↦ inl (named_in net a.0 y z g) | inr g ↦ inr (named_in net a.0 z y g) ] in
    let even = labels_even net arcs s count n h in
    record {
      same = λ y z ly lz e.
          leads_keeps (Steps arcs) (λ v. SameClass rs y v) (λ v w step p. leads_then (IsLinked rs) y v w p (leads_step (IsLinked rs) v w (linked v w step))) y z
          (h.classes.same y z (h.classes.before y (omega (arith, ly, h.places))) e)
          (leads_here (IsLinked rs) y);
      together = λ y z ly lz walk.
          leads_keeps (IsLinked rs) (λ v. label_at s y ≡ label_at s v) (λ v w link p. p ∙ elim link [ inl i ↦ even v w i | inr i ↦ sym (even w v i) ]) y z walk refl;
      positive = λ y lt. h.classes.before y (omega (arith, lt, h.places));
      numbered = λ y k lt one less. h.classes.numbered y k one less;
    }

pub links_forest : (net : Net) (arcs : List Arc) (s : Search) (count n : ℕ) → AreAllClasses net arcs s count n → IsForest net s.up.items s.depth.items
links_forest net arcs s count n h = record {
  names_are = are_from (length net.complexes) 0 (length net.reactions) s.up.items (h.classes.long.up ∙ h.places ∙ h.n_is) (λ y lt. (
    omega arith,
    elim (h.classes.placed y (h.classes.before y (omega (arith, lt, h.n_is)))) [
      | inl g ↦ omega (arith, g.1)
      | inr g ↦ elim (arc_links net arcs (up_at s y) g.d y h.links g.by_arc) [ inl r ↦ omega (arith, r.0, r.1.0) | inr r ↦ omega (arith, r.0, r.1.0) ]
    ],
  ));
  depth_is = are_from (length net.complexes) 0 (length net.complexes - 1) s.depth.items (h.classes.long.depth ∙ h.places ∙ h.n_is) (λ y lt. (
    omega arith,
    let d = h.classes.deep y (h.classes.before y (omega (arith, lt, h.n_is))) in omega (arith, d, h.places, h.n_is),
  ));
}

pub links_trees : (net : Net) (arcs : List Arc) (s : Search) (count n : ℕ) → AreAllClasses net arcs s count n → AreLinkTrees net s.label.items s.up.items s.depth.items
links_trees net arcs s count n h c lt = elim (h.classes.placed c (h.classes.before c (omega (arith, lt, h.n_is)))) [
  | inl g ↦ inl g
  | inr g ↦ inr (
    λ first. first g.root g.earlier g.its,
    record {
      d = g.d;
      joins = elim (arc_links net arcs (up_at s c) g.d c h.links g.by_arc) [ inl r ↦ inr r | inr r ↦ inl r ];
      deeper = g.deeper;
    },
  )
]
