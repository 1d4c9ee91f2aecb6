-- Linkage classes, one after another.
use Rattle.crn_graph.proofs.Prelude.{◌≡◌, ◌≢◌, ℕ, suc, ◌+◌, ◌<◌, ◌≤◌, List, length, sym, ap, subst, ◌∙◌, inl, inr, arith, cases_lt, cases_eq, LeadsTo, leads_then, leads_here, leads_keeps, Arc, Search, HasArc, Steps, label_at, up_at, first_found, IsBlank, IsReady, IsFollowed, IsSpreading, KeepsLabels, IsReturning, IsPlaced, AreClassesTo}

pub classes_none : (arcs : List Arc) (complexes : ℕ) (s : Search) → IsBlank complexes s → AreClassesTo arcs s 0 0
classes_none arcs complexes s h = record {
  long = h.long;
  few = omega arith;
  within = omega arith;
  most = λ y. omega (arith, h.none y);
  before = λ y lt. absurd (omega arith);
  each = λ k one most. absurd (omega arith);
  numbered = λ y k one less. absurd (omega (arith, h.none y));
  even = λ r y z a. h.none y ∙ sym (h.none z);
  same = λ y z one e. absurd (omega (arith, h.none y));
  placed = λ y one. absurd (omega (arith, h.none y));
  deep = λ y one. absurd (omega (arith, h.none y));
}

-- the next complex has a label
pub classes_past : (arcs : List Arc) (s : Search) (count c : ℕ) → AreClassesTo arcs s count c → 1 ≤ label_at s c → c < length s.label.items → AreClassesTo arcs s count (c + 1)
classes_past arcs s count c h le lt = record {
  long = h.long;
  few = omega (arith, h.few);
  within = omega arith;
  most = h.most;
  before = λ y early. elim (cases_eq y c) [ inl e ↦ let f = ap (label_at s) e in omega (arith, f, le) | inr ne ↦ h.before y (omega arith) ];
  each = λ k one most. let f = h.each k one most in (f.0, omega (arith, f.1), f.2);
  numbered = h.numbered;
  even = h.even;
  same = h.same;
  placed = h.placed;
  deep = h.deep;
}

-- a label is new to a search whose labels are at most a count
pub classes_ready : (arcs : List Arc) (s : Search) (count c : ℕ) → AreClassesTo arcs s count c → IsReady (count + 1) s
classes_ready arcs s count c h = record { long = h.long; some = omega arith; unused = λ y e. let m = h.most y in omega (arith, m, e) }

-- all arcs are followed
pub all_followed : (arcs : List Arc) (t : Search) (y : ℕ) → IsSpreading arcs t → t.done ≡ t.found → label_at t y ≡ t.newest → IsFollowed arcs t y
all_followed arcs t y h all e = elim (h.followed y e) [ inl f ↦ f | inr w ↦ absurd (omega (arith, w.1, w.2, all)) ]

-- ---- a new class

-- a search t gives the class of c its label, after s
pub record IsClassed (arcs : List Arc) (s t : Search) (count c : ℕ) : Type 0 where
  pub returning : IsReturning arcs
  pub old : AreClassesTo arcs s count c
  pub none : label_at s c ≡ 0
  pub inside : c < length s.label.items
  pub spreading : IsSpreading arcs t
  pub all : t.done ≡ t.found
  pub keeps : KeepsLabels (count + 1) s t
  pub newest : t.newest ≡ count + 1
  pub start : first_found t ≡ c

-- the label of a complex is old, or new, or there is none
data Stands (s t : Search) (count y : ℕ) : Type 0 where
  kept : 1 ≤ label_at s y → label_at t y ≡ label_at s y → Stands s t count y
  fresh : label_at s y ≡ 0 → label_at t y ≡ count + 1 → Stands s t count y
  bare : label_at s y ≡ 0 → label_at t y ≡ 0 → Stands s t count y

stands : (arcs : List Arc) (s t : Search) (count c y : ℕ) → IsClassed arcs s t count c → Stands s t count y
stands arcs s t count c y h = elim (cases_eq (label_at s y) 0) [
  | inl e ↦ elim (h.keeps.adds y e) [ inl f ↦ bare e f | inr f ↦ fresh e f ]
  | inr ne ↦ let le : 1 ≤ label_at s y = omega (arith, ne) in kept le (h.keeps.label y le)
]

root_label : (arcs : List Arc) (s t : Search) (count c : ℕ) → IsClassed arcs s t count c → label_at t c ≡ count + 1
root_label arcs s t count c h = ap (label_at t) (sym h.start) ∙ (h.spreading.queued 0 (omega (arith, h.spreading.begun))).1 ∙ h.newest

-- a complex with no old label is not before c
late : (arcs : List Arc) (s t : Search) (count c y : ℕ) → IsClassed arcs s t count c → label_at s y ≡ 0 → c ≤ y
late arcs s t count c y h e = elim (cases_lt y c) [ inl lt ↦ absurd (let b = h.old.before y lt in omega (arith, b, e)) | inr ge ↦ ge ]

-- an old label stays at the complex
stays : (arcs : List Arc) (s t : Search) (count c k : ℕ) (f : (x : ℕ) × (x < c) × (label_at s x ≡ k)) → IsClassed arcs s t count c → 1 ≤ k → label_at t f.0 ≡ k
stays arcs s t count c k f h one = h.keeps.label f.0 (omega (arith, f.2, one)) ∙ f.2

reached_from : (arcs : List Arc) (s t : Search) (count c y : ℕ) → IsClassed arcs s t count c → label_at t y ≡ count + 1 → LeadsTo (Steps arcs) c y
reached_from arcs s t count c y h e = subst (λ (x : ℕ). LeadsTo (Steps arcs) x y) h.start (h.spreading.reached y (e ∙ sym h.newest))

-- if arcs lead from each complex back, walks do
walks_back : (arcs : List Arc) (c y : ℕ) → IsReturning arcs → LeadsTo (Steps arcs) c y → LeadsTo (Steps arcs) y c
walks_back arcs c y h walk = leads_keeps (Steps arcs) (λ v. LeadsTo (Steps arcs) v c) (λ v w step p. leads_then (Steps arcs) w v c (h step.0 v w step.1) p) c y walk (leads_here (Steps arcs) c)

-- arcs lead from complexes with labels to complexes with labels
labels_on : (arcs : List Arc) (s t : Search) (count c v w : ℕ) → IsClassed arcs s t count c → Steps arcs v w → 1 ≤ label_at t v → 1 ≤ label_at t w
labels_on arcs s t count c v w h step le =
    let e = h.old.even step.0 v w step.1 in
    elim (stands arcs s t count c v h) [
      | kept one f ↦ let g = h.keeps.label w (omega (arith, e, one)) in omega (arith, g, e, one)
      | fresh n f ↦ all_followed arcs t v h.spreading h.all (f ∙ sym h.newest) step.0 w step.1
      | bare n f ↦ absurd (omega (arith, f, le))
    ]

even_after : (arcs : List Arc) (s t : Search) (count c r y z : ℕ) → IsClassed arcs s t count c → HasArc arcs r y z → label_at t y ≡ label_at t z
even_after arcs s t count c r y z h a =
    let e = h.old.even r y z a in
    elim (stands arcs s t count c y h) [
      | kept le f ↦ f ∙ e ∙ sym (h.keeps.label z (omega (arith, e, le)))
      | fresh n f ↦
          let b : 1 ≤ label_at t z = all_followed arcs t y h.spreading h.all (f ∙ sym h.newest) r z a in
          elim (h.keeps.adds z (sym e ∙ n)) [ inl g ↦ absurd (omega (arith, g, b)) | inr g ↦ f ∙ sym g ]
      | bare n f ↦
          elim (h.keeps.adds z (sym e ∙ n)) [
            | inl g ↦ f ∙ sym g
            | inr g ↦ absurd (let b : 1 ≤ label_at t y = leads_keeps (Steps arcs) (λ v. 1 ≤ label_at t v) (λ v w step le. labels_on arcs s t count c v w h step le) z y (h.returning r y z a) (omega (arith, g)) in omega (arith, f, b))
          ]
    ]

same_after : (arcs : List Arc) (s t : Search) (count c y z : ℕ) → IsClassed arcs s t count c → 1 ≤ label_at t y → label_at t y ≡ label_at t z → LeadsTo (Steps arcs) y z
same_after arcs s t count c y z h one e =
    let my = h.old.most y in
    let mz = h.old.most z in
    elim (stands arcs s t count c y h) [
      | kept le f ↦ elim (stands arcs s t count c z h) [
        | kept le' g ↦ h.old.same y z le (sym f ∙ e ∙ g)
        | fresh n g ↦ absurd (omega (arith, e, f, g, my))
        | bare n g ↦ absurd (omega (arith, e, g, one))
      ]
      | fresh n f ↦
          leads_then (Steps arcs) y c z
          (walks_back arcs c y h.returning (reached_from arcs s t count c y h f))
          (reached_from arcs s t count c z h (sym e ∙ f))
      | bare n f ↦ absurd (omega (arith, f, one))
    ]

placed_after : (arcs : List Arc) (s t : Search) (count c y : ℕ) → IsClassed arcs s t count c → 1 ≤ label_at t y → IsPlaced arcs t y
placed_after arcs s t count c y h one = elim (stands arcs s t count c y h) [
  | bare n f ↦ absurd (omega (arith, f, one))
  | fresh n f ↦ elim (h.spreading.hangs y (f ∙ sym h.newest)) [
    | inl g ↦ let at : y ≡ c = g.0 ∙ h.start in inl (
      λ b lt e. let old = h.old.before b (omega (arith, lt, at)) in let same = h.keeps.label b old in let most = h.old.most b in omega (arith, same, most, e, f),
      g.1,
      g.2,
    )
    | inr g ↦ let le = late arcs s t count c y h n in inr (record {
      root = c;
      earlier = let ne : y ≢ c = λ q. g.0 (q ∙ sym h.start) in omega (arith, le, ne);
      its = root_label arcs s t count c h ∙ sym f;
      d = g.1.d;
      by_arc = g.1.by_arc;
      deeper = g.1.deeper;
    })
  ]
  | kept le f ↦
      let up = h.keeps.up y le in
      let depth = h.keeps.depth y le in
      elim (h.old.placed y le) [
        | inl g ↦ inl (
          λ b lt e. elim (stands arcs s t count c b h) [
            | kept le' k ↦ g.0 b lt (sym k ∙ e ∙ f)
            | fresh n k ↦ let m = h.old.most y in omega (arith, k, e, f, m)
            | bare n k ↦ omega (arith, k, e, one)
          ],
          up ∙ g.1,
          depth ∙ g.2,
        )
        | inr g ↦ inr (record {
          root = g.root;
          earlier = g.earlier;
          its = h.keeps.label g.root (omega (arith, g.its, le)) ∙ g.its ∙ sym f;
          d = g.d;
          by_arc = subst (λ (q : ℕ). HasArc arcs q g.d y) (sym up) g.by_arc;
          deeper = depth ∙ g.deeper ∙ ap suc (sym (h.keeps.depth g.d (let e = h.old.even (up_at s y) g.d y g.by_arc in omega (arith, e, le))));
        })
      ]
]

pub classes_more : (arcs : List Arc) (s t : Search) (count c : ℕ) → IsClassed arcs s t count c → AreClassesTo arcs t (count + 1) (c + 1)
classes_more arcs s t count c h =
    let root = root_label arcs s t count c h in
    record {
      long = h.spreading.long;
      few = omega (arith, h.old.few);
      within = omega (arith, h.inside, h.keeps.long);
      most = λ y. let m = h.old.most y in elim (stands arcs s t count c y h) [ kept le f ↦ omega (arith, f, m) | fresh n f ↦ omega (arith, f) | bare n f ↦ omega (arith, f) ];
      before = λ y early. elim (cases_eq y c) [
        | inl e ↦ let f = ap (label_at t) e in omega (arith, f, root)
        | inr ne ↦ let b = h.old.before y (omega (arith, early, ne)) in let f = h.keeps.label y b in omega (arith, f, b)
      ];
      each = λ k one most. elim (cases_eq k (count + 1)) [
        | inl e ↦ (c, omega arith, root ∙ sym e)
        | inr ne ↦ let f = h.old.each k one (omega (arith, most, ne)) in (f.0, omega (arith, f.1), stays arcs s t count c k f h one)
      ];
      numbered = λ y k one less. elim (stands arcs s t count c y h) [
        | kept le f ↦ let g = h.old.numbered y k one (omega (arith, f, less)) in (g.0, g.1, h.keeps.label g.0 (omega (arith, g.2, one)) ∙ g.2)
        | fresh n f ↦ let g = h.old.each k one (omega (arith, f, less)) in
            let le = late arcs s t count c y h n in
            (g.0, omega (arith, g.1, le), stays arcs s t count c k g h one)
        | bare n f ↦ absurd (omega (arith, f, less))
      ];
      even = λ r y z a. even_after arcs s t count c r y z h a;
      same = λ y z one e. same_after arcs s t count c y z h one e;
      placed = λ y one. placed_after arcs s t count c y h one;
      deep = λ y one. elim (stands arcs s t count c y h) [
        | kept le f ↦ let d = h.old.deep y le in let e = h.keeps.depth y le in omega (arith, d, e, h.keeps.long)
        | fresh n f ↦ let d = h.spreading.deep y (f ∙ sym h.newest) in omega (arith, d)
        | bare n f ↦ absurd (omega (arith, f, one))
      ];
    }
