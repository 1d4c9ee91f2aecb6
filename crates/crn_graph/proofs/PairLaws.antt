-- Sides and walks of a search over the links of a network but those of one pair.
use Rattle.crn_graph.proofs.Prelude.{◌≡◌, ◌⊎◌, ◌≢◌, ℕ, zero, suc, ◌+◌, ◌-◌, ◌<◌, ◌≤◌, List, [], ◌∷◌, ◌++◌, length, get_or, refl, sym, ap, subst, ◌∙◌, inl, inr, arith, pos, AllByRecursion, ints, length-append, length-map, map-append, Net, IsIn, entry, IsAlong, LeadsTo, IsLinked, SameClass, IsBetween, IsFreeStep, IsMarking, leads_keeps, leads_here, leads_step, leads_then, marks_are_sides, is_between, all_push, named_in, label_inside, between_back, goes_at, least_one, IsFrom, IsReactionNumber, from_zero, WalkLeads, Arc, Round, Search, HasSide, HasWayRound, AreArcsOf, Steps, label_at, up_at, first_found, IsBlank, IsSpreading, KeepsLabels, mark_of, marks_of, IsStepBack, IsSearched, IsWalkBack}
use Rattle.crn_graph.proofs.LinkTests.{in_numbered}
use Rattle.crn_graph.proofs.ClassLaws.{all_followed}

-- ---- pairs

-- a step between a and b, if a and b are no step between c and d, is no step between c and d
still_free : (c d a b y z : ℕ) → IsBetween a b y z → (IsBetween c d a b → ⊥) → IsBetween c d y z → ⊥
still_free c d a b y z h free t = free (elim h [
  | inl g ↦ subst (λ (v : ℕ). IsBetween c d v b) g.0 (subst (λ (v : ℕ). IsBetween c d y v) g.1 t)
  | inr g ↦ subst (λ (v : ℕ). IsBetween c d v b) g.1 (subst (λ (v : ℕ). IsBetween c d z v) g.0 (between_back c d y z t))
])

linked_by : (net : Net) (r a b y z : ℕ) → IsReactionNumber net r a b → IsBetween a b y z → IsLinked net.reactions y z
linked_by net r a b y z h t =
    let i = named_in net r a b h in
    elim t [
      | inl g ↦ inl (subst (λ (v : ℕ). IsIn (v, z) net.reactions) (sym g.0) (subst (λ (v : ℕ). IsIn (a, v) net.reactions) (sym g.1) i))
      | inr g ↦ inr (subst (λ (v : ℕ). IsIn (v, y) net.reactions) (sym g.1) (subst (λ (v : ℕ). IsIn (a, v) net.reactions) (sym g.0) i))
    ]

-- ---- a search from z over the links but those between y and z

pub record IsRound (net : Net) (arcs : List Arc) (s t : Search) (r y z : ℕ) : Type 0 where
  pub goes : IsReactionNumber net r y z
  pub apart : y ≢ z
  pub arcs_are : AreArcsOf net (Round y z) arcs
  pub blank : IsBlank (length net.complexes) s
  pub spreading : IsSpreading arcs t
  pub all : t.done ≡ t.found
  pub keeps : KeepsLabels 1 s t
  pub newest : t.newest ≡ 1
  pub start : first_found t ≡ z

free_step : (net : Net) (arcs : List Arc) (y z v w : ℕ) → AreArcsOf net (Round y z) arcs → Steps arcs v w → IsFreeStep net.reactions y z v w
free_step net arcs y z v w h s =
    let g = h.sound s.0 v w s.1 in
    (linked_by net s.0 g.a g.b v w g.is g.allows.0, still_free y z g.a g.b v w g.allows.0 g.allows.1)

step_free : (net : Net) (arcs : List Arc) (y z v w : ℕ) → AreArcsOf net (Round y z) arcs → IsFreeStep net.reactions y z v w → Steps arcs v w
step_free net arcs y z v w h f = elim f.0 [
  | inl i ↦ let n = in_numbered net v w i in (n.0, h.whole n.0 v w (record { a = v; b = w; is = n.1; allows = (inl (refl, refl), f.1) }))
  | inr i ↦ let n = in_numbered net w v i in (n.0, h.whole n.0 v w (record { a = w; b = v; is = n.1; allows = (inr (refl, refl), λ t. f.1 (between_back y z w v t)) }))
]

pub labels_two : (net : Net) (arcs : List Arc) (s t : Search) (r y z c : ℕ) → IsRound net arcs s t r y z → (label_at t c ≡ 0) ⊎ (label_at t c ≡ 1)
labels_two net arcs s t r y z c h = h.keeps.adds c (h.blank.none c)

pub round_searched : (net : Net) (arcs : List Arc) (s t : Search) (r y z : ℕ) → IsRound net arcs s t r y z → IsSearched net t
round_searched net arcs s t r y z h =
    let places = h.keeps.long ∙ h.blank.count in
    record {
      places = places;
      long = h.spreading.long;
      inside = λ c e. let i = label_inside t.label.items c (omega (arith, e, h.newest)) in omega (arith, i, places);
      hangs = λ c e. elim (h.spreading.hangs c e) [
        | inl g ↦ inl (g.0, g.1)
        | inr g ↦ let k = h.arcs_are.sound (up_at t c) g.1.d c g.1.by_arc in
            inr (g.1.d, record { a = k.a; b = k.b; goes = k.is; between = k.allows.0; its_own = e; its = g.1.its; deeper = g.1.deeper })
      ];
      deep = λ c e. let d = h.spreading.deep c e in omega (arith, d, places);
    }

-- ---- the side

entry_mark : (labels : List ℕ) (c : ℕ) → entry (marks_of labels) c ≡ mark_of (get_or labels c 0)
entry_mark [] c = refl
entry_mark (l ∷ labels) zero = refl
entry_mark (l ∷ labels) (suc c) = entry_mark labels c

mark_bit : (l : ℕ) → (mark_of l ≡ pos 0) ⊎ (mark_of l ≡ pos 1)
mark_bit zero = inl refl
mark_bit (suc l) = inr refl

mark_some : (l : ℕ) → mark_of l ≡ pos 1 → 1 ≤ l
mark_some zero e = absurd (omega (arith, ints, e))
mark_some (suc l) e = omega arith

mark_same : (l m : ℕ) → l ≡ m → mark_of l ≡ mark_of m
mark_same l m e = ap mark_of e

round_marking : (net : Net) (arcs : List Arc) (s t : Search) (r y z : ℕ) → IsRound net arcs s t r y z → label_at t y ≡ 0 → IsMarking net.reactions y z (marks_of t.label.items)
round_marking net arcs s t r y z h none =
    let rs = net.reactions in
    let labels = t.label.items in
    let followed : (v w : ℕ) → IsFreeStep rs y z v w → label_at t v ≡ 1 → label_at t w ≡ 1 = λ v w f e.
    let step = step_free net arcs y z v w h.arcs_are f in
    let some : 1 ≤ label_at t w = all_followed arcs t v h.spreading h.all (e ∙ sym h.newest) step.0 w step.1 in
    elim (labels_two net arcs s t r y z w h) [ inl q ↦ absurd (omega (arith, q, some)) | inr q ↦ q ] in
    let back : (v w : ℕ) → IsFreeStep rs y z v w → IsFreeStep rs y z w v = λ v w f. (elim f.0 [ inl i ↦ inr i | inr i ↦ inl i ], λ k. f.1 (between_back y z w v k)) in
    let equal : (v w : ℕ) → IsFreeStep rs y z v w → label_at t v ≡ label_at t w = λ v w f. elim (labels_two net arcs s t r y z v h) [
      | inr e ↦ e ∙ sym (followed v w f e)
      | inl e ↦ elim (labels_two net arcs s t r y z w h) [ inl q ↦ e ∙ sym q | inr q ↦ absurd (let k = followed w v (back v w f) q in omega (arith, e, k)) ]
    ] in
    let first : label_at t z ≡ 1 = ap (label_at t) (sym h.start) ∙ (h.spreading.queued 0 (omega (arith, h.spreading.begun))).1 ∙ h.newest in
    record {
      from = entry_mark labels y ∙ ap mark_of none;
      to = entry_mark labels z ∙ ap mark_of first;
      equal = λ v w link. elim (is_between y z v w) [
        | inl k ↦ inl k
        | inr k ↦ inr (entry_mark labels v ∙ ap mark_of (equal v w (link, k)) ∙ sym (entry_mark labels w))
      ];
      within = λ c e.
          let some = mark_some (label_at t c) (sym (entry_mark labels c) ∙ e) in
          let its : label_at t c ≡ t.newest = elim (labels_two net arcs s t r y z c h) [ inl q ↦ absurd (omega (arith, q, some)) | inr q ↦ q ∙ sym h.newest ] in
          let reached : LeadsTo (Steps arcs) z c = subst (λ (v : ℕ). LeadsTo (Steps arcs) v c) h.start (h.spreading.reached c its) in
          leads_keeps (Steps arcs) (λ v. SameClass rs z v) (λ v w step p. leads_then (IsLinked rs) z v w p (leads_step (IsLinked rs) v w (free_step net arcs y z v w h.arcs_are step).0)) z c reached (leads_here (IsLinked rs) z);
    }

bits_of : (labels : List ℕ) → AllByRecursion (λ x. (x ≡ pos 0) ⊎ (x ≡ pos 1)) (marks_of labels)
bits_of [] = tt
bits_of (l ∷ labels) = (mark_bit l, bits_of labels)

pub round_side : (net : Net) (arcs : List Arc) (s t : Search) (r y z : ℕ) → IsRound net arcs s t r y z → label_at t y ≡ 0 → y < length net.complexes → z < length net.complexes → HasSide net r (marks_of t.label.items)
round_side net arcs s t r y z h none ly lz =
    let rs = net.reactions in
    let labels = t.label.items in
    let marking = round_marking net arcs s t r y z h none in
    let link : IsLinked rs y z = inl (named_in net r y z h.goes) in
    let sides = marks_are_sides rs y z (marks_of labels) link marking in
    record {
      y = y;
      z = z;
      goes = h.goes;
      pair = sides.0;
      bits = record { long = length-map labels mark_of ∙ h.keeps.long ∙ h.blank.count; each = bits_of labels };
      side = sides.1;
      tested = λ names long right. record {
        y = y;
        z = z;
        goes = h.goes;
        from = marking.from;
        to = marking.to;
        outside = λ c lc ne. elim (mark_bit (label_at t c)) [
          | inl q ↦ entry_mark labels c ∙ q
          | inr q ↦ absurd (ne (
              sym (right.together y c (omega (arith, ly, long)) (omega (arith, lc, long)) (leads_then (IsLinked rs) y z c (leads_step (IsLinked rs) y z link) (marking.within c (entry_mark labels c ∙ q))))
              ))
        ];
        equal = λ a b i. marking.equal a b (inl i);
      };
    }

-- ---- the walk

along_push : (S : ℕ → ℕ → Type 0) (y c d : ℕ) (xs : List ℕ) → IsAlong S y xs c → S c d → IsAlong S y (xs ++ d ∷ []) d
along_push S y c d [] h s = (subst (λ (v : ℕ). S v d) (sym h) s, refl)
along_push S y c d (x ∷ xs) h s = (h.0, along_push S x c d xs h.1 s)

pub walk_begun : (net : Net) (s : Search) (from : ℕ) → label_at s from ≡ s.newest → from < length net.complexes → IsWalkBack net s from from ((from + 1) ∷ [])
walk_begun net s from its lt = record {
  steps = [];
  is = refl;
  along = refl;
  each = ((omega arith, omega (arith, lt)), tt);
  its = its;
  few = omega arith;
}

-- the search found c from elsewhere
pub step_back : (net : Net) (s : Search) (c : ℕ) → IsSearched net s → label_at s c ≡ s.newest → 1 ≤ up_at s c → (d : ℕ) × IsStepBack net s c d
step_back net s c h its le = elim (h.hangs c its) [ inl g ↦ absurd (omega (arith, g.1, le)) | inr g ↦ g ]

pub walk_more : (net : Net) (s : Search) (from c d : ℕ) (walk : List ℕ) → IsSearched net s → IsWalkBack net s from c walk → IsStepBack net s c d → IsWalkBack net s from d (walk ++ (d + 1) ∷ [])
walk_more net s from c d walk h w step =
    let lt = h.inside d step.its in
    let one : from_zero ((d + 1) ∷ []) ≡ d ∷ [] = ap (λ (v : ℕ). v ∷ []) (omega arith) in
    let lists : from_zero (w.steps ++ (d + 1) ∷ []) ≡ from_zero w.steps ++ d ∷ [] = map-append (λ r. r - 1) w.steps ((d + 1) ∷ []) ∙ ap (λ (v : List ℕ). from_zero w.steps ++ v) one in
    record {
      steps = w.steps ++ (d + 1) ∷ [];
      is = ap (λ (v : List ℕ). v ++ (d + 1) ∷ []) w.is;
      along = subst (λ (v : List ℕ). IsAlong (IsStepBack net s) from v d) (sym lists) (along_push (IsStepBack net s) from c d (from_zero w.steps) w.along step);
      each = all_push (IsFrom 1 (length net.complexes)) walk (d + 1) w.each (omega arith, omega (arith, lt));
      its = step.its;
      few = let l = length-append walk ((d + 1) ∷ []) in omega (arith, l, w.few, step.deeper);
    }

-- the walk has come to where the search began
pub walk_ended : (net : Net) (s : Search) (from c : ℕ) (walk : List ℕ) → IsSearched net s → IsWalkBack net s from c walk → up_at s c ≡ 0 → IsWalkBack net s from (first_found s) walk
walk_ended net s from c walk h w none = elim (h.hangs c w.its) [
  | inl g ↦ subst (λ (v : ℕ). IsWalkBack net s from v walk) g.0 w
  | inr g ↦ absurd (omega (arith, g.1.goes.0, none))
]

-- one reaction goes between one pair
pub same_ends : (net : Net) (r a b a' b' : ℕ) → IsReactionNumber net r a b → IsReactionNumber net r a' b' → (a ≡ a') × (b ≡ b')
same_ends net r a b a' b' p q = let e : (a, b) ≡ (a', b') = sym p.1.1 ∙ q.1.1 in (ap (λ (v : ℕ × ℕ). v.0) e, ap (λ (v : ℕ × ℕ). v.1) e)

free_back : (net : Net) (arcs : List Arc) (s t : Search) (r y z c d : ℕ) → IsRound net arcs s t r y z → IsStepBack net t c d → IsFreeStep net.reactions y z c d
free_back net arcs s t r y z c d h step = elim (h.spreading.hangs c step.its_own) [
  | inl g ↦ absurd (omega (arith, g.1, step.goes.0))
  | inr g ↦
      let k = h.arcs_are.sound (up_at t c) g.1.d c g.1.by_arc in
      let e = same_ends net (up_at t c) step.a step.b k.a k.b step.goes k.is in
      let free : IsBetween y z step.a step.b → ⊥ = λ t. k.allows.1 (subst (λ (v : ℕ). IsBetween y z k.a v) e.1 (subst (λ (v : ℕ). IsBetween y z v step.b) e.0 t)) in
      let turn = between_back step.a step.b d c step.between in
      (linked_by net (up_at t c) step.a step.b c d step.goes turn, still_free y z step.a step.b c d turn free)
]

along_free : (net : Net) (arcs : List Arc) (s t : Search) (r y z c e : ℕ) (xs : List ℕ) → IsRound net arcs s t r y z → IsAlong (IsStepBack net t) c xs e → IsAlong (IsFreeStep net.reactions y z) c xs e
along_free net arcs s t r y z c e [] h w = w
along_free net arcs s t r y z c e (x ∷ xs) h w = (free_back net arcs s t r y z c x h w.0, along_free net arcs s t r y z x e xs h w.1)

some_steps : (S : ℕ → ℕ → Type 0) (y z : ℕ) (xs : List ℕ) → y ≢ z → IsAlong S y (from_zero xs) z → 1 ≤ length xs
some_steps S y z [] ne h = absurd (ne h)
some_steps S y z (x ∷ xs) ne h = omega arith

pub round_walk : (net : Net) (arcs : List Arc) (s t : Search) (r y z : ℕ) (walk : List ℕ) → IsRound net arcs s t r y z → label_at t y ≡ t.newest → IsWalkBack net t y (first_found t) walk → HasWayRound net r walk
round_walk net arcs s t r y z walk h its w =
    let back : IsAlong (IsStepBack net t) y (from_zero w.steps) z = subst (λ (v : ℕ). IsAlong (IsStepBack net t) y (from_zero w.steps) v) h.start w.along in
    let along = along_free net arcs s t r y z y z (from_zero w.steps) h back in
    let long : length walk ≡ suc (length w.steps) = ap length w.is in
    let each : AllByRecursion (IsFrom 1 (length net.complexes)) ((y + 1) ∷ w.steps) = subst (AllByRecursion (IsFrom 1 (length net.complexes))) w.is w.each in
    let deep = (round_searched net arcs s t r y z h).deep y its in
    record {
      y = y;
      z = z;
      goes = h.goes;
      no_pair = λ cut. cut.cut (from_zero w.steps, along);
      listed = record {
        some = let o = some_steps (IsStepBack net t) y z w.steps h.apart back in omega (arith, o, long);
        few = omega (arith, w.few, deep);
        each = w.each;
      };
      way = record {
        y = y;
        z = z;
        goes = h.goes;
        leads = subst (λ (v : List ℕ). WalkLeads (IsFreeStep net.reactions y z) y v z) (sym w.is) (omega arith, least_one (length net.complexes) w.steps each.1, along);
      };
    }

-- the other complex of the reaction of c is the one from which c was found
pub walk_step : (net : Net) (s : Search) (c r d : ℕ) → IsSearched net s → label_at s c ≡ s.newest → r ≡ up_at s c → 1 ≤ r → ((a b e : ℕ) → IsReactionNumber net r a b → IsBetween a b e c → e ≡ d) → IsStepBack net s c d
walk_step net s c r d h its e le other =
    let f = step_back net s c h its (omega (arith, e, le)) in
    let same : f.0 ≡ d = other f.1.a f.1.b f.0 (subst (λ (v : ℕ). IsReactionNumber net v f.1.a f.1.b) (sym e) f.1.goes) f.1.between in
    subst (IsStepBack net s c) same f.1

pub round_of : (net : Net) (arcs : List Arc) (s t : Search) (r y z n : ℕ) → IsFrom 1 (length net.reactions) r → y ≡ (get_or net.reactions (r - 1) (0, 0)).0 → z ≡ (get_or net.reactions (r - 1) (0, 0)).1 → (z ≡ (get_or net.reactions (r - 1) (0, 0)).0 → ⊥)
    → AreArcsOf net (Round y z) arcs → n ≡ length net.complexes → IsBlank n s → IsSpreading arcs t → t.done ≡ t.found → KeepsLabels 1 s t → t.newest ≡ 1 → first_found t ≡ z → IsRound net arcs s t r y z
round_of net arcs s t r y z n number ey ez other arcs_are count blank spreading all keeps newest start = record {
  goes = (number.0, goes_at net (r - 1) y z (omega (arith, number.0, number.1)) ey ez);
  apart = λ q. other (sym q ∙ ey);
  arcs_are = arcs_are;
  blank = subst (λ (k : ℕ). IsBlank k s) count blank;
  spreading = spreading;
  all = all;
  keeps = keeps;
  newest = newest;
  start = start;
}
