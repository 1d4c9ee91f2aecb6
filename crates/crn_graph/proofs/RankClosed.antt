-- The last part that has no arc to be followed is a strong class, and is ranked.
use Rattle.crn_graph.proofs.Prelude.{◌≡◌, ℕ, ◌+◌, ◌-◌, ◌<◌, ◌≤◌, List, length, get_or, refl, sym, ap, subst, ◌∙◌, inl, inr, arith, Vec, Global, cases_eq, cases_lt, Arc, Ranking, arc_at, HasArc, zeros, AreStrong, rank_at, place_at, path_at, start_at, open_at, rest_at, IsOnPath, IsSettled, IsPath, AreParts, IsRanking, HasClosed, IsOpenEnd}
use Rattle.crn_graph.proofs.RankCounts.{last_strong}
use Rattle.crn_graph.proofs.RankFollowed.{rests}

-- ---- a part that is a class

-- all arcs from the last part are followed, and its complexes have the newest rank
pub record IsClass (arcs : List Arc) (s : Ranking) (rank : List ℕ) : Type 0 where
  pub old : IsRanking arcs s
  pub some : 1 ≤ s.parts
  pub low : 1 ≤ s.left → place_at s (open_at s (s.left - 1)) ≤ start_at s (s.parts - 1)
  pub long : length rank ≡ length s.rank.items
  pub made : (i : ℕ) → start_at s (s.parts - 1) ≤ i → i < s.held → get_or rank (path_at s i) 0 ≡ s.count + 1
  pub others : (y : ℕ) → ((i : ℕ) → start_at s (s.parts - 1) ≤ i → i < s.held → path_at s i ≡ y → ⊥) → get_or rank y 0 ≡ rank_at s y
  pub fewer : zeros rank + (s.held - start_at s (s.parts - 1)) ≡ zeros s.rank.items

-- the first place of the last part
abbrev begin : Ranking → ℕ
begin s = start_at s (s.parts - 1)

-- where a complex is: in the class, or elsewhere with its old rank
data Stands (s : Ranking) (rank : List ℕ) (y : ℕ) : Type 0 where
  member : IsOnPath s y → begin s < place_at s y → get_or rank y 0 ≡ s.count + 1 → Stands s rank y
  other : (IsOnPath s y → place_at s y ≤ begin s) → get_or rank y 0 ≡ rank_at s y → Stands s rank y

stands : (arcs : List Arc) (s : Ranking) (rank : List ℕ) (y : ℕ) → IsClass arcs s rank → Stands s rank y
stands arcs s rank y h =
    let p = h.old.path in
    let away : (IsOnPath s y → place_at s y ≤ begin s) → Stands s rank y = λ out. other out (h.others y (λ i low lt e.
    let place : place_at s y ≡ i + 1 = ap (place_at s) (sym e) ∙ p.placed i lt in
    let b = out (omega (arith, place), ap (rank_at s) (sym e) ∙ p.unranked i lt) in
    omega (arith, place, b, low))) in
    elim (cases_eq (rank_at s y) 0) [
      | inr ne ↦ away (λ on. absurd (ne on.1))
      | inl e ↦ elim (cases_lt (begin s) (place_at s y)) [
        | inr ge ↦ away (λ on. ge)
        | inl less ↦
            let on : IsOnPath s y = (omega (arith, less), e) in
            let a = p.on y on in
            member on less (ap (λ (v : ℕ). get_or rank v 0) (sym a.1) ∙ h.made (place_at s y - 1) (omega (arith, less)) (omega (arith, less, a.0)))
      ]
    ]

-- a complex with a rank keeps it
kept : (arcs : List Arc) (s : Ranking) (rank : List ℕ) (y : ℕ) → IsClass arcs s rank → 1 ≤ rank_at s y → get_or rank y 0 ≡ rank_at s y
kept arcs s rank y h le = elim (stands arcs s rank y h) [ member on low e ↦ absurd (omega (arith, on.1, le)) | other out e ↦ e ]

-- no arc from the class is to be followed
class_done : (arcs : List Arc) (s : Ranking) (rank : List ℕ) (y : ℕ) → IsClass arcs s rank → IsOnPath s y → begin s < place_at s y → rest_at s y ≡ 0
class_done arcs s rank y h on less = elim (h.old.opened.waits y on) [
  | inl e ↦ e
  | inr g ↦
      let low = h.low (omega (arith, g.1)) in
      let here = ap (place_at s) g.2 in
      elim (cases_eq g.0 (s.left - 1)) [
        | inl q ↦ absurd (let f = ap (λ (v : ℕ). place_at s (open_at s v)) q in omega (arith, f, low, here, less))
        | inr ne ↦ absurd (let o = h.old.opened.order g.0 (s.left - 1) (omega (arith, g.1, ne)) (omega (arith, g.1)) in omega (arith, o, low, here, less))
      ]
]

class_falls : (arcs : List Arc) (s : Ranking) (rank : List ℕ) (r y z : ℕ) → IsClass arcs s rank → HasArc arcs r y z → 1 ≤ get_or rank y 0 → (1 ≤ get_or rank z 0) × (get_or rank z 0 ≤ get_or rank y 0)
class_falls arcs s rank r y z h a one = elim (stands arcs s rank y h) [
  | other out e ↦
      let f = h.old.ranked.falls r y z a (omega (arith, e, one)) in
      let k = kept arcs s rank z h f.0 in
      (omega (arith, k, f.0), omega (arith, k, e, f.1))
  | member on low e ↦
      let from = a.from_is in
      let to = a.to_is in
      let done = class_done arcs s rank y h on low in
      elim (h.old.steps.followed a.place a.inside (subst (IsOnPath s) (sym from) on)) [
        | inl g ↦ absurd (let f = ap (rest_at s) from in omega (arith, f, g, done))
        | inr g ↦ elim (subst (λ (v : ℕ). IsSettled s (arc_at arcs a.place).from v) to g) [
          | inl k ↦ let same = kept arcs s rank z h k in let m = h.old.ranked.most z in (omega (arith, same, k), omega (arith, same, m, e))
          | inr k ↦
              let f = ap (place_at s) from in
              let last = k.1 (s.parts - 1) (omega (arith, h.some)) (omega (arith, f, low)) in
              elim (stands arcs s rank z h) [
                | member on' low' e' ↦ (omega (arith, e'), omega (arith, e, e'))
                | other out e' ↦ elim (cases_eq (rank_at s z) 0) [
                  | inl n ↦ absurd (let b = out (k.0, n) in omega (arith, b, last))
                  | inr n ↦ let m = h.old.ranked.most z in (omega (arith, e', n), omega (arith, e', m, e))
                ]
              ]
        ]
      ]
]

class_strong : (arcs : List Arc) (s : Ranking) (rank : List ℕ) (y z : ℕ) → IsClass arcs s rank → 1 ≤ get_or rank y 0 → get_or rank y 0 ≡ get_or rank z 0 → AreStrong arcs y z
class_strong arcs s rank y z h one same =
    let my = h.old.ranked.most y in
    let mz = h.old.ranked.most z in
    elim (stands arcs s rank y h) [
      | other out e ↦ elim (stands arcs s rank z h) [
        | other out' e' ↦ h.old.ranked.strong y z (omega (arith, e, one)) (sym e ∙ same ∙ e')
        | member on low e' ↦ absurd (omega (arith, e, e', same, my))
      ]
      | member on low e ↦ elim (stands arcs s rank z h) [
        | other out' e' ↦ absurd (omega (arith, e, e', same, mz))
        | member on' low' e' ↦
            let a = h.old.path.on y on in
            let b = h.old.path.on z on' in
            let i = place_at s y - 1 in
            let j = place_at s z - 1 in
            let li : i < s.held = omega (arith, a.0, on.0) in
            let lj : j < s.held = omega (arith, b.0, on'.0) in
            let bi : begin s ≤ i = omega (arith, low) in
            let bj : begin s ≤ j = omega (arith, low') in
            subst (AreStrong arcs y) b.1 (subst (λ (v : ℕ). AreStrong arcs v (path_at s j)) a.1
            (last_strong arcs s i j h.old.parts h.some li lj bi bj, last_strong arcs s j i h.old.parts h.some lj li bj bi))
      ]
    ]

-- a complex that is still on the path was there, before the class
still_on : (arcs : List Arc) (s : Ranking) (rank : List ℕ) (y : ℕ) → IsClass arcs s rank → 1 ≤ place_at s y → get_or rank y 0 ≡ 0 → IsOnPath s y × (place_at s y ≤ begin s)
still_on arcs s rank y h reached none = elim (stands arcs s rank y h) [
  | member on low e ↦ absurd (omega (arith, e, none))
  | other out e ↦ let on : IsOnPath s y = (reached, sym e ∙ none) in (on, out on)
]

-- a complex before the class is on the path as it was
stays : (arcs : List Arc) (s : Ranking) (rank : List ℕ) (y : ℕ) → IsClass arcs s rank → IsOnPath s y → place_at s y ≤ begin s → get_or rank y 0 ≡ 0
stays arcs s rank y h on le = elim (stands arcs s rank y h) [ member on' low e ↦ absurd (omega (arith, low, le)) | other out e ↦ e ∙ on.1 ]

begins_inside : (arcs : List Arc) (s : Ranking) (rank : List ℕ) → IsClass arcs s rank → begin s < s.held
begins_inside arcs s rank h = (h.old.parts.inside (s.parts - 1) (omega (arith, h.some))).1

class_path : (arcs : List Arc) (s : Ranking) (r : Vec ℕ Global) → IsClass arcs s r.items → IsPath (record s { parts = s.parts - 1; count = s.count + 1; held = begin s; rank = r })
class_path arcs s r h =
    let p = h.old.path in
    let in_held = begins_inside arcs s r.items h in
    record {
      inside = λ i lt. let f = p.inside i (omega (arith, lt, in_held)) in omega (arith, f, h.long);
      placed = λ i lt. p.placed i (omega (arith, lt, in_held));
      unranked = λ i lt. let l : i < s.held = omega (arith, lt, in_held) in let f = p.placed i l in stays arcs s r.items (path_at s i) h (omega (arith, f), p.unranked i l) (omega (arith, f, lt));
      on = λ y on. let k = still_on arcs s r.items y h on.0 on.1 in (k.1, (p.on y k.0).1);
      fresh = λ y free. elim (stands arcs s r.items y h) [ member on low e ↦ absurd (omega (arith, low, free)) | other out e ↦ e ∙ p.fresh y free ];
      room = omega (arith, p.room, in_held, h.long);
    }

class_parts : (arcs : List Arc) (s : Ranking) (r : Vec ℕ Global) → IsClass arcs s r.items → AreParts arcs (record s { parts = s.parts - 1; count = s.count + 1; held = begin s; rank = r })
class_parts arcs s r h =
    let p = h.old.parts in
    let in_held = begins_inside arcs s r.items h in
    record {
      first = λ some. p.first (omega (arith, some));
      some = λ none. let one : s.parts - 1 ≡ 0 = none in ap (start_at s) one ∙ p.first h.some;
      inside = λ j lt. ((p.inside j (omega (arith, lt))).0, p.rising j (s.parts - 1) lt (omega (arith, h.some)));
      rising = λ i j less lt. p.rising i j less (omega (arith, lt));
      leads = λ i j le lt. p.leads i j le (omega (arith, lt, in_held));
      together = λ i j li lj low none. p.together i j (omega (arith, li, in_held)) (omega (arith, lj)) low (λ k more lk. elim (cases_eq k (s.parts - 1)) [
        | inl q ↦ subst (λ (v : ℕ). i < start_at s v) (sym q) li
        | inr ne ↦ none k more (omega (arith, lk, ne))
      ]);
    }

-- what may have arcs to be followed is before the class
open_low : (arcs : List Arc) (s : Ranking) (rank : List ℕ) (i : ℕ) → IsClass arcs s rank → i < s.left → place_at s (open_at s i) ≤ begin s
open_low arcs s rank i h lt =
    let low = h.low (omega (arith, lt)) in
    elim (cases_eq i (s.left - 1)) [
      | inl q ↦ let f = ap (λ (v : ℕ). place_at s (open_at s v)) q in omega (arith, f, low)
      | inr ne ↦ let g = h.old.opened.order i (s.left - 1) (omega (arith, lt, ne)) (omega (arith, lt)) in omega (arith, g, low)
    ]

pub class_ranks : (arcs : List Arc) (s : Ranking) (r : Vec ℕ Global) → IsClass arcs s r.items → IsRanking arcs (record s { parts = s.parts - 1; count = s.count + 1; held = start_at s (s.parts - 1); rank = r })
class_ranks arcs s r h =
    let o = h.old in
    let size = sym h.long in
    let in_held = begins_inside arcs s r.items h in
    record {
      long = record { rank = refl; place = o.long.place ∙ size; path = o.long.path ∙ size; start = o.long.start ∙ size; waiting = o.long.waiting ∙ size; rest = o.long.rest ∙ size };
      path = class_path arcs s r h;
      parts = class_parts arcs s r h;
      steps = record {
        rests = λ y lt. o.steps.rests y (omega (arith, lt, h.long));
        untouched = o.steps.untouched;
        followed = λ p lt on. let k = still_on arcs s r.items (arc_at arcs p).from h on.0 on.1 in elim (o.steps.followed p lt k.0) [
          | inl g ↦ inl g
          | inr (inl g) ↦ inr (inl (let f = kept arcs s r.items (arc_at arcs p).to h g in omega (arith, f, g)))
          | inr (inr g) ↦ inr (inr (g.0, λ j lj less. g.1 j (omega (arith, lj)) less))
        ];
      };
      ranked = record {
        room = omega (arith, o.ranked.room, h.fewer, in_held, h.long);
        most = λ y. let m = o.ranked.most y in elim (stands arcs s r.items y h) [ member on low e ↦ omega (arith, e) | other out e ↦ omega (arith, e, m) ];
        falls = λ q y z a one. class_falls arcs s r.items q y z h a one;
        strong = λ y z one e. class_strong arcs s r.items y z h one e;
      };
      opened = record {
        on = λ i lt. let on = o.opened.on i lt in (on.0, stays arcs s r.items (open_at s i) h on (open_low arcs s r.items i h lt));
        places = o.opened.places;
        order = o.opened.order;
        waits = λ y on. o.opened.waits y (still_on arcs s r.items y h on.0 on.1).0;
      };
    }

pub closed_class : (arcs : List Arc) (s t : Ranking) → IsRanking arcs s → 1 ≤ s.parts → (IsOpenEnd s → ⊥) → HasClosed s t (start_at s (s.parts - 1)) (s.count + 1) → IsClass arcs s t.rank.items
closed_class arcs s t h some none closed = record {
  old = h;
  some = some;
  low = λ left. elim (cases_lt (start_at s (s.parts - 1)) (place_at s (open_at s (s.left - 1)))) [ inl less ↦ absurd (none (record { some = left; last = less })) | inr ge ↦ ge ];
  long = closed.long;
  made = closed.made;
  others = closed.others;
  fewer = closed.fewer;
}
