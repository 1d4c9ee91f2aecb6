-- Parts that are joined, and arcs that are followed, keep what a ranking is.
use Rattle.crn_graph.proofs.Prelude.{◌≡◌, ◌≢◌, ℕ, ◌+◌, ◌-◌, ◌<◌, ◌≤◌, List, length, get_or, set, refl, sym, ap, subst, ◌∙◌, inl, inr, arith, Vec, Global, sum_by, sum_by-set, get_or-set_other, get_or-set_same, length-set, cases_eq, cases_lt, LeadsTo, leads_then, leads_step, Arc, Ranking, arc_at, IsNext, Steps, place_at, path_at, start_at, open_at, rest_at, IsRest, IsOnPath, IsSettled, IsRanking, HasMerged}
use Rattle.crn_graph.proofs.RankCounts.{leads_last}

-- ---- parts that are joined

pub joined_ranks : (arcs : List Arc) (s : Ranking) (place n : ℕ) → IsRanking arcs s → HasMerged place s n → ((i : ℕ) → i < s.held → start_at s (n - 1) ≤ i → LeadsTo (Steps arcs) (path_at s i) (path_at s (start_at s (n - 1)))) → IsRanking arcs (record s { parts = n })
joined_ranks arcs s place n h j back = record {
  long = record { rank = refl; place = h.long.place; path = h.long.path; start = h.long.start; waiting = h.long.waiting; rest = h.long.rest };
  path = record { inside = h.path.inside; placed = h.path.placed; unranked = h.path.unranked; on = h.path.on; fresh = h.path.fresh; room = h.path.room };
  parts = record {
    first = λ some. h.parts.first (omega (arith, j.some, j.fewer));
    some = λ none. absurd (omega (arith, none, j.some));
    inside = λ k lt. h.parts.inside k (omega (arith, lt, j.fewer));
    rising = λ i k less lt. h.parts.rising i k less (omega (arith, lt, j.fewer));
    leads = h.parts.leads;
    together = λ i k li lk low none. elim (cases_eq k (n - 1)) [
      | inl q ↦ subst (λ (v : ℕ). LeadsTo (Steps arcs) (path_at s i) (path_at s (start_at s v))) (sym q) (back i li (subst (λ (v : ℕ). start_at s v ≤ i) q low))
      | inr ne ↦ h.parts.together i k li (omega (arith, lk, j.fewer)) low (λ m more lm. elim (cases_lt m n) [
        | inl less ↦ none m more less
        | inr ge ↦
            let a = none (n - 1) (omega (arith, lk, ne)) (omega (arith, j.some)) in
            let b = h.parts.rising (n - 1) m (omega (arith, ge, j.some)) lm in
            omega (arith, a, b)
      ])
    ];
  };
  steps = record {
    rests = h.steps.rests;
    untouched = h.steps.untouched;
    followed = λ p lt on. elim (h.steps.followed p lt on) [
      | inl g ↦ inl g
      | inr (inl g) ↦ inr (inl g)
      | inr (inr g) ↦ inr (inr (g.0, λ k lk less. g.1 k (omega (arith, lk, j.fewer)) less))
    ];
  };
  ranked = record { room = h.ranked.room; most = h.ranked.most; falls = h.ranked.falls; strong = h.ranked.strong };
  opened = record { on = h.opened.on; places = h.opened.places; order = h.opened.order; waits = h.opened.waits };
}

-- a complex of the path that is reached from the last part leads to all from its part on
pub joins_back : (arcs : List Arc) (s : Ranking) (y z n : ℕ) → IsRanking arcs s → 1 ≤ s.parts → IsOnPath s y → start_at s (s.parts - 1) < place_at s y → IsOnPath s z → Steps arcs y z → HasMerged (place_at s z) s n → start_at s (n - 1) < place_at s z
    → (i : ℕ) → i < s.held → LeadsTo (Steps arcs) (path_at s i) (path_at s (start_at s (n - 1)))
joins_back arcs s y z n h some on last on' step j low i lt =
    let S = Steps arcs in
    let a = h.path.on y on in
    let b = h.path.on z on' in
    let first : LeadsTo S (path_at s i) y = subst (LeadsTo S (path_at s i)) a.1 (leads_last arcs s i (place_at s y - 1) h.parts some lt (omega (arith, a.0, on.0)) (omega (arith, last))) in
    let over : LeadsTo S (path_at s i) z = leads_then S (path_at s i) y z first (leads_step S y z step) in
    let end : LeadsTo S z (path_at s (start_at s (n - 1))) = subst (λ (v : ℕ). LeadsTo S v (path_at s (start_at s (n - 1)))) b.1
    (h.parts.together (place_at s z - 1) (n - 1) (omega (arith, b.0, on'.0)) (omega (arith, j.some, j.fewer)) (omega (arith, low))
    (λ k more lk. let g = j.gone k (omega (arith, more, j.some)) lk in omega (arith, g, on'.0))) in
    leads_then S (path_at s i) z (path_at s (start_at s (n - 1))) over end

pub joined_settled : (arcs : List Arc) (s : Ranking) (y z n : ℕ) → IsRanking arcs s → 1 ≤ place_at s z → HasMerged (place_at s z) s n → start_at s (n - 1) < place_at s z → IsSettled (record s { parts = n }) y z
joined_settled arcs s y z n h reached j low = inr (
  reached,
  λ k lk less. elim (cases_eq k (n - 1)) [
    | inl q ↦ subst (λ (v : ℕ). start_at s v < place_at s z) (sym q) low
    | inr ne ↦ let r = h.parts.rising k (n - 1) (omega (arith, lk, ne)) (omega (arith, j.some, j.fewer)) in omega (arith, r, low)
  ],
)

-- ---- an arc that is followed

-- an arc of y is followed, and the rest of its chain is next
pub record IsTaken (arcs : List Arc) (s : Ranking) (y place next : ℕ) : Type 0 where
  pub old : IsRanking arcs s
  pub inside : y < length s.rank.items
  pub on : IsOnPath s y
  pub waits : (i : ℕ) × (i < s.left) × (open_at s i ≡ y)
  pub more : rest_at s y ≡ place + 1
  pub settled : IsSettled s y (arc_at arcs place).to
  pub is : IsNext arcs (arc_at arcs place).from place next

-- the arcs of a complex as the list of rests gives them
pub record Rests (s : Ranking) (rest : List ℕ) (y next : ℕ) : Type 0 where
  pub long : length rest ≡ length s.rest.items
  pub here : get_or rest y 0 ≡ next
  pub others : (x : ℕ) → x ≢ y → get_or rest x 0 ≡ rest_at s x

pub rests : (arcs : List Arc) (s : Ranking) (rest : List ℕ) (y place next : ℕ) → IsTaken arcs s y place next → rest ≡ set s.rest.items y next → Rests s rest y next
rests arcs s rest y place next h e = rw e (record {
  long = length-set s.rest.items y next;
  here = get_or-set_same s.rest.items y next 0 (omega (arith, h.inside, h.old.long.rest));
  others = λ x ne. get_or-set_other s.rest.items y x next 0 ne;
})

pub took_ranks : (arcs : List Arc) (s : Ranking) (r : Vec ℕ Global) (y place next : ℕ) → IsTaken arcs s y place next → r.items ≡ set s.rest.items y next → IsRanking arcs (record s { rest = r })
took_ranks arcs s r y place next t e =
    let h = t.old in
    let k = rests arcs s r.items y place next t e in
    let own = h.steps.rests y t.inside in
    let from : (arc_at arcs place).from ≡ y = own.its_own place (sym t.more) in
    let is = t.is in
    record {
      long = record { rank = refl; place = h.long.place; path = h.long.path; start = h.long.start; waiting = h.long.waiting; rest = k.long ∙ h.long.rest };
      path = record { inside = h.path.inside; placed = h.path.placed; unranked = h.path.unranked; on = h.path.on; fresh = h.path.fresh; room = h.path.room };
      parts = record { first = h.parts.first; some = h.parts.some; inside = h.parts.inside; rising = h.parts.rising; leads = h.parts.leads; together = h.parts.together };
      steps = record {
        rests = λ x lx. elim (cases_eq x y) [
          | inl q ↦ subst (λ (v : ℕ). IsRest arcs v (get_or r.items v 0)) (sym q) (subst (IsRest arcs y) (sym k.here) (record { inside = omega (arith, is.inside, own.inside, t.more); its_own = λ p f. is.its_own p f ∙ from }))
          | inr ne ↦ subst (IsRest arcs x) (sym (k.others x ne)) (h.steps.rests x lx)
        ];
        untouched = λ p lp free. elim (cases_eq (arc_at arcs p).from y) [
          | inl q ↦ absurd (let f = ap (place_at s) q in omega (arith, f, free, t.on.0))
          | inr ne ↦ let g = h.steps.untouched p lp free in let f = k.others (arc_at arcs p).from ne in omega (arith, g, f)
        ];
        followed = λ p lp on. elim (cases_eq (arc_at arcs p).from y) [
          | inr ne ↦ elim (h.steps.followed p lp on) [ inl g ↦ inl (let f = k.others (arc_at arcs p).from ne in omega (arith, g, f)) | inr g ↦ inr g ]
          | inl q ↦ elim (h.steps.followed p lp on) [
            | inr g ↦ inr g
            | inl g ↦
                let old : p < place + 1 = let f = ap (rest_at s) q in omega (arith, f, g, t.more) in
                elim (cases_eq p place) [
                  | inl f ↦ inr (subst (λ (v : ℕ). IsSettled s v (arc_at arcs p).to) (sym q) (subst (λ (v : ℕ). IsSettled s y (arc_at arcs v).to) (sym f) t.settled))
                  | inr ne ↦ elim (cases_lt p next) [
                    | inl less ↦ inl (let f = ap (λ (v : ℕ). get_or r.items v 0) q in omega (arith, f, k.here, less))
                    | inr ge ↦ absurd (is.others p ge (omega (arith, old, ne)) (q ∙ sym from))
                  ]
                ]
          ]
        ];
      };
      ranked = record { room = h.ranked.room; most = h.ranked.most; falls = h.ranked.falls; strong = h.ranked.strong };
      opened = record {
        on = h.opened.on;
        places = h.opened.places;
        order = h.opened.order;
        waits = λ x on. elim (cases_eq x y) [
          | inl q ↦ inr (t.waits.0, t.waits.1, t.waits.2 ∙ sym q)
          | inr ne ↦ elim (h.opened.waits x on) [ inl g ↦ inl (k.others x ne ∙ g) | inr g ↦ inr g ]
        ];
      };
    }

pub took_less : (s : Ranking) (rest : List ℕ) (y place next : ℕ) → y < length s.rest.items → rest_at s y ≡ place + 1 → next ≤ place → rest ≡ set s.rest.items y next → sum_by (λ (c : ℕ). c) rest < sum_by (λ (c : ℕ). c) s.rest.items
took_less s rest y place next lt more le e = rw e (let h = sum_by-set (λ (c : ℕ). c) s.rest.items y next 0 lt in omega (arith, h, more, le))

-- ---- a complex without arcs to be followed

pub dropped_ranks : (arcs : List Arc) (s : Ranking) → IsRanking arcs s → 1 ≤ s.left → rest_at s (open_at s (s.left - 1)) ≡ 0 → IsRanking arcs (record s { left = s.left - 1 })
dropped_ranks arcs s h some none = record {
  long = record { rank = refl; place = h.long.place; path = h.long.path; start = h.long.start; waiting = h.long.waiting; rest = h.long.rest };
  path = record { inside = h.path.inside; placed = h.path.placed; unranked = h.path.unranked; on = h.path.on; fresh = h.path.fresh; room = h.path.room };
  parts = record { first = h.parts.first; some = h.parts.some; inside = h.parts.inside; rising = h.parts.rising; leads = h.parts.leads; together = h.parts.together };
  steps = record { rests = h.steps.rests; untouched = h.steps.untouched; followed = h.steps.followed };
  ranked = record { room = h.ranked.room; most = h.ranked.most; falls = h.ranked.falls; strong = h.ranked.strong };
  opened = record {
    on = λ i lt. h.opened.on i (omega (arith, lt));
    places = λ i lt. h.opened.places i (omega (arith, lt));
    order = λ i j less lt. h.opened.order i j less (omega (arith, lt));
    waits = λ x on. elim (h.opened.waits x on) [
      | inl g ↦ inl g
      | inr g ↦ elim (cases_eq g.0 (s.left - 1)) [
        | inl q ↦ inl (ap (rest_at s) (sym g.2 ∙ ap (open_at s) q) ∙ none)
        | inr ne ↦ inr (g.0, omega (arith, g.1, ne), g.2)
      ]
    ];
  };
}
