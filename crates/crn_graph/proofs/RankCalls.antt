-- The beginning and the end of the search, what its calls need, and the room in its lists.
use Rattle.crn_graph.proofs.Prelude.{◌≡◌, ℕ, suc, ◌+◌, ◌-◌, ◌<◌, ◌≤◌, List, length, get_or, set, refl, sym, ap, subst, ◌∙◌, inl, inr, arith, cases_eq, cases_lt, LeadsTo, leads_then, leads_step, Arc, Ranking, arc_at, AreInside, Steps, zeros, rank_at, place_at, path_at, start_at, open_at, rest_at, IsOnPath, IsPath, IsRanking, KeepsPlaces, HasEntered, HasCome, HasMerged, HasClosed, IsOpenEnd, IsUnranked, AreRanks}
use Rattle.crn_graph.proofs.SearchLaws.{IsWritten, written, zeros-set, zeros_few}
use Rattle.crn_graph.proofs.RankCounts.{few_parts, few_open, path_room, leads_last}
use Rattle.crn_graph.proofs.RankEntered.{IsEntered, writes, other_than, entered_ranks, entered_keeps, entered_settled}
use Rattle.crn_graph.proofs.RankFollowed.{joined_ranks, joins_back, joined_settled, rests}

-- ---- the beginning and the end

pub unranked_ranks : (arcs : List Arc) (n : ℕ) (s : Ranking) → AreInside n arcs → IsUnranked arcs n s → IsRanking arcs s
unranked_ranks arcs n s inside h = record {
  long = record { rank = refl; place = h.place ∙ sym h.rank; path = h.path ∙ sym h.rank; start = h.start ∙ sym h.rank; waiting = h.waiting ∙ sym h.rank; rest = h.rest ∙ sym h.rank };
  path = record {
    inside = λ i lt. absurd (omega (arith, lt, h.held));
    placed = λ i lt. absurd (omega (arith, lt, h.held));
    unranked = λ i lt. absurd (omega (arith, lt, h.held));
    on = λ y on. absurd (omega (arith, on.0, h.free y));
    fresh = λ y e. h.none y;
    room = omega (arith, h.held, zeros_few s.place.items, h.place, h.rank);
  };
  parts = record {
    first = λ some. absurd (omega (arith, some, h.parts));
    some = λ e. h.held;
    inside = λ j lt. absurd (omega (arith, lt, h.parts));
    rising = λ i j less lt. absurd (omega (arith, lt, h.parts));
    leads = λ i j le lt. absurd (omega (arith, lt, h.held));
    together = λ i j lt. absurd (omega (arith, lt, h.held));
  };
  steps = record {
    rests = λ y lt. let c = h.chains y (omega (arith, lt, h.rank)) in record { inside = c.inside; its_own = c.its_own };
    untouched = λ p lt e.
        let y = (arc_at arcs p).from in
        let c = h.chains y (inside.from p lt) in
        elim (cases_lt p (rest_at s y)) [ inl less ↦ less | inr ge ↦ absurd (c.others p ge lt refl) ];
    followed = λ p lt on. absurd (omega (arith, on.0, h.free (arc_at arcs p).from));
  };
  ranked = record {
    room = omega (arith, h.count, zeros_few s.rank.items);
    most = λ y. omega (arith, h.none y);
    falls = λ r y z a one. absurd (omega (arith, one, h.none y));
    strong = λ y z one. absurd (omega (arith, one, h.none y));
  };
  opened = record {
    on = λ i lt. absurd (omega (arith, lt, h.left));
    places = λ i lt. absurd (omega (arith, lt, h.left));
    order = λ i j less lt. absurd (omega (arith, lt, h.left));
    waits = λ y on. absurd (omega (arith, on.0, h.free y));
  };
}

-- all complexes are reached, and the path is at its end
pub all_ranks : (arcs : List Arc) (n : ℕ) (s : Ranking) → IsRanking arcs s → length s.rank.items ≡ n → s.parts ≡ 0 → AreInside n arcs → ((y : ℕ) → y < n → 1 ≤ place_at s y) → AreRanks arcs n s.rank.items
all_ranks arcs n s h long none inside reached =
    let some : (y : ℕ) → y < n → 1 ≤ rank_at s y = λ y lt. elim (cases_eq (rank_at s y) 0) [
      | inr ne ↦ omega (arith, ne)
      | inl e ↦ absurd (let p = reached y lt in let f = h.path.on y (p, e) in let g = h.parts.some none in omega (arith, p, f.0, g))
    ] in
    record {
      long = long;
      some = some;
      most = λ y. let m = h.ranked.most y in omega (arith, m, h.ranked.room, long);
      falls = λ r y z a. (h.ranked.falls r y z a (some y (let i = inside.from a.place a.inside in omega (arith, i, a.from_is)))).1;
      strong = λ y z lt e. h.ranked.strong y z (some y lt) e;
    }

-- ---- what a call needs

-- the last complex with arcs to be followed is on the path, in the last part
pub open_end : (arcs : List Arc) (s : Ranking) → IsRanking arcs s → IsOpenEnd s → IsOnPath s (open_at s (s.left - 1)) × (open_at s (s.left - 1) < length s.rank.items)
open_end arcs s h e =
    let on = h.opened.on (s.left - 1) (omega (arith, e.some)) in
    let f = h.path.on (open_at s (s.left - 1)) on in
    let i = h.path.inside (place_at s (open_at s (s.left - 1)) - 1) (omega (arith, f.0, on.0)) in
    (on, omega (arith, f.1, i))

pub last_inside : (arcs : List Arc) (s : Ranking) (y : ℕ) → IsRanking arcs s → IsOpenEnd s → y ≡ open_at s (s.left - 1) → y < length s.rank.items
last_inside arcs s y h e is = let f = open_end arcs s h e in omega (arith, is, f.1)

-- the arc at the beginning of a rest
pub head_arc : (arcs : List Arc) (s : Ranking) (y place : ℕ) → IsRanking arcs s → y < length s.rank.items → rest_at s y ≡ place + 1 → (place < length arcs) × ((arc_at arcs place).from ≡ y)
head_arc arcs s y place h lt more = let r = h.steps.rests y lt in (omega (arith, r.inside, more), r.its_own place (sym more))

pub keeps_then : (s t u : Ranking) → KeepsPlaces s t → KeepsPlaces t u → KeepsPlaces s u
keeps_then s t u p q = record { long = q.long ∙ p.long; reached = λ y le. q.reached y (p.reached y le) }

pub keeps_here : (s : Ranking) → KeepsPlaces s s
keeps_here s = record { long = refl; reached = λ y le. le }

-- each complex of the path leads to one to which an arc leads from the last part
pub leads_new : (arcs : List Arc) (s : Ranking) (y z : ℕ) → IsRanking arcs s → 1 ≤ s.parts → IsOnPath s y → start_at s (s.parts - 1) < place_at s y → Steps arcs y z → (i : ℕ) → i < s.held → LeadsTo (Steps arcs) (path_at s i) z
leads_new arcs s y z h some on last step i lt =
    let a = h.path.on y on in
    let first : LeadsTo (Steps arcs) (path_at s i) y = subst (LeadsTo (Steps arcs) (path_at s i)) a.1 (leads_last arcs s i (place_at s y - 1) h.parts some lt (omega (arith, a.0, on.0)) (omega (arith, last))) in
    leads_then (Steps arcs) (path_at s i) y z first (leads_step (Steps arcs) y z step)

-- ---- the loop that ranks a class

pub closed_none : (s t : Ranking) (rank : ℕ) → t.rank.items ≡ s.rank.items → HasClosed s t s.held rank
closed_none s t rank e = record {
  long = ap length e;
  made = λ i low lt. absurd (omega (arith, low, lt));
  others = λ y none. ap (λ (l : List ℕ). get_or l y 0) e;
  fewer = let z = ap zeros e in omega (arith, z);
}

pub closed_more : (s t u : Ranking) (low rank y : ℕ) → IsPath s → HasClosed s t (low + 1) rank → low < s.held → 1 ≤ rank → y ≡ path_at s low → u.rank.items ≡ set t.rank.items y rank → HasClosed s u low rank
closed_more s t u low rank y p h lt one at e =
    let inside : y < length t.rank.items = let f = p.inside low lt in omega (arith, f, at, h.long) in
    let apart : (i : ℕ) → i < s.held → path_at s i ≡ y → i ≡ low = λ i li q. let f = ap (place_at s) (q ∙ at) in omega (arith, f, p.placed i li, p.placed low lt) in
    let none : rank_at t y ≡ 0 = h.others y (λ i li lh q. let f = apart i lh q in omega (arith, f, li)) ∙ ap (rank_at s) at ∙ p.unranked low lt in
    let w : IsWritten t.rank.items u.rank.items y rank = subst (λ (l : List ℕ). IsWritten t.rank.items l y rank) (sym e) (written t.rank.items y rank inside) in
    let zero_less : suc (zeros u.rank.items) ≡ zeros t.rank.items = ap (λ (l : List ℕ). suc (zeros l)) e ∙ zeros-set t.rank.items y rank inside none one in
    record {
      long = w.long ∙ h.long;
      made = λ i li lh. elim (cases_eq i low) [
        | inl q ↦ ap (rank_at u) (ap (path_at s) q ∙ sym at) ∙ w.here
        | inr ne ↦ w.others (path_at s i) (λ q. ne (apart i lh q)) ∙ h.made i (omega (arith, li, ne)) lh
      ];
      others = λ x free. elim (cases_eq x y) [
        | inl q ↦ absurd (free low (omega arith) lt (sym at ∙ sym q))
        | inr ne ↦ w.others x ne ∙ h.others x (λ i li lh q. free i (omega (arith, li)) lh q)
      ];
      fewer = omega (arith, zero_less, h.fewer, lt);
    }

-- ---- the end of an arc from the last part

-- what is known if an arc from y to z is followed, y being the last complex with arcs to be followed
pub record IsAtEnd (arcs : List Arc) (s : Ranking) (y z : ℕ) : Type 0 where
  pub old : IsRanking arcs s
  pub last : IsOpenEnd s
  pub some : 1 ≤ s.parts
  pub here : y ≡ open_at s (s.left - 1)
  pub step : Steps arcs y z
  pub inside : z < length s.rank.items

end_on : (arcs : List Arc) (s : Ranking) (y z : ℕ) → IsAtEnd arcs s y z → IsOnPath s y × (start_at s (s.parts - 1) < place_at s y)
end_on arcs s y z h =
    let f = open_end arcs s h.old h.last in
    let l = h.last.last in
    (subst (IsOnPath s) (sym h.here) f.0, subst (λ (v : ℕ). start_at s (s.parts - 1) < place_at s v) (sym h.here) l)

pub at_end : (arcs : List Arc) (s : Ranking) (y z place : ℕ) → IsRanking arcs s → IsOpenEnd s → 1 ≤ s.parts → y ≡ open_at s (s.left - 1) → place < length arcs → (arc_at arcs place).from ≡ y → z ≡ (arc_at arcs place).to → z < length s.rank.items → IsAtEnd arcs s y z
at_end arcs s y z place h last some here inside from to lt = record {
  old = h;
  last = last;
  some = some;
  here = here;
  step = ((arc_at arcs place).reaction, record { place = place; inside = inside; from_is = from; to_is = sym to; reaction_is = refl });
  inside = lt;
}

pub come_new : (arcs : List Arc) (s t : Ranking) (y z : ℕ) → IsAtEnd arcs s y z → place_at s z ≡ 0 → HasEntered s t z → HasCome arcs s t y z
come_new arcs s t y z h free e =
    let on = end_on arcs s y z h in
    let i : IsEntered arcs s t z = record { old = h.old; inside = h.inside; free = free; reached = leads_new arcs s y z h.old h.some on.0 on.1 h.step; entered = e } in
    let w = writes arcs s t z i in
    record {
      ranking = entered_ranks arcs s t z i;
      keeps = entered_keeps arcs s t z i;
      settled = entered_settled arcs s t y z i;
      on = (let f = w.places.others y (other_than s y z on.0.0 free) in omega (arith, f, on.0.0), w.rank y ∙ on.0.1);
      waits = (s.left - 1, omega (arith, e.left), w.opens.others (s.left - 1) (let l = h.last.some in omega (arith, l)) ∙ sym h.here);
      rest = e.rest;
      few = omega (arith, e.left, e.parts);
    }

pub come_joined : (arcs : List Arc) (s : Ranking) (y z n : ℕ) → IsAtEnd arcs s y z → IsOnPath s z → HasMerged (place_at s z) s n → start_at s (n - 1) < place_at s z → HasCome arcs s (record s { parts = n }) y z
come_joined arcs s y z n h on' j low =
    let on = end_on arcs s y z h in
    record {
      ranking = joined_ranks arcs s (place_at s z) n h.old j (λ i li from. joins_back arcs s y z n h.old h.some on.0 on.1 on' h.step j low i li);
      keeps = record { long = refl; reached = λ x le. le };
      settled = joined_settled arcs s y z n h.old on'.0 j low;
      on = on.0;
      waits = (s.left - 1, (let l = h.last.some in omega (arith, l)), sym h.here);
      rest = refl;
      few = omega (arith, j.fewer);
    }

pub come_ranked : (arcs : List Arc) (s : Ranking) (y z : ℕ) → IsAtEnd arcs s y z → 1 ≤ rank_at s z → HasCome arcs s s y z
come_ranked arcs s y z h le =
    let on = end_on arcs s y z h in
    record {
      ranking = h.old;
      keeps = keeps_here s;
      settled = inl le;
      on = on.0;
      waits = (s.left - 1, (let l = h.last.some in omega (arith, l)), sym h.here);
      rest = refl;
      few = omega arith;
    }

-- ---- room in the lists

pub record IsRoom (s : Ranking) (y : ℕ) : Type 0 where
  pub place : y < length s.place.items
  pub path : s.held < length s.path.items
  pub start : s.parts < length s.start.items
  pub waiting : s.left < length s.waiting.items

pub enter_room : (arcs : List Arc) (s : Ranking) (y : ℕ) → IsRanking arcs s → y < length s.rank.items → place_at s y ≡ 0 → IsRoom s y
enter_room arcs s y h lt free =
    let room = path_room s y h.long h.path lt free in
    let parts = few_parts arcs s h.parts in
    let left = few_open s h.path h.opened in
    record {
      place = omega (arith, lt, h.long.place);
      path = omega (arith, room, h.long.path);
      start = omega (arith, room, parts, h.long.start);
      waiting = omega (arith, room, left, h.long.waiting);
    }

-- no list is longer than the path, and the path has no more members than there are complexes
pub held_room : (arcs : List Arc) (s : Ranking) → IsRanking arcs s → (s.held ≤ length s.rank.items) × (s.parts ≤ s.held) × (s.left ≤ s.held)
held_room arcs s h = (omega (arith, h.path.room), few_parts arcs s h.parts, few_open s h.path h.opened)

pub open_inside : (arcs : List Arc) (s : Ranking) (i : ℕ) → IsRanking arcs s → i < s.left → open_at s i < length s.rank.items
open_inside arcs s i h lt =
    let on = h.opened.on i lt in
    let f = h.path.on (open_at s i) on in
    let g = h.path.inside (place_at s (open_at s i) - 1) (omega (arith, f.0, on.0)) in
    omega (arith, f.1, g)

-- if the path has a part, not all complexes are ranked
pub count_room : (arcs : List Arc) (s : Ranking) → IsRanking arcs s → 1 ≤ s.parts → s.count < length s.rank.items
count_room arcs s h some =
    let i = h.parts.inside 0 (omega (arith, some)) in
    let lt = h.path.inside 0 (omega (arith, i.1)) in
    let z = zeros-set s.rank.items (path_at s 0) 1 lt (h.path.unranked 0 (omega (arith, i.1))) (omega arith) in
    omega (arith, z, h.ranked.room)
