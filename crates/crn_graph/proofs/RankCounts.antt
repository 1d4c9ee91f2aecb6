-- What a search that ranks strong classes keeps: how many parts and open arcs there are, and which complexes stay as they are.
use Rattle.crn_graph.proofs.Prelude.{◌≡◌, ℕ, ◌-◌, ◌<◌, ◌≤◌, List, length, get_or, sym, ap, ◌∙◌, inl, inr, arith, cases_eq, cases_lt, LeadsTo, leads_then, Arc, Ranking, Steps, zeros, rank_at, place_at, path_at, start_at, open_at, AreLongRanks, IsPath, AreParts, AreRanked, AreOpen}
use Rattle.crn_graph.proofs.SearchLaws.{zeros-set}

-- ---- how many there are

pub few_parts : (arcs : List Arc) (s : Ranking) → AreParts arcs s → s.parts ≤ s.held
few_parts arcs s h = elim (cases_eq s.parts 0) [
  | inl e ↦ omega (arith, e)
  | inr ne ↦ let i = h.inside (s.parts - 1) (omega (arith, ne)) in omega (arith, i.0, i.1, ne)
]

pub few_open : (s : Ranking) → IsPath s → AreOpen s → s.left ≤ s.held
few_open s path h = elim (cases_eq s.left 0) [
  | inl e ↦ omega (arith, e)
  | inr ne ↦
      let lt : s.left - 1 < s.left = omega (arith, ne) in
      let p = h.places (s.left - 1) lt in
      let on = path.on (open_at s (s.left - 1)) (h.on (s.left - 1) lt) in
      omega (arith, p, on.0, ne)
]

-- if a complex is not reached, not all places of the path are taken
pub path_room : (s : Ranking) (y : ℕ) → AreLongRanks (length s.rank.items) s → IsPath s → y < length s.rank.items → place_at s y ≡ 0 → s.held < length s.rank.items
path_room s y long h lt free = let fewer = zeros-set s.place.items y 1 (omega (arith, lt, long.place)) free (omega arith) in omega (arith, fewer, h.room)

-- every part begins at the start of the last part or before it
pub last_start : (arcs : List Arc) (s : Ranking) (j : ℕ) → AreParts arcs s → j < s.parts → start_at s j ≤ start_at s (s.parts - 1)
last_start arcs s j h lt = elim (cases_eq j (s.parts - 1)) [
  | inl e ↦ let f = ap (start_at s) e in omega (arith, f)
  | inr ne ↦ let r = h.rising j (s.parts - 1) (omega (arith, lt, ne)) (omega (arith, lt)) in omega (arith, r)
]

-- two complexes of the last part lead to one another
last_together : (arcs : List Arc) (s : Ranking) (i : ℕ) → AreParts arcs s → 1 ≤ s.parts → i < s.held → start_at s (s.parts - 1) ≤ i → LeadsTo (Steps arcs) (path_at s i) (path_at s (start_at s (s.parts - 1)))
last_together arcs s i h some lt le = h.together i (s.parts - 1) lt (omega (arith, some)) le (λ k more less. absurd (omega (arith, more, less, some)))

pub last_strong : (arcs : List Arc) (s : Ranking) (i j : ℕ) → AreParts arcs s → 1 ≤ s.parts → i < s.held → j < s.held → start_at s (s.parts - 1) ≤ i → start_at s (s.parts - 1) ≤ j → LeadsTo (Steps arcs) (path_at s i) (path_at s j)
last_strong arcs s i j h some li lj low low' =
    leads_then (Steps arcs) (path_at s i) (path_at s (start_at s (s.parts - 1))) (path_at s j) (last_together arcs s i h some li low) (h.leads (start_at s (s.parts - 1)) j low' lj)

-- each complex of the path leads to each of the last part
pub leads_last : (arcs : List Arc) (s : Ranking) (i j : ℕ) → AreParts arcs s → 1 ≤ s.parts → i < s.held → j < s.held → start_at s (s.parts - 1) ≤ j → LeadsTo (Steps arcs) (path_at s i) (path_at s j)
leads_last arcs s i j h some li lj low = elim (cases_lt i (start_at s (s.parts - 1))) [
  | inl less ↦ h.leads i j (omega (arith, less, low)) lj
  | inr ge ↦ last_strong arcs s i j h some li lj ge low
]

-- ---- what stays

pub ranked_same : (arcs : List Arc) (s t : Ranking) → t.rank.items ≡ s.rank.items → t.count ≡ s.count → AreRanked arcs s → AreRanked arcs t
ranked_same arcs s t e c h =
    let rank : (y : ℕ) → rank_at t y ≡ rank_at s y = λ y. ap (λ (l : List ℕ). get_or l y 0) e in
    record {
      room = let z = ap zeros e in let l = ap length e in omega (arith, z, l, c, h.room);
      most = λ y. let m = h.most y in omega (arith, rank y, m, c);
      falls = λ r y z a one. let f = h.falls r y z a (omega (arith, rank y, one)) in (omega (arith, rank z, f.0), omega (arith, rank y, rank z, f.1));
      strong = λ y z one q. h.strong y z (omega (arith, rank y, one)) (sym (rank y) ∙ q ∙ rank z);
    }
