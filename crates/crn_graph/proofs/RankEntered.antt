-- A complex that comes to the path keeps what a ranking is.
use Rattle.crn_graph.proofs.Prelude.{◌≡◌, ◌≢◌, ℕ, suc, ◌+◌, ◌-◌, ◌<◌, ◌≤◌, List, length, get_or, refl, sym, ap, subst, ◌∙◌, inl, inr, arith, cases_eq, LeadsTo, leads_here, Arc, Ranking, arc_at, Steps, zeros, rank_at, place_at, path_at, start_at, open_at, rest_at, IsRest, IsOnPath, IsSettled, IsPath, AreParts, AreFollowed, AreOpen, IsRanking, KeepsPlaces, HasEntered}
use Rattle.crn_graph.proofs.SearchLaws.{IsWritten, written, zeros-set}
use Rattle.crn_graph.proofs.RankCounts.{few_parts, few_open, path_room, ranked_same}

-- ---- a complex that comes to the path

-- the complex y is new, and all of the path leads to it
pub record IsEntered (arcs : List Arc) (s t : Ranking) (y : ℕ) : Type 0 where
  pub old : IsRanking arcs s
  pub inside : y < length s.rank.items
  pub free : place_at s y ≡ 0
  pub reached : (i : ℕ) → i < s.held → LeadsTo (Steps arcs) (path_at s i) y
  pub entered : HasEntered s t y

pub record Writes (s t : Ranking) (y : ℕ) : Type 0 where
  pub places : IsWritten s.place.items t.place.items y (s.held + 1)
  pub paths : IsWritten s.path.items t.path.items s.held y
  pub starts : IsWritten s.start.items t.start.items s.parts s.held
  pub opens : IsWritten s.waiting.items t.waiting.items s.left y
  pub fewer : suc (zeros t.place.items) ≡ zeros s.place.items
  pub rank : (x : ℕ) → rank_at t x ≡ rank_at s x
  pub rest : (x : ℕ) → rest_at t x ≡ rest_at s x
  pub room : s.held < length s.rank.items

pub writes : (arcs : List Arc) (s t : Ranking) (y : ℕ) → IsEntered arcs s t y → Writes s t y
writes arcs s t y h =
    let e = h.entered in
    let long = h.old.long in
    let room = path_room s y long h.old.path h.inside h.free in
    let parts = few_parts arcs s h.old.parts in
    let left = few_open s h.old.path h.old.opened in
    let lt : y < length s.place.items = omega (arith, h.inside, long.place) in
    record {
      places = subst (λ (l : List ℕ). IsWritten s.place.items l y (s.held + 1)) (sym e.place) (written s.place.items y (s.held + 1) lt);
      paths = subst (λ (l : List ℕ). IsWritten s.path.items l s.held y) (sym e.path) (written s.path.items s.held y (omega (arith, room, long.path)));
      starts = subst (λ (l : List ℕ). IsWritten s.start.items l s.parts s.held) (sym e.start) (written s.start.items s.parts s.held (omega (arith, room, parts, long.start)));
      opens = subst (λ (l : List ℕ). IsWritten s.waiting.items l s.left y) (sym e.waiting) (written s.waiting.items s.left y (omega (arith, room, left, long.waiting)));
      fewer = ap (λ (l : List ℕ). suc (zeros l)) e.place ∙ zeros-set s.place.items y (s.held + 1) lt h.free (omega arith);
      rank = λ x. ap (λ (l : List ℕ). get_or l x 0) e.rank;
      rest = λ x. ap (λ (l : List ℕ). get_or l x 0) e.rest;
      room = room;
    }

-- a complex that was reached is another
pub other_than : (s : Ranking) (x y : ℕ) → 1 ≤ place_at s x → place_at s y ≡ 0 → x ≢ y
other_than s x y le free e = let f = ap (place_at s) e in omega (arith, f, free, le)

old_on : (arcs : List Arc) (s t : Ranking) (x y : ℕ) → IsEntered arcs s t y → Writes s t y → x ≢ y → IsOnPath t x → IsOnPath s x
old_on arcs s t x y h w ne on = (let e = w.places.others x ne in omega (arith, e, on.0), sym (w.rank x) ∙ on.1)

entered_path : (arcs : List Arc) (s t : Ranking) (y : ℕ) → IsEntered arcs s t y → Writes s t y → IsPath t
entered_path arcs s t y h w =
    let p = h.old.path in
    let e = h.entered in
    let size = ap length e.rank in
    let index : (i : ℕ) → i < t.held → i ≢ s.held → i < s.held = λ i lt ne. omega (arith, lt, ne, e.held) in
    let same : (i : ℕ) → i ≢ s.held → path_at t i ≡ path_at s i = λ i ne. w.paths.others i ne in
    let last : (i : ℕ) → i ≡ s.held → path_at t i ≡ y = λ i q. ap (path_at t) q ∙ w.paths.here in
    let known : (i : ℕ) → i < s.held → path_at s i ≢ y = λ i lt. other_than s (path_at s i) y (let q = p.placed i lt in omega (arith, q)) h.free in
    record {
      inside = λ i lt. elim (cases_eq i s.held) [
        | inl q ↦ let f = last i q in omega (arith, f, size, h.inside)
        | inr ne ↦ let f = same i ne in let g = p.inside i (index i lt ne) in omega (arith, f, g, size)
      ];
      placed = λ i lt. elim (cases_eq i s.held) [
        | inl q ↦ ap (place_at t) (last i q) ∙ w.places.here ∙ omega (arith, q)
        | inr ne ↦ let less = index i lt ne in ap (place_at t) (same i ne) ∙ w.places.others (path_at s i) (known i less) ∙ p.placed i less
      ];
      unranked = λ i lt. elim (cases_eq i s.held) [
        | inl q ↦ w.rank (path_at t i) ∙ ap (rank_at s) (last i q) ∙ p.fresh y h.free
        | inr ne ↦ w.rank (path_at t i) ∙ ap (rank_at s) (same i ne) ∙ p.unranked i (index i lt ne)
      ];
      on = λ x on. elim (cases_eq x y) [
        | inl q ↦
            let place : place_at t x ≡ s.held + 1 = ap (place_at t) q ∙ w.places.here in
            (omega (arith, place, e.held), last (place_at t x - 1) (omega (arith, place)) ∙ sym q)
        | inr ne ↦
            let place = w.places.others x ne in
            let old = old_on arcs s t x y h w ne on in
            let f = p.on x old in
            let at : place_at t x - 1 ≡ place_at s x - 1 = ap (λ (v : ℕ). v - 1) place in
            (omega (arith, place, f.0, e.held), ap (path_at t) at ∙ same (place_at s x - 1) (omega (arith, f.0, old.0)) ∙ f.1)
      ];
      fresh = λ x free. elim (cases_eq x y) [
        | inl q ↦ absurd (let f = ap (place_at t) q in omega (arith, f, free, w.places.here))
        | inr ne ↦ w.rank x ∙ p.fresh x (sym (w.places.others x ne) ∙ free)
      ];
      room = omega (arith, w.fewer, p.room, e.held, size);
    }

entered_parts : (arcs : List Arc) (s t : Ranking) (y : ℕ) → IsEntered arcs s t y → Writes s t y → AreParts arcs t
entered_parts arcs s t y h w =
    let p = h.old.parts in
    let e = h.entered in
    let S = Steps arcs in
    let few = few_parts arcs s p in
    let same : (i : ℕ) → i < s.held → path_at t i ≡ path_at s i = λ i lt. w.paths.others i (omega (arith, lt)) in
    let last : (i : ℕ) → i ≡ s.held → path_at t i ≡ y = λ i q. ap (path_at t) q ∙ w.paths.here in
    let begins : (j : ℕ) → j ≢ s.parts → start_at t j ≡ start_at s j = λ j ne. w.starts.others j ne in
    let newest : (j : ℕ) → j ≡ s.parts → start_at t j ≡ s.held = λ j q. ap (start_at t) q ∙ w.starts.here in
    record {
      first = λ some. elim (cases_eq s.parts 0) [
        | inl q ↦ newest 0 (sym q) ∙ p.some q
        | inr ne ↦ begins 0 (λ q. ne (sym q)) ∙ p.first (omega (arith, ne))
      ];
      some = λ none. absurd (omega (arith, none, e.parts));
      inside = λ j lt. elim (cases_eq j s.parts) [
        | inl q ↦ let f = newest j q in (omega (arith, f, q, few), omega (arith, f, e.held))
        | inr ne ↦ let f = begins j ne in let g = p.inside j (omega (arith, lt, ne, e.parts)) in (omega (arith, f, g.0), omega (arith, f, g.1, e.held))
      ];
      rising = λ i j less lt. elim (cases_eq j s.parts) [
        | inl q ↦ let f = newest j q in let g = begins i (omega (arith, less, q)) in let k = p.inside i (omega (arith, less, q)) in omega (arith, f, g, k.1)
        | inr ne ↦ let f = begins j ne in let g = begins i (omega (arith, less, lt, ne, e.parts)) in let k = p.rising i j less (omega (arith, lt, ne, e.parts)) in omega (arith, f, g, k)
      ];
      leads = λ i j le lt. elim (cases_eq j s.held) [
        | inl q ↦ elim (cases_eq i s.held) [
          | inl q' ↦ subst (λ (v : ℕ). LeadsTo S (path_at t i) v) (last i q' ∙ sym (last j q)) (leads_here S (path_at t i))
          | inr ne ↦
              let less : i < s.held = omega (arith, le, q, ne) in
              subst (λ (v : ℕ). LeadsTo S v (path_at t j)) (sym (same i less)) (subst (λ (v : ℕ). LeadsTo S (path_at s i) v) (sym (last j q)) (h.reached i less))
        ]
        | inr ne ↦
            let less : j < s.held = omega (arith, lt, ne, e.held) in
            subst (λ (v : ℕ). LeadsTo S v (path_at t j)) (sym (same i (omega (arith, le, less)))) (subst (λ (v : ℕ). LeadsTo S (path_at s i) v) (sym (same j less)) (p.leads i j le less))
      ];
      together = λ i j li lj low none. elim (cases_eq j s.parts) [
        | inl q ↦
            let f = newest j q in
            let at : start_at t j ≡ i = omega (arith, f, low, li, e.held) in
            subst (λ (v : ℕ). LeadsTo S (path_at t i) (path_at t v)) (sym at) (leads_here S (path_at t i))
        | inr ne ↦
            let lj' : j < s.parts = omega (arith, lj, ne, e.parts) in
            let less : i < s.held = let f = newest s.parts refl in let g = none s.parts lj' (omega (arith, e.parts)) in omega (arith, f, g) in
            let f = begins j ne in
            let start : start_at s j ≤ i = omega (arith, f, low) in
            let walk = p.together i j less lj' start (λ k more lk. let g = none k more (omega (arith, lk, e.parts)) in let b = begins k (omega (arith, lk)) in omega (arith, g, b)) in
            subst (λ (v : ℕ). LeadsTo S v (path_at t (start_at t j))) (sym (same i less))
            (subst (λ (v : ℕ). LeadsTo S (path_at s i) (path_at t v)) (sym f)
            (subst (λ (v : ℕ). LeadsTo S (path_at s i) v) (sym (same (start_at s j) (p.inside j lj').1)) walk))
      ];
    }

entered_arcs : (arcs : List Arc) (s t : Ranking) (y : ℕ) → IsEntered arcs s t y → Writes s t y → AreFollowed arcs t
entered_arcs arcs s t y h w =
    let a = h.old.steps in
    let e = h.entered in
    let size = ap length e.rank in
    let from : ℕ → ℕ = λ p. (arc_at arcs p).from in
    let to : ℕ → ℕ = λ p. (arc_at arcs p).to in
    record {
      rests = λ x lt. subst (IsRest arcs x) (sym (w.rest x)) (a.rests x (omega (arith, lt, size)));
      untouched = λ p lt free. elim (cases_eq (from p) y) [
        | inl q ↦ absurd (let f = ap (place_at t) q in omega (arith, f, free, w.places.here))
        | inr ne ↦ let g = a.untouched p lt (sym (w.places.others (from p) ne) ∙ free) in let r = w.rest (from p) in omega (arith, g, r)
      ];
      followed = λ p lt on. elim (cases_eq (from p) y) [
        | inl q ↦ inl (let g = a.untouched p lt (ap (place_at s) q ∙ h.free) in let r = w.rest (from p) in omega (arith, g, r))
        | inr ne ↦ elim (a.followed p lt (old_on arcs s t (from p) y h w ne on)) [
          | inl g ↦ inl (let r = w.rest (from p) in omega (arith, g, r))
          | inr (inl g) ↦ inr (inl (let r = w.rank (to p) in omega (arith, g, r)))
          | inr (inr g) ↦
              let other = w.places.others (to p) (other_than s (to p) y g.0 h.free) in
              let mine = w.places.others (from p) ne in
              inr (inr (
                omega (arith, g.0, other),
                λ j lj less. elim (cases_eq j s.parts) [
                  | inl q ↦ absurd (
                      let f : start_at t j ≡ s.held = ap (start_at t) q ∙ w.starts.here in
                      let b = h.old.path.on (from p) (old_on arcs s t (from p) y h w ne on) in
                      omega (arith, f, less, b.0, mine))
                  | inr nj ↦ let f = w.starts.others j nj in let k = g.1 j (omega (arith, lj, nj, e.parts)) (omega (arith, f, less, mine)) in omega (arith, k, f, other)
                ],
              ))
        ]
      ];
    }

entered_open : (arcs : List Arc) (s t : Ranking) (y : ℕ) → IsEntered arcs s t y → Writes s t y → AreOpen t
entered_open arcs s t y h w =
    let o = h.old.opened in
    let e = h.entered in
    let few = few_open s h.old.path o in
    let same : (i : ℕ) → i < s.left → open_at t i ≡ open_at s i = λ i lt. w.opens.others i (omega (arith, lt)) in
    let last : (i : ℕ) → i ≡ s.left → open_at t i ≡ y = λ i q. ap (open_at t) q ∙ w.opens.here in
    let place : (i : ℕ) → i < s.left → place_at t (open_at t i) ≡ place_at s (open_at s i) = λ i lt. ap (place_at t) (same i lt) ∙ w.places.others (open_at s i) (other_than s (open_at s i) y (o.on i lt).0 h.free) in
    let newest : (i : ℕ) → i ≡ s.left → place_at t (open_at t i) ≡ s.held + 1 = λ i q. ap (place_at t) (last i q) ∙ w.places.here in
    record {
      on = λ i lt. elim (cases_eq i s.left) [
        | inl q ↦ let f = newest i q in (omega (arith, f), w.rank (open_at t i) ∙ ap (rank_at s) (last i q) ∙ h.old.path.fresh y h.free)
        | inr ne ↦
            let less : i < s.left = omega (arith, lt, ne, e.left) in
            let old = o.on i less in
            let f = place i less in
            (omega (arith, f, old.0), w.rank (open_at t i) ∙ ap (rank_at s) (same i less) ∙ old.1)
      ];
      places = λ i lt. elim (cases_eq i s.left) [
        | inl q ↦ let f = newest i q in omega (arith, f, q, few)
        | inr ne ↦ let less : i < s.left = omega (arith, lt, ne, e.left) in let f = place i less in let g = o.places i less in omega (arith, f, g)
      ];
      order = λ i j less lt. elim (cases_eq j s.left) [
        | inl q ↦
            let li : i < s.left = omega (arith, less, q) in
            let f = newest j q in
            let g = place i li in
            let b = h.old.path.on (open_at s i) (o.on i li) in
            omega (arith, f, g, b.0)
        | inr ne ↦
            let lj : j < s.left = omega (arith, lt, ne, e.left) in
            let li : i < s.left = omega (arith, less, lj) in
            let f = place j lj in
            let g = place i li in
            let k = o.order i j less lj in
            omega (arith, f, g, k)
      ];
      waits = λ x on. elim (cases_eq x y) [
        | inl q ↦ inr (s.left, omega (arith, e.left), w.opens.here ∙ sym q)
        | inr ne ↦ elim (o.waits x (old_on arcs s t x y h w ne on)) [
          | inl g ↦ inl (w.rest x ∙ g)
          | inr g ↦ inr (g.0, omega (arith, g.1, e.left), same g.0 g.1 ∙ g.2)
        ]
      ];
    }

pub entered_ranks : (arcs : List Arc) (s t : Ranking) (y : ℕ) → IsEntered arcs s t y → IsRanking arcs t
entered_ranks arcs s t y h =
    let w = writes arcs s t y h in
    let e = h.entered in
    let size = ap length e.rank in
    let long = h.old.long in
    record {
      long = record {
        rank = refl;
        place = w.places.long ∙ long.place ∙ sym size;
        path = w.paths.long ∙ long.path ∙ sym size;
        start = w.starts.long ∙ long.start ∙ sym size;
        waiting = w.opens.long ∙ long.waiting ∙ sym size;
        rest = ap length e.rest ∙ long.rest ∙ sym size;
      };
      path = entered_path arcs s t y h w;
      parts = entered_parts arcs s t y h w;
      steps = entered_arcs arcs s t y h w;
      ranked = ranked_same arcs s t e.rank e.count h.old.ranked;
      opened = entered_open arcs s t y h w;
    }

pub entered_keeps : (arcs : List Arc) (s t : Ranking) (y : ℕ) → IsEntered arcs s t y → KeepsPlaces s t
entered_keeps arcs s t y h =
    let w = writes arcs s t y h in
    record {
      long = ap length h.entered.rank;
      reached = λ x le. let e = w.places.others x (other_than s x y le h.free) in omega (arith, e, le);
    }

pub entered_place : (arcs : List Arc) (s t : Ranking) (y : ℕ) → IsEntered arcs s t y → place_at t y ≡ s.held + 1
entered_place arcs s t y h = (writes arcs s t y h).places.here

pub entered_settled : (arcs : List Arc) (s t : Ranking) (x y : ℕ) → IsEntered arcs s t y → IsSettled t x y
entered_settled arcs s t x y h =
    let w = writes arcs s t y h in
    let p = entered_parts arcs s t y h w in
    let e = h.entered in
    inr (omega (arith, w.places.here), λ j lt less. let b = p.inside j lt in omega (arith, b.1, e.held, w.places.here))
