-- Searches, one step after another.
use Rattle.crn_graph.proofs.Prelude.{◌≡◌, ◌≢◌, ℕ, zero, suc, ◌+◌, ◌<◌, ◌≤◌, List, [], ◌∷◌, length, get_or, set, refl, sym, ap, subst, ◌∙◌, inl, inr, arith, get_or-set_other, get_or-set_same, length-set, cases_eq, cases_lt, LeadsTo, leads_then, leads_step, leads_keeps, Arc, Search, arc_at, HasArc, IsNext, Steps, zeros, label_at, up_at, depth_at, found_at, first_found, AreLong, IsBlank, IsReady, IsReach, IsSpreading, KeepsLabels, GoesOn}

-- ---- one write

pub record IsWritten (old new : List ℕ) (z v : ℕ) : Type 0 where
  pub long : length new ≡ length old
  pub here : get_or new z 0 ≡ v
  pub others : (x : ℕ) → x ≢ z → get_or new x 0 ≡ get_or old x 0

pub written : (old : List ℕ) (z v : ℕ) → z < length old → IsWritten old (set old z v) z v
written old z v lt = record { long = length-set old z v; here = get_or-set_same old z v 0 lt; others = λ x ne. get_or-set_other old z x v 0 ne }

pub zeros-set : (ls : List ℕ) (z v : ℕ) → z < length ls → get_or ls z 0 ≡ 0 → 1 ≤ v → suc (zeros (set ls z v)) ≡ zeros ls
zeros-set [] z v lt e le = absurd (omega arith)
zeros-set (zero ∷ ls) zero zero lt e le = absurd (omega arith)
zeros-set (zero ∷ ls) zero (suc v) lt e le = refl
zeros-set (suc l ∷ ls) zero v lt e le = absurd (omega arith)
zeros-set (zero ∷ ls) (suc z) v lt e le = let h = zeros-set ls z v (omega arith) e le in omega (arith, h)
zeros-set (suc l ∷ ls) (suc z) v lt e le = zeros-set ls z v (omega arith) e le

pub zeros_few : (ls : List ℕ) → zeros ls ≤ length ls
zeros_few [] = omega arith
zeros_few (zero ∷ ls) = let h = zeros_few ls in omega (arith, h)
zeros_few (suc l ∷ ls) = let h = zeros_few ls in omega (arith, h)

-- ---- the first step

-- the search t begins at a complex, after s
pub record IsBegun (s t : Search) (start label : ℕ) : Type 0 where
  pub labels : IsWritten s.label.items t.label.items start label
  pub ups : IsWritten s.up.items t.up.items start 0
  pub depths : IsWritten s.depth.items t.depth.items start 0
  pub queues : IsWritten s.queue.items t.queue.items 0 start
  pub fewer : suc (zeros t.label.items) ≡ zeros s.label.items
  pub found : t.found ≡ 1
  pub done : t.done ≡ 0
  pub newest : t.newest ≡ label

pub begun_spreads : (arcs : List Arc) (s t : Search) (start label : ℕ) → IsReady label s → start < length s.label.items → IsBegun s t start label → IsSpreading arcs t
begun_spreads arcs s t start label ready lt b =
    let only : (y : ℕ) → label_at t y ≡ t.newest → y ≡ start = λ y e. elim (cases_eq y start) [ inl f ↦ f | inr ne ↦ absurd (ready.unused y (sym (b.labels.others y ne) ∙ e ∙ b.newest)) ] in
    let first : first_found t ≡ start = b.queues.here in
    record {
      long = record {
        up = b.ups.long ∙ ready.long.up ∙ sym b.labels.long;
        depth = b.depths.long ∙ ready.long.depth ∙ sym b.labels.long;
        queue = b.queues.long ∙ ready.long.queue ∙ sym b.labels.long;
      };
      some = omega (arith, b.newest, ready.some);
      begun = omega (arith, b.found);
      order = omega (arith, b.found, b.done);
      room = omega (arith, b.found, b.fewer, zeros_few s.label.items, b.labels.long);
      queued = λ i less. let e : i ≡ 0 = omega (arith, b.found) in
          let at : found_at t i ≡ start = ap (found_at t) e ∙ first in
          (omega (arith, at, lt, b.labels.long), ap (label_at t) at ∙ b.labels.here ∙ sym b.newest);
      hangs = λ y e. let f = only y e in inl (f ∙ sym first, ap (up_at t) f ∙ b.ups.here, ap (depth_at t) f ∙ b.depths.here);
      reached = λ y e. let f = only y e in ([], first ∙ sym f);
      deep = λ y e. let f : depth_at t y ≡ 0 = ap (depth_at t) (only y e) ∙ b.depths.here in omega (arith, f, b.fewer, zeros_few s.label.items, b.labels.long);
      followed = λ y e. inr (0, omega (arith, b.done), omega (arith, b.found), first ∙ sym (only y e));
    }

pub begun_keeps : (s t : Search) (start label : ℕ) → label_at s start ≡ 0 → IsBegun s t start label → KeepsLabels label s t
begun_keeps s t start label unset b =
    let other : (y : ℕ) → 1 ≤ label_at s y → y ≢ start = λ y le e. let f : label_at s y ≡ 0 = ap (label_at s) e ∙ unset in omega (arith, f, le) in
    record {
      long = b.labels.long;
      label = λ y le. b.labels.others y (other y le);
      up = λ y le. b.ups.others y (other y le);
      depth = λ y le. b.depths.others y (other y le);
      adds = λ y e. elim (cases_eq y start) [ inl f ↦ inr (ap (label_at t) f ∙ b.labels.here) | inr ne ↦ inl (b.labels.others y ne ∙ e) ];
    }

-- ---- a complex that is found

-- the search t has found z from d by reaction r, after s
pub record HasFound (s t : Search) (d z r : ℕ) : Type 0 where
  pub labels : IsWritten s.label.items t.label.items z s.newest
  pub ups : IsWritten s.up.items t.up.items z r
  pub depths : IsWritten s.depth.items t.depth.items z (depth_at s d + 1)
  pub queues : IsWritten s.queue.items t.queue.items s.found z
  pub fewer : suc (zeros t.label.items) ≡ zeros s.label.items
  pub found : t.found ≡ s.found + 1
  pub done : t.done ≡ s.done
  pub newest : t.newest ≡ s.newest

pub found_spreads : (arcs : List Arc) (s t : Search) (d z r : ℕ) → IsSpreading arcs s → HasArc arcs r d z → label_at s d ≡ s.newest → z < length s.label.items → label_at s z ≡ 0 → HasFound s t d z r → IsSpreading arcs t
found_spreads arcs s t d z r h arc its lt unset f =
    let other : (y : ℕ) → label_at s y ≡ s.newest → y ≢ z = λ y e g. let nought : label_at s y ≡ 0 = ap (label_at s) g ∙ unset in omega (arith, nought, e, h.some) in
    let kept : (y : ℕ) → label_at s y ≡ s.newest → label_at t y ≡ t.newest = λ y e. f.labels.others y (other y e) ∙ e ∙ sym f.newest in
    let old : (y : ℕ) → y ≢ z → label_at t y ≡ t.newest → label_at s y ≡ s.newest = λ y ne e. sym (f.labels.others y ne) ∙ e ∙ f.newest in
    let rises : (y : ℕ) → 1 ≤ label_at s y → 1 ≤ label_at t y = λ y le. elim (cases_eq y z) [ inl e ↦ let nought : label_at s y ≡ 0 = ap (label_at s) e ∙ unset in omega (arith, nought, le) | inr ne ↦ let e = f.labels.others y ne in omega (arith, e, le) ] in
    let queue : (i : ℕ) → i < s.found → found_at t i ≡ found_at s i = λ i less. f.queues.others i (omega (arith, less)) in
    let first : first_found t ≡ first_found s = queue 0 (omega (arith, h.begun)) in
    let last : found_at t s.found ≡ z = f.queues.here in
    let deeper : depth_at t z ≡ suc (depth_at t d) = f.depths.here ∙ (let e = f.depths.others d (other d its) in omega (arith, e)) in
    record {
      long = record {
        up = f.ups.long ∙ h.long.up ∙ sym f.labels.long;
        depth = f.depths.long ∙ h.long.depth ∙ sym f.labels.long;
        queue = f.queues.long ∙ h.long.queue ∙ sym f.labels.long;
      };
      some = omega (arith, f.newest, h.some);
      begun = omega (arith, f.found);
      order = omega (arith, f.found, f.done, h.order);
      room = omega (arith, f.found, f.fewer, h.room, f.labels.long);
      queued = λ i less. elim (cases_eq i s.found) [
        | inl e ↦ let at : found_at t i ≡ z = ap (found_at t) e ∙ last in (omega (arith, at, lt, f.labels.long), ap (label_at t) at ∙ f.labels.here ∙ sym f.newest)
        | inr ne ↦ let early : i < s.found = omega (arith, f.found, less, ne) in
            let q = h.queued i early in
            (omega (arith, queue i early, q.0, f.labels.long), ap (label_at t) (queue i early) ∙ kept (found_at s i) q.1)
      ];
      hangs = λ y e. elim (cases_eq y z) [
        | inl g ↦ inr (
          λ k. other (first_found s) (h.queued 0 (omega (arith, h.begun))).1 (sym first ∙ sym k ∙ g),
          record {
            d = d;
            its = kept d its;
            by_arc = subst (λ (k : ℕ). HasArc arcs (up_at t k) d k) (sym g) (subst (λ (q : ℕ). HasArc arcs q d z) (sym f.ups.here) arc);
            deeper = ap (depth_at t) g ∙ deeper;
          },
        )
        | inr ne ↦ let up = f.ups.others y ne in
            let depth = f.depths.others y ne in
            elim (h.hangs y (old y ne e)) [
              | inl k ↦ inl (k.0 ∙ sym first, up ∙ k.1, depth ∙ k.2)
              | inr k ↦ inr (
                λ q. k.0 (q ∙ first),
                record {
                  d = k.1.d;
                  its = kept k.1.d k.1.its;
                  by_arc = subst (λ (q : ℕ). HasArc arcs q k.1.d y) (sym up) k.1.by_arc;
                  deeper = depth ∙ k.1.deeper ∙ ap suc (sym (f.depths.others k.1.d (other k.1.d k.1.its)));
                },
              )
            ]
      ];
      reached = λ y e. subst (λ (k : ℕ). LeadsTo (Steps arcs) k y) (sym first) (elim (cases_eq y z) [
        | inl g ↦ subst (LeadsTo (Steps arcs) (first_found s)) (sym g) (leads_then (Steps arcs) (first_found s) d z (h.reached d its) (leads_step (Steps arcs) d z (r, arc)))
        | inr ne ↦ h.reached y (old y ne e)
      ]);
      deep = λ y e. elim (cases_eq y z) [
        | inl g ↦ let a = ap (depth_at t) g ∙ f.depths.here in omega (arith, a, h.deep d its, f.fewer, f.labels.long)
        | inr ne ↦ let a = f.depths.others y ne in omega (arith, a, h.deep y (old y ne e), f.fewer, f.labels.long)
      ];
      followed = λ y e. elim (cases_eq y z) [
        | inl g ↦ inr (s.found, omega (arith, f.done, h.order), omega (arith, f.found), last ∙ sym g)
        | inr ne ↦ elim (h.followed y (old y ne e)) [
          | inl k ↦ inl (λ q w a. rises w (k q w a))
          | inr k ↦ inr (k.0, omega (arith, f.done, k.1), omega (arith, f.found, k.2), queue k.0 k.2 ∙ k.3)
        ]
      ];
    }

-- if a complex has no label, not all places of the queue are taken
pub room_left : (arcs : List Arc) (s : Search) (z : ℕ) → IsSpreading arcs s → z < length s.label.items → label_at s z ≡ 0 → s.found < length s.label.items
room_left arcs s z h lt unset = let fewer = zeros-set s.label.items z 1 lt unset (omega arith) in omega (arith, fewer, h.room)

pub has_found : (s t : Search) (d z r x : ℕ) → AreLong s → 1 ≤ s.newest → s.found < length s.label.items → z < length s.label.items → label_at s z ≡ 0 → x ≡ depth_at s d
    → t.label.items ≡ set s.label.items z s.newest → t.up.items ≡ set s.up.items z r → t.depth.items ≡ set s.depth.items z (x + 1) → t.queue.items ≡ set s.queue.items s.found z → t.found ≡ s.found + 1 → t.done ≡ s.done → t.newest ≡ s.newest → HasFound s t d z r
has_found s t d z r x long some room lt unset depth label up deep queue found done newest = record {
  labels = rw label (written s.label.items z s.newest lt);
  ups = rw up (written s.up.items z r (omega (arith, lt, long.up)));
  depths = rw (deep, depth) (written s.depth.items z (depth_at s d + 1) (omega (arith, lt, long.depth)));
  queues = rw queue (written s.queue.items s.found z (omega (arith, room, long.queue)));
  fewer = rw label (zeros-set s.label.items z s.newest lt unset some);
  found = found;
  done = done;
  newest = newest;
}

pub found_on : (s t : Search) (d z r : ℕ) → label_at s z ≡ 0 → HasFound s t d z r → GoesOn s t
found_on s t d z r unset f =
    let other : (y : ℕ) → 1 ≤ label_at s y → y ≢ z = λ y le e. let g : label_at s y ≡ 0 = ap (label_at s) e ∙ unset in omega (arith, g, le) in
    record {
      labels = record {
        long = f.labels.long;
        label = λ y le. f.labels.others y (other y le);
        up = λ y le. f.ups.others y (other y le);
        depth = λ y le. f.depths.others y (other y le);
        adds = λ y e. elim (cases_eq y z) [ inl g ↦ inr (ap (label_at t) g ∙ f.labels.here) | inr ne ↦ inl (f.labels.others y ne ∙ e) ];
      };
      newest = f.newest;
      found = omega (arith, f.found);
      count = omega (arith, f.found, f.fewer);
      queue = λ i lt. f.queues.others i (omega (arith, lt));
    }

-- ---- a complex whose arcs are followed

pub followed_spreads : (arcs : List Arc) (s : Search) (y : ℕ) → IsSpreading arcs s → s.done < s.found → found_at s s.done ≡ y → ((p : ℕ) → p < length arcs → (arc_at arcs p).from ≡ y → 1 ≤ label_at s (arc_at arcs p).to) → IsSpreading arcs (record s { done = s.done + 1 })
followed_spreads arcs s y h lt at all = record {
  long = record { up = h.long.up; depth = h.long.depth; queue = h.long.queue };
  some = h.some;
  begun = h.begun;
  order = omega (arith, lt);
  room = h.room;
  queued = h.queued;
  hangs = λ w e. elim (h.hangs w e) [
    | inl k ↦ inl k
    | inr k ↦ inr (k.0, record { d = k.1.d; its = k.1.its; by_arc = k.1.by_arc; deeper = k.1.deeper })
  ];
  reached = h.reached;
  deep = h.deep;
  followed = λ w e. elim (h.followed w e) [
    | inl k ↦ inl k
    | inr k ↦ elim (cases_eq k.0 s.done) [
      | inl q ↦ let same : w ≡ y = sym k.3 ∙ ap (found_at s) q ∙ at in
          inl (λ r z a. subst (λ (v : ℕ). 1 ≤ label_at s v) a.to_is (all a.place a.inside (a.from_is ∙ same)))
      | inr ne ↦ inr (k.0, omega (arith, k.1, ne), k.2, k.3)
    ]
  ];
}

-- ---- steps that are joined

pub keeps_then : (n : ℕ) (s t u : Search) → 1 ≤ n → KeepsLabels n s t → KeepsLabels n t u → KeepsLabels n s u
keeps_then n s t u some p q =
    let up : (y : ℕ) → 1 ≤ label_at s y → 1 ≤ label_at t y = λ y le. let e = p.label y le in omega (arith, e, le) in
    record {
      long = q.long ∙ p.long;
      label = λ y le. q.label y (up y le) ∙ p.label y le;
      up = λ y le. q.up y (up y le) ∙ p.up y le;
      depth = λ y le. q.depth y (up y le) ∙ p.depth y le;
      adds = λ y e. elim (p.adds y e) [ inl f ↦ q.adds y f | inr f ↦ inr (q.label y (omega (arith, f, some)) ∙ f) ];
    }

pub on_then : (s t u : Search) → 1 ≤ s.newest → GoesOn s t → GoesOn t u → GoesOn s u
on_then s t u some p q = record {
  labels = keeps_then s.newest s t u some p.labels (subst (λ (n : ℕ). KeepsLabels n t u) p.newest q.labels);
  newest = q.newest ∙ p.newest;
  found = omega (arith, p.found, q.found);
  count = q.count ∙ p.count;
  queue = λ i lt. q.queue i (omega (arith, lt, p.found)) ∙ p.queue i lt;
}

pub on_here : (s : Search) → GoesOn s s
on_here s = record {
  labels = record { long = refl; label = λ y le. refl; up = λ y le. refl; depth = λ y le. refl; adds = λ y e. inl e };
  newest = refl;
  found = omega arith;
  count = refl;
  queue = λ i lt. refl;
}

-- only the number of complexes whose arcs are followed changes
pub on_done : (s t : Search) (n : ℕ) → GoesOn s t → GoesOn s (record t { done = n })
on_done s t n h = record {
  labels = record { long = h.labels.long; label = h.labels.label; up = h.labels.up; depth = h.labels.depth; adds = h.labels.adds };
  newest = h.newest;
  found = h.found;
  count = h.count;
  queue = h.queue;
}

-- ---- the chain of a complex

-- the arcs from y that are at a chain or after it lead to complexes with labels
pub record IsPast (arcs : List Arc) (s : Search) (y chain : ℕ) : Type 0 where
  pub inside : chain ≤ length arcs
  pub its_own : (p : ℕ) → p + 1 ≡ chain → (arc_at arcs p).from ≡ y
  pub past : (p : ℕ) → chain ≤ p → p < length arcs → (arc_at arcs p).from ≡ y → 1 ≤ label_at s (arc_at arcs p).to

pub past_none : (arcs : List Arc) (s : Search) (y chain : ℕ) → IsNext arcs y (length arcs) chain → IsPast arcs s y chain
past_none arcs s y chain h = record { inside = h.inside; its_own = h.its_own; past = λ p le lt e. absurd (h.others p le lt e) }

pub past_more : (arcs : List Arc) (s t : Search) (y place chain : ℕ) → IsPast arcs s y (place + 1) → GoesOn s t → 1 ≤ label_at t (arc_at arcs place).to → IsNext arcs (arc_at arcs place).from place chain → IsPast arcs t y chain
past_more arcs s t y place chain h on here next =
    let from : (arc_at arcs place).from ≡ y = h.its_own place refl in
    record {
      inside = omega (arith, h.inside, next.inside);
      its_own = λ p e. next.its_own p e ∙ from;
      past = λ p le lt e. elim (cases_eq p place) [
        | inl f ↦ subst (λ (k : ℕ). 1 ≤ label_at t (arc_at arcs k).to) (sym f) here
        | inr ne ↦ elim (cases_lt p place) [
          | inl less ↦ absurd (next.others p le less (e ∙ sym from))
          | inr more ↦ let q = h.past p (omega (arith, more, ne)) lt e in let same = on.labels.label (arc_at arcs p).to q in omega (arith, q, same)
        ]
      ];
    }

-- a complex of the queue has the newest label
pub queued_label : (arcs : List Arc) (s t : Search) (i : ℕ) → IsSpreading arcs s → GoesOn s t → i < s.found → label_at t (found_at s i) ≡ t.newest
queued_label arcs s t i h on lt =
    let q = (h.queued i lt).1 in
    on.labels.label (found_at s i) (omega (arith, q, h.some)) ∙ q ∙ sym on.newest

-- ---- all that is reached

zeros_of : (ls : List ℕ) → ((y : ℕ) → get_or ls y 0 ≡ 0) → zeros ls ≡ length ls
zeros_of [] h = refl
zeros_of (zero ∷ ls) h = ap suc (zeros_of ls (λ y. h (suc y)))
zeros_of (suc l ∷ ls) h = absurd (let e = h 0 in omega (arith, e))

pub blank_ready : (n : ℕ) (s : Search) → IsBlank n s → IsReady 1 s
blank_ready n s h = record { long = h.long; some = omega arith; unused = λ y e. omega (arith, h.none y, e) }

pub reach_of : (arcs : List Arc) (n : ℕ) (s t : Search) (c : ℕ) → IsBlank n s → IsSpreading arcs t → t.done ≡ t.found → KeepsLabels 1 s t → t.newest ≡ 1 → first_found t ≡ c → t.found + zeros t.label.items ≡ zeros s.label.items → IsReach arcs t c
reach_of arcs n s t c blank h all keeps newest start count =
    let its : (y : ℕ) → 1 ≤ label_at t y → label_at t y ≡ t.newest = λ y le. elim (keeps.adds y (blank.none y)) [ inl e ↦ absurd (omega (arith, e, le)) | inr e ↦ e ∙ sym newest ] in
    let first : 1 ≤ label_at t c = let q = (h.queued 0 (omega (arith, h.begun))).1 in let e = ap (label_at t) start in omega (arith, q, e, newest) in
    let on : (v w : ℕ) → Steps arcs v w → 1 ≤ label_at t v → 1 ≤ label_at t w = λ v w step le. elim (h.followed v (its v le)) [ inl f ↦ f step.0 w step.1 | inr q ↦ absurd (omega (arith, q.1, q.2, all)) ] in
    record {
      long = h.long;
      found = λ y le. subst (λ (v : ℕ). LeadsTo (Steps arcs) v y) start (h.reached y (its y le));
      all = λ y walk. leads_keeps (Steps arcs) (λ v. 1 ≤ label_at t v) on c y walk first;
      hangs = λ y le. elim (h.hangs y (its y le)) [
        | inl g ↦ inl (g.0 ∙ start, g.1, g.2)
        | inr g ↦ inr (λ e. g.0 (e ∙ sym start), record { d = g.1.d; its = omega (arith, g.1.its, newest); by_arc = g.1.by_arc; deeper = g.1.deeper })
      ];
      deep = λ y le. let d = h.deep y (its y le) in omega (arith, d);
      size = count ∙ zeros_of s.label.items blank.none ∙ sym keeps.long;
    }
