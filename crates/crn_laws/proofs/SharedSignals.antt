-- Signals do not depend on the numbering.
use Rattle.crn_laws.proofs.Prelude.{◌≡◌, ℕ, ◌<◌, List, [], length, map, refl, sym, ap, subst, ◌∙◌, arith, ℤ, ◌-ℤ◌, Option, Some, None, range_with_len, get_or-map, length-map, length-range_with_len, Sign, Zero, Net, IsNetwork, SameStrong, IsTerminal, IsCutPair, IsFreeStep, IsOnSide, dot, entry, HasSign, IsComplex, sign, HasPairSign, shelf_at, shelf_of, AreTops, complex_of, top_at, some_is, top_inside, vector_long, zip_at, zip_from, HasSignal, IsMoved, IsRenumbered, IsVectorAnew, RenumberedShareSignals}
use Rattle.crn_laws.proofs.FirstNumbers.{Numbered, first_numbers, place_in}
use Rattle.crn_laws.proofs.Renumberings.{anew, entry_back, moved_anew, turned_net}
use Rattle.crn_laws.proofs.SharedClasses.{between_anew, cut_anew, linked_inside, terminal_anew}
use Rattle.crn_laws.proofs.SharedConfluence.{moved_back, some_anew, sums_anew}
use Rattle.crn_laws.proofs.SharedDependence.{combination_moved}
use Rattle.crn_laws.proofs.SharedWalks.{leads_anew, linked_anew, strong_anew}
use Rattle.crn_laws.proofs.Totals.{dot_moved}

-- ---- sides of cut pairs

side_anew : (net other : Net) → IsNetwork net → IsNetwork other → (h : IsRenumbered net other) (a b c : ℕ) → IsComplex other a → IsComplex other b → IsOnSide other.reactions a b c → IsOnSide net.reactions (h.complexes.back a) (h.complexes.back b) (h.complexes.back c)
side_anew net other n o h a b c la lb walk =
    let back = h.complexes.back in
    leads_anew (IsFreeStep other.reactions a b) (IsFreeStep net.reactions (back a) (back b)) back (λ y z free.
    let at = linked_inside other o y z free.0 in
    (linked_anew other net (turned_net net other n h) y z free.0, λ is. free.1 (between_anew net other h a b y z la lb at.0 at.1 is))) b c walk

-- ---- terminal classes, numbered by first appearance in the new order

abbrev again : (ℕ → ℕ) → Option ℕ → Option ℕ
again place None = None
again place (Some v) = Some (place v)

again_some : (place : ℕ → ℕ) (o : Option ℕ) (k : ℕ) → again place o ≡ Some k → (v : ℕ) × (o ≡ Some v) × (place v ≡ k)
again_some place None k e = absurd cc
again_some place (Some v) k e = (v, refl, some_is (place v) k e)

again_none : (place : ℕ → ℕ) (o : Option ℕ) → again place o ≡ None → o ≡ None
again_none place None e = refl
again_none place (Some v) e = absurd cc

record TopsAnew (net other : Net) (h : IsRenumbered net other) (tops : List (Option ℕ)) : Type 0 where
  news : List (Option ℕ)
  number : Numbered (λ z. top_at tops (h.complexes.back z)) (length other.complexes)
  is : (z : ℕ) → z < length other.complexes → top_at news z ≡ again number.place (top_at tops (h.complexes.back z))
  are : AreTops other news number.count

-- what a new number is of
record From (net other : Net) (h : IsRenumbered net other) (tops news : List (Option ℕ)) (place : ℕ → ℕ) (z k : ℕ) : Type 0 where
  inside : z < length other.complexes
  value : ℕ
  old : top_at tops (h.complexes.back z) ≡ Some value
  number_is : place value ≡ k

tops_anew : (net other : Net) → IsNetwork net → IsNetwork other → (h : IsRenumbered net other) (tops : List (Option ℕ)) (count : ℕ) → AreTops net tops count → TopsAnew net other h tops
tops_anew net other n o h tops count t =
    let d = length other.complexes in
    let to = h.complexes.to in
    let back = h.complexes.back in
    let turned = turned_net net other n h in
    let f : ℕ → Option ℕ = λ z. top_at tops (back z) in
    let b : Numbered f d = first_numbers f d in
    let range = range_with_len 0 d in
    let g : ℕ → Option ℕ = λ z. again b.place (f z) in
    let news = map g range in
    let long : length news ≡ d = length-map range g ∙ length-range_with_len 0 d in
    let is : (z : ℕ) → z < d → top_at news z ≡ g z = λ z lt.
    get_or-map g range z 0 None (omega (arith, lt, length-range_with_len 0 d)) ∙ ap g (place_in d z lt) in
    let from : (z k : ℕ) → top_at news z ≡ Some k → From net other h tops news b.place z k = λ z k e.
    let lt : z < d = omega (arith, top_inside news z k e, long) in
    let v = again_some b.place (f z) k (sym (is z lt) ∙ e) in
    record { inside = lt; value = v.0; old = v.1; number_is = v.2 } in
    let there : (z k : ℕ) → z < d → f z ≡ Some k → top_at news z ≡ Some (b.place k) = λ z k lt e. is z lt ∙ ap (again b.place) e in
    record {
      news = news;
      number = b;
      is = is;
      are = record {
        long = long;
        inside = λ z k e.
            let w = from z k e in
            subst (IsTerminal other.reactions) (h.complexes.to_back z w.inside) (terminal_anew net other n o h (back z) (h.complexes.back_below z w.inside) (t.inside (back z) w.value w.old));
        outside = λ z lt e term. t.outside (back z) (h.complexes.back_below z lt) (again_none b.place (f z) (sym (is z lt) ∙ e)) (terminal_anew other net o n turned z lt term);
        same = λ y z k ey ez.
            let v = from y k ey in
            let w = from z k ez in
            let one : v.value ≡ w.value = sym (b.at_place y v.value v.inside v.old) ∙ ap b.at (v.number_is ∙ sym w.number_is) ∙ b.at_place z w.value w.inside w.old in
            let s = strong_anew net other h (back y) (back z) (t.same (back y) (back z) w.value (v.old ∙ ap Some one) w.old) in
            subst (λ (a : ℕ). SameStrong other.reactions a z) (h.complexes.to_back y v.inside) (subst (λ (a : ℕ). SameStrong other.reactions (to (back y)) a) (h.complexes.to_back z w.inside) s);
        together = λ y z k l ey ez s.
            let v = from y k ey in
            let w = from z l ez in
            sym v.number_is ∙ ap b.place (t.together (back y) (back z) v.value w.value v.old w.old (strong_anew other net turned y z s)) ∙ w.number_is;
        numbered = λ y k j e less.
            let v = from y k e in
            let is_k = v.number_is in
            let under = b.below y v.value v.inside v.old in
            let x = b.numbered y v.value j v.inside v.old (omega (arith, less, is_k)) in
            let s = b.seen j (omega (arith, less, is_k, under)) in
            let first = x.1 in
            let inside = v.inside in
            (x.0, x.1, there x.0 (b.at j) (omega (arith, first, inside)) x.2 ∙ ap Some s.3);
        below = λ y k e. let v = from y k e in let is_k = v.number_is in let under = b.below y v.value v.inside v.old in omega (arith, is_k, under);
        each = λ k lt. let s = b.seen k lt in (s.0, there s.0 (b.at k) s.1 s.2 ∙ ap Some s.3);
      };
    }

-- ---- a signal

-- the amounts of a complex over the species
complex_moved : (net other : Net) → IsNetwork net → IsNetwork other → (h : IsRenumbered net other) (z : ℕ) → z < length other.complexes → IsMoved (length net.names) (length other.names) h.species (complex_of net (h.complexes.back z)) (complex_of other z)
complex_moved net other n o h z lt =
    let y = h.complexes.back z in
    let inside = h.complexes.back_below z lt in
    record {
      long = vector_long (length net.names) net.complexes n.partial.vectors y inside;
      long_too = vector_long (length other.names) other.complexes o.partial.vectors z lt;
      same = λ s ls. ap (λ (c : ℕ). entry (complex_of other c) (h.species.to s)) (sym (h.complexes.to_back z lt)) ∙ h.amounts y s inside ls;
    }

signal_anew : (net other : Net) → IsNetwork net → IsNetwork other → (h : IsRenumbered net other) (g k : List ℤ) → IsVectorAnew net other h g k → HasSignal net g → HasSignal other k
signal_anew net other n o h g k moved (shelves, mu, level, weights, signal) =
    let c = length net.complexes in
    let d = length other.complexes in
    let to = h.complexes.to in
    let back = h.complexes.back in
    let turned = turned_net net other n h in
    let s = signal.is in
    let tops = signal.tops in
    let t = tops_anew net other n o h tops signal.count signal.tops_are in
    let b = t.number in
    let range = range_with_len 0 b.count in
    let f : ℕ → Sign = λ j. shelf_at shelves (b.at j) in
    let new_shelves = map f range in
    let new_mu = anew (length net.names) (length other.names) h.species mu in
    let new_weights = anew (length net.reactions) (length other.reactions) h.reactions weights in
    let moved_mu = moved_anew (length net.names) (length other.names) h.species mu s.long_mu in
    let moved_weights = moved_anew (length net.reactions) (length other.reactions) h.reactions weights s.long_weights in
    let shelf : (j : ℕ) → j < b.count → shelf_at new_shelves j ≡ shelf_at shelves (b.at j) = λ j lt.
    get_or-map f range j 0 Zero (omega (arith, lt, length-range_with_len 0 b.count)) ∙ ap f (place_in b.count j lt) in
    let shelf_same : (z : ℕ) (top : Option ℕ) → z < d → top_at tops (back z) ≡ top → shelf_of new_shelves (again b.place top) ≡ shelf_of shelves top = λ z top lt.
    elim top as (λ (x : Option ℕ). top_at tops (back z) ≡ x → shelf_of new_shelves (again b.place x) ≡ shelf_of shelves x) [
      | None ↦ λ e. refl
      | Some v ↦ λ e. shelf (b.place v) (b.below z v lt e) ∙ ap (shelf_at shelves) (b.at_place z v lt e)
    ] in
    let height : (z : ℕ) → z < d → dot (complex_of other z) new_mu ≡ dot (complex_of net (back z)) mu = λ z lt.
    dot_moved (length net.names) (length other.names) h.species (complex_of net (back z)) (complex_of other z) mu new_mu (complex_moved net other n o h z lt) moved_mu in
    let count_is : length t.news ≡ d = t.are.long in
    let old_long : length tops ≡ c = signal.tops_are.long in (
      new_shelves,
      new_mu,
      level,
      new_weights,
      record {
        tops = t.news;
        count = b.count;
        tops_are = t.are;
        is = record {
          long_shelves = length-map range f ∙ length-range_with_len 0 b.count;
          long_mu = moved_mu.long_too;
          long_weights = moved_weights.long_too;
          lies = zip_from (λ (top : Option ℕ) (y : List ℤ). HasSign (shelf_of new_shelves top) (dot y new_mu -ℤ level)) None [] t.news other.complexes (sym count_is) (λ z lt.
              let inside : z < d = omega (arith, lt, count_is) in
              let below = h.complexes.back_below z inside in
              let old = zip_at (λ (top : Option ℕ) (y : List ℤ). HasSign (shelf_of shelves top) (dot y mu -ℤ level)) None [] tops net.complexes s.lies (back z) (omega (arith, below, old_long)) in
              let top : shelf_of new_shelves (top_at t.news z) ≡ shelf_of shelves (top_at tops (back z)) = ap (shelf_of new_shelves) (t.is z inside) ∙ shelf_same z (top_at tops (back z)) inside refl in
              subst (λ (x : ℤ). HasSign (shelf_of new_shelves (top_at t.news z)) (x -ℤ level)) (sym (height z inside)) (subst (λ (x : Sign). HasSign x (dot (complex_of net (back z)) mu -ℤ level)) (sym top) old));
          over_pairs = λ y z j x cut ey ez sums.
              let link = cut.linked in
              let at = linked_inside other o y z link in
              let fro : IsCutPair net.reactions (back y) (back z) = cut_anew other net o n turned (back y) (back z) (linked_anew other net turned y z link)
              (subst (λ (a : ℕ). IsCutPair other.reactions a (to (back z))) (sym (h.complexes.to_back y at.0)) (subst (λ (a : ℕ). IsCutPair other.reactions y a) (sym (h.complexes.to_back z at.1)) cut)) in
              let v = again_some b.place (top_at tops (back y)) j (sym (t.is y at.0) ∙ ey) in
              let w = again_some b.place (top_at tops (back z)) j (sym (t.is z at.1) ∙ ez) in
              let one : w.0 ≡ v.0 = sym (b.at_place z w.0 at.1 w.1) ∙ ap b.at (w.2 ∙ sym v.2) ∙ b.at_place y v.0 at.0 v.1 in
              let side : (e : ℕ) → e < c → IsOnSide net.reactions (back y) (back z) e → IsOnSide other.reactions y z (to e) = λ e le walk.
              subst (λ (a : ℕ). IsOnSide other.reactions a z (to e)) (h.complexes.to_back y at.0) (subst (λ (a : ℕ). IsOnSide other.reactions (to (back y)) a (to e)) (h.complexes.to_back z at.1)
              (side_anew other net o n turned (back y) (back z) e (h.complexes.back_below y at.0) (h.complexes.back_below z at.1) walk)) in
              let old_sums = sums_anew d c turned.complexes k g (moved_back c d h.complexes g k moved) (IsOnSide other.reactions y z) (IsOnSide net.reactions (back y) (back z))
              (λ e le walk. side_anew net other n o h y z e at.0 at.1 walk) side x sums in
              let old = s.over_pairs (back y) (back z) v.0 x fro v.1 (w.1 ∙ ap Some one) old_sums in
              let top : shelf_at new_shelves j ≡ shelf_at shelves v.0 = ap (shelf_at new_shelves) (sym v.2) ∙ shelf (b.place v.0) (b.below y v.0 at.0 v.1) ∙ ap (shelf_at shelves) (b.at_place y v.0 at.0 v.1) in
              subst (λ (p : ℤ). HasPairSign (shelf_at new_shelves j) x (p -ℤ dot (complex_of other y) new_mu)) (sym (height z at.1))
              (subst (λ (p : ℤ). HasPairSign (shelf_at new_shelves j) x (dot (complex_of net (back z)) mu -ℤ p)) (sym (height y at.0))
              (subst (λ (p : Sign). HasPairSign p x (dot (complex_of net (back z)) mu -ℤ dot (complex_of net (back y)) mu)) (sym top) old));
          some = some_anew (length net.names) (length other.names) h.species mu new_mu moved_mu s.some;
          same = λ q lt.
              ap sign (entry_back (length net.names) (length other.names) h.species mu new_mu moved_mu q lt)
              ∙ s.same (h.species.back q) (h.species.back_below q lt)
              ∙ ap sign (sym (combination_moved net other n o h weights new_weights moved_weights q lt));
        };
      },
    )

pub signals_are_shared : RenumberedShareSignals
signals_are_shared net other h g k n o moved = (
  signal_anew net other n o h g k moved,
  signal_anew other net o n (turned_net net other n h) k g (moved_back (length net.complexes) (length other.complexes) h.complexes g k moved),
)
