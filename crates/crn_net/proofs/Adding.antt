-- What adding a reaction to the tables means for the network that they hold.
use Rattle.crn_net.proofs.Prelude.{◌≡◌, ℕ, ◌<◌, ◌≤◌, true, false, cond, List, [], ◌∷◌, ◌++◌, length, take, map, refl, sym, ap, subst, ◌∙◌, inl, inr, arith, Ok, Err, Result, ℤ, is_err, OnErr, bytes_eq, int_eq, pointwise, bytes_eq-Decides, length-map, length_push, sum_by-cons, IsIn, firsts, Net, IsPartialNetwork, IsName, sides_of, sides_eq, amount_in, amounts_in, said_by, names_in, Statement, MAX_SPECIES, MAX_COMPLEXES, MAX_REACTIONS, NetFault, SelfReaction, TooManySpecies, TooManyComplexes, TooManyReactions, NoReaction, NoMemory, Term, name_at, side_of, statement_of, IsTerm, IsSide, net_of, AreRows, with_zeros, both_with_zeros, names_with, complexes_with, reactions_with, IsSelf, Grows, AddGives, SaysSame, Built, IsOver, BuildGives, all_in, amounts_same}
use Rattle.crn_net.proofs.Amounts.{of_name}
use Rattle.crn_net.proofs.Building.{amounts_say}
use Rattle.crn_net.proofs.Growth.{Ready, complexes_are, reactions_are, left_over_limit, right_over_limit}
use Rattle.crn_net.proofs.Species.{IsSaid, Step, wider_names, new_partial, new_rows}

-- ---- the names and amounts of terms

count_said : (text : List ℕ) (terms : List Term) (t : Term) → IsIn t terms → t.count ≤ amount_in (side_of text terms) (name_at text t)
count_said text [] t i = absurd i
count_said text (x ∷ terms) t (inl e) =
    let f : List ℕ × ℕ → ℕ = λ u. cond (bytes_eq u.0 (name_at text t)) u.1 0 in
    let cons = sum_by-cons f (name_at text x, x.count) (side_of text terms) in
    let hit : bytes_eq (name_at text x) (name_at text t) ≡ true = (bytes_eq-Decides (name_at text x) (name_at text t)).1 (ap (name_at text) (sym e)) in
    let one : f (name_at text x, x.count) ≡ x.count = rw hit refl in
    let same : t.count ≡ x.count = ap (λ (u : Term). u.count) e in
    omega (arith, cons, one, same)
count_said text (x ∷ terms) t (inr i) =
    let f : List ℕ × ℕ → ℕ = λ u. cond (bytes_eq u.0 (name_at text t)) u.1 0 in
    let cons = sum_by-cons f (name_at text x, x.count) (side_of text terms) in
    let rest = count_said text terms t i in
    omega (arith, cons, rest)

side_said : (text : List ℕ) (terms : List Term) → IsSide text terms → (name : List ℕ) → IsIn name (map (λ t. t.0) (side_of text terms)) → IsName name × (1 ≤ amount_in (side_of text terms) name)
side_said text terms h name i =
    let t = of_name text terms name i in
    let is = all_in (IsTerm text) terms t.0 h.each t.1 in
    let count = count_said text terms t.0 t.1 in
    let some = is.some in
    let le : 1 ≤ amount_in (side_of text terms) (name_at text t.0) = omega (arith, count, some) in
    let P : List ℕ → Type 0 = λ n. IsName n × (1 ≤ amount_in (side_of text terms) n) in
    subst P (sym t.2) (is.name, le)

pub said_of : (text : List ℕ) (left right : List Term) → IsSide text left → IsSide text right → IsSaid (statement_of text left right)
said_of text left right l r = record { left = side_said text left l; right = side_said text right r; left_most = l.amounts; right_most = r.amounts }

-- ---- self reactions: each name has the same amount on both sides

pub self_says : (old : Net) (s : Statement) → IsSelf old s → (name : List ℕ) → amount_in s.0 name ≡ amount_in s.1 name
self_says old s h = amounts_say old.names s h

pub says_self : (old : Net) (s : Statement) → ((name : List ℕ) → amount_in s.0 name ≡ amount_in s.1 name) → IsSelf old s
says_self old s h = amounts_same (names_with old s) s.0 s.1 h

-- ---- added

abbrev complexes_for : Net → Statement → List (List ℕ) → List (List ℤ)
complexes_for old s names = firsts (pointwise int_eq) (map (with_zeros (length names)) old.complexes ++ (said_by names s).0 ∷ (said_by names s).1 ∷ [])

abbrev reactions_for : Net → Statement → List (List ℕ) → List (List ℤ × List ℤ)
reactions_for old s names = firsts sides_eq (map (λ r. both_with_zeros (length names) (sides_of old r)) old.reactions ++ said_by names s ∷ [])

abbrev pub step_of : (names : List (List ℕ)) (rows : List (List ℤ)) (reactions : List (ℕ × ℕ)) (s : Statement) (names' : List (List ℕ)) (rows' : List (List ℤ)) (reactions' : List (ℕ × ℕ)) → Ready names rows reactions → IsSaid s → (SaysSame s → ⊥) → Built names rows reactions s names' rows' reactions' → Step
step_of names rows reactions s names' rows' reactions' ready said apart b = record {
  names = names;
  rows = rows;
  reactions = reactions;
  s = s;
  names' = names';
  rows' = rows';
  reactions' = reactions';
  y = b.y;
  z = b.z;
  ready = ready;
  names_are = b.names_are;
  most = b.names_few;
  said = said;
  both = b.rows_are;
  puts = b.reactions_are;
  few = b.reactions_few;
  apart = λ e. apart (self_says (net_of names rows reactions) s (subst (λ (t : List (List ℕ)). amounts_in t s.0 ≡ amounts_in t s.1) b.names_are e));
}

pub built_grows : (names : List (List ℕ)) (rows : List (List ℤ)) (reactions : List (ℕ × ℕ)) (s : Statement) (names' : List (List ℕ)) (rows' : List (List ℤ)) (reactions' : List (ℕ × ℕ)) → Ready names rows reactions → IsSaid s → (SaysSame s → ⊥) → Built names rows reactions s names' rows' reactions'
    → Grows (net_of names rows reactions) s (net_of names' rows' reactions') × AreRows (length names') rows'
built_grows names rows reactions s names' rows' reactions' ready said apart b =
    let old = net_of names rows reactions in
    let t = step_of names rows reactions s names' rows' reactions' ready said apart b in
    let w = wider_names names names' (names_in s) ready.network.names b.names_are b.names_few in
    let complexes = complexes_are names rows reactions names' s b.y b.z rows' ready w b.rows_are in
    let all : reactions_for old s names' ≡ map (sides_of (net_of names' rows' reactions')) reactions' = reactions_are names rows reactions names' s b.y b.z rows' reactions' ready w b.rows_are b.reactions_are in
    let few_complexes : length (complexes_for old s names') ≤ MAX_COMPLEXES = let e = ap length complexes in let l = length-map rows' (take (length names')) in let f = b.rows_are.few in omega (arith, e, l, f) in
    let few_reactions : length (reactions_for old s names') ≤ MAX_REACTIONS = let e = ap length all in let l = length-map reactions' (sides_of (net_of names' rows' reactions')) in let f = b.reactions_few in omega (arith, e, l, f) in (
      record {
        names = b.names_are;
        reactions = sym all ∙ ap (reactions_for old s) b.names_are;
        network = new_partial t;
        apart = λ h. apart (self_says old s h);
        species_fit = subst (λ (u : List (List ℕ)). length u ≤ MAX_SPECIES) b.names_are b.names_few;
        complexes_fit = subst (λ (u : List (List ℕ)). length (complexes_for old s u) ≤ MAX_COMPLEXES) b.names_are few_complexes;
        reactions_fit = subst (λ (u : List (List ℕ)). length (reactions_for old s u) ≤ MAX_REACTIONS) b.names_are few_reactions;
      },
      new_rows t,
    )

over_reactions : (names : List (List ℕ)) (rows : List (List ℤ)) (reactions : List (ℕ × ℕ)) (s : Statement) → Ready names rows reactions → IsOver names rows reactions s
    → (length (complexes_with (net_of names rows reactions) s) ≤ MAX_COMPLEXES) × (MAX_REACTIONS < length (reactions_with (net_of names rows reactions) s))
over_reactions names rows reactions s ready o =
    let names' = firsts bytes_eq (names ++ names_in s) in
    let w = wider_names names names' (names_in s) ready.network.names refl o.names_few in
    let more : List (ℕ × ℕ) = reactions ++ (o.y, o.z) ∷ [] in
    let complexes = ap length (complexes_are names rows reactions names' s o.y o.z o.rows' ready w o.rows_are) in
    let l = length-map o.rows' (take (length names')) in
    let f = o.rows_are.few in
    let all = ap length (reactions_are names rows reactions names' s o.y o.z o.rows' more ready w o.rows_are (inr (o.fresh, refl))) in
    let k = length-map more (sides_of (net_of names' o.rows' more)) in
    let long = length_push reactions (o.y, o.z) in
    let full = o.full in
    (omega (arith, complexes, l, f), omega (arith, all, k, long, full))

pub build_stops : (names : List (List ℕ)) (rows : List (List ℤ)) (reactions : List (ℕ × ℕ)) (s : Statement) (names' : List (List ℕ)) (rows' : List (List ℤ)) (reactions' : List (ℕ × ℕ)) (result : Result Unit NetFault) → Ready names rows reactions → is_err result ≡ true
    → BuildGives names rows reactions s result names' rows' reactions' → AddGives (net_of names rows reactions) s result (net_of names rows reactions)
build_stops names rows reactions s names' rows' reactions' (Ok done) ready err h = absurd cc
build_stops names rows reactions s names' rows' reactions' (Err SelfReaction) ready err h = (refl, says_self (net_of names rows reactions) s h)
build_stops names rows reactions s names' rows' reactions' (Err TooManySpecies) ready err h = (refl, λ e. h.0 (self_says (net_of names rows reactions) s e), h.1)
build_stops names rows reactions s names' rows' reactions' (Err TooManyComplexes) ready err h =
    let all = firsts bytes_eq (names ++ names_in s) in
    let w = wider_names names all (names_in s) ready.network.names refl h.1 in
    (refl, record { apart = λ e. h.0 (self_says (net_of names rows reactions) s e); species_fit = h.1; complexes_many = elim h.2 [ inl o ↦ left_over_limit names rows reactions all s ready w o | inr o ↦ right_over_limit names rows reactions all s ready w o ] })
build_stops names rows reactions s names' rows' reactions' (Err TooManyReactions) ready err h =
    let o = over_reactions names rows reactions s ready h.1 in
    (refl, record { apart = λ e. h.0 (self_says (net_of names rows reactions) s e); species_fit = h.1.names_few; complexes_fit = o.0; reactions_many = o.1 })
build_stops names rows reactions s names' rows' reactions' (Err NoReaction) ready err h = h
build_stops names rows reactions s names' rows' reactions' (Err NoMemory) ready err h = refl

pub build_grows : (names : List (List ℕ)) (rows : List (List ℤ)) (reactions : List (ℕ × ℕ)) (s : Statement) (names' : List (List ℕ)) (rows' : List (List ℤ)) (reactions' : List (ℕ × ℕ)) (result : Result Unit NetFault) → Ready names rows reactions → IsSaid s → is_err result ≡ false
    → BuildGives names rows reactions s result names' rows' reactions' → AddGives (net_of names rows reactions) s result (net_of names' rows' reactions') × IsPartialNetwork (net_of names' rows' reactions') × AreRows (length names') rows'
build_grows names rows reactions s names' rows' reactions' (Ok done) ready said err h = let g = built_grows names rows reactions s names' rows' reactions' ready said h.0 h.1 in (g.0, g.0.network, g.1)
build_grows names rows reactions s names' rows' reactions' (Err e) ready said err h = absurd cc

pub at_err : {P : Type 0} (r : Result Unit NetFault) → is_err r ≡ true → OnErr r P → P
at_err (Ok done) e h = absurd cc
at_err (Err fault) e h = h
