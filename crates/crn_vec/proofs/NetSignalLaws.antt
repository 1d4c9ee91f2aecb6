-- Signals of a network and its shape: the shape is one, positive multiples share signals, and a signal gives a feasible prefix.
use Rattle.crn_vec.proofs.Prelude.{◌≡◌, ℕ, zero, suc, ◌<◌, ◌⊎◌, inl, inr, List, [], ◌∷◌, length, get_or, map, refl, sym, ap, subst, ◌∙◌, arith, ℤ, pos, negsuc, ◌-ℤ◌, ◌*ℤ◌, ◌≤ℤ◌, ◌<ℤ◌, Option, Some, None, slice_index_or, AllZip, AllByRecursion, ints, get_or-map, length-map, ext_get_or, Sign, Zero, Plus, Minus, IsIn, dot, entry, HasSign, Net, IsNetwork, SameStrong, IsOnSide, IsTerminalPair, IsFirstOfPair, SumsTo, IsComplex, IsRegular, reaction_system, opposite, sign, image, Pair, Shape, complex_at, shelf_at, shelf_of, HasPairSign, IsSignal, top_at, AreTops, complex_of, IsSignalOver, IsSignalOf, IsPairOf, IsShapeOf, MultiplesShareSignals, SignalsAreFeasible, ShapesAreOne}
use lib.IntN.{*ℤ_comm, zero-*ℤ}
use Rattle.crn_vec.proofs.Entries.{lt_or}
use Rattle.crn_vec.proofs.Ascending.{same_members}
use Rattle.crn_vec.proofs.Ring.{pos_pos}
use Rattle.crn_vec.proofs.SumLaws.{sums_one, sum_by, dot_ratio}
use Rattle.crn_vec.proofs.WalkLaws.{terminal_on}
use Rattle.crn_vec.proofs.Reached.{reaction_in, inside_at}
use Rattle.crn_vec.proofs.NetTables.{networks_have_tables}
use Rattle.crn_vec.proofs.Shelves.{feasible_by}

-- ---- terminal classes are numbered in one way

pub option_or : {A : Type 0} (o : Option A) → (o ≡ None) ⊎ ((k : A) × (o ≡ Some k))
option_or None = inl refl
option_or (Some k) = inr (k, refl)

pub some_is : {A : Type 0} (k l : A) → Some k ≡ Some l → k ≡ l
some_is k l e = cc

pub none_some : {A : Type 0} (o : Option A) (k : A) → o ≡ None → o ≡ Some k → ⊥
none_some o k e f = cc

-- what is numbered is a complex
pub top_inside : (tops : List (Option ℕ)) (y k : ℕ) → top_at tops y ≡ Some k → y < length tops
top_inside [] y k e = absurd cc
top_inside (o ∷ tops) zero k e = omega arith
top_inside (o ∷ tops) (suc y) k e = let h = top_inside tops y k e in omega (arith, h)

-- both number a complex alike if they do so for all earlier ones
top_next : (net : Net) (ts us : List (Option ℕ)) (m n y : ℕ) → AreTops net ts m → AreTops net us n → ((x : ℕ) → x < y → top_at ts x ≡ top_at us x) → top_at ts y ≡ top_at us y
top_next net ts us m n y t u before = elim (option_or (top_at ts y)) as (λ _. top_at ts y ≡ top_at us y) [
  | inl a ↦ elim (option_or (top_at us y)) as (λ _. top_at ts y ≡ top_at us y) [
    | inl b ↦ a ∙ sym b
    | inr (l, b) ↦ absurd (t.outside y (omega (arith, top_inside us y l b, u.long)) a (u.inside y l b))
  ]
  | inr (k, a) ↦ elim (option_or (top_at us y)) as (λ _. top_at ts y ≡ top_at us y) [
    | inl b ↦ absurd (u.outside y (omega (arith, top_inside ts y k a, t.long)) b (t.inside y k a))
    | inr (l, b) ↦ elim (lt_or k l) as (λ _. top_at ts y ≡ top_at us y) [
      | inl less ↦
          let x = u.numbered y l k b less in
          let same : SameStrong net.reactions x.0 y = t.same x.0 y k (before x.0 x.1 ∙ x.2) a in
          absurd (omega (arith, less, u.together x.0 y k l x.2 b same))
      | inr most ↦ elim (lt_or l k) as (λ _. top_at ts y ≡ top_at us y) [
        | inl less ↦
            let x = t.numbered y k l a less in
            let same : SameStrong net.reactions x.0 y = u.same x.0 y l (sym (before x.0 x.1) ∙ x.2) b in
            absurd (omega (arith, less, t.together x.0 y l k x.2 a same))
        | inr least ↦ a ∙ ap Some (omega (arith, most, least)) ∙ sym b
      ]
    ]
  ]
]

tops_below_one : (net : Net) (ts us : List (Option ℕ)) (m n b : ℕ) → AreTops net ts m → AreTops net us n → (y : ℕ) → y < b → top_at ts y ≡ top_at us y
tops_below_one net ts us m n zero t u y lt = absurd (omega (arith, lt))
tops_below_one net ts us m n (suc b) t u y lt = top_next net ts us m n y t u (λ x less. tops_below_one net ts us m n b t u x (omega (arith, lt, less)))

tops_one : (net : Net) (ts us : List (Option ℕ)) (m n : ℕ) → AreTops net ts m → AreTops net us n → ts ≡ us
tops_one net ts us m n t u = ext_get_or None ts us (t.long ∙ sym u.long) (λ y lt. tops_below_one net ts us m n (length ts) t u y lt)

count_one : (net : Net) (ts us : List (Option ℕ)) (m n : ℕ) → AreTops net ts m → AreTops net us n → ts ≡ us → m ≡ n
count_one net ts us m n t u e = elim (lt_or m n) as (λ _. m ≡ n) [
  | inl less ↦ let y = u.each m less in absurd (let h = t.below y.0 m (ap (λ (l : List (Option ℕ)). top_at l y.0) e ∙ y.1) in omega (arith, h))
  | inr most ↦ elim (lt_or n m) as (λ _. m ≡ n) [
    | inl less ↦ let y = t.each n less in absurd (let h = u.below y.0 n (ap (λ (l : List (Option ℕ)). top_at l y.0) (sym e) ∙ y.1) in omega (arith, h))
    | inr least ↦ omega (arith, most, least)
  ]
]

-- ---- positive multiples

pair_sign_by : (t : Sign) (h h' x : ℤ) → sign h ≡ sign h' → HasPairSign t h x → HasPairSign t h' x
pair_sign_by Zero h h' x e s = tt
pair_sign_by Plus h h' x e s = subst (λ (t : Sign). HasSign t x) e s
pair_sign_by Minus h h' x e s = subst (λ (t : Sign). HasSign (opposite t) x) e s

neg_pos : (u a : ℤ) → u <ℤ pos 0 → pos 1 ≤ℤ a → (u *ℤ a) <ℤ pos 0
neg_pos (pos u) a h k = absurd (omega (arith, ints, h))
neg_pos (negsuc u) (pos zero) h k = absurd (omega (arith, ints, k))
neg_pos (negsuc u) (pos (suc a)) h k = omega (arith, ints)
neg_pos (negsuc u) (negsuc a) h k = absurd (omega (arith, ints, k))

-- numbers of which positive multiples are equal have one sign
same_sign : (u v a b : ℤ) → pos 1 ≤ℤ a → pos 1 ≤ℤ b → u *ℤ a ≡ v *ℤ b → sign u ≡ sign v
same_sign (pos zero) (pos zero) a b ha hb e = refl
same_sign (pos zero) (pos (suc v)) a b ha hb e = absurd (omega (arith, ints, e, zero-*ℤ a, pos_pos (pos (suc v)) b (omega (arith, ints)) (omega (arith, ints, hb))))
same_sign (pos zero) (negsuc v) a b ha hb e = absurd (omega (arith, ints, e, zero-*ℤ a, neg_pos (negsuc v) b (omega (arith, ints)) hb))
same_sign (pos (suc u)) (pos zero) a b ha hb e = absurd (omega (arith, ints, e, zero-*ℤ b, pos_pos (pos (suc u)) a (omega (arith, ints)) (omega (arith, ints, ha))))
same_sign (pos (suc u)) (pos (suc v)) a b ha hb e = refl
same_sign (pos (suc u)) (negsuc v) a b ha hb e = absurd (omega (arith, ints, e, pos_pos (pos (suc u)) a (omega (arith, ints)) (omega (arith, ints, ha)), neg_pos (negsuc v) b (omega (arith, ints)) hb))
same_sign (negsuc u) (pos zero) a b ha hb e = absurd (omega (arith, ints, e, zero-*ℤ b, neg_pos (negsuc u) a (omega (arith, ints)) ha))
same_sign (negsuc u) (pos (suc v)) a b ha hb e = absurd (omega (arith, ints, e, neg_pos (negsuc u) a (omega (arith, ints)) ha, pos_pos (pos (suc v)) b (omega (arith, ints)) (omega (arith, ints, hb))))
same_sign (negsuc u) (negsuc v) a b ha hb e = refl

pub multiples_share_signals : MultiplesShareSignals
multiples_share_signals net g h even m shelves mu level weights s =
    record {
      tops = s.tops;
      count = s.count;
      tops_are = s.tops_are;
      is = record {
        long_shelves = s.is.long_shelves;
        long_mu = s.is.long_mu;
        long_weights = s.is.long_weights;
        lies = s.is.lies;
        over_pairs = λ y z k x cut ty tz over.
            let by_g = sum_by g (IsOnSide net.reactions y z) over.marks (over.long ∙ sym even) over.right in
            let ratio : dot over.marks g *ℤ m.a ≡ dot over.marks h *ℤ m.b = dot_ratio over.marks g h m.b m.a even (λ i. *ℤ_comm (entry g i) m.a ∙ m.is i ∙ *ℤ_comm m.b (entry h i)) in
            let same : sign (dot over.marks g) ≡ sign x = same_sign (dot over.marks g) x m.a m.b m.a_positive m.b_positive (ratio ∙ ap (λ (w : ℤ). w *ℤ m.b) over.is) in
            pair_sign_by (shelf_at shelves k) (dot over.marks g) x (dot (complex_of net z) mu -ℤ dot (complex_of net y) mu) same (s.is.over_pairs y z k (dot over.marks g) cut ty tz by_g);
        some = s.is.some;
        same = s.is.same;
      };
    }

-- ---- a signal of a network is one of its shape

-- the pair of a least reaction is in one terminal class
pair_tops : (net : Net) (tops : List (Option ℕ)) (count y z k : ℕ) → IsNetwork net → AreTops net tops count → IsComplex net z → IsTerminalPair net.reactions y z → top_at tops y ≡ Some k → top_at tops z ≡ Some k
pair_tops net tops count y z k n t lz pair e = elim (option_or (top_at tops z)) as (λ _. top_at tops z ≡ Some k) [
  | inl f ↦ absurd (t.outside z lz f (terminal_on net.reactions y z pair.terminal pair.within.0))
  | inr (l, f) ↦ f ∙ ap Some (sym (t.together y z k l e f pair.within))
]

over_pairs_for : (net : Net) (g : List ℤ) (s : Shape) (shelves : List Sign) (mu : List ℤ) (level : ℤ) (weights : List ℤ) → IsNetwork net → IsRegular net → s.complexes ≡ net.complexes → AreTops net s.tops s.count → IsSignalOver net g s.tops s.count shelves mu level weights
    → (places : List ℕ) → ((r : ℕ) → IsIn r places → IsFirstOfPair net.reactions r) → (pairs : List Pair) → AllZip (IsPairOf net g s.tops) places pairs
    → AllByRecursion (λ pair. HasPairSign (shelf_at shelves pair.top) pair.sum (dot (complex_at s pair.high) mu -ℤ dot (complex_at s pair.low) mu)) pairs
over_pairs_for net g s shelves mu level weights n regular same t sg [] first [] h = tt
over_pairs_for net g s shelves mu level weights n regular same t sg [] first (pair ∷ pairs) h = absurd h
over_pairs_for net g s shelves mu level weights n regular same t sg (r ∷ places) first [] h = absurd h
over_pairs_for net g s shelves mu level weights n regular same t sg (r ∷ places) first (pair ∷ pairs) h =
    let f = first r (inl refl) in
    let ends : (f.a, f.b) ≡ (pair.low, pair.high) = sym f.goes.1 ∙ h.0.goes.1 in
    let terminal : IsTerminalPair net.reactions pair.low pair.high = subst (λ (w : ℕ × ℕ). IsTerminalPair net.reactions w.0 w.1) ends f.pair in
    let inside = inside_at (length net.complexes) net.reactions n.partial.apart pair.low pair.high (reaction_in net.reactions r (pair.low, pair.high) h.0.goes.0 h.0.goes.1) in
    let top = pair_tops net s.tops s.count pair.low pair.high pair.top n t inside.1 terminal h.0.top in
    let signed = sg.over_pairs pair.low pair.high pair.top pair.sum (regular.cut_pairs pair.low pair.high terminal) h.0.top top h.0.sum in (
      subst (λ (ys : List (List ℤ)). HasPairSign (shelf_at shelves pair.top) pair.sum (dot (slice_index_or ys pair.high []) mu -ℤ dot (slice_index_or ys pair.low []) mu)) (sym same) signed,
      over_pairs_for net g s shelves mu level weights n regular same t sg places (λ q i. first q (inr i)) pairs h.1,
    )

pub sign_at : (xs : List ℤ) (k : ℕ) → k < length xs → get_or (map sign xs) k Zero ≡ sign (entry xs k)
sign_at xs k lt = get_or-map sign xs k (pos 0) Zero lt

pub signal_of_shape : (net : Net) (g : List ℤ) (s : Shape) → IsNetwork net → IsRegular net → IsShapeOf net g s → (shelves : List Sign) (mu : List ℤ) (level : ℤ) (weights : List ℤ) → IsSignalOf net g shelves mu level weights
    → IsSignal s (reaction_system net) shelves mu level weights
signal_of_shape net g s n regular sh shelves mu level weights sg =
    let tops_same : sg.tops ≡ s.tops = tops_one net sg.tops s.tops sg.count s.count sg.tops_are sh.tops in
    let count_same : sg.count ≡ s.count = count_one net sg.tops s.tops sg.count s.count sg.tops_are sh.tops tops_same in
    let over : IsSignalOver net g s.tops s.count shelves mu level weights = subst (λ (c : ℕ). IsSignalOver net g s.tops c shelves mu level weights) count_same (subst (λ (ts : List (Option ℕ)). IsSignalOver net g ts sg.count shelves mu level weights) tops_same sg.is) in
    let tables = networks_have_tables net n in
    let change = image (reaction_system net) weights in
    let long_change : length change ≡ length net.names = length-map (reaction_system net).rows (λ row. dot row weights) ∙ tables.columns.species in
    record {
      long_shelves = over.long_shelves;
      long_mu = over.long_mu ∙ sym sh.shape.species;
      long_weights = over.long_weights;
      lies = subst (λ (ys : List (List ℤ)). AllZip (λ top y. HasSign (shelf_of shelves top) (dot y mu -ℤ level)) s.tops ys) (sym sh.shape.complexes) over.lies;
      over_pairs = over_pairs_for net g s shelves mu level weights n regular sh.shape.complexes sh.tops over sh.places (λ r i. (sh.places_are.each r).0 i) s.pairs sh.pairs;
      some = over.some;
      same = ext_get_or Zero (map sign mu) (map sign change) (length-map mu sign ∙ over.long_mu ∙ sym (length-map change sign ∙ long_change))
          (λ k lt.
          let l : k < length mu = omega (arith, lt, length-map mu sign) in
          sign_at mu k l ∙ over.same k (omega (arith, l, over.long_mu)) ∙ ap sign (sym (tables.combines weights k)) ∙ sym (sign_at change k (omega (arith, l, over.long_mu, long_change))));
    }

pub signals_feasible : SignalsAreFeasible
signals_feasible net g s n regular sh shelves mu level weights sg =
    feasible_by net s (reaction_system net) n.partial (networks_have_tables net n).columns sh.shape shelves mu level weights (signal_of_shape net g s n regular sh shelves mu level weights sg)

-- ---- the shape is one

abbrev pair_by : ℕ → ℕ → ℕ → ℤ → Pair
pair_by l h t x = record { low = l; high = h; top = t; sum = x }

pair_one : (net : Net) (g : List ℤ) (tops : List (Option ℕ)) (r : ℕ) (p q : Pair) → IsPairOf net g tops r p → IsPairOf net g tops r q → p ≡ q
pair_one net g tops r p q a b =
    let ends : (p.low, p.high) ≡ (q.low, q.high) = sym a.goes.1 ∙ b.goes.1 in
    let low : p.low ≡ q.low = ap (λ (w : ℕ × ℕ). w.0) ends in
    let high : p.high ≡ q.high = ap (λ (w : ℕ × ℕ). w.1) ends in
    let top : p.top ≡ q.top = some_is p.top q.top (sym a.top ∙ ap (top_at tops) low ∙ b.top) in
    let moved : SumsTo g (IsOnSide net.reactions q.low q.high) p.sum = subst (λ (w : ℕ × ℕ). SumsTo g (IsOnSide net.reactions w.0 w.1) p.sum) ends a.sum in
    let sum : p.sum ≡ q.sum = sums_one g (IsOnSide net.reactions q.low q.high) (IsOnSide net.reactions q.low q.high) p.sum q.sum (λ z h. h) (λ z h. h) moved b.sum in
    ap (λ (w : ℕ × ℕ). pair_by w.0 w.1 p.top p.sum) ends ∙ ap (λ (t : ℕ). pair_by q.low q.high t p.sum) top ∙ ap (λ (x : ℤ). pair_by q.low q.high q.top x) sum

pairs_one : (net : Net) (g : List ℤ) (tops : List (Option ℕ)) (places : List ℕ) (ps qs : List Pair) → AllZip (IsPairOf net g tops) places ps → AllZip (IsPairOf net g tops) places qs → ps ≡ qs
pairs_one net g tops [] [] [] a b = refl
pairs_one net g tops [] [] (q ∷ qs) a b = absurd b
pairs_one net g tops [] (p ∷ ps) qs a b = absurd a
pairs_one net g tops (r ∷ places) [] qs a b = absurd a
pairs_one net g tops (r ∷ places) (p ∷ ps) [] a b = absurd b
pairs_one net g tops (r ∷ places) (p ∷ ps) (q ∷ qs) a b = ap (λ (w : Pair). w ∷ ps) (pair_one net g tops r p q a.0 b.0) ∙ ap (λ (ws : List Pair). q ∷ ws) (pairs_one net g tops places ps qs a.1 b.1)

abbrev shape_by : ℕ → List (List ℤ) → List (Option ℕ) → ℕ → List Pair → Shape
shape_by n ys ts c ps = record { species = n; complexes = ys; tops = ts; count = c; pairs = ps }

pub shapes_are_one : ShapesAreOne
shapes_are_one net g s u a b =
    let tops : s.tops ≡ u.tops = tops_one net s.tops u.tops s.count u.count a.tops b.tops in
    let count : s.count ≡ u.count = count_one net s.tops u.tops s.count u.count a.tops b.tops tops in
    let places : a.places ≡ b.places = same_members a.places b.places a.places_are.ascending b.places_are.ascending (λ r i. (b.places_are.each r).1 ((a.places_are.each r).0 i)) (λ r i. (a.places_are.each r).1 ((b.places_are.each r).0 i)) in
    let moved : AllZip (IsPairOf net g u.tops) b.places s.pairs = subst (λ (rs : List ℕ). AllZip (IsPairOf net g u.tops) rs s.pairs) places (subst (λ (ts : List (Option ℕ)). AllZip (IsPairOf net g ts) a.places s.pairs) tops a.pairs) in
    let pairs : s.pairs ≡ u.pairs = pairs_one net g u.tops b.places s.pairs u.pairs moved b.pairs in
    let species : s.species ≡ u.species = a.shape.species ∙ sym b.shape.species in
    let complexes : s.complexes ≡ u.complexes = a.shape.complexes ∙ sym b.shape.complexes in
    ap (λ (n : ℕ). shape_by n s.complexes s.tops s.count s.pairs) species
    ∙ ap (λ (ys : List (List ℤ)). shape_by u.species ys s.tops s.count s.pairs) complexes
    ∙ ap (λ (ts : List (Option ℕ)). shape_by u.species u.complexes ts s.count s.pairs) tops
    ∙ ap (λ (c : ℕ). shape_by u.species u.complexes u.tops c s.pairs) count
    ∙ ap (λ (ps : List Pair). shape_by u.species u.complexes u.tops u.count ps) pairs
