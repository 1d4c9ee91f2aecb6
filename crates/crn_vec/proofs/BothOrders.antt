-- A signal over the pairs of a shape is a signal of its network: over the other order of a pair the sum is the opposite one.
use Rattle.crn_vec.proofs.Prelude.{◌≡◌, ℕ, zero, suc, ◌<◌, ◌⊎◌, inl, inr, List, [], ◌∷◌, length, get_or, take, refl, sym, ap, ap₂, subst, ◌∙◌, arith, ℤ, pos, negsuc, neg_ℤ, ◌+ℤ◌, ◌-ℤ◌, Some, slice_index_or, AllZip, AllByRecursion, ints, length-map, ext_get_or, Sign, Zero, Plus, Minus, IsIn, dot, entry, HasSign, Net, IsNetwork, IsLinked, SameClass, LeadsTo, SameStrong, IsTerminal, IsBetween, IsFreeStep, IsOnSide, IsCutPair, IsTerminalPair, IsFirstOfPair, SumsTo, IsComplex, InConfluenceSpace, reaction_system, opposite, sign, image, Pair, Shape, shelf_at, shelf_of, HasPairSign, IsSignal, top_at, complex_of, IsSignalOf, IsPairOf, IsShapeOf, SignalsAreOfShape}
use Rattle.crn_vec.proofs.Sums.{plus, dot-plus, length-plus, entry-plus}
use Rattle.crn_vec.proofs.SumLaws.{sums_one}
use Rattle.crn_vec.proofs.SideLaws.{is_between, free_back}
use Rattle.crn_vec.proofs.WalkLaws.{leads_then, leads_here, leads_step, leads_back, leads_keeps, class_then, class_link, strong_back}
use Rattle.crn_vec.proofs.Reached.{reaction_in, inside_at}
use Rattle.crn_vec.proofs.NetTables.{networks_have_tables}
use Rattle.crn_vec.proofs.NetSignalLaws.{signal_of_shape, sign_at, some_is}
use Rattle.crn_vec.proofs.Shelves.{signal_named}

-- ---- the two sides of a cut pair

between_back : (a b y z : ℕ) → IsBetween a b y z → IsBetween b a y z
between_back a b y z (inl e) = inr e
between_back a b y z (inr e) = inl e

free_other : (rs : List (ℕ × ℕ)) (a b y z : ℕ) → IsFreeStep rs a b y z → IsFreeStep rs b a y z
free_other rs a b y z f = (f.0, λ h. f.1 (between_back b a y z h))

-- what is joined without the step is in the class
side_class : (rs : List (ℕ × ℕ)) (a b x c : ℕ) → LeadsTo (IsFreeStep rs a b) x c → SameClass rs x c
side_class rs a b x c h = leads_keeps (IsFreeStep rs a b) (SameClass rs x) (λ y z f k. class_then rs x y z k (class_link rs y z f.0)) x c h (leads_here (IsLinked rs) x)

-- each complex of the class is on one side
one_side : (rs : List (ℕ × ℕ)) (a b c : ℕ) → SameClass rs a c → IsOnSide rs a b c ⊎ IsOnSide rs b a c
one_side rs a b c h =
    leads_keeps (IsLinked rs) (λ x. IsOnSide rs a b x ⊎ IsOnSide rs b a x)
    (λ y z l p. elim (is_between a b y z) [
      | inl e ↦ elim e as (λ _. IsOnSide rs a b z ⊎ IsOnSide rs b a z) [
        | inl i ↦ inl (subst (λ (x : ℕ). LeadsTo (IsFreeStep rs a b) b x) (sym i.1) (leads_here (IsFreeStep rs a b) b))
        | inr i ↦ inr (subst (λ (x : ℕ). LeadsTo (IsFreeStep rs b a) a x) (sym i.1) (leads_here (IsFreeStep rs b a) a))
      ]
      | inr no' ↦ elim p as (λ _. IsOnSide rs a b z ⊎ IsOnSide rs b a z) [
        | inl s ↦ inl (leads_then (IsFreeStep rs a b) b y z s (leads_step (IsFreeStep rs a b) y z (l, no')))
        | inr s ↦ inr (leads_then (IsFreeStep rs b a) a y z s (leads_step (IsFreeStep rs b a) y z (free_other rs a b y z (l, no'))))
      ]
    ])
    a c h (inr (leads_here (IsFreeStep rs b a) a))

-- no complex is on both
not_both : (rs : List (ℕ × ℕ)) (a b c : ℕ) → IsCutPair rs a b → IsOnSide rs a b c → IsOnSide rs b a c → ⊥
not_both rs a b c cut s t =
    let from : LeadsTo (IsFreeStep rs a b) a c = leads_keeps (IsFreeStep rs b a) (λ x. LeadsTo (IsFreeStep rs a b) a x) (λ y z f k. leads_then (IsFreeStep rs a b) a y z k (leads_step (IsFreeStep rs a b) y z (free_other rs b a y z f))) a c t (leads_here (IsFreeStep rs a b) a) in
    cut.cut (leads_then (IsFreeStep rs a b) a c b from (leads_back (IsFreeStep rs a b) (free_back rs a b) b c s))

-- marks of two properties that part a third
mark_sum : (P Q R : Type 0) (x y z : ℤ) → (P → R) → (Q → R) → (R → P ⊎ Q) → (P → Q → ⊥) → (P × (x ≡ pos 1)) ⊎ ((P → ⊥) × (x ≡ pos 0)) → (Q × (y ≡ pos 1)) ⊎ ((Q → ⊥) × (y ≡ pos 0)) → (R × (z ≡ pos 1)) ⊎ ((R → ⊥) × (z ≡ pos 0)) → x +ℤ y ≡ z
mark_sum P Q R x y z pr qr rpq pq (inl p) (inl q) r = absurd (pq p.0 q.0)
mark_sum P Q R x y z pr qr rpq pq (inl p) (inr q) (inl r) = omega (arith, ints, p.1, q.1, r.1)
mark_sum P Q R x y z pr qr rpq pq (inl p) (inr q) (inr r) = absurd (r.0 (pr p.0))
mark_sum P Q R x y z pr qr rpq pq (inr p) (inl q) (inl r) = omega (arith, ints, p.1, q.1, r.1)
mark_sum P Q R x y z pr qr rpq pq (inr p) (inl q) (inr r) = absurd (r.0 (qr q.0))
mark_sum P Q R x y z pr qr rpq pq (inr p) (inr q) (inl r) = absurd (elim (rpq r.0) [ inl h ↦ p.0 h | inr h ↦ q.0 h ])
mark_sum P Q R x y z pr qr rpq pq (inr p) (inr q) (inr r) = omega (arith, ints, p.1, q.1, r.1)

-- the sums over the two sides of a cut pair add up to that over the class
sides_cancel : (g : List ℤ) (rs : List (ℕ × ℕ)) (a b : ℕ) (x y z : ℤ) → IsCutPair rs a b → SumsTo g (IsOnSide rs a b) x → SumsTo g (IsOnSide rs b a) y → SumsTo g (SameClass rs a) z → x +ℤ y ≡ z
sides_cancel g rs a b x y z cut s t u =
    let even : length s.marks ≡ length t.marks = s.long ∙ sym t.long in
    let long : length (plus s.marks t.marks) ≡ length s.marks = length-plus s.marks t.marks even in
    let same : plus s.marks t.marks ≡ u.marks = ext_get_or (pos 0) (plus s.marks t.marks) u.marks (long ∙ s.long ∙ sym u.long)
    (λ c lt.
    let l : c < length s.marks = omega (arith, lt, long) in
    entry-plus s.marks t.marks c even
    ∙ mark_sum (IsOnSide rs a b c) (IsOnSide rs b a c) (SameClass rs a c) (entry s.marks c) (entry t.marks c) (entry u.marks c)
    (λ h. class_then rs a b c (class_link rs a b cut.linked) (side_class rs a b b c h))
    (λ h. side_class rs b a a c h)
    (one_side rs a b c)
    (not_both rs a b c cut)
    (s.right c l) (t.right c (omega (arith, l, even))) (u.right c (omega (arith, l, s.long, u.long)))) in
    sym (dot-plus s.marks t.marks g even ∙ ap₂ (λ (p q : ℤ). p +ℤ q) s.is t.is) ∙ ap (λ (m : List ℤ). dot m g) same ∙ u.is

-- ---- the least reaction of a pair

record LeastOf (rs : List (ℕ × ℕ)) (y z : ℕ) : Type 0 where
  r : ℕ
  inside : r < length rs
  joins : IsBetween y z (get_or rs r (0, 0)).0 (get_or rs r (0, 0)).1
  least : (q : ℕ) → q < r → IsBetween y z (get_or rs q (0, 0)).0 (get_or rs q (0, 0)).1 → ⊥

linked_after : (p : ℕ × ℕ) (rs : List (ℕ × ℕ)) (y z : ℕ) → (IsBetween y z p.0 p.1 → ⊥) → IsLinked (p ∷ rs) y z → IsLinked rs y z
linked_after p rs y z none (inl (inl e)) = absurd (none (inl (ap (λ (w : ℕ × ℕ). w.0) (sym e), ap (λ (w : ℕ × ℕ). w.1) (sym e))))
linked_after p rs y z none (inl (inr i)) = inl i
linked_after p rs y z none (inr (inl e)) = absurd (none (inr (ap (λ (w : ℕ × ℕ). w.0) (sym e), ap (λ (w : ℕ × ℕ). w.1) (sym e))))
linked_after p rs y z none (inr (inr i)) = inr i

least_of : (rs : List (ℕ × ℕ)) (y z : ℕ) → IsLinked rs y z → LeastOf rs y z
least_of [] y z (inl i) = absurd i
least_of [] y z (inr i) = absurd i
least_of (p ∷ rs) y z l = elim (is_between y z p.0 p.1) [
  | inl e ↦ record { r = 0; inside = omega arith; joins = e; least = λ q lt h. absurd (omega (arith, lt)) }
  | inr none ↦
      let t = least_of rs y z (linked_after p rs y z none l) in
      record {
        r = suc t.r;
        inside = let i = t.inside in omega (arith, i);
        joins = t.joins;
        least = earlier p rs y z t none;
      }
]
  where
    earlier : (p : ℕ × ℕ) (rs : List (ℕ × ℕ)) (y z : ℕ) → (t : LeastOf rs y z) → (IsBetween y z p.0 p.1 → ⊥) → (q : ℕ) → q < suc t.r → IsBetween y z (get_or (p ∷ rs) q (0, 0)).0 (get_or (p ∷ rs) q (0, 0)).1 → ⊥
    earlier p rs y z t none zero lt h = none h
    earlier p rs y z t none (suc q) lt h = t.least q (omega (arith, lt)) h

-- ---- a signal over the shape

-- a pair of the shape, with what holds of it
record Found (P : Pair → Type 0) (Q : Pair → Type 0) : Type 0 where
  pair : Pair
  is : P pair
  has : Q pair

found_in : (P : ℕ → Pair → Type 0) (Q : Pair → Type 0) (r : ℕ) (places : List ℕ) (pairs : List Pair) → AllZip P places pairs → AllByRecursion Q pairs → IsIn r places → Found (P r) Q
found_in P Q r [] pairs z a i = absurd i
found_in P Q r (q ∷ places) [] z a i = absurd z
found_in P Q r (q ∷ places) (pair ∷ pairs) z a (inl e) = record { pair = pair; is = subst (λ (k : ℕ). P k pair) (sym e) z.0; has = a.0 }
found_in P Q r (q ∷ places) (pair ∷ pairs) z a (inr i) = found_in P Q r places pairs z.1 a.1 i

sign_negative : (t : Sign) (x : ℤ) → HasSign t x → HasSign (opposite t) (neg_ℤ x)
sign_negative Zero x h = omega (arith, ints, h)
sign_negative Plus x h = omega (arith, ints, h)
sign_negative Minus x h = omega (arith, ints, h)

sign_of_neg : (h : ℤ) → sign (neg_ℤ h) ≡ opposite (sign h)
sign_of_neg (pos zero) = refl
sign_of_neg (pos (suc n)) = refl
sign_of_neg (negsuc n) = refl

pair_sign_negative : (t : Sign) (h x : ℤ) → HasPairSign t h x → HasPairSign t (neg_ℤ h) (neg_ℤ x)
pair_sign_negative Zero h x s = tt
pair_sign_negative Plus h x s = subst (λ (t : Sign). HasSign t (neg_ℤ x)) (sym (sign_of_neg h)) (sign_negative (sign h) x s)
pair_sign_negative Minus h x s = subst (λ (t : Sign). HasSign (opposite t) (neg_ℤ x)) (sym (sign_of_neg h)) (sign_negative (opposite (sign h)) x s)

pub network_signal : (net : Net) (g : List ℤ) (s : Shape) → IsNetwork net → InConfluenceSpace net g → IsShapeOf net g s → (shelves : List Sign) (mu : List ℤ) (level : ℤ) (weights : List ℤ) → IsSignal s (reaction_system net) shelves mu level weights → IsSignalOf net g shelves mu level weights
network_signal net g s n space sh shelves mu level weights sg =
    let tables = networks_have_tables net n in
    let change = image (reaction_system net) weights in
    let long_mu : length mu ≡ length net.names = sg.long_mu ∙ sh.shape.species in
    let long_change : length change ≡ length net.names = length-map (reaction_system net).rows (λ row. dot row weights) ∙ tables.columns.species in
    record {
      tops = s.tops;
      count = s.count;
      tops_are = sh.tops;
      is = record {
        long_shelves = sg.long_shelves;
        long_mu = long_mu;
        long_weights = sg.long_weights;
        lies = subst (λ (ys : List (List ℤ)). AllZip (λ top y. HasSign (shelf_of shelves top) (dot y mu -ℤ level)) s.tops ys) sh.shape.complexes sg.lies;
        over_pairs = over_pairs net g s n space sh shelves mu (subst (λ (ys : List (List ℤ)). AllByRecursion (λ pair. HasPairSign (shelf_at shelves pair.top) pair.sum (dot (slice_index_or ys pair.high []) mu -ℤ dot (slice_index_or ys pair.low []) mu)) s.pairs) sh.shape.complexes sg.over_pairs);
        some = sg.some;
        same = λ k lt.
            let l : k < length mu = omega (arith, lt, long_mu) in
            sym (sign_at mu k l) ∙ ap (λ (ss : List Sign). get_or ss k Zero) sg.same ∙ sign_at change k (omega (arith, lt, long_change)) ∙ ap sign (tables.combines weights k);
      };
    }
  where
    over_pairs : (net : Net) (g : List ℤ) (s : Shape) → IsNetwork net → InConfluenceSpace net g → IsShapeOf net g s → (shelves : List Sign) (mu : List ℤ)
        → AllByRecursion (λ pair. HasPairSign (shelf_at shelves pair.top) pair.sum (dot (complex_of net pair.high) mu -ℤ dot (complex_of net pair.low) mu)) s.pairs
        → (y z k : ℕ) (h : ℤ) → IsCutPair net.reactions y z → top_at s.tops y ≡ Some k → top_at s.tops z ≡ Some k → SumsTo g (IsOnSide net.reactions y z) h → HasPairSign (shelf_at shelves k) h (dot (complex_of net z) mu -ℤ dot (complex_of net y) mu)
    over_pairs net g s n space sh shelves mu all y z k h cut ty tz over =
        let rs = net.reactions in
        let within : SameStrong rs y z = sh.tops.same y z k ty tz in
        let t = least_of rs y z cut.linked in
        let p : ℕ × ℕ = get_or rs t.r (0, 0) in
        let pair_is : IsTerminalPair rs p.0 p.1 = elim t.joins as (λ _. IsTerminalPair rs p.0 p.1) [
          | inl e ↦ record { linked = inl (reaction_in rs t.r p t.inside refl); within = subst (λ (w : ℕ). SameStrong rs w p.1) (sym e.0) (subst (λ (w : ℕ). SameStrong rs y w) (sym e.1) within); terminal = subst (IsTerminal rs) (sym e.0) (sh.tops.inside y k ty) }
          | inr e ↦ record { linked = inl (reaction_in rs t.r p t.inside refl); within = subst (λ (w : ℕ). SameStrong rs w p.1) (sym e.0) (subst (λ (w : ℕ). SameStrong rs z w) (sym e.1) (strong_back rs y z within)); terminal = subst (IsTerminal rs) (sym e.0) (sh.tops.inside z k tz) }
        ] in
        let first : IsFirstOfPair rs t.r = record { a = p.0; b = p.1; goes = (t.inside, refl); pair = pair_is; first = λ q u v lt goes between. t.least q lt (subst (λ (w : ℕ × ℕ). IsBetween y z w.0 w.1) (sym goes.1) (joined y z p.0 p.1 u v t.joins between)) } in
        let found = found_in (IsPairOf net g s.tops) (λ pair. HasPairSign (shelf_at shelves pair.top) pair.sum (dot (complex_of net pair.high) mu -ℤ dot (complex_of net pair.low) mu)) t.r sh.places s.pairs sh.pairs all ((sh.places_are.each t.r).1 first) in
        let ends : p ≡ (found.pair.low, found.pair.high) = found.is.goes.1 in
        elim t.joins as (λ _. HasPairSign (shelf_at shelves k) h (dot (complex_of net z) mu -ℤ dot (complex_of net y) mu)) [
          | inl e ↦
              let low : found.pair.low ≡ y = sym (ap (λ (w : ℕ × ℕ). w.0) ends) ∙ e.0 in
              let high : found.pair.high ≡ z = sym (ap (λ (w : ℕ × ℕ). w.1) ends) ∙ e.1 in
              let top : found.pair.top ≡ k = some_is found.pair.top k (sym found.is.top ∙ ap (top_at s.tops) low ∙ ty) in
              let moved : SumsTo g (IsOnSide rs y z) found.pair.sum = subst (λ (w : ℕ). SumsTo g (IsOnSide rs w z) found.pair.sum) low (subst (λ (w : ℕ). SumsTo g (IsOnSide rs found.pair.low w) found.pair.sum) high found.is.sum) in
              let sum : found.pair.sum ≡ h = sums_one g (IsOnSide rs y z) (IsOnSide rs y z) found.pair.sum h (λ c i. i) (λ c i. i) moved over in
              subst (λ (x : ℤ). HasPairSign (shelf_at shelves k) x (dot (complex_of net z) mu -ℤ dot (complex_of net y) mu)) sum
              (subst (λ (c : ℕ). HasPairSign (shelf_at shelves c) found.pair.sum (dot (complex_of net z) mu -ℤ dot (complex_of net y) mu)) top
              (subst (λ (c : ℕ). HasPairSign (shelf_at shelves found.pair.top) found.pair.sum (dot (complex_of net c) mu -ℤ dot (complex_of net y) mu)) high
              (subst (λ (c : ℕ). HasPairSign (shelf_at shelves found.pair.top) found.pair.sum (dot (complex_of net found.pair.high) mu -ℤ dot (complex_of net c) mu)) low found.has)))
          | inr e ↦
              let low : found.pair.low ≡ z = sym (ap (λ (w : ℕ × ℕ). w.0) ends) ∙ e.0 in
              let high : found.pair.high ≡ y = sym (ap (λ (w : ℕ × ℕ). w.1) ends) ∙ e.1 in
              let top : found.pair.top ≡ k = some_is found.pair.top k (sym found.is.top ∙ ap (top_at s.tops) low ∙ tz) in
              let moved : SumsTo g (IsOnSide rs z y) found.pair.sum = subst (λ (w : ℕ). SumsTo g (IsOnSide rs w y) found.pair.sum) low (subst (λ (w : ℕ). SumsTo g (IsOnSide rs found.pair.low w) found.pair.sum) high found.is.sum) in
              let inside : IsComplex net y = in_net net n y z cut.linked in
              let sum : neg_ℤ found.pair.sum ≡ h = let c = sides_cancel g rs y z h found.pair.sum (pos 0) cut over moved (space.classes y inside) in omega (arith, ints, c) in
              let signed : HasPairSign (shelf_at shelves k) found.pair.sum (dot (complex_of net y) mu -ℤ dot (complex_of net z) mu) =
              subst (λ (c : ℕ). HasPairSign (shelf_at shelves c) found.pair.sum (dot (complex_of net y) mu -ℤ dot (complex_of net z) mu)) top
              (subst (λ (c : ℕ). HasPairSign (shelf_at shelves found.pair.top) found.pair.sum (dot (complex_of net c) mu -ℤ dot (complex_of net z) mu)) high
              (subst (λ (c : ℕ). HasPairSign (shelf_at shelves found.pair.top) found.pair.sum (dot (complex_of net found.pair.high) mu -ℤ dot (complex_of net c) mu)) low found.has)) in
              let difference : neg_ℤ (dot (complex_of net y) mu -ℤ dot (complex_of net z) mu) ≡ dot (complex_of net z) mu -ℤ dot (complex_of net y) mu = omega (arith, ints) in
              subst (λ (x : ℤ). HasPairSign (shelf_at shelves k) h x) difference
              (subst (λ (x : ℤ). HasPairSign (shelf_at shelves k) x (neg_ℤ (dot (complex_of net y) mu -ℤ dot (complex_of net z) mu))) sum
              (pair_sign_negative (shelf_at shelves k) found.pair.sum (dot (complex_of net y) mu -ℤ dot (complex_of net z) mu) signed))
        ]
      where
        in_net : (net : Net) → IsNetwork net → (y z : ℕ) → IsLinked net.reactions y z → IsComplex net y
        in_net net n y z (inl i) = (inside_at (length net.complexes) net.reactions n.partial.apart y z i).0
        in_net net n y z (inr i) = (inside_at (length net.complexes) net.reactions n.partial.apart z y i).1

        joined : (y z a b u v : ℕ) → IsBetween y z a b → IsBetween a b u v → IsBetween y z u v
        joined y z a b u v (inl e) (inl f) = inl (f.0 ∙ e.0, f.1 ∙ e.1)
        joined y z a b u v (inl e) (inr f) = inr (f.0 ∙ e.1, f.1 ∙ e.0)
        joined y z a b u v (inr e) (inl f) = inr (f.0 ∙ e.0, f.1 ∙ e.1)
        joined y z a b u v (inr e) (inr f) = inl (f.0 ∙ e.1, f.1 ∙ e.0)

pub signals_are_of_shape : SignalsAreOfShape
signals_are_of_shape net g s n regular space sh =
    record {
      over = λ shelves mu level weights sg. signal_of_shape net g s n regular sh shelves mu level weights sg;
      of = λ shelves mu level weights sg. network_signal net g s n space sh shelves mu level weights sg;
      named = λ p x weights f o sa sb. network_signal net g s n space sh (take s.count p) (take s.species x) (entry x s.species) weights (signal_named net s (reaction_system net) (networks_have_tables net n).columns sh.shape p x weights f o sa sb);
    }
