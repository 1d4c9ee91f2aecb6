-- A network whose strong classes are known has a shape for every vector over its complexes.
use Rattle.crn_cert.proofs.Prelude.{◌≡◌, ℕ, suc, ◌-◌, ◌<◌, Bool, true, false, cond, List, [], ◌∷◌, length, refl, sym, ap, subst, ◌∙◌, inl, inr, arith, ℤ, Option, Some, None, AllZip, AllByRecursion, cases_Bool, false≢true, length-map, IsIn, dot, entry, Net, IsNetwork, IsVector, JoinsTwo, IsLinked, IsComplex, ReactsTo, Reaches, SameStrong, IsTerminal, IsBetween, IsFreeStep, IsOnSide, IsFirstOfPair, ArePairs, AreMarks, SumsTo, Pair, Shape, top_at, AreTops, IsPairOf, IsShapeOf, lt_or, sum_by, past_end, listed, length-listed, entry-listed, leads_then, leads_here, leads_step, leads_keeps, reached_marks, marks_for, reaction_in, inside_at, number_is_one, strong_back, strong_then, Earlier, Q2, on, count_of, terminal_of, IsTrueOf, from_zero, strong, exits, is_same_pair, pair_places, ShapesExist}
use Rattle.crn_cert.proofs.TopsCounted.{tops_are_counted}
use Rattle.crn_cert.proofs.TopsNumbered.{zeros_below, tops_of, tops_are}
use Rattle.crn_cert.proofs.Known.{strong_known, terminal_known}
use Rattle.crn_cert.proofs.PairPlaces.{same_pair, pair_same, pair_places_are_pairs}

-- ---- marks of a side

-- the links in both directions that are no step between a and b
free_links : ℕ → ℕ → List (ℕ × ℕ) → List (ℕ × ℕ)
free_links a b [] = []
free_links a b (p ∷ rs) = cond (is_same_pair p (a, b)) (free_links a b rs) (p ∷ (p.1, p.0) ∷ free_links a b rs)

no_links : (a b : ℕ) → free_links a b [] ≡ []
unfolding free_links
no_links a b = refl

skipped : (a b : ℕ) (p : ℕ × ℕ) (rs : List (ℕ × ℕ)) → is_same_pair p (a, b) ≡ true → free_links a b (p ∷ rs) ≡ free_links a b rs
unfolding free_links
skipped a b p rs e = ap (λ (t : Bool). cond t (free_links a b rs) (p ∷ (p.1, p.0) ∷ free_links a b rs)) e

taken : (a b : ℕ) (p : ℕ × ℕ) (rs : List (ℕ × ℕ)) → is_same_pair p (a, b) ≡ false → free_links a b (p ∷ rs) ≡ p ∷ (p.1, p.0) ∷ free_links a b rs
unfolding free_links
taken a b p rs e = ap (λ (t : Bool). cond t (free_links a b rs) (p ∷ (p.1, p.0) ∷ free_links a b rs)) e

pub between_back : (a b y z : ℕ) → IsBetween a b y z → IsBetween a b z y
between_back a b y z (inl e) = inr (e.1, e.0)
between_back a b y z (inr e) = inl (e.1, e.0)

link_after : (p : ℕ × ℕ) (rs : List (ℕ × ℕ)) (y z : ℕ) → IsLinked rs y z → IsLinked (p ∷ rs) y z
link_after p rs y z (inl i) = inl (inr i)
link_after p rs y z (inr i) = inr (inr i)

free_in : (a b : ℕ) (rs : List (ℕ × ℕ)) (y z : ℕ) → IsIn (y, z) (free_links a b rs) → IsFreeStep rs a b y z
free_in a b [] y z i = absurd (subst (IsIn (y, z)) (no_links a b) i)
free_in a b (p ∷ rs) y z i = elim (cases_Bool (is_same_pair p (a, b))) as (λ _. IsFreeStep (p ∷ rs) a b y z) [
  | inl hit ↦ let f = free_in a b rs y z (subst (IsIn (y, z)) (skipped a b p rs hit) i) in (link_after p rs y z f.0, f.1)
  | inr miss ↦ elim (subst (IsIn (y, z)) (taken a b p rs miss) i) as (λ _. IsFreeStep (p ∷ rs) a b y z) [
    | inl e ↦ (inl (inl e), λ between. false≢true (sym miss ∙ same_pair p (a, b) (subst (λ (w : ℕ × ℕ). IsBetween a b w.0 w.1) e between)))
    | inr more ↦ elim more as (λ _. IsFreeStep (p ∷ rs) a b y z) [
      | inl e ↦
          let back : (z, y) ≡ p = ap (λ (w : ℕ × ℕ). (w.1, w.0)) e in
          (inr (inl back), λ between. false≢true (sym miss ∙ same_pair p (a, b) (subst (λ (w : ℕ × ℕ). IsBetween a b w.0 w.1) back (between_back a b y z between))))
      | inr j ↦ let f = free_in a b rs y z j in (link_after p rs y z f.0, f.1)
    ]
  ]
]

free_has : (a b : ℕ) (rs : List (ℕ × ℕ)) (y z : ℕ) → IsLinked rs y z → (IsBetween a b y z → ⊥) → IsIn (y, z) (free_links a b rs)
free_has a b [] y z (inl i) n = absurd i
free_has a b [] y z (inr i) n = absurd i
free_has a b (p ∷ rs) y z l n = elim (cases_Bool (is_same_pair p (a, b))) as (λ _. IsIn (y, z) (free_links a b (p ∷ rs))) [
  | inl hit ↦
      let between : IsBetween a b p.0 p.1 = pair_same p (a, b) hit in
      subst (IsIn (y, z)) (sym (skipped a b p rs hit)) (elim l as (λ _. IsIn (y, z) (free_links a b rs)) [
        | inl i ↦ elim i as (λ _. IsIn (y, z) (free_links a b rs)) [
          | inl e ↦ absurd (n (subst (λ (w : ℕ × ℕ). IsBetween a b w.0 w.1) (sym e) between))
          | inr j ↦ free_has a b rs y z (inl j) n
        ]
        | inr i ↦ elim i as (λ _. IsIn (y, z) (free_links a b rs)) [
          | inl e ↦ absurd (n (between_back a b z y (subst (λ (w : ℕ × ℕ). IsBetween a b w.0 w.1) (sym e) between)))
          | inr j ↦ free_has a b rs y z (inr j) n
        ]
      ])
  | inr miss ↦ subst (IsIn (y, z)) (sym (taken a b p rs miss)) (elim l as (λ _. IsIn (y, z) (p ∷ (p.1, p.0) ∷ free_links a b rs)) [
    | inl i ↦ elim i as (λ _. IsIn (y, z) (p ∷ (p.1, p.0) ∷ free_links a b rs)) [
      | inl e ↦ inl e
      | inr j ↦ inr (inr (free_has a b rs y z (inl j) n))
    ]
    | inr i ↦ elim i as (λ _. IsIn (y, z) (p ∷ (p.1, p.0) ∷ free_links a b rs)) [
      | inl e ↦ inr (inl (ap (λ (w : ℕ × ℕ). (w.1, w.0)) e))
      | inr j ↦ inr (inr (free_has a b rs y z (inr j) n))
    ]
  ])
]

free_joins : (n a b : ℕ) (rs : List (ℕ × ℕ)) → AllByRecursion (JoinsTwo n) rs → AllByRecursion (JoinsTwo n) (free_links a b rs)
free_joins n a b [] h = subst (AllByRecursion (JoinsTwo n)) (sym (no_links a b)) tt
free_joins n a b (p ∷ rs) h = elim (cases_Bool (is_same_pair p (a, b))) as (λ _. AllByRecursion (JoinsTwo n) (free_links a b (p ∷ rs))) [
  | inl hit ↦ subst (AllByRecursion (JoinsTwo n)) (sym (skipped a b p rs hit)) (free_joins n a b rs h.1)
  | inr miss ↦ subst (AllByRecursion (JoinsTwo n)) (sym (taken a b p rs miss)) (h.0, ((λ e. h.0.0 (sym e), h.0.2, h.0.1), free_joins n a b rs h.1))
]

pub side_marks : (n a b : ℕ) (rs : List (ℕ × ℕ)) → AllByRecursion (JoinsTwo n) rs → b < n → (marks : List ℤ) × (length marks ≡ n) × AreMarks (IsOnSide rs a b) marks
side_marks n a b rs h lt =
    let fs = free_links a b rs in
    let m = reached_marks n fs b (free_joins n a b rs h) lt in
    let to : (c : ℕ) → Reaches fs b c → IsOnSide rs a b c = λ c w. leads_keeps (ReactsTo fs) (IsOnSide rs a b) (λ y z i k. leads_then (IsFreeStep rs a b) b y z k (leads_step (IsFreeStep rs a b) y z (free_in a b rs y z i))) b c w (leads_here (IsFreeStep rs a b) b) in
    let back : (c : ℕ) → IsOnSide rs a b c → Reaches fs b c = λ c w. leads_keeps (IsFreeStep rs a b) (Reaches fs b) (λ y z f k. leads_then (ReactsTo fs) b y z k (leads_step (ReactsTo fs) y z (free_has a b rs y z f.0 f.1))) b c w (leads_here (ReactsTo fs) b) in
    (m.0, m.1, marks_for (Reaches fs b) (IsOnSide rs a b) m.0 to back m.2)

-- the side of b holds complexes alone
pub side_inside : (n a b : ℕ) (rs : List (ℕ × ℕ)) → AllByRecursion (JoinsTwo n) rs → b < n → (c : ℕ) → IsOnSide rs a b c → c < n
side_inside n a b rs h lt c w = leads_keeps (IsFreeStep rs a b) (λ v. v < n) (λ v u f l. elim f.0 [ inl i ↦ (inside_at n rs h v u i).1 | inr i ↦ (inside_at n rs h u v i).0 ]) b c w lt

-- each list has a sum over the side of b, whatever its length
pub side_sum : (n a b : ℕ) (rs : List (ℕ × ℕ)) (g : List ℤ) → AllByRecursion (JoinsTwo n) rs → b < n → (x : ℤ) × SumsTo g (IsOnSide rs a b) x
side_sum n a b rs g h lt =
    let m = side_marks n a b rs h lt in
    let marks = listed (length g) (entry m.0) in (
      dot marks g,
      sum_by g (IsOnSide rs a b) marks (length-listed (length g) (entry m.0)) (λ y l.
          let same : entry marks y ≡ entry m.0 y = entry-listed (length g) (entry m.0) y (omega (arith, l, length-listed (length g) (entry m.0))) in
          elim (lt_or y n) [
            | inl less ↦ elim (m.2 y (omega (arith, less, m.1))) [ inl p ↦ inl (p.0, same ∙ p.1) | inr p ↦ inr (p.0, same ∙ p.1) ]
            | inr more ↦ inr (λ w. let inside = side_inside n a b rs h lt y w in omega (arith, inside, more), same ∙ past_end m.0 y (omega (arith, more, m.1)))
          ]),
    )

-- ---- the shape

record Built (net : Net) (g : List ℤ) (tops : List (Option ℕ)) (count : ℕ) (places : List ℕ) : Type 0 where
  pairs : List Pair
  long : length pairs ≡ length places
  are : AllZip (IsPairOf net g tops) places pairs
  below : AllByRecursion (λ pair. (pair.top < count) × (pair.low < length net.complexes) × (pair.high < length net.complexes)) pairs

pub some_top : (net : Net) (tops : List (Option ℕ)) (count y : ℕ) → AreTops net tops count → y < length net.complexes → IsTerminal net.reactions y → (k : ℕ) × (top_at tops y ≡ Some k)
some_top net tops count y t lt terminal = by (top_at tops y) refl
  where
    by : (o : Option ℕ) → top_at tops y ≡ o → (k : ℕ) × (top_at tops y ≡ Some k)
    by None e = absurd (t.outside y lt e terminal)
    by (Some k) e = (k, e)

build : (net : Net) (g : List ℤ) (tops : List (Option ℕ)) (count : ℕ) → IsNetwork net → AreTops net tops count → (places : List ℕ) → ((r : ℕ) → IsIn r places → IsFirstOfPair net.reactions r) → Built net g tops count places
build net g tops count n t [] h = record { pairs = []; long = refl; are = tt; below = tt }
build net g tops count n t (r ∷ places) h =
    let f = h r (inl refl) in
    let ends = inside_at (length net.complexes) net.reactions n.partial.apart f.a f.b (reaction_in net.reactions r (f.a, f.b) f.goes.0 f.goes.1) in
    let top = some_top net tops count f.a t ends.0 f.pair.terminal in
    let sum = side_sum (length net.complexes) f.a f.b net.reactions g n.partial.apart ends.1 in
    let pair : Pair = record { low = f.a; high = f.b; top = top.0; sum = sum.0 } in
    let rest = build net g tops count n t places (λ q i. h q (inr i)) in
    record {
      pairs = pair ∷ rest.pairs;
      long = ap suc rest.long;
      are = (record { goes = f.goes; top = top.1; sum = sum.1 }, rest.are);
      below = ((t.below f.a top.0 top.1, ends.0, ends.1), rest.below);
    }

pub widths : (n : ℕ) (ys : List (List ℤ)) → AllByRecursion (IsVector n) ys → AllByRecursion (λ y. length y ≡ n) ys
widths n [] h = tt
widths n (y ∷ ys) h = (h.0.0, widths n ys h.1)

pub tops_below : (net : Net) (tops : List (Option ℕ)) (count : ℕ) → AreTops net tops count → AllByRecursion (λ top. (k : ℕ) → top ≡ Some k → k < count) tops
tops_below net tops count t = from tops (λ y k e. t.below y k e)
  where
    from : (ts : List (Option ℕ)) → ((y k : ℕ) → top_at ts y ≡ Some k → k < count) → AllByRecursion (λ top. (k : ℕ) → top ≡ Some k → k < count) ts
    from [] h = tt
    from (o ∷ ts) h = (λ k e. h 0 k e, from ts (λ y k e. h (suc y) k e))

-- a shape with these terminal classes and pairs
pub record ShapeWith (net : Net) (g : List ℤ) (tops : List (Option ℕ)) (count pairs : ℕ) : Type 0 where
  pub shape : Shape
  pub is : IsShapeOf net g shape
  pub tops_are : shape.tops ≡ tops
  pub count_is : shape.count ≡ count
  pub pairs_are : length shape.pairs ≡ pairs

-- the network has one for each list
pub shape_with : (net : Net) (g : List ℤ) (tops : List (Option ℕ)) (count : ℕ) (places : List ℕ) → IsNetwork net → AreTops net tops count → ArePairs net.reactions places → ShapeWith net g tops count (length places)
shape_with net g tops count places n t are =
    let b = build net g tops count n t places (λ r i. (are.each r).0 i) in
    record {
      shape = record { species = length net.names; complexes = net.complexes; tops = tops; count = count; pairs = b.pairs };
      is = record {
        shape = record { species = refl; complexes = refl; widths = widths (length net.names) net.complexes n.partial.vectors; tops = t.long; tops_below = tops_below net tops count t; pairs_below = b.below };
        tops = t;
        places = places;
        places_are = are;
        pairs = b.are;
      };
      tops_are = refl;
      count_is = refl;
      pairs_are = b.long;
    }

-- the count of terminal classes of a shape is that of true strong classes
pub shape_count : (net : Net) (earlier : Earlier) (g : List ℤ) (s : Shape) → IsTrueOf net Q2 (on earlier Q2) → IsShapeOf net g s → s.count ≡ terminal_of (on earlier Q2)
shape_count net earlier g s h is =
    number_is_one (λ y. IsComplex net y × IsTerminal net.reactions y) (SameStrong net.reactions) (strong_back net.reactions) (strong_then net.reactions) s.count (terminal_of (on earlier Q2)) (tops_are_counted net s.tops s.count is.tops) (terminal_known net (on earlier Q2) h)

pub shapes_exist : ShapesExist
shapes_exist net earlier g n h even =
    let known = strong_known net (on earlier Q2) h in
    let count = zeros_below (exits earlier) (length (exits earlier)) in
    let w = shape_with net g (tops_of (strong earlier) (exits earlier)) count (from_zero (pair_places net earlier)) n (tops_are net (count_of (on earlier Q2)) known.terminal (strong earlier) (exits earlier) known.is) (pair_places_are_pairs net earlier n h) in
    record { shape = w.shape; is = w.is; count = shape_count net earlier g w.shape h w.is; pairs = w.pairs_are ∙ length-map (pair_places net earlier) (λ r. r - 1) }
