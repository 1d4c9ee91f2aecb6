-- The answer on confluence vectors that the solutions of the confluence system give.
use Rattle.crn_reg.proofs.Prelude.{◌≡◌, ℕ, zero, suc, ◌+◌, ◌-◌, ◌<◌, ◌≤◌, ◌++◌, inl, inr, Bool, false, List, [], ◌∷◌, length, refl, sym, ap, subst, ◌∙◌, arith, ℤ, pos, negsuc, ◌*ℤ◌, ◌↔◌, IsTrue, unsigned_abs, AllZip, AllByRecursion, range_with_len, ints, length-append, length-range_with_len, KeptInts, KeptNums, Net, IsNetwork, entry, NamesWide, IsWeaklyReversible, confluence_system, IsRegular, IsNonzero, HasConfluenceLine, LeadsPositive, eq_or, in_at, all_from, zip_long, no_zero, range_more, YesVec, OnlyZero, Plane, Ties, Earlier, Q4, Q11, Q12, on, IsYes, IsNarrow, AreFree, AreFreeRows, AreLinkageClasses, AreStrongClasses, AllHold, IsInSpace, DoTerminalsGather, least_from, others_than, tie_tests, IsBasisOf, linkage, linkage_count, strong, exits, IsAnswer, GiveClasses, wide_basis, vector_is_formed, zero_is_formed, AreSmall, IsSolution, IsFirstPlace, IsTieOf, AreTies, numbers_but, IsLine, ArePlane, IsOnlyZero, IsSameOrNegative, GathersFirst, plain, Wide, Unknown}
use lib.IntN.{zero-*ℤ}
use Rattle.crn_reg.proofs.Named.{but_yes, but_no}
use Rattle.crn_reg.proofs.Solutions.{row_count, tests_by_solution, space_by_solution, solution_by_space, gathers, vector_by}
use Rattle.crn_reg.proofs.Negatives.{either_kept, either_first}

-- ---- what is known of the network, and what earlier verdicts give

pub record Known (net : Net) (links : List ℕ) (count strong_count terminal : ℕ) (labels exit_list : List ℕ) (weak : Bool) : Type 0 where
  pub network : IsNetwork net
  pub regular : IsRegular net
  pub linkage_is : AreLinkageClasses net count links
  pub strong_is : AreStrongClasses net strong_count terminal labels exit_list
  pub weak_is : IsTrue weak ↔ IsWeaklyReversible net.reactions

pub record Given (earlier : Earlier) (links : List ℕ) (count : ℕ) (labels exit_list : List ℕ) (weak : Bool) : Type 0 where
  pub gives : GiveClasses earlier links count labels exit_list
  pub yes' : IsYes (on earlier Q11)
  pub four : IsTrue weak ↔ IsYes (on earlier Q4)

-- ---- the numbers but one

but_all : (spared end : ℕ) → end ≤ spared → numbers_but spared end ≡ range_with_len 0 end
but_all spared zero le = refl
but_all spared (suc k) le =
    let e : k + 1 ≡ suc k = omega arith in
    subst (λ (n : ℕ). numbers_but spared n ≡ range_with_len 0 n) e
    (but_yes spared k (λ f. omega (arith, f, le)) ∙ ap (λ (l : List ℕ). l ++ k ∷ []) (but_all spared k (omega (arith, le))) ∙ sym (range_more 0 k k (omega arith)))

but_count : (spared end : ℕ) → spared < end → length (numbers_but spared end) ≡ end - 1
but_count spared zero lt = absurd (omega (arith, lt))
but_count spared (suc k) lt =
    let e : k + 1 ≡ suc k = omega arith in
    subst (λ (n : ℕ). length (numbers_but spared n) ≡ n - 1) e (elim (eq_or k spared) as (λ _. length (numbers_but spared (k + 1)) ≡ k + 1 - 1) [
      | inl f ↦
          let same = ap length (but_no spared k f ∙ but_all spared k (omega (arith, f))) in
          omega (arith, same, length-range_with_len 0 k)
      | inr ne ↦
          let more = ap length (but_yes spared k ne) in
          let rest = but_count spared k (omega (arith, lt, ne)) in
          omega (arith, more, length-append (numbers_but spared k) (k ∷ []), rest, lt, ne)
    ])

-- ---- lists of a certificate

free_by : (n : ℕ) (g : List ℤ) → length g ≡ n → AreSmall g → AreFree n g
free_by n g l small =
    record {
      long = l;
      each = all_from IsNarrow g (λ z i.
          let p = in_at z g (pos 0) i in
          let s = small p.0 in
          let at = ap unsigned_abs p.2 in
          omega (arith, s, at));
    }

zip_all : {A B : Type 0} (R : A → B → Type 0) (P : B → Type 0) (xs : List A) (ys : List B) → ((x : A) (y : B) → R x y → P y) → AllZip R xs ys → AllByRecursion P ys
zip_all R P [] [] f h = tt
zip_all R P [] (y ∷ ys) f h = absurd h
zip_all R P (x ∷ xs) [] f h = absurd h
zip_all R P (x ∷ xs) (y ∷ ys) f h = (f x y h.0, zip_all R P xs ys f h.1)

ties_free : (net : Net) (links : List ℕ) (count earlier_count spared many : ℕ) (ties : List (List ℤ)) → earlier_count ≡ count → length (numbers_but spared (length net.complexes)) ≡ many → AreTies (confluence_system net links count) spared ties
    → AreFreeRows many (length net.names + earlier_count) ties
ties_free net links count earlier_count spared many ties e l h =
    let a = confluence_system net links count in
    let cs = numbers_but spared (length net.complexes) in
    let width = length net.names + earlier_count in
    record {
      long = zip_long (IsTieOf a spared) cs ties h ∙ l;
      each = zip_all (IsTieOf a spared) (AreFree width) cs ties (λ c tie t. free_by width tie (let w : length tie ≡ width = omega (arith, t.long, row_count net links count, e) in w) t.small) h;
    }

ties_hold : (net : Net) (links : List ℕ) (count spared : ℕ) (Spared : ℕ → Type 0) (part : ℕ) (cs : List ℕ) (ties : List (List ℤ)) → ((d : ℕ) → d < length net.complexes → d ≡ spared → Spared d) → AllZip (IsTieOf (confluence_system net links count) spared) cs ties
    → AllHold (tie_tests net links count Spared part cs ties)
ties_hold net links count spared Spared part [] ties to h = tt
ties_hold net links count spared Spared part (c ∷ cs) [] to h = absurd h
ties_hold net links count spared Spared part (c ∷ cs) (tie ∷ ties) to h = (
  record {
    own = h.0.own;
    others = λ d lt ne. elim (h.0.others d lt ne) [
      | inl e ↦ inl (to d lt e)
      | inr z ↦ inr z
    ];
  },
  ties_hold net links count spared Spared (suc part) cs ties to h.1,
)

least_is : (k : ℕ) (g : List ℤ) (p : ℕ) → IsFirstPlace g p → least_from k g ≡ k + p
least_is k [] p f = absurd (f.some refl)
least_is k (pos zero ∷ g) zero f = absurd (f.some refl)
least_is k (pos zero ∷ g) (suc p) f =
    let rest = least_is (suc k) g p (record { some = f.some; before = λ j lt. f.before (suc j) (omega (arith, lt)) }) in
    omega (arith, rest)
least_is k (pos (suc n) ∷ g) zero f = omega arith
least_is k (pos (suc n) ∷ g) (suc p) f = absurd (let z = f.before 0 (omega arith) in omega (arith, ints, z))
least_is k (negsuc n ∷ g) zero f = omega arith
least_is k (negsuc n ∷ g) (suc p) f = absurd (let z = f.before 0 (omega arith) in omega (arith, ints, z))

-- ---- what holds of the labels and the count holds of those that earlier verdicts give

by_given : (earlier : Earlier) (links : List ℕ) (count : ℕ) (labels exit_list : List ℕ) (P : List ℕ → ℕ → Type 0) → GiveClasses earlier links count labels exit_list → P links count → P (linkage earlier) (linkage_count earlier)
by_given earlier links count labels exit_list P g h =
    subst (λ (ls : List ℕ). P ls (linkage_count earlier)) (sym g.labels_are) (subst (λ (n : ℕ). P links n) (sym g.count_is) h)

by_strong : (earlier : Earlier) (links : List ℕ) (count : ℕ) (labels exit_list : List ℕ) (P : List ℕ → List ℕ → Type 0) → GiveClasses earlier links count labels exit_list → P labels exit_list → P (strong earlier) (exits earlier)
by_strong earlier links count labels exit_list P g h =
    subst (λ (ls : List ℕ). P ls (exits earlier)) (sym g.strong_are) (subst (λ (es : List ℕ). P labels es) (sym g.exits_are) h)

-- ---- a line

pub line_answer : (net : Net) (budget : ℕ) (earlier : Earlier) (links : List ℕ) (count strong_count terminal : ℕ) (labels exit_list : List ℕ) (weak : Bool) (x : List ℤ) (vector : KeptInts) (ties : List (List ℤ))
    → Known net links count strong_count terminal labels exit_list weak → Given earlier links count labels exit_list weak → IsLine (confluence_system net links count) x ties
    → IsSameOrNegative x vector.list → (IsTrue weak → LeadsPositive vector.list) → (weak ≡ false → GathersFirst labels exit_list vector.list) → IsAnswer net budget earlier Q12 (record { verdict = YesVec vector; proof = Ties ties })
line_answer net budget earlier links count strong_count terminal labels exit_list weak x vector ties k e line either leads first_gathers =
    let a = confluence_system net links count in
    let n = length net.complexes in
    let g = vector.list in
    let place = line.place in
    let kept = either_kept a x g either line.kept in
    let first = either_first x g place either line.first in
    let space = space_by_solution net links count g k.network k.linkage_is kept.solution in
    let some : IsNonzero g = (place, first.some) in
    let one : HasConfluenceLine net = record { some = (g, space, some); one = λ h i sh si. line.one h i (solution_by_space net links count h k.linkage_is sh) (solution_by_space net links count i k.linkage_is si) } in
    let gather : DoTerminalsGather labels exit_list g = gathers net strong_count terminal labels exit_list g weak k.network k.regular one k.strong_is space some k.weak_is.0 first_gathers in
    let least : least_from 0 g ≡ place = (let r = least_is 0 g place first in omega (arith, r)) in
    let hold_at : AllHold (tie_tests net links count (λ d. d ≡ place) 2 (others_than net place) ties) = ties_hold net links count place (λ d. d ≡ place) 2 (others_than net place) ties (λ d lt f. f) line.ties_are in
    let hold : AllHold (tie_tests net links count (λ d. d ≡ least_from 0 g) 2 (others_than net (least_from 0 g)) ties) = subst (λ (c : ℕ). AllHold (tie_tests net links count (λ d. d ≡ c) 2 (others_than net c) ties)) (sym least) hold_at in
    record {
      formed = vector_is_formed net earlier vector ties (free_by n g kept.solution.long kept.small) (ties_free net links count (linkage_count earlier) place (n - 1) ties e.gives.count_is (but_count place n line.inside) line.ties_are);
      valid = (
        e.yes',
        (
          record {
            space = by_given earlier links count labels exit_list (λ ls m. IsInSpace net ls m g) e.gives (tests_by_solution net links count g k.network kept.solution);
            some = some;
            gathers = by_strong earlier links count labels exit_list (λ ls es. DoTerminalsGather ls es g) e.gives gather;
            primitive = kept.primitive;
            leads = λ y. leads (e.four.1 y);
          },
          by_given earlier links count labels exit_list (λ ls m. AllHold (tie_tests net ls m (λ d. d ≡ least_from 0 g) 2 (others_than net (least_from 0 g)) ties)) e.gives hold,
        ),
      );
      answered = (
        k.regular,
        one,
        record {
          confluence = vector_by net strong_count terminal labels exit_list g k.strong_is space some gather;
          primitive = kept.primitive;
          leads = λ w. leads (k.weak_is.1 w);
        },
      );
    }

-- ---- only zero

pub zero_answer : (net : Net) (budget : ℕ) (earlier : Earlier) (links : List ℕ) (count strong_count terminal : ℕ) (labels exit_list : List ℕ) (weak : Bool) (ties : List (List ℤ))
    → Known net links count strong_count terminal labels exit_list weak → Given earlier links count labels exit_list weak → IsOnlyZero (confluence_system net links count) ties → IsAnswer net budget earlier Q12 (record { verdict = OnlyZero; proof = Ties ties })
zero_answer net budget earlier links count strong_count terminal labels exit_list weak ties k e only =
    let a = confluence_system net links count in
    let n = length net.complexes in
    let all : numbers_but n n ≡ range_with_len 0 n = but_all n n (omega arith) in
    let zip : AllZip (IsTieOf a n) (range_with_len 0 n) ties = subst (λ (cs : List ℕ). AllZip (IsTieOf a n) cs ties) all only.ties_are in
    let hold : AllHold (tie_tests net links count (λ d. ⊥) 1 (range_with_len 0 n) ties) = ties_hold net links count n (λ d. ⊥) 1 (range_with_len 0 n) ties (λ d lt f. omega (arith, lt, f)) zip in
    record {
      formed = zero_is_formed net earlier ties (ties_free net links count (linkage_count earlier) n n ties e.gives.count_is (ap length all ∙ length-range_with_len 0 n) only.ties_are);
      valid = (e.yes', by_given earlier links count labels exit_list (λ ls m. AllHold (tie_tests net ls m (λ d. ⊥) 1 (range_with_len 0 n) ties)) e.gives hold);
      answered = (k.regular, λ g s. only.none g (solution_by_space net links count g k.linkage_is s));
    }

-- ---- more than a line

pub plane_answer : (net : Net) (budget : ℕ) (earlier : Earlier) (links : List ℕ) (count strong_count terminal : ℕ) (labels exit_list : List ℕ) (weak : Bool) (first second : ℕ) (one two : KeptInts)
    → Known net links count strong_count terminal labels exit_list weak → Given earlier links count labels exit_list weak → ArePlane (confluence_system net links count) first second one.list two.list
    → IsAnswer net budget earlier Q12 (plain (Plane first second one two))
plane_answer net budget earlier links count strong_count terminal labels exit_list weak first second one two k e plane =
    let n = length net.complexes in
    let g = one.list in
    let h = two.list in
    let kg = plane.one_is.kept in
    let kh = plane.two_is.kept in
    let space : (y : List ℤ) → IsSolution (confluence_system net links count) y → IsInSpace net (linkage earlier) (linkage_count earlier) y = λ y s.
    by_given earlier links count labels exit_list (λ ls m. IsInSpace net ls m y) e.gives (tests_by_solution net links count y k.network s) in
    record {
      formed = (
        record {
          head = (((plane.from, omega (arith, plane.less, plane.inside)), (omega (arith, plane.from, plane.less), plane.inside), λ f. omega (arith, f, plane.less)), tt);
          rows = (free_by n g kg.solution.long kg.small, (free_by n h kh.solution.long kh.small, tt));
          trees = tt;
        },
        (refl, refl),
      );
      valid = (
        e.yes',
        (
          (space g kg.solution, plane.one_is.own, plane.one_is.other),
          ((space h kh.solution, plane.two_is.own, plane.two_is.other), tt),
        ),
      );
      answered = (
        k.regular,
        record {
          one = space_by_solution net links count g k.network k.linkage_is kg.solution;
          two = space_by_solution net links count h k.network k.linkage_is kh.solution;
          apart = λ r.
              let x = entry g (first - 1) in
              let y = entry h (second - 1) in
              let none : x *ℤ y ≡ pos 0 = r (first - 1) (second - 1) ∙ ap (λ (z : ℤ). z *ℤ entry h (first - 1)) plane.one_is.other ∙ zero-*ℤ (entry h (first - 1)) in
              plane.two_is.own (no_zero x y none plane.one_is.own);
        },
      );
    }

-- ---- a wide vector

pub open_answer : (net : Net) (budget : ℕ) (earlier : Earlier) (links : List ℕ) (count strong_count terminal : ℕ) (labels exit_list : List ℕ) (weak : Bool) (index : ℕ) (basis : KeptNums)
    → Known net links count strong_count terminal labels exit_list weak → Given earlier links count labels exit_list weak → NamesWide (confluence_system net links count) index basis.list → IsAnswer net budget earlier Q12 (plain (Unknown (Wide 4 0 index basis)))
open_answer net budget earlier links count strong_count terminal labels exit_list weak index basis k e wide =
    let a = confluence_system net links count in
    let rows : length a.rows ≡ length net.names + linkage_count earlier = row_count net links count ∙ ap (λ (m : ℕ). length net.names + m) (sym e.gives.count_is) in
    let form : IsBasisOf (length net.complexes) (length net.names + linkage_count earlier) index basis.list = wide_basis a (length net.complexes) (length net.names + linkage_count earlier) index basis.list refl rows wide in
    record {
      formed = (record { head = ((refl, refl, form), tt); rows = tt; trees = tt }, (refl, refl));
      valid = tt;
      answered = (((refl, refl, form), tt), (e.yes', record { labels = links; count = count; labelled = k.linkage_is.labelled; count_is = k.linkage_is.count_is; wide = wide }));
    }
