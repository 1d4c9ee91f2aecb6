-- Valid answers are true, question by question.
use Rattle.crn_cert.proofs.Prelude.{◌≡◌, ◌≢◌, ℕ, zero, suc, ◌+◌, ◌-◌, ◌<◌, ◌≤◌, true, List, [], ◌∷◌, ◌++◌, length, get_or, map, refl, sym, ap, subst, ◌∙◌, inl, inr, arith, ◌==◌, not, ℤ, pos, negsuc, ◌*ℤ◌, sum, AllByRecursion, range_with_len, ints, ne_eqb, eqb-true, length-range_with_len, IsIn, Net, IsNetwork, IsVector, JoinsTwo, minus, reaction_vector, SameClass, IsLabelCount, entry, IsNumberOf, ReactsTo, IsComplex, IsDeficiency, AreDeficiencies, AreAtMostOne, InConfluenceSpace, no_zero, place_of, inside_at, vector_long, in_range, filter_has, and_cases, Verdict, Classes, Strong, Rank, Deficiency, Yes, YesWeak, YesVec, NoReaction, NoVec, NoNumber, NoTerminal, NoClass, NoSum, NoDependence, NoCycle, NotRegular, OnlyZero, Plane, Unknown, Proof, Forest, StrongTrees, Back, Sides, Ties, Earlier, Q1, Q2, Q3, Q4, Q5, Q6, Q7, Q8, Q9, Q10, Q11, Q12, on, count_of, rank_of, deficiencies_of, IsTrueOf, AllHold, IsTie, least_from, others_than, tie_tests, IsFormedOf, is_within_terminal, linkage, linkage_count, strong, exits, linkage_rows, strong_rows, reversible_head, reversible_rows, weak_head, dependence_rows, conservation_rows, zero_head, one_head, regular_head, regular_rows, confluence_head, confluence_rows, IsLeft, IsFirstLarge, WithDeficiencies, IsTrueOrOpen, ValidIsTrue, of_class}
use lib.IntN.{zero-*ℤ}
use Rattle.crn_cert.proofs.FormedFacts.{bare_formed, sides_formed}
use Rattle.crn_cert.proofs.ClassesRight.{linkage_right, named_in, named_inside}
use Rattle.crn_cert.proofs.StrongRight.{strong_right}
use Rattle.crn_cert.proofs.Multipliers.{no_dependence, no_conservation}
use Rattle.crn_cert.proofs.Cycles.{cycle_by_tests}
use Rattle.crn_cert.proofs.Counts.{classes_counted, tally, tally_is}
use Rattle.crn_cert.proofs.Kept.{AreKnown, space_by_tests, line_by_ties, zero_by_ties, vector_by_tests}
use Rattle.crn_cert.proofs.Known.{ClassesKnown, StrongKnown, linkage_known, strong_known, classes_known, one_each, first_split, dependent_yes, dependent_no, regular_yes, regular_no, weak_yes, weak_no}
use Rattle.crn_cert.proofs.Pairs.{pairs_cut}

-- ---- linkage and strong classes

linkage_law : (net : Net) (earlier : Earlier) → IsNetwork net → (v : Verdict) (p : Proof) → IsFormedOf net earlier Q1 v p → AllHold (linkage_rows net v p) → IsTrueOrOpen net Q1 v
linkage_law net earlier network (Unknown gap) p f t = tt
linkage_law net earlier network (Classes count label) (Forest up depth) f t = linkage_right net network count label.list up.list depth.list f.0.rows.0.long t.0.0 t.0.1 t.1.0
linkage_law net earlier network (Classes count label) p f t = absurd (let e = f.1.1 in cc)
linkage_law net earlier network v p f t = absurd f.0.head

pub linkage_valid : ValidIsTrue [] [] Q1
linkage_valid net earlier answer network known rests f t = linkage_law net earlier network answer.verdict answer.proof f t

-- whatever the reactions join
pub strong_law : (net : Net) (earlier : Earlier) (v : Verdict) (p : Proof) → IsFormedOf net earlier Q2 v p → AllHold (strong_rows net v p) → IsTrueOrOpen net Q2 v
strong_law net earlier (Unknown gap) p f t = tt
strong_law net earlier (Strong count terminal label exit) (StrongTrees from from_depth to to_depth level) f t =
    strong_right net count terminal label.list exit.list from.list from_depth.list to.list to_depth.list level.list f.0.rows.0.long f.0.rows.1.1.1.1.1.1.0.long t.0 t.1.0 t.1.1.0 t.1.1.1.0 t.1.1.1.1.0 t.1.1.1.1.1.0
strong_law net earlier (Strong count terminal label exit) p f t = absurd (let e = f.1.1 in cc)
strong_law net earlier v p f t = absurd f.0.head

pub strong_valid : ValidIsTrue [] [] Q2
strong_valid net earlier answer network known rests f t = strong_law net earlier answer.verdict answer.proof f t

-- ---- reversibility

reversible_law : (net : Net) (earlier : Earlier) → (v : Verdict) (p : Proof) → IsFormedOf net earlier Q3 v p → AllHold (reversible_head net v ++ reversible_rows net v p) → IsTrueOrOpen net Q3 v
reversible_law net earlier (Unknown gap) p f t = tt
reversible_law net earlier Yes (Back back) f t = λ y z i.
    let k = place_of (y, z) net.reactions i in
    let r = t.0 k.0 k.1 in
    let same : (r.y, r.z) ≡ (y, z) = sym r.goes.1 ∙ k.2 in
    subst (λ (w : ℕ × ℕ). ReactsTo net.reactions w.1 w.0) same (named_in net (get_or back.list k.0 0) r.z r.y r.back)
reversible_law net earlier (NoReaction r) p f t = t.0
reversible_law net earlier Yes p f t = absurd (let e = f.1.1 in cc)
reversible_law net earlier v p f t = absurd f.0.head

pub reversible_valid : ValidIsTrue [] [] Q3
reversible_valid net earlier answer network known rests f t = reversible_law net earlier answer.verdict answer.proof f t

weak_law : (net : Net) (earlier : Earlier) → IsNetwork net → StrongKnown net (count_of (on earlier Q2)) (strong earlier) (exits earlier) → (v : Verdict) (p : Proof) → IsFormedOf net earlier Q4 v p → AllHold (weak_head net earlier v ++ []) → IsTrueOrOpen net Q4 v
weak_law net earlier network k (Unknown gap) p f t = tt
weak_law net earlier network k Yes p f t = λ y z i.
    let at = inside_at (length net.complexes) net.reactions network.partial.apart y z i in
    k.is.right.same y z (omega (arith, at.0, k.is.places)) (omega (arith, at.1, k.is.places)) (t.0 y z i)
weak_law net earlier network k (NoReaction r) p f t =
    let h = t.0 in
    let at = named_inside net network r h.0 h.1 h.2 in
    (h.0, h.1, h.2, λ s. h.3 (k.is.right.together h.0 h.1 (omega (arith, at.0, k.is.places)) (omega (arith, at.1, k.is.places)) s))
weak_law net earlier network k v p f t = absurd f.0.head

pub weak_valid : ValidIsTrue (Q2 ∷ []) [] Q4
weak_valid net earlier answer network known rests f t = weak_law net earlier network (strong_known net (on earlier Q2) known.0) answer.verdict answer.proof f t

-- ---- positive vectors

dependent_law : (net : Net) (earlier : Earlier) → (v : Verdict) (p : Proof) → IsFormedOf net earlier Q7 v p → AllHold (dependence_rows net v) → IsTrueOrOpen net Q7 v
dependent_law net earlier (Unknown gap) p f t = tt
dependent_law net earlier (YesVec vector) p f t = t.0
dependent_law net earlier (NoVec multipliers) p f t = (t.0, no_dependence net multipliers.list t.0)
dependent_law net earlier v p f t = absurd f.0.head

pub dependent_valid : ValidIsTrue [] [] Q7
dependent_valid net earlier answer network known rests f t = dependent_law net earlier answer.verdict answer.proof f t

minus_short : (xs ys : List ℤ) (n : ℕ) → length xs ≤ n → length (minus xs ys) ≤ n
minus_short [] ys n h = h
minus_short (x ∷ xs) [] n h = omega arith
minus_short (x ∷ xs) (y ∷ ys) zero h = absurd (omega (arith, h))
minus_short (x ∷ xs) (y ∷ ys) (suc n) h = let r = minus_short xs ys n (omega (arith, h)) in omega (arith, r)

vectors_short : (net : Net) (rs : List (ℕ × ℕ)) → AllByRecursion (IsVector (length net.names)) net.complexes → AllByRecursion (JoinsTwo (length net.complexes)) rs → AllByRecursion (λ v. length v ≤ length net.names) (map (reaction_vector net) rs)
vectors_short net [] vs h = tt
vectors_short net (r ∷ rs) vs h =
    let long = vector_long (length net.names) net.complexes vs r.1 h.0.2 in
    (minus_short (get_or net.complexes r.1 []) (get_or net.complexes r.0 []) (length net.names) (omega (arith, long)), vectors_short net rs vs h.1)

conservative_law : (net : Net) (earlier : Earlier) → IsNetwork net → (v : Verdict) (p : Proof) → IsFormedOf net earlier Q8 v p → AllHold (conservation_rows net v) → IsTrueOrOpen net Q8 v
conservative_law net earlier network (Unknown gap) p f t = tt
conservative_law net earlier network (YesVec vector) p f t = t.0
conservative_law net earlier network (NoVec multipliers) p f t = (t.0, no_conservation net multipliers.list (vectors_short net net.reactions network.partial.vectors network.partial.apart) t.0)
conservative_law net earlier network v p f t = absurd f.0.head

pub conservative_valid : ValidIsTrue [] [] Q8
conservative_valid net earlier answer network known rests f t = conservative_law net earlier network answer.verdict answer.proof f t

-- ---- regularity

regular_law : (net : Net) (earlier : Earlier) → IsNetwork net → ClassesKnown net earlier → IsTrueOrOpen net Q7 (on earlier Q7) → (v : Verdict) (p : Proof) → IsFormedOf net earlier Q11 v p → AllHold (regular_head net earlier v ++ regular_rows net earlier v p) → IsTrueOrOpen net Q11 v
regular_law net earlier network k dep (Unknown gap) p f t = tt
regular_law net earlier network k dep Yes (Sides sides) f t =
    record { terminal = one_each net earlier k t.0.0; dependent = dependent_yes net (on earlier Q7) t.0.1 dep; cut_pairs = pairs_cut net network earlier sides k t.1 (sides_formed net earlier sides f).each }
regular_law net earlier network k dep (NoTerminal class count) p f t = first_split net earlier class count k f.0.head.0.0 f.0.head.0.1 t.0
regular_law net earlier network k dep NoDependence p f t = (one_each net earlier k t.0.0, dependent_no net (on earlier Q7) t.0.1 dep)
regular_law net earlier network k dep (NoCycle r walk) p f t =
    let w = t.1.0 in
    let s = k.strong_is.is in
    let here : is_within_terminal earlier (w.y, w.z) ≡ true = ap (is_within_terminal earlier) (sym w.goes.1.1) ∙ t.0.2.2 in
    let parts = and_cases (get_or (strong earlier) w.y 0 == get_or (strong earlier) w.z 0) (of_class (strong earlier) (exits earlier) w.y == 0) here in
    let within = eqb-true (get_or (strong earlier) w.y 0) (get_or (strong earlier) w.z 0) parts.0 in
    let terminal = eqb-true (of_class (strong earlier) (exits earlier) w.y) 0 parts.1 in
    (one_each net earlier k t.0.0, cycle_by_tests net network (strong earlier) (exits earlier) r walk.list s.places s.right s.exits_are w within terminal)
regular_law net earlier network k dep Yes p f t = absurd (let e = f.1.1 in cc)
regular_law net earlier network k dep v p f t = absurd f.0.head

pub regular_valid : ValidIsTrue (Q1 ∷ Q2 ∷ []) (Q7 ∷ []) Q11
regular_valid net earlier answer network known rests f t = regular_law net earlier network (classes_known net earlier known.0 known.1.0) rests.0 answer.verdict answer.proof f t

-- ---- confluence

-- the least place of a nonzero entry
record FirstPlace (k : ℕ) (g : List ℤ) : Type 0 where
  i : ℕ
  is : least_from k g ≡ k + i
  inside : i < length g
  some : entry g i ≢ pos 0

first_place : (k : ℕ) (g : List ℤ) (j : ℕ) → entry g j ≢ pos 0 → FirstPlace k g
first_place k (pos zero ∷ g) (suc j) ne = let r = first_place (suc k) g j ne in record { i = suc r.i; is = omega (arith, r.is); inside = omega (arith, r.inside); some = r.some }
first_place k (pos (suc n) ∷ g) j ne = record { i = 0; is = omega arith; inside = omega arith; some = λ e. omega (arith, ints, e) }
first_place k (negsuc n ∷ g) j ne = record { i = 0; is = omega arith; inside = omega arith; some = λ e. omega (arith, ints, e) }
first_place k g j ne = absurd (ne refl)

-- the tested ties of these complexes
tied_at : (net : Net) (links : List ℕ) (count : ℕ) (spared : ℕ → Type 0) (part : ℕ) (cs : List ℕ) (ties : List (List ℤ)) → AllHold (tie_tests net links count spared part cs ties) → (c : ℕ) → IsIn c cs → (tie : List ℤ) × IsTie net links count spared c tie
tied_at net links count spared part [] ties h c i = absurd i
tied_at net links count spared part (d ∷ cs) [] h c i = absurd h.0
tied_at net links count spared part (d ∷ cs) (tie ∷ ties) h c (inl e) = (tie, subst (λ (k : ℕ). IsTie net links count spared k tie) (sym e) h.0)
tied_at net links count spared part (d ∷ cs) (tie ∷ ties) h c (inr i) = tied_at net links count spared (suc part) cs ties h.1 c i

other_in : (net : Net) (c0 c : ℕ) → c < length net.complexes → c ≢ c0 → IsIn c (others_than net c0)
other_in net c0 c lt ne = filter_has (λ d. not (d == c0)) (range_with_len 0 (length net.complexes)) c (in_range c 0 (length net.complexes) (omega arith) (omega (arith, lt))) (ap not (ne_eqb c c0 ne))

confluence_law : (net : Net) (earlier : Earlier) → ClassesKnown net earlier → IsTrueOf net Q4 (on earlier Q4) → IsTrueOrOpen net Q11 (on earlier Q11) → (v : Verdict) (p : Proof) → IsFormedOf net earlier Q12 v p → AllHold (confluence_head earlier v ++ confluence_rows net earlier v p) → IsTrueOrOpen net Q12 v
confluence_law net earlier k weak reg (Unknown gap) p f t = tt
confluence_law net earlier k weak reg (YesVec vector) (Ties ties) f t =
    let g = vector.list in
    let normal = t.1.0 in
    let l = k.linkage_is in
    let s = k.strong_is.is in
    let known : AreKnown net (linkage earlier) (linkage_count earlier) = record { labelled = l.labelled; count_is = l.count_is } in
    let space : InConfluenceSpace net g = space_by_tests net (linkage earlier) (linkage_count earlier) g known f.0.rows.0.long normal.space in
    let first = first_place 0 g normal.some.0 normal.some.1 in
    let c0 = least_from 0 g in
    let place : c0 ≡ first.i = omega (arith, first.is) in
    let inside : c0 < length net.complexes = omega (arith, place, first.inside, f.0.rows.0.long) in
    let some : entry g c0 ≢ pos 0 = subst (λ (c : ℕ). entry g c ≢ pos 0) (sym place) first.some in
    let counted : IsLabelCount (strong earlier) (length (exits earlier)) = subst (IsLabelCount (strong earlier)) (sym s.classes) s.count_is in (
      regular_yes net (on earlier Q11) t.0 reg,
      line_by_ties net (linkage earlier) (linkage_count earlier) c0 g known space inside some (λ c lt ne. tied_at net (linkage earlier) (linkage_count earlier) (λ d. d ≡ c0) 2 (others_than net c0) ties t.1.1 c (other_in net c0 c lt ne)),
      record {
        confluence = vector_by_tests net (linkage earlier) (strong earlier) (exits earlier) (linkage_count earlier) g known s.places s.right counted s.exits_are f.0.rows.0.long normal.space normal.some normal.gathers;
        primitive = normal.primitive;
        leads = λ w. normal.leads (weak_no net (on earlier Q4) weak w);
      },
    )
confluence_law net earlier k weak reg NotRegular p f t = regular_no net (on earlier Q11) t.0 reg
confluence_law net earlier k weak reg OnlyZero (Ties ties) f t =
    let l = k.linkage_is in
    let known : AreKnown net (linkage earlier) (linkage_count earlier) = record { labelled = l.labelled; count_is = l.count_is } in (
      regular_yes net (on earlier Q11) t.0 reg,
      zero_by_ties net (linkage earlier) (linkage_count earlier) known (λ c lt. tied_at net (linkage earlier) (linkage_count earlier) (λ d. ⊥) 1 (range_with_len 0 (length net.complexes)) ties t.1 c (in_range c 0 (length net.complexes) (omega arith) (omega (arith, lt)))),
    )
confluence_law net earlier k weak reg (Plane first second one two) p f t =
    let l = k.linkage_is in
    let known : AreKnown net (linkage earlier) (linkage_count earlier) = record { labelled = l.labelled; count_is = l.count_is } in
    let rows = (bare_formed net earlier Q12 (Plane first second one two) p f.0.trees f.1.1 f).0.rows in
    let a = t.1.0 in
    let b = t.1.1.0 in (
      regular_yes net (on earlier Q11) t.0 reg,
      record {
        one = space_by_tests net (linkage earlier) (linkage_count earlier) one.list known rows.0.long a.0;
        two = space_by_tests net (linkage earlier) (linkage_count earlier) two.list known rows.1.0.long b.0;
        apart = λ r.
            let none : entry one.list (first - 1) *ℤ entry two.list (second - 1) ≡ pos 0 = r (first - 1) (second - 1) ∙ ap (λ (z : ℤ). z *ℤ entry two.list (first - 1)) a.2 ∙ zero-*ℤ (entry two.list (first - 1)) in
            b.1 (no_zero (entry one.list (first - 1)) (entry two.list (second - 1)) none a.1);
      },
    )
confluence_law net earlier k weak reg (YesVec vector) p f t = absurd (let e = f.1.1 in cc)
confluence_law net earlier k weak reg OnlyZero p f t = absurd (let e = f.1.1 in cc)
confluence_law net earlier k weak reg v p f t = absurd f.0.head

pub confluence_valid : ValidIsTrue (Q1 ∷ Q2 ∷ Q4 ∷ []) (Q11 ∷ []) Q12
confluence_valid net earlier answer network known rests f t = confluence_law net earlier (classes_known net earlier known.0 known.1.0) known.1.1.0 rests.0 answer.verdict answer.proof f t

-- ---- the two deficiency theorems

all_counted : (xs : List ℕ) → tally (λ x. true) xs ≡ length xs
all_counted [] = refl
all_counted (x ∷ xs) = omega (arith, all_counted xs)

classes_number : (net : Net) (earlier : Earlier) → IsTrueOf net Q1 (on earlier Q1) → IsNumberOf (IsComplex net) (SameClass net.reactions) (linkage_count earlier)
classes_number net earlier h =
    let l = linkage_known net (on earlier Q1) h in
    let n = linkage_count earlier in
    subst (λ (m : ℕ). IsNumberOf (IsComplex net) (SameClass net.reactions) m)
    (sym (tally_is (λ x. true) (range_with_len 1 n)) ∙ all_counted (range_with_len 1 n) ∙ length-range_with_len 1 n)
    (classes_counted (SameClass net.reactions) (IsComplex net) (linkage earlier) n (λ x. true) l.labelled.right l.count_is
    (λ y ly e. omega (arith, ly, l.labelled.long))
    (λ y has. (omega (arith, has, l.labelled.long), refl)))

pub deficiency_is : (net : Net) (earlier : Earlier) (d : ℕ) → IsTrueOf net Q1 (on earlier Q1) → (v : Verdict) → IsTrueOrOpen net Q5 v → IsLeft net earlier d (rank_of v) → IsDeficiency net d
deficiency_is net earlier d h (Rank rank base) r e = record { classes = linkage_count earlier; rank = rank; classes_are = classes_number net earlier h; rank_is = r.rank_is; is = e }
deficiency_is net earlier d h v r e = absurd e

zero_law : (net : Net) (earlier : Earlier) → IsTrueOf net Q1 (on earlier Q1) → IsTrueOf net Q4 (on earlier Q4) → IsTrueOrOpen net Q5 (on earlier Q5) → (v : Verdict) (p : Proof) → IsFormedOf net earlier Q9 v p → AllHold (zero_head net earlier v ++ []) → IsTrueOrOpen net Q9 v
zero_law net earlier h w r (Unknown gap) p f t = tt
zero_law net earlier h w r (YesWeak weak) p f t =
    let same = t.1.0.1 in
    (deficiency_is net earlier 0 h (on earlier Q5) r t.1.0.0, (λ b. weak_yes net (on earlier Q4) w (same.0 b), λ a. same.1 (weak_no net (on earlier Q4) w a)))
zero_law net earlier h w r (NoNumber d) p f t = (deficiency_is net earlier d h (on earlier Q5) r t.1.0, λ e. omega (arith, e, f.0.head.0.0))
zero_law net earlier h w r v p f t = absurd f.0.head

pub zero_valid : ValidIsTrue (Q1 ∷ Q4 ∷ []) (Q5 ∷ []) Q9
zero_valid net earlier answer network known rests f t = zero_law net earlier known.0 known.1.0 rests.0 answer.verdict answer.proof f t

-- deficiencies that are known
record KnownDeficiencies (net : Net) (Has : ℕ → List ℕ → Type 0) : Type 0 where
  total : ℕ
  classes : List ℕ
  right : AreDeficiencies net total classes
  has : Has total classes

deficiencies_known : (net : Net) (Has : ℕ → List ℕ → Type 0) (v : Verdict) → IsTrueOrOpen net Q6 v → WithDeficiencies Has (deficiencies_of v) → KnownDeficiencies net Has
deficiencies_known net Has (Deficiency total classes) h w = record { total = total; classes = classes.list; right = h; has = w }
deficiencies_known net Has v h w = absurd w

-- a place of a number that is not 0 is inside
inside_by : (ds : List ℕ) (k d : ℕ) → get_or ds k 0 ≡ d → 2 ≤ d → k < length ds
inside_by [] k d e le = absurd (omega (arith, e, le))
inside_by (x ∷ ds) zero d e le = omega arith
inside_by (x ∷ ds) (suc k) d e le = let h = inside_by ds k d e le in omega (arith, h)

one_law : (net : Net) (earlier : Earlier) → ClassesKnown net earlier → IsTrueOrOpen net Q6 (on earlier Q6) → (v : Verdict) (p : Proof) → IsFormedOf net earlier Q10 v p → AllHold (one_head earlier v ++ []) → IsTrueOrOpen net Q10 v
one_law net earlier k q (Unknown gap) p f t = tt
one_law net earlier k q Yes p f t =
    let d = deficiencies_known net (λ total classes. AreAtMostOne classes × (sum classes ≡ total)) (on earlier Q6) q t.0.1 in
    record { terminal = one_each net earlier k t.0.0; total = d.total; classes = d.classes; deficiencies = d.right; small = d.has.0; additive = d.has.1 }
one_law net earlier k q (NoTerminal class count) p f t = first_split net earlier class count k f.0.head.0.0 f.0.head.0.1 t.0
one_law net earlier k q (NoClass class number) p f t =
    let d = deficiencies_known net (λ total classes. IsFirstLarge class number classes) (on earlier Q6) q t.0.1 in
    let inside = inside_by d.classes (class - 1) number d.has.0 d.has.1 in
    record {
      terminal = one_each net earlier k t.0.0;
      total = d.total;
      classes = d.classes;
      deficiencies = d.right;
      place = (f.0.head.0.0, omega (arith, inside, f.0.head.0.0));
      is = d.has.0;
      large = d.has.1;
      before = d.has.2;
    }
one_law net earlier k q (NoSum x) p f t =
    let d = deficiencies_known net (λ total classes. AreAtMostOne classes × (sum classes ≡ x) × (x ≢ total)) (on earlier Q6) q t.0.1 in
    record { terminal = one_each net earlier k t.0.0; total = d.total; classes = d.classes; deficiencies = d.right; small = d.has.0; is = d.has.1; other = d.has.2 }
one_law net earlier k q v p f t = absurd f.0.head

pub one_valid : ValidIsTrue (Q1 ∷ Q2 ∷ []) (Q6 ∷ []) Q10
one_valid net earlier answer network known rests f t = one_law net earlier (classes_known net earlier known.0 known.1.0) rests.0 answer.verdict answer.proof f t
