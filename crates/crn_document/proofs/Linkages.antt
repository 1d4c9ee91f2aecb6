-- The linkage classes that are known before a block, by the verdicts on all questions before it.
use Rattle.crn_document.proofs.Prelude.{◌≡◌, ◌≤◌, ◌+◌, ◌-◌, ◌++◌, ◌∙◌, ℕ, zero, suc, Bool, List, [], ◌∷◌, length, map, drop, take, refl, sym, subst, ap, inl, inr, arith, codes, filter, ap₂, append_assoc, Result, Ok, Err, OnOk, Bor, AllByRecursion, range_with_len, filter-append, length-range_with_len, length-map-range_with_len, length-replicate, IsIn, IsAscending, Net, MAX_COMPLEXES, MAX_REACTIONS, filter_few, above_ascending, filter_above, range_above, filter_from, range_bounds, all_from, range_more, Wide, Verdict, Unknown, built, Earlier, Question, Q1, Q2, number, on, labels_of, count_of, terminal_of, IsFormedVerdict, some_number, Members, record_form, DueBase, KeptFacts, HoldsNoneFrom, HoldsOn, HoldsNeeds, IsBuilt, built_at, formed_on, terminal_fits, Linkage, IsKnownFor, IsKnown, IsLinkage, before, class_counts, is_in_class, members_of, FitsCounts, HasClassSizes, IsOwnDue, ends_at, is_least_of_pair, is_within_terminal, linkage, linkage_count, class_places, pair_places, all_same, ◌<◌}
use Rattle.std.specs.Prelude.{replicate, ◌&&◌, ◌⊎◌}
use Rattle.crn_cert.specs.declared.answer.Verdict.TheVariants.{Classes}
use Rattle.crn_document.proofs.Places.{place_of_built, needs_at, none_later}

-- the number of classes and the labels that a verdict on linkage classes says
linkage_fits : (net : Net) (e : Earlier) (v : Verdict) → IsFormedVerdict net e Q1 v → (length (labels_of v) ≤ length net.complexes) × (count_of v ≤ length net.complexes)
linkage_fits net e (Classes count label) h = (let l = h.1.long in omega (arith, l), h.0.0.1)
linkage_fits net e (Unknown (Wide system class index basis)) h = absurd h.0
linkage_fits net e v h = absurd h.0

none_yet : (es : Earlier) → HoldsNoneFrom 1 es → es ≡ []
none_yet [] none = refl
none_yet (e ∷ es) none = absurd (omega (arith, some_number e.0, none.0))

first_of : (es : Earlier) (qs : List Question) → map (λ (e : Question × Verdict). e.0) es ≡ Q1 ∷ qs → HoldsOn es 1
first_of [] qs is = absurd cc
first_of (e ∷ es) qs is = let same : e.0 ≡ Q1 = cc in inl (sym (ap number same))

-- the verdict on the first question is held before all later ones
holds_first : (net : Net) (n : ℕ) (facts : KeptFacts) → IsBuilt n → IsKnown net (before n) facts → (n ≡ 1 → ⊥) → HoldsOn facts.earlier 1
holds_first net n facts answered k differs = let p = place_of_built n answered in by p.0 p.3 (k.so_far ∙ p.2)
  where
    by : (place : ℕ) → built_at place ≡ n → map (λ (e : Question × Verdict). e.0) facts.earlier ≡ take place built → HoldsOn facts.earlier 1
    by zero is e = absurd (differs (sym is))
    by (suc place) is e = first_of facts.earlier (take place (drop 1 built)) e

-- if all blocks before one are known, what it rests on is
pub known_for : (net : Net) (n : ℕ) (facts : KeptFacts) → IsBuilt n → IsKnown net (before n) facts → IsKnownFor net n facts
known_for net n facts built k = record {
  network = k.network;
  facts_of = k.facts_of;
  needs = needs_at facts.earlier n built k.so_far;
  none = none_later facts.earlier n built k.so_far;
  first = holds_first net n facts built k;
}

-- no class is known before the first block
pub linkage_none : (net : Net) (n : ℕ) (facts : KeptFacts) (l : Linkage) → IsKnownFor net n facts → n ≡ 1 → l.labels.now ≡ [] → l.count ≡ 0 → IsLinkage facts.earlier l
linkage_none net n facts l k first labels count =
    let none : facts.earlier ≡ [] = none_yet facts.earlier (subst (λ (m : ℕ). HoldsNoneFrom m facts.earlier) first k.none) in record {
      labels_are = labels ∙ sym (ap (λ (es : Earlier). labels_of (on es Q1)) none);
      count_is = count ∙ sym (ap (λ (es : Earlier). count_of (on es Q1)) none);
      long = (let e = ap (λ (x : List ℕ). length x) labels in omega (arith, e));
      few = omega (arith, count);
    }

-- later the classes are those of the first verdict
pub linkage_is : (net : Net) (n : ℕ) (facts : KeptFacts) (v : Verdict) (l : Linkage) → IsBuilt n → (n ≡ 1 → ⊥) → IsKnownFor net n facts → v ≡ on facts.earlier Q1 → l.labels.now ≡ labels_of v → l.count ≡ count_of v → IsLinkage facts.earlier l
linkage_is net n facts v l built differs k is labels count =
    let f = formed_on net [] facts.earlier Q1 k.facts_of.formed (let held = k.first in held differs) in
    let fits = linkage_fits net f.0 (on facts.earlier Q1) f.1 in
    let limit = k.network.partial.complexes_limit in
    let same = labels ∙ ap (λ (w : Verdict). labels_of w) is in
    let most = count ∙ ap (λ (w : Verdict). count_of w) is in record {
      labels_are = same;
      count_is = most;
      long = (let e = ap (λ (x : List ℕ). length x) same in let f0 = fits.0 in omega (arith, e, f0, limit));
      few = (let f1 = fits.1 in omega (arith, most, f1, limit));
    }

-- ---- the strong classes

-- the verdict on the second question is held before questions 11 and 13
pub holds_second : (net : Net) (n : ℕ) (facts : KeptFacts) → (n ≡ 11) ⊎ (n ≡ 13) → IsKnownFor net n facts → HoldsOn facts.earlier 2
holds_second net n facts (inl e) k = (subst (λ (m : ℕ). HoldsNeeds facts.earlier m) e k.needs).1.0
holds_second net n facts (inr e) k = (subst (λ (m : ℕ). HoldsNeeds facts.earlier m) e k.needs).0

-- and there are few terminal classes
pub terminal_few : (net : Net) (n : ℕ) (facts : KeptFacts) → IsKnownFor net n facts → n ≡ 13 → terminal_of (on facts.earlier Q2) ≤ MAX_COMPLEXES
terminal_few net n facts k e =
    let f = formed_on net [] facts.earlier Q2 k.facts_of.formed (holds_second net n facts (inr e) k) in
    let t = terminal_fits net f.0 (on facts.earlier Q2) f.1 in
    let limit = k.network.partial.complexes_limit in omega (arith, t, limit)

-- ---- the members of a class, one reaction after another

pub filter_step : (net : Net) (labels : List ℕ) (k n : ℕ) → filter (λ r. is_in_class net labels k r) (range_with_len 1 (n + 1)) ≡ filter (λ r. is_in_class net labels k r) (range_with_len 1 n) ++ filter (λ r. is_in_class net labels k r) ((n + 1) ∷ [])
filter_step net labels k n =
    let p : ℕ → Bool = λ r. is_in_class net labels k r in
    ap (λ (t : List ℕ). filter p t) (range_more 1 n (n + 1) (omega arith)) ∙ filter-append p (range_with_len 1 n) ((n + 1) ∷ [])

-- the linked pairs within terminal classes are some of the reactions
pub pairs_few : (net : Net) (earlier : Earlier) → length (pair_places net earlier) ≤ length net.reactions
pairs_few net earlier =
    let l = length-range_with_len 1 (length net.reactions) in
    let f = filter_few (λ r. is_within_terminal earlier (ends_at net r) && is_least_of_pair net r) (range_with_len 1 (length net.reactions)) in omega (arith, l, f)

pub members_few : (net : Net) (labels : List ℕ) (k : ℕ) → length (members_of net labels k) ≤ length net.reactions
members_few net labels k = let l = length-range_with_len 1 (length net.reactions) in let f = filter_few (λ r. is_in_class net labels k r) (range_with_len 1 (length net.reactions)) in omega (arith, l, f)

-- the members of a class are reactions
pub member_few : (net : Net) (labels : List ℕ) (k n : ℕ) → IsIn n (members_of net labels k) → n ≤ length net.reactions
member_few net labels k n i = let l = range_bounds n 1 (length net.reactions) (filter_from (λ r. is_in_class net labels k r) (range_with_len 1 (length net.reactions)) n i).0 in omega (arith, l.1)

-- the members of a class are ascending
pub members_ascending : (net : Net) (labels : List ℕ) (k : ℕ) → IsAscending (members_of net labels k)
members_ascending net labels k = above_ascending 0 (members_of net labels k) (filter_above (λ r. is_in_class net labels k r) 0 (range_with_len 1 (length net.reactions)) (range_above 0 1 (length net.reactions) (omega arith)))

-- a base of the members of a class may be due
pub base_due : (net : Net) (labels : List ℕ) (c k rank : ℕ) (members : Bor (List ℕ)) → length net.reactions ≤ MAX_REACTIONS → rank ≤ MAX_REACTIONS → members.now ≡ members_of net labels k → IsOwnDue c (record_form (codes "base") (Members rank (members_of net labels k) ∷ [])) (DueBase rank members)
base_due net labels c k rank members few le is = (
  ap (λ (ms : List ℕ). record_form (codes "base") (Members rank ms ∷ [])) is,
  λ version. (omega (arith, le), subst IsAscending (sym is) (members_ascending net labels k), subst (λ (ms : List ℕ). AllByRecursion (λ m. m ≤ MAX_REACTIONS) ms) (sym is) (all_from (λ m. m ≤ MAX_REACTIONS) (members_of net labels k) (λ n i. let l = member_few net labels k n i in omega (arith, l, few)))),
)

-- class 0 has all reactions
all_pass : (labels : List ℕ) (net : Net) (xs : List ℕ) → filter (λ r. is_in_class net labels 0 r) xs ≡ xs
all_pass labels net [] = refl
all_pass labels net (x ∷ xs) = ap (λ (t : List ℕ). x ∷ t) (all_pass labels net xs)

pub members_all : (net : Net) (labels : List ℕ) → members_of net labels 0 ≡ range_with_len 1 (length net.reactions)
members_all net labels = all_pass labels net (range_with_len 1 (length net.reactions))

-- there are at most as many classes as the limit of complexes
pub count_few : (net : Net) (n : ℕ) (facts : KeptFacts) → IsBuilt n → IsKnownFor net n facts → count_of (on facts.earlier Q1) ≤ MAX_COMPLEXES
count_few net n facts (inl e) k =
    let none : facts.earlier ≡ [] = none_yet facts.earlier (subst (λ (m : ℕ). HoldsNoneFrom m facts.earlier) e k.none) in
    let zero_is = ap (λ (es : Earlier). count_of (on es Q1)) none in omega (arith, zero_is)
count_few net n facts (inr more) k =
    let f = formed_on net [] facts.earlier Q1 k.facts_of.formed (let held = k.first in held (later_than (drop 1 built) (omega arith) more)) in
    let fits = linkage_fits net f.0 (on facts.earlier Q1) f.1 in
    let f1 = fits.1 in
    let limit = k.network.partial.complexes_limit in omega (arith, f1, limit)
  where
    later_than : (qs : List Question) → AllByRecursion (λ q. 1 < number q) qs → IsIn n (map number qs) → n ≡ 1 → ⊥
    later_than [] all i d = i
    later_than (q ∷ qs) all (inl e) d = omega (arith, all.0, d, e)
    later_than (q ∷ qs) all (inr i) d = later_than qs all.1 i d

-- ---- how many reactions the classes have

pub on_ok : {T E : Type 0} (r : Result T E) (P Q : Type 0) → (P → Q) → OnOk r P → OnOk r Q
on_ok (Ok t) P Q f p = f p
on_ok (Err e) P Q f p = p

counts_next : (net : Net) (labels : List ℕ) (k n : ℕ) → (n ≡ 0 → ⊥) → class_counts net labels k n ≡ length (members_of net labels k) ∷ class_counts net labels (k + 1) (n - 1)
counts_next net labels k zero some = absurd (some refl)
counts_next net labels k (suc n) some = let m : n ≡ suc n - 1 = omega arith in ap (λ (j : ℕ). length (members_of net labels k) ∷ class_counts net labels (k + 1) j) m

pub counts_push : (net : Net) (labels : List ℕ) (k n here : ℕ) (old mid new : List ℕ) → (n ≡ 0 → ⊥) → here ≡ length (members_of net labels k) → mid ≡ old ++ here ∷ [] → new ≡ mid ++ class_counts net labels (k + 1) (n - 1) → new ≡ old ++ class_counts net labels k n
counts_push net labels k n here old mid new some is pushed grown =
    grown ∙ ap (λ (t : List ℕ). t ++ class_counts net labels (k + 1) (n - 1)) (pushed ∙ ap (λ (x : ℕ). old ++ x ∷ []) is) ∙ append_assoc old (length (members_of net labels k) ∷ []) (class_counts net labels (k + 1) (n - 1)) ∙ ap (λ (t : List ℕ). old ++ t) (sym (counts_next net labels k n some))

each_few : (net : Net) (labels : List ℕ) (ks : List ℕ) → length net.reactions ≤ MAX_REACTIONS → AllByRecursion (λ r. r ≤ MAX_REACTIONS) (map (λ j. length (members_of net labels j)) ks)
each_few net labels [] few = tt
each_few net labels (k ∷ ks) few = ((let m = members_few net labels k in omega (arith, m, few)), each_few net labels ks few)

counts_few : (net : Net) (labels : List ℕ) (count : ℕ) → length net.reactions ≤ MAX_REACTIONS → count ≤ MAX_COMPLEXES → (length (class_counts net labels 1 count) ≤ MAX_COMPLEXES) × AllByRecursion (λ r. r ≤ MAX_REACTIONS) (class_counts net labels 1 count)
counts_few net labels count few most =
    let l = length-map-range_with_len (λ j. length (members_of net labels j)) 1 count in
    (omega (arith, l, most), each_few net labels (range_with_len 1 count) few)

counts_are : (net : Net) (earlier : Earlier) (k n : ℕ) → class_counts net (linkage earlier) (suc k) n ≡ map (λ j. length (class_places net earlier j)) (range_with_len (suc k) n)
counts_are net earlier k zero = refl
counts_are net earlier k (suc n) =
    let m : suc k + 1 ≡ suc (suc k) = omega arith in
    ap (λ (t : List ℕ). length (class_places net earlier (suc k)) ∷ t) (ap (λ (j : ℕ). class_counts net (linkage earlier) j n) m ∙ counts_are net earlier (suc k) n ∙ ap (λ (j : ℕ). map (λ i. length (class_places net earlier i)) (range_with_len j n)) (sym m))

counts_same : (net : Net) (earlier : Earlier) (l : Linkage) (counts : List ℕ) → IsLinkage earlier l → counts ≡ class_counts net l.labels.now 1 l.count → counts ≡ map (λ k. length (class_places net earlier k)) (range_with_len 1 (linkage_count earlier))
counts_same net earlier l counts k is = is ∙ ap₂ (λ (ls : List ℕ) (c : ℕ). class_counts net ls 1 c) k.labels_are k.count_is ∙ counts_are net earlier 0 (linkage_count earlier)

-- the numbers of reactions that are counted are those on which the forms of a head rest
pub counts_fit : (net : Net) (earlier : Earlier) (question : ℕ) (l : Linkage) (counts : List ℕ) → length net.reactions ≤ MAX_REACTIONS → IsLinkage earlier l → counts ≡ class_counts net l.labels.now 1 l.count → FitsCounts net earlier question counts
counts_fit net earlier question l counts few k is =
    let b = counts_few net l.labels.now l.count few k.few in
    record {
      few = subst (λ (x : List ℕ). length x ≤ MAX_COMPLEXES) (sym is) b.0;
      each = subst (λ (x : List ℕ). AllByRecursion (λ r. r ≤ MAX_REACTIONS) x) (sym is) b.1;
      many = λ asks. ap length is ∙ length-map-range_with_len (λ j. length (members_of net l.labels.now j)) 1 l.count ∙ k.count_is;
      are = λ six. counts_same net earlier l counts k is;
    }

-- as many zeros serve a question whose head rests on how many classes there are
pub zeros_fit : (net : Net) (earlier : Earlier) (question : ℕ) (l : Linkage) (counts : List ℕ) → IsLinkage earlier l → counts ≡ replicate l.count 0 → (question ≡ 6 → ⊥) → FitsCounts net earlier question counts
zeros_fit net earlier question l counts k is never =
    let long : length counts ≡ l.count = ap length is ∙ length-replicate l.count 0 in
    record {
      few = omega (arith, long, k.few);
      each = subst (λ (x : List ℕ). AllByRecursion (λ r. r ≤ MAX_REACTIONS) x) (sym is) (all_same (λ r. r ≤ MAX_REACTIONS) l.count 0 (omega arith));
      many = λ asks. long ∙ k.count_is;
      are = λ six. absurd (never six);
    }

-- a question whose head does not rest on these numbers needs none
pub no_counts : (net : Net) (earlier : Earlier) (question : ℕ) (counts : List ℕ) → counts ≡ [] → (HasClassSizes question → ⊥) → FitsCounts net earlier question counts
no_counts net earlier question counts none never = record {
  few = subst (λ (x : List ℕ). length x ≤ MAX_COMPLEXES) (sym none) (omega arith);
  each = subst (λ (x : List ℕ). AllByRecursion (λ r. r ≤ MAX_REACTIONS) x) (sym none) tt;
  many = λ asks. absurd (never asks);
  are = λ six. absurd (never (inl six));
}
