-- The records of formed answers to the built questions are plain: the fields of the table of blocks are light, if their sizes are those of a network.
use Rattle.crn_ctext.proofs.Prelude.{◌==◌, ◌≤◌, ◌+◌, ◌-◌, ◌*◌, ◌++◌, ◌&&◌, ℕ, zero, suc, Bool, true, false, cond, if◌then◌else◌, List, [], ◌∷◌, length, map, refl, sym, ap, subst, inl, inr, arith, codes, replicate, slice_index, slice_index_or, cases_Bool, length-append, length-map, length-replicate, length-range_with_len, AllByRecursion, AllZip, filter, range_with_len, Option, Some, None, all_from, all_append, Net, IsNetwork, MAX_SPECIES, MAX_COMPLEXES, MAX_REACTIONS, filter_few, Verdict, Earlier, Question, Q1, Q2, Q3, Q4, Q5, Q6, Q7, Q8, Q11, Q12, Q13, Q14, Q15, number, on, is_yes, count_of, terminal_of, labels_of, linkage, linkage_count, class_places, ends_at, is_within_terminal, is_least_of_pair, Datum, Num, Nums, Side, FreeSeveral, Row, TreeRow, row, rank_rows, rank_in, class_rows, rank_long, signal_tree, one_or_two, trees, fields, fields_in, head_back, FitsFields, FitsHead, FitsRow, HeadKind, Classes, Strong, Rank, Deficiency, Yes, YesVec, YesSignal, No, NoVec, NoCycle, NoPair, OnlyZero, Plane, NotApplicable, Sizes, Record, heads, Problem, below, IsOneOf, Known, pairs_of, sizes_of, shapes_of, verdict_of, meaning, built}
use Rattle.crn_cert.specs.Data.{Field, Fits, Two}
use Rattle.crn_cert.specs.Blocks as blocks
use Rattle.crn_cert.specs.Table as table
use Rattle.crn_cert.specs.declared.answer.Verdict.TheVariants as verdict
use Rattle.crn_ctext.proofs.Forms.{head_record, row_form, all_same}
use Rattle.crn_ctext.proofs.BlockLaws.{AreOfBlock}
use Rattle.crn_ctext.proofs.RowsDerived.{HeadOf, head_by, rows_as_before}
use Rattle.crn_ctext.proofs.RecordsTyped.{head_typed, records_are_blocks}
use Rattle.crn_ctext.proofs.BlocksSaid.{block_said}
use Rattle.crn_ctext.proofs.BlocksFormed.{AreLike, trees_due}
use Rattle.crn_ctext.proofs.FieldBounds.{total, AreLight, IsLightRow, head_plain, rows_plain}
use Rattle.crn_ctext.proofs.ShortAnswers.{AllPlain, IsShortFor, AreWithin, tree_width}

-- no more classes, labels and terminal classes than a network has complexes
abbrev pub AreFewClasses : Verdict → Type 0
AreFewClasses v = (count_of v ≤ MAX_COMPLEXES) × (length (labels_of v) ≤ MAX_COMPLEXES) × (terminal_of v ≤ MAX_COMPLEXES)

-- species, complexes and reactions are as few as a network's, and so are classes by each verdict that is known
pub record IsSmall (known : Known) : Type 0 where
  pub species : length known.net.names ≤ MAX_SPECIES
  pub complexes : length known.net.complexes ≤ MAX_COMPLEXES
  pub reactions : length known.net.reactions ≤ MAX_REACTIONS
  pub verdicts : (q : Question) → AreFewClasses (on known.earlier q)

no_classes : AreFewClasses verdict.NotApplicable
no_classes = (omega arith, omega arith, omega arith)

pub networks_are_small : (net : Net) → IsNetwork net → IsSmall (record { net = net; earlier = [] })
networks_are_small net n = let h = n.partial in record { species = h.species_limit; complexes = h.complexes_limit; reactions = h.reactions_limit; verdicts = λ q. no_classes }

-- ---- sizes

-- lists of reactions are short, and together no greater than this
abbrev AreFewReactions : List ℕ → Type 0
AreFewReactions rs = (length rs ≤ 240) × (total rs ≤ 57600)

range_total : (a n : ℕ) → a + n ≤ 241 → total (range_with_len a n) ≤ 240 * n
range_total a zero h = omega arith
range_total a (suc n) h = omega (arith, range_total (a + 1) n (omega (arith, h)))

filter_total : (p : ℕ → Bool) (xs : List ℕ) → total (filter p xs) ≤ total xs
filter_total p [] = omega arith
filter_total p (x ∷ xs) = by (p x) (filter_total p xs)
  where
    by : (t : Bool) → total (filter p xs) ≤ total xs → total (cond t (x ∷ filter p xs) (filter p xs)) ≤ x + total xs
    by true more = omega (arith, more)
    by false more = omega (arith, more)

all_reactions : (known : Known) → IsSmall known → AreFewReactions (range_with_len 1 (length known.net.reactions))
all_reactions known s =
    let few = s.reactions in
    (omega (arith, few, length-range_with_len 1 (length known.net.reactions)), omega (arith, few, range_total 1 (length known.net.reactions) (omega (arith, few))))

-- those with a property
reactions_with : (known : Known) → IsSmall known → (p : ℕ → Bool) → AreFewReactions (filter p (range_with_len 1 (length known.net.reactions)))
reactions_with known s p =
    let all = all_reactions known s in
    let rs = range_with_len 1 (length known.net.reactions) in
    (omega (arith, all.0, filter_few p rs), omega (arith, all.1, filter_total p rs))

class_reactions : (known : Known) → IsSmall known → (k : ℕ) → AreFewReactions (class_places known.net known.earlier k)
class_reactions known s k = reactions_with known s (λ (r : ℕ). slice_index (linkage known.earlier) (slice_index_or known.net.reactions (r - 1) (0, 0)).0 == k)

pair_reactions : (known : Known) → IsSmall known → AreFewReactions (pairs_of known)
pair_reactions known s = reactions_with known s (λ r. is_within_terminal known.earlier (ends_at known.net r) && is_least_of_pair known.net r)

-- what the fields of heads and rows rest on
record AreFew (z : Sizes) : Type 0 where
  species : z.species ≤ 60
  complexes : z.complexes ≤ 160
  reactions : z.reactions ≤ 240
  classes : z.classes ≤ 160
  terminal : z.terminal ≤ 160
  pairs : z.pairs ≤ 240
  by_class : total (map z.class_reactions (range_with_len 1 z.classes)) ≤ 38400

sum_few : (f : ℕ → ℕ) (ks : List ℕ) → ((k : ℕ) → f k ≤ 240) → total (map f ks) ≤ 240 * length ks
sum_few f [] few = omega arith
sum_few f (k ∷ ks) few = omega (arith, few k, sum_few f ks few)

sizes_few : (known : Known) → IsSmall known → AreFew (sizes_of known)
sizes_few known s =
    let verdicts = s.verdicts in
    let linked = verdicts Q1 in
    let strongly = verdicts Q2 in
    let pairs = pair_reactions known s in
    let a = s.species in
    let c = s.complexes in
    let r = s.reactions in
    let count = linkage_count known.earlier in
    let sums = sum_few (λ k. length (class_places known.net known.earlier k)) (range_with_len 1 count) (λ k. (class_reactions known s k).0) in
    record { species = omega (arith, a); complexes = omega (arith, c); reactions = omega (arith, r); classes = omega (arith, linked.0); terminal = omega (arith, strongly.2); pairs = pairs.0; by_class = omega (arith, linked.0, sums, length-range_with_len 1 count) }

-- ---- heads

heads_light : (z : Sizes) → AreFew z → (q : Question) (kind : HeadKind) → AreLight (fields_in (fields q z kind))
heads_light z s Q1 Classes = (omega arith, omega arith)
heads_light z s q Classes = (omega arith, omega arith)
heads_light z s q kind = (omega arith, omega arith)

-- ---- the records below a head

-- the most records below a head of the question: those of deficiencies prove the rank of each linkage class
abbrev pub most : Question → ℕ
most Q6 = 40000
most q = 1000

abbrev AreFewRows : ℕ → List Row → Type 0
AreFewRows n rows = (length rows ≤ n) × AllByRecursion IsLightRow rows

rank_few : (species rank : ℕ) (reactions : List ℕ) → species ≤ 60 → rank ≤ 240 → AreFewReactions reactions → AreFewRows 241 (rank_rows species rank reactions)
rank_few species rank reactions a b c =
    let n = length reactions - rank in (
      omega (arith, rank_long species rank reactions, b, c.0),
      (
        (refl, (omega (arith, b), omega (arith, c.1))),
        all_append IsLightRow (replicate rank (row (codes "dual") (FreeSeveral species))) (replicate n (row (codes "comb") (FreeSeveral (suc rank)))) (all_same IsLightRow rank (row (codes "dual") (FreeSeveral species)) (refl, (omega (arith, a), omega arith)))
            (all_same IsLightRow n (row (codes "comb") (FreeSeveral (suc rank))) (refl, (omega (arith, b), omega arith))),
      ),
    )

classes_few : (known : Known) → IsSmall known → (k : ℕ) (ds : List ℕ) → AreFewRows (241 * length ds) (class_rows known.net known.earlier k ds)
classes_few known s k [] = (omega arith, tt)
classes_few known s k (d ∷ ds) =
    let species = s.species in
    let verdicts = s.verdicts in
    let linked = verdicts Q1 in
    let rank = rank_in known.net known.earlier k d in
    let reactions = class_places known.net known.earlier k in
    let first = rank_few (length known.net.names) rank reactions (omega (arith, species)) (omega (arith, linked.1, filter_few (λ (l : ℕ). l == k) (linkage known.earlier))) (class_reactions known s k) in
    let more = classes_few known s (suc k) ds in
    let here = rank_rows (length known.net.names) rank reactions in
    let later = class_rows known.net known.earlier (suc k) ds in
    (omega (arith, first.0, more.0, length-append here later), all_append IsLightRow here later first.1 more.1)

sides_light : (complexes : ℕ) (pairs : List ℕ) → complexes ≤ 160 → total pairs ≤ 57600 → AllByRecursion IsLightRow (map (λ r. row (codes "side") (Side r complexes)) pairs)
sides_light complexes [] a b = tt
sides_light complexes (r ∷ pairs) a b = ((refl, (omega arith, omega arith)), sides_light complexes pairs a (omega arith))

-- a list of as many rows of one kind as complexes, or fewer
ties_few : (n width : ℕ) → n ≤ 160 → width ≤ 220 → AreFewRows 160 (replicate n (row (codes "tie") (FreeSeveral width)))
ties_few n width a b = (omega (arith, a, length-replicate n (row (codes "tie") (FreeSeveral width))), all_same IsLightRow n (row (codes "tie") (FreeSeveral width)) (refl, (omega arith, omega arith)))

few_by : (known : Known) → IsSmall known → AreFew (sizes_of known) → (q : Question) (kind : HeadKind) (a : HeadOf known q kind) → FitsHead q (sizes_of known) kind (head_by known q kind a) → AreFewRows (most q) (table.rows known.net known.earlier q kind (head_by known q kind a))
few_by known s z Q1 Classes a h = let first = h.0.1 in (omega arith, ((refl, (omega arith, omega arith)), ((refl, (omega arith, omega arith)), ((refl, (omega arith, omega arith)), tt))))
few_by known s z Q2 Strong a h = let first = h.0.0.1 in (
  omega arith,
  ((refl, (omega arith, omega arith)), ((refl, (omega arith, omega arith)), ((refl, (omega arith, omega arith)), ((refl, (omega arith, omega arith)), ((refl, (omega arith, omega arith)), ((refl, (omega arith, omega arith)), ((refl, (omega arith, omega arith)), tt))))))),
)
few_by known s z Q3 Yes a h = (omega arith, ((refl, (omega arith, omega arith)), tt))
few_by known s z Q5 Rank a h = let few = rank_few (length known.net.names) a.0 (range_with_len 1 (length known.net.reactions)) z.species (omega (arith, h.0.1)) (all_reactions known s) in (omega (arith, few.0), few.1)
few_by known s z Q6 Deficiency a h = let numbers = h.0.1 in let long = numbers.long in let few = classes_few known s 1 a.0.1 in (omega (arith, few.0, long), few.1)
few_by known s z Q7 YesVec a h = (omega arith, ((refl, (omega arith, omega arith)), tt))
few_by known s z Q7 NoVec a h = (omega arith, ((refl, (omega arith, omega arith)), tt))
few_by known s z Q8 YesVec a h = (omega arith, ((refl, (omega arith, omega arith)), tt))
few_by known s z Q8 NoVec a h = (omega arith, ((refl, (omega arith, omega arith)), tt))
few_by known s z Q11 Yes a h =
    let few = pair_reactions known s in
    let c = length known.net.complexes in
    (omega (arith, few.0, length-map (pairs_of known) (λ r. row (codes "side") (Side r c))), sides_light c (pairs_of known) z.complexes few.1)
few_by known s z Q11 NoCycle a h = (omega arith, ((refl, (omega arith, omega arith)), tt))
few_by known s z Q12 YesVec a h = let ties = ties_few (length known.net.complexes - 1) (length known.net.names + linkage_count known.earlier) (omega arith) (omega arith) in (omega (arith, ties.0), ((refl, (omega arith, omega arith)), ties.1))
few_by known s z Q12 OnlyZero a h = let ties = ties_few (length known.net.complexes) (length known.net.names + linkage_count known.earlier) (omega arith) (omega arith) in (omega (arith, ties.0), ties.1)
few_by known s z Q12 Plane a h = (omega arith, ((refl, (omega arith, omega arith)), ((refl, (omega arith, omega arith)), tt)))
few_by known s z Q13 YesSignal a h = (omega arith, ((refl, (omega arith, omega arith)), ((refl, (omega arith, omega arith)), ((refl, (omega arith, omega arith)), ((refl, (omega arith, omega arith)), tt)))))
few_by known s z Q14 NoPair a h = (omega arith, ((refl, (omega arith, omega arith)), ((refl, (omega arith, omega arith)), tt)))
few_by known s z Q15 NoPair a h = (omega arith, ((refl, (omega arith, omega arith)), ((refl, (omega arith, omega arith)), tt)))
few_by known s z q kind a h = (omega arith, tt)

rows_few : (known : Known) → IsSmall known → (q : Question) (kind : HeadKind) (h : List Datum) → FitsHead q (sizes_of known) kind h → AreFewRows (most q) (table.rows known.net known.earlier q kind h)
rows_few known s q kind h f =
    let a = head_back (fields q (sizes_of known) kind) h f in
    let head = subst (λ (h : List Datum). FitsHead q (sizes_of known) kind h) a.1 f in
    subst (λ (h : List Datum). AreFewRows (most q) (table.rows known.net known.earlier q kind h)) (sym a.1) (few_by known s (sizes_few known s) q kind a.0 head)

-- ---- trees

abbrev AreFewCuts : ℕ → List TreeRow → Type 0
AreFewCuts n ts = AllByRecursion (λ (t : TreeRow). (t.count_a ≤ n) × (t.count_b ≤ n)) ts

trees_few : (known : Known) → AreFew (sizes_of known) → (q : Question) (kind : HeadKind) → AreFewCuts (tree_width q) (trees known.net known.earlier q kind)
trees_few known z Q13 No = by (is_yes (on known.earlier Q4))
  where
    by : (b : Bool) → AreFewCuts 400 (one_or_two b (signal_tree (sizes_of known)))
    by true = ((omega arith, omega arith), ((omega arith, omega arith), tt))
    by false = ((omega arith, omega arith), tt)
trees_few known z Q14 Yes = ((omega arith, omega arith), tt)
trees_few known z Q15 Yes = ((omega arith, omega arith), tt)
trees_few known z q kind = tt

like_within : (n : ℕ) (ts : List TreeRow) (ws : List {1} Problem) → AreLike ts ws → AreFewCuts n ts → AreWithin n ws
like_within n [] [] l few = tt
like_within n (t ∷ ts) (w ∷ ws) l few = ((omega (arith, l.0.1, few.0.0), omega (arith, l.0.2, few.0.1)), like_within n ts ws l.1 few.1)
like_within n ts ws l few = absurd l

-- ---- what is known after a block

-- the verdict on a question is the first one
on_more : (P : Verdict → Type 0) (asked : Question) (earlier : Earlier) (q : Question) (v : Verdict) → P (on earlier asked) → P (if number q == number asked then v else verdict.NotApplicable) → P (on (earlier ++ (q, v) ∷ []) asked)
on_more P asked [] q v p r = r
on_more P asked (e ∷ es) q v p r = elim (cases_Bool (number e.0 == number asked)) [
  | inl here ↦ subst (λ (t : Bool). P (if t then e.1 else on (es ++ (q, v) ∷ []) asked)) (sym here) (subst (λ (t : Bool). P (if t then e.1 else on es asked)) here p)
  | inr later ↦ subst (λ (t : Bool). P (if t then e.1 else on (es ++ (q, v) ∷ []) asked)) (sym later) (on_more P asked es q v (subst (λ (t : Bool). P (if t then e.1 else on es asked)) later p) r)
]

either_few : (b : Bool) (v : Verdict) → AreFewClasses v → AreFewClasses (if b then v else verdict.NotApplicable)
either_few true v few = few
either_few false v few = no_classes

classes_said : (known : Known) → AreFew (sizes_of known) → (q : Question) (h r : List Datum) → FitsHead q (sizes_of known) Classes h → AllZip FitsRow (table.rows known.net known.earlier q Classes h) r → AreFewClasses (blocks.verdict_of Classes h r)
classes_said known z Q1 (Num n ∷ h) (Nums xs ∷ r) f g = let at = f.0.1 in let labels = g.0 in let long = labels.long in (omega arith, omega (arith, long), omega arith)
classes_said known z Q1 (Num n ∷ h) [] f g = absurd g
classes_said known z Q1 (Num n ∷ h) (d ∷ r) f g = absurd g.0
classes_said known z Q1 [] r f g = absurd f
classes_said known z Q1 (d ∷ h) r f g = absurd f.0
classes_said known z q h r f g = absurd f

strong_said : (known : Known) → AreFew (sizes_of known) → (q : Question) (h r : List Datum) → FitsHead q (sizes_of known) Strong h → AllZip FitsRow (table.rows known.net known.earlier q Strong h) r → AreFewClasses (blocks.verdict_of Strong h r)
strong_said known z Q2 (Two n m ∷ h) (Nums xs ∷ r) f g = let at = f.0 in let labels = g.0 in let long = labels.long in (omega (arith, at.0.1), omega (arith, long), omega (arith, at.0.1, at.1.1))
strong_said known z Q2 (Two n m ∷ h) [] f g = absurd g
strong_said known z Q2 (Two n m ∷ h) (d ∷ r) f g = absurd g.0
strong_said known z Q2 [] r f g = absurd f
strong_said known z Q2 (d ∷ h) r f g = absurd f.0
strong_said known z q h r f g = absurd f

-- the verdict of a block that fits
said_few : (known : Known) → AreFew (sizes_of known) → (q : Question) (kind : HeadKind) (h r : List Datum) → FitsHead q (sizes_of known) kind h → AllZip FitsRow (table.rows known.net known.earlier q kind h) r → AreFewClasses (blocks.verdict_of kind h r)
said_few known z q Classes h r f g = classes_said known z q h r f g
said_few known z q Strong h r f g = strong_said known z q h r f g
said_few known z q kind h r f g = no_classes

learned : (known : Known) → IsSmall known → (q : Question) (v : Verdict) → AreFewClasses v → IsSmall (record { net = known.net; earlier = known.earlier ++ (q, v) ∷ [] })
learned known s q v few =
    let before = s.verdicts in
    record { species = s.species; complexes = s.complexes; reactions = s.reactions; verdicts = λ asked. on_more AreFewClasses asked known.earlier q v (before asked) (either_few (number q == number asked) v few) }

-- ---- the questions

all_fit : (o : Option (List Field)) (head : List Datum) → FitsFields o head → AllZip Fits (fields_in o) head
all_fit None head f = absurd f
all_fit (Some fs) head f = f

block_plain : (known : Known) (q : Question) (h : Record) (rs : List Record) → IsSmall known → AreOfBlock known q h rs → AllPlain (h ∷ rs)
block_plain known q h rs s b =
    let kind = b.kind in
    let head = b.head in
    let fits = b.head_fits in
    let rows = table.rows known.net known.earlier q kind head in
    let first = head_plain q kind (fields_in (fields q (sizes_of known) kind)) head (all_fit (fields q (sizes_of known) kind) head fits) (heads_light (sizes_of known) (sizes_few known s) q kind) in
    let more = rows_plain rows b.rows (rows_few known s q kind head fits).1 b.rows_fit in
    subst (λ (x : Record). AllPlain (x ∷ rs)) (sym b.head_is) (subst (λ (xs : List Record). AllPlain (head_record q kind head ∷ xs)) (sym b.rows_are) (first, more))

block_learned : (known : Known) (q : Question) (h : Record) (rs : List Record) → IsSmall known → AreOfBlock known q h rs → AreFewClasses (verdict_of q (sizes_of known) h rs)
block_learned known q h rs s b =
    let kind = b.kind in
    let head = b.head in
    let few = said_few known (sizes_few known s) q kind head b.rows b.head_fits b.rows_fit in
    let said = subst AreFewClasses (sym (block_said known q kind head b.rows b.head_fits b.rows_fit)) few in
    subst (λ (x : Record). AreFewClasses (verdict_of q (sizes_of known) x rs)) (sym b.head_is) (subst (λ (xs : List Record). AreFewClasses (verdict_of q (sizes_of known) (head_record q kind head) xs)) (sym b.rows_are) said)

question_short : (q : Question) → IsShortFor meaning IsSmall q
question_short q = record {
  plain = λ known h rs s one f. block_plain known q h rs s (records_are_blocks known q h rs one f);
  trees = λ known h s one. (
      let t = head_typed q (sizes_of known) h one in
      let like = subst (λ (x : Record). AreLike (trees known.net known.earlier q t.0) (meaning.problems q known x)) (sym t.3) (trees_due known q t.0 t.1 t.2) in
      like_within (tree_width q) (trees known.net known.earlier q t.0) (meaning.problems q known h) like (trees_few known (sizes_few known s) q t.0)
      );
  learn = λ known h rs s one f. learned known s q (verdict_of q (sizes_of known) h rs) (block_learned known q h rs s (records_are_blocks known q h rs one f));
}

pub meaning_short : AllByRecursion (IsShortFor meaning IsSmall) built
meaning_short = all_from (IsShortFor meaning IsSmall) built (λ q i. question_short q)

-- few records below a head, if the sizes are those of a network
abbrev pub IsFew : Question → Type 0
IsFew q = (known : Known) (h : Record) → IsSmall known → IsOneOf (heads q (sizes_of known)) h → length (below q (shapes_of known) h) ≤ most q

question_few : (q : Question) → IsFew q
question_few q known h s one =
    let t = head_typed q (sizes_of known) h one in
    let rows = table.rows known.net known.earlier q t.0 t.1 in
    subst (λ (x : Record). length (below q (shapes_of known) x) ≤ most q) (sym t.3) (omega (arith, ap length (rows_as_before known q t.0 t.1 t.2), length-map rows row_form, (rows_few known s q t.0 t.1 t.2).0))

pub built_few : AllByRecursion IsFew built
built_few = all_from IsFew built (λ q i. question_few q)
