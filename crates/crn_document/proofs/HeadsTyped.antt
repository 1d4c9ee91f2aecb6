-- What a head of a kind of the table says, by its data: each fact for all questions and kinds at once.
use Rattle.crn_document.proofs.Prelude.{◌≡◌, ◌≤◌, ◌+◌, ◌-◌, ◌<◌, ◌^◌, ◌==◌, ◌++◌, ◌∙◌, ℕ, zero, suc, Bool, true, false, List, [], ◌∷◌, drop, length, map, replicate, refl, sym, subst, ap, ap₂, inl, inr, arith, ℤ, pos, codes, nat_abs, Option, Some, None, AllByRecursion, AllZip, flat_map, range_with_len, append-nil, length-map, length-range_with_len, filter_few, slice_index, slice_index_or, abs_back, zip_long, spent_place, rests_place, turn_is, RankProof, Ranks, IsIn, Net, MAX_COMPLEXES, HeadMayBe, Earlier, Question, Q1, Q2, Q4, Q6, Q11, Q12, Q13, Q14, Q15, number, on, HeadKind, Yes, IsBasisOf, AllHold, IsTurn, linkage, linkage_count, class_places, class_rank_tests, pair_places, head_tests, row_tests, side_tests, tie_tests, Record, Form, Fits, Several, small, just, small_form, free_form, record_form, Sizes, heads, kind_at, below, place_of, rows, class_forms, rank_forms, later_numbers, side_form, lists, lengths, row, has_vector, sizes_of, shapes_of, verdict_by, proof_by, ranks_of, class_proofs, class_members, part_proofs, AreSmall, AreSmallAt, Part, Row, Side, Tie, row_form, rows_below, part_rows, ne_eqb, if◌then◌else◌, terminal_of, Shelves, Mu, M, Weights, class_parts, many_after, known_of, class_count, Q3, Q5, Q7, Q8, Q9, Q10, Datum, Led, Basis, fields, FitsHead, FitsFields, one_if, AllOf, given, fields_in, head_word, words, numbers_of, head_record, kept, FitProof, parts_by}
use Rattle.crn_cert.specs.Data as typed
use Rattle.crn_cert.specs.declared.head_kind.HeadKind.TheVariants as kind
use Rattle.crn_document.proofs.Fields.{PartsWithin, one_field, small_list, form_small}
use Rattle.crn_document.proofs.Linkages.{members_all, member_few, pairs_few}
use Rattle.crn_document.proofs.Ranks.{AreRanks, drop_none, map_replicate, class_fit, class_ranks, class_formed, class_parts_within, class_proofs_are, class_rows_are, forms_from, members_are, proofs_from, rank_formed, rank_length, rank_parts, rank_rows_are, rank_small, sizes_are}

abbrev pub HeadOf : Net → Earlier → Question → HeadKind → Type 0
HeadOf net earlier q kind = AllOf (fields_in (fields q (sizes_of (known_of net earlier)) kind))

-- its data, and their numbers
abbrev pub head_by : (net : Net) (earlier : Earlier) (q : Question) (kind : HeadKind) → HeadOf net earlier q kind → List Datum
head_by net earlier q kind a = given (fields_in (fields q (sizes_of (known_of net earlier)) kind)) a

abbrev pub numbers : (net : Net) (earlier : Earlier) (q : Question) (kind : HeadKind) → HeadOf net earlier q kind → List ℤ
numbers net earlier q kind a = flat_map numbers_of (head_by net earlier q kind a)

abbrev pub HeadFits : (net : Net) (earlier : Earlier) (q : Question) (kind : HeadKind) → HeadOf net earlier q kind → Type 0
HeadFits net earlier q kind a = FitsHead q (sizes_of (known_of net earlier)) kind (head_by net earlier q kind a)

-- the place of its form
abbrev pub place_for : Net → Earlier → Question → HeadKind → ℕ
place_for net earlier q kind = place_of (heads q (sizes_of (known_of net earlier))) (head_word q ∷ words kind)

-- the records below it are due in these forms
abbrev pub due : (net : Net) (earlier : Earlier) (q : Question) (kind : HeadKind) → HeadOf net earlier q kind → List Form
due net earlier q kind a = below q (shapes_of (known_of net earlier)) (head_record q kind (head_by net earlier q kind a))

-- the network and the classes are few
pub record AreFew (net : Net) (earlier : Earlier) : Type 0 where
  pub species : length net.names ≤ 60
  pub complexes : length net.complexes ≤ 160
  pub reactions : length net.reactions ≤ 240
  pub classes : linkage_count earlier ≤ 160

-- ---- the kind

-- the place of a head's form tells its kind, and is small
abbrev Tells : Question → HeadKind → ℕ → Option (List typed.Field) → Type 0
Tells q kind place None = (kind ≡ kind) × (0 ≤ 9)
Tells q kind place (Some fs) = (kind_at q place ≡ kind) × (place ≤ 9)

places : (net : Net) (earlier : Earlier) (q : Question) (kind : HeadKind) → Tells q kind (place_for net earlier q kind) (fields q (sizes_of (known_of net earlier)) kind)
places net earlier Q1 kind.Classes = (refl, omega arith)
places net earlier Q13 kind.Budget = let e = spent_place (has_vector (on earlier Q12)) (sizes_of (known_of net earlier)) in (ap (kind_at Q13) e, omega (arith, e))
places net earlier Q13 kind.Rests = let e = rests_place (has_vector (on earlier Q12)) (sizes_of (known_of net earlier)) in (ap (kind_at Q13) e, omega (arith, e))
places net earlier q kind.Classes = (refl, omega arith)
places net earlier q kind = (refl, omega arith)

pub place_tells : (net : Net) (earlier : Earlier) (q : Question) (kind : HeadKind) (a : HeadOf net earlier q kind) → HeadFits net earlier q kind a → (kind_at q (place_for net earlier q kind) ≡ kind) × (place_for net earlier q kind ≤ 9)
place_tells net earlier q kind a h = by (fields q (sizes_of (known_of net earlier)) kind) (head_by net earlier q kind a) (places net earlier q kind) h
  where
    by : (o : Option (List typed.Field)) (ds : List Datum) → Tells q kind (place_for net earlier q kind) o → FitsFields o ds → (kind_at q (place_for net earlier q kind) ≡ kind) × (place_for net earlier q kind ≤ 9)
    by None ds t h = absurd h
    by (Some fs) ds t h = t

-- ---- the numbers

small_nums : (least greatest : ℕ) (xs : List ℕ) → greatest < 2 ^ 32 → AllByRecursion (λ x. (least ≤ x) × (x ≤ greatest)) xs → AreSmall (map pos xs ++ [])
small_nums least greatest [] lt a = tt
small_nums least greatest (x ∷ xs) lt a = (omega (arith, lt, a.0.1), small_nums least greatest xs lt a.1)

long_nums : (xs : List ℕ) → length (map pos xs ++ []) ≡ length xs
long_nums xs = ap length (append-nil (map pos xs)) ∙ length-map xs pos

-- the numbers are small and few
abbrev AreLight : List ℤ → Type 0
AreLight zs = AreSmall zs × (length zs ≤ 703)

wide_light : (system class index columns rows : ℕ) (basis : List ℕ) → system + class + columns + rows ≤ 700 → IsBasisOf columns rows index basis → AreLight (map pos (system ∷ class ∷ index ∷ basis) ++ [])
wide_light system class index columns rows basis le b =
    let members = b.members in
    let top = b.coordinate.1 in
    ((omega (arith, le), (omega (arith, le), (omega (arith, le, top), small_nums 1 (columns + rows) basis (omega (arith, le)) members.each))), omega (arith, le, members.long, long_nums basis))

places_few : (net : Net) (earlier : Earlier) (k : ℕ) → length (class_places net earlier k) ≤ length net.reactions
places_few net earlier k = let l = length-range_with_len 1 (length net.reactions) in let f = filter_few (λ r. slice_index (linkage earlier) (slice_index_or net.reactions (r - 1) (0, 0)).0 == k) (range_with_len 1 (length net.reactions)) in omega (arith, l, f)

pub light_by : (net : Net) (earlier : Earlier) (q : Question) (kind : HeadKind) (a : HeadOf net earlier q kind) → AreFew net earlier → HeadFits net earlier q kind a → AreLight (numbers net earlier q kind a)
light_by net earlier Q1 kind.Classes a w h = ((omega (arith, w.complexes, h.0.1), tt), omega arith)
light_by net earlier Q2 kind.Strong a w h = ((omega (arith, w.complexes, h.0.0.1), (omega (arith, w.complexes, h.0.0.1, h.0.1.1), tt)), omega arith)
light_by net earlier Q3 kind.NoReaction a w h = ((omega (arith, w.reactions, h.0.1), tt), omega arith)
light_by net earlier Q4 kind.NoReaction a w h = ((omega (arith, w.reactions, h.0.1), tt), omega arith)
light_by net earlier Q5 kind.Rank a w h = ((omega (arith, w.reactions, h.0.1), tt), omega arith)
light_by net earlier Q5 kind.Wide a w h = wide_light a.0.0 a.0.1 a.0.2 (length net.names) (length net.reactions) a.0.3 (omega (arith, w.species, w.reactions, h.0.0, h.0.1)) h.0.2
light_by net earlier Q6 kind.Deficiency a w h = let each = h.0.1 in ((omega (arith, w.complexes, h.0.0.1), small_nums 0 (length net.complexes) a.0.1 (omega (arith, w.complexes)) each.each), omega (arith, w.classes, each.long, long_nums a.0.1))
light_by net earlier Q6 kind.Wide a w h =
    wide_light a.0.0 a.0.1 a.0.2 (length net.names) (length (class_places net earlier a.0.1)) a.0.3 (omega (arith, w.species, w.reactions, w.classes, h.0.0, h.0.1.1, places_few net earlier a.0.1)) h.0.2
light_by net earlier Q6 kind.Rests a w h = ((omega (arith, h.0.1), tt), omega arith)
light_by net earlier Q7 kind.Wide a w h = wide_light a.0.0 a.0.1 a.0.2 (length net.reactions) (length net.names) a.0.3 (omega (arith, w.species, w.reactions, h.0.0, h.0.1)) h.0.2
light_by net earlier Q8 kind.Wide a w h = wide_light a.0.0 a.0.1 a.0.2 (length net.names) (length net.reactions) a.0.3 (omega (arith, w.species, w.reactions, h.0.0, h.0.1)) h.0.2
light_by net earlier Q9 kind.YesWeak a w h = ((omega (arith, h.0.1), tt), omega arith)
light_by net earlier Q9 kind.NoNumber a w h = ((omega (arith, w.complexes, h.0.1), tt), omega arith)
light_by net earlier Q9 kind.Rests a w h = ((omega (arith, h.0.1), tt), omega arith)
light_by net earlier Q10 kind.NoTerminal a w h = ((omega (arith, w.classes, h.0.1), (omega (arith, w.complexes, h.1.0.1), tt)), omega arith)
light_by net earlier Q10 kind.NoClass a w h = ((omega (arith, w.classes, h.0.1), (omega (arith, w.complexes, h.1.0.1), tt)), omega arith)
light_by net earlier Q10 kind.NoSum a w h = ((omega (arith, w.complexes, h.0.1), tt), omega arith)
light_by net earlier Q10 kind.Rests a w h = ((omega (arith, h.0.1), tt), omega arith)
light_by net earlier Q11 kind.NoTerminal a w h = ((omega (arith, w.classes, h.0.1), (omega (arith, w.complexes, h.1.0.1), tt)), omega arith)
light_by net earlier Q11 kind.NoCycle a w h = ((omega (arith, w.reactions, h.0.1), tt), omega arith)
light_by net earlier Q11 kind.Rests a w h = ((omega (arith, h.0.1), tt), omega arith)
light_by net earlier Q12 kind.Plane a w h = ((omega (arith, w.complexes, h.0.0.1), (omega (arith, w.complexes, h.0.1.1), tt)), omega arith)
light_by net earlier Q12 kind.Wide a w h = wide_light a.0.0 a.0.1 a.0.2 (length net.complexes) (length net.names + linkage_count earlier) a.0.3 (omega (arith, w.species, w.complexes, w.classes, h.0.0, h.0.1)) h.0.2
light_by net earlier Q12 kind.Rests a w h = ((omega (arith, h.0.1), tt), omega arith)
light_by net earlier Q13 kind.YesSignal a w h = ((turn_small a.0 h.0, tt), omega arith)
  where
    turn_small : (z : ℤ) → IsTurn z → nat_abs z < 2 ^ 32
    turn_small z (inl e) = subst (λ (z : ℤ). nat_abs z < 2 ^ 32) (sym e) (omega arith)
    turn_small z (inr e) = subst (λ (z : ℤ). nat_abs z < 2 ^ 32) (sym e) (omega arith)
light_by net earlier Q13 kind.Wide a w h = by h.0
  where
    by : typed.Fits (typed.WideOf 2 (length net.reactions) (length net.names) (has_vector (on earlier Q12)) 5 (length net.names + 1) (length net.complexes + length (pair_places net earlier))) (Basis a.0.0 a.0.1 a.0.2 a.0.3) → AreLight (numbers net earlier Q13 kind.Wide a)
    by (inl b) = wide_light a.0.0 a.0.1 a.0.2 (length net.reactions) (length net.names) a.0.3 (omega (arith, w.species, w.reactions, b.0, b.1)) b.2
    by (inr b) = wide_light a.0.0 a.0.1 a.0.2 (length net.names + 1) (length net.complexes + length (pair_places net earlier)) a.0.3 (omega (arith, w.species, w.complexes, w.reactions, pairs_few net earlier, b.0, b.1)) b.3
light_by net earlier Q13 kind.Budget a w h = ((omega (arith, h.0.1), tt), omega arith)
light_by net earlier Q13 kind.Rests a w h = ((omega (arith, h.0.1), tt), omega arith)
light_by net earlier Q14 kind.Wide a w h = wide_light a.0.0 a.0.1 a.0.2 (length net.reactions) (length net.names) a.0.3 (omega (arith, w.species, w.reactions, h.0.0, h.0.1)) h.0.2
light_by net earlier Q14 kind.Budget a w h = ((omega (arith, h.0.1), tt), omega arith)
light_by net earlier Q15 kind.Wide a w h = wide_light a.0.0 a.0.1 a.0.2 (length net.reactions) (length net.names) a.0.3 (omega (arith, w.species, w.reactions, h.0.0, h.0.1)) h.0.2
light_by net earlier Q15 kind.Budget a w h = ((omega (arith, h.0.1), tt), omega arith)
light_by net earlier q kind a w h = (tt, omega arith)

-- no more classes than complexes are said
pub few_by : (net : Net) (earlier : Earlier) (q : Question) (kind : HeadKind) (a : HeadOf net earlier q kind) → AreFew net earlier → HeadFits net earlier q kind a → class_count (number q) (pos (place_for net earlier q kind) ∷ numbers net earlier q kind a) ≤ MAX_COMPLEXES
few_by net earlier Q1 kind.Classes a w h = omega (arith, w.complexes, h.0.1)
few_by net earlier Q2 kind.Strong a w h = omega (arith, w.complexes, h.0.0.1)
few_by net earlier q kind a w h = omega arith

pub ranks_by : (net : Net) (earlier : Earlier) (q : Question) (kind : HeadKind) (a : HeadOf net earlier q kind) → AreFew net earlier → HeadFits net earlier q kind a → length (linkage earlier) ≤ MAX_COMPLEXES → AreRanks (parts_by net (linkage earlier) kind (numbers net earlier q kind a))
ranks_by net earlier Q5 kind.Rank a w h few = (omega (arith, w.reactions, h.0.1), tt)
ranks_by net earlier q kind.Rank a w h few = absurd h
ranks_by net earlier q kind.Deficiency a w h few = class_ranks net (linkage earlier) 1 (later_numbers (numbers net earlier q kind.Deficiency a)) few
ranks_by net earlier q kind a w h few = tt

-- ---- the verdict

nums_back : (xs : List ℕ) → map nat_abs (map pos xs ++ []) ≡ xs
nums_back xs = ap (λ (zs : List ℤ). map nat_abs zs) (append-nil (map pos xs)) ∙ abs_back xs

wide_may : (net : Net) (earlier : Earlier) (q : Question) (system class index : ℕ) (basis : List ℕ) → FitsHead q (sizes_of (known_of net earlier)) kind.Wide (Basis system class index basis ∷ []) → HeadMayBe net earlier q (verdict_by kind.Wide (map pos (system ∷ class ∷ index ∷ basis) ++ []) [])
wide_may net earlier q system class index basis h = subst (λ (ns : List ℕ). FitsHead q (sizes_of (known_of net earlier)) kind.Wide (Basis system class index ns ∷ [])) (sym (nums_back basis)) h

pub may_by : (net : Net) (earlier : Earlier) (q : Question) (kind : HeadKind) (a : HeadOf net earlier q kind) → HeadFits net earlier q kind a → HeadMayBe net earlier q (verdict_by kind (numbers net earlier q kind a) [])
may_by net earlier Q1 kind.Classes a h = h
may_by net earlier Q5 kind.Wide a h = wide_may net earlier Q5 a.0.0 a.0.1 a.0.2 a.0.3 h
may_by net earlier Q6 kind.Deficiency a h = subst (λ (ns : List ℕ). FitsHead Q6 (sizes_of (known_of net earlier)) kind.Deficiency (Led a.0.0 ns ∷ [])) (sym (nums_back a.0.1)) h
may_by net earlier Q6 kind.Wide a h = wide_may net earlier Q6 a.0.0 a.0.1 a.0.2 a.0.3 h
may_by net earlier Q7 kind.Wide a h = wide_may net earlier Q7 a.0.0 a.0.1 a.0.2 a.0.3 h
may_by net earlier Q8 kind.Wide a h = wide_may net earlier Q8 a.0.0 a.0.1 a.0.2 a.0.3 h
may_by net earlier Q9 kind.YesWeak a h = (weak (a.0 == 1), tt)
  where
    weak : (b : Bool) → (0 ≤ one_if b) × (one_if b ≤ 1)
    weak true = (omega arith, omega arith)
    weak false = (omega arith, omega arith)
may_by net earlier Q12 kind.Wide a h = wide_may net earlier Q12 a.0.0 a.0.1 a.0.2 a.0.3 h
may_by net earlier Q13 kind.YesSignal a h = (subst IsTurn (sym (turn_is a.0 h.0)) h.0, tt)
may_by net earlier Q13 kind.Wide a h = wide_may net earlier Q13 a.0.0 a.0.1 a.0.2 a.0.3 h
may_by net earlier Q14 kind.Wide a h = wide_may net earlier Q14 a.0.0 a.0.1 a.0.2 a.0.3 h
may_by net earlier Q15 kind.Wide a h = wide_may net earlier Q15 a.0.0 a.0.1 a.0.2 a.0.3 h
may_by net earlier q kind.Classes a h = h
may_by net earlier q kind a h = h

-- ---- the records below it

-- their forms by their words, if the form of the head has this place
abbrev pub forms_by : Net → Earlier → Question → (place : ℕ) → HeadKind → List ℤ → List Form
forms_by net earlier q place kind ns = map (row_form net (linkage earlier) (class_count (number q) (pos place ∷ ns))) (rows_below (number q) place (many_after net earlier (number q) place) (parts_by net (linkage earlier) kind ns))

sides_are : (net : Net) (labels : List ℕ) (z : Sizes) (ps : List ℕ) → z.complexes ≡ length net.complexes → map (side_form z) ps ≡ map (row_form net labels 0) (map (λ (r : ℕ). Side r) ps)
sides_are net labels z [] e = refl
sides_are net labels z (p ∷ ps) e = ap₂ (λ (f : Form) (fs : List Form). f ∷ fs) (ap (λ (k : ℕ). record_form (codes "side") (just p ∷ small k 0 1 ∷ [])) e) (sides_are net labels z ps e)

-- so many ties of a number for each species and for each linkage class
ties_are : (net : Net) (earlier : Earlier) (n : ℕ) → replicate n (free_form (codes "tie") (length net.names + linkage_count earlier)) ≡ map (row_form net (linkage earlier) 0) (replicate n (Tie (linkage_count earlier)) ++ [])
ties_are net earlier n =
    let f : Row → Form = row_form net (linkage earlier) 0 in
    let ties : List Row = replicate n (Tie (linkage_count earlier)) in
    sym (map_replicate f n (Tie (linkage_count earlier))) ∙ ap (λ (rows : List Row). map f rows) (sym (append-nil ties))

-- the reactions of the classes, if so many deficiencies are said
class_forms_are : (net : Net) (earlier : Earlier) (ds : List ℤ) → length ds ≡ linkage_count earlier → let s = shapes_of (known_of net earlier) in class_forms s.sizes s.class_complexes s.class_members ds ≡ forms_from net earlier s.sizes 1 ds
class_forms_are net earlier ds long =
    let labels = linkage earlier in
    let z : Sizes = sizes_of (known_of net earlier) in
    ap (λ (m : ℕ). class_forms z (lengths (map (λ k. class_members labels k) (range_with_len 1 m))) (map (λ k. class_places net earlier k) (range_with_len 1 m)) ds) (sym long) ∙ ap₂ (λ (x : List ℕ) (y : List (List ℕ)). class_forms z x y ds) (sizes_are earlier 1 (length ds)) (members_are net earlier 1 (length ds))

class_proofs_said : (net : Net) (earlier : Earlier) (ds : List ℤ) (rs : List Record) → length ds ≡ linkage_count earlier → let s = shapes_of (known_of net earlier) in class_proofs s.class_complexes s.class_members ds rs ≡ part_proofs (class_parts net (linkage earlier) 1 ds) (lists rs)
class_proofs_said net earlier ds rs long =
    let labels = linkage earlier in
    ap (λ (m : ℕ). class_proofs (lengths (map (λ k. class_members labels k) (range_with_len 1 m))) (map (λ k. class_places net earlier k) (range_with_len 1 m)) ds rs) (sym long) ∙ ap₂ (λ (x : List ℕ) (y : List (List ℕ)). class_proofs x y ds rs) (sizes_are earlier 1 (length ds)) (members_are net earlier 1 (length ds)) ∙ sym (class_proofs_are net earlier 0 ds rs)

deficiencies_long : (net : Net) (earlier : Earlier) (a : HeadOf net earlier Q6 kind.Deficiency) → HeadFits net earlier Q6 kind.Deficiency a → length (later_numbers (numbers net earlier Q6 kind.Deficiency a)) ≡ linkage_count earlier
deficiencies_long net earlier a h = let each = h.0.1 in long_nums a.0.1 ∙ each.long

-- all reactions, in a rank of the network
rank_rows : (net : Net) (earlier : Earlier) (k : ℕ) → rank_forms (sizes_of (known_of net earlier)) k (range_with_len 1 (length net.reactions)) ≡ map (row_form net (linkage earlier) 0) (part_rows (record { class = 0; rank = k; count = length net.reactions }) ++ [])
rank_rows net earlier k =
    let p : Part = record { class = 0; rank = k; count = length net.reactions } in
    rank_rows_are net (linkage earlier) 0 (sizes_of (known_of net earlier)) p (range_with_len 1 (length net.reactions)) refl (sym (members_all net (linkage earlier))) (sym (length-range_with_len 1 (length net.reactions))) ∙ ap (λ (rows : List Row). map (row_form net (linkage earlier) 0) rows) (sym (append-nil (part_rows p)))

rank_long : (net : Net) (earlier : Earlier) (k : ℕ) → k ≤ length net.reactions → length (rank_forms (sizes_of (known_of net earlier)) k (range_with_len 1 (length net.reactions))) ≡ suc (length net.reactions)
rank_long net earlier k le = let count = length-range_with_len 1 (length net.reactions) in rank_length (sizes_of (known_of net earlier)) k (range_with_len 1 (length net.reactions)) (omega (arith, le, count)) ∙ ap (λ (n : ℕ). suc n) count

-- whatever the place of a head of question 13
signal_rows_are : (net : Net) (earlier : Earlier) (place : ℕ) (ns : List ℤ) → rows Q13 (shapes_of (known_of net earlier)) place ns ≡ map (row_form net (linkage earlier) (class_count 13 (pos place ∷ ns))) (rows_below 13 place (many_after net earlier 13 place) [])
signal_rows_are net earlier (suc (suc place)) ns =
    let other : (suc (suc place) == 1) ≡ false = ne_eqb (suc (suc place)) 1 (λ e. omega (arith, e)) in
    subst (λ (b : Bool). [] ≡ map (row_form net (linkage earlier) (class_count 13 (pos (suc (suc place)) ∷ ns))) ((if b then Shelves (terminal_of (on earlier Q2)) ∷ Mu ∷ M ∷ Weights ∷ [] else []) ++ [])) (sym other) refl
signal_rows_are net earlier place ns = refl

pub below_by : (net : Net) (earlier : Earlier) (q : Question) (kind : HeadKind) (a : HeadOf net earlier q kind) → HeadFits net earlier q kind a → due net earlier q kind a ≡ forms_by net earlier q (place_for net earlier q kind) kind (numbers net earlier q kind a)
below_by net earlier Q1 kind.Classes a h = refl
below_by net earlier Q5 kind.Rank a h = rank_rows net earlier a.0
below_by net earlier Q6 kind.Deficiency a h =
    let ds = later_numbers (numbers net earlier Q6 kind.Deficiency a) in
    class_forms_are net earlier ds (deficiencies_long net earlier a h) ∙ class_rows_are net earlier 0 (sizes_of (known_of net earlier)) 0 ds refl
below_by net earlier Q11 kind.Yes a h =
    let ps = pair_places net earlier in
    sides_are net (linkage earlier) (sizes_of (known_of net earlier)) ps refl ∙ ap (λ (rows : List Row). map (row_form net (linkage earlier) 0) rows) (sym (append-nil (map (λ (r : ℕ). Side r) ps)))
below_by net earlier Q12 kind.YesVec a h = ap (λ (fs : List Form). free_form (codes "vec") (length net.complexes) ∷ fs) (ties_are net earlier (length net.complexes - 1))
below_by net earlier Q12 kind.OnlyZero a h = ties_are net earlier (length net.complexes)
below_by net earlier Q13 kind.Rank a h = absurd h
below_by net earlier Q13 kind a h = signal_rows_are net earlier (place_for net earlier Q13 kind) (numbers net earlier Q13 kind a)
below_by net earlier q kind.Classes a h = search (refl, h)
below_by net earlier q kind a h = search (refl, h)

pub shown_by : (net : Net) (earlier : Earlier) (q : Question) (kind : HeadKind) (a : HeadOf net earlier q kind) → HeadFits net earlier q kind a → (rs : List Record)
    → let ns = numbers net earlier q kind a in proof_by kind q (ranks_of (shapes_of (known_of net earlier)) (head_record q kind (head_by net earlier q kind a)) rs) ns (lists rs) ≡ proof_by kind q (part_proofs (parts_by net (linkage earlier) kind ns) (lists rs)) ns (lists rs)
shown_by net earlier Q6 kind.Deficiency a h rs = ap (λ (list : List RankProof). Ranks list) (class_proofs_said net earlier (later_numbers (numbers net earlier Q6 kind.Deficiency a)) rs (deficiencies_long net earlier a h))
shown_by net earlier q kind.Deficiency a h rs = absurd h
shown_by net earlier q kind a h rs = refl

-- ---- the numbers of these records

-- each of these forms is of small numbers
abbrev AreSmallForms : List Form → Type 0
AreSmallForms [] = Unit {0}
AreSmallForms (form ∷ forms) = ((word : List ℕ) × (count least greatest : ℕ) × (form ≡ small_form word count least greatest) × (greatest < 2 ^ 32)) × AreSmallForms forms

small_row : (forms : List Form) (rs : List Record) (i : ℕ) → AreSmallForms forms → AllZip Fits forms rs → AreSmall (row (lists rs) i)
small_row [] [] i s z = tt
small_row (f ∷ fs) (r ∷ rs) zero s z = let t = s.0 in form_small t.0 t.1 t.2 t.3 r t.5 (subst (λ (f : Form). Fits f r) t.4 z.0)
small_row (f ∷ fs) (r ∷ rs) (suc i) s z = small_row fs rs i s.1 z.1
small_row forms rs i s z = absurd z

small_at : (places : List ℕ) (forms : List Form) (rs : List Record) → AreSmallForms forms → AllZip Fits forms rs → AreSmallAt places (lists rs)
small_at [] forms rs s z = tt
small_at (i ∷ is) forms rs s z = (small_row forms rs i s z, small_at is forms rs s z)

form_of : (word : List ℕ) (count least greatest : ℕ) → greatest < 2 ^ 32 → (w : List ℕ) × (c l g : ℕ) × (small_form word count least greatest ≡ small_form w c l g) × (g < 2 ^ 32)
form_of word count least greatest lt = (word, count, least, greatest, refl, lt)

walk_small : (c : ℕ) (rs : List Record) → c < 2 ^ 32 → AllZip Fits (record_form (codes "walk") (Several 2 c (pos 1) (pos c) ∷ []) ∷ []) rs → AreSmall (row (lists rs) 0)
walk_small c [] lt f = absurd f
walk_small c (x ∷ y ∷ rs) lt f = absurd f.1
walk_small c (x ∷ []) lt f = let p = one_field (Several 2 c (pos 1) (pos c)) x.numbers f.0.1 in small_list 1 c x.numbers lt p.0.2

-- the tests of a head hold, by its numbers
abbrev pub Held : (net : Net) (earlier : Earlier) (q : Question) (kind : HeadKind) → List ℤ → Type 0
Held net earlier q kind ns = AllHold (head_tests net earlier q (verdict_by kind ns []))

pub fit_by : (net : Net) (earlier : Earlier) (q : Question) (kind : HeadKind) (a : HeadOf net earlier q kind) → AreFew net earlier → HeadFits net earlier q kind a → (rs : List Record) → Held net earlier q kind (numbers net earlier q kind a) → AllZip Fits (due net earlier q kind a) rs
    → let ns = numbers net earlier q kind a in AreSmallAt (kept kind) (lists rs) × FitProof kind q (parts_by net (linkage earlier) kind ns) ns (lists rs)
fit_by net earlier Q1 kind.Classes a w h rs hold z =
    let c = length net.complexes in
    let r = length net.reactions in
    let smalls : AreSmallForms (due net earlier Q1 kind.Classes a) = (form_of (codes "label") c 1 a.0 (omega (arith, w.complexes, h.0.1)), (form_of (codes "up") c 0 r (omega (arith, w.reactions)), (form_of (codes "depth") c 0 (c - 1) (omega (arith, w.complexes)), tt))) in
    (small_at (0 ∷ []) (due net earlier Q1 kind.Classes a) rs smalls z, small_at (1 ∷ 2 ∷ []) (due net earlier Q1 kind.Classes a) rs smalls z)
fit_by net earlier Q2 kind.Strong a w h rs hold z =
    let c = length net.complexes in
    let r = length net.reactions in
    let k = a.0.0 in
    let forms = due net earlier Q2 kind.Strong a in
    let smalls : AreSmallForms forms = (form_of (codes "label") c 1 k (omega (arith, w.complexes, h.0.0.1)), (form_of (codes "from") c 0 r (omega (arith, w.reactions)), (form_of (codes "fromdepth") c 0 (c - 1) (omega (arith, w.complexes)), (form_of (codes "to") c 0 r (omega (arith, w.reactions)), (form_of (codes "todepth") c 0 (c - 1) (omega (arith, w.complexes)), (form_of (codes "level") k 0 c (omega (arith, w.complexes)), (form_of (codes "exit") k 0 r (omega (arith, w.reactions)), tt))))))) in
    (small_at (0 ∷ 6 ∷ []) forms rs smalls z, small_at (1 ∷ 2 ∷ 3 ∷ 4 ∷ 5 ∷ []) forms rs smalls z)
fit_by net earlier Q3 kind.Yes a w h rs hold z = let r = length net.reactions in let back = small_at (0 ∷ []) (due net earlier Q3 kind.Yes a) rs (form_of (codes "back") r 1 r (omega (arith, w.reactions)), tt) z in (tt, back.0)
fit_by net earlier Q5 kind.Rank a w h rs hold z =
    let all = range_with_len 1 (length net.reactions) in
    let s = rank_small (sizes_of (known_of net earlier)) a.0 all rs (λ x i. let m = member_few net (linkage earlier) 0 x (subst (λ (xs : List ℕ). IsIn x xs) (sym (members_all net (linkage earlier))) i) in omega (arith, m, w.reactions)) z in
    ((s, tt), (let l = zip_long (due net earlier Q5 kind.Rank a) rs z in let m = length-map rs (λ (r : Record). r.numbers) in omega (arith, l, m, rank_long net earlier a.0 (omega (arith, h.0.1)), h.0.1), s))
fit_by net earlier Q6 kind.Deficiency a w h rs hold z =
    let ds = later_numbers (numbers net earlier Q6 kind.Deficiency a) in
    (tt, class_fit net earlier (sizes_of (known_of net earlier)) 0 ds rs w.reactions hold.1.0.1 (subst (λ (fs : List Form). AllZip Fits fs rs) (class_forms_are net earlier ds (deficiencies_long net earlier a h)) z))
fit_by net earlier Q11 kind.NoCycle a w h rs hold z = ((walk_small (length net.complexes) rs (omega (arith, w.complexes)) z, tt), tt)
fit_by net earlier q kind.Classes a w h rs hold z = absurd h
fit_by net earlier q kind.Strong a w h rs hold z = absurd h
fit_by net earlier q kind.Rank a w h rs hold z = absurd h
fit_by net earlier q kind.Deficiency a w h rs hold z = absurd h
fit_by net earlier q kind.NoCycle a w h rs hold z = absurd h
fit_by net earlier q kind a w h rs hold z = (tt, tt)

-- ---- the places of their tests

side_parts : (net : Net) (earlier : Earlier) (part k : ℕ) (rs : List ℕ) (sides : List (List ℤ)) → part + length sides ≤ k → PartsWithin k (side_tests net earlier part rs sides)
side_parts net earlier part k [] sides le = tt
side_parts net earlier part k (r ∷ rs) [] le = (omega (arith, le), tt)
side_parts net earlier part k (r ∷ rs) (s ∷ ss) le = (omega (arith, le), side_parts net earlier (suc part) k rs ss (omega (arith, le)))

tie_parts : (net : Net) (labels : List ℕ) (count : ℕ) (spared : ℕ → Type 0) (part k : ℕ) (cs : List ℕ) (ties : List (List ℤ)) → part + length ties ≤ k → PartsWithin k (tie_tests net labels count spared part cs ties)
tie_parts net labels count spared part k [] ties le = tt
tie_parts net labels count spared part k (c ∷ cs) [] le = (omega (arith, le), tt)
tie_parts net labels count spared part k (c ∷ cs) (t ∷ ts) le = (omega (arith, le), tie_parts net labels count spared (suc part) k cs ts (omega (arith, le)))

-- without the first
less_one : (rs : List Record) (n : ℕ) → length rs ≡ suc n → 2 + length (drop 1 (lists rs)) ≤ suc (length rs)
less_one [] n e = absurd (omega (arith, e))
less_one (r ∷ rs) n e = let l = length-map rs (λ (r : Record). r.numbers) in let d = ap length (drop_none (lists rs)) in omega (arith, l, d)

pub row_parts_by : (net : Net) (earlier : Earlier) (q : Question) (kind : HeadKind) (a : HeadOf net earlier q kind) → AreFew net earlier → HeadFits net earlier q kind a → (rs : List Record) → Held net earlier q kind (numbers net earlier q kind a) → AllZip Fits (due net earlier q kind a) rs → length rs ≡ length (due net earlier q kind a)
    → let ns = numbers net earlier q kind a in PartsWithin (suc (length rs)) (row_tests net earlier q (verdict_by kind ns (lists rs)) (proof_by kind q (part_proofs (parts_by net (linkage earlier) kind ns) (lists rs)) ns (lists rs)))
row_parts_by net earlier Q1 kind.Classes a w h rs hold z l = omega (arith, l)
row_parts_by net earlier Q5 kind.Rank a w h rs hold z l =
    let all = range_with_len 1 (length net.reactions) in
    rank_parts net all 1 (suc (length rs)) a.0 _ (rank_formed net (sizes_of (known_of net earlier)) a.0 all rs refl z) (omega (arith, l, rank_long net earlier a.0 (omega (arith, h.0.1)), length-range_with_len 1 (length net.reactions), h.0.1))
row_parts_by net earlier Q6 kind.Deficiency a w h rs hold z l =
    let ds = later_numbers (numbers net earlier Q6 kind.Deficiency a) in
    let s = sizes_of (known_of net earlier) in
    let forms = class_forms_are net earlier ds (deficiencies_long net earlier a h) in
    let zz = subst (λ (fs : List Form). AllZip Fits fs rs) forms z in
    let long : length rs ≡ length (forms_from net earlier s 1 ds) = l ∙ ap length forms in
    subst (λ (list : List RankProof). PartsWithin (suc (length rs)) (class_rank_tests net earlier 1 1 list)) (sym (class_proofs_are net earlier 0 ds rs)) (class_parts_within net earlier 1 (suc (length rs)) 0 s ds (proofs_from net earlier 1 ds rs) hold.1.0.1 (class_formed net earlier s 0 ds rs refl hold.1.0.1 zz) (omega (arith, long)))
row_parts_by net earlier Q11 kind.Yes a w h rs hold z l = let m = length-map (lists rs) later_numbers ∙ length-map rs (λ (r : Record). r.numbers) in side_parts net earlier 1 (suc (length rs)) (pair_places net earlier) (map later_numbers (lists rs)) (omega (arith, m))
row_parts_by net earlier Q12 kind.YesVec a w h rs hold z l = (omega arith, tie_parts net (linkage earlier) (linkage_count earlier) _ 2 (suc (length rs)) _ (drop 1 (lists rs)) (less_one rs _ l))
row_parts_by net earlier Q12 kind.OnlyZero a w h rs hold z l = let m = length-map rs (λ (r : Record). r.numbers) in tie_parts net (linkage earlier) (linkage_count earlier) _ 1 (suc (length rs)) _ (lists rs) (omega (arith, m))
row_parts_by net earlier q kind.Classes a w h rs hold z l = omega (arith, l)
row_parts_by net earlier q kind a w h rs hold z l = omega (arith, l)
