-- What is written in the place of formed records determines them, and the leaves by which it is written.
use Rattle.crn_ctext.proofs.Prelude.{◌≡◌, ◌⊎◌, ◌++◌, ◌∙◌, ℕ, zero, suc, Bool, true, false, if◌then◌else◌, List, [], ◌∷◌, map, refl, sym, ap, ap₂, subst, inl, inr, arith, ℤ, pos, codes, slice_index, slice_index_or, AllByRecursion, AllZip, list_any, bytes_eq, cases_Bool, bytes_eq-Decides, append_cancel_left, IsIn, Sign, Zero, Plus, Minus, all_in, Question, Record, Form, Fits, kind_of, known_words, record_form, free_form, heads, Problem, Meaning, sections, below, word_of, one_word, section, is_cut_leaf, cut_lists, naming_word, IsNamed, leaf_written, written, leaf_forms, IsOneOf, IsTree, AreTrees, AreFormed, all_append}
use Rattle.crn_ctext.proofs.FormKinds.{IsRowKind, HaveKinds, heads_kinds, below_kinds, fits_no_cut}
use Rattle.crn_ctext.proofs.Shared.{IsWrittenFor, named_at, shared_written, lists_by, written_by}
use Rattle.crn_ctext.proofs.BlocksWritten.{parted}
use Rattle.crn_ctext.proofs.AnswersApart.{block_apart, first_same, IsLeaf}
use Rattle.crn_ctext.proofs.WordsApart.{among_yes}

-- ---- the kinds of records of an answer

-- the word is not one that names a list
abbrev NoName : Record → Type 0
NoName r = (word_of r ≡ codes "refa" → ⊥) × (word_of r ≡ codes "refb" → ⊥)

-- a cut leaf has its one word, and no record names a list
abbrev pub IsKind : Record → Type 0
IsKind r = ((is_cut_leaf r ≡ true) → (r.words ≡ codes "cuta" ∷ []) ⊎ (r.words ≡ codes "cutb" ∷ [])) × NoName r

abbrev pub AllKinds : List Record → Type 0
AllKinds rs = AllByRecursion IsKind rs

-- words that a test tells apart
apart : (v w : List ℕ) → bytes_eq v w ≡ false → v ≡ w → ⊥
apart v w none e = let h : true ≡ false = sym ((bytes_eq-Decides v w).1 e) ∙ none in cc

-- a record with these words
kind_by : (r : Record) (words : List (List ℕ)) → r.words ≡ words → IsKind (record { words = words; numbers = r.numbers }) → IsKind r
kind_by r words e k = subst (λ (ws : List (List ℕ)). IsKind (record { words = ws; numbers = r.numbers })) (sym e) k

-- no known word of version 1 names a list
no_name : (w name : List ℕ) → IsIn w (known_words 1) → list_any (bytes_eq name) (known_words 1) ≡ false → w ≡ name → ⊥
no_name w name i none e = let h : true ≡ false = sym (among_yes name (known_words 1) (subst (λ (x : List ℕ). IsIn x (known_words 1)) e i)) ∙ none in cc

row_kind : (form : Form) (r : Record) → IsRowKind form → Fits form r → IsKind r
row_kind form r k fits =
    let word : kind_of form ≡ word_of r = ap (λ (ws : List (List ℕ)). slice_index_or ws 0 []) (sym fits.0) in
    let known : IsIn (word_of r) (known_words 1) = subst (λ (w : List ℕ). IsIn w (known_words 1)) word k.0 in
    ((λ cut. absurd (let h : true ≡ false = sym cut ∙ fits_no_cut form r k fits in cc)), (no_name (word_of r) (codes "refa") known refl, no_name (word_of r) (codes "refb") known refl))

rows_kind : (forms : List Form) (rs : List Record) → HaveKinds forms → AllZip Fits forms rs → AllKinds rs
rows_kind [] [] k z = tt
rows_kind (form ∷ forms) (r ∷ rs) k z = (row_kind form r k.0 z.0, rows_kind forms rs k.1 z.1)
rows_kind forms rs k z = absurd z

sections_kind : (names : List (List ℕ)) → AllKinds (map section names)
sections_kind [] = tt
sections_kind (n ∷ ns) = (((λ cut. absurd cc), ((λ e. absurd cc), (λ e. absurd cc))), sections_kind ns)

leaf_kind : (p : Problem) (r : Record) → IsOneOf (leaf_forms p) r → IsKind r
leaf_kind p r (form, i, fits) = by form i fits
  where
    words : (form f : Form) → form ≡ f → r.words ≡ form.words → r.words ≡ f.words
    words form f e h = h ∙ ap (λ (x : Form). x.words) e

    by : (form : Form) → IsIn form (leaf_forms p) → Fits form r → IsKind r
    by form (inl e) fits = kind_by r (codes "flat" ∷ []) (words form (record_form (codes "flat") []) e fits.0) ((λ cut. absurd cc), (apart (codes "flat") (codes "refa") refl, apart (codes "flat") (codes "refb") refl))
    by form (inr (inl e)) fits = kind_by r (codes "cuta" ∷ []) (words form (free_form (codes "cuta") p.count_a) e fits.0) ((λ cut. inl refl), (apart (codes "cuta") (codes "refa") refl, apart (codes "cuta") (codes "refb") refl))
    by form (inr (inr (inl e))) fits = kind_by r (codes "cutb" ∷ []) (words form (free_form (codes "cutb") p.count_b) e fits.0) ((λ cut. inr refl), (apart (codes "cutb") (codes "refa") refl, apart (codes "cutb") (codes "refb") refl))
    by form (inr (inr (inr none))) fits = absurd none

split_kind : IsKind (one_word (codes "split") [])
split_kind = ((λ cut. absurd cc), ((λ e. absurd cc), (λ e. absurd cc)))

tree_kinds : (p : Problem) (more : ℕ) (prefix : List Sign) (rs : List Record) → IsTree (IsLeaf p) more prefix rs → AllKinds rs
unfolding IsTree
tree_kinds p zero prefix rs t = subst AllKinds (sym t.1) (leaf_kind p t.0 t.2, tt)
tree_kinds p (suc more) prefix rs (inl t) = subst AllKinds (sym t.1) (leaf_kind p t.0 t.2, tt)
tree_kinds p (suc more) prefix rs (inr t) = subst AllKinds (sym t.3) (
  split_kind,
  all_append IsKind t.0 (t.1 ++ t.2) (tree_kinds p more (prefix ++ Zero ∷ []) t.0 t.4) (all_append IsKind t.1 t.2 (tree_kinds p more (prefix ++ Plus ∷ []) t.1 t.5)
      (elim t.6 [ inl z ↦ subst AllKinds (sym z.1) tt | inr f ↦ tree_kinds p more (prefix ++ Minus ∷ []) t.2 f.1 ])),
)

trees_kinds : (ps : List {1} Problem) (rs : List Record) → AreTrees IsLeaf ps rs → AllKinds rs
trees_kinds [] rs t = subst AllKinds (sym t) tt
trees_kinds (p ∷ ps) rs t = subst AllKinds (sym t.2) (all_append IsKind t.0 t.1 (tree_kinds p p.choices [] t.0 t.3) (trees_kinds ps t.1 t.4))

pub formed_kinds : {Known : Type 0} (version : ℕ) (m : Meaning Known) (qs : List Question) (known : Known) (answers : List (List Record)) → AreFormed m qs known answers → AllKinds (parted version qs answers)
unfolding AreFormed
formed_kinds version m [] known answers v = tt
formed_kinds version m (q ∷ qs) known [] v = absurd v
formed_kinds version m (q ∷ qs) known (rs ∷ more) v =
    let p = v.0 in
    let f = v.1 in
    let z = m.shapes known in
    let head : IsKind p.head = row_kind f.head.0 p.head (all_in IsRowKind (heads q z.sizes) f.head.0 (heads_kinds q z.sizes) f.head.1) f.head.2 in
    let block : AllKinds rs = subst AllKinds (sym p.all) (head, all_append IsKind p.rows p.nodes (rows_kind (below q z p.head) p.rows (below_kinds q z p.head) f.rows) (trees_kinds (m.problems q known p.head) p.nodes f.trees)) in
    all_append IsKind (map section (sections version q)) (rs ++ parted version qs more) (sections_kind (sections version q)) (all_append IsKind rs (parted version qs more) block (formed_kinds version m qs (m.learn q known p.head p.rows) more v.2))

-- ---- records

-- what names the list of a cut leaf
abbrev Naming : Record → Type 0
Naming r = ((r.words ≡ codes "cuta" ∷ []) × (naming_word r ≡ codes "refa")) ⊎ ((r.words ≡ codes "cutb" ∷ []) × (naming_word r ≡ codes "refb"))

naming : (r : Record) → IsKind r → is_cut_leaf r ≡ true → Naming r
naming r k cut = elim (k.0 cut) [
  | inl a ↦ inl (a, ap (λ (ws : List (List ℕ)). naming_word (record { words = ws; numbers = r.numbers })) a)
  | inr b ↦ inr (b, ap (λ (ws : List (List ℕ)). naming_word (record { words = ws; numbers = r.numbers })) b)
]

-- a record that is written with a number is no record of an answer
not_named : (r s : Record) (k : ℕ) → IsKind r → IsKind s → is_cut_leaf s ≡ true → r ≡ leaf_written (suc k) s → ⊥
not_named r s k a b cut e = elim (naming s b cut) [
  | inl n ↦ a.1.0 (ap word_of e ∙ n.1)
  | inr n ↦ a.1.1 (ap word_of e ∙ n.1)
]

refs_apart : codes "refa" ≡ codes "refb" → ⊥
refs_apart e = let h : 97 ≡ 98 = ap (λ (t : List ℕ). slice_index t 3) e in omega (arith, h)

-- the words of cut leaves by what names their lists
same_words : (r s : Record) → Naming r → Naming s → naming_word r ≡ naming_word s → r.words ≡ s.words
same_words r s (inl a) (inl b) e = a.0 ∙ sym b.0
same_words r s (inr a) (inr b) e = a.0 ∙ sym b.0
same_words r s (inl a) (inr b) e = absurd (refs_apart (sym a.1 ∙ e ∙ b.1))
same_words r s (inr a) (inl b) e = absurd (refs_apart (sym b.1 ∙ sym e ∙ a.1))

first_number_of : Record → ℕ
first_number_of r = by r.numbers
  where
    by : List ℤ → ℕ
    by (pos n ∷ zs) = n
    by zs = 0

-- the number by which a list is named
same_number : (v w : List ℕ) (k j : ℕ) → one_word v (pos (suc k) ∷ []) ≡ one_word w (pos (suc j) ∷ []) → k ≡ j
unfolding first_number_of
same_number v w k j e = let h : suc k ≡ suc j = ap first_number_of e in cc

one_for : (table : List (List ℤ)) (w r s : Record) → IsKind r → IsKind s → IsWrittenFor table w r → IsWrittenFor table w s → r ≡ s
one_for table w r s a b (inl p) (inl q) = sym p ∙ q
one_for table w r s a b (inl p) (inr q) = absurd (not_named r s q.0 a b q.1 (sym p ∙ q.3))
one_for table w r s a b (inr p) (inl q) = absurd (not_named s r p.0 b a p.1 (sym q ∙ p.3))
one_for table w r s a b (inr p) (inr q) =
    let e : one_word (naming_word r) (pos (suc p.0) ∷ []) ≡ one_word (naming_word s) (pos (suc q.0) ∷ []) = sym p.3 ∙ q.3 in
    let k : p.0 ≡ q.0 = same_number (naming_word r) (naming_word s) p.0 q.0 e in
    let words : r.words ≡ s.words = same_words r s (naming r a p.1) (naming s b q.1) (ap word_of e) in
    let numbers : r.numbers ≡ s.numbers = sym (named_at table p.0 r.numbers p.2).1 ∙ ap (λ (n : ℕ). slice_index_or table n []) k ∙ (named_at table q.0 s.numbers q.2).1 in
    ap₂ (λ (x : List (List ℕ)) (y : List ℤ). record { words = x; numbers = y }) words numbers

all_for : (table : List (List ℤ)) (ws rs ss : List Record) → AllKinds rs → AllKinds ss → AllZip (IsWrittenFor table) ws rs → AllZip (IsWrittenFor table) ws ss → rs ≡ ss
all_for table [] [] [] a b p q = refl
all_for table [] (r ∷ rs) ss a b p q = absurd p
all_for table (w ∷ ws) [] ss a b p q = absurd p
all_for table (w ∷ ws) (r ∷ rs) (s ∷ ss) a b p q = ap₂ (λ (x : Record) (xs : List Record). x ∷ xs) (one_for table w r s a.0 b.0 p.0 q.0) (all_for table ws rs ss a.1 b.1 p.1 q.1)
all_for table ws rs ss a b p q = absurd q

-- ---- leaves

leaf_one : (r : Record) (k j : ℕ) → IsKind r → is_cut_leaf r ≡ true → leaf_written k r ≡ leaf_written j r → k ≡ j
leaf_one r zero zero a cut e = refl
leaf_one r zero (suc j) a cut e = absurd (not_named r r j a a cut e)
leaf_one r (suc k) zero a cut e = absurd (not_named r r k a a cut (sym e))
leaf_one r (suc k) (suc j) a cut e = ap suc (same_number (naming_word r) (naming_word r) k j e)

leaves_one : (table : List (List ℤ)) (leaf lead : List ℕ) (rs : List Record) → AllKinds rs → AllZip (IsNamed table) leaf (cut_lists rs) → AllZip (IsNamed table) lead (cut_lists rs) → written leaf rs ≡ written lead rs → leaf ≡ lead
leaves_one table [] [] [] a p q e = refl
leaves_one table [] (j ∷ lead) [] a p q e = absurd q
leaves_one table (k ∷ leaf) lead [] a p q e = absurd p
leaves_one table leaf lead (r ∷ rs) a p q e = elim (cases_Bool (is_cut_leaf r)) [
  | inl cut ↦ by cut leaf lead (λ ks js x y z. leaves_one table ks js rs a.1 x y z)
      (subst (λ (t : Bool). AllZip (IsNamed table) leaf (lists_by t r rs)) cut p) (subst (λ (t : Bool). AllZip (IsNamed table) lead (lists_by t r rs)) cut q) (subst (λ (t : Bool). written_by t leaf r rs ≡ written_by t lead r rs) cut e)
  | inr none ↦ leaves_one table leaf lead rs a.1 (subst (λ (t : Bool). AllZip (IsNamed table) leaf (lists_by t r rs)) none p) (subst (λ (t : Bool). AllZip (IsNamed table) lead (lists_by t r rs)) none q)
      (first_same r r (written leaf rs) (written lead rs) (subst (λ (t : Bool). written_by t leaf r rs ≡ written_by t lead r rs) none e)).1
]
  where
    by : is_cut_leaf r ≡ true → (leaf lead : List ℕ) → ((ks js : List ℕ) → AllZip (IsNamed table) ks (cut_lists rs) → AllZip (IsNamed table) js (cut_lists rs) → written ks rs ≡ written js rs → ks ≡ js)
        → AllZip (IsNamed table) leaf (lists_by true r rs) → AllZip (IsNamed table) lead (lists_by true r rs) → written_by true leaf r rs ≡ written_by true lead r rs → leaf ≡ lead
    by cut [] lead more p q e = absurd p
    by cut (k ∷ leaf) [] more p q e = absurd q
    by cut (k ∷ leaf) (j ∷ lead) more p q e =
        let h = first_same (leaf_written k r) (leaf_written j r) (written leaf rs) (written lead rs) e in
        ap₂ (λ (x : ℕ) (xs : List ℕ). x ∷ xs) (leaf_one r k j a.0 cut h.0) (more leaf lead p.1 q.1 h.1)

-- ---- what is written

-- what is written by leaves that fit determines the records and the leaves
pub written_is_one : (table : List (List ℤ)) (leaf lead : List ℕ) (rs ss : List Record) → AllKinds rs → AllKinds ss → AllZip (IsNamed table) leaf (cut_lists rs) → AllZip (IsNamed table) lead (cut_lists ss) → written leaf rs ≡ written lead ss → (rs ≡ ss) × (leaf ≡ lead)
written_is_one table leaf lead rs ss a b p q e =
    let same : rs ≡ ss = all_for table (written lead ss) rs ss a b (subst (λ (ws : List Record). AllZip (IsWrittenFor table) ws rs) e (shared_written table leaf rs p)) (shared_written table lead ss q) in
    let leaves : leaf ≡ lead = leaves_one table leaf lead ss b (subst (λ (xs : List Record). AllZip (IsNamed table) leaf (cut_lists xs)) same p) q (ap (written leaf) (sym same) ∙ e) in
    (same, leaves)

-- formed answers with the same records in their sections are the same
pub parted_apart : {Known : Type 0} (version : ℕ) (m : Meaning Known) (qs : List Question) (known : Known) (xs ys : List (List Record)) → AreFormed m qs known xs → AreFormed m qs known ys → parted version qs xs ≡ parted version qs ys → xs ≡ ys
unfolding AreFormed
parted_apart version m [] known xs ys f g e = f ∙ sym g
parted_apart version m (q ∷ qs) known [] ys f g e = absurd f
parted_apart version m (q ∷ qs) known (x ∷ xs) [] f g e = absurd g
parted_apart {Known} version m (q ∷ qs) known (x ∷ xs) (y ∷ ys) f g e =
    let rest = append_cancel_left (map section (sections version q)) (x ++ parted version qs xs) (y ++ parted version qs ys) e in
    let one = block_apart m q known x y (parted version qs xs) (parted version qs ys) f.0 g.0 f.1 g.1 rest in
    let learned : m.learn q known f.0.head f.0.rows ≡ m.learn q known g.0.head g.0.rows = ap₂ (λ (h : Record) (rs : List Record). m.learn q known h rs) one.1.0 one.1.1 in
    let more = parted_apart version m qs (m.learn q known g.0.head g.0.rows) xs ys (subst (λ (k : Known). AreFormed m qs k xs) learned f.2) g.2 one.0.1 in
    ap₂ (λ (v : List Record) (w : List (List Record)). v ∷ w) one.0.0 more
