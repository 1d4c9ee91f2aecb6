-- Records with the numbers of their cut leaves, as they are written one after another.
use Rattle.crn_ctext.proofs.Prelude.{◌≡◌, ℕ, zero, suc, ◌==◌, Bool, true, false, if◌then◌else◌, List, [], ◌∷◌, ◌++◌, refl, sym, ap, ◌∙◌, decimal, AllByRecursion, eqb-suc-zero, append-nil, Record, line, record_lines, one_word, is_cut_leaf, leaf_written, first_leaf, later_leaves, written, naming_word, leaves_after}
use Rattle.std.proofs.Common.{ℤ, pos, codes}
use Rattle.crn_ctext.proofs.WrittenLines.{line_of_word, lines_append}

written_by : (b : Bool) (x r : Record) (ts ts' es es' : List Record) (lt le : List ℕ) (ys : List Record) → ts' ≡ ts ++ written lt ys → es' ≡ es ++ written le ys
    → (if b then x ∷ ts' else r ∷ es') ≡ (if b then x ∷ ts else r ∷ es) ++ written (if b then lt else le) ys
written_by true x r ts ts' es es' lt le ys p q = ap (λ (t : List Record). x ∷ t) p
written_by false x r ts ts' es es' lt le ys p q = ap (λ (t : List Record). r ∷ t) q

leaves_by : (b : Bool) (lt lt' le le' : List ℕ) (ys : List Record) → lt' ≡ leaves_after ys lt → le' ≡ leaves_after ys le → (if b then lt' else le') ≡ leaves_after ys (if b then lt else le)
leaves_by true lt lt' le le' ys p q = p
leaves_by false lt lt' le le' ys p q = q

-- records one after another
pub written_append : (leaf : List ℕ) (xs ys : List Record) → written leaf (xs ++ ys) ≡ written leaf xs ++ written (leaves_after xs leaf) ys
written_append leaf [] ys = refl
written_append leaf (r ∷ xs) ys =
    written_by (is_cut_leaf r) (leaf_written (first_leaf leaf) r) r (written (later_leaves leaf) xs) (written (later_leaves leaf) (xs ++ ys)) (written leaf xs) (written leaf (xs ++ ys)) (leaves_after xs (later_leaves leaf)) (leaves_after xs leaf) ys
    (written_append (later_leaves leaf) xs ys) (written_append leaf xs ys)

pub leaves_append : (leaf : List ℕ) (xs ys : List Record) → leaves_after (xs ++ ys) leaf ≡ leaves_after ys (leaves_after xs leaf)
leaves_append leaf [] ys = refl
leaves_append leaf (r ∷ xs) ys =
    leaves_by (is_cut_leaf r) (leaves_after xs (later_leaves leaf)) (leaves_after (xs ++ ys) (later_leaves leaf)) (leaves_after xs leaf) (leaves_after (xs ++ ys) leaf) ys
    (leaves_append (later_leaves leaf) xs ys) (leaves_append leaf xs ys)

-- the lines of records one after another
pub written_lines : (leaf : List ℕ) (xs ys : List Record) → record_lines (written leaf (xs ++ ys)) ≡ record_lines (written leaf xs) ++ record_lines (written (leaves_after xs leaf) ys)
written_lines leaf xs ys = ap (λ (t : List Record). record_lines t) (written_append leaf xs ys) ∙ lines_append (written leaf xs) (written (leaves_after xs leaf) ys)

-- ---- records that are no cut leaves

-- a record is no cut leaf
abbrev pub IsPlain : Record → Type 0
IsPlain r = is_cut_leaf r ≡ false

plain_by : (b : Bool) (x r : Record) (ts es es' : List Record) → b ≡ false → es' ≡ es → (if b then x ∷ ts else r ∷ es') ≡ r ∷ es
plain_by true x r ts es es' e p = absurd cc
plain_by false x r ts es es' e p = ap (λ (t : List Record). r ∷ t) p

same_by : (b : Bool) (lt le l : List ℕ) → b ≡ false → le ≡ l → (if b then lt else le) ≡ l
same_by true lt le l e p = absurd cc
same_by false lt le l e p = p

pub plain_written : (leaf : List ℕ) (rs : List Record) → AllByRecursion IsPlain rs → written leaf rs ≡ rs
plain_written leaf [] h = refl
plain_written leaf (r ∷ rs) h = plain_by (is_cut_leaf r) (leaf_written (first_leaf leaf) r) r (written (later_leaves leaf) rs) rs (written leaf rs) h.0 (plain_written leaf rs h.1)

pub plain_leaves : (leaf : List ℕ) (rs : List Record) → AllByRecursion IsPlain rs → leaves_after rs leaf ≡ leaf
plain_leaves leaf [] h = refl
plain_leaves leaf (r ∷ rs) h = same_by (is_cut_leaf r) (leaves_after rs (later_leaves leaf)) (leaves_after rs leaf) leaf h.0 (plain_leaves leaf rs h.1)

-- no leaf has a number
numbers_none : (b : Bool) (r : Record) (ts es rs : List Record) → ts ≡ rs → es ≡ rs → (if b then r ∷ ts else r ∷ es) ≡ r ∷ rs
numbers_none true r ts es rs p q = ap (λ (t : List Record). r ∷ t) p
numbers_none false r ts es rs p q = ap (λ (t : List Record). r ∷ t) q

-- without numbers of leaves the records are written as they are
pub written_none : (rs : List Record) → written [] rs ≡ rs
written_none [] = refl
written_none (r ∷ rs) = numbers_none (is_cut_leaf r) r (written [] rs) (written [] rs) rs (written_none rs) (written_none rs)

-- ---- cuts

-- the line of a cut
cut_line : (word name : List ℕ) (u : List ℤ) (k : ℕ) → naming_word (one_word word u) ≡ name
    → record_lines (leaf_written k (one_word word u) ∷ []) ≡ (if k == 0 then line word u else line name (pos k ∷ []))
cut_line word name u zero e = line_of_word word u
cut_line word name u (suc k) e =
    line_of_word (naming_word (one_word word u)) (pos (suc k) ∷ []) ∙ ap (λ (n : List ℕ). line n (pos (suc k) ∷ [])) e
    ∙ ap (λ (b : Bool). if b then line word u else line name (pos (suc k) ∷ [])) (sym (eqb-suc-zero k))

-- the line that names a list
name_line : (name : List ℕ) (k : ℕ) → line name (pos k ∷ []) ≡ name ++ (32 ∷ decimal k) ++ codes "\n"
name_line name k = ap (λ (t : List ℕ). name ++ (32 ∷ t) ++ codes "\n") (append-nil (decimal k))

cut_or_name : (b : Bool) (x name : List ℕ) (k : ℕ) → (if b then x else line name (pos k ∷ [])) ≡ (if b then x else (name ++ (32 ∷ decimal k) ++ codes "\n"))
cut_or_name true x name k = refl
cut_or_name false x name k = name_line name k

pub cuta_line : (u : List ℤ) (leaf : List ℕ) (k : ℕ) → k ≡ first_leaf leaf
    → record_lines (written leaf (one_word (codes "cuta") u ∷ [])) ≡ (if k == 0 then line (codes "cuta") u else (codes "refa " ++ decimal k ++ codes "\n"))
cuta_line u leaf k e = rw e (cut_line (codes "cuta") (codes "refa") u (first_leaf leaf) refl ∙ cut_or_name (first_leaf leaf == 0) (line (codes "cuta") u) (codes "refa") (first_leaf leaf))

pub cutb_line : (u : List ℤ) (leaf : List ℕ) (k : ℕ) → k ≡ first_leaf leaf
    → record_lines (written leaf (one_word (codes "cutb") u ∷ [])) ≡ (if k == 0 then line (codes "cutb") u else (codes "refb " ++ decimal k ++ codes "\n"))
cutb_line u leaf k e = rw e (cut_line (codes "cutb") (codes "refb") u (first_leaf leaf) refl ∙ cut_or_name (first_leaf leaf == 0) (line (codes "cutb") u) (codes "refb") (first_leaf leaf))
