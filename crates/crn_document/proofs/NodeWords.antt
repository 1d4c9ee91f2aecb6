-- The words and numbers of nodes, and what the check of a tree requires of them.
use Rattle.crn_document.proofs.Prelude.{◌≡◌, ◌⊎◌, ◌==◌, ◌≤◌, ◌<◌, ◌-◌, ◌^◌, ◌∙◌, ℕ, Bool, true, false, List, [], ◌∷◌, refl, sym, ap, subst, inl, inr, arith, ℤ, pos, codes, slice_index_or, bytes_eq, bytes_eq-Decides, IsIn, AreFree, Record, Form, Fits, kind_of, free_form, node_forms, record_form, small, small_form, first_number, Node, Split, Flat, CutA, CutB, node_of, word_of, IsOneOf, text_of, Word, AreSmall, IsNode}
use Rattle.std.proofs.Common.{if◌then◌else◌}
use Rattle.crn_ctext.specs.declared.word.Word.TheVariants as words
use Rattle.crn_document.proofs.Fields.{one_field, one_number}
use Rattle.crn_document.proofs.Ranks.{free_row}

-- ---- the words of nodes

no_same : (a b w : List ℕ) → bytes_eq a b ≡ false → w ≡ a → w ≡ b → ⊥
no_same a b w n e f = let h : bytes_eq a b ≡ true = (bytes_eq-Decides a b).1 (sym e ∙ f) in let g : true ≡ false = sym h ∙ n in cc

same_bytes : (a b : List ℕ) → a ≡ b → bytes_eq a b ≡ true
same_bytes a b e = (bytes_eq-Decides a b).1 e

-- one number, which names a shared list
abbrev pub NamesOne : ℕ → List ℤ → Type 0
NamesOne shared zs = (n : ℕ) × (zs ≡ pos n ∷ []) × ((1 ≤ n) × (n ≤ shared))

-- the words and numbers of a node
abbrev Cases : (count species shared : ℕ) → List ℕ → List ℤ → Type 0
Cases a s k w zs = (w ≡ codes "split") ⊎ ((w ≡ codes "flat") ⊎ (((w ≡ codes "cuta") × AreFree a zs) ⊎ (((w ≡ codes "cutb") × AreFree s zs) ⊎ (((w ≡ codes "refa") × NamesOne k zs) ⊎ ((w ≡ codes "refb") × NamesOne k zs)))))

word_of_form : (r : Record) (form f : Form) → form ≡ f → r.words ≡ form.words → word_of r ≡ kind_of f
word_of_form r form f e w = ap (λ (ws : List (List ℕ)). slice_index_or ws 0 []) w ∙ ap kind_of e

named_number : (word : List ℕ) (k : ℕ) (r : Record) → Fits (small_form word 1 1 k) r → NamesOne k r.numbers
named_number word k r f = one_number 1 k r.numbers (one_field (small 1 1 k) r.numbers f.1)

-- the forms of version 2 alone
abbrev naming_forms : ℕ → List Form
naming_forms k = small_form (codes "refa") 1 1 k ∷ small_form (codes "refb") 1 1 k ∷ []

node_cases : (version a s k : ℕ) (r : Record) → IsOneOf (node_forms version a s k) r → Cases a s k (word_of r) r.numbers
node_cases version a s k r (form, i, fits) = by i
  where
    added : (b : Bool) → IsIn form (if b then naming_forms k else []) → Cases a s k (word_of r) r.numbers
    added true (inl e) = inr (inr (inr (inr (inl (word_of_form r form (small_form (codes "refa") 1 1 k) e fits.0, named_number (codes "refa") k r (subst (λ (f : Form). Fits f r) e fits))))))
    added true (inr (inl e)) = inr (inr (inr (inr (inr (word_of_form r form (small_form (codes "refb") 1 1 k) e fits.0, named_number (codes "refb") k r (subst (λ (f : Form). Fits f r) e fits))))))
    added true (inr (inr none)) = absurd none
    added false none = absurd none

    by : IsIn form (node_forms version a s k) → Cases a s k (word_of r) r.numbers
    by (inl e) = inl (word_of_form r form (record_form (codes "split") []) e fits.0)
    by (inr (inl e)) = inr (inl (word_of_form r form (record_form (codes "flat") []) e fits.0))
    by (inr (inr (inl e))) = inr (inr (inl (word_of_form r form (free_form (codes "cuta") a) e fits.0, free_row (codes "cuta") a r (subst (λ (f : Form). Fits f r) e fits))))
    by (inr (inr (inr (inl e)))) = inr (inr (inr (inl (word_of_form r form (free_form (codes "cutb") s) e fits.0, free_row (codes "cutb") s r (subst (λ (f : Form). Fits f r) e fits)))))
    by (inr (inr (inr (inr more)))) = added (version == 2) more

cases_a : (a s k : ℕ) (w : List ℕ) (zs : List ℤ) → Cases a s k w zs → w ≡ codes "cuta" → AreFree a zs
cases_a a s k w zs (inl e) f = absurd (no_same (codes "split") (codes "cuta") w refl e f)
cases_a a s k w zs (inr (inl e)) f = absurd (no_same (codes "flat") (codes "cuta") w refl e f)
cases_a a s k w zs (inr (inr (inl h))) f = h.1
cases_a a s k w zs (inr (inr (inr (inl h)))) f = absurd (no_same (codes "cutb") (codes "cuta") w refl h.0 f)
cases_a a s k w zs (inr (inr (inr (inr (inl h))))) f = absurd (no_same (codes "refa") (codes "cuta") w refl h.0 f)
cases_a a s k w zs (inr (inr (inr (inr (inr h))))) f = absurd (no_same (codes "refb") (codes "cuta") w refl h.0 f)

cases_b : (a s k : ℕ) (w : List ℕ) (zs : List ℤ) → Cases a s k w zs → w ≡ codes "cutb" → AreFree s zs
cases_b a s k w zs (inl e) f = absurd (no_same (codes "split") (codes "cutb") w refl e f)
cases_b a s k w zs (inr (inl e)) f = absurd (no_same (codes "flat") (codes "cutb") w refl e f)
cases_b a s k w zs (inr (inr (inl h))) f = absurd (no_same (codes "cuta") (codes "cutb") w refl h.0 f)
cases_b a s k w zs (inr (inr (inr (inl h)))) f = h.1
cases_b a s k w zs (inr (inr (inr (inr (inl h))))) f = absurd (no_same (codes "refa") (codes "cutb") w refl h.0 f)
cases_b a s k w zs (inr (inr (inr (inr (inr h))))) f = absurd (no_same (codes "refb") (codes "cutb") w refl h.0 f)

cases_first : (a s k : ℕ) (w : List ℕ) (zs : List ℤ) → Cases a s k w zs → w ≡ codes "refa" → NamesOne k zs
cases_first a s k w zs (inl e) f = absurd (no_same (codes "split") (codes "refa") w refl e f)
cases_first a s k w zs (inr (inl e)) f = absurd (no_same (codes "flat") (codes "refa") w refl e f)
cases_first a s k w zs (inr (inr (inl h))) f = absurd (no_same (codes "cuta") (codes "refa") w refl h.0 f)
cases_first a s k w zs (inr (inr (inr (inl h)))) f = absurd (no_same (codes "cutb") (codes "refa") w refl h.0 f)
cases_first a s k w zs (inr (inr (inr (inr (inl h))))) f = h.1
cases_first a s k w zs (inr (inr (inr (inr (inr h))))) f = h.1

-- a word by its text
record ByText (w : Word) : Type 0 where
  split : bytes_eq (text_of w) (codes "split") ≡ true → w ≡ words.Split
  flat : bytes_eq (text_of w) (codes "flat") ≡ true → w ≡ words.Flat
  cut_a : bytes_eq (text_of w) (codes "cuta") ≡ true → w ≡ words.CutA
  cut_b : bytes_eq (text_of w) (codes "cutb") ≡ true → w ≡ words.CutB
  ref_a : bytes_eq (text_of w) (codes "refa") ≡ true → w ≡ words.RefA

no : {A : Type 0} → false ≡ true → A
no e = absurd cc

by_text : (w : Word) → ByText w
by_text words.Split = record { split = λ e. refl; flat = λ e. no e; cut_a = λ e. no e; cut_b = λ e. no e; ref_a = λ e. no e }
by_text words.Flat = record { split = λ e. no e; flat = λ e. refl; cut_a = λ e. no e; cut_b = λ e. no e; ref_a = λ e. no e }
by_text words.CutA = record { split = λ e. no e; flat = λ e. no e; cut_a = λ e. refl; cut_b = λ e. no e; ref_a = λ e. no e }
by_text words.CutB = record { split = λ e. no e; flat = λ e. no e; cut_a = λ e. no e; cut_b = λ e. refl; ref_a = λ e. no e }
by_text words.RefA = record { split = λ e. no e; flat = λ e. no e; cut_a = λ e. no e; cut_b = λ e. no e; ref_a = λ e. refl }
by_text w = record { split = λ e. no e; flat = λ e. no e; cut_a = λ e. no e; cut_b = λ e. no e; ref_a = λ e. no e }

-- a node of none of the first five words names a list for part B
cases_second : (a s k : ℕ) (word : Word) (w : List ℕ) (zs : List ℤ) → Cases a s k w zs → w ≡ text_of word → (word ≡ words.Split → ⊥) → (word ≡ words.Flat → ⊥) → (word ≡ words.CutA → ⊥) → (word ≡ words.CutB → ⊥) → (word ≡ words.RefA → ⊥) → (w ≡ codes "refb") × NamesOne k zs
cases_second a s k word w zs (inl e) f p b c d g = absurd (let h = (by_text word).split in p (h (same_bytes (text_of word) (codes "split") (sym f ∙ e))))
cases_second a s k word w zs (inr (inl e)) f p b c d g = absurd (let h = (by_text word).flat in b (h (same_bytes (text_of word) (codes "flat") (sym f ∙ e))))
cases_second a s k word w zs (inr (inr (inl e))) f p b c d g = absurd (let h = (by_text word).cut_a in c (h (same_bytes (text_of word) (codes "cuta") (sym f ∙ e.0))))
cases_second a s k word w zs (inr (inr (inr (inl e)))) f p b c d g = absurd (let h = (by_text word).cut_b in d (h (same_bytes (text_of word) (codes "cutb") (sym f ∙ e.0))))
cases_second a s k word w zs (inr (inr (inr (inr (inl e))))) f p b c d g = absurd (let h = (by_text word).ref_a in g (h (same_bytes (text_of word) (codes "refa") (sym f ∙ e.0))))
cases_second a s k word w zs (inr (inr (inr (inr (inr e))))) f p b c d g = e

-- ---- what a node is

abbrev pub node_word : List (List ℤ) → List ℕ → List ℤ → Node
node_word table w zs =
    if bytes_eq w (codes "split") then Split else (
    if bytes_eq w (codes "flat") then Flat else (
    if bytes_eq w (codes "cuta") then CutA false zs else (
    if bytes_eq w (codes "cutb") then CutB false zs else (
    if bytes_eq w (codes "refa") then CutA true (slice_index_or table (first_number zs - 1) [])
    else CutB true (slice_index_or table (first_number zs - 1) [])))))

pub node_is : (table : List (List ℤ)) (r : Record) (word : List ℕ) → word_of r ≡ word → node_of table r ≡ node_word table word r.numbers
node_is table r word e = ap (λ (w : List ℕ). node_word table w r.numbers) e

-- ---- what the calls of the check of a tree require

pub cut_a_numbers : (version a s k : ℕ) (word : Word) (numbers : List ℤ) (r : Record) → IsNode version a s k word numbers r → text_of word ≡ codes "cuta" → AreFree a numbers
cut_a_numbers version a s k word numbers r h e = subst (λ (zs : List ℤ). AreFree a zs) (sym h.numbers_are) (cases_a a s k (word_of r) r.numbers (node_cases version a s k r h.form) (h.kind ∙ e))

pub cut_b_numbers : (version a s k : ℕ) (word : Word) (numbers : List ℤ) (r : Record) → IsNode version a s k word numbers r → text_of word ≡ codes "cutb" → AreFree s numbers
cut_b_numbers version a s k word numbers r h e = subst (λ (zs : List ℤ). AreFree s zs) (sym h.numbers_are) (cases_b a s k (word_of r) r.numbers (node_cases version a s k r h.form) (h.kind ∙ e))

pub first_names : (version a s k : ℕ) (word : Word) (numbers : List ℤ) (r : Record) → IsNode version a s k word numbers r → text_of word ≡ codes "refa" → NamesOne k numbers
first_names version a s k word numbers r h e = subst (λ (zs : List ℤ). NamesOne k zs) (sym h.numbers_are) (cases_first a s k (word_of r) r.numbers (node_cases version a s k r h.form) (h.kind ∙ e))

pub second_names : (version a s k : ℕ) (word : Word) (numbers : List ℤ) (r : Record) → IsNode version a s k word numbers r → (word ≡ words.Split → ⊥) → (word ≡ words.Flat → ⊥) → (word ≡ words.CutA → ⊥) → (word ≡ words.CutB → ⊥) → (word ≡ words.RefA → ⊥) → (word_of r ≡ codes "refb") × NamesOne k numbers
second_names version a s k word numbers r h i b c d g =
    let p = cases_second a s k word (word_of r) r.numbers (node_cases version a s k r h.form) h.kind i b c d g in
    (p.0, subst (λ (zs : List ℤ). NamesOne k zs) (sym h.numbers_are) p.1)

-- one number that names one of few lists is small
pub names_small : (k : ℕ) (zs : List ℤ) → k < 2 ^ 32 → NamesOne k zs → AreSmall zs
names_small k zs lt h = subst AreSmall (sym h.1) (omega (arith, h.2.1, lt), tt)
