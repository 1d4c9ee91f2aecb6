-- The records of a document by its version: sections and shared lists change neither the cut leaves nor, in version 1, the records.
use Rattle.crn_ctext.proofs.Prelude.{◌≡◌, ◌≤◌, ◌==◌, ◌++◌, ◌∙◌, ℕ, suc, Bool, true, false, if◌then◌else◌, List, [], ◌∷◌, length, map, refl, sym, ap, ap₂, subst, inl, inr, arith, append_assoc, ℤ, codes, AllByRecursion, AllZip, filter, bytes_eq, Question, Q1, MAX_SHARED, Record, opens, Meaning, sections, word_of, one_word, section, is_cut_leaf, cut_lists, table_records, in_sections, IsNamed, IsShareable, AreFormed, map-append, filter-append}
use Rattle.crn_ctext.proofs.Bounded.{IsPlain, words_fit, all_narrow}
use Rattle.crn_ctext.proofs.ShortAnswers.{AllPlain, short_both}
use Rattle.crn_ctext.proofs.Shared.{IsWrittenFor, named_at}
use Rattle.crn_ctext.proofs.BlocksWritten.{all_of, parted, table_part}

-- ---- sections

-- version 1 has none
pub parted_first : {Known : Type 0} (m : Meaning Known) (built : List Question) (known : Known) (answers : List (List Record)) → AreFormed m built known answers → parted 1 built answers ≡ all_of answers
unfolding AreFormed
parted_first m [] known answers v = ap all_of (sym v)
parted_first m (q ∷ qs) known [] v = absurd v
parted_first m (q ∷ qs) known (rs ∷ more) v = ap (λ (t : List Record). rs ++ t) (parted_first m qs (m.learn q known v.0.head v.0.rows) more v.2)

pub parted_second : (built : List Question) (answers : List (List Record)) → parted 2 built answers ≡ in_sections built answers
parted_second [] answers = refl
parted_second (q ∷ qs) [] = refl
parted_second (q ∷ qs) (rs ∷ more) = ap (λ (t : List Record). map section (opens q) ++ (rs ++ t)) (parted_second qs more) ∙ sym (append_assoc (map section (opens q)) rs (in_sections qs more))

pub cuts_append : (xs ys : List Record) → cut_lists (xs ++ ys) ≡ cut_lists xs ++ cut_lists ys
cuts_append xs ys = ap (λ (t : List Record). map (λ (r : Record). r.numbers) t) (filter-append is_cut_leaf xs ys) ∙ map-append (λ (r : Record). r.numbers) (filter is_cut_leaf xs) (filter is_cut_leaf ys)

section_cuts : (names : List (List ℕ)) → cut_lists (map section names) ≡ []
section_cuts [] = refl
section_cuts (n ∷ ns) = section_cuts ns

pub parted_cuts : {Known : Type 0} (version : ℕ) (m : Meaning Known) (built : List Question) (known : Known) (answers : List (List Record)) → AreFormed m built known answers → cut_lists (parted version built answers) ≡ cut_lists (all_of answers)
unfolding AreFormed
parted_cuts version m [] known answers v = ap (λ (a : List (List Record)). cut_lists (all_of a)) (sym v)
parted_cuts version m (q ∷ qs) known [] v = absurd v
parted_cuts version m (q ∷ qs) known (rs ∷ more) v =
    cuts_append (map section (sections version q)) (rs ++ parted version qs more)
    ∙ ap₂ (λ (a b : List (List ℤ)). a ++ b) (section_cuts (sections version q)) (cuts_append rs (parted version qs more))
    ∙ ap (λ (t : List (List ℤ)). cut_lists rs ++ t) (parted_cuts version m qs (m.learn q known v.0.head v.0.rows) more v.2)
    ∙ sym (cuts_append rs (all_of more))

-- ---- no shared lists

-- without shared lists each record is written in its own place
pub written_alone : (table : List (List ℤ)) (ws rs : List Record) → table ≡ [] → AllZip (IsWrittenFor table) ws rs → ws ≡ rs
written_alone table [] [] e z = refl
written_alone table (w ∷ ws) (r ∷ rs) e z = ap₂ (λ (x : Record) (xs : List Record). x ∷ xs) (one z.0) (written_alone table ws rs e z.1)
  where
    none : (table : List (List ℤ)) (k : ℕ) (u : List ℤ) → table ≡ [] → IsNamed table (suc k) u → ⊥
    none [] k u e n = n
    none (t ∷ ts) k u e n = absurd cc

    one : IsWrittenFor table w r → w ≡ r
    one (inl same) = same
    one (inr named) = absurd (none table named.0 r.numbers e named.2)
written_alone table ws rs e z = absurd z

-- ---- plain records

section_words : (q : Question) → AllByRecursion (λ name. words_fit (codes "section" ∷ name ∷ []) ≡ true) (opens q)
section_words Q1 = (refl, tt)
section_words q = assumption

sections_plain : (version : ℕ) (q : Question) → AllPlain (map section (sections version q))
sections_plain version q = by (version == 2)
  where
    each : (names : List (List ℕ)) → AllByRecursion (λ name. words_fit (codes "section" ∷ name ∷ []) ≡ true) names → AllPlain (map section names)
    each [] h = tt
    each (n ∷ ns) h = (record { words = h.0; few = omega arith; numbers = tt }, each ns h.1)

    by : (t : Bool) → AllPlain (map section (if t then opens q else []))
    by true = each (opens q) (section_words q)
    by false = tt

pub parted_plain : (version : ℕ) (built : List Question) (answers : List (List Record)) → AllByRecursion AllPlain answers → AllPlain (parted version built answers)
parted_plain version [] answers p = tt
parted_plain version (q ∷ qs) [] p = tt
parted_plain version (q ∷ qs) (rs ∷ more) p = short_both (map section (sections version q)) (rs ++ parted version qs more) (sections_plain version q) (short_both rs (parted version qs more) p.0 (parted_plain version qs more p.1))

-- what is written in the place of plain records is plain
pub written_plain : (table : List (List ℤ)) (ws rs : List Record) → length table ≤ MAX_SHARED → AllPlain rs → AllZip (IsWrittenFor table) ws rs → AllPlain ws
written_plain table [] [] few p z = tt
written_plain table (w ∷ ws) (r ∷ rs) few p z = (one z.0, written_plain table ws rs few p.1 z.1)
  where
    name_fits : (t : Bool) → words_fit ((if t then codes "refa" else codes "refb") ∷ []) ≡ true
    name_fits true = refl
    name_fits false = refl

    one : IsWrittenFor table w r → IsPlain w
    one (inl same) = subst IsPlain (sym same) p.0
    one (inr named) = let at = named_at table named.0 r.numbers named.2 in subst IsPlain (sym named.3) (record { words = name_fits (bytes_eq (word_of r) (codes "cuta")); few = omega arith; numbers = (omega (arith, few, at.0), tt) })
written_plain table ws rs few p z = absurd z

pub table_plain : (version : ℕ) (table : List (List ℤ)) → length table ≤ MAX_SHARED → AllByRecursion IsShareable table → AllPlain (table_part version table)
table_plain version table few s = by (version == 2)
  where
    each : (us : List (List ℤ)) → AllByRecursion IsShareable us → AllPlain (map (one_word (codes "vector")) us)
    each [] h = tt
    each (u ∷ us) h = (let l = h.0 in let n = l.narrow in record { words = refl; few = l.most; numbers = all_narrow u n }, each us h.1)

    by : (t : Bool) → AllPlain (if t then table_records table else [])
    by true = (record { words = refl; few = omega arith; numbers = (omega (arith, few), tt) }, each table s)
    by false = tt
