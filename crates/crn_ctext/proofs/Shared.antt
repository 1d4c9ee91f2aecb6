-- What is written in the place of a record: the record, or for a cut leaf the number of its list in a table.
use Rattle.crn_ctext.proofs.Prelude.{◌≡◌, ◌⊎◌, ◌≤◌, ◌++◌, ◌∙◌, ℕ, zero, suc, Bool, true, false, cond, if◌then◌else◌, List, [], ◌∷◌, length, map, refl, sym, ap, ap₂, subst, inl, inr, arith, ℤ, slice_index_or, AllByRecursion, AllZip, filter, list_any, bytes_eq, cases_Bool, bytes_eq-Decides, IsIn, any_true, Record, Says, record_text, is_cut_leaf, cut_lists, IsNamed, IsShareable, leaf_written, first_leaf, later_leaves, written}
use Rattle.crn_ctext.proofs.Texts.{AreShort}

-- the versions: the first has no shared lists
abbrev pub IsVersion : ℕ → List (List ℤ) → Type 0
IsVersion version table = ((version ≡ 1) × (table ≡ [])) ⊎ (version ≡ 2)

-- this record is written in the place of that one
abbrev pub IsWrittenFor : List (List ℤ) → Record → Record → Type 0
IsWrittenFor table w r = (w ≡ r) ⊎ ((k : ℕ) × (is_cut_leaf r ≡ true) × IsNamed table (suc k) r.numbers × (w ≡ leaf_written (suc k) r))

-- the line says what is written in the place of this record
abbrev pub SaysFor : List (List ℤ) → List ℕ → Record → Type 0
SaysFor table line r = (w : Record) × Says line w × IsWrittenFor table w r

-- the line is the text of what is written in the place of this record, with short numbers
abbrev pub IsTextFor : List (List ℤ) → List ℕ → Record → Type 0
IsTextFor table line r = (w : Record) × (line ≡ record_text w) × AreShort w.numbers × IsWrittenFor table w r

-- ---- lists of a table

-- a list that is named has a place in the table
pub named_at : (table : List (List ℤ)) (k : ℕ) (u : List ℤ) → IsNamed table (suc k) u → (suc k ≤ length table) × (slice_index_or table k [] ≡ u)
named_at [] k u n = absurd n
named_at (t ∷ ts) zero u n = (omega arith, n)
named_at (t ∷ ts) (suc k) u n = let more = named_at ts k u n in (omega (arith, more.0), more.1)

pub at_named : (table : List (List ℤ)) (k : ℕ) → suc k ≤ length table → IsNamed table (suc k) (slice_index_or table k [])
at_named [] k le = absurd (omega (arith, le))
at_named (t ∷ ts) zero le = refl
at_named (t ∷ ts) (suc k) le = at_named ts k (omega (arith, le))

pub named_none : (k : ℕ) (u : List ℤ) (table : List (List ℤ)) → table ≡ [] → IsNamed table (suc k) u → ⊥
named_none k u [] e n = n
named_none k u (t ∷ ts) e n = absurd cc

-- each list of a table may be shared
pub shareable_at : (table : List (List ℤ)) (k : ℕ) → AllByRecursion IsShareable table → suc k ≤ length table → IsShareable (slice_index_or table k [])
shareable_at [] k s le = absurd (omega (arith, le))
shareable_at (t ∷ ts) zero s le = s.0
shareable_at (t ∷ ts) (suc k) s le = shareable_at ts k s.1 (omega (arith, le))

-- ---- words

-- a word of a list, by a test
pub in_by_test : (w : List ℕ) (xs : List (List ℕ)) → list_any (bytes_eq w) xs ≡ true → IsIn w xs
in_by_test w xs e = any_true (bytes_eq w) w (λ x. let is = bytes_eq-Decides w x in (λ hit. sym (is.0 hit), λ same. is.1 (sym same))) xs e

-- ---- what is written for a list of records

abbrev NamedFor : List (List ℤ) → List ℕ → List Record → Type 0
NamedFor table leaf rs = AllZip (IsNamed table) leaf (cut_lists rs)

-- the lists of the cut leaves, by whether the first record is one
abbrev pub lists_by : Bool → Record → List Record → List (List ℤ)
lists_by t r rs = map (λ r. r.numbers) (cond t (r ∷ filter is_cut_leaf rs) (filter is_cut_leaf rs))

abbrev pub written_by : Bool → List ℕ → Record → List Record → List Record
written_by t leaf r rs = if t then leaf_written (first_leaf leaf) r ∷ written (later_leaves leaf) rs else r ∷ written leaf rs

-- what is written by leaves that fit is written for each record
pub shared_written : (table : List (List ℤ)) (leaf : List ℕ) (rs : List Record) → NamedFor table leaf rs → AllZip (IsWrittenFor table) (written leaf rs) rs
shared_written table leaf [] z = tt
shared_written table leaf (r ∷ rs) z = elim (cases_Bool (is_cut_leaf r)) [
  | inl cut ↦ subst (λ (t : Bool). AllZip (IsWrittenFor table) (written_by t leaf r rs) (r ∷ rs)) (sym cut) (by cut (λ ks more. shared_written table ks rs more) leaf (subst (λ (t : Bool). AllZip (IsNamed table) leaf (lists_by t r rs)) cut z))
  | inr none ↦ subst (λ (t : Bool). AllZip (IsWrittenFor table) (written_by t leaf r rs) (r ∷ rs)) (sym none) (inl refl, shared_written table leaf rs (subst (λ (t : Bool). AllZip (IsNamed table) leaf (lists_by t r rs)) none z))
]
  where
    by : is_cut_leaf r ≡ true → ((ks : List ℕ) → NamedFor table ks rs → AllZip (IsWrittenFor table) (written ks rs) rs) → (leaf : List ℕ) → AllZip (IsNamed table) leaf (lists_by true r rs) → AllZip (IsWrittenFor table) (written_by true leaf r rs) (r ∷ rs)
    by cut more [] z = absurd z
    by cut more (zero ∷ ks) z = (inl refl, more ks z.1)
    by cut more (suc k ∷ ks) z = (inr (k, cut, z.0, refl), more ks z.1)

-- the leaves with which these are written in the place of those
abbrev pub HasLeaves : List (List ℤ) → List Record → List Record → Type 0
HasLeaves table ws rs = (leaf : List ℕ) × NamedFor table leaf rs × (ws ≡ written leaf rs)

pub shared_back : (table : List (List ℤ)) (ws rs : List Record) → AllZip (IsWrittenFor table) ws rs → HasLeaves table ws rs
shared_back table [] [] z = ([], tt, refl)
shared_back table (w ∷ ws) (r ∷ rs) z = by (cases_Bool (is_cut_leaf r)) z.0 (shared_back table ws rs z.1)
  where
    -- the leaves that begin with this one
    cut_with : is_cut_leaf r ≡ true → (k : ℕ) (ks : List ℕ) → IsNamed table k r.numbers → w ≡ leaf_written k r → NamedFor table ks rs → ws ≡ written ks rs → HasLeaves table (w ∷ ws) (r ∷ rs)
    cut_with cut k ks n e named more = (
      k ∷ ks,
      subst (λ (t : Bool). AllZip (IsNamed table) (k ∷ ks) (lists_by t r rs)) (sym cut) (n, named),
      subst (λ (t : Bool). w ∷ ws ≡ written_by t (k ∷ ks) r rs) (sym cut) (ap₂ (λ (x : Record) (xs : List Record). x ∷ xs) e more),
    )

    by : (is_cut_leaf r ≡ true) ⊎ (is_cut_leaf r ≡ false) → IsWrittenFor table w r → HasLeaves table ws rs → HasLeaves table (w ∷ ws) (r ∷ rs)
    by (inl cut) (inl e) more = cut_with cut 0 more.0 tt e more.1 more.2
    by (inl cut) (inr named) more = cut_with cut (suc named.0) more.0 named.2 named.3 more.1 more.2
    by (inr none) (inl e) more = (
      more.0,
      subst (λ (t : Bool). AllZip (IsNamed table) more.0 (lists_by t r rs)) (sym none) more.1,
      subst (λ (t : Bool). w ∷ ws ≡ written_by t more.0 r rs) (sym none) (ap₂ (λ (x : Record) (xs : List Record). x ∷ xs) e more.2),
    )
    by (inr none) (inr named) more = absurd (let f : true ≡ false = sym named.1 ∙ none in cc)
shared_back table ws rs z = absurd z

-- ---- lists that are related place by place

-- a list that is related to two lists, one after the other
abbrev pub ZipCuts : {A B : Type 0} → (A → B → Type 0) → List A → List B → List B → Type 0
ZipCuts {A} R ls xs ys = (ks : List A) × (ms : List A) × (ls ≡ ks ++ ms) × AllZip R ks xs × AllZip R ms ys

pub zip_cuts : {A B : Type 0} (R : A → B → Type 0) (ls : List A) (xs ys : List B) → AllZip R ls (xs ++ ys) → ZipCuts R ls xs ys
zip_cuts R ls [] ys z = ([], ls, refl, tt, z)
zip_cuts R [] (x ∷ xs) ys z = absurd z
zip_cuts R (l ∷ ls) (x ∷ xs) ys z = let more = zip_cuts R ls xs ys z.1 in (l ∷ more.0, more.1, ap (λ t. l ∷ t) more.2, (z.0, more.3), more.4)

-- ---- records that are no cut leaves

abbrev pub NoCuts : List Record → Type 0
NoCuts rs = AllByRecursion (λ r. is_cut_leaf r ≡ false) rs

-- nothing else is written in the place of a record that is no cut leaf
pub same_for : (table : List (List ℤ)) (w r : Record) → is_cut_leaf r ≡ false → IsWrittenFor table w r → w ≡ r
same_for table w r none (inl e) = e
same_for table w r none (inr named) = absurd (let f : true ≡ false = sym named.1 ∙ none in cc)

-- their lines are their texts
pub texts_for : (table : List (List ℤ)) (ls : List (List ℕ)) (rs : List Record) → NoCuts rs → AllZip (IsTextFor table) ls rs → (ls ≡ map record_text rs) × AllByRecursion (λ r. AreShort r.numbers) rs
texts_for table [] [] n z = (refl, tt)
texts_for table (l ∷ ls) (r ∷ rs) n z =
    let e = same_for table z.0.0 r n.0 z.0.3 in
    let more = texts_for table ls rs n.1 z.1 in
    (ap₂ (λ (x : List ℕ) (xs : List (List ℕ)). x ∷ xs) (z.0.1 ∙ ap record_text e) more.0, (subst (λ (w : Record). AreShort w.numbers) e z.0.2, more.1))
texts_for table ls rs n z = absurd z

-- ---- texts of all

-- the texts of what is written for each record
pub all_texts : (table : List (List ℤ)) (ws rs : List Record) → AllZip (IsWrittenFor table) ws rs → AllByRecursion (λ w. AreShort w.numbers) ws → AllZip (IsTextFor table) (map record_text ws) rs
all_texts table [] [] z s = tt
all_texts table (w ∷ ws) (r ∷ rs) z s = ((w, refl, s.0, z.0), all_texts table ws rs z.1 s.1)
all_texts table ws rs z s = absurd z

-- a record that is written in its own place is said
pub says_for : (table : List (List ℤ)) (ls : List (List ℕ)) (rs : List Record) → AllZip Says ls rs → AllZip (SaysFor table) ls rs
says_for table [] [] z = tt
says_for table (l ∷ ls) (r ∷ rs) z = ((r, z.0, inl refl), says_for table ls rs z.1)
says_for table ls rs z = absurd z

-- the records that lines say in the place of these
pub said_for : (table : List (List ℤ)) (ls : List (List ℕ)) (rs : List Record) → AllZip (SaysFor table) ls rs → (ws : List Record) × AllZip Says ls ws × AllZip (IsWrittenFor table) ws rs
said_for table [] [] z = ([], tt, tt)
said_for table (l ∷ ls) (r ∷ rs) z = let more = said_for table ls rs z.1 in (z.0.0 ∷ more.0, (z.0.1, more.1), (z.0.2, more.2))
said_for table ls rs z = absurd z
