-- Lines that are splits, or name shared lists.
use Rattle.crn_document.proofs.Prelude.{◌≡◌, ◌≤◌, ◌<◌, ◌^◌, ◌++◌, ℕ, List, [], ◌∷◌, inl, inr, false, refl, sym, ap, subst, arith, pos, codes, decimal, ints, IsIn, Place, in_right, Record, AreBetween, BeginsWith, Fits, IsShaped, Says, record_text, head_words, row_words, known_words, node_forms, record_form, small_form, tree_words, Gives, reads, IsReadAs, due_forms, is_after, misplaced, tag_of, Due, Expect, AreShort, split_known, text_says, HasNodeDue, NamesTo, TreeEndsEarly}
use Rattle.crn_ctext.specs.Expect.{sizes_of, tests_of}
use Rattle.crn_ctext.specs.declared.expect.Due.TheVariants as due_kinds
use Rattle.crn_ctext.specs.declared.word.Word.TheVariants as words

-- ---- the record

abbrev named : List ℕ → ℕ → Record
named word place = record { words = word ∷ []; numbers = pos place ∷ [] }

-- the known words after those of heads, and after those of rows
abbrev after_rows : List (List ℕ)
after_rows = tree_words 2 ++ codes "end" ∷ codes "vectors" ∷ codes "vector" ∷ codes "section" ∷ []

known_a : IsIn (codes "refa") (known_words 2)
known_a =
    let of_tree : IsIn (codes "refa") after_rows = inr (inr (inr (inr (inl refl)))) in
    in_right (codes "refa") head_words (row_words ++ after_rows) (in_right (codes "refa") row_words after_rows of_tree)

known_b : IsIn (codes "refb") (known_words 2)
known_b =
    let of_tree : IsIn (codes "refb") after_rows = inr (inr (inr (inr (inr (inl refl))))) in
    in_right (codes "refb") head_words (row_words ++ after_rows) (in_right (codes "refb") row_words after_rows of_tree)

short : (place : ℕ) → place < 2 ^ 32 → AreShort (pos place ∷ [])
short place lt = (omega (arith, lt), tt)

between : (place k : ℕ) → 1 ≤ place → place ≤ k → AreBetween (pos 1) (pos k) (pos place ∷ [])
between place k low high = ((omega (arith, ints, low), omega (arith, ints, high)), tt)

-- ---- all tests of its line hold

gives_a : (n a b k place : ℕ) (at : Place) → 1 ≤ place → place ≤ k → place < 2 ^ 32 → Gives (reads 2 n false (node_forms 2 a b k) TreeEndsEarly (record_text (named (codes "refa") place))) at (named (codes "refa") place) at
unfolding Gives
gives_a n a b k place at low high lt =
    let r = named (codes "refa") place in
    let says : Says (record_text r) r = text_says r (short place lt) in
    let form = small_form (codes "refa") 1 1 k in
    let is : IsIn form (node_forms 2 a b k) = inr (inr (inr (inr (inl refl)))) in
    let all = between place k low high in
    let shaped : IsShaped form r = (refl, (pos place ∷ [], [], refl, (refl, all), refl)) in
    let fits : Fits form r = (refl, (pos place ∷ [], [], refl, ((refl, all), tt), refl)) in
    let begins : BeginsWith (record_text r) (codes "refa") = (((λ e. absurd (omega (arith, e))), ((λ e. absurd (omega (arith, e))), ((λ e. absurd (omega (arith, e))), ((λ e. absurd (omega (arith, e))), tt)))), inr (decimal place, refl)) in
    (codes "refa", (begins, known_a), (tt, (λ e. absurd cc), (tt, (form, is, refl), (tt, (form, r, is, says, shaped), (r, (says, (form, is, fits)), (refl, refl))))))

gives_b : (n a b k place : ℕ) (at : Place) → 1 ≤ place → place ≤ k → place < 2 ^ 32 → Gives (reads 2 n false (node_forms 2 a b k) TreeEndsEarly (record_text (named (codes "refb") place))) at (named (codes "refb") place) at
unfolding Gives
gives_b n a b k place at low high lt =
    let r = named (codes "refb") place in
    let says : Says (record_text r) r = text_says r (short place lt) in
    let form = small_form (codes "refb") 1 1 k in
    let is : IsIn form (node_forms 2 a b k) = inr (inr (inr (inr (inr (inl refl))))) in
    let all = between place k low high in
    let shaped : IsShaped form r = (refl, (pos place ∷ [], [], refl, (refl, all), refl)) in
    let fits : Fits form r = (refl, (pos place ∷ [], [], refl, ((refl, all), tt), refl)) in
    let begins : BeginsWith (record_text r) (codes "refb") = (((λ e. absurd (omega (arith, e))), ((λ e. absurd (omega (arith, e))), ((λ e. absurd (omega (arith, e))), ((λ e. absurd (omega (arith, e))), tt)))), inr (decimal place, refl)) in
    (codes "refb", (begins, known_b), (tt, (λ e. absurd cc), (tt, (form, is, refl), (tt, (form, r, is, says, shaped), (r, (says, (form, is, fits)), (refl, refl))))))

-- what is read at a node of version 2
at_node : (e : Expect) (n a b k : ℕ) (line : List ℕ) (r : Record) (at : Place) → e.version ≡ 2 → e.due ≡ due_kinds.Node a b k → Gives (reads 2 n false (node_forms 2 a b k) TreeEndsEarly line) at r at → Gives (tests_of e n line) at r at
at_node e n a b k line r at v d g =
    subst (λ (x : Due). Gives (reads e.version n (is_after x e.after_tree) (due_forms x e.version (sizes_of e.sizes)) (misplaced x) line) at r at) (sym d)
    (subst (λ (m : ℕ). Gives (reads m n false (node_forms m a b k) TreeEndsEarly line) at r at) (sym v) g)

pub reads_a : (e : Expect) (k place : ℕ) (line : List ℕ) → NamesTo e k → 1 ≤ place → place ≤ k → place < 2 ^ 32 → line ≡ codes "refa " ++ decimal place → IsReadAs e line words.RefA (pos place ∷ [])
reads_a e k place line h low high lt same = record {
  said = named (codes "refa") place;
  gives = λ n at. subst (λ (l : List ℕ). Gives (tests_of e n l) at (named (codes "refa") place) at) (sym same) (at_node e n h.a h.b k (record_text (named (codes "refa") place)) (named (codes "refa") place) at h.second h.due (gives_a n h.a h.b k place at low high lt));
  kind = refl;
  numbers = ap (λ (x : Due). tag_of x (sizes_of e.sizes) (named (codes "refa") place) ++ pos place ∷ []) (sym h.due);
}

pub reads_b : (e : Expect) (k place : ℕ) (line : List ℕ) → NamesTo e k → 1 ≤ place → place ≤ k → place < 2 ^ 32 → line ≡ codes "refb " ++ decimal place → IsReadAs e line words.RefB (pos place ∷ [])
reads_b e k place line h low high lt same = record {
  said = named (codes "refb") place;
  gives = λ n at. subst (λ (l : List ℕ). Gives (tests_of e n l) at (named (codes "refb") place) at) (sym same) (at_node e n h.a h.b k (record_text (named (codes "refb") place)) (named (codes "refb") place) at h.second h.due (gives_b n h.a h.b k place at low high lt));
  kind = refl;
  numbers = ap (λ (x : Due). tag_of x (sizes_of e.sizes) (named (codes "refb") place) ++ pos place ∷ []) (sym h.due);
}

-- ---- splits

abbrev split_record : Record
split_record = record { words = codes "split" ∷ []; numbers = [] }

gives_split : (v n a b k : ℕ) (at : Place) → Gives (reads v n false (node_forms v a b k) TreeEndsEarly (codes "split")) at split_record at
unfolding Gives
gives_split v n a b k at =
    let says : Says (codes "split") split_record = text_says split_record tt in
    let form = record_form (codes "split") [] in
    let is : IsIn form (node_forms v a b k) = inl refl in
    let shaped : IsShaped form split_record = (refl, refl) in
    let fits : Fits form split_record = (refl, refl) in
    let begins : BeginsWith (codes "split") (codes "split") = (((λ e. absurd (omega (arith, e))), ((λ e. absurd (omega (arith, e))), ((λ e. absurd (omega (arith, e))), ((λ e. absurd (omega (arith, e))), ((λ e. absurd (omega (arith, e))), tt))))), inl refl) in
    (codes "split", (begins, split_known v), (tt, (λ e. absurd cc), (tt, (form, is, refl), (tt, (form, split_record, is, says, shaped), (split_record, (says, (form, is, fits)), (refl, refl))))))

pub reads_split : (e : Expect) (k : ℕ) (line : List ℕ) → HasNodeDue e k → line ≡ codes "split" → IsReadAs e line words.Split []
reads_split e k line h same = record {
  said = split_record;
  gives = λ n at. subst (λ (l : List ℕ). Gives (tests_of e n l) at split_record at) (sym same)
      (subst (λ (x : Due). Gives (reads e.version n (is_after x e.after_tree) (due_forms x e.version (sizes_of e.sizes)) (misplaced x) (codes "split")) at split_record at) (sym h.due) (gives_split e.version n h.a h.b k at));
  kind = refl;
  numbers = ap (λ (x : Due). tag_of x (sizes_of e.sizes) split_record ++ []) (sym h.due);
}
