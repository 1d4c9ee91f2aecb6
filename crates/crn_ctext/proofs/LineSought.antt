-- All forms that are due, tried on a line: the first test of the line that fails, or the record that it is.
use Rattle.crn_ctext.proofs.Prelude.{◌≡◌, ◌⊎◌, ◌≤◌, ◌<◌, ◌+◌, ◌++◌, ◌∷◌, ◌&&◌, ℕ, zero, suc, Bool, true, false, List, [], length, take, refl, sym, ap, ap₂, subst, ◌∙◌, inl, inr, lit≤, arith, ℤ, not, slice_index_or, cases_Bool, take_more, list_any, bytes_eq, IsIn, KeptInts, in_left, in_right, in_push, and_cases, Question, Q13, Record, Form, Field, Says, BeginsWith, IsShaped, Fits, Takes, AreOf, kind_of, row_words, tree_words, known_words, Sizes, heads, Gives, FailsFirst, text_of, question_of, forms_of, due_forms, misplaced, is_after, tag_of, MayBeDue, IsExpectable, IsReadAs, IsRefusedBy, IsForm, no_form, tag, FitFields, IsTried, AreTried, IsNotShaped, IsNotFit, worst_of, Due, Expect, GivenForm, Tried, fault_number, WrongOrder}
use Rattle.std.specs.Prelude.{◌==◌}
use Rattle.crn_ctext.specs.Expect.{sizes_of}
use Rattle.crn_ctext.proofs.LinesRead.{word_one}
use Rattle.crn_ctext.proofs.WordsApart.{among_yes}
use Rattle.crn_ctext.specs.declared.expect.Due.TheVariants as due
use Rattle.crn_ctext.specs.declared.record_try.Tried.TheVariants as tried
use Rattle.crn_ctext.proofs.Shared.{in_by_test}

-- ---- members

pub nth_in : (forms : List Form) (i : ℕ) → i < length forms → IsIn (slice_index_or forms i no_form) forms
nth_in [] i lt = absurd (omega (arith, lt))
nth_in (f ∷ forms) zero lt = inl refl
nth_in (f ∷ forms) (suc i) lt = inr (nth_in forms i (omega (arith, lt)))

-- what holds of some forms and of one more
each_push : (P : Form → Type 0) (forms : List Form) (form : Form) → ((f : Form) → IsIn f forms → P f) → P form → (f : Form) → IsIn f (forms ++ form ∷ []) → P f
each_push P forms form all one f i = elim (in_push f forms form i) [ inl h ↦ all f h | inr e ↦ subst P (sym e) one ]

-- ---- forms that were tried

fits_takes : (fields : List Field) (zs : List ℤ) → FitFields fields zs → AreOf Takes fields zs
fits_takes [] zs h = h
fits_takes (f ∷ fields) zs h = (h.0, h.1, h.2, (let p = h.3 in p.0), fits_takes fields h.1 h.4)

not_fit : (line : List ℕ) (form : Form) → IsNotShaped line form → IsNotFit line form
not_fit line form none r s f = none r s (f.0, fits_takes form.fields r.numbers f.1)

pub more_tried : (so_far t : Tried) (place : ℕ) (forms : List Form) (form : Form) (line : List ℕ) (read : List ℤ) → (t ≡ tried.Fits → ⊥) → AreTried so_far forms line → IsTried t place form line read → AreTried (worst_of so_far t) (forms ++ form ∷ []) line
more_tried so_far tried.Fits place forms form line read ne h t = absurd (ne refl)
more_tried tried.Fits t place forms form line read ne h i = absurd h
more_tried tried.OtherWord tried.OtherWord place forms form line read ne h t = each_push (λ f. ((word : List ℕ) → BeginsWith line word → kind_of f ≡ word → ⊥) × IsNotShaped line f) forms form h t
more_tried tried.OtherWord tried.Misfit place forms form line read ne h t =
    ((form, in_right form forms (form ∷ []) (inl refl), t.0), each_push (IsNotShaped line) forms form (λ f i. (h f i).1) t.1)
more_tried tried.OtherWord tried.TooWide place forms form line read ne h t =
    ((form, in_right form forms (form ∷ []) (inl refl), t.0), (form, in_right form forms (form ∷ []) (inl refl), t.1), each_push (IsNotFit line) forms form (λ f i. not_fit line f (h f i).1) t.2)
more_tried tried.Misfit tried.OtherWord place forms form line read ne h t =
    ((h.0.0, in_left h.0.0 forms (form ∷ []) h.0.1, h.0.2), each_push (IsNotShaped line) forms form h.1 t.1)
more_tried tried.Misfit tried.Misfit place forms form line read ne h t =
    ((form, in_right form forms (form ∷ []) (inl refl), t.0), each_push (IsNotShaped line) forms form h.1 t.1)
more_tried tried.Misfit tried.TooWide place forms form line read ne h t =
    ((form, in_right form forms (form ∷ []) (inl refl), t.0), (form, in_right form forms (form ∷ []) (inl refl), t.1), each_push (IsNotFit line) forms form (λ f i. not_fit line f (h.1 f i)) t.2)
more_tried tried.TooWide tried.OtherWord place forms form line read ne h t =
    ((h.0.0, in_left h.0.0 forms (form ∷ []) h.0.1, h.0.2), (h.1.0, in_left h.1.0 forms (form ∷ []) h.1.1, h.1.2), each_push (IsNotFit line) forms form h.2 (not_fit line form t.1))
more_tried tried.TooWide tried.Misfit place forms form line read ne h t =
    ((h.0.0, in_left h.0.0 forms (form ∷ []) h.0.1, h.0.2), (h.1.0, in_left h.1.0 forms (form ∷ []) h.1.1, h.1.2), each_push (IsNotFit line) forms form h.2 (not_fit line form t.1))
more_tried tried.TooWide tried.TooWide place forms form line read ne h t =
    ((form, in_right form forms (form ∷ []) (inl refl), t.0), (form, in_right form forms (form ∷ []) (inl refl), t.1), each_push (IsNotFit line) forms form h.2 t.2)

pub tried_next : (so_far t : Tried) (place : ℕ) (forms : List Form) (i : ℕ) (line : List ℕ) (read : List ℤ) → i < length forms → (t ≡ tried.Fits → ⊥) → AreTried so_far (take i forms) line → IsTried t place (slice_index_or forms i no_form) line read
    → AreTried (worst_of so_far t) (take (i + 1) forms) line
tried_next so_far t place forms i line read lt ne h k = rw (take_more forms i no_form lt) (more_tried so_far t place (take i forms) (slice_index_or forms i no_form) line read ne h k)

-- ---- words that are due

-- known, and no word of a tree
is_ordinary : ℕ → List ℕ → Bool
is_ordinary v w = list_any (bytes_eq w) (known_words v) && not (list_any (bytes_eq w) (tree_words v))

all_ordinary : ℕ → List Form → Bool
all_ordinary v [] = true
all_ordinary v (form ∷ forms) = is_ordinary v (kind_of form) && all_ordinary v forms

abbrev IsOrdinary : ℕ → List ℕ → Type 0
IsOrdinary v w = IsIn w (known_words v) × (IsIn w (tree_words v) → ⊥)

ordinary_is : (v : ℕ) (w : List ℕ) → is_ordinary v w ≡ true → IsOrdinary v w
unfolding is_ordinary
ordinary_is v w e =
    let p = and_cases (list_any (bytes_eq w) (known_words v)) (not (list_any (bytes_eq w) (tree_words v))) e in
    (in_by_test w (known_words v) p.0, λ i. let f : not true ≡ true = subst (λ (t : Bool). not t ≡ true) (among_yes w (tree_words v) i) p.1 in cc)

ordinary_in : (v : ℕ) (forms : List Form) (form : Form) → all_ordinary v forms ≡ true → IsIn form forms → IsOrdinary v (kind_of form)
unfolding all_ordinary
ordinary_in v [] form e i = absurd i
ordinary_in v (f ∷ forms) form e (inl same) = subst (λ k. IsOrdinary v (kind_of k)) (sym same) (ordinary_is v (kind_of f) (and_cases (is_ordinary v (kind_of f)) (all_ordinary v forms) e).0)
ordinary_in v (f ∷ forms) form e (inr later) = ordinary_in v forms form (and_cases (is_ordinary v (kind_of f)) (all_ordinary v forms) e).1 later

heads_ordinary_1 : (q : Question) (z : Sizes) → all_ordinary 1 (heads q z) ≡ true
unfolding all_ordinary is_ordinary
heads_ordinary_1 Q13 z = elim z.vector as (λ t. all_ordinary 1 (heads Q13 (record z { vector = t })) ≡ true) [ true ↦ refl | false ↦ refl ]
heads_ordinary_1 q z = refl

heads_ordinary_2 : (q : Question) (z : Sizes) → all_ordinary 2 (heads q z) ≡ true
unfolding all_ordinary is_ordinary
heads_ordinary_2 Q13 z = elim z.vector as (λ t. all_ordinary 2 (heads Q13 (record z { vector = t })) ≡ true) [ true ↦ refl | false ↦ refl ]
heads_ordinary_2 q z = refl

-- the words of rows
rows_ordinary : ℕ → List (List ℕ) → Bool
rows_ordinary v [] = true
rows_ordinary v (w ∷ ws) = is_ordinary v w && rows_ordinary v ws

row_in : (v : ℕ) (ws : List (List ℕ)) (w : List ℕ) → rows_ordinary v ws ≡ true → IsIn w ws → IsOrdinary v w
unfolding rows_ordinary
row_in v [] w e i = absurd i
row_in v (x ∷ ws) w e (inl same) = subst (IsOrdinary v) (sym same) (ordinary_is v x (and_cases (is_ordinary v x) (rows_ordinary v ws) e).0)
row_in v (x ∷ ws) w e (inr later) = row_in v ws w (and_cases (is_ordinary v x) (rows_ordinary v ws) e).1 later

rows_1 : rows_ordinary 1 row_words ≡ true
unfolding rows_ordinary is_ordinary
rows_1 = refl

rows_2 : rows_ordinary 2 row_words ≡ true
unfolding rows_ordinary is_ordinary
rows_2 = refl

one_form : (P : Form → Type 0) (form f : Form) → P form → IsIn f (form ∷ []) → P f
one_form P form f p (inl e) = subst P (sym e) p
one_form P form f p (inr i) = absurd i

all_known : ℕ → List Form → Bool
all_known v [] = true
all_known v (form ∷ forms) = list_any (bytes_eq (kind_of form)) (known_words v) && all_known v forms

known_in : (v : ℕ) (forms : List Form) (form : Form) → all_known v forms ≡ true → IsIn form forms → IsIn (kind_of form) (known_words v)
unfolding all_known
known_in v [] form e i = absurd i
known_in v (f ∷ forms) form e (inl same) = subst (λ k. IsIn (kind_of k) (known_words v)) (sym same) (in_by_test (kind_of f) (known_words v) (and_cases (list_any (bytes_eq (kind_of f)) (known_words v)) (all_known v forms) e).0)
known_in v (f ∷ forms) form e (inr later) = known_in v forms form (and_cases (list_any (bytes_eq (kind_of f)) (known_words v)) (all_known v forms) e).1 later

-- a form that is due may be there: its word is known, and no word of a tree after one
abbrev MayBe : Due → ℕ → Bool → List ℕ → Type 0
MayBe d v b w = IsIn w (known_words v) × (is_after d b ≡ true → IsIn w (tree_words v) → ⊥)

due_1 : (d : Due) (b : Bool) (z : Sizes) → MayBeDue d 1 → (form : Form) → IsIn form (due_forms d 1 z) → MayBe d 1 b (kind_of form)
unfolding all_ordinary is_ordinary all_known
due_1 (due.Head k) b z m form i = let o = ordinary_in 1 (heads (question_of k) z) form (heads_ordinary_1 (question_of k) z) i in (o.0, λ e. o.1)
due_1 (due.Part word count least greatest) b z m form i = let o = row_in 1 row_words (text_of word) rows_1 m.0 in one_form (λ f. MayBe (due.Part word count least greatest) 1 b (kind_of f)) (slice_index_or (due_forms (due.Part word count least greatest) 1 z) 0 no_form) form (o.0, λ e. o.1) i
due_1 (due.Node count_a count_b shared) b z m form i = (known_in 1 (due_forms (due.Node count_a count_b shared) 1 z) form refl i, λ e. absurd cc)
due_1 (due.Section k) b z m form i = absurd (omega (arith, m.0))
due_1 due.Table b z m form i = absurd (omega (arith, m))
due_1 due.Vector b z m form i = absurd (omega (arith, m))
due_1 d b z m form i = let o = ordinary_in 1 (due_forms d 1 z) form refl i in (o.0, λ e. o.1)

due_2 : (d : Due) (b : Bool) (z : Sizes) → MayBeDue d 2 → (form : Form) → IsIn form (due_forms d 2 z) → MayBe d 2 b (kind_of form)
unfolding all_ordinary is_ordinary all_known
due_2 (due.Head k) b z m form i = let o = ordinary_in 2 (heads (question_of k) z) form (heads_ordinary_2 (question_of k) z) i in (o.0, λ e. o.1)
due_2 (due.Part word count least greatest) b z m form i = let o = row_in 2 row_words (text_of word) rows_2 m.0 in one_form (λ f. MayBe (due.Part word count least greatest) 2 b (kind_of f)) (slice_index_or (due_forms (due.Part word count least greatest) 2 z) 0 no_form) form (o.0, λ e. o.1) i
due_2 (due.Node count_a count_b shared) b z m form i = (known_in 2 (due_forms (due.Node count_a count_b shared) 2 z) form refl i, λ e. absurd cc)
due_2 d b z m form i = let o = ordinary_in 2 (due_forms d 2 z) form refl i in (o.0, λ e. o.1)

may_be : (d : Due) (v : ℕ) (b : Bool) (z : Sizes) → (v ≡ 1) ⊎ (v ≡ 2) → MayBeDue d v → (form : Form) → IsIn form (due_forms d v z) → MayBe d v b (kind_of form)
may_be d v b z (inl one) m form i = subst (λ k. MayBe d k b (kind_of form)) (sym one) (due_1 d b z (subst (MayBeDue d) one m) form (subst (λ k. IsIn form (due_forms d k z)) one i))
may_be d v b z (inr two) m form i = subst (λ k. MayBe d k b (kind_of form)) (sym two) (due_2 d b z (subst (MayBeDue d) two m) form (subst (λ k. IsIn form (due_forms d k z)) two i))

pub due_may_be : (e : Expect) → IsExpectable e → (form : Form) → IsIn form (forms_of e) → MayBe e.due e.version e.after_tree (kind_of form)
due_may_be e x form i = may_be e.due e.version e.after_tree (sizes_of e.sizes) x.version x.due form i

-- ---- how many forms

heads_few : (q : Question) (z : Sizes) → length (heads q z) ≤ 7
heads_few Q13 z = elim z.vector as (λ t. length (heads Q13 (record z { vector = t })) ≤ 7) [ true ↦ lit≤ tt | false ↦ lit≤ tt ]
heads_few q z = lit≤ tt

due_few : (d : Due) (v : ℕ) (z : Sizes) → length (due_forms d v z) ≤ 7
due_few (due.Head k) v z = heads_few (question_of k) z
due_few (due.Node a b s) v z = elim (cases_Bool (v == 2)) [ inl two ↦ rw two (lit≤ tt) | inr one ↦ rw one (lit≤ tt) ]
due_few d v z = lit≤ tt

pub forms_few : (e : Expect) → length (forms_of e) ≤ 7
forms_few e = due_few e.due e.version (sizes_of e.sizes)

-- ---- what the tests give

pub read_as : (e : Expect) (line : List ℕ) (f : GivenForm) (form : Form) (read : List ℤ) → IsExpectable e → IsIn form (forms_of e) → IsForm f form
    → ((r : Record) → r.words ≡ form.words → tag_of e.due (sizes_of e.sizes) r ≡ tag f.place) → IsTried tried.Fits f.place form line read → IsReadAs e line f.word read
unfolding Gives
read_as e line f form read x i is tags t =
    let may = due_may_be e x form i in
    let r = t.1.0 in
    let said : Says line r = t.1.1 in
    let shaped : IsShaped form r = t.1.2 in
    let fits : Fits form r = t.1.3 in record {
      said = r;
      gives = λ n at. (kind_of form, (t.0, may.0), (tt, may.1, (tt, (form, i, refl), (tt, (form, r, i, said, shaped), (r, (said, (form, i, fits)), (refl, refl))))));
      kind = ap (λ (ws : List (List ℕ)). slice_index_or ws 0 []) (shaped.0 ∙ is.words);
      numbers = t.1.4 ∙ ap (λ (zs : List ℤ). zs ++ r.numbers) (sym (tags r shaped.0));
    }

pub refused_misfit : (e : Expect) (line : List ℕ) → IsExpectable e → AreTried tried.Misfit (forms_of e) line → IsRefusedBy e line 24
unfolding FailsFirst
refused_misfit e line x h =
    let form = h.0.0 in
    let may = due_may_be e x form h.0.1 in record {
      fails = λ n at. inr (kind_of form, (h.0.2, may.0), inr (tt, may.1, inr (tt, (form, h.0.1, refl), inl (refl, refl, λ u w. h.1 w.0 w.2 w.1 w.3 w.4))));
    }

pub refused_wide : (e : Expect) (line : List ℕ) → IsExpectable e → AreTried tried.TooWide (forms_of e) line → IsRefusedBy e line 25
unfolding FailsFirst
refused_wide e line x h =
    let form = h.0.0 in
    let may = due_may_be e x form h.0.1 in
    let shaped = h.1.2 in record {
      fails = λ n at. inr (kind_of form, (h.0.2, may.0), inr (tt, may.1, inr (tt, (form, h.0.1, refl), inr (tt, (h.1.0, shaped.0, h.1.1, shaped.1, shaped.2), inl (refl, refl, λ r w. h.2 w.1.0 w.1.1 r w.0 w.1.2)))));
    }

pub refused_unknown : (e : Expect) (line word : List ℕ) → IsExpectable e → BeginsWith line word → (IsIn word (known_words e.version) → ⊥) → IsRefusedBy e line 23
unfolding FailsFirst
refused_unknown e line word x b none = record {
  fails = λ n at. inl (refl, refl, λ other h. none (subst (λ t. IsIn t (known_words e.version)) (word_one line other word h.0 b) h.1));
}

pub refused_tree : (e : Expect) (line word : List ℕ) → IsExpectable e → BeginsWith line word → IsIn word (known_words e.version) → is_after e.due e.after_tree ≡ true → IsIn word (tree_words e.version) → IsRefusedBy e line 44
unfolding FailsFirst
refused_tree e line word x b known up tree = record {
  fails = λ n at. inr (word, (b, known), inl (refl, refl, λ u f. f up tree));
}

pub refused_misplaced : (e : Expect) (line word : List ℕ) → IsExpectable e → BeginsWith line word → IsIn word (known_words e.version) → (is_after e.due e.after_tree ≡ true → IsIn word (tree_words e.version) → ⊥)
    → AreTried tried.OtherWord (forms_of e) line → IsRefusedBy e line (fault_number (misplaced e.due))
unfolding FailsFirst
refused_misplaced e line word x b known none h = record {
  fails = λ n at. inr (word, (b, known), inr (tt, none, inl (refl, refl, λ u f. (h f.0 f.1).0 word b f.2)));
}

abbrev kept : List ℤ → ℕ → KeptInts
kept xs n = record { list = xs; spare = n }

pub same_kept : (a b : KeptInts) → a.list ≡ b.list → a.spare ≡ b.spare → a ≡ b
same_kept a b l s = ap₂ (λ (xs : List ℤ) (n : ℕ). kept xs n) l s

-- what is no node
pub no_node : (d : Due) → ((a b s : ℕ) → d ≡ due.Node a b s → ⊥) → (misplaced d ≡ WrongOrder) × ((b : Bool) → is_after d b ≡ b)
no_node (due.Node a b s) none = absurd (none a b s refl)
no_node d none = (refl, λ b. refl)

pub refused_kept : (e : Expect) (line : List ℕ) (code : ℕ) (old new : KeptInts) → IsRefusedBy e line code → old.list ≡ [] → new.list ≡ [] → new.spare + length new.list ≡ old.spare → IsRefusedBy e line code × (new ≡ old)
refused_kept e line code old new r a b s = (r, same_kept new old (b ∙ sym a) (let none : length new.list ≡ 0 = ap length b in omega (arith, none, s)))
