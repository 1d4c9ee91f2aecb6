-- A line, and a form that is tried on it.
use Rattle.crn_ctext.proofs.Prelude.{◌≡◌, ◌≤◌, ◌<◌, ◌+◌, ◌++◌, ℕ, suc, Bool, true, false, List, [], ◌∷◌, length, take, drop, get_or, refl, sym, ap, ap₂, subst, ◌∙◌, inl, inr, append_assoc, arith, ℤ, pos, slice_index_or, join_with_byte, append-nil, take-append-drop, length-append, length-map, Record, Form, Field, Several, Free, Members, CountAndPart, TwoOf, Turn, ClassWide, Takes, AreOf, Says, IsWord, BeginsWith, kind_of, field_most, most_of, text_of, spaced, SaysNumbers, IsTail, IsForm, later, fields_of, SaysAfter, FitFields, IsFit, IsTried, IsNotShaped, IsSomeShaped, GivenForm, Fit, Word, eqb_tells}
use Rattle.std.specs.Prelude.{◌==◌, if◌then◌else◌}
use Rattle.std.proofs.lemmas.Grind.{flat_map-append}
use Rattle.crn_ctext.specs.Records.{FreeSeveral}
use Rattle.crn_ctext.specs.declared.record_shape.Fit.TheVariants as fit
use Rattle.crn_ctext.specs.declared.record_try.Tried.TheVariants as tried
use Rattle.crn_ctext.specs.declared.word.Word.TheVariants as word
use Rattle.crn_ctext.proofs.LineNumbers.{begins_tail, tail_begins}
use Rattle.crn_ctext.proofs.LineCame.{spaced_tail, numbers_one}

-- ---- what is after

take_first : (first rest : List ℕ) → take (length first) (first ++ rest) ≡ first
take_first [] rest = refl
take_first (x ∷ first) rest = ap (λ t. x ∷ t) (take_first first rest)

pub other_first : (bytes first : List ℕ) → (take (length first) bytes ≡ first → ⊥) → (rest : List ℕ) → bytes ≡ first ++ rest → ⊥
other_first bytes first none rest e = none (ap (take (length first)) e ∙ take_first first rest)

pub is_after : (bytes first rest : List ℕ) → take (length first) bytes ≡ first → rest ≡ drop (length first) bytes → bytes ≡ first ++ rest
is_after bytes first rest e is = sym (take-append-drop (length first) bytes) ∙ ap₂ (λ s t. s ++ t) e (sym is)

pub empty_tail : (rest : List ℕ) → length rest ≡ 0 → IsTail rest
empty_tail [] e = inl refl
empty_tail (x ∷ rest) e = absurd (omega (arith, e))

pub space_tail : (rest : List ℕ) → 0 < length rest → get_or rest 0 0 ≡ 32 → IsTail rest
space_tail [] lt e = absurd (omega (arith, lt))
space_tail (x ∷ rest) lt e = inr (rest, ap (λ b. b ∷ rest) e)

pub after_one : (first s t : List ℕ) → first ++ s ≡ first ++ t → s ≡ t
after_one [] s t e = e
after_one (x ∷ first) s t e = after_one first s t cc

-- ---- how many numbers

pub takes_few : (field : Field) (zs : List ℤ) → Takes field zs → length zs ≤ field_most field
takes_few (Several fewest most least greatest) zs t = t.1
takes_few (Free count) zs t = omega (arith, t)
takes_few (FreeSeveral fewest most) zs t = t.1
takes_few (Members count members) zs t = let n : length zs ≡ length t.0 = ap length t.1 ∙ length-map t.0 pos in omega (arith, n, t.2)
takes_few (CountAndPart greatest) zs t = let n : length zs ≡ 2 = ap length t.2 in omega (arith, n)
takes_few (TwoOf greatest) zs t = let n : length zs ≡ 2 = ap length t.2 in omega (arith, n)
takes_few Turn zs (inl e) = let n : length zs ≡ 1 = ap length e in omega (arith, n)
takes_few Turn zs (inr e) = let n : length zs ≡ 1 = ap length e in omega (arith, n)
takes_few (ClassWide species reactions) zs t = let n : length zs ≡ length t.2 + 2 = ap length t.3 ∙ two (pos (suc t.0)) (pos t.1) t.2 in omega (arith, n, t.7)
  where
    two : (x y : ℤ) (zs : List ℤ) → length (x ∷ y ∷ zs) ≡ length zs + 2
    two x y zs = omega arith
takes_few field zs t = omega (arith, t.0)

pub are_few : (fields : List Field) (zs : List ℤ) → AreOf Takes fields zs → length zs ≤ most_of fields
are_few [] zs t = let n : length zs ≡ 0 = ap length t in omega (arith, n)
are_few (field ∷ fields) zs t =
    let n : length zs ≡ length t.0 + length t.1 = ap length t.2 ∙ length-append t.0 t.1 in
    omega (arith, n, takes_few field t.0 t.3, are_few fields t.1 t.4)

-- ---- fits

pub only_numbers : (bytes : List ℕ) (ys zs : List ℤ) → SaysNumbers bytes ys → SaysNumbers bytes zs → ys ≡ zs
only_numbers bytes ys zs h s = numbers_one h.0 bytes ys zs h.1 h.2 s

-- what is said of one text is said of the other
fit_moved : (f : Fit) (fields : List Field) (place : ℕ) (Said Shown : List ℤ → Type 0) (read : List ℤ) → ((zs : List ℤ) → Said zs → Shown zs) → ((zs : List ℤ) → Shown zs → Said zs) → IsFit f fields place Said read → IsFit f fields place Shown read
fit_moved fit.Misfit fields place Said Shown read on back h = λ zs s. h zs (back zs s)
fit_moved fit.TooWide fields place Said Shown read on back h = ((h.0.0, on h.0.0 h.0.1, h.0.2), λ zs s. h.1 zs (back zs s))
fit_moved fit.Fits fields place Said Shown read on back h = (h.0, on h.0 h.1, h.2, h.3, h.4)

pub fit_after : (f : Fit) (fields : List Field) (place : ℕ) (bytes first rest : List ℕ) (read : List ℤ) → bytes ≡ first ++ rest → IsFit f fields place (SaysNumbers rest) read → IsFit f fields place (SaysAfter first bytes) read
fit_after f fields place bytes first rest read e h = fit_moved f fields place (SaysNumbers rest) (SaysAfter first bytes) read
    (λ zs s. (rest, e, s)) (λ zs s. subst (λ t. SaysNumbers t zs) (after_one first s.0 rest (sym s.1 ∙ e)) s.2) h

pub misfit_after : (fields : List Field) (bytes first : List ℕ) → ((rest : List ℕ) → IsTail rest → bytes ≡ first ++ rest → ⊥) → (zs : List ℤ) → SaysAfter first bytes zs → AreOf Takes fields zs → ⊥
misfit_after fields bytes first none zs s t = let h = s.2 in none s.0 (subst IsTail (sym h.2) (spaced_tail h.0)) s.1

-- ---- records

pub join_spaced : (w : List ℕ) (ts : List (List ℕ)) → join_with_byte 32 (w ∷ ts) ≡ w ++ spaced ts
join_spaced w [] = sym (append-nil w)
join_spaced w (t ∷ ts) = ap (λ s. w ++ (32 ∷ s)) (join_spaced t ts)

spaced_both : (v w : List (List ℕ)) → spaced (v ++ w) ≡ spaced v ++ spaced w
spaced_both v w = flat_map-append (λ t. 32 ∷ t) v w

-- what the line says by the form's words
abbrev SaidBy : GivenForm → List ℕ → List ℤ → Type 0
SaidBy f line zs = SaysAfter (text_of f.word ++ f.words.now) line zs

-- a record of the form's words is said by it
said : (f : GivenForm) (form : Form) (line : List ℕ) (r : Record) → IsForm f form → Says line r → r.words ≡ form.words → SaidBy f line r.numbers
said f form line r is h e =
    let words : r.words ≡ text_of f.word ∷ later form.words = e ∙ is.words in
    let all : line ≡ text_of f.word ++ spaced (later form.words ++ h.0) = h.2 ∙ ap (λ (t : List (List ℕ)). join_with_byte 32 (t ++ h.0)) words ∙ join_spaced (text_of f.word) (later form.words ++ h.0) in
    let parts : line ≡ (text_of f.word ++ f.words.now) ++ spaced h.0 =
    all ∙ ap (λ t. text_of f.word ++ t) (spaced_both (later form.words) h.0 ∙ ap (λ t. t ++ spaced h.0) (sym is.others)) ∙ sym (append_assoc (text_of f.word) f.words.now (spaced h.0)) in
    (spaced h.0, parts, (h.0, h.1, refl))

abbrev record_of : Form → List ℤ → Record
record_of form zs = record { words = form.words; numbers = zs }

says : (f : GivenForm) (form : Form) (line : List ℕ) (zs : List ℤ) → IsForm f form → SaidBy f line zs → Says line (record_of form zs)
says f form line zs is s =
    let n = s.2 in
    let parts : line ≡ text_of f.word ++ spaced (later form.words ++ n.0) =
    s.1 ∙ append_assoc (text_of f.word) f.words.now s.0 ∙ ap (λ t. text_of f.word ++ t) (ap₂ (λ x y. x ++ y) is.others n.2 ∙ sym (spaced_both (later form.words) n.0)) in
    (n.0, n.1, parts ∙ sym (ap (λ (t : List (List ℕ)). join_with_byte 32 (t ++ n.0)) is.words ∙ join_spaced (text_of f.word) (later form.words ++ n.0)))

kind_is : (f : GivenForm) (form : Form) → IsForm f form → kind_of form ≡ text_of f.word
kind_is f form is = ap (λ (t : List (List ℕ)). slice_index_or t 0 []) is.words

begins : (f : GivenForm) (form : Form) (line rest : List ℕ) → IsWord (text_of f.word) → IsForm f form → line ≡ text_of f.word ++ rest → IsTail rest → BeginsWith line (kind_of form)
begins f form line rest w is e t = subst (BeginsWith line) (sym (kind_is f form is)) (tail_begins line (text_of f.word) rest w e t)

pub other_word : (f : GivenForm) (form : Form) (line : List ℕ) (read : List ℤ) → IsForm f form → ((rest : List ℕ) → IsTail rest → line ≡ text_of f.word ++ rest → ⊥) → IsTried tried.OtherWord f.place form line read
other_word f form line read is none = (
  (λ word b e. let cut = begins_tail line word b in none cut.0 cut.2 (cut.1 ∙ ap (λ t. t ++ cut.0) (sym e ∙ kind_is f form is))),
  (λ r h s.
      let a = said f form line r is h s.0 in
      let n = a.2 in
      let tail : spaced (later form.words ++ n.0) ≡ f.words.now ++ a.0 = spaced_both (later form.words) n.0 ∙ ap₂ (λ x y. x ++ y) (sym is.others) (sym n.2) in
      none (f.words.now ++ a.0) (subst IsTail tail (spaced_tail (later form.words ++ n.0))) (a.1 ∙ append_assoc (text_of f.word) f.words.now a.0)),
)

said_from : (f : GivenForm) (line rest : List ℕ) (zs : List ℤ) → line ≡ text_of f.word ++ rest → SaysAfter f.words.now rest zs → SaidBy f line zs
said_from f line rest zs e s = (s.0, e ∙ ap (λ t. text_of f.word ++ t) s.1 ∙ sym (append_assoc (text_of f.word) f.words.now s.0), s.2)

said_to : (f : GivenForm) (line rest : List ℕ) (zs : List ℤ) → line ≡ text_of f.word ++ rest → SaidBy f line zs → SaysAfter f.words.now rest zs
said_to f line rest zs e s = (s.0, sym (after_one (text_of f.word) (f.words.now ++ s.0) rest (sym (append_assoc (text_of f.word) f.words.now s.0) ∙ sym s.1 ∙ e)), s.2)

not_shaped : (f : GivenForm) (form : Form) (line rest : List ℕ) → IsForm f form → line ≡ text_of f.word ++ rest → ((zs : List ℤ) → SaysAfter f.words.now rest zs → AreOf Takes (fields_of f.shape) zs → ⊥) → IsNotShaped line form
not_shaped f form line rest is e none r h s = none r.numbers (said_to f line rest r.numbers e (said f form line r is h s.0)) (subst (λ t. AreOf Takes t r.numbers) is.fields s.1)

pub tried_misfit : (f : GivenForm) (form : Form) (line rest : List ℕ) (read : List ℤ) → IsWord (text_of f.word) → IsForm f form → line ≡ text_of f.word ++ rest → IsTail rest
    → IsFit fit.Misfit (fields_of f.shape) f.place (SaysAfter f.words.now rest) read → IsTried tried.Misfit f.place form line read
tried_misfit f form line rest read w is e t h = (begins f form line rest w is e t, not_shaped f form line rest is e h)

some_shaped : (f : GivenForm) (form : Form) (line rest : List ℕ) (zs : List ℤ) → IsForm f form → line ≡ text_of f.word ++ rest → SaysAfter f.words.now rest zs → AreOf Takes (fields_of f.shape) zs → IsSomeShaped line form
some_shaped f form line rest zs is e s t = (record_of form zs, says f form line zs is (said_from f line rest zs e s), (refl, subst (λ k. AreOf Takes k zs) (sym is.fields) t))

pub tried_wide : (f : GivenForm) (form : Form) (line rest : List ℕ) (read : List ℤ) → IsWord (text_of f.word) → IsForm f form → line ≡ text_of f.word ++ rest → IsTail rest
    → IsFit fit.TooWide (fields_of f.shape) f.place (SaysAfter f.words.now rest) read → IsTried tried.TooWide f.place form line read
tried_wide f form line rest read w is e t h = (
  begins f form line rest w is e t,
  some_shaped f form line rest h.0.0 is e h.0.1 h.0.2,
  (λ r s k. h.1 r.numbers (said_to f line rest r.numbers e (said f form line r is s k.0)) (subst (λ fs. FitFields fs r.numbers) is.fields k.1)),
)

pub tried_fits : (f : GivenForm) (form : Form) (line rest : List ℕ) (read : List ℤ) → IsWord (text_of f.word) → IsForm f form → line ≡ text_of f.word ++ rest → IsTail rest
    → IsFit fit.Fits (fields_of f.shape) f.place (SaysAfter f.words.now rest) read → IsTried tried.Fits f.place form line read
unfolding some_shaped
tried_fits f form line rest read w is e t h =
    let shaped = some_shaped f form line rest h.0 is e h.1 h.2 in
    (begins f form line rest w is e t, (record_of form h.0, shaped.1, shaped.2, (refl, subst (λ fs. FitFields fs h.0) (sym is.fields) h.3), h.4))

-- ---- words

plain : List ℕ → Bool
plain [] = true
plain (b ∷ bs) = if b == 32 then false else plain bs

plain_word : (w : List ℕ) → plain w ≡ true → IsWord w
unfolding plain
plain_word [] e = tt
plain_word (b ∷ bs) e = elim (eqb_tells b 32) [
  | inl same ↦ absurd (let h : false ≡ true = rw same.0 at e in cc)
  | inr apart ↦ (apart.1, plain_word bs (rw apart.0 at e))
]

-- no word of a kind has a space
pub kind_word : (k : Word) → IsWord (text_of k)
unfolding plain
kind_word word.Q1 = plain_word (text_of word.Q1) refl
kind_word k = plain_word (text_of k) refl
