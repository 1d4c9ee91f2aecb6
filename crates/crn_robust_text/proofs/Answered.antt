-- The lines of a document on robustness are those of the formed answers whose tests hold.
use Rattle.crn_robust_text.proofs.Prelude.{◌≡◌, ◌≢◌, ◌≤◌, ◌+◌, ◌++◌, ℕ, Bool, true, false, List, [], ◌∷◌, length, map, refl, sym, ap, subst, ◌∙◌, inl, inr, arith, ℤ, pos, codes, AllByRecursion, list_any, bytes_eq, ints, map-append, IsIn, Net, IsNetwork, eq_or, zip_append, Verdict, Unknown, Earlier, Q5, IsOpen, on, rank_of, IsLeft, Record, Form, Says, Fits, kind_of, record_text, small, record_form, small_form, Course, Give, ◌>>=◌, test_own, IsWrittenBy, AfterBlocks, asks_blocks, either, IsOneOf, first_number, small_record, Known, meaning, asks_part, AllPlain, IsPlain, IsBounded, FitFields, are_words, HasNoEnd, IsAnswered, all_of, blocks_no_end, blocks_read, blocks_written, fitting_is_plain, formed_are_plain, give_back, give_no_end, in_by_test, meaning_short, IsSmall, networks_are_small, no_end_then, number_back, number_then, part_no_end, plain_is_line, record_is, short_both, small_numbers, test_no_end, written_cuts, written_then, only, bare_back, one_back, bare_row, first_back, Say, one_said, none_said, line_on, test_back, test_on, given, either_no_end, Robust, Yes, Number, None, Rests, rests_on, words, rests_forms, line_forms, case_forms, case_in, IsDeficiencyBy, SaysLineBy, IsCaseBy, is_open, asks_rests, asks_case, before, asks_verdict, asks_robust, part, line_of, verdict_record, case_records, Said, AreInside, IsFormed, IsValid, records, meant, AreBlocks}
use Rattle.crn_robust_text.proofs.TestsTrue.{deficiency_by_one, treeless, blocks_formed, blocks_valid, blocks_answered}

-- ---- an open rank

open_is : (v : Verdict) → is_open v ≡ true → IsOpen v
open_is (Unknown gap) e = tt
open_is v e = absurd cc

pub is_open_by : (v : Verdict) → IsOpen v → is_open v ≡ true
is_open_by (Unknown gap) o = refl
is_open_by v o = absurd o

closed_by : (net : Net) (earlier : Earlier) (d : ℕ) (v : Verdict) → IsLeft net earlier d (rank_of v) → is_open v ≡ false
closed_by net earlier d (Unknown gap) l = absurd l
closed_by net earlier d v l = refl

-- ---- what lines say

-- the lines say a verdict within its ranges, whose tests hold
abbrev IsCaseOf : Net → Earlier → List (List ℕ) → Robust → Type 0
IsCaseOf net earlier ls robust = AreInside net robust × IsCaseBy net earlier robust × Say ls (case_records robust)

rests_back : (net : Net) (earlier : Earlier) (n : ℕ) (ls : List (List ℕ)) (y : ℕ × Robust) → IsOpen (on earlier Q5) → IsWrittenBy (asks_rests n) ls y → IsCaseOf net earlier ls y.1
rests_back net earlier n ls y o h =
    let b = first_back words n rests_forms (λ r. Give (n + 1, Rests)) ls y h in
    let r = bare_back (codes "rests") b.first (only (record_form (codes "rests") []) b.first b.fits) in
    let g = give_back (n + 1, Rests) y b.more b.rest in
    subst (IsCaseOf net earlier ls) (ap (λ (q : ℕ × Robust). q.1) g.0) (tt, o, one_said ls b.more b.line (small_record (codes "rests") []) [] b.are (subst (Says b.line) r b.says) (none_said b.more g.1))

-- the line of a verdict is that of a verdict within its ranges
abbrev pub IsVerdictOf : Net → Record → Type 0
IsVerdictOf net r = AreInside net (case_in r) × (r ≡ verdict_record (case_in r)) × (case_in r ≢ Rests)

yes_of : (net : Net) (r : Record) (s c d : ℕ) → r ≡ small_record (codes "yes") (s ∷ c ∷ d ∷ []) → (1 ≤ s) × (s ≤ length net.names) → (1 ≤ c) × (c ≤ length net.complexes) → (1 ≤ d) × (d ≤ length net.complexes) → IsVerdictOf net r
yes_of net r s c d e p q u = subst (IsVerdictOf net) (sym e) ((p, q, u), refl, λ n. cc)

number_of : (net : Net) (r : Record) (d : ℕ) → r ≡ small_record (codes "number") (d ∷ []) → d ≤ length net.complexes → IsVerdictOf net r
number_of net r d e le = subst (IsVerdictOf net) (sym e) (le, refl, λ n. cc)

none_is : (net : Net) (r : Record) → r ≡ small_record (codes "none") [] → IsVerdictOf net r
none_is net r e = subst (IsVerdictOf net) (sym e) (tt, refl, λ n. cc)

two_numbers : (most : ℕ) (zs : List ℤ) → FitFields (small 2 1 most ∷ []) zs → (c : ℕ) × (d : ℕ) × (zs ≡ pos c ∷ pos d ∷ []) × ((1 ≤ c) × (c ≤ most)) × ((1 ≤ d) × (d ≤ most))
two_numbers most zs f = let n = small_numbers 2 1 most zs f in by n.0 n.1 n.2.long n.2.each
  where
    by : (xs : List ℕ) → zs ≡ map pos xs → length xs ≡ 2 → AllByRecursion (λ x. (1 ≤ x) × (x ≤ most)) xs → (c : ℕ) × (d : ℕ) × (zs ≡ pos c ∷ pos d ∷ []) × ((1 ≤ c) × (c ≤ most)) × ((1 ≤ d) × (d ≤ most))
    by (c ∷ d ∷ []) e l a = (c, d, e, a.0, a.1.0)
    by [] e l a = absurd (omega (arith, l))
    by (c ∷ []) e l a = absurd (omega (arith, l))
    by (c ∷ d ∷ x ∷ xs) e l a = absurd (omega (arith, l))

pub verdict_back : (net : Net) (r : Record) → IsOneOf (case_forms net) r → IsVerdictOf net r
verdict_back net r (form, inl e, f) =
    let fits : Fits (record_form (codes "yes") (small 1 1 (length net.names) ∷ small 2 1 (length net.complexes) ∷ [])) r = subst (λ (x : Form). Fits x r) e f in
    let a = number_back 1 (length net.names) (small 2 1 (length net.complexes) ∷ []) r.numbers fits.1 in
    let b = two_numbers (length net.complexes) a.1 a.4 in
    yes_of net r a.0 b.0 b.1 (record_is r (codes "yes" ∷ []) (pos a.0 ∷ pos b.0 ∷ pos b.1 ∷ []) fits.0 (a.2 ∙ ap (λ (zs : List ℤ). pos a.0 ∷ zs) b.2)) a.3 b.3 b.4
verdict_back net r (form, inr (inl e), f) =
    let k = one_back (codes "number") 0 (length net.complexes) r (subst (λ (x : Form). Fits x r) e f) in
    number_of net r k.0 k.1 k.2.1
verdict_back net r (form, inr (inr (inl e)), f) = none_is net r (bare_back (codes "none") r (subst (λ (x : Form). Fits x r) e f))
verdict_back net r (form, inr (inr (inr none)), f) = absurd none

-- the number of the line is the one that the verdict says
line_by : (net : Net) (earlier : Earlier) (k : ℕ) (robust : Robust) → k ≤ 1 → SaysLineBy net earlier k → IsCaseBy net earlier robust → robust ≢ Rests → k ≡ line_of robust
line_by net earlier k (Yes s c d) le says case ne = says.1 case.0
line_by net earlier k (Number d) le says case ne = elim (eq_or k 1) as (λ _. k ≡ 0) [
  | inl e ↦ absurd (case.1 (deficiency_by_one net earlier d 1 case.0 (says.0 e)))
  | inr other ↦ omega (arith, le, other)
]
line_by net earlier k None le says case ne = says.1 case.0
line_by net earlier k Rests le says case ne = absurd (ne refl)

decided_records : (robust : Robust) → robust ≢ Rests → case_records robust ≡ small_record (codes "line") (line_of robust ∷ []) ∷ verdict_record robust ∷ []
decided_records (Yes s c d) ne = refl
decided_records (Number d) ne = refl
decided_records None ne = refl
decided_records Rests ne = absurd (ne refl)

case_back : (net : Net) (earlier : Earlier) (n : ℕ) (ls : List (List ℕ)) (y : ℕ × Robust) → IsWrittenBy (asks_case net earlier n) ls y → IsCaseOf net earlier ls y.1
case_back net earlier n ls y h =
    let b = first_back words n line_forms (λ b. asks_part words (n + 1) (case_forms net) >>= (λ r. after_case b r)) ls y h in
    let k = one_back (codes "line") 0 1 b.first (only (small_form (codes "line") 1 0 1) b.first b.fits) in
    let c = first_back words (n + 1) (case_forms net) (λ r. after_case b.first r) b.more y b.rest in
    let v = verdict_back net c.first c.fits in
    let robust = case_in c.first in
    let t = test_back n 55 (SaysLineBy net earlier (first_number b.first.numbers)) (λ x. last c.first) c.more y c.rest in
    let u = test_back (n + 1) 56 (IsCaseBy net earlier robust) (λ x. Give (n + 2, robust)) c.more y t.1 in
    let g = give_back (n + 2, robust) y c.more u.1 in
    let says : SaysLineBy net earlier k.0 = subst (λ (r : Record). SaysLineBy net earlier (first_number r.numbers)) k.1 t.0 in
    let same : b.first ≡ small_record (codes "line") (line_of robust ∷ []) = k.1 ∙ ap (λ (j : ℕ). small_record (codes "line") (j ∷ [])) (line_by net earlier k.0 robust k.2.1 says u.0 v.2) in
    let said = one_said ls b.more b.line (small_record (codes "line") (line_of robust ∷ [])) (verdict_record robust ∷ []) b.are (subst (Says b.line) same b.says)
    (one_said b.more c.more c.line (verdict_record robust) [] c.are (subst (Says c.line) v.1 c.says) (none_said c.more g.1)) in
    subst (IsCaseOf net earlier ls) (ap (λ (q : ℕ × Robust). q.1) g.0) (v.0, u.0, subst (Say ls) (sym (decided_records robust v.2)) said)
  where
    last : Record → Course (ℕ × Robust)
    last r = test_own (n + 1) 56 (IsCaseBy net earlier (case_in r)) >>= (λ x. Give (n + 2, case_in r))

    after_case : Record → Record → Course (ℕ × Robust)
    after_case b r = test_own n 55 (SaysLineBy net earlier (first_number b.numbers)) >>= (λ x. last r)

after_back : (net : Net) (after : AfterBlocks Known) (ls : List (List ℕ)) (y : ℕ × Robust) → IsWrittenBy (asks_verdict net after) ls y → IsCaseOf net after.known.earlier ls y.1
after_back net after ls y h = by (is_open (on after.known.earlier Q5)) refl h
  where
    by : (b : Bool) → is_open (on after.known.earlier Q5) ≡ b → IsWrittenBy (either b (asks_rests after.line) (asks_case net after.known.earlier after.line)) ls y → IsCaseOf net after.known.earlier ls y.1
    by true e w = rests_back net after.known.earlier after.line ls y (open_is (on after.known.earlier Q5) e) w
    by false e w = case_back net after.known.earlier after.line ls y w

-- the lines that are read are those of a formed answer whose tests hold
pub lines_back : (net : Net) (n : ℕ) (ls : List (List ℕ)) (y : ℕ × Robust) → IsWrittenBy (asks_robust net n) ls y → (said : Said) × IsFormed net said × IsValid net said × Say ls (records said) × (y.1 ≡ said.robust)
lines_back net n ls y h =
    let a = written_cuts (asks_blocks meaning 1 [] rests_on (before net n)) (λ after. asks_verdict net after) ls y h in
    let b = blocks_read meaning rests_on (before net n) a.0 a.1 treeless a.4 in
    let c = subst (λ (known : Known). IsCaseOf net known.earlier a.2 y.1) b.3 (after_back net a.0 a.2 y a.5) in
    let v = blocks_answered net b.0 b.2 in
    let said : Say ls (all_of b.0 ++ case_records y.1) = subst (λ (t : List (List ℕ)). Say t (all_of b.0 ++ case_records y.1)) (sym a.3) (zip_append Says a.1 (all_of b.0) a.2 (case_records y.1) b.1 c.2) in (
      record { blocks = b.0; robust = y.1 },
      (v.0, c.0),
      (v, c.1),
      said,
      refl,
    )

-- ---- lines of answers

in_words : (word : List ℕ) → list_any (bytes_eq word) words ≡ true → IsIn word words
in_words word e = in_by_test word words e

rests_on_lines : (net : Net) (n : ℕ) → IsWrittenBy (asks_rests n) (map record_text (case_records Rests)) (n + 1, Rests)
rests_on_lines net n = line_on words n rests_forms (record_form (codes "rests") []) (small_record (codes "rests") []) (λ r. Give (n + 1, Rests)) [] (n + 1, Rests) (inl refl) refl (in_words (codes "rests") refl) (bare_row (codes "rests") refl) (refl, refl) (given (n + 1, Rests))

-- a form of the line of a verdict, and its bounds
record IsFormOf (net : Net) (robust : Robust) : Type 0 where
  form : Form
  due : IsIn form (case_forms net)
  named : are_words form.words ≡ true
  known : IsIn (kind_of form) words
  bounds : IsBounded form
  fits : Fits form (verdict_record robust)
  same : case_in (verdict_record robust) ≡ robust

form_of : (net : Net) (robust : Robust) → IsNetwork net → AreInside net robust → robust ≢ Rests → IsFormOf net robust
form_of net (Yes s c d) n i ne = record {
  form = record_form (codes "yes") (small 1 1 (length net.names) ∷ small 2 1 (length net.complexes) ∷ []);
  due = inl refl;
  named = refl;
  known = in_words (codes "yes") refl;
  bounds = record { words = refl; few = omega arith; fields = ((omega arith, omega (arith, n.partial.species_limit)), ((omega arith, omega (arith, n.partial.complexes_limit)), tt)) };
  fits = (refl, number_then 1 (length net.names) s (small 2 1 (length net.complexes) ∷ []) (pos c ∷ pos d ∷ []) i.0.0 i.0.1 (pos c ∷ pos d ∷ [], [], refl, ((refl, ((omega (arith, ints, i.1.0), omega (arith, ints, i.1.1)), ((omega (arith, ints, i.2.0), omega (arith, ints, i.2.1)), tt))), tt), refl));
  same = refl;
}
form_of net (Number d) n i ne = record {
  form = small_form (codes "number") 1 0 (length net.complexes);
  due = inr (inl refl);
  named = refl;
  known = in_words (codes "number") refl;
  bounds = record { words = refl; few = omega arith; fields = ((omega arith, omega (arith, n.partial.complexes_limit)), tt) };
  fits = (refl, number_then 0 (length net.complexes) d [] [] (omega arith) i refl);
  same = refl;
}
form_of net None n i ne = record {
  form = record_form (codes "none") [];
  due = inr (inr (inl refl));
  named = refl;
  known = in_words (codes "none") refl;
  bounds = bare_row (codes "none") refl;
  fits = (refl, refl);
  same = refl;
}
form_of net Rests n i ne = absurd (ne refl)

line_row : IsBounded (small_form (codes "line") 1 0 1)
line_row = record { words = refl; few = omega arith; fields = ((omega arith, omega arith), tt) }

line_fits : (k : ℕ) → k ≤ 1 → Fits (small_form (codes "line") 1 0 1) (small_record (codes "line") (k ∷ []))
line_fits k le = (refl, number_then 0 1 k [] [] (omega arith) le refl)

line_few : (robust : Robust) → line_of robust ≤ 1
line_few (Yes s c d) = omega arith
line_few (Number d) = omega arith
line_few None = omega arith
line_few Rests = omega arith

pub line_said : (net : Net) (earlier : Earlier) (robust : Robust) → IsCaseBy net earlier robust → robust ≢ Rests → SaysLineBy net earlier (line_of robust)
line_said net earlier (Yes s c d) case ne = (λ e. case.0, λ l. refl)
line_said net earlier (Number d) case ne = (λ e. absurd (omega (arith, e)), λ l. absurd (case.1 (deficiency_by_one net earlier d 1 case.0 l)))
line_said net earlier None case ne = (λ e. case.0, λ l. refl)
line_said net earlier Rests case ne = absurd (ne refl)

decided_on : (net : Net) (earlier : Earlier) (n : ℕ) (robust : Robust) → IsNetwork net → AreInside net robust → IsCaseBy net earlier robust → robust ≢ Rests → IsWrittenBy (asks_case net earlier n) (map record_text (case_records robust)) (n + 2, robust)
decided_on net earlier n robust is inside case ne =
    let f = form_of net robust is inside ne in
    let y : ℕ × Robust = (n + 2, robust) in
    let line = small_record (codes "line") (line_of robust ∷ []) in
    let held : IsCaseBy net earlier (case_in (verdict_record robust)) = subst (IsCaseBy net earlier) (sym f.same) case in
    let end : IsWrittenBy (Give (n + 2, case_in (verdict_record robust))) [] y = subst (λ (r : Robust). IsWrittenBy (Give (n + 2, r)) [] y) (sym f.same) (given y) in
    let tests : IsWrittenBy (after_case line (verdict_record robust)) [] y = test_on n 55 (SaysLineBy net earlier (line_of robust)) (λ x. last (verdict_record robust)) [] y (line_said net earlier robust case ne)
    (test_on (n + 1) 56 (IsCaseBy net earlier (case_in (verdict_record robust))) (λ x. Give (n + 2, case_in (verdict_record robust))) [] y held end) in
    let second = line_on words (n + 1) (case_forms net) f.form (verdict_record robust) (λ r. after_case line r) [] y f.due f.named f.known f.bounds f.fits tests in
    let both = line_on words n line_forms (small_form (codes "line") 1 0 1) line (λ b. asks_part words (n + 1) (case_forms net) >>= (λ r. after_case b r)) (record_text (verdict_record robust) ∷ []) y (inl refl) refl (in_words (codes "line") refl) line_row (line_fits (line_of robust) (line_few robust)) second in
    subst (λ (rs : List Record). IsWrittenBy (asks_case net earlier n) (map record_text rs) y) (sym (decided_records robust ne)) both
  where
    last : Record → Course (ℕ × Robust)
    last r = test_own (n + 1) 56 (IsCaseBy net earlier (case_in r)) >>= (λ x. Give (n + 2, case_in r))

    after_case : Record → Record → Course (ℕ × Robust)
    after_case b r = test_own n 55 (SaysLineBy net earlier (first_number b.numbers)) >>= (λ x. last r)

abbrev IsVerdictRead : Net → AfterBlocks Known → Robust → Type 0
IsVerdictRead net after robust = (k : ℕ) × IsWrittenBy (asks_verdict net after) (map record_text (case_records robust)) (k, robust)

after_on : (net : Net) (after : AfterBlocks Known) (robust : Robust) → IsNetwork net → AreInside net robust → IsCaseBy net after.known.earlier robust → IsVerdictRead net after robust
after_on net after robust is inside case = by robust inside case
  where
    rank : Verdict
    rank = on after.known.earlier Q5

    decided : (robust : Robust) (d : ℕ) → AreInside net robust → IsCaseBy net after.known.earlier robust → robust ≢ Rests → IsDeficiencyBy net after.known.earlier d → IsVerdictRead net after robust
    decided robust d inside case ne l = (
      after.line + 2,
      subst (λ (b : Bool). IsWrittenBy (either b (asks_rests after.line) (asks_case net after.known.earlier after.line)) (map record_text (case_records robust)) (after.line + 2, robust)) (sym (closed_by net after.known.earlier d rank l))
          (decided_on net after.known.earlier after.line robust is inside case ne),
    )

    by : (robust : Robust) → AreInside net robust → IsCaseBy net after.known.earlier robust → IsVerdictRead net after robust
    by (Yes s c d) inside case = decided (Yes s c d) 1 inside case (λ e. cc) case.0
    by (Number d) inside case = decided (Number d) d inside case (λ e. cc) case.0
    by None inside case = decided None 1 inside case (λ e. cc) case.0
    by Rests inside case = (
      after.line + 1,
      subst (λ (b : Bool). IsWrittenBy (either b (asks_rests after.line) (asks_case net after.known.earlier after.line)) (map record_text (case_records Rests)) (after.line + 1, Rests)) (sym (is_open_by rank case)) (rests_on_lines net after.line),
    )

-- ---- plain records

all_plain : (blocks : List (List Record)) → AllByRecursion AllPlain blocks → AllPlain (all_of blocks)
all_plain [] p = tt
all_plain (rs ∷ more) p = short_both rs (all_of more) p.0 (all_plain more p.1)

blocks_plain : (net : Net) (blocks : List (List Record)) → IsNetwork net → AreBlocks net blocks → AllByRecursion AllPlain blocks
blocks_plain net blocks n b = let s = meaning_short in formed_are_plain meaning IsSmall rests_on (meaning.start net) blocks (s.0, (s.1.0, (s.1.1.1.1.0, tt))) (networks_are_small net n) (blocks_formed net blocks b)

case_plain : (net : Net) (robust : Robust) → IsNetwork net → AreInside net robust → AllPlain (case_records robust)
case_plain net robust n inside = by robust inside
  where
    decided : (robust : Robust) → AreInside net robust → robust ≢ Rests → AllPlain (case_records robust)
    decided robust inside ne =
        let f = form_of net robust n inside ne in
        let line : IsPlain (small_record (codes "line") (line_of robust ∷ [])) = fitting_is_plain (small_form (codes "line") 1 0 1) (small_record (codes "line") (line_of robust ∷ [])) line_row (line_fits (line_of robust) (line_few robust)) in
        subst AllPlain (sym (decided_records robust ne)) (line, (fitting_is_plain f.form (verdict_record robust) f.bounds f.fits, tt))

    by : (robust : Robust) → AreInside net robust → AllPlain (case_records robust)
    by (Yes s c d) inside = decided (Yes s c d) inside (λ e. cc)
    by (Number d) inside = decided (Number d) inside (λ e. cc)
    by None inside = decided None inside (λ e. cc)
    by Rests inside = (fitting_is_plain (record_form (codes "rests") []) (small_record (codes "rests") []) (bare_row (codes "rests") refl) (refl, refl), tt)

pub records_plain : (net : Net) (said : Said) → IsNetwork net → IsFormed net said → AllPlain (records said)
records_plain net said n f = short_both (all_of said.blocks) (case_records said.robust) (all_plain said.blocks (blocks_plain net said.blocks n f.0)) (case_plain net said.robust n f.1)

-- the lines of a formed answer whose tests hold are read, and its verdict is read of them
pub lines_on : (net : Net) (n : ℕ) (said : Said) → IsNetwork net → IsFormed net said → IsValid net said → (k : ℕ) × IsWrittenBy (asks_robust net n) (map record_text (records said)) (k, said.robust)
lines_on net n said is f v =
    let w = blocks_written meaning rests_on (before net n) said.blocks treeless (blocks_valid net said.blocks v.0.0 v.0.1) (blocks_plain net said.blocks is f.0) in
    let case : IsCaseBy net w.0.known.earlier said.robust = subst (λ (known : Known). IsCaseBy net known.earlier said.robust) (sym w.2) v.1 in
    let a = after_on net w.0 said.robust is f.1 case in
    let texts = map record_text (all_of said.blocks) in
    let more = map record_text (case_records said.robust) in (
      a.0,
      subst (λ (ls : List (List ℕ)). IsWrittenBy (asks_robust net n) ls (a.0, said.robust)) (sym (map-append record_text (all_of said.blocks) (case_records said.robust)))
          (written_then (asks_blocks meaning 1 [] rests_on (before net n)) (λ after. asks_verdict net after) texts more w.0 (a.0, said.robust) (blocks_no_end 1 [] meaning rests_on (before net n)) w.1 a.1),
    )

-- ---- no end within

case_no_end : (net : Net) (earlier : Earlier) (n : ℕ) → HasNoEnd (asks_case net earlier n)
case_no_end net earlier n =
    no_end_then (asks_part words n line_forms) (λ b. asks_part words (n + 1) (case_forms net) >>= (λ r. after_case b r)) (part_no_end words n line_forms) (λ b.
    no_end_then (asks_part words (n + 1) (case_forms net)) (λ r. after_case b r) (part_no_end words (n + 1) (case_forms net)) (λ r.
    test_no_end n 55 (SaysLineBy net earlier (first_number b.numbers)) (λ x. last r) (test_no_end (n + 1) 56 (IsCaseBy net earlier (case_in r)) (λ x. Give (n + 2, case_in r)) (give_no_end (n + 2, case_in r)))))
  where
    last : Record → Course (ℕ × Robust)
    last r = test_own (n + 1) 56 (IsCaseBy net earlier (case_in r)) >>= (λ x. Give (n + 2, case_in r))

    after_case : Record → Record → Course (ℕ × Robust)
    after_case b r = test_own n 55 (SaysLineBy net earlier (first_number b.numbers)) >>= (λ x. last r)

lines_no_end : (net : Net) (n : ℕ) → HasNoEnd (asks_robust net n)
lines_no_end net n = no_end_then (asks_blocks meaning 1 [] rests_on (before net n)) (λ after. asks_verdict net after) (blocks_no_end 1 [] meaning rests_on (before net n))
    (λ after. either_no_end (is_open (on after.known.earlier Q5)) (asks_rests after.line) (asks_case net after.known.earlier after.line)
    (no_end_then (asks_part words after.line rests_forms) (λ r. Give (after.line + 1, Rests)) (part_no_end words after.line rests_forms) (λ r. give_no_end (after.line + 1, Rests))) (case_no_end net after.known.earlier after.line))

-- ---- the part

pub robust_is_answered : IsAnswered part meant
robust_is_answered = record {
  back = λ net n ls y w h. lines_back net n ls y h;
  on = lines_on;
  plain = records_plain;
  goes_on = lines_no_end;
  title = (plain_is_line (codes "crn part robust 1") refl, omega arith);
  end_known = in_words (codes "end") refl;
}
