-- The lines below the blocks, as they are read one after another.
use Rattle.crn_robust_text.proofs.Prelude.{◌≡◌, ◌≢◌, ◌≤◌, ◌<◌, ◌+◌, ◌-◌, ◌^◌, ℕ, Bool, true, false, List, [], ◌∷◌, length, refl, sym, ap, subst, ◌∙◌, inl, inr, arith, Result, Ok, Err, beq, ℤ, pos, codes, not, ◌↔◌, slice_index_or, unsigned_abs, Net, IsNetwork, Gap, Verdict, Unknown, Earlier, Q5, on, SourceSeen, Record, small_form, Course, Give, ◌>>=◌, test_own, AfterBlocks, either, word_of, Known, asks_part, StepGives, first_number, only, one_back, KeptFacts, AreFactsOf, CanRead, StepIs, StopIs, IsPartSaid, Reading, CheckStop, Rejected, step_then_is, step_gives, stop_first, stop_after, IsGiven, find, place_is, own_holds, own_fails, Robust, Yes, Number, None, Rests, HoldsBlocks, IsPicked, IsCase, cases_are_one, linkage_true, sound_on, words, rests_forms, line_forms, case_forms, case_in, AreInside, SaysLineBy, IsCaseBy, is_open, asks_rests, asks_case, asks_verdict, line_of, verdict_record, AreSmall, CaseSaid, Decides}
use Rattle.crn_ctext.specs.Meaning.{number}
use Rattle.crn_robust_text.proofs.TestsTrue.{AreTrue, case_true, true_case}
use Rattle.crn_robust_text.proofs.Answered.{verdict_back, line_said, is_open_by}

-- ---- numbers of the lines

pub line_numbers : (place : ℕ) (read : List ℤ) (r : Record) → IsPartSaid words line_forms place read r → (k : ℕ) × (read ≡ pos k ∷ []) × (k ≤ 1) × (r.numbers ≡ pos k ∷ [])
line_numbers place read r s =
    let k = one_back (codes "line") 0 1 r (only (small_form (codes "line") 1 0 1) r s.form) in
    let n : r.numbers ≡ pos k.0 ∷ [] = ap (λ (q : Record). q.numbers) k.1 in
    (k.0, s.numbers ∙ n, k.2.1, n)

one_small : (k most : ℕ) → k ≤ most → most ≤ 160 → unsigned_abs (pos k) < 2 ^ 32
one_small k most le few = omega (arith, le, few)

pub line_small : (place : ℕ) (read : List ℤ) (r : Record) → IsPartSaid words line_forms place read r → AreSmall read
line_small place read r s = let k = line_numbers place read r s in subst AreSmall (sym k.1) (one_small k.0 1 k.2 (omega arith), tt)

-- ---- the line of a verdict

verdict_said : (place : ℕ) (robust : Robust) → place < length words → word_of (verdict_record robust) ≡ slice_index_or words place [] → robust ≢ Rests → CaseSaid place (verdict_record robust).numbers robust
unfolding find
verdict_said place (Yes s c d) lt e ne = inl (sym (place_is words place (codes "yes") refl lt (sym e)), refl)
verdict_said place (Number d) lt e ne = inr (inl (sym (place_is words place (codes "number") refl lt (sym e)), refl))
verdict_said place None lt e ne = inr (inr (sym (place_is words place (codes "none") refl lt (sym e)), refl))
verdict_said place Rests lt e ne = absurd (ne refl)

verdict_small : (net : Net) (robust : Robust) → IsNetwork net → AreInside net robust → AreSmall (verdict_record robust).numbers
verdict_small net (Yes s c d) n i = (omega (arith, i.0.1, n.partial.species_limit), (omega (arith, i.1.1, n.partial.complexes_limit), (omega (arith, i.2.1, n.partial.complexes_limit), tt)))
verdict_small net (Number d) n i = (omega (arith, i, n.partial.complexes_limit), tt)
verdict_small net None n i = tt
verdict_small net Rests n i = tt

-- its numbers are small, and the place of its word tells which verdict it says
pub case_small : (net : Net) (place : ℕ) (read : List ℤ) (r : Record) → IsNetwork net → IsPartSaid words (case_forms net) place read r → AreSmall read
case_small net place read r n s =
    let v = verdict_back net r s.form in
    subst AreSmall (sym (s.numbers ∙ ap (λ (q : Record). q.numbers) v.1)) (verdict_small net (case_in r) n v.0)

pub case_said : (net : Net) (place : ℕ) (read : List ℤ) (r : Record) → IsPartSaid words (case_forms net) place read r → CaseSaid place read (case_in r)
case_said net place read r s =
    let v = verdict_back net r s.form in
    subst (λ (zs : List ℤ). CaseSaid place zs (case_in r)) (sym (s.numbers ∙ ap (λ (q : Record). q.numbers) v.1))
    (verdict_said place (case_in r) s.inside (sym (ap (λ (q : Record). word_of q) v.1) ∙ s.kind) v.2)

-- what a pair says
pub pair_is : (place : ℕ) (read : List ℤ) (said : Robust) (s c d : ℕ) → CaseSaid place read said → said ≡ Yes s c d → (place ≡ 1) × (number read 0 ≡ s) × (number read 1 ≡ c) × (number read 2 ≡ d)
pair_is place read said s c d (inl h) e = let same : Yes (number read 0) (number read 1) (number read 2) ≡ Yes s c d = sym h.1 ∙ e in (h.0, cc, cc, cc)
pair_is place read said s c d (inr (inl h)) e = absurd (let same : Number (number read 0) ≡ Yes s c d = sym h.1 ∙ e in cc)
pair_is place read said s c d (inr (inr h)) e = absurd (let same : None ≡ Yes s c d = sym h.1 ∙ e in cc)

pub is_pair : (place : ℕ) (read : List ℤ) (said : Robust) (s c d : ℕ) → CaseSaid place read said → place ≡ 1 → number read 0 ≡ s → number read 1 ≡ c → number read 2 ≡ d → said ≡ Yes s c d
is_pair place read said s c d (inl h) e p q r = h.1 ∙ cc
is_pair place read said s c d (inr (inl h)) e p q r = absurd (omega (arith, e, h.0))
is_pair place read said s c d (inr (inr h)) e p q r = absurd (omega (arith, e, h.0))

pub number_is : (place : ℕ) (read : List ℤ) (said : Robust) (d : ℕ) → CaseSaid place read said → said ≡ Number d → (place ≡ 2) × (number read 0 ≡ d)
number_is place read said d (inl h) e = absurd (let same : Yes (number read 0) (number read 1) (number read 2) ≡ Number d = sym h.1 ∙ e in cc)
number_is place read said d (inr (inl h)) e = let same : Number (number read 0) ≡ Number d = sym h.1 ∙ e in (h.0, cc)
number_is place read said d (inr (inr h)) e = absurd (let same : None ≡ Number d = sym h.1 ∙ e in cc)

pub is_number : (place : ℕ) (read : List ℤ) (said : Robust) (d : ℕ) → CaseSaid place read said → place ≡ 2 → number read 0 ≡ d → said ≡ Number d
is_number place read said d (inl h) e p = absurd (omega (arith, e, h.0))
is_number place read said d (inr (inl h)) e p = h.1 ∙ ap Number p
is_number place read said d (inr (inr h)) e p = absurd (omega (arith, e, h.0))

pub none_is : (place : ℕ) (read : List ℤ) (said : Robust) → CaseSaid place read said → (place ≡ 3) ↔ (said ≡ None)
none_is place read said (inl h) = (λ e. absurd (omega (arith, e, h.0)), λ e. absurd (let same : Yes (number read 0) (number read 1) (number read 2) ≡ None = sym h.1 ∙ e in cc))
none_is place read said (inr (inl h)) = (λ e. absurd (omega (arith, e, h.0)), λ e. absurd (let same : Number (number read 0) ≡ None = sym h.1 ∙ e in cc))
none_is place read said (inr (inr h)) = (λ e. h.1, λ e. h.0)

pub rests_not : (place : ℕ) (read : List ℤ) (said : Robust) → CaseSaid place read said → said ≡ Rests → ⊥
rests_not place read said (inl h) e = let same : Yes (number read 0) (number read 1) (number read 2) ≡ Rests = sym h.1 ∙ e in cc
rests_not place read said (inr (inl h)) e = let same : Number (number read 0) ≡ Rests = sym h.1 ∙ e in cc
rests_not place read said (inr (inr h)) e = let same : None ≡ Rests = sym h.1 ∙ e in cc

-- a verdict that is not open
pub is_shut : (v : Verdict) → ((gap : Gap) → v ≡ Unknown gap → ⊥) → is_open v ≡ false
is_shut (Unknown gap) n = absurd (n gap refl)
is_shut v n = refl

-- ---- which case holds

-- the accepted verdicts decide the case, if they decide the rank
pub decides : (net : Net) (facts : KeptFacts) (robust : Robust) → IsNetwork net → AreFactsOf net facts → HoldsBlocks facts.earlier → is_open (on facts.earlier Q5) ≡ false → IsPicked net (on facts.earlier Q5) robust → Decides net facts.earlier robust × IsCase net robust
decides net facts robust n f holds shut (inl p) = absurd (let opens : is_open (on facts.earlier Q5) ≡ true = is_open_by (on facts.earlier Q5) p.0 in cc)
decides net facts robust n f holds shut (inr p) = (
  record {
    closed = λ e. subst (IsCase net) e p.1;
    holds = true_case net facts.earlier robust n t p.0 p.1;
    one = λ other ne h. cases_are_one net other robust (case_true net facts.earlier other t ne h) p.1;
  },
  p.1,
)
  where
    t : AreTrue net facts.earlier
    t = record { classes = linkage_true net facts f holds.linkage; rank = sound_on net facts.earlier Q5 f.sound holds.rank }

-- the number of the line is right if and only if it says what the case says
pub line_right : (net : Net) (earlier : Earlier) (robust : Robust) (place : ℕ) (read : List ℤ) (r : Record) → Decides net earlier robust → IsPartSaid words line_forms place read r → SaysLineBy net earlier (first_number r.numbers) ↔ ((number read 0 ≡ 1) ↔ (line_of robust ≡ 1))
line_right net earlier robust place read r d s =
    let k = line_numbers place read r s in
    let law = line_said net earlier robust d.holds d.closed in
    let here : number read 0 ≡ k.0 = ap (λ (zs : List ℤ). number zs 0) k.1 in
    let there : first_number r.numbers ≡ k.0 = ap first_number k.3 in (
      λ h. (λ e. law.1 (h.0 (there ∙ sym here ∙ e)), λ e. here ∙ sym there ∙ h.1 (law.0 e)),
      λ h. (λ e. law.0 (h.0 (here ∙ sym there ∙ e)), λ l. there ∙ sym here ∙ h.1 (law.1 l)),
    )

differ_say : (a b : Bool) (A B : Type 0) → (a ≡ true) ↔ A → (b ≡ true) ↔ B → (a ≡ b → ⊥) → (A ↔ B) → ⊥
differ_say true true A B p q ne h = ne refl
differ_say false false A B p q ne h = ne refl
differ_say true false A B p q ne h = let e : false ≡ true = q.1 (h.0 (p.0 refl)) in cc
differ_say false true A B p q ne h = let e : false ≡ true = p.1 (h.1 (q.0 refl)) in cc

bools_differ : (a b : Bool) → not (beq a b) ≡ true → a ≡ b → ⊥
bools_differ true true e same = let f : false ≡ true = e in cc
bools_differ false false e same = let f : false ≡ true = e in cc
bools_differ true false e same = cc
bools_differ false true e same = cc

bools_agree : (a b : Bool) → not (beq a b) ≡ false → a ≡ b
bools_agree true true e = refl
bools_agree false false e = refl
bools_agree true false e = let f : true ≡ false = e in absurd cc
bools_agree false true e = let f : true ≡ false = e in absurd cc

-- a test of the number that was read is compared with one of the case
pub line_differs : (net : Net) (earlier : Earlier) (robust : Robust) (place : ℕ) (read : List ℤ) (r : Record) (a b : Bool) → Decides net earlier robust → IsPartSaid words line_forms place read r → (a ≡ true) ↔ (number read 0 ≡ 1) → (b ≡ true) ↔ (line_of robust ≡ 1) → not (beq a b) ≡ true → SaysLineBy net earlier (first_number r.numbers) → ⊥
line_differs net earlier robust place read r a b d s p q ne says =
    differ_say a b (number read 0 ≡ 1) (line_of robust ≡ 1) p q (bools_differ a b ne) ((line_right net earlier robust place read r d s).0 says)

pub line_agrees : (net : Net) (earlier : Earlier) (robust : Robust) (place : ℕ) (read : List ℤ) (r : Record) (a b : Bool) → Decides net earlier robust → IsPartSaid words line_forms place read r → (a ≡ true) ↔ (number read 0 ≡ 1) → (b ≡ true) ↔ (line_of robust ≡ 1) → not (beq a b) ≡ false → SaysLineBy net earlier (first_number r.numbers)
line_agrees net earlier robust place read r a b d s p q f =
    let e = bools_agree a b f in
    (line_right net earlier robust place read r d s).1 (λ one. q.0 (sym e ∙ p.1 one), λ one. p.0 (e ∙ q.1 one))

-- the verdict is right if and only if it is the case that holds
pub case_right : (net : Net) (earlier : Earlier) (robust : Robust) (place : ℕ) (read : List ℤ) (r : Record) → Decides net earlier robust → IsPartSaid words (case_forms net) place read r → IsCaseBy net earlier (case_in r) ↔ (case_in r ≡ robust)
case_right net earlier robust place read r d s =
    let v = verdict_back net r s.form in
    let one = d.one in
    (λ h. one (case_in r) v.2 h, λ e. subst (IsCaseBy net earlier) (sym e) d.holds)

-- ---- steps

abbrev last : Net → Earlier → ℕ → Record → Course (ℕ × Robust)
last net earlier n r = test_own (n + 1) 56 (IsCaseBy net earlier (case_in r)) >>= (λ x. Give (n + 2, case_in r))

abbrev after_case : Net → Earlier → ℕ → Record → Record → Course (ℕ × Robust)
after_case net earlier n b r = test_own n 55 (SaysLineBy net earlier (first_number b.numbers)) >>= (λ x. last net earlier n r)

abbrev after_line : Net → Earlier → ℕ → Record → Course (ℕ × Robust)
after_line net earlier n b = asks_part words (n + 1) (case_forms net) >>= (λ r. after_case net earlier n b r)

pub line_stops : (net : Net) (earlier : Earlier) (e : CheckStop) (old : Reading) (before now : SourceSeen) → StopIs (asks_part words old.line line_forms) e old before now → StopIs (asks_case net earlier old.line) e old before now
line_stops net earlier e old before now s = stop_first (asks_part words old.line line_forms) (λ b. after_line net earlier old.line b) e old before now s

pub case_stops : (net : Net) (earlier : Earlier) (b : Record) (e : CheckStop) (old mid : Reading) (before between now : SourceSeen) → IsGiven words line_forms b old mid before between → mid.line ≡ old.line + 1
    → StopIs (asks_part words mid.line (case_forms net)) e mid between now → StopIs (asks_case net earlier old.line) e old before now
case_stops net earlier b e old mid before between now g line s =
    stop_after (asks_part words old.line line_forms) (λ b. after_line net earlier old.line b) b e old mid before between now g.0 g.1
    (stop_first (asks_part words (old.line + 1) (case_forms net)) (λ r. after_case net earlier old.line b r) e mid between now (subst (λ (k : ℕ). StopIs (asks_part words k (case_forms net)) e mid between now) line s))

-- both lines were read
pub record AreGiven (net : Net) (b r : Record) (old mid new : Reading) (before between now : SourceSeen) : Type 0 where
  pub line : IsGiven words line_forms b old mid before between
  pub case : IsGiven words (case_forms net) r mid new between now
  pub second : mid.line ≡ old.line + 1
  pub third : new.line ≡ mid.line + 1

-- then their tests follow
both_then : (net : Net) (earlier : Earlier) (b r : Record) (Says : Unit {0} → ℕ × Robust → Type 0) (result : Result (Unit {0}) CheckStop) (old mid new : Reading) (before between now : SourceSeen) → AreGiven net b r old mid new before between now
    → StepIs (after_case net earlier old.line b r) Says result new new now now → StepIs (asks_case net earlier old.line) Says result old new before now
both_then net earlier b r Says result old mid new before between now g s =
    let c = subst (λ (k : ℕ). StepGives (asks_part words k (case_forms net)) r mid.line new.line mid.lines new.lines between.left now.left) g.second g.case.0 in
    step_then_is (asks_part words old.line line_forms) (λ b. after_line net earlier old.line b) b Says result old mid new before between now g.line.0 g.line.1
    (step_then_is (asks_part words (old.line + 1) (case_forms net)) (λ r. after_case net earlier old.line b r) r Says result mid new new between now now c g.case.1 s)

pub line_refused : (net : Net) (earlier : Earlier) (b r : Record) (old mid new : Reading) (before between now : SourceSeen) → AreGiven net b r old mid new before between now → (SaysLineBy net earlier (first_number b.numbers) → ⊥) → CanRead new
    → StopIs (asks_case net earlier old.line) (Rejected 55 (new.line - 2)) old before now
line_refused net earlier b r old mid new before between now g none can =
    both_then net earlier b r (λ t y. Unit {0}) (Err (Rejected 55 (new.line - 2))) old mid new before between now g
    (own_fails old.line (new.line - 2) 55 (SaysLineBy net earlier (first_number b.numbers)) (λ x. last net earlier old.line r) new now (omega (arith, g.second, g.third)) none can)

pub case_refused : (net : Net) (earlier : Earlier) (b r : Record) (old mid new : Reading) (before between now : SourceSeen) → AreGiven net b r old mid new before between now → SaysLineBy net earlier (first_number b.numbers) → (IsCaseBy net earlier (case_in r) → ⊥) → CanRead new
    → StopIs (asks_case net earlier old.line) (Rejected 56 (new.line - 1)) old before now
case_refused net earlier b r old mid new before between now g says none can =
    both_then net earlier b r (λ t y. Unit {0}) (Err (Rejected 56 (new.line - 1))) old mid new before between now g
    (own_holds old.line 55 (SaysLineBy net earlier (first_number b.numbers)) (λ x. last net earlier old.line r) (λ (t : Unit {0}) y. Unit {0}) (Err (Rejected 56 (new.line - 1))) new new now now says
    (own_fails (old.line + 1) (new.line - 1) 56 (IsCaseBy net earlier (case_in r)) (λ x. Give (old.line + 2, case_in r)) new now (omega (arith, g.second, g.third)) none can))

pub both_right : (net : Net) (earlier : Earlier) (robust : Robust) (b r : Record) (old mid new : Reading) (before between now : SourceSeen) → AreGiven net b r old mid new before between now → SaysLineBy net earlier (first_number b.numbers) → IsCaseBy net earlier (case_in r) → case_in r ≡ robust
    → StepIs {T = Unit {0}} (asks_case net earlier old.line) (λ t y. y ≡ (new.line, robust)) (Ok tt) old new before now
both_right net earlier robust b r old mid new before between now g says case e =
    let Says : Unit {0} → ℕ × Robust → Type 0 = λ t y. y ≡ (new.line, robust) in
    let line : old.line + 2 ≡ new.line = omega (arith, g.second, g.third) in
    let is : (old.line + 2, case_in r) ≡ (new.line, robust) = ap (λ (k : ℕ). (k, case_in r)) line ∙ ap (λ (q : Robust). (new.line, q)) e in
    both_then net earlier b r Says (Ok tt) old mid new before between now g
    (own_holds old.line 55 (SaysLineBy net earlier (first_number b.numbers)) (λ x. last net earlier old.line r) Says (Ok tt) new new now now says
    (own_holds (old.line + 1) 56 (IsCaseBy net earlier (case_in r)) (λ x. Give (old.line + 2, case_in r)) Says (Ok tt) new new now now case
    (step_gives (old.line + 2, case_in r) Says tt new now is)))

-- ---- after the blocks

either_step : {T : Type 0} (b c : Bool) (this that : Course (ℕ × Robust)) (Says : T → ℕ × Robust → Type 0) (result : Result T CheckStop) (old new : Reading) (before now : SourceSeen) → b ≡ c → StepIs (either c this that) Says result old new before now → StepIs (either b this that) Says result old new before now
either_step b c this that Says result old new before now e s = subst (λ (t : Bool). StepIs (either t this that) Says result old new before now) (sym e) s

abbrev Says : (line : ℕ) → Robust → ℕ × Robust → Type 0
Says line robust y = y ≡ (line, robust)

pub rests_stops : (net : Net) (after : AfterBlocks Known) (e : CheckStop) (old : Reading) (before now : SourceSeen) → is_open (on after.known.earlier Q5) ≡ true → after.line ≡ old.line → StopIs (asks_part words old.line rests_forms) e old before now → StopIs (asks_verdict net after) e old before now
rests_stops net after e old before now opens line s =
    either_step (is_open (on after.known.earlier Q5)) true (asks_rests after.line) (asks_case net after.known.earlier after.line) (λ (t : Unit {0}) y. Unit {0}) (Err e) old old before now opens
    (stop_first (asks_part words after.line rests_forms) (λ r. Give (after.line + 1, Rests)) e old before now (subst (λ (k : ℕ). StopIs (asks_part words k rests_forms) e old before now) (sym line) s))

pub rests_then : (net : Net) (after : AfterBlocks Known) (r : Record) (old new : Reading) (before now : SourceSeen) → is_open (on after.known.earlier Q5) ≡ true → after.line ≡ old.line → IsGiven words rests_forms r old new before now → new.line ≡ old.line + 1
    → StepIs (asks_verdict net after) (Says new.line) (Ok Rests) old new before now
rests_then net after r old new before now opens line g next =
    let s = subst (λ (k : ℕ). StepGives (asks_part words k rests_forms) r old.line new.line old.lines new.lines before.left now.left) (sym line) g.0 in
    let is : after.line + 1 ≡ new.line = omega (arith, line, next) in
    either_step (is_open (on after.known.earlier Q5)) true (asks_rests after.line) (asks_case net after.known.earlier after.line) (Says new.line) (Ok Rests) old new before now opens
    (step_then_is (asks_part words after.line rests_forms) (λ q. Give (after.line + 1, Rests)) r (Says new.line) (Ok Rests) old new new before now now s g.1
    (step_gives (after.line + 1, Rests) (Says new.line) Rests new now (ap (λ (k : ℕ). (k, Rests)) is)))

pub decided_stops : (net : Net) (after : AfterBlocks Known) (e : CheckStop) (old : Reading) (before now : SourceSeen) → is_open (on after.known.earlier Q5) ≡ false → after.line ≡ old.line → StopIs (asks_case net after.known.earlier old.line) e old before now → StopIs (asks_verdict net after) e old before now
decided_stops net after e old before now shut line s =
    either_step (is_open (on after.known.earlier Q5)) false (asks_rests after.line) (asks_case net after.known.earlier after.line) (λ (t : Unit {0}) y. Unit {0}) (Err e) old old before now shut
    (subst (λ (k : ℕ). StopIs (asks_case net after.known.earlier k) e old before now) (sym line) s)

pub decided_then : (net : Net) (after : AfterBlocks Known) (robust : Robust) (old new : Reading) (before now : SourceSeen) → is_open (on after.known.earlier Q5) ≡ false → after.line ≡ old.line
    → StepIs {T = Unit {0}} (asks_case net after.known.earlier old.line) (λ t y. y ≡ (new.line, robust)) (Ok tt) old new before now → StepIs (asks_verdict net after) (Says new.line) (Ok robust) old new before now
decided_then net after robust old new before now shut line s =
    let t = subst (λ (k : ℕ). StepIs {T = Unit {0}} (asks_case net after.known.earlier k) (λ t y. y ≡ (new.line, robust)) (Ok tt) old new before now) (sym line) s in
    either_step (is_open (on after.known.earlier Q5)) false (asks_rests after.line) (asks_case net after.known.earlier after.line) (Says new.line) (Ok robust) old new before now shut (t.0, t.1, t.2, t.3)
