-- The lines around a tree, as they are read one after another.
use Rattle.crn_siphon_text.proofs.Prelude.{◌≡◌, ◌+◌, ◌-◌, ◌⊎◌, ℕ, Bool, List, [], length, refl, sym, ap, subst, ◌∙◌, inl, inr, arith, Result, Ok, Err, ℤ, pos, codes, int_eq, length-map, bytes_eq, MAX_BUDGET, Net, IsConservationLaw, AreFree, AreBits, RuleOutConservation, SourceSeen, Record, Form, Fits, Course, Give, ◌>>=◌, test_own, either, word_of, IsOneOf, one_word, asks_part, free_row, bare_back, one_back, bits_back, CanRead, StepIs, StopIs, IsPartSaid, Reading, CheckStop, Rejected, step_then_is, step_gives, step_map, stop_first, stop_after, IsGiven, find, placed, own_holds, own_fails, IsSiphon, Covers, set_of, Outcome, Yes, No, Undecided, words, verdict_forms, law_forms, no_forms, cover_forms, asks_tree, asks_yes, asks_cover, asks_none, asks_no, asks_rest, asks_persist, ReadsOutcome}
use Rattle.std.specs.Prelude.{false}
use Rattle.crn_siphon_text.proofs.Nodes.{wide_back}

-- the outcome, and the number of the line that is due next
abbrev Says : (line : ℕ) → Outcome → ℕ × Outcome → Type 0
Says line outcome y = y ≡ (line, outcome)

-- ---- a yes

abbrev after_test : Net → ℕ → Course (ℕ × Outcome)
after_test net n = asks_tree net (length net.names) [] (n + 1) >>= (λ line. Give (line, Yes))

abbrev after_law : Net → ℕ → Record → Course (ℕ × Outcome)
after_law net n law = test_own n 53 (IsConservationLaw net law.numbers) >>= (λ x. after_test net n)

pub yes_stop : (net : Net) (e : CheckStop) (old : Reading) (before now : SourceSeen) → StopIs (asks_part words old.line (law_forms net)) e old before now → StopIs (asks_yes net old.line) e old before now
yes_stop net e old before now s = stop_first (asks_part words old.line (law_forms net)) (after_law net old.line) e old before now s

-- the numbers are those that a law may have
pub law_free : (net : Net) (place : ℕ) (read : List ℤ) (r : Record) → IsPartSaid words (law_forms net) place read r → AreFree (length net.names) read
law_free net place read r s = by s.form
  where
    by : IsOneOf (law_forms net) r → AreFree (length net.names) read
    by (form, inl e, f) = subst (AreFree (length net.names)) (sym s.numbers) (free_row (codes "vec") (length net.names) r (subst (λ (x : Form). Fits x r) e f)).1
    by (form, inr none, f) = absurd none

pub yes_refused : (net : Net) (place : ℕ) (r : Record) (old mid : Reading) (before now : SourceSeen) → IsGiven words (law_forms net) r old mid before now → IsPartSaid words (law_forms net) place mid.numbers.list r
    → mid.line ≡ old.line + 1 → (IsConservationLaw net mid.numbers.list → ⊥) → CanRead mid → StopIs (asks_yes net old.line) (Rejected 53 (mid.line - 1)) old before now
yes_refused net place r old mid before now s said e none can =
    stop_after (asks_part words old.line (law_forms net)) (after_law net old.line) r (Rejected 53 (mid.line - 1)) old mid before now now s.0 s.1
    (own_fails old.line (mid.line - 1) 53 (IsConservationLaw net r.numbers) (λ x. after_test net old.line) mid now (omega (arith, e)) (λ h. none (subst (IsConservationLaw net) (sym said.numbers) h)) can)

-- the law holds, and the tree is what follows
law_holds : (net : Net) (place : ℕ) (r : Record) (result : Result Outcome CheckStop) (old mid new : Reading) (before between now : SourceSeen) → IsGiven words (law_forms net) r old mid before between → IsPartSaid words (law_forms net) place mid.numbers.list r
    → mid.line ≡ old.line + 1 → IsConservationLaw net mid.numbers.list → StepIs (asks_tree net (length net.names) [] mid.line >>= (λ line. Give (line, Yes))) (Says new.line) result mid new between now → ReadsOutcome (asks_yes net old.line) result old new before now
law_holds net place r result old mid new before between now s said e law t =
    let says : Outcome → ℕ × Outcome → Type 0 = Says new.line in
    step_then_is (asks_part words old.line (law_forms net)) (after_law net old.line) r says result old mid new before between now s.0 s.1
    (own_holds old.line 53 (IsConservationLaw net r.numbers) (λ x. after_test net old.line) says result mid new between now (subst (IsConservationLaw net) said.numbers law)
    (subst (λ (k : ℕ). StepIs (asks_tree net (length net.names) [] k >>= (λ line. Give (line, Yes))) says result mid new between now) e t))

pub yes_then : (net : Net) (place : ℕ) (r : Record) (old mid new : Reading) (before between now : SourceSeen) → IsGiven words (law_forms net) r old mid before between → IsPartSaid words (law_forms net) place mid.numbers.list r
    → mid.line ≡ old.line + 1 → IsConservationLaw net mid.numbers.list → StepIs {T = Unit {0}} (asks_tree net (length net.names) [] mid.line) (λ _ line. line ≡ new.line) (Ok tt) mid new between now → ReadsOutcome (asks_yes net old.line) (Ok Yes) old new before now
yes_then net place r old mid new before between now s said e law t =
    let is : Outcome → ℕ → Type 0 = λ outcome line. line ≡ new.line in
    let tree : StepIs (asks_tree net (length net.names) [] mid.line) is (Ok Yes) mid new between now = t in
    law_holds net place r (Ok Yes) old mid new before between now s said e law
    (step_map (asks_tree net (length net.names) [] mid.line) (λ (line : ℕ). (line, Yes)) is (λ (outcome : Outcome) (y : ℕ × Outcome). y ≡ (new.line, Yes)) (Ok Yes) mid new between now (λ outcome line same. ap (λ (k : ℕ). (k, Yes)) same) tree)

pub yes_stops : (net : Net) (place : ℕ) (r : Record) (stop : CheckStop) (old mid : Reading) (before between now : SourceSeen) → IsGiven words (law_forms net) r old mid before between → IsPartSaid words (law_forms net) place mid.numbers.list r
    → mid.line ≡ old.line + 1 → IsConservationLaw net mid.numbers.list → StopIs (asks_tree net (length net.names) [] mid.line) stop mid between now → StopIs (asks_yes net old.line) stop old before now
yes_stops net place r stop old mid before between now s said e law t =
    law_holds net place r (Err stop) old mid mid before between now s said e law (stop_first (asks_tree net (length net.names) [] mid.line) (λ line. Give (line, Yes)) stop mid between now t)

-- ---- what covers a siphon

abbrev last_test : Net → ℕ → List ℤ → Record → Course (ℕ × Outcome)
last_test net n marks cover = test_own n 52 (Covers net (set_of marks) cover.numbers) >>= (λ z. Give (n + 1, No))

abbrev after_cover : Net → ℕ → List ℤ → Record → Course (ℕ × Outcome)
after_cover net n marks cover = test_own (n - 1) 51 (IsSiphon net (set_of marks)) >>= (λ x. last_test net n marks cover)

pub cover_stop : (net : Net) (marks : List ℤ) (e : CheckStop) (old : Reading) (before now : SourceSeen) → StopIs (asks_part words old.line (cover_forms net)) e old before now → StopIs (asks_cover net old.line marks) e old before now
cover_stop net marks e old before now s = stop_first (asks_part words old.line (cover_forms net)) (after_cover net old.line marks) e old before now s

pub cover_free : (net : Net) (place : ℕ) (read : List ℤ) (r : Record) → IsPartSaid words (cover_forms net) place read r → AreFree (length net.reactions) read
cover_free net place read r s = by s.form
  where
    by : IsOneOf (cover_forms net) r → AreFree (length net.reactions) read
    by (form, inl e, f) = subst (AreFree (length net.reactions)) (sym s.numbers) (free_row (codes "mult") (length net.reactions) r (subst (λ (x : Form). Fits x r) e f)).1
    by (form, inr none, f) = absurd none

pub cover_no_siphon : (net : Net) (marks : List ℤ) (r : Record) (old mid : Reading) (before now : SourceSeen) → IsGiven words (cover_forms net) r old mid before now
    → mid.line ≡ old.line + 1 → (IsSiphon net (set_of marks) → ⊥) → CanRead mid → StopIs (asks_cover net old.line marks) (Rejected 51 (mid.line - 2)) old before now
cover_no_siphon net marks r old mid before now s e none can =
    stop_after (asks_part words old.line (cover_forms net)) (after_cover net old.line marks) r (Rejected 51 (mid.line - 2)) old mid before now now s.0 s.1
    (own_fails (old.line - 1) (mid.line - 2) 51 (IsSiphon net (set_of marks)) (λ x. last_test net old.line marks r) mid now (omega (arith, e)) none can)

-- the marks are those of a siphon, and the last test is what follows
siphon_holds : (net : Net) (marks : List ℤ) (r : Record) (result : Result Outcome CheckStop) (old mid : Reading) (before now : SourceSeen) → IsGiven words (cover_forms net) r old mid before now → IsSiphon net (set_of marks)
    → StepIs (last_test net old.line marks r) (Says mid.line) result mid mid now now → ReadsOutcome (asks_cover net old.line marks) result old mid before now
siphon_holds net marks r result old mid before now s siphon t =
    let says : Outcome → ℕ × Outcome → Type 0 = Says mid.line in
    step_then_is (asks_part words old.line (cover_forms net)) (after_cover net old.line marks) r says result old mid mid before now now s.0 s.1
    (own_holds (old.line - 1) 51 (IsSiphon net (set_of marks)) (λ x. last_test net old.line marks r) says result mid mid now now siphon t)

pub cover_refused : (net : Net) (marks : List ℤ) (place : ℕ) (r : Record) (old mid : Reading) (before now : SourceSeen) → IsGiven words (cover_forms net) r old mid before now → IsPartSaid words (cover_forms net) place mid.numbers.list r
    → mid.line ≡ old.line + 1 → IsSiphon net (set_of marks) → (Covers net (set_of marks) mid.numbers.list → ⊥) → CanRead mid → StopIs (asks_cover net old.line marks) (Rejected 52 (mid.line - 1)) old before now
cover_refused net marks place r old mid before now s said e siphon none can =
    siphon_holds net marks r (Err (Rejected 52 (mid.line - 1))) old mid before now s siphon
    (own_fails old.line (mid.line - 1) 52 (Covers net (set_of marks) r.numbers) (λ z. Give (old.line + 1, No)) mid now (omega (arith, e)) (λ h. none (subst (Covers net (set_of marks)) (sym said.numbers) h)) can)

pub cover_then : (net : Net) (marks : List ℤ) (place : ℕ) (r : Record) (old mid : Reading) (before now : SourceSeen) → IsGiven words (cover_forms net) r old mid before now → IsPartSaid words (cover_forms net) place mid.numbers.list r
    → mid.line ≡ old.line + 1 → IsSiphon net (set_of marks) → Covers net (set_of marks) mid.numbers.list → ReadsOutcome (asks_cover net old.line marks) (Ok No) old mid before now
cover_then net marks place r old mid before now s said e siphon covers =
    let says : Outcome → ℕ × Outcome → Type 0 = Says mid.line in
    siphon_holds net marks r (Ok No) old mid before now s siphon
    (own_holds old.line 52 (Covers net (set_of marks) r.numbers) (λ z. Give (old.line + 1, No)) says (Ok No) mid mid now now (subst (Covers net (set_of marks)) said.numbers covers)
    (step_gives (old.line + 1, No) says No mid now (ap (λ (k : ℕ). (k, No)) (sym e))))

-- ---- a no

abbrev after_denial : Net → ℕ → Record → Course (ℕ × Outcome)
after_denial net n r = either (bytes_eq (word_of r) (codes "cut")) (asks_none net n r.numbers) (asks_cover net (n + 1) r.numbers)

-- what the line after a no says, by the place of its word
abbrev pub DenialSaid : Net → ℕ → List ℤ → Record → Type 0
DenialSaid net place read r = ((place ≡ 5) × AreFree (length net.reactions) read × (r ≡ one_word (codes "cut") read))
    ⊎ ((place ≡ 6) × AreBits (length net.names) read × (r ≡ one_word (codes "siphon") read))

pub denial_said : (net : Net) (place : ℕ) (read : List ℤ) (r : Record) → IsPartSaid words (no_forms net) place read r → DenialSaid net place read r
unfolding find
denial_said net place read r s = by s.form
  where
    by : IsOneOf (no_forms net) r → DenialSaid net place read r
    by (form, inl e, f) =
        let b = free_row (codes "cut") (length net.reactions) r (subst (λ (x : Form). Fits x r) e f) in
        inl (sym (placed words (no_forms net) place read r (codes "cut") refl s (ap word_of b.0)), subst (AreFree (length net.reactions)) (sym s.numbers) b.1, b.0 ∙ ap (λ (xs : List ℤ). one_word (codes "cut") xs) (sym s.numbers))
    by (form, inr (inl e), f) =
        let b = bits_back (codes "siphon") (length net.names) r (subst (λ (x : Form). Fits x r) e f) in
        inr (sym (placed words (no_forms net) place read r (codes "siphon") refl s (ap word_of b.0)), subst (AreBits (length net.names)) (sym s.numbers) b.1, b.0 ∙ ap (λ (xs : List ℤ). one_word (codes "siphon") xs) (sym s.numbers))
    by (form, inr (inr none), f) = absurd none

-- the line has marks
pub marks_said : (net : Net) (place : ℕ) (read : List ℤ) (r : Record) → place ≡ 6 → IsPartSaid words (no_forms net) place read r → AreBits (length net.names) read × (r ≡ one_word (codes "siphon") read)
marks_said net place read r six s = by (denial_said net place read r s)
  where
    by : DenialSaid net place read r → AreBits (length net.names) read × (r ≡ one_word (codes "siphon") read)
    by (inl h) = absurd (omega (arith, six, h.0))
    by (inr h) = (h.1, h.2)

-- a mark for each species
pub marks_long : (net : Net) (place : ℕ) (read : List ℤ) (r : Record) (set : List Bool) → place ≡ 6 → IsPartSaid words (no_forms net) place read r → set ≡ set_of read → length set ≡ length net.names
marks_long net place read r set six s e =
    let bits = (marks_said net place read r six s).0 in
    ap (λ (t : List Bool). length t) e ∙ length-map read (λ (x : ℤ). int_eq x (pos 1)) ∙ bits.long

-- and else numbers that exclude laws
pub cut_said : (net : Net) (place : ℕ) (read : List ℤ) (r : Record) → (place ≡ 6 → ⊥) → IsPartSaid words (no_forms net) place read r → AreFree (length net.reactions) read × (r ≡ one_word (codes "cut") read)
cut_said net place read r other s = by (denial_said net place read r s)
  where
    by : DenialSaid net place read r → AreFree (length net.reactions) read × (r ≡ one_word (codes "cut") read)
    by (inl h) = (h.1, h.2)
    by (inr h) = absurd (other h.0)

pub no_stop : (net : Net) (e : CheckStop) (old : Reading) (before now : SourceSeen) → StopIs (asks_part words old.line (no_forms net)) e old before now → StopIs (asks_no net old.line) e old before now
no_stop net e old before now s = stop_first (asks_part words old.line (no_forms net)) (after_denial net old.line) e old before now s

-- the marks were read, and their cover is what follows
pub no_covered : (net : Net) (read : List ℤ) (r : Record) (result : Result Outcome CheckStop) (old mid new : Reading) (before between now : SourceSeen) → IsGiven words (no_forms net) r old mid before between → r ≡ one_word (codes "siphon") read
    → mid.line ≡ old.line + 1 → ReadsOutcome (asks_cover net mid.line read) result mid new between now → ReadsOutcome (asks_no net old.line) result old new before now
no_covered net read r result old mid new before between now s is e t =
    let says : Outcome → ℕ × Outcome → Type 0 = Says new.line in
    let here : StepIs (after_denial net old.line (one_word (codes "siphon") read)) says result mid new between now = subst (λ (k : ℕ). StepIs (asks_cover net k read) says result mid new between now) e t in
    step_then_is (asks_part words old.line (no_forms net)) (after_denial net old.line) r says result old mid new before between now s.0 s.1
    (subst (λ (q : Record). StepIs (after_denial net old.line q) says result mid new between now) (sym is) here)

-- numbers were read, and their test is what follows
cut_then : (net : Net) (read : List ℤ) (r : Record) (result : Result Outcome CheckStop) (old mid : Reading) (before now : SourceSeen) → IsGiven words (no_forms net) r old mid before now → r ≡ one_word (codes "cut") read
    → StepIs (asks_none net old.line read) (Says mid.line) result mid mid now now → ReadsOutcome (asks_no net old.line) result old mid before now
cut_then net read r result old mid before now s is t =
    let says : Outcome → ℕ × Outcome → Type 0 = Says mid.line in
    step_then_is (asks_part words old.line (no_forms net)) (after_denial net old.line) r says result old mid mid before now now s.0 s.1
    (subst (λ (q : Record). StepIs (after_denial net old.line q) says result mid mid now now) (sym is) t)

pub no_refused : (net : Net) (read : List ℤ) (r : Record) (old mid : Reading) (before now : SourceSeen) → IsGiven words (no_forms net) r old mid before now → r ≡ one_word (codes "cut") read
    → mid.line ≡ old.line + 1 → (RuleOutConservation net read → ⊥) → CanRead mid → StopIs (asks_no net old.line) (Rejected 53 (mid.line - 1)) old before now
no_refused net read r old mid before now s is e none can =
    cut_then net read r (Err (Rejected 53 (mid.line - 1))) old mid before now s is (own_fails old.line (mid.line - 1) 53 (RuleOutConservation net read) (λ x. Give (old.line + 1, No)) mid now (omega (arith, e)) none can)

pub no_cut : (net : Net) (read : List ℤ) (r : Record) (old mid : Reading) (before now : SourceSeen) → IsGiven words (no_forms net) r old mid before now → r ≡ one_word (codes "cut") read
    → mid.line ≡ old.line + 1 → RuleOutConservation net read → ReadsOutcome (asks_no net old.line) (Ok No) old mid before now
no_cut net read r old mid before now s is e rules =
    let says : Outcome → ℕ × Outcome → Type 0 = Says mid.line in
    cut_then net read r (Ok No) old mid before now s is
    (own_holds old.line 53 (RuleOutConservation net read) (λ x. Give (old.line + 1, No)) says (Ok No) mid mid now now rules (step_gives (old.line + 1, No) says No mid now (ap (λ (k : ℕ). (k, No)) (sym e))))

-- ---- the line of the verdict

-- it is neither a yes nor a no
abbrev IsOpenWord : List ℕ → Type 0
IsOpenWord w = (bytes_eq w (codes "yes") ≡ false) × (bytes_eq w (codes "no") ≡ false)

-- what it says, by the place of its word
abbrev pub VerdictSaid : ℕ → Record → Type 0
VerdictSaid place r = ((place ≡ 0) × (r ≡ one_word (codes "yes") []))
    ⊎ (((place ≡ 1) × (r ≡ one_word (codes "no") [])) ⊎ (((place ≡ 2) ⊎ (place ≡ 3)) × IsOpenWord (word_of r)))

open_word : (r q : Record) → r ≡ q → IsOpenWord (word_of q) → IsOpenWord (word_of r)
open_word r q e o = subst (λ (x : Record). IsOpenWord (word_of x)) (sym e) o

verdict_said : (net : Net) (place : ℕ) (read : List ℤ) (r : Record) → IsPartSaid words (verdict_forms net) place read r → VerdictSaid place r
unfolding find
verdict_said net place read r s = by s.form
  where
    at : (w : List ℕ) → word_of r ≡ w → find w words ≡ place
    at w e = placed words (verdict_forms net) place read r w refl s e

    by : IsOneOf (verdict_forms net) r → VerdictSaid place r
    by (form, inl e, f) =
        let is = bare_back (codes "yes") r (subst (λ (x : Form). Fits x r) e f) in
        inl (sym (at (codes "yes") (ap word_of is)), is)
    by (form, inr (inl e), f) =
        let is = bare_back (codes "no") r (subst (λ (x : Form). Fits x r) e f) in
        inr (inl (sym (at (codes "no") (ap word_of is)), is))
    by (form, inr (inr (inl e)), f) =
        let w = wide_back 1 (length net.names) (length net.reactions) r (subst (λ (x : Form). Fits x r) e f) in
        inr (inr (inl (sym (at (codes "wide") (ap word_of w.2))), open_word r _ w.2 (refl, refl)))
    by (form, inr (inr (inr (inl e))), f) =
        let w = wide_back 2 (length net.reactions) (length net.names) r (subst (λ (x : Form). Fits x r) e f) in
        inr (inr (inl (sym (at (codes "wide") (ap word_of w.2))), open_word r _ w.2 (refl, refl)))
    by (form, inr (inr (inr (inr (inl e)))), f) =
        let k = one_back (codes "spent") 1 MAX_BUDGET r (subst (λ (x : Form). Fits x r) e f) in
        inr (inr (inr (sym (at (codes "spent") (ap word_of k.1))), open_word r _ k.1 (refl, refl)))
    by (form, inr (inr (inr (inr (inr none)))), f) = absurd none

-- nothing follows an open answer
open_rest : (net : Net) (n : ℕ) (r : Record) (at : Reading) (now : SourceSeen) → bytes_eq (word_of r) (codes "yes") ≡ false → bytes_eq (word_of r) (codes "no") ≡ false
    → StepIs (Give (n, Undecided)) (Says at.line) (Ok Undecided) at at now now → StepIs (asks_rest net n r) (Says at.line) (Ok Undecided) at at now now
open_rest net n r at now first second t =
    subst (λ (b : Bool). StepIs (either b (asks_yes net n) (either (bytes_eq (word_of r) (codes "no")) (asks_no net n) (Give (n, Undecided)))) (Says at.line) (Ok Undecided) at at now now) (sym first)
    (subst (λ (b : Bool). StepIs (either b (asks_no net n) (Give (n, Undecided))) (Says at.line) (Ok Undecided) at at now now) (sym second) t)

pub answer_stop : (net : Net) (e : CheckStop) (old : Reading) (before now : SourceSeen) → StopIs (asks_part words old.line (verdict_forms net)) e old before now → StopIs (asks_persist net old.line) e old before now
answer_stop net e old before now s = stop_first (asks_part words old.line (verdict_forms net)) (λ r. asks_rest net (old.line + 1) r) e old before now s

-- the line of the verdict was read, and this is what follows
pub rest_then : (net : Net) (r : Record) (result : Result Outcome CheckStop) (old mid new : Reading) (before between now : SourceSeen) → IsGiven words (verdict_forms net) r old mid before between
    → mid.line ≡ old.line + 1 → ReadsOutcome (asks_rest net mid.line r) result mid new between now → ReadsOutcome (asks_persist net old.line) result old new before now
rest_then net r result old mid new before between now s e t =
    let says : Outcome → ℕ × Outcome → Type 0 = Says new.line in
    step_then_is (asks_part words old.line (verdict_forms net)) (λ q. asks_rest net (old.line + 1) q) r says result old mid new before between now s.0 s.1
    (subst (λ (k : ℕ). StepIs (asks_rest net k r) says result mid new between now) e t)

pub answer_yes : (net : Net) (place : ℕ) (r : Record) (result : Result Outcome CheckStop) (old mid new : Reading) (before between now : SourceSeen) → place ≡ 0 → IsPartSaid words (verdict_forms net) place mid.numbers.list r → IsGiven words (verdict_forms net) r old mid before between
    → mid.line ≡ old.line + 1 → ReadsOutcome (asks_yes net mid.line) result mid new between now → ReadsOutcome (asks_persist net old.line) result old new before now
answer_yes net place r result old mid new before between now zero said s e t = by (verdict_said net place mid.numbers.list r said)
  where
    by : VerdictSaid place r → ReadsOutcome (asks_persist net old.line) result old new before now
    by (inl h) = rest_then net r result old mid new before between now s e (subst (λ (q : Record). ReadsOutcome (asks_rest net mid.line q) result mid new between now) (sym h.1) t)
    by (inr (inl h)) = absurd (omega (arith, zero, h.0))
    by (inr (inr (inl h, is))) = absurd (omega (arith, zero, h))
    by (inr (inr (inr h, is))) = absurd (omega (arith, zero, h))

pub answer_no : (net : Net) (place : ℕ) (r : Record) (result : Result Outcome CheckStop) (old mid new : Reading) (before between now : SourceSeen) → place ≡ 1 → IsPartSaid words (verdict_forms net) place mid.numbers.list r → IsGiven words (verdict_forms net) r old mid before between
    → mid.line ≡ old.line + 1 → ReadsOutcome (asks_no net mid.line) result mid new between now → ReadsOutcome (asks_persist net old.line) result old new before now
answer_no net place r result old mid new before between now one said s e t = by (verdict_said net place mid.numbers.list r said)
  where
    by : VerdictSaid place r → ReadsOutcome (asks_persist net old.line) result old new before now
    by (inl h) = absurd (omega (arith, one, h.0))
    by (inr (inl h)) = rest_then net r result old mid new before between now s e (subst (λ (q : Record). ReadsOutcome (asks_rest net mid.line q) result mid new between now) (sym h.1) t)
    by (inr (inr (inl h, is))) = absurd (omega (arith, one, h))
    by (inr (inr (inr h, is))) = absurd (omega (arith, one, h))

pub answer_open : (net : Net) (place : ℕ) (r : Record) (old mid : Reading) (before now : SourceSeen) → (place ≡ 0 → ⊥) → (place ≡ 1 → ⊥) → IsPartSaid words (verdict_forms net) place mid.numbers.list r → IsGiven words (verdict_forms net) r old mid before now
    → mid.line ≡ old.line + 1 → ReadsOutcome (asks_persist net old.line) (Ok Undecided) old mid before now
answer_open net place r old mid before now none other said s e = by (verdict_said net place mid.numbers.list r said)
  where
    by : VerdictSaid place r → ReadsOutcome (asks_persist net old.line) (Ok Undecided) old mid before now
    by (inl h) = absurd (none h.0)
    by (inr (inl h)) = absurd (other h.0)
    by (inr (inr h)) = rest_then net r (Ok Undecided) old mid mid before now now s e (open_rest net mid.line r mid now h.1.0 h.1.1 (step_gives (mid.line, Undecided) (Says mid.line) Undecided mid now refl))
