-- The lines around the trees, as they are read one after another.
use Rattle.crn_endo_text.proofs.Prelude.{◌≡◌, ◌<◌, ◌+◌, ◌-◌, ◌⊎◌, ℕ, Bool, false, List, [], ◌∷◌, length, refl, sym, ap, subst, ◌∙◌, inl, inr, arith, Result, Ok, ℤ, pos, codes, bytes_eq, IsIn, Net, AreFree, IsFrom, SourceSeen, Record, Form, Course, Give, ◌>>=◌, test_own, either, word_of, first_number, IsOneOf, one_word, small_record, asks_part, free_row, bare_back, one_back, CanRead, StepIs, StopIs, IsPartSaid, Reading, CheckStop, Rejected, step_then_is, step_gives, stop_first, stop_after, IsGiven, find, placed, own_holds, own_fails, row_count, IsAgainst, IsSmallEnough, EndoSeen, Yes, No, Undecided, words, other_forms, verdict_forms, slope_forms, asks_trees, asks_yes, asks_no, asks_rest, asks_endo, asks_from, ReadsSeen, ReadsTrees}
use Rattle.crn_ctext.specs.Records.{Fits}
use Rattle.crn_endo_text.proofs.Nodes.{small_back, verdict_back, wide_back, spent_back}
use Rattle.crn_endo_text.proofs.TreesRead.{last_due}

-- what is answered, and the number of the line that is due next
abbrev Says : (line : ℕ) → EndoSeen → ℕ × EndoSeen → Type 0
Says line seen y = y ≡ (line, seen)

-- ---- a yes

pub yes_read : (net : Net) (result : Result EndoSeen CheckStop) (old new : Reading) (before now : SourceSeen) → ReadsSeen (asks_from net 0 old.line) result old new before now → ReadsSeen (asks_yes net old.line) result old new before now
yes_read net result old new before now h =
    let all : length net.reactions - 0 ≡ length net.reactions = omega arith in
    subst (λ (count : ℕ). ReadsSeen (asks_trees net count 0 old.line (λ k. Give (k, Yes))) result old new before now) all h

pub yes_then : (net : Net) (old new : Reading) (before now : SourceSeen) → ReadsTrees net 0 (length net.reactions) (Ok tt) old new before now → ReadsSeen (asks_yes net old.line) (Ok Yes) old new before now
yes_then net old new before now whole = yes_read net (Ok Yes) old new before now (whole (Ok Yes) new now (last_due net new now))

-- ---- a no

abbrev after_slope : Net → ℕ → ℕ → Record → Course (ℕ × EndoSeen)
after_slope net reaction n q = test_own n 73 (IsAgainst net (reaction - 1) q.numbers) >>= (λ x. Give (n + 1, No reaction))

pub no_stop : (net : Net) (reaction : ℕ) (e : CheckStop) (old : Reading) (before now : SourceSeen) → StopIs (asks_part words old.line (slope_forms net)) e old before now → StopIs (asks_no net reaction old.line) e old before now
no_stop net reaction e old before now s = stop_first (asks_part words old.line (slope_forms net)) (after_slope net reaction old.line) e old before now s

-- the numbers are those that a slope may have
pub slope_free : (net : Net) (place : ℕ) (read : List ℤ) (r : Record) → IsPartSaid words (slope_forms net) place read r → AreFree (length net.names) read
slope_free net place read r s = by s.form
  where
    by : IsOneOf (slope_forms net) r → AreFree (length net.names) read
    by (form, inl e, f) = subst (AreFree (length net.names)) (sym s.numbers) (free_row (codes "slope") (length net.names) r (subst (λ (x : Form). Fits x r) e f)).1
    by (form, inr none, f) = absurd none

pub no_refused : (net : Net) (reaction place : ℕ) (r : Record) (old mid : Reading) (before now : SourceSeen) → IsGiven words (slope_forms net) r old mid before now → IsPartSaid words (slope_forms net) place mid.numbers.list r
    → mid.line ≡ old.line + 1 → (IsAgainst net (reaction - 1) mid.numbers.list → ⊥) → CanRead mid → StopIs (asks_no net reaction old.line) (Rejected 73 (mid.line - 1)) old before now
no_refused net reaction place r old mid before now s said e none can =
    stop_after (asks_part words old.line (slope_forms net)) (after_slope net reaction old.line) r (Rejected 73 (mid.line - 1)) old mid before now now s.0 s.1
    (own_fails old.line (mid.line - 1) 73 (IsAgainst net (reaction - 1) r.numbers) (λ x. Give (old.line + 1, No reaction)) mid now (omega (arith, e)) (λ h. none (subst (IsAgainst net (reaction - 1)) (sym said.numbers) h)) can)

pub no_then : (net : Net) (reaction place : ℕ) (r : Record) (old mid : Reading) (before now : SourceSeen) → IsGiven words (slope_forms net) r old mid before now → IsPartSaid words (slope_forms net) place mid.numbers.list r
    → mid.line ≡ old.line + 1 → IsAgainst net (reaction - 1) mid.numbers.list → ReadsSeen (asks_no net reaction old.line) (Ok (No reaction)) old mid before now
no_then net reaction place r old mid before now s said e against =
    let says : EndoSeen → ℕ × EndoSeen → Type 0 = Says mid.line in
    step_then_is (asks_part words old.line (slope_forms net)) (after_slope net reaction old.line) r says (Ok (No reaction)) old mid mid before now now s.0 s.1
    (own_holds old.line 73 (IsAgainst net (reaction - 1) r.numbers) (λ x. Give (old.line + 1, No reaction)) says (Ok (No reaction)) mid mid now now (subst (IsAgainst net (reaction - 1)) said.numbers against)
    (step_gives (old.line + 1, No reaction) says (No reaction) mid now (ap (λ (k : ℕ). (k, No reaction)) (sym e))))

-- ---- the line of the verdict

-- it is neither a yes nor a no
abbrev IsOpenWord : List ℕ → Type 0
IsOpenWord w = (bytes_eq w (codes "yes") ≡ false) × (bytes_eq w (codes "no") ≡ false)

-- what it says, by the place of its word
abbrev pub VerdictSaid : Net → ℕ → List ℤ → Record → Type 0
VerdictSaid net place read r = ((place ≡ 0) × IsSmallEnough net × (r ≡ one_word (codes "yes") []))
    ⊎ (((place ≡ 1) × ((k : ℕ) × (read ≡ pos k ∷ []) × IsFrom 1 (length net.reactions) k × (r ≡ small_record (codes "no") (k ∷ [])))) ⊎ ((1 < place) × IsOpenWord (word_of r)))

open_word : (r q : Record) → r ≡ q → IsOpenWord (word_of q) → IsOpenWord (word_of r)
open_word r q e o = subst (λ (x : Record). IsOpenWord (word_of x)) (sym e) o

verdict_said : (net : Net) (place : ℕ) (read : List ℤ) (r : Record) → IsPartSaid words (verdict_forms net) place read r → VerdictSaid net place read r
unfolding find
verdict_said net place read r s = by s.form
  where
    at : (w : List ℕ) → word_of r ≡ w → find w words ≡ place
    at w e = placed words (verdict_forms net) place read r w refl s e

    other : (form : Form) → IsIn form (other_forms net) → Fits form r → VerdictSaid net place read r
    other form (inl e) f =
        let k = one_back (codes "no") 1 (length net.reactions) r (subst (λ (x : Form). Fits x r) e f) in
        inr (inl (sym (at (codes "no") (ap word_of k.1)), (k.0, s.numbers ∙ ap (λ (q : Record). q.numbers) k.1, k.2, k.1)))
    other form (inr (inl e)) f =
        let v = wide_back (length net.reactions) (length net.names) (row_count net) r (subst (λ (x : Form). Fits x r) e f) in
        inr (inr (omega (arith, at (codes "wide") (ap word_of v.3)), open_word r _ v.3 (refl, refl)))
    other form (inr (inr (inl e))) f =
        let v = spent_back (length net.reactions) r (subst (λ (x : Form). Fits x r) e f) in
        inr (inr (omega (arith, at (codes "spent") (ap word_of v.2)), open_word r _ v.2 (refl, refl)))
    other form (inr (inr (inr (inl e)))) f =
        let is = bare_back (codes "large") r (subst (λ (x : Form). Fits x r) e f) in
        inr (inr (omega (arith, at (codes "large") (ap word_of is)), open_word r _ is (refl, refl)))
    other form (inr (inr (inr (inr none)))) f = absurd none

    by : IsOneOf (verdict_forms net) r → VerdictSaid net place read r
    by (form, i, f) = elim (verdict_back net form i) as (λ _. VerdictSaid net place read r) [
      | inl (small, e) ↦
          let is = bare_back (codes "yes") r (subst (λ (x : Form). Fits x r) e f) in
          inl (sym (at (codes "yes") (ap word_of is)), small_back net small, is)
      | inr j ↦ other form j f
    ]

-- a yes is of a network that is small enough
pub yes_small : (net : Net) (place : ℕ) (read : List ℤ) (r : Record) → place ≡ 0 → IsPartSaid words (verdict_forms net) place read r → IsSmallEnough net × (r ≡ one_word (codes "yes") [])
yes_small net place read r e s = elim (verdict_said net place read r s) as (λ _. IsSmallEnough net × (r ≡ one_word (codes "yes") [])) [
  | inl h ↦ (h.1, h.2)
  | inr (inl h) ↦ absurd (omega (arith, e, h.0))
  | inr (inr h) ↦ absurd (omega (arith, e, h.0))
]

-- a no is at a reaction
pub no_reaction : (net : Net) (place : ℕ) (read : List ℤ) (r : Record) → place ≡ 1 → IsPartSaid words (verdict_forms net) place read r
    → (k : ℕ) × (read ≡ pos k ∷ []) × IsFrom 1 (length net.reactions) k × (r ≡ small_record (codes "no") (k ∷ []))
no_reaction net place read r e s = elim (verdict_said net place read r s) as (λ _. (k : ℕ) × (read ≡ pos k ∷ []) × IsFrom 1 (length net.reactions) k × (r ≡ small_record (codes "no") (k ∷ []))) [
  | inl h ↦ absurd (omega (arith, e, h.0))
  | inr (inl h) ↦ h.1
  | inr (inr h) ↦ absurd (omega (arith, e, h.0))
]

open_said : (net : Net) (place : ℕ) (read : List ℤ) (r : Record) → (place ≡ 0 → ⊥) → (place ≡ 1 → ⊥) → IsPartSaid words (verdict_forms net) place read r → IsOpenWord (word_of r)
open_said net place read r none other s = elim (verdict_said net place read r s) as (λ _. IsOpenWord (word_of r)) [
  | inl h ↦ absurd (none h.0)
  | inr (inl h) ↦ absurd (other h.0)
  | inr (inr h) ↦ h.1
]

-- nothing follows an open answer
open_rest : (net : Net) (n : ℕ) (r : Record) (at : Reading) (now : SourceSeen) → IsOpenWord (word_of r) → StepIs (Give (n, Undecided)) (Says at.line) (Ok Undecided) at at now now → StepIs (asks_rest net n r) (Says at.line) (Ok Undecided) at at now now
open_rest net n r at now open_ t =
    let no = asks_no net (first_number r.numbers) n in
    subst (λ (b : Bool). StepIs (either b (asks_yes net n) (either (bytes_eq (word_of r) (codes "no")) no (Give (n, Undecided)))) (Says at.line) (Ok Undecided) at at now now) (sym open_.0)
    (subst (λ (b : Bool). StepIs (either b no (Give (n, Undecided))) (Says at.line) (Ok Undecided) at at now now) (sym open_.1) t)

pub answer_stop : (net : Net) (e : CheckStop) (old : Reading) (before now : SourceSeen) → StopIs (asks_part words old.line (verdict_forms net)) e old before now → StopIs (asks_endo net old.line) e old before now
answer_stop net e old before now s = stop_first (asks_part words old.line (verdict_forms net)) (λ r. asks_rest net (old.line + 1) r) e old before now s

-- the line of the verdict was read, and this is what follows
rest_then : (net : Net) (r : Record) (result : Result EndoSeen CheckStop) (old mid new : Reading) (before between now : SourceSeen) → IsGiven words (verdict_forms net) r old mid before between
    → mid.line ≡ old.line + 1 → ReadsSeen (asks_rest net mid.line r) result mid new between now → ReadsSeen (asks_endo net old.line) result old new before now
rest_then net r result old mid new before between now s e t =
    let says : EndoSeen → ℕ × EndoSeen → Type 0 = Says new.line in
    step_then_is (asks_part words old.line (verdict_forms net)) (λ q. asks_rest net (old.line + 1) q) r says result old mid new before between now s.0 s.1
    (subst (λ (k : ℕ). StepIs (asks_rest net k r) says result mid new between now) e t)

pub answer_yes : (net : Net) (r : Record) (result : Result EndoSeen CheckStop) (old mid new : Reading) (before between now : SourceSeen) → IsGiven words (verdict_forms net) r old mid before between → r ≡ one_word (codes "yes") []
    → mid.line ≡ old.line + 1 → ReadsSeen (asks_yes net mid.line) result mid new between now → ReadsSeen (asks_endo net old.line) result old new before now
answer_yes net r result old mid new before between now s is e t =
    rest_then net r result old mid new before between now s e (subst (λ (q : Record). ReadsSeen (asks_rest net mid.line q) result mid new between now) (sym is) t)

pub answer_no : (net : Net) (r : Record) (k : ℕ) (result : Result EndoSeen CheckStop) (old mid new : Reading) (before between now : SourceSeen) → IsGiven words (verdict_forms net) r old mid before between → r ≡ small_record (codes "no") (k ∷ [])
    → mid.line ≡ old.line + 1 → ReadsSeen (asks_no net k mid.line) result mid new between now → ReadsSeen (asks_endo net old.line) result old new before now
answer_no net r k result old mid new before between now s is e t =
    rest_then net r result old mid new before between now s e (subst (λ (q : Record). ReadsSeen (asks_rest net mid.line q) result mid new between now) (sym is) t)

pub answer_open : (net : Net) (place : ℕ) (r : Record) (old mid : Reading) (before now : SourceSeen) → (place ≡ 0 → ⊥) → (place ≡ 1 → ⊥) → IsPartSaid words (verdict_forms net) place mid.numbers.list r → IsGiven words (verdict_forms net) r old mid before now
    → mid.line ≡ old.line + 1 → ReadsSeen (asks_endo net old.line) (Ok Undecided) old mid before now
answer_open net place r old mid before now none other said s e =
    rest_then net r (Ok Undecided) old mid mid before now now s e (open_rest net mid.line r mid now (open_said net place mid.numbers.list r none other said) (step_gives (mid.line, Undecided) (Says mid.line) Undecided mid now refl))
