-- What steps through a whole document say of its text.
use Rattle.crn_reading.proofs.Prelude.{◌≡◌, ◌≤◌, ◌+◌, ◌-◌, ◌++◌, ◌∙◌, ℕ, List, [], length, take, drop, length-drop, Option, Some, None, refl, sym, subst, ap, inl, inr, arith, Result, Ok, Err, append-nil, take-append-drop, cases_lt, MAX_DOCUMENT, MAX_AHEAD, SourceSeen, Place, beginning, KeptLines, place, Consumes, Course, Give, Test, ◌>>=◌, Gives, FailsFirst, Awaits, IsRest, StepFails, StepAwaits, StepEnds, cut, AwaitedIn, IsRead, IsTextOf, PullsAwaited, PullsDocument, Reading, CheckStop, StepIs, StepStops, StopIs, EndStepIs}
use Rattle.crn_ctext.specs.Course.{Line, End}
use Rattle.crn_reading.specs.declared.fault.CheckStop.TheVariants as stop

-- ---- courses one after another, in other brackets

pub gives_all : {A B C : Type 0} (m : Course A) (k : A → Course B) (f : B → Course C) (at after : Place) (y : C) → Gives ((m >>= k) >>= f) at y after → Gives (m >>= (λ x. k x >>= f)) at y after
unfolding Gives
gives_all (Give x) k f at after y p = p
gives_all (Line node next) k f at after y p = (p.0, p.1, p.2, gives_all (next p.0) k f p.1 after y p.3)
gives_all (Test n c X P next) k f at after y p = (p.0, p.1, gives_all (next p.0) k f at after y p.2)
gives_all (End next) k f at after y p = (p.0, gives_all next k f at after y p.1)

pub fails_all : {A B C : Type 0} (m : Course A) (k : A → Course B) (f : B → Course C) (at : Place) (n code : ℕ) → FailsFirst ((m >>= k) >>= f) at n code → FailsFirst (m >>= (λ x. k x >>= f)) at n code
unfolding FailsFirst
fails_all (Give x) k f at n code p = p
fails_all (Line node next) k f at n code (inr p) = inr (p.0, p.1, p.2, fails_all (next p.0) k f p.1 n code p.3)
fails_all (Test m c X P next) k f at n code (inl p) = inl p
fails_all (Test m c X P next) k f at n code (inr p) = inr (p.0, p.1, fails_all (next p.0) k f at n code p.2)
fails_all (End next) k f at n code (inr p) = inr (p.0, fails_all next k f at n code p.1)
fails_all m k f at n code (inl p) = inl p

pub awaits_all : {A B C : Type 0} (m : Course A) (k : A → Course B) (f : B → Course C) (at : Place) → Awaits ((m >>= k) >>= f) at → Awaits (m >>= (λ x. k x >>= f)) at
unfolding Awaits
awaits_all (Give x) k f at p = p
awaits_all (Line node next) k f at (inr p) = inr (p.0, p.1, p.2, awaits_all (next p.0) k f p.1 p.3)
awaits_all (Test m c X P next) k f at p = (p.0, p.1, awaits_all (next p.0) k f at p.2)
awaits_all (End next) k f at (inr p) = inr (p.0, awaits_all next k f at p.1)
awaits_all m k f at (inl p) = inl p

pub stops_all : {A B C : Type 0} (m : Course A) (k : A → Course B) (f : B → Course C) (e : CheckStop) (old : Reading) (before now : SourceSeen)
    → StopIs ((m >>= k) >>= f) e old before now → StopIs (m >>= (λ x. k x >>= f)) e old before now
stops_all m k f (stop.Rejected code line) old before now p = let e = p.0 in
    (record { pulled = e.pulled; off = e.off; bound = e.bound; fails = λ rest r. fails_all m k f (place old.line old.lines (e.pulled ++ rest)) line code (let g = e.fails in g rest r); awaits = λ begun last same far. awaits_all m k f (cut (place old.line old.lines e.pulled) begun) (let g = e.awaits in g begun last same far) }, p.1)
stops_all m k f stop.Failed old before now p = let e = p.0 in
    (record { pulled = e.pulled; off = e.off; bound = e.bound; awaits = awaits_all m k f (place old.line old.lines e.pulled) e.awaits }, p.1, p.2)
stops_all m k f stop.NoMemory old before now p = p

pub ends_all : {A B C T : Type 0} (m : Course A) (k : A → Course B) (f : B → Course C) (y : C) (result : Result T CheckStop) (old : Reading) (before now : SourceSeen)
    → EndStepIs ((m >>= k) >>= f) y result old before now → EndStepIs (m >>= (λ x. k x >>= f)) y result old before now
ends_all m k f y (Ok t) old before now p = let e = p.0.2 in
    ((p.0.0, p.0.1, record { pulled = e.pulled; off = e.off; bound = e.bound; gives = λ rest r. gives_all m k f (place old.line old.lines (e.pulled ++ rest)) (place p.0.0 p.0.1 rest) y (let g = e.gives in g rest r) }), p.1, p.2)
ends_all m k f y (Err e) old before now p = stops_all m k f e old before now p

pub steps_all : {A B C T : Type 0} (m : Course A) (k : A → Course B) (f : B → Course C) (Says : T → C → Type 0) (result : Result T CheckStop) (old new : Reading) (before now : SourceSeen)
    → StepIs ((m >>= k) >>= f) Says result old new before now → StepIs (m >>= (λ x. k x >>= f)) Says result old new before now
steps_all m k f Says (Ok t) old new before now p = let e = p.2 in
    (p.0, p.1, record { pulled = e.pulled; off = e.off; gives = λ rest. gives_all m k f (place old.line old.lines (e.pulled ++ rest)) (place new.line new.lines rest) p.0 (let g = e.gives in g rest) }, p.3)
steps_all m k f Says (Err e) old new before now p = stops_all m k f e old before now p

-- ---- the text

-- what is left after a step, as the text goes on
rest_of : (left after : Option (List ℕ)) (pulled : List ℕ) → Consumes left pulled after → (rest : List ℕ) × IsRest after rest × IsTextOf left pulled (pulled ++ rest)
rest_of None None pulled off = ([], refl, append-nil pulled)
rest_of None (Some r) pulled off = absurd cc
rest_of (Some left) None pulled off = absurd (let e = off.1 in cc)
rest_of (Some left) (Some r) pulled off = (r, refl, let e = off.1 in let same : r ≡ off.0 = cc in ap (λ (t : List ℕ). pulled ++ t) same ∙ sym off.2)

at_start : (start : KeptLines) (text : List ℕ) → start.ahead ≡ [] → start.taken ≡ 0 → place 1 start text ≡ beginning text
at_start start text none zero = ap (λ (t : List ℕ). record { line = 1; before = start.taken; left = t ++ text }) none ∙ ap (λ (k : ℕ). record { line = 1; before = k; left = text }) zero

few_pulled : (start : KeptLines) (pulled : List ℕ) → start.ahead ≡ [] → start.taken ≡ 0 → start.taken + length (start.ahead ++ pulled) ≤ MAX_DOCUMENT + MAX_AHEAD → length pulled ≤ MAX_DOCUMENT + MAX_AHEAD
few_pulled start pulled none zero le = let same : length (start.ahead ++ pulled) ≡ length pulled = ap (λ (t : List ℕ). length (t ++ pulled)) none in omega (arith, same, zero, le)

-- if a course goes through from the first line to the end, a text was read that gives this
pub text_gives : {A : Type 0} (c : Course A) (y : A) (m : ℕ) (start kept : KeptLines) (before now : SourceSeen) → start.ahead ≡ [] → start.taken ≡ 0
    → StepEnds c y 1 m start kept before.left now.left → now.faults ≡ before.faults
    → (text : List ℕ) × IsRead text before now × ((after : Place) × Gives c (beginning text) y after)
text_gives c y m start kept before now none zero p same =
    let r = rest_of before.left now.left p.pulled p.off in (
      p.pulled ++ r.0,
      record { pulled = p.pulled; consumed = p.off; bound = few_pulled start p.pulled none zero p.bound; is = r.2; faults = same },
      (place m kept r.0, subst (λ (at : Place). Gives c at y (place m kept r.0)) (at_start start (p.pulled ++ r.0) none zero) (let g = p.gives in g r.0 r.1)),
    )

awaited_at_start : {A : Type 0} (c : Course A) (start : KeptLines) (text : List ℕ) → start.taken ≡ 0 → Awaits c (record { line = 1; before = start.taken; left = text }) → Awaits c (beginning text)
awaited_at_start c start text zero p = subst (λ (k : ℕ). Awaits c (record { line = 1; before = k; left = text })) zero p

-- a text that is short ends in the last pull, and of a longer one all but that
awaited_in : {A : Type 0} (c : Course A) (start : KeptLines) (pulled : List ℕ) → start.ahead ≡ [] → start.taken ≡ 0 → Awaits c (beginning [])
    → ((begun last : List ℕ) → start.ahead ++ pulled ≡ begun ++ last → MAX_AHEAD ≤ length last → Awaits c (record { line = 1; before = start.taken; left = begun })) → AwaitedIn c pulled
awaited_in c start pulled none zero first p = elim (cases_lt (length pulled) MAX_AHEAD) [
  | inl short ↦ ([], pulled, refl, first, omega arith)
  | inr long ↦
      let k : ℕ = length pulled - MAX_AHEAD in
      let parts : pulled ≡ take k pulled ++ drop k pulled = sym (take-append-drop k pulled) in
      let size : length (drop k pulled) ≡ MAX_AHEAD = omega (arith, length-drop k pulled, long) in
      (take k pulled, drop k pulled, parts, awaited_at_start c start (take k pulled) zero (p (take k pulled) (drop k pulled) (ap (λ (t : List ℕ). t ++ pulled) none ∙ parts) (omega (arith, size))), omega (arith, size))
]

-- and if it fails first somewhere, a text was read that fails first there
pub text_fails : {A : Type 0} (c : Course A) (start : KeptLines) (before now : SourceSeen) (line code : ℕ) → start.ahead ≡ [] → start.taken ≡ 0 → Awaits c (beginning [])
    → StepFails c 1 start before.left now.left line code → now.faults ≡ before.faults
    → (text : List ℕ) × (read : IsRead text before now) × FailsFirst c (beginning text) line code × AwaitedIn c read.pulled
text_fails c start before now line code none zero first p same =
    let r = rest_of before.left now.left p.pulled p.off in (
      p.pulled ++ r.0,
      record { pulled = p.pulled; consumed = p.off; bound = few_pulled start p.pulled none zero p.bound; is = r.2; faults = same },
      subst (λ (at : Place). FailsFirst c at line code) (at_start start (p.pulled ++ r.0) none zero) (let g = p.fails in g r.0 r.1),
      awaited_in c start p.pulled none zero first p.awaits,
    )

-- a course that begins with a line awaits it
pub text_awaits : {A : Type 0} (c : Course A) (start : KeptLines) (before now : SourceSeen) → start.ahead ≡ [] → start.taken ≡ 0 → StepAwaits c 1 start before.left now.left
    → PullsDocument before now × PullsAwaited c before now
text_awaits c start before now none zero p =
    ((p.pulled, few_pulled start p.pulled none zero p.bound, p.off), (p.pulled, p.off, subst (λ (at : Place). Awaits c at) (at_start start p.pulled none zero) p.awaits))

-- and no more was pulled than one pull after the bound of documents
pub text_stops : (start : KeptLines) (before now : SourceSeen) → start.ahead ≡ [] → start.taken ≡ 0 → StepStops start before.left now.left → PullsDocument before now
text_stops start before now none zero p = (p.pulled, few_pulled start p.pulled none zero p.bound, p.off)
