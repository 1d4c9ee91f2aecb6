-- The blocks of a document on robustness, read one after another as facts.
use Rattle.crn_robust_text.proofs.Prelude.{◌≡◌, ◌<◌, ℕ, List, [], ◌∷◌, map, refl, sym, ap, subst, inl, inr, arith, Result, Ok, Err, IfOk, Net, IsNetwork, Verdict, Earlier, Question, Q1, Q2, Q5, number, SourceSeen, AfterBlocks, asks_all, asks_block, asks_blocks, Known, meaning, StepGives, KeptFacts, AreFactsOf, HoldsNoneFrom, HoldsOn, IsAfterFacts, IsKnownFor, after_facts, StepIs, StopIs, Reading, CheckStop, step_then_is, step_map, stop_first, HoldsBlocks, before}

-- ---- steps

pub block_stops : (q : Question) (qs : List Question) (here : AfterBlocks Known) (e : CheckStop) (old : Reading) (start now : SourceSeen) → StopIs (asks_block meaning 1 [] q here) e old start now → StopIs (asks_blocks meaning 1 [] (q ∷ qs) here) e old start now
unfolding asks_blocks asks_all
block_stops q qs here e old start now s = stop_first (asks_block meaning 1 [] q here) (λ after. asks_blocks meaning 1 [] qs after) e old start now s

pub block_then : {T : Type 0} (q : Question) (qs : List Question) (net : Net) (made : Earlier) (here y : AfterBlocks Known) (Says : T → AfterBlocks Known → Type 0) (result : Result T CheckStop) (old mid new : Reading) (start between now : SourceSeen)
    → (after : IsAfterFacts net made mid.line y) → StepGives (asks_block meaning 1 [] q here) y old.line mid.line old.lines mid.lines start.left between.left → between.faults ≡ start.faults
    → StepIs (asks_blocks meaning 1 [] qs (after_facts net made mid.line after.0)) Says result mid new between now → StepIs (asks_blocks meaning 1 [] (q ∷ qs) here) Says result old new start now
unfolding asks_blocks asks_all
block_then q qs net made here y Says result old mid new start between now after g same s =
    step_then_is (asks_block meaning 1 [] q here) (λ end. asks_blocks meaning 1 [] qs end) y Says result old mid new start between now g same
    (subst (λ (p : AfterBlocks Known). StepIs (asks_blocks meaning 1 [] qs p) Says result mid new between now) (sym after.1) s)

pub block_last : {T : Type 0} (q : Question) (here : AfterBlocks Known) (Says : T → AfterBlocks Known → Type 0) (result : Result T CheckStop) (old new : Reading) (start now : SourceSeen) → StepIs (asks_block meaning 1 [] q here) Says result old new start now → StepIs (asks_blocks meaning 1 [] (q ∷ []) here) Says result old new start now
unfolding asks_blocks asks_all
block_last q here Says result old new start now s = step_map (asks_block meaning 1 [] q here) (λ y. y) Says Says result old new start now (λ t y h. h) s

-- before the first block nothing is known, and lines are those of version 1
pub first_step : {T : Type 0} (net : Net) (version : ℕ) (earlier : Earlier) (Says : T → AfterBlocks Known → Type 0) (result : Result T CheckStop) (old new : Reading) (first now : SourceSeen) → version ≡ 1 → earlier ≡ []
    → StepIs (asks_block meaning version [] Q1 (after_facts net earlier old.line [])) Says result old new first now → StepIs (asks_block meaning 1 [] Q1 (before net old.line)) Says result old new first now
first_step net version earlier Says result old new first now v e s =
    subst (λ (k : ℕ). StepIs (asks_block meaning k [] Q1 (before net old.line)) Says result old new first now) v
    (subst (λ (es : Earlier). StepIs (asks_block meaning version [] Q1 (after_facts net es old.line [])) Says result old new first now) e s)

pub later_step : {T : Type 0} (version : ℕ) (q : Question) (here : AfterBlocks Known) (Says : T → AfterBlocks Known → Type 0) (result : Result T CheckStop) (old new : Reading) (first now : SourceSeen) → version ≡ 1
    → StepIs (asks_block meaning version [] q here) Says result old new first now → StepIs (asks_block meaning 1 [] q here) Says result old new first now
later_step version q here Says result old new first now v s = subst (λ (k : ℕ). StepIs (asks_block meaning k [] q here) Says result old new first now) v s

-- nothing is said if there is no answer
abbrev pub Nothing : Unit {0} → AfterBlocks Known → Type 0
Nothing t y = Unit {0}

-- ---- facts

-- the questions of facts
abbrev Ask : Earlier → List Question → Type 0
Ask earlier qs = map (λ (e : Question × Verdict). e.0) earlier ≡ qs

asked_one : (es : Earlier) (q : Question) (qs : List Question) → Ask es (q ∷ qs) → HoldsOn es (number q)
asked_one [] q qs e = absurd cc
asked_one (x ∷ es) q qs e = let same : x.0 ≡ q = cc in inl (sym (ap number same))

asked_two : (es : Earlier) (p q : Question) (qs : List Question) → Ask es (p ∷ q ∷ qs) → HoldsOn es (number q)
asked_two [] p q qs e = absurd cc
asked_two (x ∷ es) p q qs e = inr (asked_one es q qs cc)

asked_three : (es : Earlier) (o p q : Question) (qs : List Question) → Ask es (o ∷ p ∷ q ∷ qs) → HoldsOn es (number q)
asked_three [] o p q qs e = absurd cc
asked_three (x ∷ es) o p q qs e = inr (asked_two es p q qs cc)

none_asked : (es : Earlier) (n : ℕ) → Ask es [] → HoldsNoneFrom n es
none_asked [] n e = tt
none_asked (x ∷ es) n e = absurd cc

more_asked : (es : Earlier) (q : Question) (qs : List Question) (n : ℕ) → number q < n → ((rest : Earlier) → Ask rest qs → HoldsNoneFrom n rest) → Ask es (q ∷ qs) → HoldsNoneFrom n es
more_asked [] q qs n lt more e = absurd cc
more_asked (x ∷ es) q qs n lt more e =
    let same : x.0 ≡ q = cc in
    (subst (λ (p : Question). number p < n) (sym same) lt, more es cc)

-- before each of the three blocks
pub first_known : (net : Net) (facts : KeptFacts) → IsNetwork net → AreFactsOf net facts → Ask facts.earlier [] → IsKnownFor net 1 facts
first_known net facts n f asks = record { network = n; facts_of = f; needs = tt; none = none_asked facts.earlier 1 asks; first = λ other. absurd (other refl) }

pub second_known : (net : Net) (facts : KeptFacts) → IsNetwork net → AreFactsOf net facts → Ask facts.earlier (Q1 ∷ []) → IsKnownFor net 2 facts
second_known net facts n f asks = record {
  network = n;
  facts_of = f;
  needs = tt;
  none = more_asked facts.earlier Q1 [] 2 (omega arith) (λ es e. none_asked es 2 e) asks;
  first = λ other. asked_one facts.earlier Q1 [] asks;
}

pub third_known : (net : Net) (facts : KeptFacts) → IsNetwork net → AreFactsOf net facts → Ask facts.earlier (Q1 ∷ Q2 ∷ []) → IsKnownFor net 5 facts
third_known net facts n f asks = record {
  network = n;
  facts_of = f;
  needs = tt;
  none = more_asked facts.earlier Q1 (Q2 ∷ []) 5 (omega arith) (λ es e. more_asked es Q2 [] 5 (omega arith) (λ fs d. none_asked fs 5 d) e) asks;
  first = λ other. asked_one facts.earlier Q1 (Q2 ∷ []) asks;
}

-- and after them
pub all_held : (earlier : Earlier) → Ask earlier (Q1 ∷ Q2 ∷ Q5 ∷ []) → HoldsBlocks earlier
all_held earlier asks = record {
  linkage = asked_one earlier Q1 (Q2 ∷ Q5 ∷ []) asks;
  strong = asked_two earlier Q1 Q2 (Q5 ∷ []) asks;
  rank = asked_three earlier Q1 Q2 Q5 [] asks;
}

-- of an answer, if there is one
pub if_answered : {T E : Type 0} (P Q : T → Type 0) (result : Result T E) → ((t : T) → P t → Q t) → IfOk result P → IfOk result Q
if_answered P Q (Ok t) more p = more t p
if_answered P Q (Err e) more p = tt
