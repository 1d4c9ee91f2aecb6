-- A document on robustness, as it is read from its title to its end.
use Rattle.crn_robust_text.proofs.Prelude.{◌≡◌, ℕ, [], refl, sym, subst, arith, Result, ◌↔◌, Net, IsNetwork, HasConfluenceLine, SourceSeen, AfterBlocks, asks_blocks, Known, meaning, StepGives, StepIs, StopIs, Reading, CheckStop, step_then_is, stop_first, Robust, Rests, rests_on, before, asks_verdict, asks_robust, line_of, IsTrueVerdict, ReadsVerdict}
use Rattle.crn_robust_text.proofs.TestsTrue.{line_by}

-- ---- the answer

pub blocks_stop : (net : Net) (e : CheckStop) (old : Reading) (first now : SourceSeen) → StopIs (asks_blocks meaning 1 [] rests_on (before net old.line)) e old first now → StopIs (asks_robust net old.line) e old first now
blocks_stop net e old first now s = stop_first (asks_blocks meaning 1 [] rests_on (before net old.line)) (λ after. asks_verdict net after) e old first now s

pub blocks_then : (net : Net) (y after : AfterBlocks Known) (result : Result Robust CheckStop) (old mid new : Reading) (first between now : SourceSeen) → y ≡ after → StepGives (asks_blocks meaning 1 [] rests_on (before net old.line)) y old.line mid.line old.lines mid.lines first.left between.left → between.faults ≡ first.faults
    → ReadsVerdict (asks_verdict net after) result mid new between now → ReadsVerdict (asks_robust net old.line) result old new first now
blocks_then net y after result old mid new first between now is g same s =
    let says : Robust → ℕ × Robust → Type 0 = λ robust y. y ≡ (new.line, robust) in
    step_then_is (asks_blocks meaning 1 [] rests_on (before net old.line)) (λ after. asks_verdict net after) y says result old mid new first between now g same
    (subst (λ (p : AfterBlocks Known). StepIs (asks_verdict net p) says result mid new between now) (sym is) s)

-- ---- the line

-- whether the confluence space is a line is told by a verdict that holds
pub line_told : (net : Net) (robust : Robust) → IsNetwork net → IsTrueVerdict net robust → (line_of robust ≡ 1) ↔ ((robust ≡ Rests → ⊥) × HasConfluenceLine net)
line_told net Rests n t = (λ e. absurd (omega (arith, e)), λ h. absurd (h.0 refl))
line_told net robust n t = by (λ e. cc)
  where
    by : (robust ≡ Rests → ⊥) → (line_of robust ≡ 1) ↔ ((robust ≡ Rests → ⊥) × HasConfluenceLine net)
    by ne = let law = line_by net robust n (t ne) in (λ e. (ne, law.0 e), λ h. law.1 h.1)
