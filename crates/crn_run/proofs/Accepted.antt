-- A good document in memory is accepted, unless memory runs out.
use Rattle.crn_run.proofs.Prelude.{◌≡◌, ℕ, List, Some, Result, Err, arith, sym, ◌∙◌, subst, inl, inr, ◌↔◌, Rose, SourceSeen, ReadOf, IsGood, IsReadOf, IsAccepted, IsAnswered, Accepted, CheckStop}
use Rattle.crn_reading.specs.declared.fault.CheckStop.TheVariants.{NoMemory}

-- a count that stays 0 does not rise
at_rest : (old new : SourceSeen) → old.faults ≡ 0 → new.faults ≡ 0 → Rose old.faults new.faults → ⊥
at_rest old new p q rose = omega (arith, p, q, rose)

pub only_memory : ((bytes : List ℕ) → IsGood bytes ↔ ((read : ReadOf) × IsReadOf bytes read)) → (text : List ℕ) (result : Result Accepted CheckStop) (stop : CheckStop) (old new : SourceSeen) → IsGood text
    → IsAnswered result old new → old.left ≡ Some text → old.faults ≡ 0 → new.faults ≡ 0 → result ≡ Err stop → stop ≡ NoMemory
only_memory reads text result stop old new good answered left before after is =
    let read = (reads text).0 good in
    elim (answered.good text read.0 left (at_rest old new before after) read.1) [
      | inl accepted ↦ absurd (subst (λ (r : Result Accepted CheckStop). IsAccepted r read.0) is accepted)
      | inr memory ↦ let e : Err stop ≡ Err NoMemory = sym is ∙ memory in cc
    ]
