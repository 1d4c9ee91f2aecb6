-- Tests in order, and the first that fails.
-- Source: this project's own.
-- Shapes: records count from 1 after the head, which is record 0.
use Rattle.std.specs.Prelude.{◌≡◌, ℕ, List, [], ◌∷◌, ◌⊎◌}
use Rattle.crn_cert.specs.Faults.{Fault, fault_number}

-- a test: its record, the kind of fault if it fails, and what has to hold
pub record Test : Type 1 where
  pub part : ℕ
  pub fault : Fault
  pub holds : Type 0

-- the test of these parts
abbrev pub test : ℕ → Fault → Type 0 → Test
test part fault holds = record { part = part; fault = fault; holds = holds }

-- all of them hold
abbrev pub AllHold : List Test → Type 0
AllHold [] = Unit {0}
AllHold (t ∷ ts) = t.holds × AllHold ts

-- the first test that fails is of this record, and its kind of fault has this number
abbrev pub FailsFirst : List Test → ℕ → ℕ → Type 0
FailsFirst [] part code = ⊥
FailsFirst (t ∷ ts) part code =
    ((t.holds → ⊥) × (t.part ≡ part) × (fault_number t.fault ≡ code))
    ⊎ (t.holds × FailsFirst ts part code)
