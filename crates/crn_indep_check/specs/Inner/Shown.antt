-- For the contracts of private functions alone.
-- The tests of the labels and of the links of a decomposition.
-- Shapes: records count from 1.
use Rattle.std.specs.Prelude.{◌≡◌, ◌⊎◌, ◌+◌, ℕ, List, Result, Ok, Err}
use Rattle.crn_vec.specs.Network.{Net}
use Rattle.crn_cert.specs.declared.answer.RankProof.{RankProof}
use Rattle.crn_check.specs.declared.fault.CheckFault.{CheckFault}
use Rattle.crn_indep_check.specs.Shown.{AreEvenLabels, AreLinked, label_record}

-- both hold, or which fails first
abbrev pub JudgesLinks : Net → RankProof → (labels up depth : List ℕ)
    → Result (Unit {0}) CheckFault → Type 0
JudgesLinks net proof labels up depth (Ok u) =
    AreEvenLabels net proof labels × AreLinked net proof labels up depth
JudgesLinks net proof labels up depth (Err fault) =
    ((AreEvenLabels net proof labels → ⊥) × (fault.part ≡ label_record proof) × (fault.code ≡ 63))
    ⊎ (AreEvenLabels net proof labels × ((AreLinked net proof labels up depth → ⊥)
    × (fault.part ≡ label_record proof + 2) × (fault.code ≡ 64)))
