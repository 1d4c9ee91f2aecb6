-- What a stop shows of the matrix: some primitive elementary vector of it is wide.
use Rattle.crn_farkas.proofs.Prelude.{◌≡◌, ◌⊎◌, ℕ, ◌-◌, inl, inr, List, refl, Result, Ok, Err, Kind, Mat, AreOfLength, NamesWide, IsWideMatrix, IsRefused, NamesRows, wide_shown, exchanged_list, Decision, Stop, Wide, NoMemory, IsDecision, IsStop, IsRefusedStop}
use Rattle.std.specs.Prelude.{MatchResult}

-- numbers that name a wide vector show that the matrix has one
names_wide : (a : Mat) (index : ℕ) (numbers : List ℕ) → AreOfLength a.cols a.rows → NamesWide a index numbers → IsWideMatrix a
names_wide a index numbers long n = wide_shown a n.from_zero (index - 1) long n.wide

pub narrow_decided : (a : Mat) (kinds : List Kind) (answer : Result Decision Stop) → AreOfLength a.cols a.rows → (IsWideMatrix a → ⊥)
    → MatchResult answer (IsDecision a kinds) (IsStop a kinds) → ((d : Decision) × (answer ≡ Ok d)) ⊎ (answer ≡ Err NoMemory)
narrow_decided a kinds (Ok d) long narrow is = inl (d, refl)
narrow_decided a kinds (Err (Wide index basis)) long narrow is = absurd (narrow (names_wide a index basis.list long is.0))
narrow_decided a kinds (Err NoMemory) long narrow is = inr refl

-- an exchange that is refused does too, as the list after it is there
refused_exchange : (a : Mat) (basis : List ℕ) (leave enter index : ℕ) → NamesRows a basis → IsRefused a basis leave enter index → IsWideMatrix a
refused_exchange a basis leave enter index t r =
    let next = exchanged_list basis leave enter t.basis_is.ascending in
    wide_shown a next.0 (index - 1) t.wide (r.wide next.0 next.1)

pub refused_wide : (a : Mat) (basis : List ℕ) (stop : Stop) → NamesRows a basis → IsRefusedStop a basis stop → IsWideMatrix a
refused_wide a basis (Wide index numbers) t is = names_wide a index numbers.list t.wide is.0
refused_wide a basis NoMemory t is = refused_exchange a basis is.leave is.enter is.index t is.refused
