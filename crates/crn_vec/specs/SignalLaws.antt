-- Laws of signals over a shape.
use Rattle.std.specs.Prelude.{◌≡◌, ◌≤◌, ◌<◌, ℕ, ℤ, pos, ◌-ℤ◌, false, List, length, map, take}
use Rattle.std.specs.List.{AllByRecursion}
use Rattle.crn_vec.specs.declared.limits.TheConstants.{MAX_SPECIES, MAX_COMPLEXES}
use Rattle.crn_vec.specs.declared.signs.Sign.{Sign}
use Rattle.crn_vec.specs.Vectors.{Mat, dot, entry}
use Rattle.crn_vec.specs.Network.{Net, IsPartialNetwork}
use Rattle.crn_vec.specs.Concordance.{sign, image}
use Rattle.crn_vec.specs.Problems.{IsFull, IsLawful, IsSteady, IsFeasible, SolvesA, SolvesB}
use Rattle.crn_vec.specs.Signals.{Shape, IsSignal, IsStoichiometric, IsShape, signals}

-- if every complex is on the level, mu is orthogonal to each reaction vector; so if it also has the
-- signs of a combination of them, it is zero
abbrev pub LevelIsZero : Type 0
LevelIsZero = (net : Net) (m : Mat) (mu : List ℤ) (level : ℤ) (weights : List ℤ)
    → IsPartialNetwork net → IsStoichiometric net m
    → length mu ≡ length m.rows → length weights ≡ m.cols
    → AllByRecursion (λ y. dot y mu -ℤ level ≡ pos 0) net.complexes
    → map sign mu ≡ map sign (image m weights) → (k : ℕ) → entry mu k ≡ pos 0

-- the sign problem of signals meets the laws that trees depend on
abbrev pub SignalsAreSteady : Type 0
SignalsAreSteady = (s : Shape) (m : Mat) → IsSteady (signals s m)

-- there is a signal if and only if some full prefix of the problem is feasible
pub record SignalIfFeasible (s : Shape) (m : Mat) : Type 0 where
  pub feasible : (shelves : List Sign) (mu : List ℤ) (level : ℤ) (weights : List ℤ)
      → IsSignal s m shelves mu level weights
      → (p : List Sign) × IsFull (signals s m) p × IsFeasible (signals s m) p
  -- the solutions of both parts of a full open prefix are the signal
  pub named : (p : List Sign) (x weights : List ℤ) → IsFull (signals s m) p
      → (signals s m).closed p ≡ false → SolvesA (signals s m) p x → SolvesB (signals s m) p weights
      → IsSignal s m (take s.count p) (take s.species x) (entry x s.species) weights
  pub signal : (p : List Sign) → IsFull (signals s m) p → IsFeasible (signals s m) p
      → (shelves : List Sign) × (mu : List ℤ) × (level : ℤ) × (weights : List ℤ)
      × IsSignal s m shelves mu level weights

-- signals and full feasible prefixes agree
abbrev pub FeasiblePrefixesDecideSignals : Type 0
FeasiblePrefixesDecideSignals = (net : Net) (s : Shape) (m : Mat) → IsPartialNetwork net
    → IsStoichiometric net m → IsShape net s → SignalIfFeasible s m

-- the limits of a network hold, and there are fewer cut pairs than complexes
pub record IsFew (s : Shape) (m : Mat) : Type 0 where
  pub rows : length m.rows ≡ s.species
  pub species : s.species ≤ MAX_SPECIES
  pub complexes : length s.complexes ≤ MAX_COMPLEXES
  pub tops : length s.tops ≡ length s.complexes
  pub pairs : length s.pairs < length s.complexes

-- within these limits the sign problem of signals meets the laws of sign problems
abbrev pub SignalsAreLawful : Type 0
SignalsAreLawful = (s : Shape) (m : Mat) → IsFew s m → IsLawful (signals s m)
