-- Numbers over the complexes: the combination of the complexes with them, and their sums over classes.
use Rattle.crn_check.proofs.Prelude.{◌≡◌, inl, inr, ℕ, ◌<◌, List, length, ℤ, pos, Net, IsNetwork, combination_at, lt_or, vector_long, IsBalanced}
use Rattle.crn_check.proofs.Widths.{combination_past}

-- complexes have no amounts past the species
pub balanced_by : (net : Net) (g : List ℤ) → IsNetwork net → ((s : ℕ) → s < length net.names → combination_at g net.complexes s ≡ pos 0) → IsBalanced net g
balanced_by net g n h s = elim (lt_or s (length net.names)) [
  | inl lt ↦ h s lt
  | inr past ↦ combination_past g net.complexes (length net.names) s (λ j lt. vector_long (length net.names) net.complexes n.partial.vectors j lt) past
]
