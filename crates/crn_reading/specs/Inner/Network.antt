-- For the contracts of private functions alone. The network that the lines of a document write.
use Rattle.std.specs.Prelude.{◌≡◌, ℕ, List, Option, Some, None}
use Rattle.crn_vec.specs.Network.{Net, IsNetwork}
use Rattle.crn_text.specs.Canonical.{canonical}

-- the text is the canonical text of this network, or of none
abbrev pub IsCanonicalText : List ℕ → Option Net → Type 0
IsCanonicalText text (Some net) = IsNetwork net × (canonical net ≡ text)
IsCanonicalText text None = (net : Net) → IsNetwork net → canonical net ≡ text → ⊥
