-- The canonical text of a network: one line for each reaction.
-- The form is this project's own.
use Rattle.std.specs.Prelude.{ℕ, ℤ, pos, negsuc, zero, suc, List, [], ◌∷◌, ◌++◌, codes, decimal, slice_index_or}
use Rattle.std.specs.List.{flat_map}
use Rattle.crn_vec.specs.Network.{Net, IsNetwork}
use Rattle.crn_io.specs.Joined.{joined}
use Rattle.crn_text.specs.Spells.{Spells}

-- a species, with its amount before it if that is 2 or more
abbrev pub term : ℤ → List ℕ → List ℕ
term (pos (suc zero)) name = name
term (pos n) name = decimal n ++ name
term (negsuc n) name = name

-- such a term, if there is some of the species
abbrev pub term_if_some : ℤ → List ℕ → List (List ℕ)
term_if_some (pos zero) name = []
term_if_some (pos (suc n)) name = term (pos (suc n)) name ∷ []
term_if_some (negsuc n) name = []

-- the species of a complex with their amounts
abbrev pub terms : List (List ℕ) → List ℤ → List (List ℕ)
terms (name ∷ names) (a ∷ amounts) = term_if_some a name ++ terms names amounts
terms [] amounts = []
terms (name ∷ names) [] = []

-- the terms joined, or a zero if there are none
abbrev pub or_zero : List (List ℕ) → List ℕ
or_zero [] = codes "0"
or_zero (t ∷ ts) = joined (codes " + ") (t ∷ ts)

-- a complex as the canonical text writes it
unfoldable pub side : List (List ℕ) → List ℤ → List ℕ
side names amounts = or_zero (terms names amounts)

-- complex c of a network
abbrev pub complex_text : Net → ℕ → List ℕ
complex_text net c = side net.names (slice_index_or net.complexes c [])

-- the line of a reaction
abbrev pub reaction_line : Net → ℕ × ℕ → List ℕ
reaction_line net r = complex_text net r.0 ++ codes " -> " ++ complex_text net r.1 ++ codes "\n"

-- the lines of the reactions in order
abbrev pub canonical : Net → List ℕ
canonical net = flat_map (reaction_line net) net.reactions

-- the canonical text of each network spells that network
abbrev pub CanonicalTextSpells : Type 0
CanonicalTextSpells = (net : Net) → IsNetwork net → Spells (canonical net) net
