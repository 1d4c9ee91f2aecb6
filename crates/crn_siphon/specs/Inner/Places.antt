-- For the contracts of private functions alone.
-- Prefixes of sets of species as words of bits, and the ends of reactions.
use Rattle.std.specs.Prelude.{◌≡◌, ◌↔◌, ◌<◌, ◌≤◌, ◌+◌, ◌-◌, ◌⊎◌, ℕ, Bool, List, length, slice_index_or}
use Rattle.std.specs.List.{AllByRecursion}
use Rattle.crn_vec.specs.Network.{Net, Holds}
use Rattle.crn_siphon_check.specs.Siphons.{HasMember}
use Rattle.crn_siphon_check.specs.Prefixes.{IsOut}
use Rattle.crn_siphon.specs.declared.place.Place.{Place}
use Rattle.crn_siphon.specs.declared.ends.Ends.{Ends}
use Rattle.crn_siphon.specs.declared.ends.Holders.{Holders}
use Rattle.crn_siphon.specs.Inner.Sets.{Has}

-- the place is this prefix
pub record IsPlace (place : Place) (p : List Bool) : Type 0 where
  pub chosen : place.chosen ≡ length p
  pub inside : (s : ℕ) → Has place.inside s ↔ HasMember p s
  pub outside : (s : ℕ) → Has place.outside s ↔ IsOut p s

-- the species that the reactant and the product of a reaction hold
pub record AreEndsOf (net : Net) (r : ℕ × ℕ) (e : Ends) : Type 0 where
  pub reactant : (s : ℕ) → Has e.reactant s ↔ Holds net r.0 s
  pub product : (s : ℕ) → Has e.product s ↔ Holds net r.1 s

-- a reaction of the network, counted from 1, with its ends
abbrev pub IsReaction : Net → Ends → Type 0
IsReaction net e = (1 ≤ e.reaction) × (e.reaction ≤ length net.reactions)
    × AreEndsOf net (slice_index_or net.reactions (e.reaction - 1) (0, 0)) e

-- the first reactions, with their ends
pub record AreEnds (net : Net) (count : ℕ) (all : List Ends) : Type 0 where
  pub long : length all ≡ count
  pub each : (r : ℕ) (none : Ends) → r < count
      → ((slice_index_or all r none).reaction ≡ r + 1)
      × AreEndsOf net (slice_index_or net.reactions r (0, 0)) (slice_index_or all r none)

-- the reactant or the product of reaction r holds species s
abbrev pub HoldsIn : Net → (r s : ℕ) → Type 0
HoldsIn net r s = Holds net (slice_index_or net.reactions r (0, 0)).0 s
    ⊎ Holds net (slice_index_or net.reactions r (0, 0)).1 s

-- reactions, and among them those of the first ones that hold species s
pub record AreHolders (net : Net) (count s : ℕ) (all : List Ends) : Type 0 where
  pub each : AllByRecursion (λ e. IsReaction net e) all
  pub some : (r : ℕ) → r < count → HoldsIn net r s
      → (i : ℕ) × (i < length all) × ((none : Ends) → (slice_index_or all i none).reaction ≡ r + 1)

-- for each of the first species the reactions that hold it
pub record AreAllHolders (net : Net) (count : ℕ) (all : List Holders) : Type 0 where
  pub long : length all ≡ count
  pub each : (s : ℕ) (none : Holders) → s < count
      → AreHolders net (length net.reactions) s (slice_index_or all s none).ends.items

-- the product of reaction r holds a species that is in, and each one that its reactant holds is out
abbrev pub IsStopping : Net → Place → (r : ℕ) → Type 0
IsStopping net place r =
    ((s : ℕ) × Has place.inside s × Holds net (slice_index_or net.reactions r (0, 0)).1 s)
    × ((s : ℕ) → Holds net (slice_index_or net.reactions r (0, 0)).0 s → Has place.outside s)

-- no reaction stops the place
abbrev pub NoneStops : Net → Place → Type 0
NoneStops net place = (r : ℕ) → r < length net.reactions → IsStopping net place r → ⊥

-- each reaction that stops the place holds the species that was chosen last
abbrev pub StopsLast : Net → Place → Type 0
StopsLast net place = (r : ℕ) → r < length net.reactions → IsStopping net place r
    → (1 ≤ place.chosen) × HoldsIn net r (place.chosen - 1)
