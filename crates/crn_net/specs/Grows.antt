-- What adding the reaction of a statement does to a network, over plain lists.
-- Shapes: a statement is two sides, each a list of names with numbers. Complexes are lists of amounts, one for each
-- species; if a statement brings new names, they get zeros for these at their end.
use Rattle.std.specs.Prelude.{◌≡◌, ◌≤◌, ◌<◌, ◌-◌, ℕ, ℤ, pos, List, [], ◌∷◌, ◌++◌, length, map, replicate, Result, Ok, Err}
use Rattle.std.specs.Str.{bytes_eq}
use Rattle.std.specs.Ordering.{int_eq}
use Rattle.std.specs.Cmp.Lexicographic.{pointwise}
use Rattle.crn_vec.specs.Lists.{firsts}
use Rattle.crn_vec.specs.Network.{Net, IsPartialNetwork, IsNetwork, sides_of, sides_eq, said_by, names_in, Statement}
use Rattle.crn_vec.specs.declared.limits.TheConstants.{MAX_SPECIES, MAX_COMPLEXES, MAX_REACTIONS}
use Rattle.crn_net.specs.declared.fault.NetFault.{NetFault}
use Rattle.crn_net.specs.declared.fault.NetFault.TheVariants.{SelfReaction, TooManySpecies, TooManyComplexes, TooManyReactions, NoReaction, NoMemory}

-- the amounts with zeros at their end for the species that come later, as many numbers as `width`
abbrev pub with_zeros : ℕ → List ℤ → List ℤ
with_zeros width amounts = amounts ++ replicate (width - length amounts) (pos 0)

-- both complexes of a reaction with zeros at their end
abbrev pub both_with_zeros : ℕ → List ℤ × List ℤ → List ℤ × List ℤ
both_with_zeros width r = (with_zeros width r.0, with_zeros width r.1)

-- the names of the network and of the statement, each once, in order of first appearance
abbrev pub names_with : Net → Statement → List (List ℕ)
names_with old s = firsts bytes_eq (old.names ++ names_in s)

-- the sides of the statement as amounts of all these names
abbrev pub said_with : Net → Statement → List ℤ × List ℤ
said_with old s = said_by (names_with old s) s

-- the complexes of the network, with zeros for the new names, and those of the statement, each once, in order
abbrev pub complexes_with : Net → Statement → List (List ℤ)
complexes_with old s =
    let width = length (names_with old s) in
    let both = said_with old s in
    firsts (pointwise int_eq) (map (with_zeros width) old.complexes ++ both.0 ∷ both.1 ∷ [])

-- the reactions of the network, with zeros for the new names, and that of the statement, each once, in order
abbrev pub reactions_with : Net → Statement → List (List ℤ × List ℤ)
reactions_with old s =
    let width = length (names_with old s) in
    let old_ones = map (λ r. both_with_zeros width (sides_of old r)) old.reactions in
    firsts sides_eq (old_ones ++ said_with old s ∷ [])

-- both sides of the statement are the same complex
abbrev pub IsSelf : Net → Statement → Type 0
IsSelf old s = (said_with old s).0 ≡ (said_with old s).1

-- the new network has the names and reactions of the old one and those of the statement
pub record Grows (old : Net) (s : Statement) (new : Net) : Type 0 where
  pub names : new.names ≡ names_with old s
  pub reactions : map (sides_of new) new.reactions ≡ reactions_with old s
  pub network : IsPartialNetwork new
  pub apart : IsSelf old s → ⊥
  pub species_fit : length (names_with old s) ≤ MAX_SPECIES
  pub complexes_fit : length (complexes_with old s) ≤ MAX_COMPLEXES
  pub reactions_fit : length (reactions_with old s) ≤ MAX_REACTIONS

-- With the statement there would be too many complexes, but not too many species.
pub record HasTooManyComplexes (old : Net) (s : Statement) : Type 0 where
  pub apart : IsSelf old s → ⊥
  pub species_fit : length (names_with old s) ≤ MAX_SPECIES
  pub complexes_many : MAX_COMPLEXES < length (complexes_with old s)

-- With the statement there would be too many reactions, but not too many species or complexes.
pub record HasTooManyReactions (old : Net) (s : Statement) : Type 0 where
  pub apart : IsSelf old s → ⊥
  pub species_fit : length (names_with old s) ≤ MAX_SPECIES
  pub complexes_fit : length (complexes_with old s) ≤ MAX_COMPLEXES
  pub reactions_many : MAX_REACTIONS < length (reactions_with old s)

-- the network grows, or stays as it was and the first cause of a refusal is the answer; memory may run out at any point
abbrev pub AddGives : Net → Statement → Result Unit NetFault → Net → Type 0
AddGives old s (Ok done) new = Grows old s new
AddGives old s (Err SelfReaction) new = (new ≡ old) × IsSelf old s
AddGives old s (Err TooManySpecies) new =
    (new ≡ old) × (IsSelf old s → ⊥) × (MAX_SPECIES < length (names_with old s))
AddGives old s (Err TooManyComplexes) new = (new ≡ old) × HasTooManyComplexes old s
AddGives old s (Err TooManyReactions) new = (new ≡ old) × HasTooManyReactions old s
AddGives old s (Err NoMemory) new = new ≡ old
AddGives old s (Err NoReaction) new = ⊥

-- the network that was built, or the refusal if it has no reaction; memory may run out
abbrev pub FinishGives : Net → Result Net NetFault → Type 0
FinishGives old (Ok net) = (net ≡ old) × IsNetwork net
FinishGives old (Err NoReaction) = old.reactions ≡ []
FinishGives old (Err NoMemory) = Unit {0}
FinishGives old (Err fault) = ⊥

-- ---- a network that statements make, one after another, from nothing

-- the network of nothing
abbrev pub no_net : Net
no_net = record { names = []; complexes = []; reactions = [] }

-- the network comes from the first one by adding these statements one after another
abbrev pub GrownFrom : Net → List Statement → Net → Type 0
GrownFrom start [] net = net ≡ start
GrownFrom start (s ∷ ss) net = (next : Net) × Grows start s next × GrownFrom next ss net

-- the network that these statements make from nothing
abbrev pub Grown : List Statement → Net → Type 0
Grown ss net = GrownFrom no_net ss net
