-- The linear systems of a network: their matrices, and the kinds that two questions require.
-- Source: this project's own numbering of the systems.
-- Shapes: species, complexes and reactions count from 0, linkage classes from 1.
use Rattle.std.specs.Prelude.{ℕ, ℤ, List, ◌++◌, length, map, replicate}
use Rattle.std.specs.List.{range_with_len}
use Rattle.crn_vec.specs.declared.signs.Kind.{Kind}
use Rattle.crn_vec.specs.declared.signs.Kind.TheVariants.{Pos, Zero}
use Rattle.crn_vec.specs.Network.{Net}
use Rattle.crn_vec.specs.Vectors.{Mat, column}
use Rattle.crn_vec.specs.Sums.{label_marks}
use Rattle.crn_vec.specs.Deficiency.{vectors, class_vectors}

-- for each species the list of its entries in these vectors
abbrev pub by_species : Net → List (List ℤ) → List (List ℤ)
by_species net vs = map (column vs) (range_with_len 0 (length net.names))

-- system 1: a column for each species, and a row for each reaction, its vector
abbrev pub species_system : Net → Mat
species_system net = record { cols = length net.names; rows = vectors net }

-- system 2: a column for each reaction, its vector, and a row for each species
abbrev pub reaction_system : Net → Mat
reaction_system net = record { cols = length net.reactions; rows = by_species net (vectors net) }

-- system 3: system 1 of the reactions of linkage class k
abbrev pub class_system : Net → List ℕ → ℕ → Mat
class_system net labels k = record { cols = length net.names; rows = class_vectors net labels k }

-- system 4: a column for each complex; a row of amounts for each species, and one of marks for each
-- linkage class
abbrev pub confluence_system : Net → List ℕ → ℕ → Mat
confluence_system net labels count = record {
  cols = length net.complexes;
  rows = by_species net net.complexes ++ map (label_marks labels) (range_with_len 1 count);
}

-- each column has to be positive and each row zero
abbrev pub positive_kinds : Mat → List Kind
positive_kinds a = replicate a.cols Pos ++ replicate (length a.rows) Zero
