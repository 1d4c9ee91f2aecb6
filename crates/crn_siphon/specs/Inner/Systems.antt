-- For the contracts of private functions alone.
-- The system of a set of species.
use Rattle.std.specs.Prelude.{Bool, true, false, List, ◌++◌, length, map, replicate}
use Rattle.crn_vec.specs.Network.{Net}
use Rattle.crn_vec.specs.declared.signs.Kind.{Kind}
use Rattle.crn_vec.specs.declared.signs.Kind.TheVariants.{Pos, Free}
use Rattle.crn_siphon.specs.declared.sets.SpeciesSet.{SpeciesSet}
use Rattle.crn_siphon.specs.Inner.Sets.{members}

-- the change of a member has to be positive
abbrev pub change_kind : Bool → Kind
change_kind true = Pos
change_kind false = Free

-- the reactions are free, and so are the changes of species that are no members
abbrev pub siphon_kinds : Net → SpeciesSet → List Kind
siphon_kinds net set = replicate (length net.reactions) Free
    ++ map change_kind (members set (length net.names))
