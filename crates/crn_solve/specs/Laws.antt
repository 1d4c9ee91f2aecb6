-- What deciding on a conservation law says of a network.
-- Source: this project's own. Shapes: coordinates and bases count from 1.
use Rattle.std.specs.Prelude.{length}
use Rattle.crn_vec.specs.Network.{Net}
use Rattle.crn_vec.specs.Elementary.{NamesWide}
use Rattle.crn_vec.specs.Deficiency.{IsConservationLaw}
use Rattle.crn_vec.specs.NetSystems.{species_system}
use Rattle.crn_cert.specs.Ranges.{AreFree}
use Rattle.crn_cert.specs.Says.{RuleOutConservation}
use Rattle.crn_farkas.specs.declared.decision.Decision.{Decision}
use Rattle.crn_farkas.specs.declared.decision.Decision.TheVariants.{Feasible, Infeasible}
use Rattle.crn_farkas.specs.declared.fault.Stop.{Stop}
use Rattle.crn_farkas.specs.declared.fault.Stop.TheVariants.{Wide, NoMemory}

-- a conservation law with positive weights, or numbers that rule each one out
abbrev pub IsLawDecision : Net → Decision → Type 0
IsLawDecision net (Feasible x) = AreFree (length net.names) x.list × IsConservationLaw net x.list
IsLawDecision net (Infeasible u) = AreFree (length net.reactions) u.list
    × RuleOutConservation net u.list

-- system 1 is wide there, or memory ran out
abbrev pub IsLawStop : Net → Stop → Type 0
IsLawStop net (Wide index basis) = NamesWide (species_system net) index basis.list
IsLawStop net NoMemory = Unit {0}
