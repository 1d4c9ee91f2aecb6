-- For the contracts of private functions alone.
-- The answers that the end of a search, or its stop, gives.
-- Source: this project's own.
use Rattle.std.specs.Prelude.{◌≡◌, ℕ, Option, None, Some}
use Rattle.crn_vec.specs.Elementary.{NamesWide}
use Rattle.crn_vec.specs.Network.{Net}
use Rattle.crn_vec.specs.NetSystems.{reaction_system}
use Rattle.crn_cert.specs.declared.answer.Gap.TheVariants.{Wide, Budget}
use Rattle.crn_cert.specs.declared.answer.Verdict.TheVariants.{Yes, NoPair, Unknown}
use Rattle.crn_cert.specs.declared.answer.Proof.TheVariants.{One}
use Rattle.crn_cert.specs.declared.answer.Answer.{Answer}
use Rattle.crn_cert.specs.Answers.{plain}
use Rattle.crn_sign.specs.declared.end.SearchEnd.{SearchEnd}
use Rattle.crn_sign.specs.declared.end.SearchEnd.TheVariants.{Found, Refuted, Infeasible, Spent}
use Rattle.crn_sign.specs.declared.fault.SearchStop.{SearchStop}
use Rattle.crn_sign.specs.declared.fault.SearchStop.TheVariants.{WideA, WideB, NoMemory}
use Rattle.crn_conc.specs.declared.answer.WideName.{WideName}

-- no with the solutions that were found, yes with the tree if it is kept, or open by the budget
abbrev pub end_answer : ℕ → SearchEnd → Answer
end_answer budget (Found q a b) = plain (NoPair a b)
end_answer budget (Refuted tree) = record { verdict = Yes; proof = One tree }
end_answer budget Infeasible = plain Yes
end_answer budget Spent = plain (Unknown (Budget budget))

-- open by the wide vector of system 2 that stopped the search
abbrev pub IsStopAnswer : SearchStop → Answer → Type 0
IsStopAnswer (WideA index basis) answer = answer ≡ plain (Unknown (Wide 2 0 index basis))
IsStopAnswer (WideB index basis is_first) answer = answer ≡ plain (Unknown (Wide 2 0 index basis))
IsStopAnswer NoMemory answer = ⊥

-- this is the name of the wide vector that stopped the search
abbrev pub IsNameOf : SearchStop → WideName → Type 0
IsNameOf (WideA index basis) name = (name.index ≡ index) × (name.basis.list ≡ basis.list)
IsNameOf (WideB index basis is_first) name = (name.index ≡ index) × (name.basis.list ≡ basis.list)
IsNameOf NoMemory name = ⊥

-- a wide vector of the network's system 2 is named, if any is
abbrev pub IsNamed : Net → Option WideName → Type 0
IsNamed net None = Unit {0}
IsNamed net (Some name) = NamesWide (reaction_system net) name.index name.basis.list
