-- Proofs and verdicts of the part `endo`.
use Rattle.crn_run.proofs.Prelude.{◌+◌, ◌<◌, ◌≤◌, ◌++◌, ℕ, length, arith, decimal, length-decimal-le_wide, length-append, Net, IsNetwork, MAX_BUDGET, MAX_DOCUMENT, IsPartDocument, part_document, IsEndoAnswer, IsLicensedEndo, IsFormedEndo, Large, endo_verdict}
use Rattle.std.specs.Prelude.{codes}
use Rattle.crn_endo_check.specs.declared.endo.Endo.{Endo}
use Rattle.crn_endo_check.specs.declared.endo.Endo.TheVariants.{Yes, No, Wide, Spent}
use Rattle.crn_endo_text.specs.Document.{HasFewNodes, WrittenAreDocuments, meant, part, records, seen_of}

-- the trees of a yes have together no more nodes than the greatest budget
few_nodes : (net : Net) (budget : ℕ) (answer : Endo) → budget ≤ MAX_BUDGET → IsLicensedEndo net budget answer → HasFewNodes answer
few_nodes net budget (Yes trees) most (used, refuted, is) = let within = refuted.within in omega (arith, most, within, is)
few_nodes net budget (No reaction slope) most is = tt
few_nodes net budget (Wide reaction index basis) most is = tt
few_nodes net budget (Spent reaction nodes) most is = tt
few_nodes net budget Large most is = tt

-- what is written of an answer that is given with this budget is a document
pub endotactic_documented : (net : Net) (budget : ℕ) (answer : Endo) → IsNetwork net → budget ≤ MAX_BUDGET → IsEndoAnswer net budget answer → WrittenAreDocuments → IsPartDocument part meant net answer (part_document part.name net (records answer))
endotactic_documented net budget answer network most is written =
    let formed = is.formed in
    let valid = is.valid in
    written net answer network formed valid (few_nodes net budget answer most is.licensed)

-- a verdict that names a reaction of the network is short
pub endotactic_short : (net : Net) (answer : Endo) → IsNetwork net → IsFormedEndo net answer → length (endo_verdict (seen_of answer)) < MAX_DOCUMENT
endotactic_short net (Yes trees) n formed = omega arith
endotactic_short net (No reaction slope) n formed =
    let limits = n.partial in
    let few = limits.reactions_limit in
    let within = formed.0 in
    omega (
      arith,
      length-decimal-le_wide 30 reaction (omega arith) (omega (arith, few, within.1)) (omega (arith, few, within.1)),
      length-append (codes "endo: no, reaction ") (decimal reaction),
      length-append (codes "endo: no, reaction " ++ decimal reaction) (codes "\n"),
    )
endotactic_short net (Wide reaction index basis) n formed = omega arith
endotactic_short net (Spent reaction nodes) n formed = omega arith
endotactic_short net Large n formed = omega arith
