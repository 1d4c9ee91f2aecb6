-- Proofs of the part `persist`.
use Rattle.crn_run.proofs.Prelude.{◌≤◌, ℕ, arith, Net, MAX_BUDGET, IsPartDocument, part_document, IsNetwork, Said, Yes, NoLaw, NoSiphon, Wide, Spent, IsAnswer, IsLicensed, HasFewNodes, WrittenAreDocuments, meant, part, records}

-- the tree of a yes has no more nodes than the greatest budget
few_nodes : (net : Net) (budget : ℕ) (answer : Said) → budget ≤ MAX_BUDGET → IsLicensed net budget answer → HasFewNodes answer
few_nodes net budget (Yes law tree) most is = omega (arith, most, is.1)
few_nodes net budget (NoLaw cut) most is = tt
few_nodes net budget (NoSiphon marks cover) most is = tt
few_nodes net budget (Wide system index basis) most is = tt
few_nodes net budget (Spent nodes) most is = tt

-- what is written of an answer that is given with this budget is a document
pub persistence_documented : (net : Net) (budget : ℕ) (answer : Said) → IsNetwork net → budget ≤ MAX_BUDGET → IsAnswer net budget answer → WrittenAreDocuments → IsPartDocument part meant net answer (part_document part.name net (records answer))
persistence_documented net budget answer network most is written =
    let formed = is.formed in
    let valid = is.valid in
    written net answer network formed valid (few_nodes net budget answer most is.licensed)
