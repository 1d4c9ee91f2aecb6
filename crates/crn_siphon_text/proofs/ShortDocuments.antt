-- Documents of answers whose trees have few nodes are short.
use Rattle.crn_siphon_text.proofs.Prelude.{◌≡◌, ◌≤◌, length, refl, arith, codes, length-append, part_document_short, Plan, Fork, Bad, Law, Void, node_count, Said, SaysYes, NoLaw, NoSiphon, Wide, Spent, tree_records, records, HasFewNodes, WrittenAreDocuments}
use Rattle.crn_siphon_text.proofs.Answered.{persist_is_answered, records_plain}

nodes_counted : (tree : Plan) → length (tree_records tree) ≡ node_count tree
nodes_counted (Fork inside outside) = omega (arith, length-append (tree_records inside) (tree_records outside), nodes_counted inside, nodes_counted outside)
nodes_counted (Bad r) = refl
nodes_counted (Law weights) = refl
nodes_counted Void = refl

few_records : (answer : Said) → HasFewNodes answer → length (records answer) ≤ 400000
few_records (SaysYes law tree) few = omega (arith, nodes_counted tree, few)
few_records (NoLaw cut) few = omega arith
few_records (NoSiphon marks cover) few = omega arith
few_records (Wide system index basis) few = omega arith
few_records (Spent nodes) few = omega arith

pub written_are_documents : WrittenAreDocuments
written_are_documents = λ net answer network formed valid few.
    let title = persist_is_answered.title in
    record { short = part_document_short (codes "persist") net (records answer) title network (records_plain net answer network formed) (few_records answer few); network = network; formed = formed; valid = valid; is = refl }
