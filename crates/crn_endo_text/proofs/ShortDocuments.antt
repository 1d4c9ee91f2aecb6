-- Documents of answers whose trees have few nodes are short.
use Rattle.crn_endo_text.proofs.Prelude.{◌≡◌, ◌≤◌, ◌+◌, ◌++◌, List, [], ◌∷◌, length, map, refl, arith, sum, codes, flat_map, length-append, sum_by-cons, Plan, Both, Three, RulesA, RulesB, Level, node_count, nodes, part_document_short, Endo, Wide, Spent, Large, records, HasFewNodes, WrittenAreDocuments}
use Rattle.crn_endo_check.specs.declared.endo.Endo.TheVariants.{Yes, No}
use Rattle.crn_endo_text.proofs.Answered.{endo_is_answered, records_plain}

nodes_counted : (tree : Plan) → length (nodes tree) ≡ node_count tree
nodes_counted (Both z p) = omega (arith, length-append (nodes z) (nodes p), nodes_counted z, nodes_counted p)
nodes_counted (Three z p m) = omega (arith, length-append (nodes z ++ nodes p) (nodes m), length-append (nodes z) (nodes p), nodes_counted z, nodes_counted p, nodes_counted m)
nodes_counted (RulesA u) = refl
nodes_counted (RulesB u) = refl
nodes_counted Level = refl

trees_counted : (trees : List Plan) → length (flat_map nodes trees) ≡ sum (map node_count trees)
trees_counted [] = refl
trees_counted (tree ∷ trees) =
    let both : length (flat_map nodes (tree ∷ trees)) ≡ length (nodes tree) + length (flat_map nodes trees) = length-append (nodes tree) (flat_map nodes trees) in
    let all : sum (map node_count (tree ∷ trees)) ≡ node_count tree + sum (map node_count trees) = sum_by-cons (λ k. k) (node_count tree) (map node_count trees) in
    omega (arith, both, all, nodes_counted tree, trees_counted trees)

few_records : (answer : Endo) → HasFewNodes answer → length (records answer) ≤ 400000
few_records (Yes trees) few = omega (arith, trees_counted trees, few)
few_records (No reaction slope) few = omega arith
few_records (Wide reaction index basis) few = omega arith
few_records (Spent reaction nodes) few = omega arith
few_records Large few = omega arith

pub written_are_documents : WrittenAreDocuments
written_are_documents = λ net answer network formed valid few.
    let title = endo_is_answered.title in
    record { short = part_document_short (codes "endo") net (records answer) title network (records_plain net answer network formed) (few_records answer few); network = network; formed = formed; valid = valid; is = refl }
