-- The lines of trees and of an answer, as they are written.
use Rattle.crn_endo_text.proofs.Prelude.{◌≡◌, ◌++◌, ◌+◌, ◌<◌, ◌≤◌, ℕ, List, [], ◌∷◌, length, map, take, drop, take_all, get_or, refl, sym, ap, ◌∙◌, append_assoc, pos, flat_map, append-nil, take_more, take-append-drop, flat_map-append, Net, Plan, Level, Record, line, number_text, numbers_text, nodes, record_lines, part_document, part_head, lines_append}
use Rattle.std.proofs.Common.{codes}

-- ---- the trees of reactions

-- one tree more
pub tree_more : (trees : List Plan) (i : ℕ) → i < length trees → record_lines (flat_map nodes (take (i + 1) trees)) ≡ record_lines (flat_map nodes (take i trees)) ++ record_lines (nodes (get_or trees i Level))
tree_more trees i few =
    ap (λ (t : List Plan). record_lines (flat_map nodes t)) (take_more trees i Level few) ∙ ap (λ (t : List Record). record_lines t) (flat_map-append nodes (take i trees) (get_or trees i Level ∷ [])) ∙ lines_append (flat_map nodes (take i trees)) (flat_map nodes (get_or trees i Level ∷ []))
    ∙ ap (λ (t : List Record). record_lines (flat_map nodes (take i trees)) ++ record_lines t) (append-nil (nodes (get_or trees i Level)))

-- and what is left to write
pub tree_left : (trees : List Plan) (i : ℕ) → i < length trees
    → record_lines (flat_map nodes trees) ≡ (record_lines (flat_map nodes (take i trees)) ++ record_lines (nodes (get_or trees i Level))) ++ record_lines (flat_map nodes (drop (i + 1) trees))
tree_left trees i few =
    ap (λ (t : List Plan). record_lines (flat_map nodes t)) (sym (take-append-drop (i + 1) trees)) ∙ ap (λ (t : List Record). record_lines t) (flat_map-append nodes (take (i + 1) trees) (drop (i + 1) trees))
    ∙ lines_append (flat_map nodes (take (i + 1) trees)) (flat_map nodes (drop (i + 1) trees)) ∙ ap (λ (t : List ℕ). t ++ record_lines (flat_map nodes (drop (i + 1) trees))) (tree_more trees i few)

-- all trees
pub trees_done : (trees : List Plan) (i : ℕ) → length trees ≤ i → record_lines (flat_map nodes trees) ≡ record_lines (flat_map nodes (take i trees))
trees_done trees i long = ap (λ (t : List Plan). record_lines (flat_map nodes t)) (sym (take_all i trees long))

-- ---- an answer

pub wide_line : (r i : ℕ) (b : List ℕ) → line (codes "wide") (map pos (r ∷ i ∷ b)) ≡ ((codes "wide" ++ numbers_text (map pos (r ∷ i ∷ []))) ++ numbers_text (map pos b)) ++ codes "\n"
wide_line r i b = ap (λ (t : List ℕ). (codes "wide" ++ t) ++ codes "\n") (flat_map-append number_text (map pos (r ∷ i ∷ [])) (map pos b))

pub wide_second : (r i : ℕ) (b : List ℕ) → line (codes "wide") (map pos (r ∷ i ∷ b)) ≡ (codes "wide" ++ numbers_text (map pos (r ∷ i ∷ []))) ++ (numbers_text (map pos b) ++ codes "\n")
wide_second r i b = wide_line r i b ∙ append_assoc (codes "wide" ++ numbers_text (map pos (r ∷ i ∷ []))) (numbers_text (map pos b)) (codes "\n")

pub document_parts : (net : Net) (rs : List Record) → part_document (codes "endo") net rs ≡ (part_head (codes "endo") net ++ record_lines rs) ++ codes "end\n"
document_parts net rs = refl

pub document_first : (net : Net) (rs : List Record) → part_document (codes "endo") net rs ≡ part_head (codes "endo") net ++ (record_lines rs ++ codes "end\n")
document_first net rs = document_parts net rs ∙ append_assoc (part_head (codes "endo") net) (record_lines rs) (codes "end\n")
