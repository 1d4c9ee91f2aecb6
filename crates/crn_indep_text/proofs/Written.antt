-- The lines of an answer, as they are written.
use Rattle.crn_indep_text.proofs.Prelude.{◌≡◌, ◌++◌, ℕ, List, [], ◌∷◌, map, refl, sym, ap, ◌∙◌, append_assoc, ℤ, pos, flat_map-append, Net, Record, line, number_text, numbers_text, one_word, record_lines, part_document, part_head, word_then, lines_append}
use Rattle.std.proofs.Common.{codes}

pub wide_line : (i : ℕ) (b : List ℕ) → line (codes "wide") (map pos (i ∷ b)) ≡ ((codes "wide" ++ numbers_text (map pos (i ∷ []))) ++ numbers_text (map pos b)) ++ codes "\n"
wide_line i b = ap (λ (t : List ℕ). (codes "wide" ++ t) ++ codes "\n") (flat_map-append number_text (map pos (i ∷ [])) (map pos b))

pub wide_second : (i : ℕ) (b : List ℕ) → line (codes "wide") (map pos (i ∷ b)) ≡ (codes "wide" ++ numbers_text (map pos (i ∷ []))) ++ (numbers_text (map pos b) ++ codes "\n")
wide_second i b = wide_line i b ∙ append_assoc (codes "wide" ++ numbers_text (map pos (i ∷ []))) (numbers_text (map pos b)) (codes "\n")

-- the line of a rank, then those of its proof, and the others
pub split_first : (word : List ℕ) (numbers : List ℤ) (rows links : List Record) → record_lines (one_word word numbers ∷ (rows ++ links)) ≡ line word numbers ++ (record_lines rows ++ record_lines links)
split_first word numbers rows links = word_then word numbers (rows ++ links) ∙ ap (λ (t : List ℕ). line word numbers ++ t) (lines_append rows links)

pub split_lines : (word : List ℕ) (numbers : List ℤ) (rows links : List Record) → record_lines (one_word word numbers ∷ (rows ++ links)) ≡ (line word numbers ++ record_lines rows) ++ record_lines links
split_lines word numbers rows links = split_first word numbers rows links ∙ sym (append_assoc (line word numbers) (record_lines rows) (record_lines links))

pub document_parts : (net : Net) (rs : List Record) → part_document (codes "parts") net rs ≡ (part_head (codes "parts") net ++ record_lines rs) ++ codes "end\n"
document_parts net rs = refl

pub document_first : (net : Net) (rs : List Record) → part_document (codes "parts") net rs ≡ part_head (codes "parts") net ++ (record_lines rs ++ codes "end\n")
document_first net rs = document_parts net rs ∙ append_assoc (part_head (codes "parts") net) (record_lines rs) (codes "end\n")
