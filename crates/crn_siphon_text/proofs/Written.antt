-- The lines of a tree, as they are written.
use Rattle.crn_siphon_text.proofs.Prelude.{◌≡◌, ◌++◌, ◌+◌, ◌<◌, ◌≤◌, ℕ, List, [], ◌∷◌, length, map, get_or, take, take_all, refl, sym, ap, ap₂, ◌∙◌, append_assoc, ℤ, pos, map-append, flat_map-append, Record, Net, part_document, part_head, one_word, record_lines, line, number_text, numbers_text, word_then, lines_append, Plan, Fork, Bad, Law, Void, tree_records, drop, take-append-drop, take_more, AreNodesOf, listed, preorder, SiphonNode, record_of}
use Rattle.std.proofs.Common.{codes}

-- the records of nodes in a list
abbrev pub records_of : List (List ℤ) → List SiphonNode → List Record
records_of laws list = map record_of (map (listed laws) list)

in_preorder : (tree : Plan) → map record_of (preorder tree) ≡ tree_records tree
in_preorder (Fork inside outside) = ap (λ (t : List Record). one_word (codes "fork") [] ∷ t) (map-append record_of (preorder inside) (preorder outside) ∙ ap₂ (λ (x y : List Record). x ++ y) (in_preorder inside) (in_preorder outside))
in_preorder (Bad r) = refl
in_preorder (Law weights) = refl
in_preorder Void = refl

are_nodes : (tree : Plan) (laws : List (List ℤ)) (list : List SiphonNode) → AreNodesOf tree laws list → records_of laws list ≡ tree_records tree
are_nodes tree laws list e = ap (map record_of) e ∙ in_preorder tree

records_append : (laws : List (List ℤ)) (xs ys : List SiphonNode) → records_of laws (xs ++ ys) ≡ records_of laws xs ++ records_of laws ys
records_append laws xs ys = ap (map record_of) (map-append (listed laws) xs ys) ∙ map-append record_of (map (listed laws) xs) (map (listed laws) ys)

-- one node more
node_more : (laws : List (List ℤ)) (list : List SiphonNode) (i : ℕ) (d : SiphonNode) → i < length list → record_lines (records_of laws (take (i + 1) list)) ≡ record_lines (records_of laws (take i list)) ++ record_lines (record_of (listed laws (get_or list i d)) ∷ [])
node_more laws list i d few =
    ap (λ (t : List Record). record_lines t) (ap (records_of laws) (take_more list i d few) ∙ records_append laws (take i list) (get_or list i d ∷ []))
    ∙ lines_append (records_of laws (take i list)) (record_of (listed laws (get_or list i d)) ∷ [])

-- and what is left to write
pub node_left : (tree : Plan) (laws : List (List ℤ)) (list : List SiphonNode) (i : ℕ) (d : SiphonNode) → AreNodesOf tree laws list → i < length list
    → record_lines (tree_records tree) ≡ (record_lines (records_of laws (take i list)) ++ record_lines (record_of (listed laws (get_or list i d)) ∷ [])) ++ record_lines (records_of laws (drop (i + 1) list))
node_left tree laws list i d are few =
    ap (λ (t : List Record). record_lines t) (sym (are_nodes tree laws list are) ∙ ap (records_of laws) (sym (take-append-drop (i + 1) list)) ∙ records_append laws (take (i + 1) list) (drop (i + 1) list))
    ∙ lines_append (records_of laws (take (i + 1) list)) (records_of laws (drop (i + 1) list)) ∙ ap (λ (t : List ℕ). t ++ record_lines (records_of laws (drop (i + 1) list))) (node_more laws list i d few)

-- all nodes
pub nodes_done : (tree : Plan) (laws : List (List ℤ)) (list : List SiphonNode) (i : ℕ) → AreNodesOf tree laws list → length list ≤ i → record_lines (tree_records tree) ≡ record_lines (records_of laws (take i list))
nodes_done tree laws list i are long = ap (λ (t : List Record). record_lines t) (sym (ap (records_of laws) (take_all i list long) ∙ are_nodes tree laws list are))

pub wide_line : (s i : ℕ) (b : List ℕ) → line (codes "wide") (map pos (s ∷ i ∷ b)) ≡ ((codes "wide" ++ numbers_text (map pos (s ∷ i ∷ []))) ++ numbers_text (map pos b)) ++ codes "\n"
wide_line s i b = ap (λ (t : List ℕ). (codes "wide" ++ t) ++ codes "\n") (flat_map-append number_text (map pos (s ∷ i ∷ [])) (map pos b))

pub wide_second : (s i : ℕ) (b : List ℕ) → line (codes "wide") (map pos (s ∷ i ∷ b)) ≡ (codes "wide" ++ numbers_text (map pos (s ∷ i ∷ []))) ++ (numbers_text (map pos b) ++ codes "\n")
wide_second s i b = wide_line s i b ∙ append_assoc (codes "wide" ++ numbers_text (map pos (s ∷ i ∷ []))) (numbers_text (map pos b)) (codes "\n")

pub yes_lines : (law : List ℤ) (rs : List Record) → record_lines (one_word (codes "yes") [] ∷ one_word (codes "vec") law ∷ rs) ≡ (line (codes "yes") [] ++ line (codes "vec") law) ++ record_lines rs
yes_lines law rs = word_then (codes "yes") [] (one_word (codes "vec") law ∷ rs) ∙ ap (λ (t : List ℕ). line (codes "yes") [] ++ t) (word_then (codes "vec") law rs) ∙ sym (append_assoc (line (codes "yes") []) (line (codes "vec") law) (record_lines rs))

pub document_parts : (net : Net) (rs : List Record) → part_document (codes "persist") net rs ≡ (part_head (codes "persist") net ++ record_lines rs) ++ codes "end\n"
document_parts net rs = refl

pub document_first : (net : Net) (rs : List Record) → part_document (codes "persist") net rs ≡ part_head (codes "persist") net ++ (record_lines rs ++ codes "end\n")
document_first net rs = document_parts net rs ∙ append_assoc (part_head (codes "persist") net) (record_lines rs) (codes "end\n")
