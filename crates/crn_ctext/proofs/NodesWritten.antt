-- The records of a tree's nodes, as they are written one after another.
use Rattle.crn_ctext.proofs.Prelude.{◌≡◌, ℕ, ◌+◌, ◌<◌, ◌≤◌, List, [], ◌∷◌, ◌++◌, length, map, take, drop, take_all, get_or, refl, sym, ap, ap₂, ◌∙◌, map-append, take_more, take-append-drop, TreeNode, Plan, Both, Three, RulesA, RulesB, Level, preorder, AreNodesOf, Record, nodes, record_lines, one_word, written, node_record, leaves_after}
use Rattle.std.proofs.Common.{codes}
use Rattle.crn_cert.specs.Preorder.{listed}
use Rattle.crn_ctext.proofs.WrittenLeaves.{written_lines, leaves_append}

-- the records of nodes in a list
abbrev pub node_records : List TreeNode → List Record
node_records list = map node_record (map listed list)

-- ---- all nodes of a tree

in_preorder : (tree : Plan) → map node_record (preorder tree) ≡ nodes tree
in_preorder (Both zeros pluses) =
    ap (λ (t : List Record). one_word (codes "split") [] ∷ t) (map-append node_record (preorder zeros) (preorder pluses) ∙ ap₂ (λ (x y : List Record). x ++ y) (in_preorder zeros) (in_preorder pluses))
in_preorder (Three zeros pluses minuses) =
    ap (λ (t : List Record). one_word (codes "split") [] ∷ t) (
    map-append node_record (preorder zeros ++ preorder pluses) (preorder minuses)
    ∙ ap₂ (λ (x y : List Record). x ++ y) (map-append node_record (preorder zeros) (preorder pluses) ∙ ap₂ (λ (x y : List Record). x ++ y) (in_preorder zeros) (in_preorder pluses)) (in_preorder minuses)
    )
in_preorder tree = refl

-- the records of a tree's nodes are those of the tree
records_are_nodes : (tree : Plan) (list : List TreeNode) → AreNodesOf tree list → node_records list ≡ nodes tree
records_are_nodes tree list e = ap (map node_record) e ∙ in_preorder tree

-- ---- one node more

nodes_append : (xs ys : List TreeNode) → node_records (xs ++ ys) ≡ node_records xs ++ node_records ys
nodes_append xs ys = ap (map node_record) (map-append listed xs ys) ∙ map-append node_record (map listed xs) (map listed ys)

nodes_more : (list : List TreeNode) (i : ℕ) (node : TreeNode) → i < length list → node ≡ get_or list i node → node_records (take (i + 1) list) ≡ node_records (take i list) ++ (node_record (listed node) ∷ [])
nodes_more list i node few here =
    ap node_records (take_more list i node few ∙ ap (λ (x : TreeNode). take i list ++ x ∷ []) (sym here)) ∙ nodes_append (take i list) (node ∷ [])

-- what is written of the nodes, one node more
pub one_more : (leaf rest : List ℕ) (list : List TreeNode) (i : ℕ) (node : TreeNode) → i < length list → node ≡ get_or list i node → rest ≡ leaves_after (node_records (take i list)) leaf
    → record_lines (written leaf (node_records (take (i + 1) list))) ≡ record_lines (written leaf (node_records (take i list))) ++ record_lines (written rest (node_record (listed node) ∷ []))
one_more leaf rest list i node few here e =
    ap (λ (t : List Record). record_lines (written leaf t)) (nodes_more list i node few here) ∙ written_lines leaf (node_records (take i list)) (node_record (listed node) ∷ [])
    ∙ ap (λ (r : List ℕ). record_lines (written leaf (node_records (take i list))) ++ record_lines (written r (node_record (listed node) ∷ []))) (sym e)

-- the numbers of the leaves after it
pub leaves_more : (leaf rest : List ℕ) (list : List TreeNode) (i : ℕ) (node : TreeNode) → i < length list → node ≡ get_or list i node → rest ≡ leaves_after (node_records (take i list)) leaf
    → leaves_after (node_record (listed node) ∷ []) rest ≡ leaves_after (node_records (take (i + 1) list)) leaf
leaves_more leaf rest list i node few here e =
    sym (ap (λ (t : List Record). leaves_after t leaf) (nodes_more list i node few here) ∙ leaves_append leaf (node_records (take i list)) (node_record (listed node) ∷ []) ∙ ap (λ (r : List ℕ). leaves_after (node_record (listed node) ∷ []) r) (sym e))

-- and what is left to write
pub one_of : (tree : Plan) (leaf rest : List ℕ) (list : List TreeNode) (i : ℕ) (node : TreeNode) → AreNodesOf tree list → i < length list → node ≡ get_or list i node → rest ≡ leaves_after (node_records (take i list)) leaf
    → (more : List ℕ) × (record_lines (written leaf (nodes tree)) ≡ (record_lines (written leaf (node_records (take i list))) ++ record_lines (written rest (node_record (listed node) ∷ []))) ++ more)
one_of tree leaf rest list i node are few here e = (
  record_lines (written (leaves_after (node_records (take (i + 1) list)) leaf) (node_records (drop (i + 1) list))),
  ap (λ (t : List Record). record_lines (written leaf t)) (sym (records_are_nodes tree list are) ∙ ap node_records (sym (take-append-drop (i + 1) list)) ∙ nodes_append (take (i + 1) list) (drop (i + 1) list))
      ∙ written_lines leaf (node_records (take (i + 1) list)) (node_records (drop (i + 1) list))
      ∙ ap (λ (t : List ℕ). t ++ record_lines (written (leaves_after (node_records (take (i + 1) list)) leaf) (node_records (drop (i + 1) list)))) (one_more leaf rest list i node few here e),
)

-- all nodes
pub all_done : (tree : Plan) (list : List TreeNode) (i : ℕ) → AreNodesOf tree list → length list ≤ i → node_records (take i list) ≡ nodes tree
all_done tree list i are long = ap node_records (take_all i list long) ∙ records_are_nodes tree list are
