-- The lines of a document on endotactic networks are those of the formed answers whose tests hold.
use Rattle.crn_endo_text.proofs.Prelude.{◌≡◌, ◌≤◌, ◌<◌, ◌+◌, ◌-◌, ◌++◌, ◌⊎◌, ℕ, zero, suc, Bool, true, false, List, [], ◌∷◌, length, map, get_or, refl, sym, ap, subst, ◌∙◌, append_assoc, inl, inr, arith, ℤ, codes, flat_map, bytes_eq, append-nil, length-append, map-append, IsIn, Net, IsNetwork, Sign, Zero, Plus, Minus, Signed, all_zero, zip_append, Said, Splits, Flats, CutsA, CutsB, Fits, AreFree, IsFrom, Plan, Both, Three, RulesA, RulesB, Level, IsFormedTree, IsValid, node_count, Record, Form, Says, FitsForm, record_text, kind_of, record_form, small_form, free_form, Course, Give, ◌>>=◌, test_own, IsWrittenBy, either, word_of, first_number, IsOneOf, one_word, nodes, small_record, asks_part, AllPlain, IsBounded, fitting_is_plain, short_both, free_fits, free_row, free_bounded, number_fits, give_back, written_cuts, written_then, HasNoEnd, no_end_then, give_no_end, part_no_end, test_no_end, are_words, in_by_test, plain_is_line, IsAnswered, IsFirst, first_back, Say, only, one_said, none_said, line_on, given, test_back, test_on, either_no_end, bare_back, one_back, species_row, bare_row, plain_bare, IsAgainst, IsSmallEnough, slopes, NamesReaction, row_count, CutsPartA, IsSlopeTree, AreFormedTrees, AreValidTrees, IsFormedEndo, IsValidEndo, Endo, rows_counted, EndoSeen, Yes, No, Undecided, words, wide_form, spent_form, other_forms, verdict_forms, slope_forms, node_forms, said_of, node_fault, asks_node, if_split, asks_tree, asks_trees, asks_yes, asks_no, asks_rest, asks_endo, part, records, seen_of, meant}
use Rattle.crn_endo_check.specs.declared.endo.Endo.TheVariants as answers
use Rattle.crn_endo_text.proofs.Nodes.{IsNode, node_back, rows_few, small_back, verdict_back, yes_due, other_due, wide_back, wide_fits, spent_back, spent_fits, no_row, spent_row, wide_row}

-- how many numbers a cut has
abbrev rows_of : Signed → ℕ
rows_of w = length w.matrix_a.rows

-- ---- one node

-- a node is in the first line, and it passes its test
record IsNodeFirst {A : Type 0} (w : Signed) (prefix : List Sign) (g : Said → Course A) (ls : List (List ℕ)) (y : A) : Type 0 where
  line : List ℕ
  node : Record
  more : List (List ℕ)
  are : ls ≡ line ∷ more
  says : Says line node
  is : IsNode (rows_of w) node
  fits : Fits w prefix (said_of node)
  rest : IsWrittenBy (g (said_of node)) more y

-- the test of a node, and then the node
abbrev tested : Signed → List Sign → ℕ → Record → Course Said
tested w prefix n r = test_own n (node_fault (said_of r)) (Fits w prefix (said_of r)) >>= (λ x. Give (said_of r))

node_first : {A : Type 0} (w : Signed) (prefix : List Sign) (n : ℕ) (g : Said → Course A) (ls : List (List ℕ)) (y : A) → IsWrittenBy (asks_node w prefix n >>= g) ls y → IsNodeFirst w prefix g ls y
node_first w prefix n g ls y h =
    let a = written_cuts (asks_node w prefix n) g ls y h in
    let b = first_back words n (node_forms (rows_of w)) (tested w prefix n) a.1 a.0 a.4 in
    let r = b.first in
    let t = test_back n (node_fault (said_of r)) (Fits w prefix (said_of r)) (λ x. Give (said_of r)) b.more a.0 b.rest in
    let c = give_back (said_of r) a.0 b.more t.1 in
    record {
      line = b.line;
      node = r;
      more = a.2;
      are = a.3 ∙ ap (λ (ks : List (List ℕ)). ks ++ a.2) (b.are ∙ ap (λ (ks : List (List ℕ)). b.line ∷ ks) c.1);
      says = b.says;
      is = node_back (rows_of w) r b.fits;
      fits = t.0;
      rest = subst (λ (s : Said). IsWrittenBy (g s) a.2 y) (sym c.0) a.5;
    }

node_no_end : (w : Signed) (prefix : List Sign) (n : ℕ) → HasNoEnd (asks_node w prefix n)
node_no_end w prefix n = no_end_then (asks_part words n (node_forms (rows_of w))) (tested w prefix n) (part_no_end words n (node_forms (rows_of w)))
    (λ r. test_no_end n (node_fault (said_of r)) (Fits w prefix (said_of r)) (λ x. Give (said_of r)) (give_no_end (said_of r)))

node_on : {A : Type 0} (w : Signed) (prefix : List Sign) (n : ℕ) (form : Form) (r : Record) (g : Said → Course A) (ms : List (List ℕ)) (y : A) → IsIn form (node_forms (rows_of w)) → are_words form.words ≡ true → IsIn (kind_of form) words → IsBounded form → FitsForm form r
    → Fits w prefix (said_of r) → IsWrittenBy (g (said_of r)) ms y → IsWrittenBy (asks_node w prefix n >>= g) (record_text r ∷ ms) y
node_on w prefix n form r g ms y i known has bounded fits passes more =
    written_then (asks_node w prefix n) g (record_text r ∷ []) ms (said_of r) y (node_no_end w prefix n)
    (line_on words n (node_forms (rows_of w)) form r (tested w prefix n) [] (said_of r) i known has bounded fits
    (test_on n (node_fault (said_of r)) (Fits w prefix (said_of r)) (λ x. Give (said_of r)) [] (said_of r) passes (given (said_of r)))) more

-- ---- lines of a tree

-- the lines say a formed and valid tree of the prefix, and then make this course give this
record IsTreeFirst {A : Type 0} (w : Signed) (prefix : List Sign) (f : ℕ → Course A) (ls : List (List ℕ)) (y : A) : Type 0 where
  tree : Plan
  first : List (List ℕ)
  more : List (List ℕ)
  next : ℕ
  formed : IsFormedTree w.choices (rows_of w) (rows_of w) prefix tree
  cuts : CutsPartA tree
  valid : IsValid w prefix tree
  are : ls ≡ first ++ more
  said : Say first (nodes tree)
  rest : IsWrittenBy (f next) more y

-- the course of the child minus, and those of the children plus and minus
abbrev minus_then : {A : Type 0} → Signed → ℕ → List Sign → (ℕ → Course A) → ℕ → Course A
minus_then w more prefix f m = either (all_zero prefix) (f m) (asks_tree w more (prefix ++ Minus ∷ []) m f)

abbrev plus_then : {A : Type 0} → Signed → ℕ → List Sign → (ℕ → Course A) → ℕ → Course A
plus_then w more prefix f k = asks_tree w more (prefix ++ Plus ∷ []) k (minus_then w more prefix f)

abbrev children_then : {A : Type 0} → Signed → ℕ → List Sign → (ℕ → Course A) → ℕ → Course A
children_then w more prefix f n = asks_tree w more (prefix ++ Zero ∷ []) n (plus_then w more prefix f)

-- the trees of the prefixes with so many choices to make are so
abbrev Reads : Type 0 → Signed → ℕ → Type 1
Reads A w more = (prefix : List Sign) (n : ℕ) (f : ℕ → Course A) (ls : List (List ℕ)) (y : A) → length prefix + more ≡ w.choices → IsWrittenBy (asks_tree w more prefix n f) ls y → IsTreeFirst w prefix f ls y

child_long : (w : Signed) (prefix : List Sign) (s : Sign) (more : ℕ) → length prefix + suc more ≡ w.choices → length (prefix ++ s ∷ []) + more ≡ w.choices
child_long w prefix s more e = omega (arith, e, length-append prefix (s ∷ []))

-- a node without children
leaf_first : {A : Type 0} (w : Signed) (prefix : List Sign) (f : ℕ → Course A) (n : ℕ) (ls more : List (List ℕ)) (line : List ℕ) (r : Record) (y : A) → ls ≡ line ∷ more → Says line r
    → (r ≡ one_word (codes "flat") []) ⊎ ((u : List ℤ) × (r ≡ one_word (codes "cuta") u) × AreFree (rows_of w) u) → Fits w prefix (said_of r) → IsWrittenBy (f n) more y → IsTreeFirst w prefix f ls y
leaf_first w prefix f n ls more line r y are says (inl e) fits rest = record {
  tree = Level;
  first = line ∷ [];
  more = more;
  next = n;
  formed = tt;
  cuts = tt;
  valid = subst (λ (q : Record). Fits w prefix (said_of q)) e fits;
  are = are;
  said = (subst (Says line) e says, tt);
  rest = rest;
}
leaf_first w prefix f n ls more line r y are says (inr (u, e, free)) fits rest = record {
  tree = RulesA u;
  first = line ∷ [];
  more = more;
  next = n;
  formed = free;
  cuts = tt;
  valid = subst (λ (q : Record). Fits w prefix (said_of q)) e fits;
  are = are;
  said = (subst (Says line) e says, tt);
  rest = rest;
}

-- a split
split_first : {A : Type 0} (w : Signed) (more : ℕ) (prefix : List Sign) (f : ℕ → Course A) (n : ℕ) (ls ms : List (List ℕ)) (line : List ℕ) (r : Record) (y : A) → length prefix + suc more ≡ w.choices → Reads A w more → ls ≡ line ∷ ms → Says line r
    → r ≡ one_word (codes "split") [] → IsWrittenBy (children_then w more prefix f n) ms y → IsTreeFirst w prefix f ls y
split_first w more prefix f n ls ms line r y e reads are says is h = by (all_zero prefix) refl
  where
    z : IsTreeFirst w (prefix ++ Zero ∷ []) (plus_then w more prefix f) ms y
    z = reads (prefix ++ Zero ∷ []) n (plus_then w more prefix f) ms y (child_long w prefix Zero more e) h

    p : IsTreeFirst w (prefix ++ Plus ∷ []) (minus_then w more prefix f) z.more y
    p = reads (prefix ++ Plus ∷ []) z.next (minus_then w more prefix f) z.more y (child_long w prefix Plus more e) z.rest

    by : (b : Bool) → all_zero prefix ≡ b → IsTreeFirst w prefix f ls y
    by true zeros = record {
      tree = Both z.tree p.tree;
      first = line ∷ (z.first ++ p.first);
      more = p.more;
      next = p.next;
      formed = (omega (arith, e), zeros, z.formed, p.formed);
      cuts = (z.cuts, p.cuts);
      valid = (omega (arith, e), zeros, z.valid, p.valid);
      are = are ∙ ap (λ (t : List (List ℕ)). line ∷ t) (z.are ∙ ap (λ (t : List (List ℕ)). z.first ++ t) p.are ∙ sym (append_assoc z.first p.first p.more));
      said = (subst (Says line) is says, zip_append Says z.first (nodes z.tree) p.first (nodes p.tree) z.said p.said);
      rest = subst (λ (b : Bool). IsWrittenBy (either b (f p.next) (asks_tree w more (prefix ++ Minus ∷ []) p.next f)) p.more y) zeros p.rest;
    }
    by false some =
        let m = reads (prefix ++ Minus ∷ []) p.next f p.more y (child_long w prefix Minus more e) (subst (λ (b : Bool). IsWrittenBy (either b (f p.next) (asks_tree w more (prefix ++ Minus ∷ []) p.next f)) p.more y) some p.rest) in
        record {
          tree = Three z.tree p.tree m.tree;
          first = line ∷ ((z.first ++ p.first) ++ m.first);
          more = m.more;
          next = m.next;
          formed = (omega (arith, e), some, z.formed, p.formed, m.formed);
          cuts = (z.cuts, p.cuts, m.cuts);
          valid = (omega (arith, e), some, z.valid, p.valid, m.valid);
          are = are ∙ ap (λ (t : List (List ℕ)). line ∷ t) (z.are ∙ ap (λ (t : List (List ℕ)). z.first ++ t) (p.are ∙ ap (λ (t : List (List ℕ)). p.first ++ t) m.are) ∙ sym (append_assoc z.first p.first (m.first ++ m.more)) ∙ sym (append_assoc (z.first ++ p.first) m.first m.more));
          said = (subst (Says line) is says, zip_append Says (z.first ++ p.first) (nodes z.tree ++ nodes p.tree) m.first (nodes m.tree) (zip_append Says z.first (nodes z.tree) p.first (nodes p.tree) z.said p.said) m.said);
          rest = m.rest;
        }

tree_back : {A : Type 0} (w : Signed) (more : ℕ) (prefix : List Sign) (n : ℕ) (f : ℕ → Course A) (ls : List (List ℕ)) (y : A) → length prefix + more ≡ w.choices → IsWrittenBy (asks_tree w more prefix n f) ls y → IsTreeFirst w prefix f ls y
unfolding asks_tree
tree_back w zero prefix n f ls y e h =
    let b = node_first w prefix n (λ node. f (n + 1)) ls y h in
    elim b.is as (λ _. IsTreeFirst w prefix f ls y) [
      | inl split ↦ absurd (let lt : length prefix < w.choices = subst (λ (q : Record). Fits w prefix (said_of q)) split b.fits in omega (arith, lt, e))
      | inr leaf ↦ leaf_first w prefix f (n + 1) ls b.more b.line b.node y b.are b.says leaf b.fits b.rest
    ]
tree_back {A} w (suc more) prefix n f ls y e h =
    let g : Said → Course A = λ node. if_split node (children_then w more prefix f (n + 1)) (f (n + 1)) in
    let b = node_first w prefix n g ls y h in
    elim b.is as (λ _. IsTreeFirst w prefix f ls y) [
      | inl split ↦ split_first w more prefix f (n + 1) ls b.more b.line b.node y e (λ p k h ms z l v. tree_back w more p k h ms z l v) b.are b.says split (subst (λ (q : Record). IsWrittenBy (g (said_of q)) b.more y) split b.rest)
      | inr (inl flat) ↦ leaf_first w prefix f (n + 1) ls b.more b.line b.node y b.are b.says (inl flat) b.fits (subst (λ (q : Record). IsWrittenBy (g (said_of q)) b.more y) flat b.rest)
      | inr (inr (u, cut, free)) ↦ leaf_first w prefix f (n + 1) ls b.more b.line b.node y b.are b.says (inr (u, cut, free)) b.fits (subst (λ (q : Record). IsWrittenBy (g (said_of q)) b.more y) cut b.rest)
    ]

-- ---- trees of reactions

-- a tree is one of reaction r, by its form and by its tests
abbrev IsGoodTree : Net → ℕ → Plan → Type 0
IsGoodTree net r tree = IsSlopeTree net r tree × IsValid (slopes net r) [] tree

-- so are these trees of the reactions from r on
abbrev AreGoodTrees : Net → ℕ → List Plan → Type 0
AreGoodTrees net r trees = (i : ℕ) → i < length trees → IsGoodTree net (r + i) (get_or trees i Level)

one_good : (net : Net) (r : ℕ) (tree : Plan) (trees : List Plan) → IsGoodTree net r tree → AreGoodTrees net (r + 1) trees → AreGoodTrees net r (tree ∷ trees)
one_good net r tree trees g more zero lt = subst (λ (k : ℕ). IsGoodTree net k tree) (omega arith) g
one_good net r tree trees g more (suc i) lt = subst (λ (k : ℕ). IsGoodTree net k (get_or trees i Level)) (omega arith) (more i (omega (arith, lt)))

later_good : (net : Net) (r : ℕ) (tree : Plan) (trees : List Plan) → AreGoodTrees net r (tree ∷ trees) → AreGoodTrees net (r + 1) trees
later_good net r tree trees all i lt = subst (λ (k : ℕ). IsGoodTree net k (get_or trees i Level)) (omega arith) (all (suc i) (omega (arith, lt)))

first_good : (net : Net) (r : ℕ) (tree : Plan) (trees : List Plan) → AreGoodTrees net r (tree ∷ trees) → IsGoodTree net r tree
first_good net r tree trees all = subst (λ (k : ℕ). IsGoodTree net k tree) (omega arith) (all 0 (omega arith))

-- the lines say good trees of so many reactions, and then make this course give this
record AreTreesFirst {A : Type 0} (net : Net) (count r : ℕ) (f : ℕ → Course A) (ls : List (List ℕ)) (y : A) : Type 0 where
  trees : List Plan
  first : List (List ℕ)
  more : List (List ℕ)
  next : ℕ
  long : length trees ≡ count
  good : AreGoodTrees net r trees
  are : ls ≡ first ++ more
  said : Say first (flat_map nodes trees)
  rest : IsWrittenBy (f next) more y

trees_back : {A : Type 0} (net : Net) (count r n : ℕ) (f : ℕ → Course A) (ls : List (List ℕ)) (y : A) → IsNetwork net → r + count ≡ length net.reactions → IsWrittenBy (asks_trees net count r n f) ls y → AreTreesFirst net count r f ls y
unfolding asks_trees
trees_back net zero r n f ls y w e h = record { trees = []; first = []; more = ls; next = n; long = refl; good = λ i lt. absurd (omega (arith, lt)); are = refl; said = tt; rest = h }
trees_back {A} net (suc count) r n f ls y w e h =
    let p = slopes net r in
    let later : ℕ → Course A = λ k. asks_trees net count (r + 1) k f in
    let t = tree_back p p.choices [] n later ls y (omega arith) h in
    let ts = trees_back net count (r + 1) t.next f t.more y w (omega (arith, e)) t.rest in
    let tree = t.tree in
    let formed = subst (λ (m : ℕ). IsFormedTree p.choices m m [] tree) (rows_counted net w r (omega (arith, e))) t.formed in
    record {
      trees = tree ∷ ts.trees;
      first = t.first ++ ts.first;
      more = ts.more;
      next = ts.next;
      long = ap suc ts.long;
      good = one_good net r tree ts.trees ((formed, t.cuts), t.valid) ts.good;
      are = t.are ∙ ap (λ (l : List (List ℕ)). t.first ++ l) ts.are ∙ sym (append_assoc t.first ts.first ts.more);
      said = zip_append Says t.first (nodes tree) ts.first (flat_map nodes ts.trees) t.said ts.said;
      rest = ts.rest;
    }

-- ---- no end within

split_no_end : {A : Type 0} (node : Said) (children after : Course A) → HasNoEnd children → HasNoEnd after → HasNoEnd (if_split node children after)
split_no_end Splits children after c a = c
split_no_end Flats children after c a = a
split_no_end (CutsA u) children after c a = a
split_no_end (CutsB u) children after c a = a

tree_no_end : {A : Type 0} (w : Signed) (more : ℕ) (prefix : List Sign) (n : ℕ) (f : ℕ → Course A) → ((k : ℕ) → HasNoEnd (f k)) → HasNoEnd (asks_tree w more prefix n f)
unfolding asks_tree
tree_no_end w zero prefix n f h = no_end_then (asks_node w prefix n) (λ node. f (n + 1)) (node_no_end w prefix n) (λ node. h (n + 1))
tree_no_end w (suc more) prefix n f h =
    no_end_then (asks_node w prefix n) (λ node. if_split node (children_then w more prefix f (n + 1)) (f (n + 1))) (node_no_end w prefix n)
    (λ node. split_no_end node (children_then w more prefix f (n + 1)) (f (n + 1))
    (tree_no_end w more (prefix ++ Zero ∷ []) (n + 1) (plus_then w more prefix f) (λ k. tree_no_end w more (prefix ++ Plus ∷ []) k (minus_then w more prefix f)
    (λ m. either_no_end (all_zero prefix) (f m) (asks_tree w more (prefix ++ Minus ∷ []) m f) (h m) (tree_no_end w more (prefix ++ Minus ∷ []) m f h)))) (h (n + 1)))

trees_no_end : {A : Type 0} (net : Net) (count r n : ℕ) (f : ℕ → Course A) → ((k : ℕ) → HasNoEnd (f k)) → HasNoEnd (asks_trees net count r n f)
unfolding asks_trees
trees_no_end net zero r n f h = h n
trees_no_end net (suc count) r n f h = tree_no_end (slopes net r) (slopes net r).choices [] n (λ k. asks_trees net count (r + 1) k f) (λ k. trees_no_end net count (r + 1) k f h)

-- ---- the lines of trees are written

-- the lines of these records, and then others
abbrev lines_then : List Record → List (List ℕ) → List (List ℕ)
lines_then rs ms = map record_text rs ++ ms

two_then : (xs ys : List Record) (ms : List (List ℕ)) → lines_then xs (lines_then ys ms) ≡ lines_then (xs ++ ys) ms
two_then xs ys ms = sym (append_assoc (map record_text xs) (map record_text ys) ms) ∙ ap (λ (t : List (List ℕ)). t ++ ms) (sym (map-append record_text xs ys))

-- after a node that is no split comes what comes after it
no_split : {A : Type 0} (node : Said) (children after : Course A) (ms : List (List ℕ)) (y : A) → (node ≡ Splits → ⊥) → IsWrittenBy after ms y → IsWrittenBy (if_split node children after) ms y
no_split Splits children after ms y none h = absurd (none refl)
no_split Flats children after ms y none h = h
no_split (CutsA u) children after ms y none h = h
no_split (CutsB u) children after ms y none h = h

leaf_on : {A : Type 0} (w : Signed) (more : ℕ) (prefix : List Sign) (n : ℕ) (form : Form) (r : Record) (f : ℕ → Course A) (ms : List (List ℕ)) (y : A) → IsIn form (node_forms (rows_of w)) → are_words form.words ≡ true → IsIn (kind_of form) words → IsBounded form → FitsForm form r
    → Fits w prefix (said_of r) → (said_of r ≡ Splits → ⊥) → IsWrittenBy (f (n + 1)) ms y → IsWrittenBy (asks_tree w more prefix n f) (record_text r ∷ ms) y
unfolding asks_tree
leaf_on w zero prefix n form r f ms y i known has bounded fits passes leaf h = node_on w prefix n form r (λ node. f (n + 1)) ms y i known has bounded fits passes h
leaf_on {A} w (suc more) prefix n form r f ms y i known has bounded fits passes leaf h =
    node_on w prefix n form r (λ node. if_split node (children_then w more prefix f (n + 1)) (f (n + 1))) ms y i known has bounded fits passes
    (no_split (said_of r) (children_then w more prefix f (n + 1)) (f (n + 1)) ms y leaf h)

split_on : {A : Type 0} (w : Signed) (more : ℕ) (prefix : List Sign) (n : ℕ) (f : ℕ → Course A) (ms : List (List ℕ)) (y : A) → length prefix < w.choices → IsWrittenBy (children_then w more prefix f (n + 1)) ms y → IsWrittenBy (asks_tree w (suc more) prefix n f) (record_text (one_word (codes "split") []) ∷ ms) y
unfolding asks_tree
split_on w more prefix n f ms y lt h =
    node_on w prefix n (record_form (codes "split") []) (one_word (codes "split") []) (λ node. if_split node (children_then w more prefix f (n + 1)) (f (n + 1))) ms y (inl refl) refl (in_by_test (codes "split") words refl) (bare_row (codes "split") refl) (refl, refl) lt h

tree_on : {A : Type 0} (w : Signed) (more : ℕ) (prefix : List Sign) (n : ℕ) (tree : Plan) (f : ℕ → Course A) (ms : List (List ℕ)) (y : A) → length prefix + more ≡ w.choices → rows_of w ≤ 400 → IsFormedTree w.choices (rows_of w) (rows_of w) prefix tree → CutsPartA tree → IsValid w prefix tree
    → IsWrittenBy (f (n + node_count tree)) ms y → IsWrittenBy (asks_tree w more prefix n f) (lines_then (nodes tree) ms) y
tree_on w zero prefix n (Both z p) f ms y e few formed cuts valid h = absurd (omega (arith, e, valid.0))
tree_on w zero prefix n (Three z p m) f ms y e few formed cuts valid h = absurd (omega (arith, e, valid.0))
tree_on {A} w (suc more) prefix n (Both z p) f ms y e few formed cuts valid h =
    let k = n + 1 + node_count z in
    let last : IsWrittenBy (minus_then w more prefix f (k + node_count p)) ms y =
    subst (λ (b : Bool). IsWrittenBy (either b (f (k + node_count p)) (asks_tree w more (prefix ++ Minus ∷ []) (k + node_count p) f)) ms y) (sym valid.1) (subst (λ (j : ℕ). IsWrittenBy (f j) ms y) (omega arith) h) in
    let plus = tree_on w more (prefix ++ Plus ∷ []) k p (minus_then w more prefix f) ms y (child_long w prefix Plus more e) few formed.3 cuts.1 valid.3 last in
    let zero_ = tree_on w more (prefix ++ Zero ∷ []) (n + 1) z (plus_then w more prefix f) (lines_then (nodes p) ms) y (child_long w prefix Zero more e) few formed.2 cuts.0 valid.2 plus in
    split_on w more prefix n f (lines_then (nodes z ++ nodes p) ms) y valid.0 (subst (λ (ls : List (List ℕ)). IsWrittenBy (children_then w more prefix f (n + 1)) ls y) (two_then (nodes z) (nodes p) ms) zero_)
tree_on {A} w (suc more) prefix n (Three z p m) f ms y e few formed cuts valid h =
    let k = n + 1 + node_count z in
    let j = k + node_count p in
    let minus = tree_on w more (prefix ++ Minus ∷ []) j m f ms y (child_long w prefix Minus more e) few formed.4 cuts.2 valid.4 (subst (λ (i : ℕ). IsWrittenBy (f i) ms y) (omega arith) h) in
    let last : IsWrittenBy (minus_then w more prefix f j) (lines_then (nodes m) ms) y = subst (λ (b : Bool). IsWrittenBy (either b (f j) (asks_tree w more (prefix ++ Minus ∷ []) j f)) (lines_then (nodes m) ms) y) (sym valid.1) minus in
    let plus = tree_on w more (prefix ++ Plus ∷ []) k p (minus_then w more prefix f) (lines_then (nodes m) ms) y (child_long w prefix Plus more e) few formed.3 cuts.1 valid.3 last in
    let zero_ = tree_on w more (prefix ++ Zero ∷ []) (n + 1) z (plus_then w more prefix f) (lines_then (nodes p) (lines_then (nodes m) ms)) y (child_long w prefix Zero more e) few formed.2 cuts.0 valid.2 plus in
    let same : lines_then (nodes z) (lines_then (nodes p) (lines_then (nodes m) ms)) ≡ lines_then ((nodes z ++ nodes p) ++ nodes m) ms = two_then (nodes z) (nodes p) (lines_then (nodes m) ms) ∙ two_then (nodes z ++ nodes p) (nodes m) ms in
    split_on w more prefix n f (lines_then ((nodes z ++ nodes p) ++ nodes m) ms) y valid.0 (subst (λ (ls : List (List ℕ)). IsWrittenBy (children_then w more prefix f (n + 1)) ls y) same zero_)
tree_on w more prefix n (RulesA u) f ms y e few formed cuts valid h =
    leaf_on w more prefix n (free_form (codes "cuta") (rows_of w)) (one_word (codes "cuta") u) f ms y (inr (inr (inl refl))) refl (in_by_test (codes "cuta") words refl) (free_bounded (codes "cuta") (rows_of w) refl few) (free_fits (codes "cuta") (rows_of w) u formed) valid (λ e. cc) h
tree_on w more prefix n (RulesB u) f ms y e few formed cuts valid h = absurd cuts
tree_on w more prefix n Level f ms y e few formed cuts valid h =
    leaf_on w more prefix n (record_form (codes "flat") []) (one_word (codes "flat") []) f ms y (inr (inl refl)) refl (in_by_test (codes "flat") words refl) (bare_row (codes "flat") refl) (refl, refl) valid (λ e. cc) h

-- the lines of trees make the course give what the rest gives after some line
trees_on : {A : Type 0} (net : Net) (count r n : ℕ) (trees : List Plan) (f : ℕ → Course A) (ms : List (List ℕ)) (y : ℕ → A) → IsNetwork net → IsSmallEnough net → length trees ≡ count → r + count ≡ length net.reactions → AreGoodTrees net r trees
    → ((k : ℕ) → IsWrittenBy (f k) ms (y k)) → (k : ℕ) × IsWrittenBy (asks_trees net count r n f) (lines_then (flat_map nodes trees) ms) (y k)
unfolding asks_trees
trees_on net zero r n [] f ms y w s l e good h = (n, h n)
trees_on net zero r n (tree ∷ trees) f ms y w s l e good h = absurd (omega (arith, l))
trees_on net (suc count) r n [] f ms y w s l e good h = absurd (omega (arith, l))
trees_on {A} net (suc count) r n (tree ∷ trees) f ms y w s l e good h =
    let p = slopes net r in
    let later : ℕ → Course A = λ k. asks_trees net count (r + 1) k f in
    let rest = trees_on net count (r + 1) (n + node_count tree) trees f ms y w s (omega (arith, l)) (omega (arith, e)) (later_good net r tree trees good) h in
    let g = first_good net r tree trees good in
    let rows = rows_counted net w r (omega (arith, e)) in
    let formed = subst (λ (m : ℕ). IsFormedTree p.choices m m [] tree) (sym rows) g.0.0 in (
      rest.0,
      subst (λ (ls : List (List ℕ)). IsWrittenBy (asks_tree p p.choices [] n later) ls (y rest.0)) (two_then (nodes tree) (flat_map nodes trees) ms)
          (tree_on p p.choices [] n tree later (lines_then (flat_map nodes trees) ms) (y rest.0) (omega arith) (omega (arith, rows, rows_few net s)) formed g.0.1 g.1 rest.1),
    )

-- ---- plain records

tree_plain : (choices rows : ℕ) (prefix : List Sign) (tree : Plan) → rows ≤ 400 → IsFormedTree choices rows rows prefix tree → AllPlain (nodes tree)
tree_plain choices rows prefix (Both z p) few f = (plain_bare (codes "split") refl, short_both (nodes z) (nodes p) (tree_plain choices rows (prefix ++ Zero ∷ []) z few f.2) (tree_plain choices rows (prefix ++ Plus ∷ []) p few f.3))
tree_plain choices rows prefix (Three z p m) few f = (
  plain_bare (codes "split") refl,
  short_both (nodes z ++ nodes p) (nodes m) (short_both (nodes z) (nodes p) (tree_plain choices rows (prefix ++ Zero ∷ []) z few f.2) (tree_plain choices rows (prefix ++ Plus ∷ []) p few f.3))
      (tree_plain choices rows (prefix ++ Minus ∷ []) m few f.4),
)
tree_plain choices rows prefix (RulesA u) few f = (fitting_is_plain (free_form (codes "cuta") rows) (one_word (codes "cuta") u) (free_bounded (codes "cuta") rows refl few) (free_fits (codes "cuta") rows u f), tt)
tree_plain choices rows prefix (RulesB u) few f = (fitting_is_plain (free_form (codes "cutb") rows) (one_word (codes "cutb") u) (free_bounded (codes "cutb") rows refl few) (free_fits (codes "cutb") rows u f), tt)
tree_plain choices rows prefix Level few f = (plain_bare (codes "flat") refl, tt)

trees_plain : (net : Net) (r : ℕ) (trees : List Plan) → row_count net ≤ 400 → ((i : ℕ) → i < length trees → IsSlopeTree net (r + i) (get_or trees i Level)) → AllPlain (flat_map nodes trees)
trees_plain net r [] few f = tt
trees_plain net r (tree ∷ trees) few f =
    let first = f 0 (omega arith) in
    short_both (nodes tree) (flat_map nodes trees) (tree_plain _ (row_count net) [] tree few first.0)
    (trees_plain net (r + 1) trees few (λ i lt. subst (λ (k : ℕ). IsSlopeTree net k (get_or trees i Level)) (omega arith) (f (suc i) (omega (arith, lt)))))

pub records_plain : (net : Net) (answer : Endo) → IsNetwork net → IsFormedEndo net answer → AllPlain (records answer)
records_plain net (answers.Yes trees) w f = (plain_bare (codes "yes") refl, trees_plain net 0 trees (rows_few net f.0) (λ i lt. subst (λ (k : ℕ). IsSlopeTree net k (get_or trees i Level)) (omega arith) (let all = f.1.each in all i (omega (arith, lt, f.1.count)))))
records_plain net (answers.No reaction slope) w f = (
  fitting_is_plain (small_form (codes "no") 1 1 (length net.reactions)) (small_record (codes "no") (reaction ∷ [])) (no_row net w) (refl, number_fits (length net.reactions) reaction f.0.0 f.0.1),
  (fitting_is_plain (free_form (codes "slope") (length net.names)) (one_word (codes "slope") slope.list) (species_row net (codes "slope") w refl) (free_fits (codes "slope") (length net.names) slope.list f.1), tt),
)
records_plain net (answers.Wide reaction index basis) w f = (
  fitting_is_plain (wide_form (length net.reactions) (length net.names) (row_count net)) (small_record (codes "wide") (reaction ∷ index ∷ basis.list)) (wide_row net w) (wide_fits (length net.reactions) (length net.names) (row_count net) reaction index basis.list f.0 f.1),
  tt,
)
records_plain net (answers.Spent reaction nodes) w f = (fitting_is_plain (spent_form (length net.reactions)) (small_record (codes "spent") (reaction ∷ nodes ∷ [])) (spent_row net w) (spent_fits (length net.reactions) reaction nodes f.0 f.1), tt)
records_plain net answers.Large w f = (plain_bare (codes "large") refl, tt)

-- ---- answers of lines

-- the lines say the records of a formed answer whose tests hold, of which this is read
abbrev IsAnswerOf : Net → List (List ℕ) → EndoSeen → Type 0
IsAnswerOf net ls read = (answer : Endo) × IsFormedEndo net answer × IsValidEndo net answer × Say ls (records answer) × (read ≡ seen_of answer)

-- the same of the lines after the first
abbrev IsAfter : Net → Record → List (List ℕ) → EndoSeen → Type 0
IsAfter net first ls read = (rs : List Record) × Say ls rs × ((answer : Endo) × IsFormedEndo net answer × IsValidEndo net answer × (records answer ≡ first ∷ rs) × (read ≡ seen_of answer))

yes_back : (net : Net) (n : ℕ) (ls : List (List ℕ)) (y : ℕ × EndoSeen) → IsNetwork net → IsSmallEnough net → IsWrittenBy (asks_yes net n) ls y → IsAfter net (one_word (codes "yes") []) ls y.1
yes_back net n ls y w small h =
    let t = trees_back net (length net.reactions) 0 n (λ k. Give (k, Yes)) ls y w (omega arith) h in
    let g = give_back (t.next, Yes) y t.more t.rest in
    let same : ls ≡ t.first = t.are ∙ ap (λ (l : List (List ℕ)). t.first ++ l) g.1 ∙ append-nil t.first in
    let good = t.good in
    let each : (r : ℕ) → r < length net.reactions → IsGoodTree net r (get_or t.trees r Level) = λ r lt. subst (λ (k : ℕ). IsGoodTree net k (get_or t.trees r Level)) (omega arith) (good r (omega (arith, lt, t.long))) in
    let formed : AreFormedTrees net t.trees = record { count = t.long; each = λ r lt. (each r lt).0 } in
    let valid : AreValidTrees net t.trees = record { count = t.long; each = λ r lt. (each r lt).1 } in (
      flat_map nodes t.trees,
      subst (λ (l : List (List ℕ)). Say l (flat_map nodes t.trees)) (sym same) t.said,
      (answers.Yes t.trees, (small, formed), (small, valid), refl, sym (ap (λ (q : ℕ × EndoSeen). q.1) g.0)),
    )

no_back : (net : Net) (reaction n : ℕ) (ls : List (List ℕ)) (y : ℕ × EndoSeen) → IsFrom 1 (length net.reactions) reaction → IsWrittenBy (asks_no net reaction n) ls y → IsAfter net (small_record (codes "no") (reaction ∷ [])) ls y.1
no_back net reaction n ls y from h =
    let form = free_form (codes "slope") (length net.names) in
    let b = first_back words n (form ∷ []) (λ q. test_own n 73 (IsAgainst net (reaction - 1) q.numbers) >>= (λ x. Give (n + 1, No reaction))) ls y h in
    let r = b.first in
    let f = free_row (codes "slope") (length net.names) r (only form r b.fits) in
    let t = test_back n 73 (IsAgainst net (reaction - 1) r.numbers) (λ x. Give (n + 1, No reaction)) b.more y b.rest in
    let g = give_back (n + 1, No reaction) y b.more t.1 in
    let named : NamesReaction net reaction (reaction - 1) = record { is = omega (arith, from.0); inside = omega (arith, from.0, from.1) } in (
      one_word (codes "slope") r.numbers ∷ [],
      one_said ls b.more b.line (one_word (codes "slope") r.numbers) [] b.are (subst (Says b.line) f.0 b.says) (none_said b.more g.1),
      (answers.No reaction (record { list = r.numbers; spare = 0 }), (from, f.1), (reaction - 1, named, t.0), refl, sym (ap (λ (q : ℕ × EndoSeen). q.1) g.0)),
    )

-- the lines that are read are those of a formed answer whose tests hold
lines_back : (net : Net) (n : ℕ) (ls : List (List ℕ)) (y : ℕ × EndoSeen) → IsNetwork net → IsWrittenBy (asks_endo net n) ls y → IsAnswerOf net ls y.1
lines_back net n ls y w h = by b.fits
  where
    b : IsFirst (verdict_forms net) (λ r. asks_rest net (n + 1) r) ls y
    b = first_back words n (verdict_forms net) (λ r. asks_rest net (n + 1) r) ls y h

    -- what follows this first record
    rest : (r : Record) → b.first ≡ r → IsWrittenBy (asks_rest net (n + 1) r) b.more y
    rest r e = subst (λ (q : Record). IsWrittenBy (asks_rest net (n + 1) q) b.more y) e b.rest

    after : (r : Record) → b.first ≡ r → IsAfter net r b.more y.1 → IsAnswerOf net ls y.1
    after r e (rs, said, (answer, formed, valid, are, read)) = (answer, formed, valid, subst (λ (q : List Record). Say ls q) (sym are) (one_said ls b.more b.line r rs b.are (subst (Says b.line) e b.says) said), read)

    open_by : (answer : Endo) (r : Record) → b.first ≡ r → records answer ≡ r ∷ [] → seen_of answer ≡ Undecided → IsFormedEndo net answer → IsValidEndo net answer → IsWrittenBy (Give (n + 1, Undecided)) b.more y → IsAnswerOf net ls y.1
    open_by answer r e are out formed valid q =
        let g = give_back (n + 1, Undecided) y b.more q in
        after r e ([], none_said b.more g.1, (answer, formed, valid, are, sym (ap (λ (q : ℕ × EndoSeen). q.1) g.0) ∙ sym out))

    other : (form : Form) → IsIn form (other_forms net) → FitsForm form b.first → IsAnswerOf net ls y.1
    other form (inl e) f =
        let k = one_back (codes "no") 1 (length net.reactions) b.first (subst (λ (x : Form). FitsForm x b.first) e f) in
        let r = small_record (codes "no") (k.0 ∷ []) in
        after r k.1 (no_back net k.0 (n + 1) b.more y k.2 (rest r k.1))
    other form (inr (inl e)) f =
        let v = wide_back (length net.reactions) (length net.names) (row_count net) b.first (subst (λ (x : Form). FitsForm x b.first) e f) in
        let r = small_record (codes "wide") (v.0 ∷ v.1 ∷ v.2) in
        open_by (answers.Wide v.0 v.1 (record { list = v.2; spare = 0 })) r v.3 refl refl (v.4, v.5) tt (rest r v.3)
    other form (inr (inr (inl e))) f =
        let v = spent_back (length net.reactions) b.first (subst (λ (x : Form). FitsForm x b.first) e f) in
        let r = small_record (codes "spent") (v.0 ∷ v.1 ∷ []) in
        open_by (answers.Spent v.0 v.1) r v.2 refl refl (v.3, v.4) tt (rest r v.2)
    other form (inr (inr (inr (inl e)))) f =
        let r = one_word (codes "large") [] in
        let is = bare_back (codes "large") b.first (subst (λ (x : Form). FitsForm x b.first) e f) in
        open_by answers.Large r is refl refl tt tt (rest r is)
    other form (inr (inr (inr (inr none)))) f = absurd none

    by : IsOneOf (verdict_forms net) b.first → IsAnswerOf net ls y.1
    by (form, i, f) = elim (verdict_back net form i) as (λ _. IsAnswerOf net ls y.1) [
      | inl (small, e) ↦
          let r = one_word (codes "yes") [] in
          let is = bare_back (codes "yes") b.first (subst (λ (x : Form). FitsForm x b.first) e f) in
          after r is (yes_back net (n + 1) b.more y w (small_back net small) (rest r is))
      | inr j ↦ other form j f
    ]

-- ---- lines of answers

-- the lines of a formed answer whose tests hold are read, and this is read of them
abbrev IsRead : Net → ℕ → Endo → Type 0
IsRead net n answer = (k : ℕ) × IsWrittenBy (asks_endo net n) (map record_text (records answer)) (k, seen_of answer)

head_on : (net : Net) (n : ℕ) (form : Form) (r : Record) (ms : List (List ℕ)) (y : ℕ × EndoSeen) → IsIn form (verdict_forms net) → are_words form.words ≡ true → IsIn (kind_of form) words → IsBounded form → FitsForm form r
    → IsWrittenBy (asks_rest net (n + 1) r) ms y → IsWrittenBy (asks_endo net n) (record_text r ∷ ms) y
head_on net n form r ms y i known has b f more = line_on words n (verdict_forms net) form r (λ q. asks_rest net (n + 1) q) ms y i known has b f more

lines_on : (net : Net) (n : ℕ) (answer : Endo) → IsNetwork net → IsFormedEndo net answer → IsValidEndo net answer → IsRead net n answer
lines_on net n (answers.Yes trees) w f v =
    let good : AreGoodTrees net 0 trees = λ i lt. subst (λ (k : ℕ). IsGoodTree net k (get_or trees i Level)) (omega arith)
    (let formed = f.1.each in formed i (omega (arith, lt, f.1.count)), let valid = v.1.each in valid i (omega (arith, lt, f.1.count))) in
    let all = trees_on net (length net.reactions) 0 (n + 1) trees (λ k. Give (k, Yes)) [] (λ k. (k, Yes)) w f.0 f.1.count (omega arith) good (λ k. given (k, Yes)) in
    let ms = map record_text (flat_map nodes trees) in
    let lines : IsWrittenBy (asks_yes net (n + 1)) ms (all.0, Yes) = subst (λ (ls : List (List ℕ)). IsWrittenBy (asks_yes net (n + 1)) ls (all.0, Yes)) (append-nil ms) all.1 in
    (all.0, head_on net n (record_form (codes "yes") []) (one_word (codes "yes") []) ms (all.0, Yes) (yes_due net f.0) refl (in_by_test (codes "yes") words refl) (bare_row (codes "yes") refl) (refl, refl) lines)
lines_on net n (answers.No reaction slope) w f (r, named, against) =
    let k = n + 1 in
    let form = small_form (codes "no") 1 1 (length net.reactions) in
    let line_form = free_form (codes "slope") (length net.names) in
    let r_is : r ≡ reaction - 1 = omega (arith, named.is) in
    let holds = subst (λ (q : ℕ). IsAgainst net q slope.list) r_is against in
    let line : IsWrittenBy (asks_no net reaction k) (record_text (one_word (codes "slope") slope.list) ∷ []) (k + 1, No reaction) =
    line_on words k (line_form ∷ []) line_form (one_word (codes "slope") slope.list) (λ q. test_own k 73 (IsAgainst net (reaction - 1) q.numbers) >>= (λ x. Give (k + 1, No reaction))) [] (k + 1, No reaction) (inl refl) refl (in_by_test (codes "slope") words refl)
    (species_row net (codes "slope") w refl) (free_fits (codes "slope") (length net.names) slope.list f.1) (test_on k 73 (IsAgainst net (reaction - 1) slope.list) (λ x. Give (k + 1, No reaction)) [] (k + 1, No reaction) holds (given (k + 1, No reaction))) in (
      k + 1,
      head_on net n form (small_record (codes "no") (reaction ∷ [])) (record_text (one_word (codes "slope") slope.list) ∷ []) (k + 1, No reaction) (other_due net form (inl refl)) refl (in_by_test (codes "no") words refl) (no_row net w)
          (refl, number_fits (length net.reactions) reaction f.0.0 f.0.1) line,
    )
lines_on net n (answers.Wide reaction index basis) w f v =
    let form = wide_form (length net.reactions) (length net.names) (row_count net) in (
      n + 1,
      head_on net n form (small_record (codes "wide") (reaction ∷ index ∷ basis.list)) [] (n + 1, Undecided) (other_due net form (inr (inl refl))) refl (in_by_test (codes "wide") words refl) (wide_row net w)
          (wide_fits (length net.reactions) (length net.names) (row_count net) reaction index basis.list f.0 f.1) (given (n + 1, Undecided)),
    )
lines_on net n (answers.Spent reaction nodes) w f v =
    let form = spent_form (length net.reactions) in
    (n + 1, head_on net n form (small_record (codes "spent") (reaction ∷ nodes ∷ [])) [] (n + 1, Undecided) (other_due net form (inr (inr (inl refl)))) refl (in_by_test (codes "spent") words refl) (spent_row net w) (spent_fits (length net.reactions) reaction nodes f.0 f.1) (given (n + 1, Undecided)))
lines_on net n answers.Large w f v =
    let form = record_form (codes "large") [] in
    (n + 1, head_on net n form (one_word (codes "large") []) [] (n + 1, Undecided) (other_due net form (inr (inr (inr (inl refl))))) refl (in_by_test (codes "large") words refl) (bare_row (codes "large") refl) (refl, refl) (given (n + 1, Undecided)))

-- ---- no end within

yes_no_end : (net : Net) (n : ℕ) → HasNoEnd (asks_yes net n)
yes_no_end net n = trees_no_end net (length net.reactions) 0 n (λ k. Give (k, Yes)) (λ k. give_no_end (k, Yes))

no_no_end : (net : Net) (reaction n : ℕ) → HasNoEnd (asks_no net reaction n)
no_no_end net reaction n =
    no_end_then (asks_part words n (slope_forms net)) (λ q. test_own n 73 (IsAgainst net (reaction - 1) q.numbers) >>= (λ x. Give (n + 1, No reaction))) (part_no_end words n (slope_forms net))
    (λ q. test_no_end n 73 (IsAgainst net (reaction - 1) q.numbers) (λ x. Give (n + 1, No reaction)) (give_no_end (n + 1, No reaction)))

lines_no_end : (net : Net) (n : ℕ) → HasNoEnd (asks_endo net n)
lines_no_end net n = no_end_then (asks_part words n (verdict_forms net)) (λ r. asks_rest net (n + 1) r) (part_no_end words n (verdict_forms net))
    (λ r. let no = asks_no net (first_number r.numbers) (n + 1) in
    either_no_end (bytes_eq (word_of r) (codes "yes")) (asks_yes net (n + 1)) (either (bytes_eq (word_of r) (codes "no")) no (Give (n + 1, Undecided))) (yes_no_end net (n + 1))
    (either_no_end (bytes_eq (word_of r) (codes "no")) no (Give (n + 1, Undecided)) (no_no_end net (first_number r.numbers) (n + 1)) (give_no_end (n + 1, Undecided))))

-- ---- the part

pub endo_is_answered : IsAnswered part meant
endo_is_answered = record {
  back = lines_back;
  on = lines_on;
  plain = records_plain;
  goes_on = lines_no_end;
  title = (plain_is_line (codes "crn part endo 1") refl, omega arith);
  end_known = in_by_test (codes "end") words refl;
}
