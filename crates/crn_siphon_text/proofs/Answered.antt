-- The lines of a document on persistence are those of the formed answers whose tests hold.
use Rattle.crn_siphon_text.proofs.Prelude.{◌≡◌, ◌+◌, ◌-◌, ◌++◌, ℕ, zero, suc, Bool, true, false, List, [], ◌∷◌, length, map, refl, sym, ap, subst, ◌∙◌, inl, inr, arith, ℤ, pos, codes, bytes_eq, append-nil, length-append, map-append, IsIn, Net, IsNetwork, IsConservationLaw, MAX_BUDGET, zip_append, AreFree, RuleOutConservation, Record, Form, Says, Fits, record_text, kind_of, record_form, small_form, free_form, Course, Give, ◌>>=◌, test_own, IsWrittenBy, either, word_of, IsOneOf, one_word, small_record, asks_part, AllPlain, IsPlain, IsBounded, fitting_is_plain, short_both, free_fits, free_row, number_fits, give_back, written_cuts, written_then, HasNoEnd, no_end_then, give_no_end, part_no_end, test_no_end, are_words, in_by_test, plain_is_line, IsAnswered, IsFirst, first_back, Say, only, one_said, none_said, line_on, given, test_back, test_on, either_no_end, bare_back, one_back, bits_back, bits_fit, species_row, reactions_row, bare_row, plain_bare, IsSiphon, Covers, IsSemiLaw, IsZeroOutside, set_of, IsBad, IsVoid, IsValidTree, IsFormedTree, IsFormed, IsValid, Plan, Fork, Bad, Law, Void, Said, SaysYes, NoLaw, NoSiphon, Wide, Spent, Outcome, Yes, No, Undecided, words, wide_form, verdict_forms, no_forms, node_forms, Node, Forks, IsBadBy, HasLaw, Voids, node_of, leaf, asks_node, goes_on, asks_tree, asks_yes, asks_cover, asks_none, asks_no, asks_rest, asks_persist, part, tree_records, records, outcome_of, meant}
use Rattle.crn_siphon_text.proofs.Nodes.{wide_back, wide_fits, IsGood, leaf_back, leaf_on, IsNode, node_back, marks_row, bad_row, spent_row, wide_first, wide_second}

-- ---- trees

-- the lines say a valid tree
abbrev IsTreeOf : Net → List Bool → List (List ℕ) → Type 0
IsTreeOf net prefix ls = (tree : Plan) × IsFormedTree net (length prefix) tree × IsValidTree net prefix tree × Say ls (tree_records tree)

leaf_tree : (net : Net) (prefix : List Bool) (ls more : List (List ℕ)) (line : List ℕ) (r : Record) → ls ≡ line ∷ more → Says line r → more ≡ [] → IsNode net r → IsGood net prefix (node_of r) → IsTreeOf net prefix ls
leaf_tree net prefix ls more line r e s none (inl fork) g = absurd (subst (λ (q : Record). IsGood net prefix (node_of q)) fork g)
leaf_tree net prefix ls more line r e s none (inr (tree, l)) g =
    let valid = l.valid in
    let formed = l.formed in
    (tree, formed (length prefix), valid prefix g, subst (λ (rs : List Record). Say ls rs) (sym l.records) (one_said ls more line r [] e s (none_said more none)))

abbrev children : Net → ℕ → List Bool → ℕ → Course ℕ
children net more prefix n = asks_tree net more (prefix ++ true ∷ []) (n + 1) >>= (λ k. asks_tree net more (prefix ++ false ∷ []) k)

abbrev Reads : Net → ℕ → Type 0
Reads net more = (prefix : List Bool) (n : ℕ) (ls : List (List ℕ)) (y : ℕ) → length prefix + more ≡ length net.names → IsWrittenBy (asks_tree net more prefix n) ls y → IsTreeOf net prefix ls

next_long : (prefix : List Bool) (b : Bool) (more n : ℕ) → length prefix + suc more ≡ n → length (prefix ++ b ∷ []) + more ≡ n
next_long prefix b more n e = omega (arith, e, length-append prefix (b ∷ []))

formed_below : (net : Net) (prefix : List Bool) (b : Bool) (tree : Plan) → IsFormedTree net (length (prefix ++ b ∷ [])) tree → IsFormedTree net (length prefix + 1) tree
formed_below net prefix b tree f = subst (λ (k : ℕ). IsFormedTree net k tree) (length-append prefix (b ∷ [])) f

fork_tree : (net : Net) (more : ℕ) (prefix : List Bool) (n : ℕ) (ls ms : List (List ℕ)) (line : List ℕ) (r : Record) (y : ℕ) → length prefix + suc more ≡ length net.names → Reads net more → ls ≡ line ∷ ms → Says line r → r ≡ one_word (codes "fork") []
    → IsWrittenBy (children net more prefix n) ms y → IsTreeOf net prefix ls
fork_tree net more prefix n ls ms line r y e reads are s is h =
    let a = written_cuts (asks_tree net more (prefix ++ true ∷ []) (n + 1)) (λ k. asks_tree net more (prefix ++ false ∷ []) k) ms y h in
    let t = reads (prefix ++ true ∷ []) (n + 1) a.1 a.0 (next_long prefix true more (length net.names) e) a.4 in
    let u = reads (prefix ++ false ∷ []) a.0 a.2 y (next_long prefix false more (length net.names) e) a.5 in
    let said : Say ms (tree_records t.0 ++ tree_records u.0) = subst (λ (x : List (List ℕ)). Say x (tree_records t.0 ++ tree_records u.0)) (sym a.3) (zip_append Says a.1 (tree_records t.0) a.2 (tree_records u.0) t.3 u.3) in (
      Fork t.0 u.0,
      (omega (arith, e), formed_below net prefix true t.0 t.1, formed_below net prefix false u.0 u.1),
      (omega (arith, e), t.2, u.2),
      one_said ls ms line (one_word (codes "fork") []) (tree_records t.0 ++ tree_records u.0) are (subst (Says line) is s) said,
    )

goes_back : (net : Net) (more : ℕ) (prefix : List Bool) (n : ℕ) (ls ms : List (List ℕ)) (line : List ℕ) (r : Record) (y : ℕ) (node : Node) → length prefix + suc more ≡ length net.names → Reads net more → ls ≡ line ∷ ms → Says line r → IsNode net r → node_of r ≡ node
    → IsWrittenBy (goes_on net prefix n node (children net more prefix n)) ms y → IsTreeOf net prefix ls
goes_back net more prefix n ls ms line r y Forks e reads are s (inl fork) is h = fork_tree net more prefix n ls ms line r y e reads are s fork h
goes_back net more prefix n ls ms line r y Forks e reads are s (inr (tree, l)) is h = absurd (let apart = l.apart in apart is)
goes_back net more prefix n ls ms line r y (IsBadBy k) e reads are s d is h = let b = leaf_back net prefix n (IsBadBy k) ms y h in leaf_tree net prefix ls ms line r are s b.1 d (subst (IsGood net prefix) (sym is) b.0)
goes_back net more prefix n ls ms line r y (HasLaw x) e reads are s d is h = let b = leaf_back net prefix n (HasLaw x) ms y h in leaf_tree net prefix ls ms line r are s b.1 d (subst (IsGood net prefix) (sym is) b.0)
goes_back net more prefix n ls ms line r y Voids e reads are s d is h = let b = leaf_back net prefix n Voids ms y h in leaf_tree net prefix ls ms line r are s b.1 d (subst (IsGood net prefix) (sym is) b.0)

-- the node of the first line
node_first : {A : Type 0} (net : Net) (n : ℕ) (f : Node → Course A) (ls : List (List ℕ)) (y : A) → IsWrittenBy (asks_node net n >>= f) ls y → IsFirst (node_forms net) (λ r. f (node_of r)) ls y
node_first net n f ls y h =
    let a = written_cuts (asks_node net n) f ls y h in
    let b = first_back words n (node_forms net) (λ r. Give (node_of r)) a.1 a.0 a.4 in
    let g = give_back (node_of b.first) a.0 b.more b.rest in
    record {
      line = b.line;
      first = b.first;
      more = a.2;
      are = a.3 ∙ ap (λ (t : List (List ℕ)). t ++ a.2) (b.are ∙ ap (λ (t : List (List ℕ)). b.line ∷ t) g.1);
      says = b.says;
      fits = b.fits;
      rest = subst (λ (x : Node). IsWrittenBy (f x) a.2 y) (sym g.0) a.5;
    }

tree_back : (net : Net) (more : ℕ) (prefix : List Bool) (n : ℕ) (ls : List (List ℕ)) (y : ℕ) → length prefix + more ≡ length net.names → IsWrittenBy (asks_tree net more prefix n) ls y → IsTreeOf net prefix ls
unfolding asks_tree
tree_back net zero prefix n ls y e h =
    let b = node_first net n (λ node. leaf net prefix n node >>= (λ x. Give (n + 1))) ls y h in
    let l = leaf_back net prefix n (node_of b.first) b.more y b.rest in
    leaf_tree net prefix ls b.more b.line b.first b.are b.says l.1 (node_back net b.first b.fits) l.0
tree_back net (suc more) prefix n ls y e h =
    let b = node_first net n (λ node. goes_on net prefix n node (children net more prefix n)) ls y h in
    goes_back net more prefix n ls b.more b.line b.first y (node_of b.first) e (λ p k ms z l w. tree_back net more p k ms z l w) b.are b.says (node_back net b.first b.fits) refl b.rest

-- ---- no end within

node_no_end : (net : Net) (n : ℕ) → HasNoEnd (asks_node net n)
node_no_end net n = no_end_then (asks_part words n (node_forms net)) (λ r. Give (node_of r)) (part_no_end words n (node_forms net)) (λ r. give_no_end (node_of r))

leaf_no_end : (net : Net) (prefix : List Bool) (n : ℕ) (node : Node) → HasNoEnd (leaf net prefix n node >>= (λ x. Give (n + 1)))
leaf_no_end net prefix n Forks = test_no_end n 54 ⊥ (λ x. Give (n + 1)) (give_no_end (n + 1))
leaf_no_end net prefix n (IsBadBy r) = test_no_end n 54 (IsBad net prefix r) (λ x. Give (n + 1)) (give_no_end (n + 1))
leaf_no_end net prefix n (HasLaw x) = test_no_end n 53 (IsSemiLaw net x × IsZeroOutside prefix x) (λ x. Give (n + 1)) (give_no_end (n + 1))
leaf_no_end net prefix n Voids = test_no_end n 54 (IsVoid net prefix) (λ x. Give (n + 1)) (give_no_end (n + 1))

goes_no_end : (net : Net) (prefix : List Bool) (n : ℕ) (node : Node) (below : Course ℕ) → HasNoEnd below → HasNoEnd (goes_on net prefix n node below)
goes_no_end net prefix n Forks below h = h
goes_no_end net prefix n (IsBadBy r) below h = leaf_no_end net prefix n (IsBadBy r)
goes_no_end net prefix n (HasLaw x) below h = leaf_no_end net prefix n (HasLaw x)
goes_no_end net prefix n Voids below h = leaf_no_end net prefix n Voids

tree_no_end : (net : Net) (more : ℕ) (prefix : List Bool) (n : ℕ) → HasNoEnd (asks_tree net more prefix n)
unfolding asks_tree
tree_no_end net zero prefix n = no_end_then (asks_node net n) (λ node. leaf net prefix n node >>= (λ x. Give (n + 1))) (node_no_end net n) (λ node. leaf_no_end net prefix n node)
tree_no_end net (suc more) prefix n = no_end_then (asks_node net n) (λ node. goes_on net prefix n node (children net more prefix n)) (node_no_end net n)
    (λ node. goes_no_end net prefix n node (children net more prefix n) (no_end_then (asks_tree net more (prefix ++ true ∷ []) (n + 1)) (λ k. asks_tree net more (prefix ++ false ∷ []) k) (tree_no_end net more (prefix ++ true ∷ []) (n + 1)) (λ k. tree_no_end net more (prefix ++ false ∷ []) k)))

-- the lines of a tree's records are written
abbrev IsOn : Net → ℕ → List Bool → ℕ → Plan → Type 0
IsOn net more prefix n tree = (k : ℕ) × IsWrittenBy (asks_tree net more prefix n) (map record_text (tree_records tree)) k

node_on : {A : Type 0} (net : Net) (n : ℕ) (form : Form) (r : Record) (f : Node → Course A) (ms : List (List ℕ)) (y : A) → IsIn form (node_forms net) → are_words form.words ≡ true → IsIn (kind_of form) words → IsBounded form → Fits form r
    → IsWrittenBy (f (node_of r)) ms y → IsWrittenBy (asks_node net n >>= f) (record_text r ∷ ms) y
node_on net n form r f ms y i w known b fits more =
    written_then (asks_node net n) f (record_text r ∷ []) ms (node_of r) y (node_no_end net n) (line_on words n (node_forms net) form r (λ q. Give (node_of q)) [] (node_of r) i w known b fits (given (node_of r))) more

-- a node without children that is good goes on without more lines
goes_leaf : (net : Net) (prefix : List Bool) (n : ℕ) (node : Node) (below : Course ℕ) → IsGood net prefix node → IsWrittenBy (goes_on net prefix n node below) [] (n + 1)
goes_leaf net prefix n Forks below g = absurd g
goes_leaf net prefix n (IsBadBy r) below g = leaf_on net prefix n (IsBadBy r) g
goes_leaf net prefix n (HasLaw x) below g = leaf_on net prefix n (HasLaw x) g
goes_leaf net prefix n Voids below g = leaf_on net prefix n Voids g

leaf_tree_on : (net : Net) (more : ℕ) (prefix : List Bool) (n : ℕ) (form : Form) (r : Record) → IsIn form (node_forms net) → are_words form.words ≡ true → IsIn (kind_of form) words → IsBounded form → Fits form r → IsGood net prefix (node_of r)
    → (k : ℕ) × IsWrittenBy (asks_tree net more prefix n) (record_text r ∷ []) k
unfolding asks_tree
leaf_tree_on net zero prefix n form r i w known b fits g = (n + 1, node_on net n form r (λ node. leaf net prefix n node >>= (λ x. Give (n + 1))) [] (n + 1) i w known b fits (leaf_on net prefix n (node_of r) g))
leaf_tree_on net (suc more) prefix n form r i w known b fits g = (n + 1, node_on net n form r (λ node. goes_on net prefix n node (children net more prefix n)) [] (n + 1) i w known b fits (goes_leaf net prefix n (node_of r) (children net more prefix n) g))

fork_on : (net : Net) (more : ℕ) (prefix : List Bool) (n : ℕ) (inside outside : Plan) → (a : IsOn net more (prefix ++ true ∷ []) (n + 1) inside) → IsOn net more (prefix ++ false ∷ []) a.0 outside → IsOn net (suc more) prefix n (Fork inside outside)
unfolding asks_tree
fork_on net more prefix n inside outside a b =
    let below : IsWrittenBy (children net more prefix n) (map record_text (tree_records inside ++ tree_records outside)) b.0 =
    subst (λ (ls : List (List ℕ)). IsWrittenBy (children net more prefix n) ls b.0) (sym (map-append record_text (tree_records inside) (tree_records outside)))
    (written_then (asks_tree net more (prefix ++ true ∷ []) (n + 1)) (λ k. asks_tree net more (prefix ++ false ∷ []) k) (map record_text (tree_records inside)) (map record_text (tree_records outside)) a.0 b.0 (tree_no_end net more (prefix ++ true ∷ []) (n + 1)) a.1 b.1) in (
      b.0,
      node_on net n (record_form (codes "fork") []) (one_word (codes "fork") []) (λ node. goes_on net prefix n node (children net more prefix n)) (map record_text (tree_records inside ++ tree_records outside)) b.0
          (inl refl) refl (in_by_test (codes "fork") words refl) (bare_row (codes "fork") refl) (refl, refl) below,
    )

tree_on : (net : Net) (more : ℕ) (prefix : List Bool) (n chosen : ℕ) (tree : Plan) → IsNetwork net → length prefix + more ≡ length net.names → IsFormedTree net chosen tree → IsValidTree net prefix tree → IsOn net more prefix n tree
tree_on net zero prefix n chosen (Fork inside outside) w e f v = absurd (omega (arith, e, v.0))
tree_on net (suc more) prefix n chosen (Fork inside outside) w e f v =
    let a = tree_on net more (prefix ++ true ∷ []) (n + 1) (chosen + 1) inside w (next_long prefix true more (length net.names) e) f.1 v.1 in
    let b = tree_on net more (prefix ++ false ∷ []) a.0 (chosen + 1) outside w (next_long prefix false more (length net.names) e) f.2 v.2 in
    fork_on net more prefix n inside outside a b
tree_on net more prefix n chosen (Bad r) w e f v = leaf_tree_on net more prefix n (small_form (codes "bad") 1 1 (length net.reactions)) (one_word (codes "bad") (pos r ∷ [])) (inr (inl refl)) refl (in_by_test (codes "bad") words refl) (bad_row net w)
    (refl, number_fits (length net.reactions) r f.0 f.1) v
tree_on net more prefix n chosen (Law x) w e f v = leaf_tree_on net more prefix n (free_form (codes "law") (length net.names)) (one_word (codes "law") x) (inr (inr (inl refl))) refl (in_by_test (codes "law") words refl) (species_row net (codes "law") w refl)
    (free_fits (codes "law") (length net.names) x f) v
tree_on net more prefix n chosen Void w e f v = leaf_tree_on net more prefix n (record_form (codes "void") []) (one_word (codes "void") []) (inr (inr (inr (inl refl)))) refl (in_by_test (codes "void") words refl) (bare_row (codes "void") refl) (refl, refl) v

tree_plain : (net : Net) (chosen : ℕ) (tree : Plan) → IsNetwork net → IsFormedTree net chosen tree → AllPlain (tree_records tree)
tree_plain net chosen (Fork inside outside) w f = (
  fitting_is_plain (record_form (codes "fork") []) (one_word (codes "fork") []) (bare_row (codes "fork") refl) (refl, refl),
  short_both (tree_records inside) (tree_records outside) (tree_plain net (chosen + 1) inside w f.1) (tree_plain net (chosen + 1) outside w f.2),
)
tree_plain net chosen (Bad r) w f = (fitting_is_plain (small_form (codes "bad") 1 1 (length net.reactions)) (one_word (codes "bad") (pos r ∷ [])) (bad_row net w) (refl, number_fits (length net.reactions) r f.0 f.1), tt)
tree_plain net chosen (Law x) w f = (fitting_is_plain (free_form (codes "law") (length net.names)) (one_word (codes "law") x) (species_row net (codes "law") w refl) (free_fits (codes "law") (length net.names) x f), tt)
tree_plain net chosen Void w f = (fitting_is_plain (record_form (codes "void") []) (one_word (codes "void") []) (bare_row (codes "void") refl) (refl, refl), tt)

-- ---- answers of lines

-- the lines say the records of a formed answer whose tests hold, of which this is read
abbrev IsAnswerOf : Net → List (List ℕ) → Outcome → Type 0
IsAnswerOf net ls read = (answer : Said) × IsFormed net answer × IsValid net answer × Say ls (records answer) × (read ≡ outcome_of answer)

-- the same of the lines after the first
abbrev IsAfter : Net → Record → List (List ℕ) → Outcome → Type 0
IsAfter net first ls read = (rs : List Record) × Say ls rs × ((answer : Said) × IsFormed net answer × IsValid net answer × (records answer ≡ first ∷ rs) × (read ≡ outcome_of answer))

yes_back : (net : Net) (n : ℕ) (ls : List (List ℕ)) (y : ℕ × Outcome) → IsWrittenBy (asks_yes net n) ls y → IsAfter net (one_word (codes "yes") []) ls y.1
yes_back net n ls y h =
    let form = free_form (codes "vec") (length net.names) in
    let b = first_back words n (form ∷ []) (λ law. test_own n 53 (IsConservationLaw net law.numbers) >>= (λ x. tree_course)) ls y h in
    let r = b.first in
    let f = free_row (codes "vec") (length net.names) r (only form r b.fits) in
    let t = test_back n 53 (IsConservationLaw net r.numbers) (λ x. tree_course) b.more y b.rest in
    let a = written_cuts (asks_tree net (length net.names) [] (n + 1)) (λ line. Give (line, Yes)) b.more y t.1 in
    let g = give_back (a.0, Yes) y a.2 a.5 in
    let tree = tree_back net (length net.names) [] (n + 1) a.1 a.0 (omega arith) a.4 in
    let same : b.more ≡ a.1 = a.3 ∙ ap (λ (x : List (List ℕ)). a.1 ++ x) g.1 ∙ append-nil a.1 in (
      one_word (codes "vec") r.numbers ∷ tree_records tree.0,
      one_said ls b.more b.line (one_word (codes "vec") r.numbers) (tree_records tree.0) b.are (subst (Says b.line) f.0 b.says) (subst (λ (x : List (List ℕ)). Say x (tree_records tree.0)) (sym same) tree.3),
      (SaysYes r.numbers tree.0, (f.1, tree.1), (t.0, tree.2), refl, sym (ap (λ (q : ℕ × Outcome). q.1) g.0)),
    )
  where
    tree_course : Course (ℕ × Outcome)
    tree_course = asks_tree net (length net.names) [] (n + 1) >>= (λ line. Give (line, Yes))

none_back : (net : Net) (n : ℕ) (cut : List ℤ) (ls : List (List ℕ)) (y : ℕ × Outcome) → IsWrittenBy (asks_none net n cut) ls y → RuleOutConservation net cut × ((ls ≡ []) × (y.1 ≡ No))
none_back net n cut ls y h =
    let t = test_back n 53 (RuleOutConservation net cut) (λ x. Give (n + 1, No)) ls y h in
    let g = give_back (n + 1, No) y ls t.1 in
    (t.0, (g.1, sym (ap (λ (q : ℕ × Outcome). q.1) g.0)))

cover_back : (net : Net) (n : ℕ) (marks : List ℤ) (ls : List (List ℕ)) (y : ℕ × Outcome) → IsWrittenBy (asks_cover net n marks) ls y
    → (cover : List ℤ) × AreFree (length net.reactions) cover × IsSiphon net (set_of marks) × Covers net (set_of marks) cover × Say ls (one_word (codes "mult") cover ∷ []) × (y.1 ≡ No)
cover_back net n marks ls y h =
    let form = free_form (codes "mult") (length net.reactions) in
    let b = first_back words n (form ∷ []) (λ cover. test_own (n - 1) 51 (IsSiphon net (set_of marks)) >>= (λ x. test_own n 52 (Covers net (set_of marks) cover.numbers) >>= (λ z. Give (n + 1, No)))) ls y h in
    let r = b.first in
    let f = free_row (codes "mult") (length net.reactions) r (only form r b.fits) in
    let s = test_back (n - 1) 51 (IsSiphon net (set_of marks)) (λ x. test_own n 52 (Covers net (set_of marks) r.numbers) >>= (λ z. Give (n + 1, No))) b.more y b.rest in
    let t = test_back n 52 (Covers net (set_of marks) r.numbers) (λ x. Give (n + 1, No)) b.more y s.1 in
    let g = give_back (n + 1, No) y b.more t.1 in
    (r.numbers, f.1, s.0, t.0, one_said ls b.more b.line (one_word (codes "mult") r.numbers) [] b.are (subst (Says b.line) f.0 b.says) (none_said b.more g.1), sym (ap (λ (q : ℕ × Outcome). q.1) g.0))

no_back : (net : Net) (n : ℕ) (ls : List (List ℕ)) (y : ℕ × Outcome) → IsWrittenBy (asks_no net n) ls y → IsAfter net (one_word (codes "no") []) ls y.1
no_back net n ls y h = by b.fits
  where
    after : Record → Course (ℕ × Outcome)
    after r = either (bytes_eq (word_of r) (codes "cut")) (asks_none net n r.numbers) (asks_cover net (n + 1) r.numbers)

    b : IsFirst (no_forms net) after ls y
    b = first_back words n (no_forms net) after ls y h

    by : IsOneOf (no_forms net) b.first → IsAfter net (one_word (codes "no") []) ls y.1
    by (form, inl e, f) =
        let r = free_row (codes "cut") (length net.reactions) b.first (subst (λ (x : Form). Fits x b.first) e f) in
        let cut = b.first.numbers in
        let t = none_back net n cut b.more y (subst (λ (q : Record). IsWrittenBy (after q) b.more y) r.0 b.rest) in (
          one_word (codes "cut") cut ∷ [],
          one_said ls b.more b.line (one_word (codes "cut") cut) [] b.are (subst (Says b.line) r.0 b.says) (none_said b.more t.1.0),
          (NoLaw cut, r.1, t.0, refl, t.1.1),
        )
    by (form, inr (inl e), f) =
        let r = bits_back (codes "siphon") (length net.names) b.first (subst (λ (x : Form). Fits x b.first) e f) in
        let marks = b.first.numbers in
        let t = cover_back net (n + 1) marks b.more y (subst (λ (q : Record). IsWrittenBy (after q) b.more y) r.0 b.rest) in (
          one_word (codes "siphon") marks ∷ one_word (codes "mult") t.0 ∷ [],
          one_said ls b.more b.line (one_word (codes "siphon") marks) (one_word (codes "mult") t.0 ∷ []) b.are (subst (Says b.line) r.0 b.says) t.4,
          (NoSiphon marks t.0, (r.1, t.1), (t.2, t.3), refl, t.5),
        )
    by (form, inr (inr none), f) = absurd none

-- the lines that are read are those of a formed answer whose tests hold
pub lines_back : (net : Net) (n : ℕ) (ls : List (List ℕ)) (y : ℕ × Outcome) → IsWrittenBy (asks_persist net n) ls y → IsAnswerOf net ls y.1
lines_back net n ls y h = by b.fits
  where
    b : IsFirst (verdict_forms net) (λ r. asks_rest net (n + 1) r) ls y
    b = first_back words n (verdict_forms net) (λ r. asks_rest net (n + 1) r) ls y h

    -- what follows this first record
    rest : (r : Record) → b.first ≡ r → IsWrittenBy (asks_rest net (n + 1) r) b.more y
    rest r e = subst (λ (q : Record). IsWrittenBy (asks_rest net (n + 1) q) b.more y) e b.rest

    after : (r : Record) → b.first ≡ r → IsAfter net r b.more y.1 → IsAnswerOf net ls y.1
    after r e (rs, said, (answer, formed, valid, are, read)) = (answer, formed, valid, subst (λ (q : List Record). Say ls q) (sym are) (one_said ls b.more b.line r rs b.are (subst (Says b.line) e b.says) said), read)

    open_by : (answer : Said) (r : Record) → b.first ≡ r → records answer ≡ r ∷ [] → outcome_of answer ≡ Undecided → IsFormed net answer → IsValid net answer → IsWrittenBy (Give (n + 1, Undecided)) b.more y → IsAnswerOf net ls y.1
    open_by answer r e are out formed valid w =
        let g = give_back (n + 1, Undecided) y b.more w in
        after r e ([], none_said b.more g.1, (answer, formed, valid, are, sym (ap (λ (q : ℕ × Outcome). q.1) g.0) ∙ sym out))

    by : IsOneOf (verdict_forms net) b.first → IsAnswerOf net ls y.1
    by (form, inl e, f) =
        let r = bare_back (codes "yes") b.first (subst (λ (x : Form). Fits x b.first) e f) in
        after (one_word (codes "yes") []) r (yes_back net (n + 1) b.more y (rest (one_word (codes "yes") []) r))
    by (form, inr (inl e), f) =
        let r = bare_back (codes "no") b.first (subst (λ (x : Form). Fits x b.first) e f) in
        after (one_word (codes "no") []) r (no_back net (n + 1) b.more y (rest (one_word (codes "no") []) r))
    by (form, inr (inr (inl e)), f) =
        let w = wide_back 1 (length net.names) (length net.reactions) b.first (subst (λ (x : Form). Fits x b.first) e f) in
        let r = small_record (codes "wide") (1 ∷ w.0 ∷ w.1) in
        open_by (Wide 1 w.0 w.1) r w.2 refl refl (inl (refl, w.3)) tt (rest r w.2)
    by (form, inr (inr (inr (inl e))), f) =
        let w = wide_back 2 (length net.reactions) (length net.names) b.first (subst (λ (x : Form). Fits x b.first) e f) in
        let r = small_record (codes "wide") (2 ∷ w.0 ∷ w.1) in
        open_by (Wide 2 w.0 w.1) r w.2 refl refl (inr (refl, w.3)) tt (rest r w.2)
    by (form, inr (inr (inr (inr (inl e)))), f) =
        let k = one_back (codes "spent") 1 MAX_BUDGET b.first (subst (λ (x : Form). Fits x b.first) e f) in
        let r = one_word (codes "spent") (pos k.0 ∷ []) in
        open_by (Spent k.0) r k.1 refl refl k.2 tt (rest r k.1)
    by (form, inr (inr (inr (inr (inr none)))), f) = absurd none

-- ---- lines of answers

-- the lines of a formed answer whose tests hold are read, and this is read of them
abbrev IsRead : Net → ℕ → Said → Type 0
IsRead net n answer = (k : ℕ) × IsWrittenBy (asks_persist net n) (map record_text (records answer)) (k, outcome_of answer)

head_on : (net : Net) (n : ℕ) (form : Form) (r : Record) (ms : List (List ℕ)) (y : ℕ × Outcome) → IsIn form (verdict_forms net) → are_words form.words ≡ true → IsIn (kind_of form) words → IsBounded form → Fits form r
    → IsWrittenBy (asks_rest net (n + 1) r) ms y → IsWrittenBy (asks_persist net n) (record_text r ∷ ms) y
head_on net n form r ms y i w known b f more = line_on words n (verdict_forms net) form r (λ q. asks_rest net (n + 1) q) ms y i w known b f more

pub lines_on : (net : Net) (n : ℕ) (answer : Said) → IsNetwork net → IsFormed net answer → IsValid net answer → IsRead net n answer
lines_on net n (SaysYes law tree) w f v =
    let form = free_form (codes "vec") (length net.names) in
    let t = tree_on net (length net.names) [] (n + 1 + 1) 0 tree w (omega arith) f.1 v.1 in
    let rest : Course (ℕ × Outcome) = asks_tree net (length net.names) [] (n + 1 + 1) >>= (λ line. Give (line, Yes)) in
    let ms = map record_text (tree_records tree) in
    let last : IsWrittenBy rest ms (t.0, Yes) = subst (λ (ls : List (List ℕ)). IsWrittenBy rest ls (t.0, Yes)) (append-nil ms)
    (written_then (asks_tree net (length net.names) [] (n + 1 + 1)) (λ line. Give (line, Yes)) ms [] t.0 (t.0, Yes) (tree_no_end net (length net.names) [] (n + 1 + 1)) t.1 (given (t.0, Yes))) in
    let vec : IsWrittenBy (asks_yes net (n + 1)) (record_text (one_word (codes "vec") law) ∷ ms) (t.0, Yes) =
    line_on words (n + 1) (form ∷ []) form (one_word (codes "vec") law) (λ q. test_own (n + 1) 53 (IsConservationLaw net q.numbers) >>= (λ x. rest)) ms (t.0, Yes) (inl refl) refl (in_by_test (codes "vec") words refl) (species_row net (codes "vec") w refl)
    (free_fits (codes "vec") (length net.names) law f.0) (test_on (n + 1) 53 (IsConservationLaw net law) (λ x. rest) ms (t.0, Yes) v.0 last) in
    (t.0, head_on net n (record_form (codes "yes") []) (one_word (codes "yes") []) (record_text (one_word (codes "vec") law) ∷ ms) (t.0, Yes) (inl refl) refl (in_by_test (codes "yes") words refl) (bare_row (codes "yes") refl) (refl, refl) vec)
lines_on net n (NoLaw cut) w f v =
    let k = n + 1 in
    let form = free_form (codes "cut") (length net.reactions) in
    let after : Record → Course (ℕ × Outcome) = λ r. either (bytes_eq (word_of r) (codes "cut")) (asks_none net k r.numbers) (asks_cover net (k + 1) r.numbers) in
    let line : IsWrittenBy (asks_no net k) (record_text (one_word (codes "cut") cut) ∷ []) (k + 1, No) =
    line_on words k (no_forms net) form (one_word (codes "cut") cut) after [] (k + 1, No) (inl refl) refl (in_by_test (codes "cut") words refl) (reactions_row net (codes "cut") w refl) (free_fits (codes "cut") (length net.reactions) cut f)
    (test_on k 53 (RuleOutConservation net cut) (λ x. Give (k + 1, No)) [] (k + 1, No) v (given (k + 1, No))) in
    (k + 1, head_on net n (record_form (codes "no") []) (one_word (codes "no") []) (record_text (one_word (codes "cut") cut) ∷ []) (k + 1, No) (inr (inl refl)) refl (in_by_test (codes "no") words refl) (bare_row (codes "no") refl) (refl, refl) line)
lines_on net n (NoSiphon marks cover) w f v =
    let k = n + 1 in
    let m = k + 1 in
    let set = set_of marks in
    let form = free_form (codes "mult") (length net.reactions) in
    let mult = record_text (one_word (codes "mult") cover) in
    let after : Record → Course (ℕ × Outcome) = λ r. either (bytes_eq (word_of r) (codes "cut")) (asks_none net k r.numbers) (asks_cover net m r.numbers) in
    let last : IsWrittenBy (asks_cover net m marks) (mult ∷ []) (m + 1, No) =
    line_on words m (form ∷ []) form (one_word (codes "mult") cover) (λ q. test_own (m - 1) 51 (IsSiphon net set) >>= (λ x. test_own m 52 (Covers net set q.numbers) >>= (λ z. Give (m + 1, No)))) [] (m + 1, No) (inl refl) refl (in_by_test (codes "mult") words refl)
    (reactions_row net (codes "mult") w refl) (free_fits (codes "mult") (length net.reactions) cover f.1)
    (test_on (m - 1) 51 (IsSiphon net set) (λ x. test_own m 52 (Covers net set cover) >>= (λ z. Give (m + 1, No))) [] (m + 1, No) v.0 (test_on m 52 (Covers net set cover) (λ z. Give (m + 1, No)) [] (m + 1, No) v.1 (given (m + 1, No)))) in
    let line : IsWrittenBy (asks_no net k) (record_text (one_word (codes "siphon") marks) ∷ mult ∷ []) (m + 1, No) =
    line_on words k (no_forms net) (small_form (codes "siphon") (length net.names) 0 1) (one_word (codes "siphon") marks) after (mult ∷ []) (m + 1, No) (inr (inl refl)) refl (in_by_test (codes "siphon") words refl) (marks_row net w)
    (bits_fit (codes "siphon") (length net.names) marks f.0) last in
    (m + 1, head_on net n (record_form (codes "no") []) (one_word (codes "no") []) (record_text (one_word (codes "siphon") marks) ∷ mult ∷ []) (m + 1, No) (inr (inl refl)) refl (in_by_test (codes "no") words refl) (bare_row (codes "no") refl) (refl, refl) line)
lines_on net n (Wide system index basis) w (inl f) v =
    let r : Record = small_record (codes "wide") (system ∷ index ∷ basis) in
    let fits : Fits (wide_form 1 (length net.names) (length net.reactions)) r = subst (λ (s : ℕ). Fits (wide_form 1 (length net.names) (length net.reactions)) (small_record (codes "wide") (s ∷ index ∷ basis))) (sym f.0) (wide_fits 1 (length net.names) (length net.reactions) index basis f.1) in
    (n + 1, head_on net n (wide_form 1 (length net.names) (length net.reactions)) r [] (n + 1, Undecided) (inr (inr (inl refl))) refl (in_by_test (codes "wide") words refl) (wide_first net w) fits (given (n + 1, Undecided)))
lines_on net n (Wide system index basis) w (inr f) v =
    let r : Record = small_record (codes "wide") (system ∷ index ∷ basis) in
    let fits : Fits (wide_form 2 (length net.reactions) (length net.names)) r = subst (λ (s : ℕ). Fits (wide_form 2 (length net.reactions) (length net.names)) (small_record (codes "wide") (s ∷ index ∷ basis))) (sym f.0) (wide_fits 2 (length net.reactions) (length net.names) index basis f.1) in
    (n + 1, head_on net n (wide_form 2 (length net.reactions) (length net.names)) r [] (n + 1, Undecided) (inr (inr (inr (inl refl)))) refl (in_by_test (codes "wide") words refl) (wide_second net w) fits (given (n + 1, Undecided)))
lines_on net n (Spent nodes) w f v =
    (n + 1, head_on net n (small_form (codes "spent") 1 1 MAX_BUDGET) (one_word (codes "spent") (pos nodes ∷ [])) [] (n + 1, Undecided) (inr (inr (inr (inr (inl refl))))) refl (in_by_test (codes "spent") words refl) spent_row (refl, number_fits MAX_BUDGET nodes f.0 f.1) (given (n + 1, Undecided)))

-- ---- plain records

pub records_plain : (net : Net) (answer : Said) → IsNetwork net → IsFormed net answer → AllPlain (records answer)
records_plain net (SaysYes law tree) w f = (plain_bare (codes "yes") refl, (fitting_is_plain (free_form (codes "vec") (length net.names)) (one_word (codes "vec") law) (species_row net (codes "vec") w refl) (free_fits (codes "vec") (length net.names) law f.0), tree_plain net 0 tree w f.1))
records_plain net (NoLaw cut) w f = (plain_bare (codes "no") refl, (fitting_is_plain (free_form (codes "cut") (length net.reactions)) (one_word (codes "cut") cut) (reactions_row net (codes "cut") w refl) (free_fits (codes "cut") (length net.reactions) cut f), tt))
records_plain net (NoSiphon marks cover) w f = (
  plain_bare (codes "no") refl,
  (
    fitting_is_plain (small_form (codes "siphon") (length net.names) 0 1) (one_word (codes "siphon") marks) (marks_row net w) (bits_fit (codes "siphon") (length net.names) marks f.0),
    (fitting_is_plain (free_form (codes "mult") (length net.reactions)) (one_word (codes "mult") cover) (reactions_row net (codes "mult") w refl) (free_fits (codes "mult") (length net.reactions) cover f.1), tt),
  ),
)
records_plain net (Wide system index basis) w (inl f) =
    let fits = wide_fits 1 (length net.names) (length net.reactions) index basis f.1 in
    (subst (λ (s : ℕ). IsPlain (small_record (codes "wide") (s ∷ index ∷ basis))) (sym f.0) (fitting_is_plain (wide_form 1 (length net.names) (length net.reactions)) (small_record (codes "wide") (1 ∷ index ∷ basis)) (wide_first net w) fits), tt)
records_plain net (Wide system index basis) w (inr f) =
    let fits = wide_fits 2 (length net.reactions) (length net.names) index basis f.1 in
    (subst (λ (s : ℕ). IsPlain (small_record (codes "wide") (s ∷ index ∷ basis))) (sym f.0) (fitting_is_plain (wide_form 2 (length net.reactions) (length net.names)) (small_record (codes "wide") (2 ∷ index ∷ basis)) (wide_second net w) fits), tt)
records_plain net (Spent nodes) w f = (fitting_is_plain (small_form (codes "spent") 1 1 MAX_BUDGET) (one_word (codes "spent") (pos nodes ∷ [])) spent_row (refl, number_fits MAX_BUDGET nodes f.0 f.1), tt)

-- ---- no end within

yes_no_end : (net : Net) (n : ℕ) → HasNoEnd (asks_yes net n)
yes_no_end net n =
    no_end_then (asks_part words n (free_form (codes "vec") (length net.names) ∷ [])) (λ law. test_own n 53 (IsConservationLaw net law.numbers) >>= (λ x. rest)) (part_no_end words n (free_form (codes "vec") (length net.names) ∷ []))
    (λ law. test_no_end n 53 (IsConservationLaw net law.numbers) (λ x. rest) (no_end_then (asks_tree net (length net.names) [] (n + 1)) (λ line. Give (line, Yes)) (tree_no_end net (length net.names) [] (n + 1)) (λ line. give_no_end (line, Yes))))
  where
    rest : Course (ℕ × Outcome)
    rest = asks_tree net (length net.names) [] (n + 1) >>= (λ line. Give (line, Yes))

cover_no_end : (net : Net) (n : ℕ) (marks : List ℤ) → HasNoEnd (asks_cover net n marks)
cover_no_end net n marks =
    no_end_then (asks_part words n (free_form (codes "mult") (length net.reactions) ∷ [])) (λ cover. test_own (n - 1) 51 (IsSiphon net (set_of marks)) >>= (λ x. last cover)) (part_no_end words n (free_form (codes "mult") (length net.reactions) ∷ []))
    (λ cover. test_no_end (n - 1) 51 (IsSiphon net (set_of marks)) (λ x. last cover) (test_no_end n 52 (Covers net (set_of marks) cover.numbers) (λ z. Give (n + 1, No)) (give_no_end (n + 1, No))))
  where
    last : Record → Course (ℕ × Outcome)
    last cover = test_own n 52 (Covers net (set_of marks) cover.numbers) >>= (λ z. Give (n + 1, No))

no_no_end : (net : Net) (n : ℕ) → HasNoEnd (asks_no net n)
no_no_end net n = no_end_then (asks_part words n (no_forms net)) (λ r. either (bytes_eq (word_of r) (codes "cut")) (asks_none net n r.numbers) (asks_cover net (n + 1) r.numbers)) (part_no_end words n (no_forms net))
    (λ r. either_no_end (bytes_eq (word_of r) (codes "cut")) (asks_none net n r.numbers) (asks_cover net (n + 1) r.numbers) (test_no_end n 53 (RuleOutConservation net r.numbers) (λ x. Give (n + 1, No)) (give_no_end (n + 1, No))) (cover_no_end net (n + 1) r.numbers))

pub lines_no_end : (net : Net) (n : ℕ) → HasNoEnd (asks_persist net n)
lines_no_end net n = no_end_then (asks_part words n (verdict_forms net)) (λ r. asks_rest net (n + 1) r) (part_no_end words n (verdict_forms net))
    (λ r. either_no_end (bytes_eq (word_of r) (codes "yes")) (asks_yes net (n + 1)) (either (bytes_eq (word_of r) (codes "no")) (asks_no net (n + 1)) (Give (n + 1, Undecided))) (yes_no_end net (n + 1))
    (either_no_end (bytes_eq (word_of r) (codes "no")) (asks_no net (n + 1)) (Give (n + 1, Undecided)) (no_no_end net (n + 1)) (give_no_end (n + 1, Undecided))))

-- ---- the part

pub persist_is_answered : IsAnswered part meant
persist_is_answered = record {
  back = λ net n ls y w h. lines_back net n ls y h;
  on = lines_on;
  plain = records_plain;
  goes_on = lines_no_end;
  title = (plain_is_line (codes "crn part persist 1") refl, omega arith);
  end_known = in_by_test (codes "end") words refl;
}
