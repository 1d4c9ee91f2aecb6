-- Trees of a sign problem as records: those of a formed tree are formed, they are valid if and only if its leaves are true, and formed records are those of a formed tree.
use Rattle.crn_ctext.proofs.Prelude.{◌↔◌, ◌≡◌, ◌⊎◌, ◌<◌, ◌+◌, ◌++◌, ◌∙◌, ℕ, zero, suc, true, false, List, [], ◌∷◌, length, refl, sym, ap, ap₂, subst, inl, inr, arith, append_assoc, ℤ, codes, slice_index, slice_index_or, append-nil, length-append, Sign, Zero, Plus, Minus, all_zero, AreFree, Plan, Both, Three, RulesA, RulesB, Level, node_count, IsFormedTree, Said, Splits, Flats, CutsA, CutsB, AllHold, tree_tests, hold_append, hold_parts, Record, Form, Fits, record_form, free_form, Problem, word_of, one_word, leaf_forms, IsOneOf, IsTree, IsGoodLeaf, nodes}
use Rattle.crn_ctext.proofs.RanksLinked.{free_fits, free_row, record_is}
use Rattle.crn_ctext.proofs.AnswersApart.{tree_apart, leaf_no_split, first_same}
use Rattle.crn_ctext.proofs.TreesRead.{valid_tree_is_formed}

-- ---- prefixes

next_choice : (n more : ℕ) (p : List Sign) (s : Sign) → suc more + length p ≡ n → more + length (p ++ s ∷ []) ≡ n
next_choice n more p s e = omega (arith, e, length-append p (s ∷ []))

none_left : (n : ℕ) (p : List Sign) → zero + length p ≡ n → length p < n → ⊥
none_left n p e less = omega (arith, e, less)

-- ---- the records of a split

abbrev split_record : Record
split_record = one_word (codes "split") []

split_both : (Leaf : List Sign → Record → Type 0) (more : ℕ) (p : List Sign) (zs qs : List Record) → all_zero p ≡ true → IsTree Leaf more (p ++ Zero ∷ []) zs → IsTree Leaf more (p ++ Plus ∷ []) qs → IsTree Leaf (suc more) p (split_record ∷ (zs ++ qs))
unfolding IsTree
split_both Leaf more p zs qs z a b = inr (zs, qs, [], ap (λ (t : List Record). split_record ∷ t) (sym (ap (λ (t : List Record). zs ++ t) (append-nil qs))), a, b, inl (z, refl))

split_three : (Leaf : List Sign → Record → Type 0) (more : ℕ) (p : List Sign) (zs qs ms : List Record) → all_zero p ≡ false → IsTree Leaf more (p ++ Zero ∷ []) zs → IsTree Leaf more (p ++ Plus ∷ []) qs → IsTree Leaf more (p ++ Minus ∷ []) ms → IsTree Leaf (suc more) p (split_record ∷ ((zs ++ qs) ++ ms))
unfolding IsTree
split_three Leaf more p zs qs ms z a b c = inr (zs, qs, ms, ap (λ (t : List Record). split_record ∷ t) (append_assoc zs qs ms), a, b, inr (z, c))

one_leaf : (Leaf : List Sign → Record → Type 0) (more : ℕ) (p : List Sign) (r : Record) → Leaf p r → IsTree Leaf more p (r ∷ [])
unfolding IsTree
one_leaf Leaf zero p r l = (r, refl, l)
one_leaf Leaf (suc more) p r l = inl (r, refl, l)

-- ---- records of a tree

-- what is asked of the leaves of a tree for its records to be a tree with these leaves
record LeavesGive (w : Problem) (Leaf : List Sign → Record → Type 0) (Ok : List Sign → Plan → Type 0) : Type 0 where
  flat : (p : List Sign) → Ok p Level → Leaf p (one_word (codes "flat") [])
  cut_a : (p : List Sign) (u : List ℤ) → AreFree w.count_a u → Ok p (RulesA u) → Leaf p (one_word (codes "cuta") u)
  cut_b : (p : List Sign) (u : List ℤ) → AreFree w.count_b u → Ok p (RulesB u) → Leaf p (one_word (codes "cutb") u)
  both : (p : List Sign) (z q : Plan) → Ok p (Both z q) → Ok (p ++ Zero ∷ []) z × Ok (p ++ Plus ∷ []) q
  three : (p : List Sign) (z q m : Plan) → Ok p (Three z q m) → Ok (p ++ Zero ∷ []) z × (Ok (p ++ Plus ∷ []) q × Ok (p ++ Minus ∷ []) m)

abbrev pub FormedAt : Problem → List Sign → Plan → Type 0
FormedAt w p t = IsFormedTree w.choices w.count_a w.count_b p t

tree_is : (w : Problem) (Leaf : List Sign → Record → Type 0) (Ok : List Sign → Plan → Type 0) → LeavesGive w Leaf Ok → (more : ℕ) (p : List Sign) (tree : Plan) → more + length p ≡ w.choices → FormedAt w p tree → Ok p tree → IsTree Leaf more p (nodes tree)
tree_is w Leaf Ok g zero p (Both zeros pluses) e f o = absurd (none_left w.choices p e f.0)
tree_is w Leaf Ok g zero p (Three zeros pluses minuses) e f o = absurd (none_left w.choices p e f.0)
tree_is w Leaf Ok g (suc more) p (Both zeros pluses) e f o =
    let h = g.both in
    let k = h p zeros pluses o in
    split_both Leaf more p (nodes zeros) (nodes pluses) f.1 (tree_is w Leaf Ok g more (p ++ Zero ∷ []) zeros (next_choice w.choices more p Zero e) f.2 k.0) (tree_is w Leaf Ok g more (p ++ Plus ∷ []) pluses (next_choice w.choices more p Plus e) f.3 k.1)
tree_is w Leaf Ok g (suc more) p (Three zeros pluses minuses) e f o =
    let h = g.three in
    let k = h p zeros pluses minuses o in
    split_three Leaf more p (nodes zeros) (nodes pluses) (nodes minuses) f.1 (tree_is w Leaf Ok g more (p ++ Zero ∷ []) zeros (next_choice w.choices more p Zero e) f.2 k.0)
    (tree_is w Leaf Ok g more (p ++ Plus ∷ []) pluses (next_choice w.choices more p Plus e) f.3 k.1.0) (tree_is w Leaf Ok g more (p ++ Minus ∷ []) minuses (next_choice w.choices more p Minus e) f.4 k.1.1)
tree_is w Leaf Ok g more p (RulesA u) e f o = let h = g.cut_a in one_leaf Leaf more p (one_word (codes "cuta") u) (h p u f o)
tree_is w Leaf Ok g more p (RulesB u) e f o = let h = g.cut_b in one_leaf Leaf more p (one_word (codes "cutb") u) (h p u f o)
tree_is w Leaf Ok g more p Level e f o = let h = g.flat in one_leaf Leaf more p (one_word (codes "flat") []) (h p o)

abbrev pub Leaf : Problem → List Sign → Record → Type 0
Leaf w p r = IsOneOf (leaf_forms w) r

flat_fits : (w : Problem) → IsOneOf (leaf_forms w) (one_word (codes "flat") [])
flat_fits w = (record_form (codes "flat") [], inl refl, (refl, refl))

cut_a_fits : (w : Problem) (u : List ℤ) → AreFree w.count_a u → IsOneOf (leaf_forms w) (one_word (codes "cuta") u)
cut_a_fits w u f = (free_form (codes "cuta") w.count_a, inr (inl refl), free_fits (codes "cuta") w.count_a u f)

cut_b_fits : (w : Problem) (u : List ℤ) → AreFree w.count_b u → IsOneOf (leaf_forms w) (one_word (codes "cutb") u)
cut_b_fits w u f = (free_form (codes "cutb") w.count_b, inr (inr (inl refl)), free_fits (codes "cutb") w.count_b u f)

leaves_formed : (w : Problem) → LeavesGive w (Leaf w) (λ p t. Unit {0})
leaves_formed w = record {
  flat = λ p o. flat_fits w;
  cut_a = λ p u f o. cut_a_fits w u f;
  cut_b = λ p u f o. cut_b_fits w u f;
  both = λ p z q o. (tt, tt);
  three = λ p z q m o. (tt, (tt, tt));
}

-- each leaf of a tree is true at its prefix
abbrev pub HaveTrueLeaves : Problem → List Sign → Plan → Type 0
HaveTrueLeaves w p (Both z q) = HaveTrueLeaves w (p ++ Zero ∷ []) z × HaveTrueLeaves w (p ++ Plus ∷ []) q
HaveTrueLeaves w p (Three z q m) = HaveTrueLeaves w (p ++ Zero ∷ []) z × (HaveTrueLeaves w (p ++ Plus ∷ []) q × HaveTrueLeaves w (p ++ Minus ∷ []) m)
HaveTrueLeaves w p (RulesA u) = w.RulesOutA p u
HaveTrueLeaves w p (RulesB u) = w.RulesOutB p u
HaveTrueLeaves w p Level = w.IsClosed p

leaves_valid : (w : Problem) → LeavesGive w (IsGoodLeaf w) (HaveTrueLeaves w)
leaves_valid w = record {
  flat = λ p o. (flat_fits w, o);
  cut_a = λ p u f o. (cut_a_fits w u f, o);
  cut_b = λ p u f o. (cut_b_fits w u f, o);
  both = λ p z q o. o;
  three = λ p z q m o. o;
}

-- the records of a formed tree are formed
pub tree_formed : (w : Problem) (more : ℕ) (p : List Sign) (tree : Plan) → more + length p ≡ w.choices → FormedAt w p tree → IsTree (Leaf w) more p (nodes tree)
tree_formed w more p tree e f = tree_is w (Leaf w) (λ p t. Unit {0}) (leaves_formed w) more p tree e f tt

-- those of one with true leaves are valid
pub tree_good : (w : Problem) (more : ℕ) (p : List Sign) (tree : Plan) → more + length p ≡ w.choices → FormedAt w p tree → HaveTrueLeaves w p tree → IsTree (IsGoodLeaf w) more p (nodes tree)
tree_good w more p tree e f v = tree_is w (IsGoodLeaf w) (HaveTrueLeaves w) (leaves_valid w) more p tree e f v

-- ---- a tree of valid records has true leaves

-- the one record is a leaf
leaf_back : (w : Problem) (more : ℕ) (p : List Sign) (r : Record) → (r ≡ split_record → ⊥) → IsTree (IsGoodLeaf w) more p (r ∷ []) → IsGoodLeaf w p r
unfolding IsTree
leaf_back w zero p r other t = subst (IsGoodLeaf w p) (sym (first_same r t.0 [] [] t.1).0) t.2
leaf_back w (suc more) p r other (inl t) = subst (IsGoodLeaf w p) (sym (first_same r t.0 [] [] t.1).0) t.2
leaf_back w (suc more) p r other (inr t) = absurd (other (first_same r split_record [] (t.0 ++ (t.1 ++ t.2)) t.3).0)

-- what is below a split
abbrev Below : (List Sign → Record → Type 0) → ℕ → List Sign → List Record → Type 0
Below Leaf more p rest = (zeros : List Record) × (pluses : List Record) × (minuses : List Record) × (rest ≡ zeros ++ (pluses ++ minuses)) × IsTree Leaf more (p ++ Zero ∷ []) zeros × IsTree Leaf more (p ++ Plus ∷ []) pluses
    × (((all_zero p ≡ true) × (minuses ≡ [])) ⊎ ((all_zero p ≡ false) × IsTree Leaf more (p ++ Minus ∷ []) minuses))

split_back : (w : Problem) (Fine : List Sign → Record → Type 0) → ((p : List Sign) (r : Record) → Fine p r → Leaf w p r) → (more : ℕ) (p : List Sign) (rest : List Record) → IsTree Fine (suc more) p (split_record ∷ rest) → Below Fine more p rest
unfolding IsTree
split_back w Fine leaf more p rest (inl t) = absurd (leaf_no_split w t.0 (leaf p t.0 t.2) (sym (first_same split_record t.0 rest [] t.1).0))
split_back w Fine leaf more p rest (inr t) = (t.0, t.1, t.2, (first_same split_record split_record rest (t.0 ++ (t.1 ++ t.2)) t.3).1, t.4, t.5, t.6)

abbrev Good : Problem → List Sign → Record → Type 0
Good w p r = IsGoodLeaf w p r

formed_of : (w : Problem) (more : ℕ) (p : List Sign) (rs : List Record) → IsTree (Good w) more p rs → IsTree (Leaf w) more p rs
formed_of w more p rs t = valid_tree_is_formed w more p rs t

-- two lists of records below a split are of the same trees
pub same_below : (w : Problem) (more : ℕ) (p : List Sign) (z q m z2 q2 m2 : List Record) → IsTree (Leaf w) more (p ++ Zero ∷ []) z → IsTree (Leaf w) more (p ++ Zero ∷ []) z2 → IsTree (Leaf w) more (p ++ Plus ∷ []) q → IsTree (Leaf w) more (p ++ Plus ∷ []) q2
    → z ++ (q ++ m) ≡ z2 ++ (q2 ++ m2) → (z ≡ z2) × ((q ≡ q2) × (m ≡ m2))
same_below w more p z q m z2 q2 m2 a b c d e =
    let one = tree_apart w more (p ++ Zero ∷ []) z z2 (q ++ m) (q2 ++ m2) a b e in
    let two = tree_apart w more (p ++ Plus ∷ []) q q2 m m2 c d one.1 in
    (one.0, (two.0, two.1))

no_split : (word : List ℕ) (u : List ℤ) → (word ≡ codes "split" → ⊥) → one_word word u ≡ split_record → ⊥
no_split word u other e = other (ap word_of e)

cut_a_no_split : codes "cuta" ≡ codes "split" → ⊥
cut_a_no_split e = let h : 99 ≡ 115 = ap (λ (t : List ℕ). slice_index t 0) e in omega (arith, h)

cut_b_no_split : codes "cutb" ≡ codes "split" → ⊥
cut_b_no_split e = let h : 99 ≡ 115 = ap (λ (t : List ℕ). slice_index t 0) e in omega (arith, h)

flat_no_split : codes "flat" ≡ codes "split" → ⊥
flat_no_split e = let h : 102 ≡ 115 = ap (λ (t : List ℕ). slice_index t 0) e in omega (arith, h)

pub tree_true : (w : Problem) (more : ℕ) (p : List Sign) (tree : Plan) → more + length p ≡ w.choices → FormedAt w p tree → IsTree (Good w) more p (nodes tree) → HaveTrueLeaves w p tree
tree_true w (suc more) p (Both zeros pluses) e f t =
    let k = split_back w (Good w) (λ p r g. g.0) more p (nodes zeros ++ nodes pluses) t in
    let ez = next_choice w.choices more p Zero e in
    let eq = next_choice w.choices more p Plus e in
    let s = same_below w more p (nodes zeros) (nodes pluses) [] k.0 k.1 k.2 (tree_formed w more (p ++ Zero ∷ []) zeros ez f.2) (formed_of w more (p ++ Zero ∷ []) k.0 k.4) (tree_formed w more (p ++ Plus ∷ []) pluses eq f.3) (formed_of w more (p ++ Plus ∷ []) k.1 k.5)
    (ap (λ (x : List Record). nodes zeros ++ x) (append-nil (nodes pluses)) ∙ k.3) in (
      tree_true w more (p ++ Zero ∷ []) zeros ez f.2 (subst (IsTree (Good w) more (p ++ Zero ∷ [])) (sym s.0) k.4),
      tree_true w more (p ++ Plus ∷ []) pluses eq f.3 (subst (IsTree (Good w) more (p ++ Plus ∷ [])) (sym s.1.0) k.5),
    )
tree_true w (suc more) p (Three zeros pluses minuses) e f t =
    let k = split_back w (Good w) (λ p r g. g.0) more p ((nodes zeros ++ nodes pluses) ++ nodes minuses) t in
    let ez = next_choice w.choices more p Zero e in
    let eq = next_choice w.choices more p Plus e in
    let s = same_below w more p (nodes zeros) (nodes pluses) (nodes minuses) k.0 k.1 k.2 (tree_formed w more (p ++ Zero ∷ []) zeros ez f.2) (formed_of w more (p ++ Zero ∷ []) k.0 k.4) (tree_formed w more (p ++ Plus ∷ []) pluses eq f.3) (formed_of w more (p ++ Plus ∷ []) k.1 k.5)
    (sym (append_assoc (nodes zeros) (nodes pluses) (nodes minuses)) ∙ k.3) in
    let last : IsTree (Good w) more (p ++ Minus ∷ []) k.2 = elim k.6 [ inl z ↦ absurd (let h : true ≡ false = sym z.0 ∙ f.1 in cc) | inr m ↦ m.1 ] in (
      tree_true w more (p ++ Zero ∷ []) zeros ez f.2 (subst (IsTree (Good w) more (p ++ Zero ∷ [])) (sym s.0) k.4),
      (
        tree_true w more (p ++ Plus ∷ []) pluses eq f.3 (subst (IsTree (Good w) more (p ++ Plus ∷ [])) (sym s.1.0) k.5),
        tree_true w more (p ++ Minus ∷ []) minuses (next_choice w.choices more p Minus e) f.4 (subst (IsTree (Good w) more (p ++ Minus ∷ [])) (sym s.1.1) last),
      ),
    )
tree_true w more p (RulesA u) e f t = (leaf_back w more p (one_word (codes "cuta") u) (no_split (codes "cuta") u cut_a_no_split) t).1
tree_true w more p (RulesB u) e f t = (leaf_back w more p (one_word (codes "cutb") u) (no_split (codes "cutb") u cut_b_no_split) t).1
tree_true w more p Level e f t = (leaf_back w more p (one_word (codes "flat") []) (no_split (codes "flat") [] flat_no_split) t).1
tree_true w zero p tree e f t = absurd (none_left w.choices p e f.0)

-- ---- a tree of formed records

-- the records are those of a formed tree
abbrev pub IsTreeOf : Problem → List Sign → List Record → Type 0
IsTreeOf w p rs = (tree : Plan) × (rs ≡ nodes tree) × FormedAt w p tree

leaf_of : (w : Problem) (p : List Sign) (rs : List Record) (r : Record) → rs ≡ r ∷ [] → Leaf w p r → IsTreeOf w p rs
leaf_of w p rs r e (form, inl i, f) =
    let g : Fits (record_form (codes "flat") []) r = subst (λ (x : Form). Fits x r) i f in
    (Level, e ∙ ap (λ (x : Record). x ∷ []) (record_is r (codes "flat" ∷ []) [] g.0 g.1), tt)
leaf_of w p rs r e (form, inr (inl i), f) =
    let g = free_row (codes "cuta") w.count_a r (subst (λ (x : Form). Fits x r) i f) in
    (RulesA r.numbers, e ∙ ap (λ (x : Record). x ∷ []) g.0, g.1)
leaf_of w p rs r e (form, inr (inr (inl i)), f) =
    let g = free_row (codes "cutb") w.count_b r (subst (λ (x : Form). Fits x r) i f) in
    (RulesB r.numbers, e ∙ ap (λ (x : Record). x ∷ []) g.0, g.1)
leaf_of w p rs r e (form, inr (inr (inr none)), f) = absurd none

-- the last child of a split
abbrev IsLastOf : Problem → List Sign → List Record → Type 0
IsLastOf w p ms = ((all_zero p ≡ true) × (ms ≡ [])) ⊎ ((all_zero p ≡ false) × IsTreeOf w (p ++ Minus ∷ []) ms)

split_of : (w : Problem) (p : List Sign) (rs zs qs ms : List Record) → length p < w.choices → rs ≡ split_record ∷ (zs ++ (qs ++ ms)) → IsTreeOf w (p ++ Zero ∷ []) zs → IsTreeOf w (p ++ Plus ∷ []) qs → IsLastOf w p ms → IsTreeOf w p rs
split_of w p rs zs qs ms room e zeros pluses last = by last
  where
    all : (last : List Record) → ms ≡ last → rs ≡ split_record ∷ (nodes zeros.0 ++ (nodes pluses.0 ++ last))
    all last m = e ∙ ap (λ (x : List Record). split_record ∷ x) (ap₂ (λ (x y : List Record). x ++ y) zeros.1 (ap₂ (λ (x y : List Record). x ++ y) pluses.1 m))

    by : IsLastOf w p ms → IsTreeOf w p rs
    by (inl z) = (Both zeros.0 pluses.0, all [] z.1 ∙ ap (λ (x : List Record). split_record ∷ (nodes zeros.0 ++ x)) (append-nil (nodes pluses.0)), (room, z.0, zeros.2, pluses.2))
    by (inr m) = (Three zeros.0 pluses.0 m.1.0, all (nodes m.1.0) m.1.1 ∙ ap (λ (x : List Record). split_record ∷ x) (sym (append_assoc (nodes zeros.0) (nodes pluses.0) (nodes m.1.0))), (room, m.0, zeros.2, pluses.2, m.1.2))

pub tree_of : (w : Problem) (more : ℕ) (p : List Sign) (rs : List Record) → more + length p ≡ w.choices → IsTree (Leaf w) more p rs → IsTreeOf w p rs
unfolding IsTree
tree_of w zero p rs e t = leaf_of w p rs t.0 t.1 t.2
tree_of w (suc more) p rs e (inl t) = leaf_of w p rs t.0 t.1 t.2
tree_of w (suc more) p rs e (inr t) =
    split_of w p rs t.0 t.1 t.2 (omega (arith, e)) t.3 (tree_of w more (p ++ Zero ∷ []) t.0 (next_choice w.choices more p Zero e) t.4) (tree_of w more (p ++ Plus ∷ []) t.1 (next_choice w.choices more p Plus e) t.5)
    (elim t.6 [ inl z ↦ inl z | inr m ↦ inr (m.0, tree_of w more (p ++ Minus ∷ []) t.2 (next_choice w.choices more p Minus e) m.1) ])

-- ---- trees with the same records

same_words : (r s : Record) (rs ss : List Record) → r ∷ rs ≡ s ∷ ss → r.words ≡ s.words
same_words r s rs ss e = ap (λ (x : Record). x.words) (first_same r s rs ss e).0

same_numbers : (word : List ℕ) (u v : List ℤ) (rs ss : List Record) → one_word word u ∷ rs ≡ one_word word v ∷ ss → u ≡ v
same_numbers word u v rs ss e = ap (λ (x : Record). x.numbers) (first_same (one_word word u) (one_word word v) rs ss e).0

-- records whose words differ at a place
words_apart : (v w : List ℕ) (a b : List ℤ) (rs ss : List Record) (i : ℕ) → slice_index v i < slice_index w i → one_word v a ∷ rs ≡ one_word w b ∷ ss → ⊥
words_apart v w a b rs ss i less same =
    let h : slice_index v i ≡ slice_index w i = ap (λ (ws : List (List ℕ)). slice_index (slice_index_or ws 0 []) i) (same_words (one_word v a) (one_word w b) rs ss same) in
    omega (arith, h, less)

pub plans_one : (w : Problem) (more : ℕ) (p : List Sign) (tree other : Plan) → more + length p ≡ w.choices → FormedAt w p tree → FormedAt w p other → nodes tree ≡ nodes other → tree ≡ other
plans_one w zero p (Both zeros pluses) other e f g same = absurd (none_left w.choices p e f.0)
plans_one w zero p (Three zeros pluses minuses) other e f g same = absurd (none_left w.choices p e f.0)
plans_one w (suc more) p (Both zeros pluses) (Both zeros2 pluses2) e f g same =
    let ez = next_choice w.choices more p Zero e in
    let eq = next_choice w.choices more p Plus e in
    let below = (first_same split_record split_record (nodes zeros ++ nodes pluses) (nodes zeros2 ++ nodes pluses2) same).1 in
    let s = same_below w more p (nodes zeros) (nodes pluses) [] (nodes zeros2) (nodes pluses2) [] (tree_formed w more (p ++ Zero ∷ []) zeros ez f.2) (tree_formed w more (p ++ Zero ∷ []) zeros2 ez g.2) (tree_formed w more (p ++ Plus ∷ []) pluses eq f.3) (tree_formed w more (p ++ Plus ∷ []) pluses2 eq g.3)
    (ap (λ (x : List Record). nodes zeros ++ x) (append-nil (nodes pluses)) ∙ below ∙ sym (ap (λ (x : List Record). nodes zeros2 ++ x) (append-nil (nodes pluses2)))) in
    ap₂ (λ (x y : Plan). Both x y) (plans_one w more (p ++ Zero ∷ []) zeros zeros2 ez f.2 g.2 s.0) (plans_one w more (p ++ Plus ∷ []) pluses pluses2 eq f.3 g.3 s.1.0)
plans_one w (suc more) p (Three zeros pluses minuses) (Three zeros2 pluses2 minuses2) e f g same =
    let ez = next_choice w.choices more p Zero e in
    let eq = next_choice w.choices more p Plus e in
    let em = next_choice w.choices more p Minus e in
    let below = (first_same split_record split_record ((nodes zeros ++ nodes pluses) ++ nodes minuses) ((nodes zeros2 ++ nodes pluses2) ++ nodes minuses2) same).1 in
    let s = same_below w more p (nodes zeros) (nodes pluses) (nodes minuses) (nodes zeros2) (nodes pluses2) (nodes minuses2) (tree_formed w more (p ++ Zero ∷ []) zeros ez f.2) (tree_formed w more (p ++ Zero ∷ []) zeros2 ez g.2) (tree_formed w more (p ++ Plus ∷ []) pluses eq f.3) (tree_formed w more (p ++ Plus ∷ []) pluses2 eq g.3)
    (sym (append_assoc (nodes zeros) (nodes pluses) (nodes minuses)) ∙ below ∙ append_assoc (nodes zeros2) (nodes pluses2) (nodes minuses2)) in
    ap₂ (λ (x : Plan × Plan) (y : Plan). Three x.0 x.1 y) (ap₂ (λ (x y : Plan). (x, y)) (plans_one w more (p ++ Zero ∷ []) zeros zeros2 ez f.2 g.2 s.0) (plans_one w more (p ++ Plus ∷ []) pluses pluses2 eq f.3 g.3 s.1.0)) (plans_one w more (p ++ Minus ∷ []) minuses minuses2 em f.4 g.4 s.1.1)
plans_one w more p (Both zeros pluses) (Three zeros2 pluses2 minuses2) e f g same = absurd (let h : true ≡ false = sym f.1 ∙ g.1 in cc)
plans_one w more p (Three zeros pluses minuses) (Both zeros2 pluses2) e f g same = absurd (let h : true ≡ false = sym g.1 ∙ f.1 in cc)
plans_one w more p (Both zeros pluses) (RulesA v) e f g same = absurd (words_apart (codes "cuta") (codes "split") v [] [] (nodes zeros ++ nodes pluses) 0 (omega arith) (sym same))
plans_one w more p (Three zeros pluses minuses) (RulesA v) e f g same = absurd (words_apart (codes "cuta") (codes "split") v [] [] ((nodes zeros ++ nodes pluses) ++ nodes minuses) 0 (omega arith) (sym same))
plans_one w more p (Both zeros pluses) (RulesB v) e f g same = absurd (words_apart (codes "cutb") (codes "split") v [] [] (nodes zeros ++ nodes pluses) 0 (omega arith) (sym same))
plans_one w more p (Three zeros pluses minuses) (RulesB v) e f g same = absurd (words_apart (codes "cutb") (codes "split") v [] [] ((nodes zeros ++ nodes pluses) ++ nodes minuses) 0 (omega arith) (sym same))
plans_one w more p (Both zeros pluses) Level e f g same = absurd (words_apart (codes "flat") (codes "split") [] [] [] (nodes zeros ++ nodes pluses) 0 (omega arith) (sym same))
plans_one w more p (Three zeros pluses minuses) Level e f g same = absurd (words_apart (codes "flat") (codes "split") [] [] [] ((nodes zeros ++ nodes pluses) ++ nodes minuses) 0 (omega arith) (sym same))
plans_one w more p (RulesA u) (Both zeros pluses) e f g same = absurd (words_apart (codes "cuta") (codes "split") u [] [] (nodes zeros ++ nodes pluses) 0 (omega arith) same)
plans_one w more p (RulesA u) (Three zeros pluses minuses) e f g same = absurd (words_apart (codes "cuta") (codes "split") u [] [] ((nodes zeros ++ nodes pluses) ++ nodes minuses) 0 (omega arith) same)
plans_one w more p (RulesA u) (RulesA v) e f g same = ap RulesA (same_numbers (codes "cuta") u v [] [] same)
plans_one w more p (RulesA u) (RulesB v) e f g same = absurd (words_apart (codes "cuta") (codes "cutb") u v [] [] 3 (omega arith) same)
plans_one w more p (RulesA u) Level e f g same = absurd (words_apart (codes "cuta") (codes "flat") u [] [] [] 0 (omega arith) same)
plans_one w more p (RulesB u) (Both zeros pluses) e f g same = absurd (words_apart (codes "cutb") (codes "split") u [] [] (nodes zeros ++ nodes pluses) 0 (omega arith) same)
plans_one w more p (RulesB u) (Three zeros pluses minuses) e f g same = absurd (words_apart (codes "cutb") (codes "split") u [] [] ((nodes zeros ++ nodes pluses) ++ nodes minuses) 0 (omega arith) same)
plans_one w more p (RulesB u) (RulesA v) e f g same = absurd (words_apart (codes "cuta") (codes "cutb") v u [] [] 3 (omega arith) (sym same))
plans_one w more p (RulesB u) (RulesB v) e f g same = ap RulesB (same_numbers (codes "cutb") u v [] [] same)
plans_one w more p (RulesB u) Level e f g same = absurd (words_apart (codes "cutb") (codes "flat") u [] [] [] 0 (omega arith) same)
plans_one w more p Level (Both zeros pluses) e f g same = absurd (words_apart (codes "flat") (codes "split") [] [] [] (nodes zeros ++ nodes pluses) 0 (omega arith) same)
plans_one w more p Level (Three zeros pluses minuses) e f g same = absurd (words_apart (codes "flat") (codes "split") [] [] [] ((nodes zeros ++ nodes pluses) ++ nodes minuses) 0 (omega arith) same)
plans_one w more p Level (RulesA v) e f g same = absurd (words_apart (codes "cuta") (codes "flat") v [] [] [] 0 (omega arith) (sym same))
plans_one w more p Level (RulesB v) e f g same = absurd (words_apart (codes "cutb") (codes "flat") v [] [] [] 0 (omega arith) (sym same))
plans_one w more p Level Level e f g same = refl

-- ---- the tests of a tree

-- what is tested of a leaf is what the problem requires of it
pub record AreLeafTests (w : Problem) (Holds : List Sign → Said → Type 0) : Type 0 where
  pub part_a : (p : List Sign) (u : List ℤ) → Holds p (CutsA u) ↔ w.RulesOutA p u
  pub part_b : (p : List Sign) (u : List ℤ) → Holds p (CutsB u) ↔ w.RulesOutB p u
  pub closed : (p : List Sign) → Holds p Flats ↔ w.IsClosed p

-- if the tests of a tree hold, its leaves are true
pub tests_true : (w : Problem) (Holds : List Sign → Said → Type 0) → AreLeafTests w Holds → (part : ℕ) (p : List Sign) (t : Plan) → AllHold (tree_tests Holds part p t) → HaveTrueLeaves w p t
tests_true w Holds l part p (Both z q) h =
    let s = hold_parts (tree_tests Holds (part + 1) (p ++ Zero ∷ []) z) (tree_tests Holds (part + 1 + node_count z) (p ++ Plus ∷ []) q) h.1 in
    (tests_true w Holds l (part + 1) (p ++ Zero ∷ []) z s.0, tests_true w Holds l (part + 1 + node_count z) (p ++ Plus ∷ []) q s.1)
tests_true w Holds l part p (Three z q m) h =
    let last = part + 1 + node_count z + node_count q in
    let s = hold_parts (tree_tests Holds (part + 1) (p ++ Zero ∷ []) z ++ tree_tests Holds (part + 1 + node_count z) (p ++ Plus ∷ []) q) (tree_tests Holds last (p ++ Minus ∷ []) m) h.1 in
    let r = hold_parts (tree_tests Holds (part + 1) (p ++ Zero ∷ []) z) (tree_tests Holds (part + 1 + node_count z) (p ++ Plus ∷ []) q) s.0 in
    (tests_true w Holds l (part + 1) (p ++ Zero ∷ []) z r.0, (tests_true w Holds l (part + 1 + node_count z) (p ++ Plus ∷ []) q r.1, tests_true w Holds l last (p ++ Minus ∷ []) m s.1))
tests_true w Holds l part p (RulesA u) h = let f = l.part_a in (f p u).0 h.0
tests_true w Holds l part p (RulesB u) h = let f = l.part_b in (f p u).0 h.0
tests_true w Holds l part p Level h = let f = l.closed in (f p).0 h.0

-- and conversely, if the test of a split holds at each prefix that is not full
pub true_tests : (w : Problem) (Holds : List Sign → Said → Type 0) → AreLeafTests w Holds → ((p : List Sign) → length p < w.choices → Holds p Splits) → (part : ℕ) (p : List Sign) (t : Plan) → FormedAt w p t → HaveTrueLeaves w p t → AllHold (tree_tests Holds part p t)
true_tests w Holds l splits part p (Both z q) f h = (
  splits p f.0,
  hold_append (tree_tests Holds (part + 1) (p ++ Zero ∷ []) z) (tree_tests Holds (part + 1 + node_count z) (p ++ Plus ∷ []) q)
      (true_tests w Holds l splits (part + 1) (p ++ Zero ∷ []) z f.2 h.0) (true_tests w Holds l splits (part + 1 + node_count z) (p ++ Plus ∷ []) q f.3 h.1),
)
true_tests w Holds l splits part p (Three z q m) f h =
    let last = part + 1 + node_count z + node_count q in (
      splits p f.0,
      hold_append (tree_tests Holds (part + 1) (p ++ Zero ∷ []) z ++ tree_tests Holds (part + 1 + node_count z) (p ++ Plus ∷ []) q) (tree_tests Holds last (p ++ Minus ∷ []) m)
          (hold_append (tree_tests Holds (part + 1) (p ++ Zero ∷ []) z) (tree_tests Holds (part + 1 + node_count z) (p ++ Plus ∷ []) q)
          (true_tests w Holds l splits (part + 1) (p ++ Zero ∷ []) z f.2 h.0) (true_tests w Holds l splits (part + 1 + node_count z) (p ++ Plus ∷ []) q f.3 h.1.0))
          (true_tests w Holds l splits last (p ++ Minus ∷ []) m f.4 h.1.1),
    )
true_tests w Holds l splits part p (RulesA u) f h = (let g = l.part_a in (g p u).1 h, tt)
true_tests w Holds l splits part p (RulesB u) f h = (let g = l.part_b in (g p u).1 h, tt)
true_tests w Holds l splits part p Level f h = (let g = l.closed in (g p).1 h, tt)

-- what each true leaf gives, a tree gives
pub from_some_leaf : (X : Type 0) (w : Problem) → ((p : List Sign) (u : List ℤ) → w.RulesOutA p u → X) → ((p : List Sign) (u : List ℤ) → w.RulesOutB p u → X) → ((p : List Sign) → w.IsClosed p → X) → (p : List Sign) (t : Plan) → HaveTrueLeaves w p t → X
from_some_leaf X w a b c p (Both z q) h = from_some_leaf X w a b c (p ++ Zero ∷ []) z h.0
from_some_leaf X w a b c p (Three z q m) h = from_some_leaf X w a b c (p ++ Zero ∷ []) z h.0
from_some_leaf X w a b c p (RulesA u) h = a p u h
from_some_leaf X w a b c p (RulesB u) h = b p u h
from_some_leaf X w a b c p Level h = c p h
