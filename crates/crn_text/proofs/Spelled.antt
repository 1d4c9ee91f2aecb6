-- A text that spells a network has no fault.
use Rattle.crn_text.proofs.Prelude.{◌≡◌, ℕ, suc, ◌<◌, ◌≤◌, Bool, false, List, [], ◌∷◌, ◌++◌, length, take, drop, get_or, map, None, refl, sym, ap, subst, ◌∙◌, append_assoc, inl, inr, arith, ℤ, pos, nat_lt, Decides, flat_map, bytes_eq, int_eq, pointwise, cases_Bool, le-ltb, bytes_eq-Decides, append-nil, length-map, map-append, flat_map-append, IsIn, AreDistinct, firsts, Net, IsNetwork, Statement, JoinsTwo, sides_of, sides_eq, said_by, names_in, amount_in, MAX_SPECIES, MAX_COMPLEXES, MAX_REACTIONS, with_zeros, both_with_zeros, in_right, in_map, map_in, map_same, map_twice, all_in, same_place, firsts_distinct, firsts_has, firsts_map, firsts_prefix, firsts_length, row_decides, sides_decide, same_test, in_flat_map, append_same, all_at, amounts_same, flat_map_whole, lines, line_statements, all_statements, own_fault, statement_fault, statements_fault, is_self, names_of, reactions_of, complexes_of, both_of, Spells, Fault, fault_on, TextCode, said_with_zeros, with_zeros_test}
use Rattle.crn_text.proofs.Complexes.{all_kept, flat_map_map, complexes_are}
use Rattle.crn_text.proofs.Statements.{self_same}

-- ---- the statements of a prefix of the text

pub record Prefix (net : Net) (prefix rest : List Statement) : Type 0 where
  pub network : IsNetwork net
  pub names : net.names ≡ names_of (prefix ++ rest)
  pub reactions : map (sides_of net) net.reactions ≡ firsts sides_eq (map (said_by net.names) (prefix ++ rest))

names_few : (net : Net) (prefix rest : List Statement) → Prefix net prefix rest → length (names_of prefix) ≤ MAX_SPECIES
names_few net prefix rest h =
    let more : names_of (prefix ++ rest) ≡ firsts bytes_eq (flat_map names_in prefix ++ flat_map names_in rest) = ap (firsts bytes_eq) (flat_map-append names_in prefix rest) in
    omega (arith, h.network.partial.species_limit, ap length h.names, ap length more, firsts_length bytes_eq (flat_map names_in prefix) (flat_map names_in rest))

-- the statements of the prefix as amounts of all names
wide_statements : (net : Net) (prefix rest : List Statement) → Prefix net prefix rest → map (both_with_zeros (length net.names)) (map (said_by (names_of prefix)) prefix) ≡ map (said_by net.names) prefix
wide_statements net prefix rest h =
    let P : List (List ℕ) = flat_map names_in prefix in
    let N : List (List ℕ) = names_of prefix in
    let f = firsts_prefix bytes_eq P (flat_map names_in rest) in
    let all : net.names ≡ N ++ f.0 = h.names ∙ ap (firsts bytes_eq) (flat_map-append names_in prefix rest) ∙ f.1 in
    let apart : AreDistinct (N ++ f.0) = subst AreDistinct f.1 (firsts_distinct bytes_eq bytes_eq-Decides (P ++ flat_map names_in rest)) in
    let known : (t : Statement) → IsIn t prefix → (name : List ℕ) → IsIn name (names_in t) → IsIn name N = λ t i name j. firsts_has bytes_eq bytes_eq-Decides P name (in_flat_map names_in prefix t name i j) in
    let m : ℕ = length net.names in
    let said_as : (t : Statement) → IsIn t prefix → both_with_zeros m (said_by N t) ≡ said_by net.names t = λ t i.
    subst (λ (u : List (List ℕ)). both_with_zeros (length u) (said_by N t) ≡ said_by u t) (sym all) (said_with_zeros N f.0 t apart (known t i)) in
    map_twice (said_by N) (both_with_zeros m) prefix ∙ map_same (λ t. both_with_zeros m (said_by N t)) (said_by net.names) prefix said_as

wide_reactions : (net : Net) (prefix rest : List Statement) → Prefix net prefix rest → map (both_with_zeros (length net.names)) (reactions_of prefix) ≡ firsts sides_eq (map (said_by net.names) prefix)
wide_reactions net prefix rest h =
    let N : List (List ℕ) = names_of prefix in
    let m : ℕ = length net.names in
    let Y : List (List ℤ × List ℤ) = map (said_by N) prefix in
    let test : (a b : List ℤ × List ℤ) → IsIn a Y → IsIn b Y → sides_eq (both_with_zeros m a) (both_with_zeros m b) ≡ sides_eq a b = λ a b i j.
    let p = in_map (said_by N) prefix a i in
    let q = in_map (said_by N) prefix b j in
    subst (λ (u : List ℤ × List ℤ). sides_eq (both_with_zeros m u) (both_with_zeros m b) ≡ sides_eq u b) (sym p.2) (subst (λ (u : List ℤ × List ℤ). sides_eq (both_with_zeros m (said_by N p.0)) (both_with_zeros m u) ≡ sides_eq (said_by N p.0) u) (sym q.2) (with_zeros_test N m p.0 q.0)) in
    sym (firsts_map sides_eq sides_eq (both_with_zeros m) Y test) ∙ ap (firsts sides_eq) (wide_statements net prefix rest h)

said_append : (net : Net) (prefix rest : List Statement) → map (said_by net.names) (prefix ++ rest) ≡ map (said_by net.names) prefix ++ map (said_by net.names) rest
said_append net prefix rest = map-append (said_by net.names) prefix rest

reactions_few : (net : Net) (prefix rest : List Statement) → Prefix net prefix rest → length (reactions_of prefix) ≤ MAX_REACTIONS
reactions_few net prefix rest h =
    let wide = ap length (wide_reactions net prefix rest h) in
    let same : length (map (both_with_zeros (length net.names)) (reactions_of prefix)) ≡ length (reactions_of prefix) = simp length-map in
    let mapped : length (map (sides_of net) net.reactions) ≡ length net.reactions = simp length-map in
    let all = ap length (h.reactions ∙ ap (firsts sides_eq) (said_append net prefix rest)) in
    omega (arith, wide, same, mapped, all, firsts_length sides_eq (map (said_by net.names) prefix) (map (said_by net.names) rest), h.network.partial.reactions_limit)

-- the amounts of a statement are as many as the names
both_long : (names : List (List ℕ)) (ss : List Statement) (v : List ℤ) → IsIn v (flat_map both_of (map (said_by names) ss)) → length v ≡ length names
both_long names [] v i = absurd i
both_long names (s ∷ ss) v (inl e) = ap length e ∙ length-map names (λ name. pos (amount_in s.0 name))
both_long names (s ∷ ss) v (inr (inl e)) = ap length e ∙ length-map names (λ name. pos (amount_in s.1 name))
both_long names (s ∷ ss) v (inr (inr i)) = both_long names ss v i

complexes_few : (net : Net) (prefix rest : List Statement) → Prefix net prefix rest → length (complexes_of prefix) ≤ MAX_COMPLEXES
complexes_few net prefix rest h =
    let E : List ℤ → List ℤ → Bool = pointwise int_eq in
    let d : (a b : List ℤ) → Decides (E a b) (a ≡ b) = λ a b. row_decides b a in
    let N : List (List ℕ) = names_of prefix in
    let m : ℕ = length net.names in
    let Z : List (List ℤ) = flat_map both_of (map (said_by N) prefix) in
    let test : (a b : List ℤ) → IsIn a Z → IsIn b Z → E (with_zeros m a) (with_zeros m b) ≡ E a b = λ a b i j.
    same_test (E (with_zeros m a) (with_zeros m b)) (E a b) (with_zeros m a ≡ with_zeros m b) (a ≡ b) (d (with_zeros m a) (with_zeros m b)) (d a b) (λ e. append_same a b _ _ (both_long N prefix a i ∙ sym (both_long N prefix b j)) e) (ap (with_zeros m)) in
    -- all complexes of the prefix, with zeros for the later names
    let one : map (with_zeros m) (firsts E Z) ≡ firsts E (map (with_zeros m) Z) = sym (firsts_map E E (with_zeros m) Z test) in
    let three : complexes_of prefix ≡ firsts E Z = all_kept sides_eq sides_decide E d both_of (map (said_by N) prefix) [] in
    let five : firsts E (map (with_zeros m) Z) ≡ firsts E (flat_map both_of (map (said_by net.names) prefix)) =
    ap (firsts E) (sym (flat_map_map (with_zeros m) (map (said_by N) prefix)) ∙ ap (flat_map both_of) (wide_statements net prefix rest h)) in
    let all : firsts E (flat_map both_of (map (said_by net.names) (prefix ++ rest))) ≡ net.complexes =
    sym (all_kept sides_eq sides_decide E d both_of (map (said_by net.names) (prefix ++ rest)) []) ∙ ap (λ (t : List (List ℤ × List ℤ)). firsts E (flat_map both_of t)) (sym h.reactions) ∙ complexes_are net h.network.partial in
    let split : flat_map both_of (map (said_by net.names) (prefix ++ rest)) ≡ flat_map both_of (map (said_by net.names) prefix) ++ flat_map both_of (map (said_by net.names) rest) = ap (flat_map both_of) (said_append net prefix rest) ∙ flat_map-append both_of (map (said_by net.names) prefix) (map (said_by net.names) rest) in
    let long : length (map (with_zeros m) (firsts E Z)) ≡ length (firsts E Z) = simp length-map in
    omega (arith, ap length three, ap length one, long, ap length five, firsts_length E (flat_map both_of (map (said_by net.names) prefix)) (flat_map both_of (map (said_by net.names) rest)), ap length (ap (firsts E) split), ap length all, h.network.partial.complexes_limit)

-- ---- no statement is a reaction of a complex to itself

no_self : (net : Net) (all : List Statement) (s : Statement) → Prefix net all [] → IsIn s all → is_self s ≡ false
no_self net all s h i =
    elim (cases_Bool (is_self s)) [
      | inl y ↦
          let whole : map (said_by net.names) (all ++ []) ≡ map (said_by net.names) all = ap (map (said_by net.names)) (append-nil all) in
          let in_said : IsIn (said_by net.names s) (firsts sides_eq (map (said_by net.names) all)) = firsts_has sides_eq sides_decide (map (said_by net.names) all) (said_by net.names s) (map_in (said_by net.names) all s i) in
          let there : IsIn (said_by net.names s) (map (sides_of net) net.reactions) = subst (λ (t : List (List ℤ × List ℤ)). IsIn (said_by net.names s) t) (sym (h.reactions ∙ ap (firsts sides_eq) whole)) in_said in
          let p = in_map (sides_of net) net.reactions (said_by net.names s) there in
          let joins = all_in (JoinsTwo (length net.complexes)) net.reactions p.0 h.network.partial.apart p.1 in
          let same : get_or net.complexes p.0.0 [] ≡ get_or net.complexes p.0.1 [] = ap (λ (u : List ℤ × List ℤ). u.0) (sym p.2) ∙ amounts_same net.names s.0 s.1 (self_same s y) ∙ ap (λ (u : List ℤ × List ℤ). u.1) p.2 in
          absurd (joins.0 (same_place net.complexes p.0.0 p.0.1 [] h.network.partial.complexes joins.1 joins.2 same))
      | inr n ↦ n
    ]

-- ---- no line has a fault

prefix_of : (net : Net) (all prefix rest : List Statement) → Prefix net all [] → all ≡ prefix ++ rest → Prefix net prefix rest
prefix_of net all prefix rest h e =
    let whole : all ++ [] ≡ prefix ++ rest = append-nil all ∙ e in
    record {
      network = h.network;
      names = h.names ∙ ap names_of whole;
      reactions = h.reactions ∙ ap (λ (t : List Statement). firsts sides_eq (map (said_by net.names) t)) whole;
    }

fine_statements : (net : Net) (all prefix ss rest : List Statement) → Prefix net all [] → all ≡ prefix ++ (ss ++ rest) → statements_fault prefix ss ≡ None
unfolding statement_fault
fine_statements net all prefix [] rest h e = refl
fine_statements net all prefix (s ∷ ss) rest h e =
    let more : all ≡ (prefix ++ s ∷ []) ++ (ss ++ rest) = e ∙ sym (append_assoc prefix (s ∷ []) (ss ++ rest)) in
    let f = prefix_of net all (prefix ++ s ∷ []) (ss ++ rest) h more in
    let self : is_self s ≡ false = no_self net all s h (subst (λ (t : List Statement). IsIn s t) (sym e) (in_right s prefix (s ∷ (ss ++ rest)) (inl refl))) in
    let species : nat_lt MAX_SPECIES (length (names_of (prefix ++ s ∷ []))) ≡ false = le-ltb MAX_SPECIES _ (names_few net (prefix ++ s ∷ []) (ss ++ rest) f) in
    let complexes : nat_lt MAX_COMPLEXES (length (complexes_of (prefix ++ s ∷ []))) ≡ false = le-ltb MAX_COMPLEXES _ (complexes_few net (prefix ++ s ∷ []) (ss ++ rest) f) in
    let reactions : nat_lt MAX_REACTIONS (length (reactions_of (prefix ++ s ∷ []))) ≡ false = le-ltb MAX_REACTIONS _ (reactions_few net (prefix ++ s ∷ []) (ss ++ rest) f) in
    rw (self, species, complexes, reactions) (fine_statements net all (prefix ++ s ∷ []) ss rest h more)

fine_line : (text : List ℕ) (net : Net) → Spells text net → (k : ℕ) → k < length (lines text) → fault_on (lines text) k ≡ None
fine_line text net h k lt =
    let all : List Statement = all_statements (lines text) in
    let prefix : Prefix net all [] = record { network = h.network; names = h.names ∙ ap names_of (sym (append-nil all)); reactions = h.reactions ∙ ap (λ (t : List Statement). firsts sides_eq (map (said_by net.names) t)) (sym (append-nil all)) } in
    let line : List ℕ = get_or (lines text) k [] in
    let split : all ≡ all_statements (take k (lines text)) ++ (line_statements line ++ all_statements (drop (suc k) (lines text))) = flat_map_whole line_statements (lines text) k [] lt ∙ append_assoc (all_statements (take k (lines text))) (line_statements line) (all_statements (drop (suc k) (lines text))) in
    let own : own_fault line ≡ None = all_at (λ l. own_fault l ≡ None) (lines text) k [] h.sound lt in
    rw own (fine_statements net all (all_statements (take k (lines text))) (line_statements line) (all_statements (drop (suc k) (lines text))) prefix split)

no_names : (net : Net) → IsNetwork net → map (sides_of net) net.reactions ≡ [] → ⊥
no_names net h e = let n : length (map (sides_of net) net.reactions) ≡ length net.reactions = simp length-map in let s = h.some in omega (arith, n, ap length e, s)

pub no_fault : (text : List ℕ) (net : Net) (line : ℕ) (code : TextCode) → Spells text net → Fault text line code → ⊥
no_fault text net line code h (inl x) = let a = x.long in let b = h.short in omega arith
no_fault text net line code h (inr (inl x)) = let a = fine_line text net h x.before x.there in let b = x.fault in cc
no_fault text net line code h (inr (inr x)) =
    let none : map (sides_of net) net.reactions ≡ [] = h.reactions ∙ ap (λ (t : List Statement). firsts sides_eq (map (said_by net.names) t)) x.none in
    no_names net h.network none
