-- A statement, or a line, that was there before adds nothing to the network.
use Rattle.crn_text.proofs.Prelude.{◌≡◌, ℕ, false, List, [], ◌∷◌, ◌++◌, length, map, None, Ok, refl, sym, ap, subst, ◌∙◌, append_assoc, inl, inr, arith, ℤ, flat_map, bytes_eq, int_eq, pointwise, append-nil, map_push, length-map, bytes_eq-Decides, IsIn, firsts, Net, Statement, names_in, said_by, sides_eq, sides_of, in_flat_map, flat_map_push, map_in, firsts_known, sides_decide, Grows, GrownFrom, Grown, no_net, names_with, complexes_with, reactions_with, Grown-names, Grown-reactions, Grown-network, Grown-names_with, Grown-reactions_with, line_statements, all_statements, is_self, both_of, names_of, reactions_of, statements_fault, own_fault, LineGives}
use Rattle.crn_text.proofs.Complexes.{known_all, complexes_are}
use Rattle.crn_text.proofs.Statements.{self_tested, not_self, complexes_all, grows_fine}

-- no statement of a network is a self reaction
grown_apart : (ss : List Statement) (s : Statement) (start net : Net) → GrownFrom start ss net → IsIn s ss → is_self s ≡ false
grown_apart [] s start net g i = absurd i
grown_apart (x ∷ ss) s start net g (inl e) = subst (λ (t : Statement). is_self t ≡ false) (sym e) (not_self start x g.1.apart)
grown_apart (x ∷ ss) s start net g (inr i) = grown_apart ss s g.0 net g.2 i

-- ---- a statement that is there

names_stay : (ss : List Statement) (s : Statement) (net : Net) → Grown ss net → IsIn s ss → names_with net s ≡ net.names
names_stay ss s net g i =
    let all : List (List ℕ) = flat_map names_in ss in
    Grown-names_with ss s net g
    ∙ ap (firsts bytes_eq) (flat_map_push names_in ss s)
    ∙ known_all bytes_eq bytes_eq-Decides all (names_in s) (λ name j. in_flat_map names_in ss s name i j)
    ∙ sym (Grown-names ss net g)

reactions_stay : (ss : List Statement) (s : Statement) (net : Net) → Grown ss net → IsIn s ss → reactions_with net s ≡ map (sides_of net) net.reactions
reactions_stay ss s net g i =
    let said = said_by net.names in
    Grown-reactions_with ss s net g
    ∙ ap (λ (t : List (List ℕ)). firsts sides_eq (map (said_by t) (ss ++ s ∷ []))) (names_stay ss s net g i)
    ∙ ap (firsts sides_eq) (map_push said ss s)
    ∙ firsts_known sides_eq sides_decide (map said ss) (said s) (map_in said ss s i)
    ∙ sym (Grown-reactions ss net g)

complexes_stay : (ss : List Statement) (s : Statement) (net : Net) → Grown ss net → IsIn s ss → complexes_with net s ≡ net.complexes
complexes_stay ss s net g i =
    let names : names_of (ss ++ s ∷ []) ≡ net.names = sym (Grown-names_with ss s net g) ∙ names_stay ss s net g i in
    let reactions : reactions_of (ss ++ s ∷ []) ≡ map (sides_of net) net.reactions =
    ap (λ (t : List (List ℕ)). firsts sides_eq (map (said_by t) (ss ++ s ∷ []))) (names ∙ sym (names_stay ss s net g i))
    ∙ sym (Grown-reactions_with ss s net g) ∙ reactions_stay ss s net g i in
    complexes_all ss s net g
    ∙ ap (λ (t : List (List ℤ × List ℤ)). firsts (pointwise int_eq) (flat_map both_of t)) reactions
    ∙ complexes_are net (Grown-network ss net g)

-- a statement that is there makes the network grow into itself
pub stays : (ss : List Statement) (s : Statement) (net : Net) → Grown ss net → IsIn s ss → Grows net s net
stays ss s net g i =
    let network = Grown-network ss net g in
    let names = names_stay ss s net g i in
    let complexes = complexes_stay ss s net g i in
    let reactions = reactions_stay ss s net g i in
    let apart = grown_apart ss s no_net net g i in
    record {
      names = sym names;
      reactions = sym reactions;
      network = network;
      apart = λ h. let shown = self_tested net s h in absurd (let e = rw apart at shown in cc);
      species_fit = omega (arith, ap length names, network.species_limit);
      complexes_fit = omega (arith, ap length complexes, network.complexes_limit);
      reactions_fit = omega (arith, ap length reactions, length-map net.reactions (sides_of net), network.reactions_limit);
    }

-- ---- statements that are there

-- statements of those that make the network, after any others that make it
pub any_stay : (ts ss before : List Statement) (net : Net) → Grown ss net → Grown before net → ((s : Statement) → IsIn s ts → IsIn s ss) → (statements_fault before ts ≡ None) × Grown (before ++ ts) net
any_stay [] ss before net g b h = (refl, subst (λ (t : List Statement). Grown t net) (sym (append-nil before)) b)
any_stay (t ∷ ts) ss before net g b h =
    let one = grows_fine before t net net b (stays ss t net g (h t (inl refl))) in
    let more = any_stay ts ss (before ++ t ∷ []) net g one.1 (λ s i. h s (inr i)) in
    (rw one.0 more.0, subst (λ (u : List Statement). Grown u net) (append_assoc before (t ∷ []) ts) more.1)

-- a line that was read before adds nothing
pub line_stays : (read : List (List ℕ)) (line : List ℕ) (done : Unit {0}) (net : Net) → Grown (all_statements read) net → IsIn line read → own_fault line ≡ None → LineGives (all_statements read) line (Ok done) net
line_stays read line done net g i sound =
    let p = any_stay (line_statements line) (all_statements read) (all_statements read) net g g (λ s j. in_flat_map line_statements read line s i j) in
    (rw sound p.0, p.1)
