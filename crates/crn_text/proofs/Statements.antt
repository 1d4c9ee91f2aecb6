-- What the builder of a network answers, and the first fault of a statement.
use Rattle.crn_text.proofs.Prelude.{◌≡◌, ℕ, true, false, List, [], ◌∷◌, ◌++◌, length, Some, None, Result, Err, refl, sym, ap, subst, ◌∙◌, inl, inr, eqb, ◌⊎◌, nat_lt, ℤ, list_all, flat_map, int_eq, pointwise, cases_Bool, lt-ltb, le-ltb, eqb-true, eq-eqb, IsIn, firsts, Net, Statement, names_in, said_by, sides_eq, amount_in, MAX_SPECIES, MAX_COMPLEXES, MAX_REACTIONS, AddGives, Grows, Grown, IsSelf, said_with, names_with, complexes_with, reactions_with, NetFault, Grown-more, Grown-network, Grown-names_with, Grown-reactions_with, self_says, says_self, has_name, none_said, in_left, in_right, net_code, is_self, both_of, names_of, complexes_of, reactions_of, statement_fault, StatementGives, TextCode, NoMemory}
use Rattle.std.specs.Prelude.{map}
use Rattle.crn_net.specs.declared.fault.NetFault.TheVariants as net
use Rattle.crn_text.proofs.Complexes.{complexes_more}

pub names_all : (ss : List Statement) (s : Statement) (old : Net) → Grown ss old → names_with old s ≡ names_of (ss ++ s ∷ [])
names_all ss s old g = Grown-names_with ss s old g

pub reactions_all : (ss : List Statement) (s : Statement) (old : Net) → Grown ss old → reactions_with old s ≡ reactions_of (ss ++ s ∷ [])
reactions_all ss s old g = Grown-reactions_with ss s old g ∙ ap (λ (t : List (List ℕ)). firsts sides_eq (map (said_by t) (ss ++ s ∷ []))) (names_all ss s old g)

pub complexes_all : (ss : List Statement) (s : Statement) (old : Net) → Grown ss old → complexes_with old s ≡ complexes_of (ss ++ s ∷ [])
complexes_all ss s old g =
    complexes_more old (length (names_with old s)) (said_with old s) (Grown-network ss old g) ∙ ap (λ (t : List (List ℤ × List ℤ)). firsts (pointwise int_eq) (flat_map both_of t)) (reactions_all ss s old g)

-- ---- both sides are the same complex

same_of : (s : Statement) (names : List (List ℕ)) → list_all (λ name. eqb (amount_in s.0 name) (amount_in s.1 name)) names ≡ true → (name : List ℕ) → IsIn name names → amount_in s.0 name ≡ amount_in s.1 name
same_of s [] h name i = absurd i
same_of s (x ∷ names) h name i =
    elim (cases_Bool (eqb (amount_in s.0 x) (amount_in s.1 x))) [
      | inl y ↦
          let rest = rw y at h in
          elim i [
            | inl e ↦ subst (λ (n : List ℕ). amount_in s.0 n ≡ amount_in s.1 n) (sym e) (eqb-true _ _ y)
            | inr j ↦ same_of s names rest name j
          ]
      | inr n ↦ absurd (let e = rw n at h in cc)
    ]

pub all_same : (s : Statement) (names : List (List ℕ)) → ((name : List ℕ) → amount_in s.0 name ≡ amount_in s.1 name) → list_all (λ name. eqb (amount_in s.0 name) (amount_in s.1 name)) names ≡ true
all_same s [] h = refl
all_same s (x ∷ names) h = let e = eq-eqb (amount_in s.0 x) (amount_in s.1 x) (h x) in rw e (all_same s names h)

pub self_same : (s : Statement) → is_self s ≡ true → (name : List ℕ) → amount_in s.0 name ≡ amount_in s.1 name
self_same s h = λ name.
    elim (has_name s.0 name) [
      | inl i ↦ same_of s (names_in s) h name (in_left name (map (λ t. t.0) s.0) (map (λ t. t.0) s.1) i)
      | inr n ↦ elim (has_name s.1 name) [
        | inl j ↦ same_of s (names_in s) h name (in_right name (map (λ t. t.0) s.0) (map (λ t. t.0) s.1) j)
        | inr m ↦ none_said s.0 name n ∙ sym (none_said s.1 name m)
      ]
    ]

pub self_tested : (old : Net) (s : Statement) → IsSelf old s → is_self s ≡ true
self_tested old s h = all_same s (names_in s) (self_says old s h)

pub not_self : (old : Net) (s : Statement) → (IsSelf old s → ⊥) → is_self s ≡ false
not_self old s h = elim (cases_Bool (is_self s)) [ inl y ↦ absurd (h (says_self old s (self_same s y))) | inr n ↦ n ]

-- ---- the builder's answer

pub grows_fine : (ss : List Statement) (s : Statement) (old new : Net) → Grown ss old → Grows old s new → (statement_fault ss s ≡ None) × Grown (ss ++ s ∷ []) new
unfolding statement_fault
grows_fine ss s old new g h =
    let self = not_self old s h.apart in
    let species : nat_lt MAX_SPECIES (length (names_of (ss ++ s ∷ []))) ≡ false = le-ltb MAX_SPECIES _ (rw (names_all ss s old g) at h.species_fit) in
    let complexes : nat_lt MAX_COMPLEXES (length (complexes_of (ss ++ s ∷ []))) ≡ false = le-ltb MAX_COMPLEXES _ (rw (complexes_all ss s old g) at h.complexes_fit) in
    let reactions : nat_lt MAX_REACTIONS (length (reactions_of (ss ++ s ∷ []))) ≡ false = le-ltb MAX_REACTIONS _ (rw (reactions_all ss s old g) at h.reactions_fit) in
    (rw (self, species, complexes, reactions) refl, Grown-more ss s old new g h)

pub add_refuses : (ss : List Statement) (s : Statement) (old new : Net) (fault : NetFault) (code : TextCode) → Grown ss old → AddGives old s (Err fault) new → code ≡ net_code fault → (code ≡ NoMemory) ⊎ (statement_fault ss s ≡ Some code)
unfolding statement_fault
add_refuses ss s old new net.SelfReaction code g h e = let self = self_tested old s h.1 in inr (rw (self, e) refl)
add_refuses ss s old new net.TooManySpecies code g h e =
    let self = not_self old s h.1 in
    let species : nat_lt MAX_SPECIES (length (names_of (ss ++ s ∷ []))) ≡ true = lt-ltb MAX_SPECIES _ (rw (names_all ss s old g) at h.2) in
    inr (rw (self, species, e) refl)
add_refuses ss s old new net.TooManyComplexes code g h e =
    let self = not_self old s h.1.apart in
    let species : nat_lt MAX_SPECIES (length (names_of (ss ++ s ∷ []))) ≡ false = le-ltb MAX_SPECIES _ (rw (names_all ss s old g) at h.1.species_fit) in
    let complexes : nat_lt MAX_COMPLEXES (length (complexes_of (ss ++ s ∷ []))) ≡ true = lt-ltb MAX_COMPLEXES _ (rw (complexes_all ss s old g) at h.1.complexes_many) in
    inr (rw (self, species, complexes, e) refl)
add_refuses ss s old new net.TooManyReactions code g h e =
    let self = not_self old s h.1.apart in
    let species : nat_lt MAX_SPECIES (length (names_of (ss ++ s ∷ []))) ≡ false = le-ltb MAX_SPECIES _ (rw (names_all ss s old g) at h.1.species_fit) in
    let complexes : nat_lt MAX_COMPLEXES (length (complexes_of (ss ++ s ∷ []))) ≡ false = le-ltb MAX_COMPLEXES _ (rw (complexes_all ss s old g) at h.1.complexes_fit) in
    let reactions : nat_lt MAX_REACTIONS (length (reactions_of (ss ++ s ∷ []))) ≡ true = lt-ltb MAX_REACTIONS _ (rw (reactions_all ss s old g) at h.1.reactions_many) in
    inr (rw (self, species, complexes, reactions, e) refl)
add_refuses ss s old new net.NoReaction code g h e = absurd h
add_refuses ss s old new net.NoMemory code g h e = inl e

pub statement_gives : (ss : List Statement) (s : Statement) (old new : Net) (fault : NetFault) (code : TextCode) (r : Result Unit TextCode) → Grown ss old → AddGives old s (Err fault) new → code ≡ net_code fault → r ≡ Err code → StatementGives ss s r new
statement_gives ss s old new fault code r g h e is = rw is (add_refuses ss s old new fault code g h e)
