-- A network that statements make, one after another, from nothing: its names, complexes and reactions.
use Rattle.crn_net.proofs.Prelude.{◌≡◌, ℕ, ◌-◌, List, [], ◌∷◌, ◌++◌, length, map, replicate, refl, sym, ap, ap₂, subst, ◌∙◌, append_assoc, inl, inr, arith, ℤ, pos, flat_map, bytes_eq, bytes_eq-Decides, append-nil, length-map, map-append, map_push, length-append, IsIn, AreDistinct, firsts, Net, IsPartialNetwork, sides_of, sides_eq, said_by, names_in, amount_in, amounts_in, Statement, with_zeros, both_with_zeros, names_with, reactions_with, Grows, GrownFrom, Grown, no_net, in_left, in_right, in_map, map_same, map_twice, firsts_distinct, firsts_has, firsts_firsts, firsts_map, none_said, same_test, sides_decide, pair, in_flat_map, flat_map_push, append_same, apart_of}
use Rattle.crn_net.proofs.Species.{names_begin}

-- ---- one statement more

from_more : (start : Net) (ss : List Statement) (s : Statement) (old new : Net) → GrownFrom start ss old → Grows old s new → GrownFrom start (ss ++ s ∷ []) new
from_more start [] s old new h g = (new, subst (λ (net : Net). Grows net s new) h g, refl)
from_more start (x ∷ ss) s old new h g = (h.0, h.1, from_more h.0 ss s old new h.2 g)

-- no statements make the network of nothing
pub Grown-none : Grown [] no_net
Grown-none = refl

-- what has grown by statements, and grows by one more, has grown by all of them
pub Grown-more : (ss : List Statement) (s : Statement) (old new : Net) → Grown ss old → Grows old s new → Grown (ss ++ s ∷ []) new
Grown-more ss s old new h g = from_more no_net ss s old new h g

no_net_partial : IsPartialNetwork no_net
no_net_partial = record {
  names = tt;
  names_spelled = tt;
  complexes = tt;
  vectors = tt;
  reactions = tt;
  apart = tt;
  numbered = λ i k lt less. absurd (omega arith);
  each_in_a_reaction = λ c lt. absurd (omega (arith, lt));
  each_in_a_complex = λ s lt. absurd (omega (arith, lt));
  species_in_order = λ c s t le st lt h. absurd (omega (arith, lt));
  species_limit = omega arith;
  complexes_limit = omega arith;
  reactions_limit = omega arith;
}

from_network : (ss : List Statement) (start net : Net) → IsPartialNetwork start → GrownFrom start ss net → IsPartialNetwork net
from_network [] start net h g = subst IsPartialNetwork (sym g) h
from_network (s ∷ ss) start net h g = from_network ss g.0 net g.1.network g.2

-- ---- names and reactions of all statements

-- what a network has after these statements
pub record Has (done : List Statement) (net : Net) : Type 0 where
  pub names : net.names ≡ firsts bytes_eq (flat_map names_in done)
  pub reactions : map (sides_of net) net.reactions ≡ firsts sides_eq (map (said_by net.names) done)

none_of : (more : List (List ℕ)) (side : List (List ℕ × ℕ)) → ((name : List ℕ) → IsIn name more → IsIn name (map (λ t. t.0) side) → ⊥) → amounts_in more side ≡ replicate (length more) (pos 0)
none_of [] side h = refl
none_of (x ∷ more) side h = ap₂ (λ (a : ℤ) (b : List ℤ). a ∷ b) (ap pos (none_said side x (h x (inl refl)))) (none_of more side (λ name i. h name (inr i)))

-- a side has zeros for the later names, which it does not have
side_with_zeros : (names more : List (List ℕ)) (side : List (List ℕ × ℕ)) → ((name : List ℕ) → IsIn name more → IsIn name (map (λ t. t.0) side) → ⊥) → with_zeros (length (names ++ more)) (amounts_in names side) ≡ amounts_in (names ++ more) side
side_with_zeros names more side h =
    let count : length (names ++ more) - length (amounts_in names side) ≡ length more = let a = length-append names more in let b = length-map names (λ name. pos (amount_in side name)) in omega (arith, a, b) in
    ap (λ (n : ℕ). amounts_in names side ++ replicate n (pos 0)) count ∙ ap (λ (t : List ℤ). amounts_in names side ++ t) (sym (none_of more side h)) ∙ sym (map-append (λ name. pos (amount_in side name)) names more)

pub said_with_zeros : (names more : List (List ℕ)) (s : Statement) → AreDistinct (names ++ more) → ((name : List ℕ) → IsIn name (names_in s) → IsIn name names) → both_with_zeros (length (names ++ more)) (said_by names s) ≡ said_by (names ++ more) s
said_with_zeros names more s d h =
    ap₂ pair
    (side_with_zeros names more s.0 (λ name i j. apart_of names more name d i (h name (in_left name (map (λ t. t.0) s.0) (map (λ t. t.0) s.1) j))))
    (side_with_zeros names more s.1 (λ name i j. apart_of names more name d i (h name (in_right name (map (λ t. t.0) s.0) (map (λ t. t.0) s.1) j))))

-- zeros at the end keep reactions different
pub with_zeros_test : (names : List (List ℕ)) (m : ℕ) (s t : Statement) → sides_eq (both_with_zeros m (said_by names s)) (both_with_zeros m (said_by names t)) ≡ sides_eq (said_by names s) (said_by names t)
with_zeros_test names m s t =
    let long = λ (side : List (List ℕ × ℕ)). length-map names (λ name. pos (amount_in side name)) in
    same_test (sides_eq (both_with_zeros m (said_by names s)) (both_with_zeros m (said_by names t))) (sides_eq (said_by names s) (said_by names t)) (both_with_zeros m (said_by names s) ≡ both_with_zeros m (said_by names t)) (said_by names s ≡ said_by names t)
    (sides_decide (both_with_zeros m (said_by names s)) (both_with_zeros m (said_by names t))) (sides_decide (said_by names s) (said_by names t))
    (λ e. ap₂ pair
    (append_same (amounts_in names s.0) (amounts_in names t.0) _ _ (long s.0 ∙ sym (long t.0)) (ap (λ (u : List ℤ × List ℤ). u.0) e))
    (append_same (amounts_in names s.1) (amounts_in names t.1) _ _ (long s.1 ∙ sym (long t.1)) (ap (λ (u : List ℤ × List ℤ). u.1) e)))
    (ap (both_with_zeros m))

-- the names with one more statement are those of all statements
names_more : (done : List Statement) (s : Statement) (old : Net) → Has done old → names_with old s ≡ firsts bytes_eq (flat_map names_in (done ++ s ∷ []))
names_more done s old h =
    ap (λ (t : List (List ℕ)). firsts bytes_eq (t ++ names_in s)) h.names ∙ firsts_firsts bytes_eq bytes_eq-Decides (flat_map names_in done) (names_in s) ∙ ap (firsts bytes_eq) (sym (flat_map_push names_in done s))

-- the reactions with one more statement are those of all statements
reactions_more : (done : List Statement) (s : Statement) (old : Net) → Has done old → reactions_with old s ≡ firsts sides_eq (map (said_by (names_with old s)) (done ++ s ∷ []))
reactions_more done s old h =
    let P : List (List ℕ) = flat_map names_in done in
    let all : List (List ℕ) = names_with old s in
    let m : ℕ = length all in
    let d : AreDistinct old.names = subst AreDistinct (sym h.names) (firsts_distinct bytes_eq bytes_eq-Decides P) in
    let f = names_begin old.names all (names_in s) d refl in
    let apart : AreDistinct (old.names ++ f.0) = subst AreDistinct f.1 (firsts_distinct bytes_eq bytes_eq-Decides (old.names ++ names_in s)) in
    let known : (t : Statement) → IsIn t done → (name : List ℕ) → IsIn name (names_in t) → IsIn name old.names = λ t i name j. subst (λ (u : List (List ℕ)). IsIn name u) (sym h.names) (firsts_has bytes_eq bytes_eq-Decides P name (in_flat_map names_in done t name i j)) in
    let said : (t : Statement) → IsIn t done → both_with_zeros m (said_by old.names t) ≡ said_by all t = λ t i.
    subst (λ (u : List (List ℕ)). both_with_zeros (length u) (said_by old.names t) ≡ said_by u t) (sym f.1) (said_with_zeros old.names f.0 t apart (known t i)) in
    let X : List (List ℤ × List ℤ) = map (said_by all) done in
    let Y : List (List ℤ × List ℤ) = map (said_by old.names) done in
    let test : (a b : List ℤ × List ℤ) → IsIn a Y → IsIn b Y → sides_eq (both_with_zeros m a) (both_with_zeros m b) ≡ sides_eq a b = λ a b i j.
    let p = in_map (said_by old.names) done a i in
    let q = in_map (said_by old.names) done b j in
    subst (λ (u : List ℤ × List ℤ). sides_eq (both_with_zeros m u) (both_with_zeros m b) ≡ sides_eq u b) (sym p.2) (subst (λ (u : List ℤ × List ℤ). sides_eq (both_with_zeros m (said_by old.names p.0)) (both_with_zeros m u) ≡ sides_eq (said_by old.names p.0) u) (sym q.2) (with_zeros_test old.names m p.0 q.0)) in
    let olds : map (λ r. both_with_zeros m (sides_of old r)) old.reactions ≡ firsts sides_eq X =
    sym (map_twice (sides_of old) (both_with_zeros m) old.reactions) ∙ ap (map (both_with_zeros m)) h.reactions ∙ sym (firsts_map sides_eq sides_eq (both_with_zeros m) Y test)
    ∙ ap (firsts sides_eq) (map_twice (said_by old.names) (both_with_zeros m) done ∙ map_same (λ t. both_with_zeros m (said_by old.names t)) (said_by all) done said) in
    ap (λ (t : List (List ℤ × List ℤ)). firsts sides_eq (t ++ said_by all s ∷ [])) olds ∙ firsts_firsts sides_eq sides_decide X (said_by all s ∷ []) ∙ ap (firsts sides_eq) (sym (map_push (said_by all) done s))

has_more : (done : List Statement) (s : Statement) (old new : Net) → Has done old → Grows old s new → Has (done ++ s ∷ []) new
has_more done s old new h g = record {
  names = g.names ∙ names_more done s old h;
  reactions = g.reactions ∙ reactions_more done s old h ∙ ap (λ (t : List (List ℕ)). firsts sides_eq (map (said_by t) (done ++ s ∷ []))) (sym g.names);
}

from_has : (ss done : List Statement) (start net : Net) → Has done start → GrownFrom start ss net → Has (done ++ ss) net
from_has [] done start net h g = subst (λ (ds : List Statement). Has ds net) (sym (append-nil done)) (subst (Has done) (sym g) h)
from_has (s ∷ ss) done start net h g = subst (λ (ds : List Statement). Has ds net) (append_assoc done (s ∷ []) ss) (from_has ss (done ++ s ∷ []) g.0 net (has_more done s start g.0 h g.1) g.2)

nothing : Has [] no_net
nothing = record { names = refl; reactions = refl }

-- the names are the names of all statements, in order of first occurrence
pub Grown-names : (ss : List Statement) (net : Net) → Grown ss net → net.names ≡ firsts bytes_eq (flat_map names_in ss)
Grown-names ss net g = (from_has ss [] no_net net nothing g).names

-- the reactions, as amounts of the names, are the statements with every later repeat dropped
pub Grown-reactions : (ss : List Statement) (net : Net) → Grown ss net → map (sides_of net) net.reactions ≡ firsts sides_eq (map (said_by net.names) ss)
Grown-reactions ss net g = (from_has ss [] no_net net nothing g).reactions

-- what has grown keeps all that a network keeps but for having a reaction
pub Grown-network : (ss : List Statement) (net : Net) → Grown ss net → IsPartialNetwork net
Grown-network ss net g = from_network ss no_net net no_net_partial g

-- the names with one more statement are those of all statements
pub Grown-names_with : (ss : List Statement) (s : Statement) (old : Net) → Grown ss old → names_with old s ≡ firsts bytes_eq (flat_map names_in (ss ++ s ∷ []))
Grown-names_with ss s old g = names_more ss s old (from_has ss [] no_net old nothing g)

-- the reactions with one more statement, as amounts of all names, are those of all statements
pub Grown-reactions_with : (ss : List Statement) (s : Statement) (old : Net) → Grown ss old → reactions_with old s ≡ firsts sides_eq (map (said_by (names_with old s)) (ss ++ s ∷ []))
Grown-reactions_with ss s old g = reactions_more ss s old (from_has ss [] no_net old nothing g)
