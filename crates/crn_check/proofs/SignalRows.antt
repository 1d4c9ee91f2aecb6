-- The test of a signal is that of its lists over the shape of the network and of the vector of question 12 with its turn.
use Rattle.crn_check.proofs.Prelude.{◌≡◌, ◌∙◌, inl, inr, List, Result, Ok, Err, map, refl, ap, sym, subst, ℤ, pos, negsuc, Option, Some, IsSomeAnd, Net, IsNetwork, IsRegular, InConfluenceSpace, sign, reaction_system, Shape, IsSignal, IsShapeOf, IsSignalOf, signals_are_of_shape, negative_space, Answer, Verdict, YesVec, YesSignal, Proof, Earlier, Q2, Q12, Q13, on, vector_given, IsTrueOf, by_turn, IsFormedVerdict, AllHold, FailsFirst, IsTrueOrOpen, head_tests, row_tests, tests_of, shape_count, CheckFault, IsShapeFor, Judges, DoListsFit, shape_tests}
use Rattle.std.specs.Prelude.{◌↔◌}
use Rattle.crn_check.proofs.Judging.{judges_go}

-- ---- the vector of question 12 with a turn

signed_space : (net : Net) (g : List ℤ) (turn : ℤ) → InConfluenceSpace net g → InConfluenceSpace net (by_turn turn g)
signed_space net g (pos n) s = s
signed_space net g (negsuc n) s = negative_space net g s

-- the vector of question 12, of which this shape is that with the turn
record VectorOf (net : Net) (v : Verdict) (turn : ℤ) (s : Shape) : Type 0 where
  g : List ℤ
  given : vector_given v ≡ Some g
  regular : IsRegular net
  space : InConfluenceSpace net (by_turn turn g)
  shape : IsShapeOf net (by_turn turn g) s

vector_of : (net : Net) (v : Verdict) (turn : ℤ) (s : Shape) → IsTrueOrOpen net Q12 v → IsSomeAnd (vector_given v) (λ g. IsShapeOf net (by_turn turn g) s) → VectorOf net v turn s
vector_of net (YesVec vector) turn s h sh = record {
  g = vector.list;
  given = refl;
  regular = h.0;
  space = signed_space net vector.list turn h.2.confluence.space;
  shape = sh;
}
vector_of net v turn s h sh = absurd sh

-- ---- the lists over the shape

pub lists_fit : (net : Net) (e : Earlier) (v : Verdict) (s : Shape) → IsTrueOf net Q2 (on e Q2) → IsTrueOrOpen net Q12 (on e Q12) → IsFormedVerdict net e Q13 v → IsShapeFor net e v s → DoListsFit net s v
lists_fit net e (YesSignal turn shelves mu level weights) s classes conf f sh =
    let k = vector_of net (on e Q12) turn s conf sh in (
      k.shape.shape,
      f.1.shelves_are.long ∙ sym (shape_count net e (by_turn turn k.g) s classes k.shape),
      f.1.mu_is,
      f.1.level_is,
      f.1.weights_are,
    )
lists_fit net e v s classes conf f sh = absurd sh

signal_by_shape : (net : Net) (e : Earlier) (s : Shape) (turn : ℤ) (shelves mu : List ℤ) (level : ℤ) (weights : List ℤ) → IsNetwork net → VectorOf net (on e Q12) turn s
    → IsSignal s (reaction_system net) (map sign shelves) mu level weights ↔ IsSomeAnd (vector_given (on e Q12)) (λ g. IsSignalOf net (by_turn turn g) (map sign shelves) mu level weights)
signal_by_shape net e s turn shelves mu level weights n k =
    let of = signals_are_of_shape net (by_turn turn k.g) s n k.regular k.space k.shape in
    subst (λ (o : Option (List ℤ)). IsSignal s (reaction_system net) (map sign shelves) mu level weights ↔ IsSomeAnd o (λ g. IsSignalOf net (by_turn turn g) (map sign shelves) mu level weights)) (sym k.given)
    (of.of (map sign shelves) mu level weights, of.over (map sign shelves) mu level weights)

pub rows_by_shape : (net : Net) (e : Earlier) (v : Verdict) (p : Proof) (s : Shape) (r : Result Unit CheckFault) → IsNetwork net → IsTrueOrOpen net Q12 (on e Q12) → IsShapeFor net e v s → Judges (shape_tests net s v) r → Judges (row_tests net e Q13 v p) r
rows_by_shape net e (YesSignal turn shelves mu level weights) p s (Ok done) n conf sh h =
    ((signal_by_shape net e s turn shelves.list mu.list level weights.list n (vector_of net (on e Q12) turn s conf sh)).0 h.0, tt)
rows_by_shape net e (YesSignal turn shelves mu level weights) p s (Err fault) n conf sh h =
    let by = signal_by_shape net e s turn shelves.list mu.list level weights.list n (vector_of net (on e Q12) turn s conf sh) in
    elim h [ inl here ↦ inl ((λ is. here.0 (by.1 is)), here.1, here.2) | inr later ↦ absurd later.1 ]
rows_by_shape net e v p s r n conf sh h = absurd sh

-- all tests of the answer, if those of its head hold
rows_judge : (net : Net) (e : Earlier) (a : Answer) (s : Shape) (r : Result Unit CheckFault) → IsNetwork net → IsTrueOrOpen net Q12 (on e Q12) → IsShapeFor net e a.verdict s → AllHold (head_tests net e Q13 a.verdict) → Judges (shape_tests net s a.verdict) r → Judges (tests_of net e Q13 a) r
rows_judge net e a s r n conf sh heads h = judges_go (head_tests net e Q13 a.verdict) (row_tests net e Q13 a.verdict a.proof) r heads (rows_by_shape net e a.verdict a.proof s r n conf sh h)

pub rows_hold : (net : Net) (e : Earlier) (a : Answer) (s : Shape) → IsNetwork net → IsTrueOrOpen net Q12 (on e Q12) → IsShapeFor net e a.verdict s → AllHold (head_tests net e Q13 a.verdict) → AllHold (shape_tests net s a.verdict) → AllHold (tests_of net e Q13 a)
rows_hold net e a s n conf sh heads h = rows_judge net e a s (Ok tt) n conf sh heads h

pub rows_stop : (net : Net) (e : Earlier) (a : Answer) (s : Shape) (r : Result Unit CheckFault) (f g : CheckFault) → IsNetwork net → IsTrueOrOpen net Q12 (on e Q12) → IsShapeFor net e a.verdict s → r ≡ Err f → f ≡ g → AllHold (head_tests net e Q13 a.verdict) → FailsFirst (shape_tests net s a.verdict) g.part g.code → Judges (tests_of net e Q13 a) r
rows_stop net e a s r f g n conf sh is same heads h = subst (Judges (tests_of net e Q13 a)) (sym (is ∙ ap Err same)) (rows_judge net e a s (Err g) n conf sh heads h)
