-- What earlier answers give question 13: the strong classes, the confluence vector, and what trees without a signal show.
use Rattle.crn_document.proofs.Prelude.{◌≡◌, ◌∙◌, ◌+◌, ◌-◌, ℕ, true, List, [], length, refl, sym, ap, ap₂, subst, inl, inr, ℤ, pos, negsuc, Some, None, AllByRecursion, IsSome, IsSomeAnd, Net, IsWeaklyReversible, IsRegular, HasConfluenceLine, IsNormalVector, negative, Shape, HasNoSignal, IsShapeOf, opposite_shape, length-scale, negatives_have_opposite_shapes, reaction_in, shapes_are_one, weakly_reversible_by_reactions, Verdict, No, Yes, YesVec, Earlier, Q2, Q4, Q12, Q13, on, terminal_of, vector_given, IsNarrow, IsFormedVerdict, IsTrueOrOpen, IsTrueOf, IsTurn, by_turn, HasVector, OfVector, shape_count, shapes_exist, none_at_all, is_yes, pairs_of, HoldsOn, KeptFacts, formed_on, sound_on, strong_true, weak_true, known_of, IsKnownFor, vector_or_none}
use Rattle.std.specs.Prelude.{Option}
use Rattle.crn_cert.specs.declared.answer.Verdict.TheVariants.{NoReaction}

-- the verdicts at which question 13 looks are known
pub record Held (es : Earlier) : Type 0 where
  pub strong : HoldsOn es 2
  pub weak : HoldsOn es 4
  pub confluence : HoldsOn es 12

pub held : (net : Net) (facts : KeptFacts) → IsKnownFor net 13 facts → Held facts.earlier
held net facts k = let n = k.needs in record { strong = n.0; weak = n.1.0; confluence = n.1.1.0 }

-- ---- the confluence vector

-- the vector of question 12, if it gives one
pub record VectorKnown (net : Net) (g : List ℤ) : Type 0 where
  pub regular : IsRegular net
  pub line : HasConfluenceLine net
  pub normal : IsNormalVector net g
  pub long : length g ≡ length net.complexes
  pub narrow : AllByRecursion IsNarrow g

vector_by : (net : Net) (e : Earlier) (v : Verdict) → IsFormedVerdict net e Q12 v → IsTrueOrOpen net Q12 v → IsSome (vector_given v) → VectorKnown net (vector_or_none (vector_given v))
vector_by net e (YesVec vector) f h some = record { regular = h.0; line = h.1; normal = h.2; long = f.1.long; narrow = f.1.each }
vector_by net e v f h some = absurd cc

pub vector_known : (net : Net) (facts : KeptFacts) → IsKnownFor net 13 facts → HasVector facts.earlier → VectorKnown net (vector_or_none (vector_given (on facts.earlier Q12)))
vector_known net facts k some =
    let h = (held net facts k).confluence in
    let f = formed_on net [] facts.earlier Q12 k.facts_of.formed h in
    vector_by net f.0 (on facts.earlier Q12) f.1 (sound_on net facts.earlier Q12 k.facts_of.sound h) some

pub some_vector : (o : Option (List ℤ)) → IsSome o → o ≡ Some (vector_or_none o)
some_vector None some = absurd cc
some_vector (Some g) some = refl

pub of_vector : (o : Option (List ℤ)) (Has : List ℤ → Type 0) → IsSome o → Has (vector_or_none o) → IsSomeAnd o Has
of_vector None Has some h = absurd cc
of_vector (Some g) Has some h = h

pub vector_has : (o : Option (List ℤ)) (Has : List ℤ → Type 0) → IsSomeAnd o Has → Has (vector_or_none o)
vector_has None Has h = absurd h
vector_has (Some g) Has h = h

-- ---- shapes

-- the shape of the vector by its turn, from that of the vector
pub turn_first : (net : Net) (g : List ℤ) (turn : ℤ) (s : Shape) → turn ≡ pos 1 → IsShapeOf net g s → IsShapeOf net (by_turn turn g) s
turn_first net g turn s e h = subst (λ (t : ℤ). IsShapeOf net (by_turn t g) s) (sym e) h

pub turn_second : (net : Net) (g : List ℤ) (turn : ℤ) (s t : Shape) → turn ≡ negsuc 0 → IsShapeOf net g s → t ≡ opposite_shape s → IsShapeOf net (by_turn turn g) t
turn_second net g turn s t e h is = subst (λ (u : ℤ). IsShapeOf net (by_turn u g) t) (sym e) (subst (λ (x : Shape). IsShapeOf net (negative g) x) (sym is) (negatives_have_opposite_shapes net g s h))

-- the numbers of a shape of the vector are those that earlier verdicts give
pub record Sizes (net : Net) (earlier : Earlier) (s : Shape) : Type 0 where
  pub choices : s.count + s.species ≡ terminal_of (on earlier Q2) + length net.names
  pub rows : length s.complexes + length s.pairs ≡ length net.complexes + length (pairs_of (known_of net earlier))

turn_long : (g : List ℤ) (turn : ℤ) → IsTurn turn → length (by_turn turn g) ≡ length g
turn_long g turn (inl e) = ap (λ (t : ℤ). length (by_turn t g)) e
turn_long g turn (inr e) = ap (λ (t : ℤ). length (by_turn t g)) e ∙ length-scale (negsuc 0) g

pub sizes : (net : Net) (facts : KeptFacts) (turn : ℤ) (s : Shape) → IsKnownFor net 13 facts → HasVector facts.earlier → IsTurn turn → IsShapeOf net (by_turn turn (vector_or_none (vector_given (on facts.earlier Q12)))) s → Sizes net facts.earlier s
sizes net facts turn s k some is sh =
    let earlier = facts.earlier in
    let g = vector_or_none (vector_given (on earlier Q12)) in
    let v = vector_known net facts k some in
    let known = strong_true net facts k.facts_of (held net facts k).strong in
    let x = shapes_exist net earlier (by_turn turn g) k.network known (turn_long g turn is ∙ v.long) in
    let same : s ≡ x.shape = shapes_are_one net (by_turn turn g) s x.shape sh x.is in
    record {
      choices = ap₂ (λ (a b : ℕ). a + b) (shape_count net earlier (by_turn turn g) s known sh) sh.shape.species;
      rows = ap₂ (λ (a b : ℕ). a + b) (ap (λ (xs : List (List ℤ)). length xs) sh.shape.complexes) (ap (λ (u : Shape). length u.pairs) same ∙ x.pairs);
    }

-- ---- a no

weak_is : (net : Net) (v : Verdict) → IsTrueOf net Q4 v → IsWeaklyReversible net.reactions → is_yes v ≡ true
weak_is net Yes h w = refl
weak_is net (NoReaction r) h w = absurd (h.3 ((weakly_reversible_by_reactions net.reactions).1 w h.0 h.1 (reaction_in net.reactions (r - 1) (h.0, h.1) h.2.1.0 h.2.1.1)))
weak_is net v h w = absurd h

pub none_shown : (net : Net) (facts : KeptFacts) → IsKnownFor net 13 facts → HasVector facts.earlier → OfVector facts.earlier (pos 1) (λ g. HasNoSignal net g) → (is_yes (on facts.earlier Q4) ≡ true → OfVector facts.earlier (negsuc 0) (λ g. HasNoSignal net g)) → IsTrueOf net Q13 No
none_shown net facts k some first second =
    let o = vector_given (on facts.earlier Q12) in
    let v = vector_known net facts k some in
    let weak = weak_true net facts k.facts_of (held net facts k).weak in (
      v.regular,
      v.line,
      none_at_all net (vector_or_none o) k.network v.regular v.line v.normal.confluence (vector_has o (λ g. HasNoSignal net g) first)
          (λ w. vector_has o (λ g. HasNoSignal net (negative g)) (second (weak_is net (on facts.earlier Q4) weak w))),
    )
