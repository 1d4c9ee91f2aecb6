-- What is kept after a block: the sides of question 11, and with which verdicts.
use Rattle.crn_document.proofs.Prelude.{w32, to_z, of_z, ◌≡◌, ◌∙◌, ◌<◌, ◌≤◌, ◌==◌, ◌++◌, ℕ, Bool, false, List, [], ◌∷◌, refl, sym, ap, subst, inl, inr, arith, ℤ, AllByRecursion, IsSome, cases_eq, eq-eqb, ne_eqb, KeptInts, Net, Answer, Proof, Sides, Verdict, Yes, YesVec, Earlier, Question, Q11, Q12, IsYes, number, on, vector_given, HeadMayBe, IsFormed, IsFormedOf, IsFormedVerdict, IsTurn, AllHold, HasVector, confluence_head, head_tests, tests_of, AsksForTree, HoldsNeeds, HoldsNoSignal, IsBuilt, shown_by_tree, KeptFacts, asked, formed_on, sides_of_answer, AreSides, KeepSides, IsKnownFor, built, Q13, asked_number}
use Rattle.std.proofs.Common.{if◌then◌else◌}
use Rattle.crn_cert.specs.declared.answer.Verdict.TheVariants.{NotApplicable, YesSignal}

-- ---- the verdict on a question after one more

on_more : (es : Earlier) (q r : Question) (v : Verdict) → (number q == number r) ≡ false → on (es ++ (q, v) ∷ []) r ≡ on es r
on_more [] q r v differ = ap (λ (b : Bool). if b then v else NotApplicable) differ
on_more (e ∷ es) q r v differ = ap (λ (w : Verdict). if number e.0 == number r then e.1 else w) (on_more es q r v differ)

-- the verdicts are on questions of lesser numbers
abbrev AreBelow : ℕ → Earlier → Type 0
AreBelow n es = AllByRecursion (λ e. number e.0 < n) es

on_new : (es : Earlier) (q : Question) (v : Verdict) → AreBelow (number q) es → on (es ++ (q, v) ∷ []) q ≡ v
on_new [] q v below = ap (λ (b : Bool). if b then v else NotApplicable) (eq-eqb (number q) (number q) refl)
on_new (e ∷ es) q v below =
    let differ : (number e.0 == number q) ≡ false = ne_eqb (number e.0) (number q) (λ same. omega (arith, same, below.0)) in
    ap (λ (b : Bool). if b then e.1 else on (es ++ (q, v) ∷ []) q) differ ∙ on_new es q v below.1

on_none : (es : Earlier) (q : Question) → AreBelow (number q) es → on es q ≡ NotApplicable
on_none [] q below = refl
on_none (e ∷ es) q below =
    let differ : (number e.0 == number q) ≡ false = ne_eqb (number e.0) (number q) (λ same. omega (arith, same, below.0)) in
    ap (λ (b : Bool). if b then e.1 else on es q) differ ∙ on_none es q below.1

-- ---- the sides

sides_same : (net : Net) (n : ℕ) (es new : Earlier) (v : Verdict) (old sides : List (List ℤ)) → KeepSides net es old → IsBuilt n → new ≡ es ++ (asked n, v) ∷ [] → (n ≡ 11 → ⊥) → sides ≡ old → (n ≡ 12 → IsSome (vector_given v) → on es Q11 ≡ Yes) → AreBelow n es → KeepSides net new sides
sides_same net n es new v old sides keep built is differ same vector below =
    let k = asked_number n built in
    let first : on new Q11 ≡ on es Q11 = ap (λ (x : Earlier). on x Q11) is ∙ on_more es (asked n) Q11 v (ne_eqb (number (asked n)) 11 (λ e. differ (sym k ∙ e))) in
    record {
      are_sides = λ y. subst (λ (x : List (List ℤ)). AreSides net x) (sym same) (let s = keep.are_sides in s (sym first ∙ y));
      with_vector = λ has. first ∙ (elim (cases_eq n 12) [
        | inl twelve ↦
            let here : on new Q12 ≡ v = subst (λ (m : ℕ). new ≡ es ++ (asked m, v) ∷ [] → AreBelow m es → on new Q12 ≡ v) (sym twelve) (λ e b. ap (λ (x : Earlier). on x Q12) e ∙ on_new es Q12 v b) is below in
            vector twelve (subst (λ (w : Verdict). IsSome (vector_given w)) here has)
        | inr other ↦
            let last : on new Q12 ≡ on es Q12 = ap (λ (x : Earlier). on x Q12) is ∙ on_more es (asked n) Q12 v (ne_eqb (number (asked n)) 12 (λ e. other (sym k ∙ e))) in
            let w = keep.with_vector in w (subst (λ (w : Verdict). IsSome (vector_given w)) last has)
      ]);
    }

sides_new : (net : Net) (n : ℕ) (es new : Earlier) (v : Verdict) (old sides : List (List ℤ)) → KeepSides net es old → IsBuilt n → new ≡ es ++ (asked n, v) ∷ [] → n ≡ 11 → (v ≡ Yes → AreSides net sides) → AreBelow n es → KeepSides net new sides
sides_new net n es new v old sides keep built is eleven shown below =
    let below11 : AreBelow 11 es = subst (λ (m : ℕ). AreBelow m es) eleven below in
    let is11 : new ≡ es ++ (Q11, v) ∷ [] = subst (λ (m : ℕ). new ≡ es ++ (asked m, v) ∷ []) eleven is in
    let first : on new Q11 ≡ v = ap (λ (x : Earlier). on x Q11) is11 ∙ on_new es Q11 v below11 in
    let last : on new Q12 ≡ on es Q12 = ap (λ (x : Earlier). on x Q12) is11 ∙ on_more es Q11 Q12 v refl in
    record {
      are_sides = λ y. shown (sym first ∙ y);
      with_vector = λ has.
          let w = keep.with_vector in
          let here : on es Q11 ≡ Yes = w (subst (λ (w : Verdict). IsSome (vector_given w)) last has) in
          let no : NotApplicable ≡ Yes = sym (on_none es Q11 below11) ∙ here in
          absurd cc;
    }

-- what is kept of the sides after a verdict
pub sides_after : (net : Net) (n : ℕ) (facts : KeptFacts) (new : Earlier) (v : Verdict) (old sides : List (List ℤ)) → KeepSides net facts.earlier old → IsBuilt n → IsKnownFor net n facts → new ≡ facts.earlier ++ (asked n, v) ∷ [] → (n ≡ 11 → v ≡ Yes → AreSides net sides) → ((n ≡ 11 → ⊥) → sides ≡ old) → (n ≡ 12 → IsSome (vector_given v) → on facts.earlier Q11 ≡ Yes) → KeepSides net new sides
sides_after net n facts new v old sides keep built known is shown same vector =
    let below : AreBelow n facts.earlier = known.none in
    elim (cases_eq n 11) [
      | inl eleven ↦ sides_new net n facts.earlier new v old sides keep built is eleven (shown eleven) below
      | inr other ↦ sides_same net n facts.earlier new v old sides keep built is other (same other) vector below
    ]

below_more : (n m : ℕ) (es : Earlier) → n ≤ m → AreBelow n es → AreBelow m es
below_more n m [] le b = tt
below_more n m (e ∷ es) le b = (omega (arith, b.0, le), below_more n m es le b.1)

-- there are no sides before question 11
pub none_kept : (net : Net) (n : ℕ) (es : Earlier) → AreBelow n es → n ≤ 11 → KeepSides net es []
none_kept net n es below le = record {
  are_sides = λ yes. let no : NotApplicable ≡ Yes = sym (on_none es Q11 (below_more n 11 es le below)) ∙ yes in absurd cc;
  with_vector = λ has. let none : IsSome (vector_given NotApplicable) = subst (λ (w : Verdict). IsSome (vector_given w)) (on_none es Q12 (below_more n 12 es (omega (arith, le)) below)) has in absurd cc;
}

-- ---- where the vector is

yes_regular : (net : Net) (e : Earlier) (v : Verdict) → IsFormedVerdict net e Q11 v → IsYes v → v ≡ Yes
yes_regular net e Yes f y = refl
yes_regular net e (YesVec vector) f y = absurd f.0
yes_regular net e v f y = absurd y

vector_head : (earlier : Earlier) (v : Verdict) → IsSome (vector_given v) → AllHold (confluence_head earlier v) → IsYes (on earlier Q11)
vector_head earlier (YesVec vector) some h = h.0
vector_head earlier v some h = absurd cc

-- question 12 gives a vector after a yes to question 11 alone
pub vector_after : (net : Net) (n : ℕ) (facts : KeptFacts) (v : Verdict) → IsBuilt n → IsKnownFor net n facts → n ≡ 12 → AllHold (head_tests net facts.earlier (asked n) v) → IsSome (vector_given v) → on facts.earlier Q11 ≡ Yes
vector_after net n facts v built known twelve holds some =
    let needs = known.needs in
    let f = subst (λ (m : ℕ). HoldsNeeds facts.earlier m) twelve needs in
    let formed = formed_on net [] facts.earlier Q11 known.facts_of.formed f.1.1.1.0 in
    yes_regular net formed.0 (on facts.earlier Q11) formed.1 (vector_head facts.earlier v some (subst (λ (m : ℕ). AllHold (head_tests net facts.earlier (asked m) v)) twelve holds))

-- ---- the sides of an accepted answer

formed_sides : (net : Net) (e : Earlier) (p : Proof) → IsFormedOf net e Q11 Yes p → (sides : List (List ℤ)) × (p ≡ Sides sides)
formed_sides net e (Sides sides) f = (sides, refl)
formed_sides net e p f = absurd (let e = f.1.1 in cc)

pub sides_shown : (net : Net) (n : ℕ) (facts : KeptFacts) (a : Answer) (kept : List (List ℤ)) → IsBuilt n → IsKnownFor net n facts → n ≡ 11 → IsFormed net facts.earlier (asked n) a → AllHold (tests_of net facts.earlier (asked n) a) → ((sides : List (List ℤ)) → a.proof ≡ Sides sides → kept ≡ sides) → a.verdict ≡ Yes → AreSides net kept
sides_shown net n facts a kept built known eleven formed holds same said =
    let needs = subst (λ (m : ℕ). HoldsNeeds facts.earlier m) eleven known.needs in
    let f : IsFormed net facts.earlier Q11 a = subst (λ (m : ℕ). IsFormed net facts.earlier (asked m) a) eleven formed in
    let t : AllHold (tests_of net facts.earlier Q11 a) = subst (λ (m : ℕ). AllHold (tests_of net facts.earlier (asked m) a)) eleven holds in
    let s = formed_sides net facts.earlier a.proof (subst (λ (v : Verdict). IsFormedOf net facts.earlier Q11 v a.proof) said f) in
    subst (λ (x : List (List ℤ)). AreSides net x) (sym (same s.0 s.1)) (sides_of_answer net facts a s.0 known.network known.facts_of needs f t said s.1)

-- ---- a verdict that trees show

shown_eleven : (n : ℕ) → AsksForTree n → n ≡ 11 → ⊥
shown_eleven n (inl e) d = omega (arith, d, e)
shown_eleven n (inr (inl e)) d = omega (arith, d, e)
shown_eleven n (inr (inr e)) d = omega (arith, d, e)

shown_twelve : (n : ℕ) → AsksForTree n → n ≡ 12 → ⊥
shown_twelve n (inl e) d = omega (arith, d, e)
shown_twelve n (inr (inl e)) d = omega (arith, d, e)
shown_twelve n (inr (inr e)) d = omega (arith, d, e)

pub sides_after_trees : (net : Net) (n : ℕ) (facts : KeptFacts) (new : Earlier) (sides : List (List ℤ)) → KeepSides net facts.earlier sides → IsBuilt n → IsKnownFor net n facts → AsksForTree n → new ≡ facts.earlier ++ (asked n, shown_by_tree (asked n)) ∷ [] → KeepSides net new sides
sides_after_trees net n facts new sides keep built known tree is =
    sides_after net n facts new (shown_by_tree (asked n)) sides sides keep built known is (λ e. absurd (shown_eleven n tree e)) (λ other. refl) (λ e. absurd (shown_twelve n tree e))

-- ---- a signal

only_thirteen : (net : Net) (e : Earlier) (turn : ℤ) (shelves mu : KeptInts) (level : ℤ) (weights : KeptInts) (q : Question) → HeadMayBe net e q (YesSignal turn shelves mu level weights) → number q ≡ 13
only_thirteen net e turn shelves mu level weights Q13 h = refl
only_thirteen net e turn shelves mu level weights q h = absurd h

pub signal_only : (net : Net) (e : Earlier) (turn : ℤ) (shelves mu : KeptInts) (level : ℤ) (weights : KeptInts) (n : ℕ) → IsBuilt n → HeadMayBe net e (asked n) (YesSignal turn shelves mu level weights) → n ≡ 13
signal_only net e turn shelves mu level weights n built h = sym (asked_number n built) ∙ only_thirteen net e turn shelves mu level weights (asked n) h

-- what is known of an answer that is a signal
pub record SignalKnown (earlier : Earlier) (n : ℕ) (turn : ℤ) : Type 0 where
  pub question : n ≡ 13
  pub turn_is : IsTurn turn
  pub vector : HasVector earlier

pub signal_known : (net : Net) (e : Earlier) (n : ℕ) (a : Answer) (turn : ℤ) (shelves mu : KeptInts) (level : ℤ) (weights : KeptInts) → IsBuilt n → a.verdict ≡ YesSignal turn shelves mu level weights → IsFormed net e (asked n) a → AllHold (head_tests net e (asked n) a.verdict) → SignalKnown e n turn
signal_known net e n a turn shelves mu level weights built is formed heads =
    let v : Verdict = YesSignal turn shelves mu level weights in
    let may : HeadMayBe net e (asked n) v = subst (λ (w : Verdict). HeadMayBe net e (asked n) w) is formed.0.head in
    let tests : AllHold (head_tests net e (asked n) v) = subst (λ (w : Verdict). AllHold (head_tests net e (asked n) w)) is heads in
    let q = signal_only net e turn shelves mu level weights n built may in record {
      question = q;
      turn_is = (subst (λ (m : ℕ). HeadMayBe net e (asked m) v) q may).0;
      vector = (subst (λ (m : ℕ). AllHold (head_tests net e (asked m) v)) q tests).0.0;
    }

-- an answer to question 13 that is no signal
pub no_signal_held : (net : Net) (v : Verdict) → ((turn : ℤ) (shelves mu : KeptInts) (level : ℤ) (weights : KeptInts) → v ≡ YesSignal turn shelves mu level weights → ⊥) → HoldsNoSignal v
no_signal_held net (YesSignal turn shelves mu level weights) other = absurd (other turn shelves mu level weights refl)
no_signal_held net v other = tt

-- a turn as a number of 32 bits
pub turn_held : (turn : ℤ) → IsTurn turn → to_z w32 (of_z w32 turn) ≡ turn
turn_held turn (inl e) = subst (λ (z : ℤ). to_z w32 (of_z w32 z) ≡ z) (sym e) refl
turn_held turn (inr e) = subst (λ (z : ℤ). to_z w32 (of_z w32 z) ≡ z) (sym e) refl
