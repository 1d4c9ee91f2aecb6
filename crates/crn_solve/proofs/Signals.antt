-- The answer on signals is one of the crate of signals, rests on an open verdict, or says that there is no vector.
use Rattle.crn_solve.proofs.Prelude.{◌≡◌, ◌∙◌, ◌⊎◌, ℕ, inl, inr, List, [], ◌∷◌, refl, ap, sym, subst, arith, IsTrue, Bool, ℤ, Result, Ok, Err, IfOk, IsSome, IsSomeAnd, false≢true, KeptInts, Net, IsNetwork, IsWeaklyReversible, negative, HasNoSignal, Proof, Sides, Verdict, YesVec, Earlier, Q2, Q4, Q12, Q13, IsOpen, IsYes, on, vector_given, IsTrueOf, IsValid, IsTrueOrOpen, IsLicensedBudget, PassForSignals, IsAnswer, tight, valid_answers_are_true, open_tight, vector_tight, yes_tight, GiveVector, GiveSides, plain, Rests, NotApplicable, Unknown}
use Rattle.std.specs.Prelude.{◌↔◌}

-- an open verdict on confluence vectors leaves signals open
pub signal_rests : (net : Net) (budget : ℕ) (earlier : Earlier) (v : Verdict) → IsOpen v → on earlier Q12 ≡ tight v → IsAnswer net budget earlier Q13 (plain (Unknown (Rests 12)))
signal_rests net budget earlier v o is = record { formed = (record { head = ((omega arith, omega arith), tt); rows = tt; trees = tt }, (refl, refl)); valid = tt; answered = (refl, subst IsOpen (sym is) (subst (λ (A : Type 0). A) (sym (open_tight v)) o), tt) }

-- without a vector there is nothing to look for
no_signals : (net : Net) (weak v : Verdict) → IsNetwork net → IsTrueOf net Q4 weak → IsTrueOrOpen net Q12 v → (IsOpen v → ⊥) → (IsSome (vector_given v) → ⊥) → IsTrueOf net Q13 NotApplicable
no_signals net weak v n w h not_open no_vector =
    let own : Earlier = (Q4, weak) ∷ (Q12, v) ∷ [] in
    let valid : IsValid net own Q13 (plain NotApplicable) = ((no_vector, not_open), tt) in
    valid_answers_are_true Q13 net own (plain NotApplicable) n (w, tt) (h, tt) (record { head = tt; rows = tt; trees = tt }, (refl, refl)) valid

pub inapplicable_given : (net : Net) (budget : ℕ) (earlier : Earlier) (weak v : Verdict) → IsNetwork net → IsTrueOf net Q4 weak → IsTrueOrOpen net Q12 v → (IsOpen v → ⊥) → (IsSome (vector_given v) → ⊥) → on earlier Q12 ≡ tight v → IsAnswer net budget earlier Q13 (plain NotApplicable)
inapplicable_given net budget earlier weak v n w h not_open no_vector is =
    record { formed = (record { head = tt; rows = tt; trees = tt }, (refl, refl)); valid = ((λ s. no_vector (subst (λ x. IsSome x) (ap vector_given is ∙ vector_tight v) s), λ o. not_open (subst (λ (A : Type 0). A) (ap IsOpen is ∙ open_tight v) o)), tt); answered = no_signals net weak v n w h not_open no_vector }

-- a verdict that is no vector gives none
pub none_given : (v : Verdict) → ((vector : KeptInts) → v ≡ YesVec vector → ⊥) → IsSome (vector_given v) → ⊥
none_given (YesVec vector) other s = other vector refl
none_given v other s = absurd (false≢true s)

-- the sides are there if a vector is
pub sides_are_there : (net : Net) (vector : KeptInts) (p : Proof) → GiveSides net (YesVec vector) p → ((sides : List (List ℤ)) → p ≡ Sides sides → ⊥) → ⊥
sides_are_there net vector (Sides sides) given other = other sides refl
sides_are_there net vector p given other = absurd given

-- what earlier verdicts give to the question on signals
pub vector_is_given : (net : Net) (earlier : Earlier) (weak : Verdict) (vector : KeptInts) (is_weak : Bool) → IsTrueOf net Q2 (on earlier Q2) → on earlier Q4 ≡ tight weak → on earlier Q12 ≡ tight (YesVec vector) → (IsTrue is_weak ↔ IsYes weak) → GiveVector net earlier vector.list is_weak
vector_is_given net earlier weak vector is_weak strong four twelve same = record { strong_is = strong; vector_is = ap vector_given twelve; weak_is = subst (λ (A : Type 0). A ↔ IsTrue is_weak) (sym (yes_tight weak) ∙ ap IsYes (sym four)) (same.1, same.0) }

-- two facts of a value that is there
pub if_both : {T E : Type 0} (P Q R : T → Type 0) (r : Result T E) → ((x : T) → P x → Q x → R x) → IfOk r P → IfOk r Q → IfOk r R
if_both P Q R (Ok x) f h k = f x h k
if_both P Q R (Err e) f h k = tt

-- more visits than the budget are those for the vector, or those for its negative after the vector has no signal
spent_by : {net : Net} {budget : ℕ} {g : List ℤ} (weak : Bool) (Open : Type 0) → (IsTrue weak ↔ IsWeaklyReversible net.reactions) → (PassForSignals net g budget → Open)
    → (IsTrue weak → HasNoSignal net g → PassForSignals net (negative g) budget → Open)
    → PassForSignals net g budget ⊎ (IsWeaklyReversible net.reactions × HasNoSignal net g × PassForSignals net (negative g) budget) → Open
spent_by weak Open is one two (inl pass) = one pass
spent_by weak Open is one two (inr pass) = two (is.1 pass.0) pass.1 pass.2

pub spent_either : (net : Net) (budget : ℕ) (earlier : Earlier) (vector : KeptInts) (g : List ℤ) (weak : Bool) (Open : Type 0) → g ≡ vector.list → (IsTrue weak ↔ IsWeaklyReversible net.reactions) → on earlier Q12 ≡ YesVec vector
    → (PassForSignals net g budget → Open) → (IsTrue weak → HasNoSignal net g → PassForSignals net (negative g) budget → Open) → IsLicensedBudget net earlier Q13 budget → Open
spent_either net budget earlier vector g weak Open same is twelve one two pass =
    let Has : List ℤ → Type 0 = λ (l : List ℤ). PassForSignals net l budget ⊎ (IsWeaklyReversible net.reactions × HasNoSignal net l × PassForSignals net (negative l) budget) in
    spent_by {net = net} {budget = budget} {g = g} weak Open is one two (subst Has (sym same) (subst (λ (v : Verdict). IsSomeAnd (vector_given v) Has) twelve pass))
