-- The answer on confluence vectors is one of the crate of regularity, rests on an open verdict, or says that the network is not regular.
use Rattle.crn_solve.proofs.Prelude.{◌≡◌, ℕ, [], ◌∷◌, refl, sym, subst, arith, Net, IsNetwork, IsRegular, Verdict, Classes, Strong, Yes, YesVec, NoTerminal, NoDependence, NoCycle, Unknown, Earlier, Q1, Q2, Q4, Q11, Q12, IsNo, IsOpen, IsYes, on, tight, AreLinkageClasses, AreStrongClasses, IsTrueOf, IsValid, IsTrueOrOpen, IsAnswer, valid_answers_are_true, no_tight, open_tight, LinkageData, StrongData, plain, Rests, NotRegular}

-- a true yes says that the network is regular
pub regular_yes : (net : Net) (v : Verdict) → IsTrueOrOpen net Q11 v → IsYes v → IsRegular net
regular_yes net Yes h y = h
regular_yes net (YesVec x) h y = absurd h
regular_yes net v h y = absurd y

-- a verdict that is neither a yes nor open is a no
regular_no : (net : Net) (v : Verdict) → IsTrueOrOpen net Q11 v → (IsYes v → ⊥) → (IsOpen v → ⊥) → IsNo v
regular_no net Yes h not_yes not_open = absurd (not_yes tt)
regular_no net (Unknown gap) h not_yes not_open = absurd (not_open tt)
regular_no net (NoTerminal k count) h not_yes not_open = tt
regular_no net NoDependence h not_yes not_open = tt
regular_no net (NoCycle r walk) h not_yes not_open = tt
regular_no net v h not_yes not_open = absurd h

-- a true no says that it is not
irregular : (net : Net) (linkage : LinkageData) (strong : StrongData) (weak v : Verdict) → IsNetwork net → AreLinkageClasses net linkage.count linkage.label.list → AreStrongClasses net strong.count strong.terminal strong.label.list strong.exit.list
    → IsTrueOf net Q4 weak → IsTrueOrOpen net Q11 v → IsNo v → IsRegular net → ⊥
irregular net linkage strong weak v n l s w h says_no =
    let own : Earlier = (Q1, Classes linkage.count linkage.label) ∷ (Q2, Strong strong.count strong.terminal strong.label strong.exit) ∷ (Q4, weak) ∷ (Q11, v) ∷ [] in
    let valid : IsValid net own Q12 (plain NotRegular) = (says_no, tt) in
    valid_answers_are_true Q12 net own (plain NotRegular) n (l, (s, (w, tt))) (h, tt) (record { head = tt; rows = tt; trees = tt }, (refl, refl)) valid

-- a network that is not regular has no confluence vector
pub irregular_given : (net : Net) (budget : ℕ) (earlier : Earlier) (linkage : LinkageData) (strong : StrongData) (weak v : Verdict) → IsNetwork net → AreLinkageClasses net linkage.count linkage.label.list
    → AreStrongClasses net strong.count strong.terminal strong.label.list strong.exit.list → IsTrueOf net Q4 weak → IsTrueOrOpen net Q11 v → (IsYes v → ⊥) → (IsOpen v → ⊥) → on earlier Q11 ≡ tight v → IsAnswer net budget earlier Q12 (plain NotRegular)
irregular_given net budget earlier linkage strong weak v n l s w h not_yes not_open is =
    let says_no = regular_no net v h not_yes not_open in
    record { formed = (record { head = tt; rows = tt; trees = tt }, (refl, refl)); valid = (subst IsNo (sym is) (subst (λ (A : Type 0). A) (sym (no_tight v)) says_no), tt); answered = irregular net linkage strong weak v n l s w h says_no }

-- an open verdict on regularity leaves the confluence vector open
pub confluence_rests : (net : Net) (budget : ℕ) (earlier : Earlier) (v : Verdict) → IsOpen v → on earlier Q11 ≡ tight v → IsAnswer net budget earlier Q12 (plain (Unknown (Rests 11)))
confluence_rests net budget earlier v o is = record { formed = (record { head = ((omega arith, omega arith), tt); rows = tt; trees = tt }, (refl, refl)); valid = tt; answered = (refl, subst IsOpen (sym is) (subst (λ (A : Type 0). A) (sym (open_tight v)) o), tt) }
