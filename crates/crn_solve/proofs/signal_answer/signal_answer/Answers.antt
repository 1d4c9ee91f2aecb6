use Rattle.crn_solve.proofs.Prelude.{ListSignalVisits, Nothing, Net, ◌≡◌, ◌∙◌, List, ap, sym, subst, refl, ℤ, IsTrue, IfSome, Option, IsNormalVector, negative, HasNoSignal, Answer, Verdict, Earlier, IsOpen, Q2, Q4, Q12, Q13, on, vector_given, IsTrueOf, IsTrueOrOpen, IsAnswer, IsLicensedBudget, PassForSignals, tight, if_ok, GiveVector, IsForNegative}
use Rattle.std.specs.Prelude.{IsSomeAnd, None, Some}
use Rattle.crn_solve.proofs.Theorems.{weak_is}
use Rattle.crn_solve.proofs.Signals.{if_both, signal_rests, spent_either, vector_is_given}
use Rattle.crn_solve.proofs.signal_answer.signal_answer.Goals as goal

pub signal-requires-clause-regular : goal.signal-requires-clause-regular
signal-requires-clause-regular c = (subst (IsTrueOrOpen c.args.net.now Q12) c.in-YesVec-Sides.is-0 c.requires.confluence).0

pub signal-requires-clause-line : goal.signal-requires-clause-line
signal-requires-clause-line c = (subst (IsTrueOrOpen c.args.net.now Q12) c.in-YesVec-Sides.is-0 c.requires.confluence).1

pub signal-requires-clause-vector : goal.signal-requires-clause-vector
signal-requires-clause-vector c =
    subst (IsNormalVector c.args.net.now) (sym c.as_slice-g.ensures) (subst (IsTrueOrOpen c.args.net.now Q12) c.in-YesVec-Sides.is-0 c.requires.confluence).2

pub signal-requires-clause-weak : goal.signal-requires-clause-weak
signal-requires-clause-weak c = weak_is c.args.net.now c.args.weak.now c.is_yes.result c.requires.weak c.is_yes.ensures

pub returns-then-is_open-clause-answer : goal.returns-then-is_open-clause-answer
returns-then-is_open-clause-answer c earlier strong four twelve =
    subst (IsAnswer c.args.net.now c.args.budget earlier Q13) (sym c.rests_on.ensures) (signal_rests c.args.net.now c.args.budget earlier c.args.confluence.now (c.is_open.ensures.0 c.if-is_open.true) twelve)

pub returns-in-YesVec-Sides-clause-answer : goal.returns-in-YesVec-Sides-clause-answer
returns-in-YesVec-Sides-clause-answer c =
    let net = c.args.net.now in
    let v = c.args.confluence.now in
    let w = c.args.weak.now in
    let g = c.as_slice-g.result.now in
    let b = c.is_yes.result in
    if_ok (λ (answer : Answer). (earlier : Earlier) → GiveVector net earlier g b → IsAnswer net c.args.budget earlier Q13 answer)
    (λ (answer : Answer). (earlier : Earlier) → IsTrueOf net Q2 (on earlier Q2) → on earlier Q4 ≡ tight w → on earlier Q12 ≡ tight v → IsAnswer net c.args.budget earlier Q13 answer) c.signal.result
    (λ answer h earlier strong four twelve. h earlier (subst (λ (l : List ℤ). GiveVector net earlier l b) (sym c.as_slice-g.ensures) (vector_is_given net earlier w c.in-YesVec-Sides.vector b strong four (twelve ∙ ap tight c.in-YesVec-Sides.is-0) c.is_yes.ensures))) c.signal.ensures.answer

-- a proof without trees lists no visits
no_visits : (net : Net) (vector : Option (List ℤ)) (answer other : Answer) → answer ≡ other → other.proof ≡ Nothing → IfSome vector (λ g. ListSignalVisits net g answer.proof)
no_visits net None answer other e none = tt
no_visits net (Some g) answer other e none = subst (ListSignalVisits net g) (sym (ap (λ (a : Answer). a.proof) e ∙ none)) tt

pub returns-then-is_open-clause-visits : goal.returns-then-is_open-clause-visits
returns-then-is_open-clause-visits c = no_visits c.args.net.now (vector_given c.args.confluence.now) c.rests_on.result _ c.rests_on.ensures refl

pub returns-in_default-clause-visits : goal.returns-in_default-clause-visits
returns-in_default-clause-visits c = no_visits c.args.net.now (vector_given c.args.confluence.now) c.plain.result _ c.plain.ensures refl

pub returns-in-YesVec-Sides-clause-visits : goal.returns-in-YesVec-Sides-clause-visits
returns-in-YesVec-Sides-clause-visits c =
    let net = c.args.net.now in
    let v = c.args.confluence.now in
    let g = c.as_slice-g.result.now in
    if_ok (λ (answer : Answer). ListSignalVisits net g answer.proof)
    (λ (answer : Answer). IfSome (vector_given v) (λ h. ListSignalVisits net h answer.proof)) c.signal.result
    (λ answer h. subst (λ (w : Verdict). IfSome (vector_given w) (λ l. ListSignalVisits net l answer.proof)) (sym c.in-YesVec-Sides.is-0) (subst (λ (l : List ℤ). ListSignalVisits net l answer.proof) c.as_slice-g.ensures h)) c.signal.ensures.visits

pub returns-then-is_open-clause-spent : goal.returns-then-is_open-clause-spent
returns-then-is_open-clause-spent c = λ earlier twelve pass. subst (λ (a : Answer). IsOpen a.verdict) (sym c.rests_on.ensures) tt

pub returns-then-is_open-clause-first : goal.returns-then-is_open-clause-first
returns-then-is_open-clause-first c = λ yes. absurd (subst (λ (a : Answer). IsForNegative a.verdict) c.rests_on.ensures yes)

pub returns-in-YesVec-Sides-clause-spent : goal.returns-in-YesVec-Sides-clause-spent
returns-in-YesVec-Sides-clause-spent c =
    let net = c.args.net.now in
    let v = c.args.confluence.now in
    let g = c.as_slice-g.result.now in
    let weak = weak_is net c.args.weak.now c.is_yes.result c.requires.weak c.is_yes.ensures in
    if_both (λ (answer : Answer). PassForSignals net g c.args.budget → IsOpen answer.verdict)
    (λ (answer : Answer). IsTrue c.is_yes.result → HasNoSignal net g → PassForSignals net (negative g) c.args.budget → IsOpen answer.verdict)
    (λ (answer : Answer). (earlier : Earlier) → on earlier Q12 ≡ v → IsLicensedBudget net earlier Q13 c.args.budget → IsOpen answer.verdict) c.signal.result
    (λ answer one two earlier twelve. spent_either net c.args.budget earlier c.in-YesVec-Sides.vector g c.is_yes.result (IsOpen answer.verdict) c.as_slice-g.ensures weak (twelve ∙ c.in-YesVec-Sides.is-0) one two) c.signal.ensures.spent c.signal.ensures.second

pub returns-in-YesVec-Sides-clause-first : goal.returns-in-YesVec-Sides-clause-first
returns-in-YesVec-Sides-clause-first c =
    let net = c.args.net.now in
    let v = c.args.confluence.now in
    let g = c.as_slice-g.result.now in
    if_ok (λ (answer : Answer). IsForNegative answer.verdict → HasNoSignal net g)
    (λ (answer : Answer). IsForNegative answer.verdict → IsSomeAnd (vector_given v) (HasNoSignal net)) c.signal.result
    (λ answer h yes. subst (λ (w : Verdict). IsSomeAnd (vector_given w) (HasNoSignal net)) (sym c.in-YesVec-Sides.is-0) (subst (HasNoSignal net) c.as_slice-g.ensures (h yes))) c.signal.ensures.first
