-- Answers to questions 11 and 12 give the vector and the sides to question 13.
use Rattle.crn_solve.proofs.Prelude.{◌≡◌, ◌∙◌, ap, subst, AllByRecursion, KeptInts, Net, IsNetwork, IsLabelled, Answer, Proof, Sides, Ties, Verdict, Yes, YesVec, Earlier, Q2, Q11, Q12, on, IsYes, IsNarrow, IsTrueOf, IsFormedOf, IsFormed, linkage, IsValid, tight, yes_tight, tested_sides, GiveSides, sides_formed}

-- a yes on regularity is there with the sides
regular_given : (net : Net) (earlier : Earlier) (v : Verdict) (p : Proof) (vector : KeptInts) → IsNetwork net → IsTrueOf net Q2 (on earlier Q2) → IsLabelled net (linkage earlier) → IsFormedOf net earlier Q11 v p → IsValid net earlier Q11 (record { verdict = v; proof = p })
    → IsYes v → AllByRecursion IsNarrow vector.list → GiveSides net (YesVec vector) p
regular_given net earlier Yes (Sides sides) vector n strong l f h y narrow = (tested_sides net earlier 1 sides n strong l (sides_formed net earlier sides f) h.1, narrow)
regular_given net earlier Yes p vector n strong l f h y narrow = absurd (let e = f.1.1 in cc)
regular_given net earlier (YesVec x) p vector n strong l f h y narrow = absurd f.0.head
regular_given net earlier v p vector n strong l f h y narrow = absurd y

-- ---- the vector

vector_narrow : (net : Net) (earlier : Earlier) (vector : KeptInts) (p : Proof) → IsFormedOf net earlier Q12 (YesVec vector) p → AllByRecursion IsNarrow vector.list
vector_narrow net earlier vector (Ties ties) f = f.0.rows.0.each
vector_narrow net earlier vector p f = absurd (let e = f.1.1 in cc)

both_given : (net : Net) (earlier later : Earlier) (regular : Answer) (v : Verdict) (p : Proof) → IsNetwork net → IsTrueOf net Q2 (on earlier Q2) → IsLabelled net (linkage earlier) → IsFormed net earlier Q11 regular → IsValid net earlier Q11 regular → on later Q11 ≡ tight regular.verdict
    → IsFormedOf net later Q12 v p → IsValid net later Q12 (record { verdict = v; proof = p }) → GiveSides net v regular.proof
both_given net earlier later regular (YesVec vector) p n strong l f h is f12 h12 =
    regular_given net earlier regular.verdict regular.proof vector n strong l f h (subst (λ (A : Type 0). A) (ap IsYes is ∙ yes_tight regular.verdict) h12.0) (vector_narrow net later vector p f12)
both_given net earlier later regular v p n strong l f h is f12 h12 = tt

-- formed and valid answers to questions 11 and 12 give both
pub gives_sides : (net : Net) (earlier later : Earlier) (regular confluence : Answer) → IsNetwork net → IsTrueOf net Q2 (on earlier Q2) → IsLabelled net (linkage earlier) → IsFormed net earlier Q11 regular → IsValid net earlier Q11 regular → on later Q11 ≡ tight regular.verdict
    → IsFormed net later Q12 confluence → IsValid net later Q12 confluence → GiveSides net confluence.verdict regular.proof
gives_sides net earlier later regular confluence n strong l f h is f12 h12 = both_given net earlier later regular confluence.verdict confluence.proof n strong l f h is f12 h12
