-- Proofs and verdicts of the part `robust`.
use Rattle.crn_run.proofs.Prelude.{◌≡◌, ◌⊎◌, ◌≤◌, ◌<◌, ◌+◌, ◌-◌, ◌++◌, ℕ, List, [], ◌∷◌, length, inl, inr, subst, sym, ◌∙◌, arith, decimal, slice_get, slice_index_or, same_Some, length-decimal-le_wide, length-append, Net, IsNetwork, IsName, all_at, MAX_DOCUMENT, Earlier, Q5, on, IsPartRead, CasesDecideRobustness, IsTrueOf, IsPicked, IsCase, Number, Rests, AreInside, IsFormed, IsValid, ValidAreTrue, ValidLinesAreTrue, blocks_of, rests_on, said_of, blocks_learned, course_settled, robust_is_answered, AreFormed, AreValid, IsTrueOrLicensed, Q1, Q2, tight, Answer, Verdict, is_true_tight, documents_are_judged, AreRankAnswers, AreTrueOnRobustness, IsLicensedOnRobustness, robust_verdict, IsTrueOrOpen, open_tight, verdicts_on, blocks_true}
use Rattle.std.specs.Prelude.{Some, codes}
use Rattle.crn_robust.specs.declared.robust.Robust.{Robust}
use Rattle.crn_robust.specs.declared.robust.Robust.TheVariants.{Yes, None}
use Rattle.crn_robust_text.specs.Document.{Said, meant, part}
use Rattle.crn_cert.specs.Says as verdicts
use Rattle.crn_cert.specs.declared.answer.Verdict.TheVariants as verdict
use Rattle.crn_cert.specs.declared.answer.Gap.TheVariants as gap

-- ---- what is read

-- the verdict that is read of a document names what its network has
pub inside_read : (text : List ℕ) (net : Net) (read : Robust) (seen : Net) (answer : Robust) → (seen ≡ net) × (answer ≡ read) → IsPartRead part text net read → AreInside seen answer
inside_read text net read seen answer says is =
    let judged = documents_are_judged part meant robust_is_answered course_settled in
    let (said, document, same) = judged.read text net read is in
    let formed = document.formed in
    subst (λ (n : Net). AreInside n answer) (sym says.0) (subst (AreInside net) (sym (says.1 ∙ same)) formed.1)

-- ---- answers on the linkage classes, the strong classes and the rank

pub blocks_formed : (net : Net) (budget : ℕ) (answers : List Answer) → AreRankAnswers net budget answers → AreFormed net [] rests_on (blocks_of answers)
blocks_formed net budget [] h = absurd h
blocks_formed net budget (a ∷ []) h = absurd h
blocks_formed net budget (a ∷ b ∷ []) h = absurd h
blocks_formed net budget (a ∷ b ∷ c ∷ []) h = absurd h
blocks_formed net budget (a ∷ b ∷ c ∷ d ∷ []) h = absurd h
blocks_formed net budget (a ∷ b ∷ c ∷ d ∷ e ∷ more) (linkage, strong, rank, third, fourth, none) = (linkage.formed, (strong.formed, (rank.formed, tt)))

pub blocks_valid : (net : Net) (budget : ℕ) (answers : List Answer) → AreRankAnswers net budget answers → AreValid net [] rests_on (blocks_of answers)
blocks_valid net budget [] h = absurd h
blocks_valid net budget (a ∷ []) h = absurd h
blocks_valid net budget (a ∷ b ∷ []) h = absurd h
blocks_valid net budget (a ∷ b ∷ c ∷ []) h = absurd h
blocks_valid net budget (a ∷ b ∷ c ∷ d ∷ []) h = absurd h
blocks_valid net budget (a ∷ b ∷ c ∷ d ∷ e ∷ more) (linkage, strong, rank, third, fourth, none) = (linkage.valid, (strong.valid, (rank.valid, tt)))

-- what licenses an open rank is not about other questions
licensed_alone : (net : Net) (budget : ℕ) (earlier : Earlier) (v : Verdict) → IsTrueOrLicensed net budget earlier Q5 v → IsTrueOrLicensed net budget [] Q5 (tight v)
licensed_alone net budget earlier (verdict.Unknown (gap.Wide system class index basis)) h = h
licensed_alone net budget earlier (verdict.Unknown (gap.Budget nodes)) h = absurd h.1
licensed_alone net budget earlier (verdict.Unknown (gap.Rests question)) h = absurd h.0
licensed_alone net budget earlier v h = is_true_tight net Q5 v h

-- the verdict on the rank that the blocks say is true, or open for its cause
pub rank_licensed : (net : Net) (budget : ℕ) (answers : List Answer) (robust : Robust) → IsNetwork net → AreRankAnswers net budget answers → IsLicensedOnRobustness net budget (said_of net (blocks_of answers) robust)
rank_licensed net budget [] robust n h = absurd h
rank_licensed net budget (a ∷ []) robust n h = absurd h
rank_licensed net budget (a ∷ b ∷ []) robust n h = absurd h
rank_licensed net budget (a ∷ b ∷ c ∷ []) robust n h = absurd h
rank_licensed net budget (a ∷ b ∷ c ∷ d ∷ []) robust n h = absurd h
rank_licensed net budget (a ∷ b ∷ c ∷ d ∷ e ∷ more) robust n (linkage, strong, rank, third, fourth, none) =
    let learned_is = blocks_learned net (a ∷ b ∷ e ∷ []) (linkage.formed, (strong.formed, (rank.formed, tt))) in
    subst (λ (earlier : Earlier). IsTrueOrLicensed net budget [] Q5 (on earlier Q5)) (sym learned_is)
    (licensed_alone net budget ((Q1, tight a.verdict) ∷ (Q2, tight b.verdict) ∷ []) e.verdict rank.answered)

-- ---- the case by these answers

-- the three answers are there
pub hold_five : (net : Net) (answers : List Answer) → AreFormed net [] rests_on (blocks_of answers) → 5 ≤ length answers
hold_five net [] h = absurd h
hold_five net (a ∷ []) h = absurd h
hold_five net (a ∷ b ∷ []) h = absurd h
hold_five net (a ∷ b ∷ c ∷ []) h = absurd h
hold_five net (a ∷ b ∷ c ∷ d ∷ []) h = absurd h
hold_five net (a ∷ b ∷ c ∷ d ∷ e ∷ more) h = omega arith

-- they are these, if these are at their places
pub blocks_are : (answers : List Answer) (linkage strong rank : Answer) → 5 ≤ length answers → slice_get answers 0 ≡ Some linkage → slice_get answers 1 ≡ Some strong → slice_get answers 4 ≡ Some rank → blocks_of answers ≡ linkage ∷ strong ∷ rank ∷ []
blocks_are [] linkage strong rank five first second fifth = absurd (omega (arith, five))
blocks_are (a ∷ []) linkage strong rank five first second fifth = absurd (omega (arith, five))
blocks_are (a ∷ b ∷ []) linkage strong rank five first second fifth = absurd (omega (arith, five))
blocks_are (a ∷ b ∷ c ∷ []) linkage strong rank five first second fifth = absurd (omega (arith, five))
blocks_are (a ∷ b ∷ c ∷ d ∷ []) linkage strong rank five first second fifth = absurd (omega (arith, five))
blocks_are (a ∷ b ∷ c ∷ d ∷ e ∷ more) linkage strong rank five first second fifth =
    let p = same_Some a linkage first in
    let q = same_Some b strong second in
    let r = same_Some e rank fifth in
    cc

-- and then these are formed and valid
pub three_formed : (net : Net) (answers : List Answer) (linkage strong rank : Answer) → AreFormed net [] rests_on (blocks_of answers) → slice_get answers 0 ≡ Some linkage → slice_get answers 1 ≡ Some strong → slice_get answers 4 ≡ Some rank → AreFormed net [] rests_on (linkage ∷ strong ∷ rank ∷ [])
three_formed net answers linkage strong rank f first second fifth = subst (AreFormed net [] rests_on) (blocks_are answers linkage strong rank (hold_five net answers f) first second fifth) f

pub three_valid : (net : Net) (answers : List Answer) (linkage strong rank : Answer) → AreFormed net [] rests_on (blocks_of answers) → AreValid net [] rests_on (blocks_of answers) → slice_get answers 0 ≡ Some linkage → slice_get answers 1 ≡ Some strong → slice_get answers 4 ≡ Some rank → AreValid net [] rests_on (linkage ∷ strong ∷ rank ∷ [])
three_valid net answers linkage strong rank f v first second fifth = subst (AreValid net [] rests_on) (blocks_are answers linkage strong rank (hold_five net answers f) first second fifth) v

-- and true, but for an open rank
pub three_true : (net : Net) (answers : List Answer) (linkage strong rank : Answer) → IsNetwork net → AreFormed net [] rests_on (blocks_of answers) → AreValid net [] rests_on (blocks_of answers) → slice_get answers 0 ≡ Some linkage → slice_get answers 1 ≡ Some strong → slice_get answers 4 ≡ Some rank → verdicts.IsTrueOf net Q1 linkage.verdict × verdicts.IsTrueOf net Q2 strong.verdict × IsTrueOrOpen net Q5 rank.verdict
three_true net answers linkage strong rank n f v first second fifth =
    blocks_true net linkage strong rank n (three_formed net answers linkage strong rank f first second fifth) (three_valid net answers linkage strong rank f v first second fifth)

-- spares of the base change nothing
picked_tight : (net : Net) (v : Verdict) (robust : Robust) → IsPicked net v robust → IsPicked net (tight v) robust
picked_tight net v robust (inl p) = inl (subst (λ (A : Type 0). A) (sym (open_tight v)) p.0, p.1)
picked_tight net v robust (inr p) = inr ((λ o. p.0 (subst (λ (A : Type 0). A) (open_tight v) o)), p.1)

-- the case by the rank is that by the verdicts of the blocks
pub picked_by_blocks : (net : Net) (answers : List Answer) (linkage strong rank : Answer) (robust : Robust) → AreFormed net [] rests_on (blocks_of answers) → slice_get answers 0 ≡ Some linkage → slice_get answers 1 ≡ Some strong → slice_get answers 4 ≡ Some rank → IsPicked net rank.verdict robust → IsPicked net (on (verdicts_on rests_on (blocks_of answers)) Q5) robust
picked_by_blocks net answers linkage strong rank robust f first second fifth picked =
    subst (λ (three : List Answer). IsPicked net (on (verdicts_on rests_on three) Q5) robust) (sym (blocks_are answers linkage strong rank (hold_five net answers f) first second fifth)) (picked_tight net rank.verdict robust picked)

-- ---- truth

case_true : (net : Net) (robust : Robust) → CasesDecideRobustness → (robust ≡ Rests) ⊎ IsCase net robust → IsTrueOf net robust
case_true net robust decide (inl open_is) = subst (IsTrueOf net) (sym open_is) tt
case_true net robust decide (inr case) = decide net robust case

-- what a valid answer says is true
pub robustness_true : (net : Net) (said : Said) → CasesDecideRobustness → ValidAreTrue → ValidLinesAreTrue → IsNetwork net → IsValid net said → AreTrueOnRobustness net said
robustness_true net said decide cases lines network valid = (case_true net said.robust decide (cases net said network valid), lines net said network valid)

-- ---- verdicts

name_most : (name : List ℕ) → IsName name → length name < 1000
name_most name is = omega (arith, is.1)

-- the verdict of a formed answer is short
pub robustness_short : (net : Net) (said : Said) → IsNetwork net → IsFormed net said → length (robust_verdict net said.robust) < MAX_DOCUMENT
robustness_short net said n formed = by said.robust formed.1
  where
    by : (robust : Robust) → AreInside net robust → length (robust_verdict net robust) < MAX_DOCUMENT
    by (Yes species first second) h =
        let limits = n.partial in
        let name = slice_index_or net.names (species - 1) [] in
        let is = all_at IsName net.names (species - 1) [] limits.names_spelled (omega (arith, h.0)) in
        omega (
          arith,
          name_most name is,
          length-append (codes "robust: hypotheses hold, species ") name,
          length-append (codes "robust: hypotheses hold, species " ++ name) (codes "\nconfluence space: a line\n"),
        )
    by (Number d) h =
        let limits = n.partial in
        let few = limits.complexes_limit in
        omega (
          arith,
          length-decimal-le_wide 30 d (omega arith) (omega (arith, few, h)) (omega (arith, few, h)),
          length-append (codes "robust: hypotheses fail, deficiency ") (decimal d),
          length-append (codes "robust: hypotheses fail, deficiency " ++ decimal d) (codes "\nconfluence space: no line\n"),
        )
    by None h = omega arith
    by Rests h = omega arith
