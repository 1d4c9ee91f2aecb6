-- Which verdicts each question admits, whatever their proofs.
-- Source: this project's own.
-- Shapes: `earlier` holds the verdicts on earlier questions, each with its question. Numbers in
-- verdicts count from 1.
use Rattle.std.specs.Prelude.{◌≡◌, ℕ, List, [], ◌∷◌, ◌++◌, length}
use Rattle.std.specs.List.{range_with_len}
use Rattle.crn_vec.specs.Lists.{IsIn, IsAscending}
use Rattle.crn_vec.specs.Network.{Net}
use Rattle.crn_cert.specs.declared.answer.Verdict.{Verdict}
use Rattle.crn_cert.specs.declared.answer.Verdict.TheVariants.{Classes, Strong, Rank, YesVec, YesSignal, NoVec, NoCycle, NoPair, Plane}
use Rattle.crn_cert.specs.Questions.{Earlier, Question, Q1, Q2, Q3, Q4, Q5, Q6, Q7, Q8, Q9, Q10, Q11, Q12, Q13, Q14, Q15}
use Rattle.crn_cert.specs.Verdicts.{tight}
use Rattle.crn_cert.specs.declared.answer.Proof.{Proof}
use Rattle.crn_cert.specs.Ranges.{AreFrom, AreFree}
use Rattle.crn_cert.specs.Data.{IsWalkOf}
use Rattle.crn_cert.specs.Parts.{AreSignalRows}
use Rattle.crn_cert.specs.Formed.{HeadMayBe, IsFormedOf}

-- linkage classes: a label for each complex
abbrev pub ListsLinkage : Net → Verdict → Type 0
ListsLinkage net (Classes count label) = AreFrom (length net.complexes) 1 count label.list
ListsLinkage net verdict = Unit {0}

-- strong classes: a label for each complex and an exit for each class
abbrev pub ListsStrong : Net → Verdict → Type 0
ListsStrong net (Strong count terminal label exit) = AreFrom (length net.complexes) 1 count label.list
    × AreFrom count 0 (length net.reactions) exit.list
ListsStrong net verdict = Unit {0}

-- an ascending base of `rank` reactions
pub record IsBaseList (net : Net) (rank : ℕ) (base : List ℕ) : Type 0 where
  pub long : length base ≡ rank
  pub ascending : IsAscending base
  pub from : (r : ℕ) → IsIn r base → IsIn r (range_with_len 1 (length net.reactions))

-- rank: its base
abbrev pub ListsRank : Net → Verdict → Type 0
ListsRank net (Rank rank base) = IsBaseList net rank base.list
ListsRank net verdict = Unit {0}

-- positive dependence and conservation: `width` numbers in a yes, `height` in a no
abbrev pub ListsPositive : ℕ → ℕ → Verdict → Type 0
ListsPositive width height (YesVec vector) = AreFree width vector.list
ListsPositive width height (NoVec multipliers) = AreFree height multipliers.list
ListsPositive width height verdict = Unit {0}

-- regularity: the walk of a cycle
abbrev pub ListsRegular : Net → Verdict → Type 0
ListsRegular net (NoCycle reaction walk) = IsWalkOf (length net.complexes) walk.list
ListsRegular net verdict = Unit {0}

-- confluence vector: a number for each complex
abbrev pub ListsConfluence : Net → Verdict → Type 0
ListsConfluence net (YesVec vector) = AreFree (length net.complexes) vector.list
ListsConfluence net (Plane first second one two) = AreFree (length net.complexes) one.list
    × AreFree (length net.complexes) two.list
ListsConfluence net verdict = Unit {0}

-- signal: its lists
abbrev pub ListsSignal : Net → Earlier → Verdict → Type 0
ListsSignal net earlier (YesSignal turn shelves mu level weights) =
    AreSignalRows net earlier shelves.list mu.list level weights.list
ListsSignal net earlier verdict = Unit {0}

-- concordance: two lists of a number for each reaction
abbrev pub ListsConcordant : Net → Verdict → Type 0
ListsConcordant net (NoPair alpha weights) = AreFree (length net.reactions) alpha.list
    × AreFree (length net.reactions) weights.list
ListsConcordant net verdict = Unit {0}

-- the lists of a verdict have their lengths and ranges
abbrev pub ListsMayBe : Net → Earlier → Question → Verdict → Type 0
ListsMayBe net earlier Q1 verdict = ListsLinkage net verdict
ListsMayBe net earlier Q2 verdict = ListsStrong net verdict
ListsMayBe net earlier Q3 verdict = Unit {0}
ListsMayBe net earlier Q4 verdict = Unit {0}
ListsMayBe net earlier Q5 verdict = ListsRank net verdict
ListsMayBe net earlier Q6 verdict = Unit {0}
ListsMayBe net earlier Q7 verdict = ListsPositive (length net.reactions) (length net.names) verdict
ListsMayBe net earlier Q8 verdict = ListsPositive (length net.names) (length net.reactions) verdict
ListsMayBe net earlier Q9 verdict = Unit {0}
ListsMayBe net earlier Q10 verdict = Unit {0}
ListsMayBe net earlier Q11 verdict = ListsRegular net verdict
ListsMayBe net earlier Q12 verdict = ListsConfluence net verdict
ListsMayBe net earlier Q13 verdict = ListsSignal net earlier verdict
ListsMayBe net earlier Q14 verdict = ListsConcordant net verdict
ListsMayBe net earlier Q15 verdict = ListsConcordant net verdict

-- a verdict has a form that its question admits
abbrev pub IsFormedVerdict : Net → Earlier → Question → Verdict → Type 0
IsFormedVerdict net earlier q verdict = HeadMayBe net earlier q verdict
    × ListsMayBe net earlier q verdict

-- the verdicts on these questions have forms that the questions admit, each after the ones before,
-- whose lists count without their spares
abbrev pub AreFormedVerdicts : Net → Earlier → List Question → List Verdict → Type 0
AreFormedVerdicts net earlier [] [] = Unit {0}
AreFormedVerdicts net earlier (q ∷ qs) (v ∷ vs) = IsFormedVerdict net earlier q v
    × AreFormedVerdicts net (earlier ++ (q, tight v) ∷ []) qs vs
AreFormedVerdicts net earlier qs vs = ⊥

-- the verdict of a formed answer is formed
abbrev pub FormedAnswersHaveFormedVerdicts : Type 0
FormedAnswersHaveFormedVerdicts = (net : Net) (earlier : Earlier) (q : Question) (v : Verdict)
    (proof : Proof) → IsFormedOf net earlier q v proof → IsFormedVerdict net earlier q v
