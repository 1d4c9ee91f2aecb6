-- Summaries of formed answers and lines of faults are short.
use Rattle.crn_render.proofs.Prelude.{◌≡◌, ◌+◌, ◌*◌, ◌^◌, ◌<◌, ◌≤◌, ◌==◌, ◌++◌, ℕ, inl, inr, List, [], ◌∷◌, length, rules, arith, decimal, AllByRecursion, cases_Bool, length-append, Net, IsNetwork, MAX_DOCUMENT, TextCode, SelfReaction, TooManySpecies, TooManyComplexes, TooManyReactions, NoMemory, NotAscii, NoArrow, EmptySide, BadName, NameTooLong, ZeroCoefficient, CoefficientTooLarge, StrayMark, TextTooLong, code_number, code_name, verdicts_of, Verdict, Classes, Strong, Rank, Deficiency, Yes, YesWeak, YesVec, YesSignal, No, NoReactionVerdict, NoVec, NoNumber, NoTerminal, NoClass, NoSum, NoDependence, NoCycle, NoPair, NotRegular, OnlyZero, Plane, NotApplicable, Unknown, fault_line, document_codes, document_name, name_beside, FaultLinesAreShort, SummariesAreShort, accepted_line, brief, briefs, sample_line, verdicts_line}
use Rattle.std.specs.Prelude.{codes}
use Rattle.crn_text.specs.declared.fault.TextCode.TheVariants.{NoReaction}
use Rattle.crn_render.proofs.FormedShort.{verdicts_short}
use Rattle.crn_render.proofs.Lengths.{IsShort, count_most, decimal_most, four, six, three}

-- ---- a summary

brief_most : (net : Net) (v : Verdict) → IsShort net v → length (brief v) ≤ 30
brief_most net (Classes count label) h = count_most count (omega (arith, h))
brief_most net (Strong count terminal label exit) h = count_most count (omega (arith, h.0))
brief_most net (Rank rank base) h = count_most rank h.0
brief_most net (Deficiency total classes) h = count_most total h.0
brief_most net Yes h = omega arith
brief_most net (YesWeak weak) h = omega arith
brief_most net (YesVec vector) h = omega arith
brief_most net (YesSignal turn shelves mu m weights) h = omega arith
brief_most net No h = omega arith
brief_most net (NoReactionVerdict reaction) h = omega arith
brief_most net (NoVec multipliers) h = omega arith
brief_most net (NoNumber number) h = omega arith
brief_most net (NoTerminal class count) h = omega arith
brief_most net (NoClass class number) h = omega arith
brief_most net (NoSum total) h = omega arith
brief_most net NoDependence h = omega arith
brief_most net (NoCycle reaction walk) h = omega arith
brief_most net (NoPair alpha weights) h = omega arith
brief_most net NotRegular h = omega arith
brief_most net OnlyZero h = omega arith
brief_most net (Plane first second one two) h = omega arith
brief_most net NotApplicable h = omega arith
brief_most net (Unknown gap) h = omega arith

briefs_most : (net : Net) (vs : List Verdict) → AllByRecursion (IsShort net) vs → length (briefs vs) ≤ 31 * length vs
briefs_most net [] h = omega arith
briefs_most net (v ∷ vs) h = omega (arith, brief_most net v h.0, briefs_most net vs h.1, length-append (codes " " ++ brief v) (briefs vs), length-append (codes " ") (brief v))

verdicts_most : (net : Net) (vs : List Verdict) → AllByRecursion (IsShort net) vs → length vs ≡ 15 → length (verdicts_line vs) ≤ 600
unfolding verdicts_line
verdicts_most net vs h many = omega (arith, many, briefs_most net vs h, three (codes "verdicts:") (briefs vs) (codes "\n"))

accepted_most : length accepted_line ≤ 30
unfolding accepted_line
accepted_most = omega arith

sample_most : (number : ℕ) (net : Net) → number < 2 ^ 32 → IsNetwork net → length (sample_line number net) ≤ 300
unfolding sample_line
sample_most number net lt n =
    let p = n.partial in
    let species = p.species_limit in
    let complexes = p.complexes_limit in
    let reactions = p.reactions_limit in
    let a = codes "sample " ++ decimal number ++ codes ": " ++ decimal (length net.names) ++ codes " species, " ++ decimal (length net.complexes) in
    omega (
      arith,
      decimal_most number (omega (arith, lt)),
      count_most (length net.names) (omega (arith, species)),
      count_most (length net.complexes) (omega (arith, complexes)),
      count_most (length net.reactions) (omega (arith, reactions)),
      six (codes "sample ") (decimal number) (codes ": ") (decimal (length net.names)) (codes " species, ") (decimal (length net.complexes)),
      four a (codes " complexes, ") (decimal (length net.reactions)) (codes " reactions\n"),
    )

pub summaries_are_short : SummariesAreShort
summaries_are_short number net answers lt n h =
    let vs = verdicts_of answers in
    let short = verdicts_short net answers n h in
    omega (
      arith,
      sample_most number net lt n,
      verdicts_most net vs short.0 short.1,
      accepted_most,
      three (sample_line number net) (verdicts_line vs) accepted_line,
    )

-- ---- the line of a fault

fault_most : (verb name : List ℕ) (number line : ℕ) → length verb ≤ 10 → length name ≤ 30 → number < 2 ^ 32 → line < 2 ^ 32 → length (fault_line verb number name line) < MAX_DOCUMENT
unfolding fault_line
fault_most verb name number line few short n l =
    let a = verb ++ codes " " ++ decimal number ++ codes " " ++ name ++ codes " at line " in
    omega (
      arith,
      few,
      short,
      decimal_most number (omega (arith, n)),
      decimal_most line (omega (arith, l)),
      six verb (codes " ") (decimal number) (codes " ") name (codes " at line "),
      three a (decimal line) (codes "\n"),
    )

-- a name and a number of a refusal are short
record IsNamedShortly (c : TextCode) : Type 0 where
  name : length (code_name c) ≤ 30
  number : code_number c ≤ 30

named : (c : TextCode) → IsNamedShortly c
named c = elim c as IsNamedShortly [
  | SelfReaction ↦ record { name = omega arith; number = omega arith }
  | TooManySpecies ↦ record { name = omega arith; number = omega arith }
  | TooManyComplexes ↦ record { name = omega arith; number = omega arith }
  | TooManyReactions ↦ record { name = omega arith; number = omega arith }
  | NoReaction ↦ record { name = omega arith; number = omega arith }
  | NoMemory ↦ record { name = omega arith; number = omega arith }
  | NotAscii ↦ record { name = omega arith; number = omega arith }
  | NoArrow ↦ record { name = omega arith; number = omega arith }
  | EmptySide ↦ record { name = omega arith; number = omega arith }
  | BadName ↦ record { name = omega arith; number = omega arith }
  | NameTooLong ↦ record { name = omega arith; number = omega arith }
  | ZeroCoefficient ↦ record { name = omega arith; number = omega arith }
  | CoefficientTooLarge ↦ record { name = omega arith; number = omega arith }
  | StrayMark ↦ record { name = omega arith; number = omega arith }
  | TextTooLong ↦ record { name = omega arith; number = omega arith }
]

name_most : (number : ℕ) (xs : List (ℕ × List ℕ)) → AllByRecursion (λ x. length x.1 ≤ 30) xs → length (name_beside number xs) ≤ 30
name_most number [] h = omega arith
name_most number (x ∷ xs) h = elim (cases_Bool (x.0 == number)) as (λ _. length (name_beside number (x ∷ xs)) ≤ 30) [
  | inl hit ↦ rw hit h.0
  | inr miss ↦ rw miss (name_most number xs h.1)
]

names_short : AllByRecursion (λ (x : ℕ × List ℕ). length x.1 ≤ 30) document_codes
names_short = search rules

pub fault_lines_are_short : FaultLinesAreShort
fault_lines_are_short = record {
  refused = λ code line l.
      let c = named code in
      let name = c.name in
      let number = c.number in
      fault_most (codes "refused") (code_name code) (code_number code) line (omega arith) name (omega (arith, number)) l;
  rejected = λ code line c l. fault_most (codes "rejected") (document_name code) code line (omega arith) (name_most code document_codes names_short) c l;
}
