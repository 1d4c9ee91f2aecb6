-- The lines that say why a text is refused, why a document is rejected, and how the program is
-- used.
-- Source: this project's own format.
-- Shapes: texts are lists of bytes. Lines of a text count from 1, and line 0 is the whole text.
use Rattle.std.specs.Prelude.{◌≡◌, ◌≤◌, ◌⊎◌, ◌==◌, if◌then◌else◌, ℕ, List, [], ◌∷◌, ◌++◌, codes, decimal}
use Rattle.crn_text.specs.declared.fault.TextCode.{TextCode}
use Rattle.crn_text.specs.declared.fault.TextCode.TheVariants.{SelfReaction, TooManySpecies, TooManyComplexes, TooManyReactions, NoReaction, NoMemory, NotAscii, NoArrow, EmptySide, BadName, NameTooLong, ZeroCoefficient, CoefficientTooLarge, StrayMark, TextTooLong}
use Rattle.crn_text.specs.Codes.{code_number, code_name}
use Rattle.crn_render.specs.declared.printed.Printed.{Printed}
use Rattle.crn_render.specs.declared.printed.Printed.TheVariants.{Refused, Rejected, Usage}

-- ---- names of codes

-- the refusals of a network text
abbrev pub text_codes : List TextCode
text_codes = SelfReaction ∷ TooManySpecies ∷ TooManyComplexes ∷ TooManyReactions ∷ NoReaction
    ∷ NoMemory ∷ NotAscii ∷ NoArrow ∷ EmptySide ∷ BadName ∷ NameTooLong ∷ ZeroCoefficient
    ∷ CoefficientTooLarge ∷ StrayMark ∷ TextTooLong ∷ []

-- the name of the first of these refusals that has the number
abbrev pub name_among : ℕ → List TextCode → List ℕ
name_among number [] = []
name_among number (c ∷ cs) =
    if code_number c == number then code_name c else name_among number cs

-- the name of the refusal of a network text that has this number
abbrev pub text_name : ℕ → List ℕ
text_name number = name_among number text_codes

-- the numbers of the refusals of a document, those of documents of parts after the others, with their
-- names
abbrev pub document_codes : List (ℕ × List ℕ)
document_codes = (21, codes "BadHeader") ∷ (22, codes "BadNetwork") ∷ (23, codes "UnknownWord")
    ∷ (24, codes "BadField") ∷ (25, codes "NumberWide") ∷ (26, codes "WrongOrder")
    ∷ (27, codes "EndsEarly") ∷ (28, codes "AfterEnd") ∷ (29, codes "DocumentTooLong")
    ∷ (30, codes "LineTooLong") ∷ (31, codes "WrongClasses") ∷ (32, codes "WrongWalk")
    ∷ (33, codes "NotIndependent") ∷ (34, codes "NotSpanned") ∷ (35, codes "BadVector")
    ∷ (36, codes "WrongNumber") ∷ (37, codes "WrongVerdict") ∷ (41, codes "BadLeaf")
    ∷ (42, codes "NodeNotAllowed") ∷ (43, codes "TreeEndsEarly") ∷ (44, codes "TreeGoesOn")
    ∷ (45, codes "BadEvidence") ∷ (46, codes "WrongShape") ∷ (51, codes "NotSiphon")
    ∷ (52, codes "NotCovered") ∷ (53, codes "BadLaw") ∷ (54, codes "BadNode")
    ∷ (55, codes "WrongLine") ∷ (56, codes "WrongCase") ∷ (61, codes "NotIndependent")
    ∷ (62, codes "NotSpanned") ∷ (63, codes "WrongParts") ∷ (64, codes "BadLink")
    ∷ (71, codes "BadNode") ∷ (72, codes "BadLeaf") ∷ (73, codes "BadSlope") ∷ []

-- the name beside the first such number of a list
abbrev pub name_beside : ℕ → List (ℕ × List ℕ) → List ℕ
name_beside number [] = []
name_beside number (x ∷ xs) = if x.0 == number then x.1 else name_beside number xs

-- the name of the refusal of a document that has this number
abbrev pub document_name : ℕ → List ℕ
document_name number = name_beside number document_codes

-- ---- lines

-- how the program is used
unfoldable pub usage_line : List ℕ
usage_line =
    codes "usage: crnt report | certify | check | sample K | prove PART | verify PART, with --budget N except for check and verify\n"

-- the number and the name of a fault after what became of the text, and its line
unfoldable pub fault_line : (verb : List ℕ) (number : ℕ) (name : List ℕ) (line : ℕ) → List ℕ
fault_line verb number name line = verb ++ codes " " ++ decimal number ++ codes " " ++ name
    ++ codes " at line " ++ decimal line ++ codes "\n"

-- the line that says a fault, or how the program is used
abbrev pub printed : Printed → List ℕ
printed (Refused code line) = fault_line (codes "refused") code (text_name code) line
printed (Rejected code line) = fault_line (codes "rejected") code (document_name code) line
printed Usage = usage_line

-- ---- codes with a name

-- the number of a refusal of a network text
abbrev pub IsTextCode : ℕ → Type 0
IsTextCode number = (c : TextCode) × (code_number c ≡ number)

-- the number of a refusal of a document, or of one of a part: of `persist` and `robust`, of `parts`, of
-- `endo`
abbrev pub IsDocumentCode : ℕ → Type 0
IsDocumentCode number = ((21 ≤ number) × (number ≤ 37)) ⊎ ((41 ≤ number) × (number ≤ 46))
    ⊎ ((51 ≤ number) × (number ≤ 56)) ⊎ ((61 ≤ number) × (number ≤ 64))
    ⊎ ((71 ≤ number) × (number ≤ 73))

-- the code has a name
abbrev pub HasName : Printed → Type 0
HasName (Refused code line) = IsTextCode code
HasName (Rejected code line) = IsDocumentCode code
HasName Usage = Unit {0}

-- each refusal of a network text is printed with its own name
abbrev pub TextCodesHaveTheirNames : Type 0
TextCodesHaveTheirNames = (c : TextCode) → text_name (code_number c) ≡ code_name c
