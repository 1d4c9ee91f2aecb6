-- The indented lines below the line of a question.
-- Source: this project's own format.
-- Shapes: texts are lists of bytes, and a line ends by LF. Complexes, reactions and classes count
-- from 1 where they are written, and in verdicts.
use Rattle.std.specs.Prelude.{◌-◌, ◌+◌, ◌==◌, if◌then◌else◌, ℕ, zero, suc, ℤ, pos, negsuc, List, [], ◌∷◌, ◌++◌, map, codes, decimal, slice_index, slice_index_or}
use Rattle.std.specs.Fmt.{signed_decimal}
use Rattle.crn_vec.specs.Network.{Net}
use Rattle.crn_vec.specs.Concordance.{image}
use Rattle.crn_vec.specs.NetSystems.{reaction_system}
use Rattle.crn_io.specs.Joined.{joined}
use Rattle.crn_text.specs.Canonical.{side, complex_text}
use Rattle.crn_cert.specs.Questions.{Question, Q7, Q8}
use Rattle.crn_cert.specs.declared.answer.Gap.{Gap}
use Rattle.crn_cert.specs.declared.answer.Gap.TheVariants.{Wide, Budget, Rests}
use Rattle.crn_cert.specs.declared.answer.Verdict.{Verdict}
use Rattle.crn_cert.specs.declared.answer.Verdict.TheVariants.{Classes, Strong, Rank, YesVec, YesSignal, NoReaction, NoVec, NoCycle, NoPair, Plane, Unknown}
use Rattle.crn_render.specs.Words.{numbers_text}

-- ---- parts of lines

-- whole numbers, with one space between each two
abbrev pub vector_text : List ℤ → List ℕ
vector_text zs = joined (codes " ") (map signed_decimal zs)

-- the texts of all complexes in order, as the canonical text writes them
abbrev pub complex_texts : Net → List (List ℕ)
complex_texts net = map (side net.names) net.complexes

-- the complexes with these numbers, in this order
abbrev pub walk_text : Net → List ℕ → List ℕ
walk_text net cs = joined (codes "; ") (map (λ c. complex_text net (c - 1)) cs)

-- a reaction as the canonical text writes it
abbrev pub arrow_text : Net → ℕ × ℕ → List ℕ
arrow_text net r = complex_text net r.0 ++ codes " -> " ++ complex_text net r.1

-- reaction r as the canonical text writes it
abbrev pub reaction_text : Net → ℕ → List ℕ
reaction_text net r = arrow_text net (slice_index_or net.reactions (r - 1) (0, 0))

-- an indented line: a title, and what it names
abbrev pub titled_line : List ℕ → List ℕ → List ℕ
titled_line name text = codes "  " ++ name ++ codes ": " ++ text ++ codes "\n"

-- ---- classes

-- the texts whose label is k
abbrev pub of_label : ℕ → List ℕ → List (List ℕ) → List (List ℕ)
of_label k (l ∷ labels) (text ∷ texts) =
    (if l == k then text ∷ [] else []) ++ of_label k labels texts
of_label k labels texts = []

-- the complexes of class k in order
abbrev pub members_text : Net → List ℕ → ℕ → List ℕ
members_text net labels k = joined (codes "; ") (of_label k labels (complex_texts net))

-- linkage class k and its complexes
unfoldable pub class_line : Net → List ℕ → ℕ → List ℕ
class_line net labels k = titled_line (codes "class " ++ decimal k) (members_text net labels k)

-- a mark for a class that no reaction leaves
abbrev pub terminal_text : ℕ → List ℕ
terminal_text zero = codes " (terminal)"
terminal_text (suc exit) = []

-- strong class k, its complexes, and whether it is terminal
unfoldable pub strong_line : Net → List ℕ → List ℕ → ℕ → List ℕ
strong_line net labels exits k = titled_line (codes "strong " ++ decimal k)
    (members_text net labels k ++ terminal_text (slice_index exits (k - 1)))

-- the lines of this many classes, the first of them k
abbrev pub lines_from : (ℕ → List ℕ) → (k count : ℕ) → List ℕ
lines_from line k zero = []
lines_from line k (suc n) = line k ++ lines_from line (k + 1) n

-- ---- the lines of a verdict

-- what the vector of a yes is
abbrev pub vector_title : Question → List ℕ
vector_title Q7 = codes "positive combination"
vector_title Q8 = codes "positive law"
vector_title q = codes "vector"

-- a shelf by its number
abbrev pub shelf : ℤ → List ℕ
shelf (pos zero) = codes "middle"
shelf (pos (suc n)) = codes "upper"
shelf (negsuc n) = codes "lower"

-- shelves, with one space between each two
abbrev pub shelves_text : List ℤ → List ℕ
shelves_text zs = joined (codes " ") (map shelf zs)

-- the class of a system, if it is that of a class
abbrev pub class_text : ℕ → List ℕ
class_text zero = []
class_text (suc k) = codes " class " ++ decimal (suc k)

-- the system of an open question, and its class
unfoldable pub system_line : (system class : ℕ) → List ℕ
system_line system class = codes "  system " ++ decimal system ++ class_text class ++ codes "\n"

-- the index of an open question
unfoldable pub index_line : ℕ → List ℕ
index_line index = codes "  index " ++ decimal index ++ codes "\n"

-- the lines of an open question
abbrev pub gap_details : Gap → List ℕ
gap_details (Wide system class index basis) = system_line system class ++ index_line index
    ++ titled_line (codes "basis") (numbers_text basis.list)
gap_details (Budget nodes) = []
gap_details (Rests question) = []

-- the sum of the reaction vectors with these weights
abbrev pub sigma : Net → List ℤ → List ℤ
sigma net weights = image (reaction_system net) weights

-- the lines of a signal
abbrev pub signal_details : (turn : ℤ) (shelves mu : List ℤ) (m : ℤ) → List ℕ
signal_details turn shelves mu m = titled_line (codes "turn") (signed_decimal turn)
    ++ titled_line (codes "shelves") (shelves_text shelves)
    ++ titled_line (codes "mu") (vector_text mu)
    ++ titled_line (codes "m") (signed_decimal m)

-- the lines below the line of a question; there is none of a verdict that is not named here
abbrev pub details : Net → Question → Verdict → List ℕ
details net q (Classes count label) = lines_from (class_line net label.list) 1 count
details net q (Strong count terminal label exit) =
    lines_from (strong_line net label.list exit.list) 1 count
details net q (Rank rank base) =
    titled_line (codes "independent reactions") (numbers_text base.list)
details net q (YesVec vector) = titled_line (vector_title q) (vector_text vector.list)
details net q (YesSignal turn shelves mu m weights) =
    signal_details turn shelves.list mu.list m
details net q (NoReaction reaction) =
    titled_line (codes "reaction " ++ decimal reaction) (reaction_text net reaction)
details net q (NoVec multipliers) = titled_line (codes "multipliers") (vector_text multipliers.list)
details net q (NoCycle reaction walk) =
    titled_line (codes "reaction " ++ decimal reaction ++ codes ", walk") (walk_text net walk.list)
details net q (NoPair alpha weights) =
    titled_line (codes "sigma") (vector_text (sigma net weights.list))
    ++ titled_line (codes "alpha") (vector_text alpha.list)
details net q (Plane first second one two) = titled_line (codes "vector") (vector_text one.list)
    ++ titled_line (codes "vector") (vector_text two.list)
details net q (Unknown gap) = gap_details gap
details net q verdict = []
