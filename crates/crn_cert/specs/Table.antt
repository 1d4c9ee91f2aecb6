-- The blocks of questions: the words of each kind of head, its fields, the records below it and the
-- trees that follow. This table is what a reader of documents has to know.
-- Source: this project's own format.
-- Shapes: reactions and classes count from 1.
use Rattle.std.specs.Prelude.{ℕ, suc, min, ◌+◌, ◌-◌, Bool, true, false, Option, Some, None, List, [], ◌∷◌, ◌++◌, length, map, codes, replicate}
use Rattle.std.specs.List.{range_with_len}
use Rattle.crn_vec.specs.declared.limits.TheConstants.{MAX_BUDGET}
use Rattle.crn_vec.specs.Deficiency.{class_members}
use Rattle.crn_vec.specs.Network.{Net}
use Rattle.crn_cert.specs.Questions.{Earlier, Question, Q1, Q2, Q3, Q4, Q5, Q6, Q7, Q8, Q9, Q10, Q11, Q12, Q13, Q14, Q15, on, terminal_of}
use Rattle.crn_cert.specs.Valid.{linkage, linkage_count, class_places, pair_places}
use Rattle.crn_cert.specs.Questions.{is_yes, has_vector}
use Rattle.crn_cert.specs.Data.{Datum, Num, Two, Led, Field, One, OneAnd, CountAndPart, TwoOf, Several, Walk, Members, Free, FreeSeveral, Turn, Shelves, Side, Wide as WideField, WideOf, ClassWide}
use Rattle.crn_cert.specs.declared.head_kind.HeadKind.{HeadKind}
use Rattle.crn_cert.specs.declared.head_kind.HeadKind.TheVariants.{Classes, Strong, Rank, Deficiency, Yes, YesWeak, YesVec, YesSignal, No, NoReaction, NoVec, NoNumber, NoTerminal, NoClass, NoSum, NoDependence, NoCycle, NoPair, NotRegular, OnlyZero, Plane, NotApplicable, Wide, Budget, Rests}

-- ---- heads

-- the sizes that heads rest on: of the network, and of what the blocks before gave
pub record Sizes : Type 0 where
  pub species : ℕ
  pub complexes : ℕ
  pub reactions : ℕ
  pub classes : ℕ
  pub terminal : ℕ
  -- how many linked pairs there are within terminal classes
  pub pairs : ℕ
  -- how many reactions each linkage class has
  pub class_reactions : ℕ → ℕ
  -- the answer to question 12 gives a confluence vector
  pub vector : Bool

-- the sizes by what is known
abbrev pub sizes_of : Net → Earlier → Sizes
sizes_of net earlier = record {
  species = length net.names;
  complexes = length net.complexes;
  reactions = length net.reactions;
  classes = linkage_count earlier;
  terminal = terminal_of (on earlier Q2);
  pairs = length (pair_places net earlier);
  class_reactions = λ k. length (class_places net earlier k);
  vector = has_vector (on earlier Q12);
}

-- a question that another one leaves open
abbrev pub rests : ℕ → Option (List Field)
rests question = Some (One question question ∷ [])

-- the fields of a head; no head of the question has the kinds that are not named here
abbrev pub fields : Question → Sizes → HeadKind → Option (List Field)
fields Q1 z Classes = Some (One 1 z.complexes ∷ [])
fields Q2 z Strong = Some (CountAndPart z.complexes ∷ [])
fields Q3 z Yes = Some []
fields Q3 z NoReaction = Some (One 1 z.reactions ∷ [])
fields Q4 z Yes = Some []
fields Q4 z NoReaction = Some (One 1 z.reactions ∷ [])
fields Q5 z Rank = Some (One 1 (min z.species z.reactions) ∷ [])
fields Q5 z Wide = Some (WideField 1 z.species z.reactions ∷ [])
fields Q6 z Deficiency = Some (OneAnd z.classes 0 z.complexes ∷ [])
fields Q6 z Wide = Some (ClassWide 3 z.species z.classes z.class_reactions ∷ [])
fields Q6 z Rests = rests 5
fields Q7 z YesVec = Some []
fields Q7 z NoVec = Some []
fields Q7 z Wide = Some (WideField 2 z.reactions z.species ∷ [])
fields Q8 z YesVec = Some []
fields Q8 z NoVec = Some []
fields Q8 z Wide = Some (WideField 1 z.species z.reactions ∷ [])
fields Q9 z YesWeak = Some (One 0 1 ∷ [])
fields Q9 z NoNumber = Some (One 1 z.complexes ∷ [])
fields Q9 z Rests = rests 5
fields Q10 z Yes = Some []
fields Q10 z NoTerminal = Some (One 1 z.classes ∷ One 2 z.complexes ∷ [])
fields Q10 z NoClass = Some (One 1 z.classes ∷ One 2 z.complexes ∷ [])
fields Q10 z NoSum = Some (One 0 z.complexes ∷ [])
fields Q10 z Rests = rests 6
fields Q11 z Yes = Some []
fields Q11 z NoTerminal = Some (One 1 z.classes ∷ One 2 z.complexes ∷ [])
fields Q11 z NoDependence = Some []
fields Q11 z NoCycle = Some (One 1 z.reactions ∷ [])
fields Q11 z Rests = rests 7
fields Q12 z YesVec = Some []
fields Q12 z NotRegular = Some []
fields Q12 z OnlyZero = Some []
fields Q12 z Plane = Some (TwoOf z.complexes ∷ [])
fields Q12 z Wide = Some (WideField 4 z.complexes (z.species + z.classes) ∷ [])
fields Q12 z Rests = rests 11
fields Q13 z YesSignal = Some (Turn ∷ [])
fields Q13 z No = Some []
fields Q13 z NotApplicable = Some []
fields Q13 z Wide =
    Some (WideOf 2 z.reactions z.species z.vector 5 (z.species + 1) (z.complexes + z.pairs) ∷ [])
fields Q13 z Budget = Some (One 1 MAX_BUDGET ∷ [])
fields Q13 z Rests = rests 12
fields Q14 z Yes = Some []
fields Q14 z NoPair = Some []
fields Q14 z Wide = Some (WideField 2 z.reactions z.species ∷ [])
fields Q14 z Budget = Some (One 1 MAX_BUDGET ∷ [])
fields Q15 z Yes = Some []
fields Q15 z NoPair = Some []
fields Q15 z Wide = Some (WideField 2 z.reactions z.species ∷ [])
fields Q15 z Budget = Some (One 1 MAX_BUDGET ∷ [])
fields q z kind = None

-- ---- below a head

-- a record below a head: its word, and what follows
pub record Row : Type 0 where
  pub word : List ℕ
  pub field : Field

-- a record of this word
abbrev pub row : List ℕ → Field → Row
row word field = record { word = word; field = field }

-- the first natural of a head
abbrev pub first : List Datum → ℕ
first (Num n ∷ more) = n
first (Two n m ∷ more) = n
first head = 0

-- the naturals after it
abbrev pub others : List Datum → List ℕ
others (Led n xs ∷ more) = xs
others head = []

-- the records that prove a rank of these reactions' vectors
abbrev pub rank_rows : (species rank : ℕ) → List ℕ → List Row
rank_rows species rank reactions =
    row (codes "base") (Members rank reactions)
    ∷ replicate rank (row (codes "dual") (FreeSeveral species))
    ++ replicate (length reactions - rank) (row (codes "comb") (FreeSeveral (suc rank)))

-- the rank of class k by its deficiency
abbrev pub rank_in : Net → Earlier → (k d : ℕ) → ℕ
rank_in net earlier k d = length (class_members (linkage earlier) k) - 1 - d

-- the records that prove the ranks of the classes from k on, by their deficiencies
abbrev pub class_rows : Net → Earlier → (k : ℕ) → List ℕ → List Row
class_rows net earlier k [] = []
class_rows net earlier k (d ∷ ds) =
    rank_rows (length net.names) (rank_in net earlier k d) (class_places net earlier k)
    ++ class_rows net earlier (suc k) ds

-- the records below a head; there is none below the heads that are not named here
abbrev pub rows_by : Net → Earlier → Sizes → Question → HeadKind → List Datum → List Row
rows_by net earlier z Q1 Classes head =
    row (codes "label") (Several z.complexes 1 (first head))
    ∷ row (codes "up") (Several z.complexes 0 z.reactions)
    ∷ row (codes "depth") (Several z.complexes 0 (z.complexes - 1)) ∷ []
rows_by net earlier z Q2 Strong head =
    row (codes "label") (Several z.complexes 1 (first head))
    ∷ row (codes "from") (Several z.complexes 0 z.reactions)
    ∷ row (codes "fromdepth") (Several z.complexes 0 (z.complexes - 1))
    ∷ row (codes "to") (Several z.complexes 0 z.reactions)
    ∷ row (codes "todepth") (Several z.complexes 0 (z.complexes - 1))
    ∷ row (codes "level") (Several (first head) 0 z.complexes)
    ∷ row (codes "exit") (Several (first head) 0 z.reactions) ∷ []
rows_by net earlier z Q3 Yes head = row (codes "back") (Several z.reactions 1 z.reactions) ∷ []
rows_by net earlier z Q5 Rank head = rank_rows z.species (first head) (range_with_len 1 z.reactions)
rows_by net earlier z Q6 Deficiency head = class_rows net earlier 1 (others head)
rows_by net earlier z Q7 YesVec head = row (codes "vec") (FreeSeveral z.reactions) ∷ []
rows_by net earlier z Q7 NoVec head = row (codes "cut") (FreeSeveral z.species) ∷ []
rows_by net earlier z Q8 YesVec head = row (codes "vec") (FreeSeveral z.species) ∷ []
rows_by net earlier z Q8 NoVec head = row (codes "cut") (FreeSeveral z.reactions) ∷ []
rows_by net earlier z Q11 Yes head =
    map (λ r. row (codes "side") (Side r z.complexes)) (pair_places net earlier)
rows_by net earlier z Q11 NoCycle head = row (codes "walk") (Walk z.complexes) ∷ []
rows_by net earlier z Q12 YesVec head =
    row (codes "vec") (FreeSeveral z.complexes)
    ∷ replicate (z.complexes - 1) (row (codes "tie") (FreeSeveral (z.species + z.classes)))
rows_by net earlier z Q12 OnlyZero head =
    replicate z.complexes (row (codes "tie") (FreeSeveral (z.species + z.classes)))
rows_by net earlier z Q12 Plane head =
    row (codes "vec") (FreeSeveral z.complexes) ∷ row (codes "vec") (FreeSeveral z.complexes) ∷ []
rows_by net earlier z Q13 YesSignal head =
    row (codes "shelves") (Shelves z.terminal) ∷ row (codes "mu") (FreeSeveral z.species)
    ∷ row (codes "m") Free ∷ row (codes "weights") (FreeSeveral z.reactions) ∷ []
rows_by net earlier z Q14 NoPair head =
    row (codes "alpha") (FreeSeveral z.reactions) ∷ row (codes "weights") (FreeSeveral z.reactions)
    ∷ []
rows_by net earlier z Q15 NoPair head =
    row (codes "alpha") (FreeSeveral z.reactions) ∷ row (codes "weights") (FreeSeveral z.reactions)
    ∷ []
rows_by net earlier z q kind head = []

-- the same, by what is known
abbrev pub rows : Net → Earlier → Question → HeadKind → List Datum → List Row
rows net earlier q kind head = rows_by net earlier (sizes_of net earlier) q kind head

-- ---- trees

-- a tree that follows: over this many choices, with cuts of these lengths
pub record TreeRow : Type 0 where
  pub choices : ℕ
  pub count_a : ℕ
  pub count_b : ℕ

-- the tree of a signal
abbrev pub signal_tree : Sizes → TreeRow
signal_tree z = record {
  choices = z.terminal + z.species;
  count_a = z.complexes + z.pairs;
  count_b = z.species;
}

-- the tree of a table
abbrev pub table_tree : Sizes → TreeRow
table_tree z = record { choices = z.species; count_a = z.species; count_b = z.species }

-- one tree or, if the network is weakly reversible, two
abbrev pub one_or_two : Bool → TreeRow → List TreeRow
one_or_two false tree = tree ∷ []
one_or_two true tree = tree ∷ tree ∷ []

-- the trees that follow the records below a head
abbrev pub trees : Net → Earlier → Question → HeadKind → List TreeRow
trees net earlier Q13 No =
    one_or_two (is_yes (on earlier Q4)) (signal_tree (sizes_of net earlier))
trees net earlier Q14 Yes = table_tree (sizes_of net earlier) ∷ []
trees net earlier Q15 Yes = table_tree (sizes_of net earlier) ∷ []
trees net earlier q kind = []
