-- For the contracts of private functions alone.
-- A record that is due, and the records below a head, by their words.
-- Source: this project's own format. Shapes: complexes and reactions of a network count from 1 in a
-- document.
use Rattle.std.specs.Prelude.{◌≡◌, ◌==◌, ◌&&◌, if◌then◌else◌, ◌-◌, ◌+◌, ◌≤◌, ◌⊎◌, ◌++◌, replicate, ℕ, ℤ, pos, negsuc, List, [], ◌∷◌, length, map, codes, Bool}
use Rattle.std.specs.List.{AllZip, flat_map}
use Rattle.crn_vec.specs.Network.{Net}
use Rattle.crn_vec.specs.declared.limits.TheConstants.{MAX_COMPLEXES, MAX_REACTIONS}
use Rattle.crn_shape.specs.Pairs.{pairs_to}
use Rattle.crn_ctext.specs.Records.{Record, Form, Fits, Members, Several, Small}
use Rattle.crn_ctext.specs.Meaning.{lists}
use Rattle.crn_ctext.specs.Kinds.{just, small, small_form, record_form, free_form}
use Rattle.crn_ctext.specs.Expect.{IsExpectable, MayBeDue, forms_of, is_after, misplaced, part_field, text_of}
use Rattle.crn_ctext.specs.declared.expect.Expect.{Expect}
use Rattle.crn_ctext.specs.declared.expect.Due.{Due}
use Rattle.crn_ctext.specs.declared.expect.Due.TheVariants.{Part, Base as DueBase, Side as DueSide, Walk as DueWalk}
use Rattle.crn_ctext.specs.declared.word.Word.{Word}
use Rattle.crn_document.specs.declared.parts.Part.{Part as RankPart}
use Rattle.crn_document.specs.Inner.Parts.{members_of}
use Rattle.crn_document.specs.declared.rows.Row.{Row}
use Rattle.crn_document.specs.declared.rows.Row.TheVariants.{Label, Up, Depth, From, FromDepth, To, ToDepth, Level, Exit, Back, Base, Dual, Comb, VecOfReactions, VecOfSpecies, CutOfReactions, CutOfSpecies, VecOfComplexes, Side, Walk, Tie, Shelves, Mu, M, Alpha, Weights}
use Rattle.crn_cert.specs.Faults.{WrongOrder}

-- these records may be due, none of them a tree's node; `after` says that the line before ended a
-- tree
pub record Expects (e : Expect) (version : ℕ) (after : Bool) (forms : List Form) : Type 0 where
  pub may : IsExpectable e
  pub of_version : e.version ≡ version
  pub by_tree : is_after e.due e.after_tree ≡ after
  pub has : forms_of e ≡ forms
  pub misplaced : misplaced e.due ≡ WrongOrder

-- the form of a record below a head of this many classes, if complexes have these labels
abbrev pub row_form : Net → List ℕ → ℕ → Row → Form
row_form net labels n Label = small_form (codes "label") (length net.complexes) 1 n
row_form net labels n Up = small_form (codes "up") (length net.complexes) 0 (length net.reactions)
row_form net labels n Depth =
    small_form (codes "depth") (length net.complexes) 0 (length net.complexes - 1)
row_form net labels n From =
    small_form (codes "from") (length net.complexes) 0 (length net.reactions)
row_form net labels n FromDepth =
    small_form (codes "fromdepth") (length net.complexes) 0 (length net.complexes - 1)
row_form net labels n To = small_form (codes "to") (length net.complexes) 0 (length net.reactions)
row_form net labels n ToDepth =
    small_form (codes "todepth") (length net.complexes) 0 (length net.complexes - 1)
row_form net labels n Level = small_form (codes "level") n 0 (length net.complexes)
row_form net labels n Exit = small_form (codes "exit") n 0 (length net.reactions)
row_form net labels n Back =
    small_form (codes "back") (length net.reactions) 1 (length net.reactions)
row_form net labels n (Base class rank) =
    record_form (codes "base") (Members rank (members_of net labels class) ∷ [])
row_form net labels n Dual = free_form (codes "dual") (length net.names)
row_form net labels n (Comb rank) = free_form (codes "comb") (1 + rank)
row_form net labels n VecOfReactions = free_form (codes "vec") (length net.reactions)
row_form net labels n VecOfSpecies = free_form (codes "vec") (length net.names)
row_form net labels n CutOfReactions = free_form (codes "cut") (length net.reactions)
row_form net labels n CutOfSpecies = free_form (codes "cut") (length net.names)
row_form net labels n VecOfComplexes = free_form (codes "vec") (length net.complexes)
row_form net labels n (Side reaction) =
    record_form (codes "side") (just reaction ∷ small (length net.complexes) 0 1 ∷ [])
row_form net labels n Walk =
    record_form (codes "walk")
    (Several 2 (length net.complexes) (pos 1) (pos (length net.complexes)) ∷ [])
row_form net labels n (Tie classes) = free_form (codes "tie") (length net.names + classes)
row_form net labels n (Shelves terminal) =
    record_form (codes "shelves") (Small terminal (negsuc 0) (pos 1) ∷ [])
row_form net labels n Mu = free_form (codes "mu") (length net.names)
row_form net labels n M = free_form (codes "m") 1
row_form net labels n Alpha = free_form (codes "alpha") (length net.reactions)
row_form net labels n Weights = free_form (codes "weights") (length net.reactions)

-- two lists of a no on concordance
abbrev pub pair_rows : (question place : ℕ) → List Row
pair_rows question place =
    if question == 14 && place == 2 then Alpha ∷ Weights ∷ [] else (
    if question == 15 && place == 2 then Alpha ∷ Weights ∷ [] else [])

-- the records below a head but for ranks, sides, ties and signals, by its question and the place of
-- its form
abbrev pub fixed_rows : (question place : ℕ) → List Row
fixed_rows question place =
    if question == 1 then Label ∷ Up ∷ Depth ∷ [] else (
    if question == 2 then Label ∷ From ∷ FromDepth ∷ To ∷ ToDepth ∷ Level ∷ Exit ∷ [] else (
    if question == 3 && place == 1 then Back ∷ [] else (
    if question == 7 && place == 1 then VecOfReactions ∷ [] else (
    if question == 7 && place == 2 then CutOfSpecies ∷ [] else (
    if question == 8 && place == 1 then VecOfSpecies ∷ [] else (
    if question == 8 && place == 2 then CutOfReactions ∷ [] else (
    if question == 11 && place == 4 then Walk ∷ [] else (
    if question == 12 && place == 1 then VecOfComplexes ∷ [] else (
    if question == 12 && place == 4 then VecOfComplexes ∷ VecOfComplexes ∷ []
    else pair_rows question place)))))))))

-- the lists of a signal over this many terminal classes, by the question and the place of the head's
-- form
abbrev pub signal_rows : (terminal question place : ℕ) → List Row
signal_rows terminal question place =
    if question == 13 && place == 1 then Shelves terminal ∷ Mu ∷ M ∷ Weights ∷ [] else []

-- the sides, ties and lists of a signal below a head, by its question and the place of its form,
-- if complexes have these labels of strong classes, these have these exits, and there are this many
-- terminal classes and linkage classes
abbrev pub many_rows : Net → (labels exits : List ℕ) → (terminal classes question place : ℕ)
    → List Row
many_rows net labels exits terminal classes question place =
    if question == 11 && place == 1
    then map (λ r. Side r) (pairs_to net labels exits (length net.reactions)) else (
    if question == 12 && place == 1
    then replicate (length net.complexes - 1) (Tie classes) else (
    if question == 12 && place == 3 then replicate (length net.complexes) (Tie classes)
    else signal_rows terminal question place))

-- the records that prove a rank
abbrev pub part_rows : RankPart → List Row
part_rows p = Base p.class p.rank
    ∷ replicate p.rank Dual ++ replicate (p.count - p.rank) (Comb p.rank)

-- the records below a head, with these sides, ties or lists of a signal, that proves these ranks
abbrev pub rows_below : (question place : ℕ) → List Row → List RankPart → List Row
rows_below question place many parts =
    fixed_rows question place ++ (many ++ flat_map part_rows parts)

-- the record has at most as many numbers as a line may have
abbrev pub MayBeRow : Row → Type 0
MayBeRow (Base class rank) = rank ≤ MAX_REACTIONS
MayBeRow (Comb rank) = rank ≤ MAX_REACTIONS
MayBeRow (Tie classes) = classes ≤ MAX_COMPLEXES
MayBeRow (Shelves terminal) = terminal ≤ MAX_COMPLEXES
MayBeRow other = Unit {0}

-- if the record is a base, these are the reactions of its linkage class
abbrev pub AreMembers : Net → List ℕ → Row → List ℕ → Type 0
AreMembers net labels (Base class rank) members = members ≡ members_of net labels class
AreMembers net labels other members = Unit {0}

-- what is due is a base, a side or a walk of this form, if there are this many complexes
abbrev pub IsOwnDue : (complexes : ℕ) → Form → Due → Type 0
IsOwnDue complexes form (DueBase count members) =
    (record_form (codes "base") (Members count members.now ∷ []) ≡ form)
    × ((version : ℕ) → MayBeDue (DueBase count members) version)
IsOwnDue complexes form (DueSide reaction) =
    record_form (codes "side") (just reaction ∷ small complexes 0 1 ∷ []) ≡ form
IsOwnDue complexes form DueWalk =
    record_form (codes "walk") (Several 2 complexes (pos 1) (pos complexes) ∷ []) ≡ form
IsOwnDue complexes form other = ⊥

-- what is due is a record of this form, which has at most as many small numbers as a line may have
pub record IsPartDue (form : Form) (d : Due) : Type 0 where
  pub word : Word
  pub count : ℕ
  pub least : ℤ
  pub greatest : ℤ
  pub is : d ≡ Part word count least greatest
  pub has : record_form (text_of word) (part_field (text_of word) count least greatest ∷ []) ≡ form
  pub may : (version : ℕ) → MayBeDue (Part word count least greatest) version

-- what is due is a record of this form, if there are this many complexes
abbrev pub IsRowDue : (complexes : ℕ) → Form → Due → Type 0
IsRowDue complexes form d = IsOwnDue complexes form d ⊎ IsPartDue form d

-- the record has this form, and its numbers were added to the rows
abbrev pub IsRow : Form → (old new : List (List ℤ)) → Record → Type 0
IsRow form old new r = Fits form r × (new ≡ old ++ r.numbers ∷ [])

-- the records have these forms, and their numbers were added to the rows
abbrev pub AreRows : List Form → (old new : List (List ℤ)) → List Record → Type 0
AreRows forms old new rs = AllZip Fits forms rs × (new ≡ old ++ lists rs)
