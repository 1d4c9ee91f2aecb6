-- For the contracts of private functions alone.
-- What each step of adding a reaction does to the tables: names, rows of amounts, and reactions.
use Rattle.std.specs.Prelude.{◌≡◌, ◌≤◌, ◌<◌, ◌⊎◌, ℕ, ℤ, List, [], ◌∷◌, ◌++◌, length, map, take, replicate, slice_index_or, pos, Result, Ok, Err}
use Rattle.std.specs.Str.{bytes_eq}
use Rattle.crn_vec.specs.Lists.{IsIn, AreDistinct, firsts}
use Rattle.crn_vec.specs.Network.{amount_in, amounts_in, minus, names_in, Statement}
use Rattle.crn_vec.specs.declared.limits.TheConstants.{MAX_SPECIES, MAX_COMPLEXES, MAX_REACTIONS}
use Rattle.crn_net.specs.Terms.{IsSide}
use Rattle.crn_net.specs.Views.{IsRow}
use Rattle.crn_net.specs.declared.term.Term.{Term}
use Rattle.crn_net.specs.declared.fault.NetFault.{NetFault}
use Rattle.crn_net.specs.declared.fault.NetFault.TheVariants.{SelfReaction, TooManySpecies, TooManyComplexes, TooManyReactions, NoMemory}

-- what the table of names keeps: each name once, and no more than the limit
pub record AreNames (names : List (List ℕ)) : Type 0 where
  pub distinct : AreDistinct names
  pub few : length names ≤ MAX_SPECIES

-- what the tables of names, rows and reactions keep
pub record AreTables (known : List (List ℕ)) (rows : List (List ℤ)) (reactions : List (ℕ × ℕ)) : Type 0 where
  pub names : AreNames known
  pub rows_few : length rows ≤ MAX_COMPLEXES
  pub reactions_few : length reactions ≤ MAX_REACTIONS

-- the terms of both sides of a statement
pub record AreSides (text : List ℕ) (one other : List Term) : Type 0 where
  pub left : IsSide text one
  pub right : IsSide text other

-- the rows of both sides before their amounts are added
pub record AreZeros (rows : List ℤ × List ℤ) : Type 0 where
  pub left : rows.0 ≡ replicate MAX_SPECIES (pos 0)
  pub right : rows.1 ≡ replicate MAX_SPECIES (pos 0)

-- each name has the same amount on both sides
abbrev pub SaysSame : Statement → Type 0
SaysSame s = (name : List ℕ) → amount_in s.0 name ≡ amount_in s.1 name

-- the list with x at its end, or the list itself if x is a member
abbrev pub Puts : {A : Type 0} → List A → A → List A → Type 0
Puts old x new = (IsIn x old × (new ≡ old)) ⊎ ((IsIn x old → ⊥) × (new ≡ old ++ x ∷ []))

-- the place of the name in the new list, to which it is added if it is new
abbrev pub NotesName : List (List ℕ) → List ℕ → Result ℕ NetFault → List (List ℕ) → Type 0
NotesName old name (Ok place) new =
    Puts old name new × (place < length new) × (slice_index_or new place [] ≡ name) × (length new ≤ MAX_SPECIES)
NotesName old name (Err TooManySpecies) new = (IsIn name old → ⊥) × (MAX_SPECIES ≤ length old)
NotesName old name (Err NoMemory) new = Unit {0}
NotesName old name (Err fault) new = ⊥

-- the row holds the amounts of these names on a side
pub record IsRowFor (names : List (List ℕ)) (side : List (List ℕ × ℕ)) (row : List ℤ) : Type 0 where
  pub amounts : take (length names) row ≡ amounts_in names side
  pub is : IsRow (length names) row

-- the new names of the side are at the end, and the row is that of the side
abbrev pub NotesSide : List (List ℕ) → List (List ℕ × ℕ) → Result Unit NetFault → List (List ℕ) → List ℤ → Type 0
NotesSide old side (Ok done) new row =
    (new ≡ firsts bytes_eq (old ++ map (λ t. t.0) side)) × (length new ≤ MAX_SPECIES) × IsRowFor new side row
NotesSide old side (Err TooManySpecies) new row =
    MAX_SPECIES < length (firsts bytes_eq (old ++ map (λ t. t.0) side))
NotesSide old side (Err NoMemory) new row = Unit {0}
NotesSide old side (Err fault) new row = ⊥

-- all names of the statement are in the list, and the rows are those of its sides
pub record AreNoted (old : List (List ℕ)) (s : Statement) (rows : List ℤ × List ℤ) (new : List (List ℕ)) : Type 0 where
  pub names : new ≡ firsts bytes_eq (old ++ names_in s)
  pub few : length new ≤ MAX_SPECIES
  pub left : IsRowFor new s.0 rows.0
  pub right : IsRowFor new s.1 rows.1

-- the names and rows of both sides, or the refusal
abbrev pub NotesBoth : List (List ℕ) → Statement → Result Unit NetFault → List (List ℕ) → List ℤ × List ℤ → Type 0
NotesBoth old s (Ok done) new rows = AreNoted old s rows new
NotesBoth old s (Err TooManySpecies) new rows =
    MAX_SPECIES < length (firsts bytes_eq (old ++ names_in s))
NotesBoth old s (Err NoMemory) new rows = Unit {0}
NotesBoth old s (Err fault) new rows = ⊥

-- a refusal if both rows are the same
abbrev pub TellsApart : List ℤ × List ℤ → Result Unit NetFault → Type 0
TellsApart rows (Ok done) = rows.0 ≡ rows.1 → ⊥
TellsApart rows (Err SelfReaction) = rows.0 ≡ rows.1
TellsApart rows (Err fault) = ⊥

-- the refusal of a statement with too many names
abbrev pub IsCrowded : Statement → NetFault → Type 0
IsCrowded s SelfReaction = SaysSame s
IsCrowded s TooManySpecies = SaysSame s → ⊥
IsCrowded s NoMemory = Unit {0}
IsCrowded s fault = ⊥

-- the names and rows of both sides, or the refusal; equal sides are refused first
abbrev pub NotesSides : List (List ℕ) → Statement → Result Unit NetFault → List (List ℕ) → List ℤ × List ℤ → Type 0
NotesSides old s (Ok done) new rows = (SaysSame s → ⊥) × AreNoted old s rows new
NotesSides old s (Err SelfReaction) new rows = SaysSame s
NotesSides old s (Err TooManySpecies) new rows =
    (SaysSame s → ⊥) × (MAX_SPECIES < length (firsts bytes_eq (old ++ names_in s)))
NotesSides old s (Err NoMemory) new rows = Unit {0}
NotesSides old s (Err fault) new rows = ⊥

-- the place of the row in the new list, to which it is added if it is new
abbrev pub NotesRow : List (List ℤ) → List ℤ → Result ℕ NetFault → List (List ℤ) → Type 0
NotesRow old row (Ok place) new =
    Puts old row new × (place < length new) × (slice_index_or new place row ≡ row) × (length new ≤ MAX_COMPLEXES)
NotesRow old row (Err TooManyComplexes) new =
    (new ≡ old) × (IsIn row old → ⊥) × (MAX_COMPLEXES ≤ length old)
NotesRow old row (Err NoMemory) new = new ≡ old
NotesRow old row (Err fault) new = ⊥

-- the list with the reaction, or a refusal
abbrev pub NotesReaction : List (ℕ × ℕ) → ℕ × ℕ → Result Unit NetFault → List (ℕ × ℕ) → Type 0
NotesReaction old r (Ok done) new = Puts old r new × (length new ≤ MAX_REACTIONS)
NotesReaction old r (Err TooManyReactions) new =
    (new ≡ old) × (IsIn r old → ⊥) × (MAX_REACTIONS ≤ length old)
NotesReaction old r (Err NoMemory) new = new ≡ old
NotesReaction old r (Err fault) new = ⊥

-- ---- all steps

-- the rows of both sides are in the new list, at y and z
pub record PutsBoth (names : List (List ℕ)) (s : Statement) (old : List (List ℤ)) (y z : ℕ) (new : List (List ℤ)) : Type 0 where
  pub left : List ℤ
  pub right : List ℤ
  pub middle : List (List ℤ)
  pub left_row : IsRowFor names s.0 left
  pub right_row : IsRowFor names s.1 right
  pub first : Puts old left middle
  pub second : Puts middle right new
  pub left_in : y < length middle
  pub left_at : slice_index_or middle y left ≡ left
  pub right_in : z < length new
  pub right_at : slice_index_or new z right ≡ right
  pub few : length new ≤ MAX_COMPLEXES

-- the row of the left side is new, and the list is full
pub record LeftIsOver (names : List (List ℕ)) (s : Statement) (old : List (List ℤ)) : Type 0 where
  pub left : List ℤ
  pub left_row : IsRowFor names s.0 left
  pub fresh : IsIn left old → ⊥
  pub full : MAX_COMPLEXES ≤ length old

-- with the row of the left side, the row of the right side is new and the list is full
pub record RightIsOver (names : List (List ℕ)) (s : Statement) (old : List (List ℤ)) : Type 0 where
  pub left : List ℤ
  pub right : List ℤ
  pub middle : List (List ℤ)
  pub left_row : IsRowFor names s.0 left
  pub right_row : IsRowFor names s.1 right
  pub first : Puts old left middle
  pub fresh : IsIn right middle → ⊥
  pub full : MAX_COMPLEXES ≤ length middle

-- the tables with the reaction of the statement
pub record Built (names : List (List ℕ)) (rows : List (List ℤ)) (reactions : List (ℕ × ℕ)) (s : Statement) (names' : List (List ℕ)) (rows' : List (List ℤ)) (reactions' : List (ℕ × ℕ)) : Type 0 where
  pub y : ℕ
  pub z : ℕ
  pub names_are : names' ≡ firsts bytes_eq (names ++ names_in s)
  pub names_few : length names' ≤ MAX_SPECIES
  pub rows_are : PutsBoth names' s rows y z rows'
  pub reactions_are : Puts reactions (y, z) reactions'
  pub reactions_few : length reactions' ≤ MAX_REACTIONS

-- the reaction is new, and the list is full
pub record IsOver (names : List (List ℕ)) (rows : List (List ℤ)) (reactions : List (ℕ × ℕ)) (s : Statement) : Type 0 where
  pub y : ℕ
  pub z : ℕ
  pub rows' : List (List ℤ)
  pub names_few : length (firsts bytes_eq (names ++ names_in s)) ≤ MAX_SPECIES
  pub rows_are : PutsBoth (firsts bytes_eq (names ++ names_in s)) s rows y z rows'
  pub fresh : IsIn (y, z) reactions → ⊥
  pub full : MAX_REACTIONS ≤ length reactions

-- the tables with the reaction of the statement, or the first cause of a refusal
abbrev pub BuildGives : List (List ℕ) → List (List ℤ) → List (ℕ × ℕ) → Statement → Result Unit NetFault → List (List ℕ) → List (List ℤ) → List (ℕ × ℕ) → Type 0
BuildGives names rows reactions s (Ok done) names' rows' reactions' =
    (SaysSame s → ⊥) × Built names rows reactions s names' rows' reactions'
BuildGives names rows reactions s (Err SelfReaction) names' rows' reactions' = SaysSame s
BuildGives names rows reactions s (Err TooManySpecies) names' rows' reactions' =
    (SaysSame s → ⊥) × (MAX_SPECIES < length (firsts bytes_eq (names ++ names_in s)))
BuildGives names rows reactions s (Err TooManyComplexes) names' rows' reactions' =
    let all = firsts bytes_eq (names ++ names_in s) in
    (SaysSame s → ⊥) × (length all ≤ MAX_SPECIES) × (LeftIsOver all s rows ⊎ RightIsOver all s rows)
BuildGives names rows reactions s (Err TooManyReactions) names' rows' reactions' =
    (SaysSame s → ⊥) × IsOver names rows reactions s
BuildGives names rows reactions s (Err NoMemory) names' rows' reactions' = Unit {0}
BuildGives names rows reactions s (Err fault) names' rows' reactions' = ⊥

-- ---- the vectors of reactions

-- the complex that the reaction goes to, minus that which it goes from
abbrev pub difference_of : List (List ℤ) → ℕ × ℕ → List ℤ
difference_of complexes r =
    minus (slice_index_or complexes r.1 []) (slice_index_or complexes r.0 [])
