-- For the contracts of private functions alone.
-- The words of a table of record kinds.
-- Source: this project's own.
use Rattle.std.specs.Prelude.{◌≡◌, ℕ, Bool, true, false, ◌&&◌, ◌||◌, not, nat_le, if◌then◌else◌, List, [], ◌∷◌}
use Rattle.crn_ctext.specs.Kinds.{tree_words, known_words}
use Rattle.crn_ctext.specs.Expect.{text_of}
use Rattle.crn_ctext.specs.declared.kinds.RecordKind.{RecordKind}

-- the kind is one of this version, and of a tree if only those are asked for
abbrev pub is_row_of : ℕ → Bool → RecordKind → Bool
is_row_of version trees kind = nat_le kind.version version && (kind.tree || not trees)

-- the words of these kinds
abbrev pub words_of : ℕ → Bool → List RecordKind → List (List ℕ)
words_of version trees [] = []
words_of version trees (kind ∷ kinds) =
    if is_row_of version trees kind then text_of kind.word ∷ words_of version trees kinds else words_of version trees kinds

-- the words of a version, or of its trees alone
abbrev pub asked_words : ℕ → Bool → List (List ℕ)
asked_words version true = tree_words version
asked_words version false = known_words version

-- the rows have the words of documents, in their order
pub record IsTable (rows : List RecordKind) : Type 0 where
  pub first : words_of 1 false rows ≡ known_words 1
  pub second : words_of 2 false rows ≡ known_words 2
  pub first_trees : words_of 1 true rows ≡ tree_words 1
  pub second_trees : words_of 2 true rows ≡ tree_words 2
