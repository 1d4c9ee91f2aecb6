-- For the contracts of private functions alone.
-- A text that is compared with the canonical text of a network, piece by piece.
use Rattle.std.specs.Prelude.{◌≡◌, ℕ, suc, Option, Some, None, List, [], ◌∷◌, ◌++◌}
use Rattle.std.specs.Borrow.{Bor}
use Rattle.crn_vec.specs.Network.{Net}
use Rattle.crn_text.specs.Canonical.{complex_text}
use Rattle.crn_text.specs.declared.canonical.Piece.{Piece}

-- the part of the text after the piece, or none if the text doesn't begin with the piece
abbrev pub Follows : List ℕ → List ℕ → Option (Bor (List ℕ)) → Type 0
Follows piece text None = (rest : List ℕ) → text ≡ piece ++ rest → ⊥
Follows piece text (Some rest) = text ≡ piece ++ rest.now

-- a text that is known is that of complex c
abbrev pub IsKnown : Net → ℕ → Option (Bor (List ℕ)) → Type 0
IsKnown net c None = Unit {0}
IsKnown net c (Some text) = text.now ≡ complex_text net c

-- a piece that was met is the text of complex c
abbrev pub IsPiece : Net → ℕ → Option Piece → Type 0
IsPiece net c None = Unit {0}
IsPiece net c (Some piece) = piece.bytes.now ≡ complex_text net c

-- so are these of the complexes from c on
abbrev pub AreFound : Net → ℕ → List (Option Piece) → Type 0
AreFound net c [] = Unit {0}
AreFound net c (piece ∷ pieces) = IsPiece net c piece × AreFound net (suc c) pieces
