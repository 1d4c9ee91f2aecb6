-- For the contracts of private functions alone.
-- Sides that are remembered because they were read before. Shapes: places in a text count bytes from 0.
use Rattle.std.specs.Prelude.{◌≡◌, ℕ, ◌+◌, ◌%◌, ◌^◌, ◌++◌, List, Option, Some, None, true}
use Rattle.std.specs.Borrow.{Bor}
use Rattle.crn_net.specs.declared.term.Term.{Term}
use Rattle.crn_text.specs.Tokens.{tokens}
use Rattle.crn_text.specs.Inner.Pieces.{ReadsTerms}

-- the term where its side begins this many bytes later
abbrev pub moved : ℕ → Term → Term
moved by t = record { at = (t.at + by) % 2 ^ 32; length = t.length; count = t.count }

-- the terms of a side, if they are found, with places from its first byte on
abbrev pub FindsTerms : List ℕ → Option (Bor (List Term)) → Type 0
FindsTerms side None = Unit {0}
FindsTerms side (Some terms) = ReadsTerms side side terms.now true

-- the piece is a prefix of the text with the same tokens
pub record IsTrimmed (text piece : List ℕ) : Type 0 where
  pub rest : List ℕ
  pub whole : text ≡ piece ++ rest
  pub same : tokens piece ≡ tokens text
