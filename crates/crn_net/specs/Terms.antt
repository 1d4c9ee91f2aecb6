-- The names and numbers that the terms of a side stand for, in a text.
-- Shapes: places in a text count bytes from 0. A statement is two sides, each a list of names with numbers.
use Rattle.std.specs.Prelude.{◌≤◌, ◌+◌, ℕ, List, length, map, take, drop}
use Rattle.std.specs.List.{AllByRecursion}
use Rattle.crn_vec.specs.Network.{IsName, amount_in, Statement}
use Rattle.crn_vec.specs.declared.limits.TheConstants.{MAX_AMOUNT, MAX_TERMS}
use Rattle.crn_net.specs.declared.term.Term.{Term}

-- the bytes of the term's name
abbrev pub name_at : List ℕ → Term → List ℕ
name_at text t = take t.length (drop t.at text)

-- the names of a side with their numbers
abbrev pub side_of : List ℕ → List Term → List (List ℕ × ℕ)
side_of text terms = map (λ t. (name_at text t, t.count)) terms

-- the statement of the terms of both sides
abbrev pub statement_of : List ℕ → List Term → List Term → Statement
statement_of text left right = (side_of text left, side_of text right)

-- the term is a name of the text, with a number of at least 1
pub record IsTerm (text : List ℕ) (t : Term) : Type 0 where
  pub inside : t.at + t.length ≤ length text
  pub name : IsName (name_at text t)
  pub some : 1 ≤ t.count

-- terms of the text, at most as many as the limit, and of each name at most the limit of an amount
pub record IsSide (text : List ℕ) (terms : List Term) : Type 0 where
  pub each : AllByRecursion (IsTerm text) terms
  pub amounts : (name : List ℕ) → amount_in (side_of text terms) name ≤ MAX_AMOUNT
  pub few : length terms ≤ MAX_TERMS
