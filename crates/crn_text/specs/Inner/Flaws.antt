-- For the contracts of private functions alone.
-- The first flaw of a place for a term, of a side, and of sides, as the search for a line's fault finds it. It defines
-- no fault: the faults of a line, and their order, are defined in Faults.
use Rattle.std.specs.Prelude.{◌≡◌, ◌==◌, nat_lt, not, ℕ, Bool, false, if◌then◌else◌, Option, List, length, map}
use Rattle.std.specs.Borrow.{Bor}
use Rattle.std.specs.List.{list_any}
use Rattle.crn_vec.specs.declared.limits.TheConstants.{MAX_NAME}
use Rattle.crn_net.specs.declared.term.Term.{Term}
use Rattle.crn_text.specs.Tokens.{Token, tokens}
use Rattle.crn_text.specs.Sides.{is_term, is_side, term_of, terms_of}
use Rattle.crn_text.specs.Faults.{is_empty, has_empty_place, has_long_name, has_zero}
use Rattle.crn_text.specs.Inner.Pieces.{SplitsAt}
use Rattle.crn_text.specs.declared.first_fault.Flaw.{Flaw}
use Rattle.crn_text.specs.declared.first_fault.Flaw.TheVariants.{NoToken, NoTerm, LongName, ZeroNumber, Other}
use Rattle.crn_text.specs.declared.fault.TextCode.{TextCode}
use Rattle.crn_text.specs.declared.fault.TextCode.TheVariants.{EmptySide, BadName, NameTooLong, ZeroCoefficient, CoefficientTooLarge}

-- the flaw of the first of these tests that is true
abbrev pub first_flaw : Bool → Bool → Bool → Bool → Flaw
first_flaw no_token no_term long zero =
    if no_token then NoToken else (
    if no_term then NoTerm else (
    if long then LongName else (
    if zero then ZeroNumber else Other)))

-- the first flaw of a place for a term
abbrev pub place_flaw : List Token → Flaw
place_flaw ws =
    first_flaw (is_empty ws) (not (is_term ws)) (nat_lt MAX_NAME (length (term_of ws).0)) ((term_of ws).1 == 0)

-- the flaw of a place that holds a term
abbrev pub term_flaw : Term → Flaw
term_flaw t = first_flaw false false (nat_lt MAX_NAME t.length) (t.count == 0)

-- the first flaw of the place at the start of a text, up to its first plus sign
pub record FlawsPlace (text : List ℕ) (flaw : Flaw) (after : Option (Bor (List ℕ))) : Type 0 where
  pub place : List ℕ
  pub split : SplitsAt 43 text place after
  pub is : flaw ≡ place_flaw (tokens place)

-- the first flaw of a side
abbrev pub side_flaw : List Token → Flaw
side_flaw ws =
    first_flaw (has_empty_place ws) (not (is_side ws)) (has_long_name (terms_of ws)) (has_zero (terms_of ws))

-- the first flaw of sides
abbrev pub sides_flaw : List (List Token) → Flaw
sides_flaw ss =
    first_flaw (list_any has_empty_place ss) (list_any (λ s. not (is_side s)) ss)
    (list_any has_long_name (map terms_of ss)) (list_any has_zero (map terms_of ss))

-- the code of a line's fault, if this is the first flaw of its sides
abbrev pub flaw_code : Flaw → TextCode
flaw_code NoToken = EmptySide
flaw_code NoTerm = BadName
flaw_code LongName = NameTooLong
flaw_code ZeroNumber = ZeroCoefficient
flaw_code Other = CoefficientTooLarge
