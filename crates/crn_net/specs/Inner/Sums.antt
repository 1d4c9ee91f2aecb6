-- For the contracts of private functions alone.
-- Shares of terms in the sums of their names, these sums, and shares sorted by their names.
use Rattle.std.specs.Prelude.{ℕ, ℤ, pos, ◌+ℤ◌, ◌*ℤ◌, if◌then◌else◌, List, take, drop}
use Rattle.std.specs.List.{fold}
use Rattle.std.specs.List.Sorted.{IsSortedBy}
use Rattle.std.specs.Str.{bytes_eq}
use Rattle.std.specs.Ordering.{nat_cmp, is_lt}
use Rattle.std.specs.Cmp.Lexicographic.{slice_cmp}
use Rattle.crn_net.specs.declared.side_sums.Share.{Share}
use Rattle.crn_net.specs.declared.term.Term.{Term}

-- the share of a term in the sum of its name: its number with a sign
abbrev pub share_of : ℤ → Term → Share
share_of sign t = record { at = t.at; length = t.length; count = sign *ℤ pos t.count }

-- the bytes of the share's name
abbrev pub name_in : List ℕ → Share → List ℕ
name_in text s = take s.length (drop s.at text)

-- the sum of the shares of a name
abbrev pub sum_in : List ℕ → List Share → List ℕ → ℤ
sum_in text shares name =
    fold (λ a s. a +ℤ (if bytes_eq (name_in text s) name then s.count else pos 0)) (pos 0) shares

-- the shares are sorted by their names
abbrev pub AreByName : List ℕ → List Share → Type 0
AreByName text shares =
    IsSortedBy (λ a b. is_lt (slice_cmp nat_cmp (name_in text a) (name_in text b))) shares

-- a share of nothing
abbrev pub no_share : Share
no_share = record { at = 0; length = 0; count = pos 0 }
