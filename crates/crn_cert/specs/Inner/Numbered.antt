-- For the contracts of private functions alone.
-- The numbers of cuts, one cut after another.
-- Source: this project's own.
use Rattle.std.specs.Prelude.{◌≡◌, ℕ, ℤ, List, [], ◌∷◌, map}
use Rattle.std.specs.Borrow.{Bor}
use Rattle.crn_io.specs.declared.lines.TheConstants.{MAX_SHARED}
use Rattle.crn_cert.specs.Shares.{share_of_cuts}
use Rattle.crn_cert.specs.Preorder.{Listed, ListedSplitTwo, ListedSplitThree, ListedCutA, ListedCutB, ListedFlat}

-- the lists that these keys refer to and these numbers are the share of these cuts
abbrev pub AreNumbered : List (Bor (List ℤ)) → List ℕ → List (List ℤ) → Type 0
AreNumbered keys leaf cuts = (map (λ u. u.now) keys ≡ (share_of_cuts MAX_SHARED cuts).table)
    × (leaf ≡ (share_of_cuts MAX_SHARED cuts).leaf)

-- the lists of the cuts among nodes
abbrev pub cuts_listed : List Listed → List (List ℤ)
cuts_listed [] = []
cuts_listed (ListedSplitTwo ∷ more) = cuts_listed more
cuts_listed (ListedSplitThree ∷ more) = cuts_listed more
cuts_listed (ListedCutA u ∷ more) = u ∷ cuts_listed more
cuts_listed (ListedCutB u ∷ more) = u ∷ cuts_listed more
cuts_listed (ListedFlat ∷ more) = cuts_listed more
