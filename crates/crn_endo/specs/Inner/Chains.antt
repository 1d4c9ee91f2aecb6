-- For the contracts of private functions alone.
-- The reactions from a complex, one after another.
-- Source: this project's own.
use Rattle.std.specs.Prelude.{◌≡◌, ◌≢◌, ◌≤◌, ◌<◌, ◌+◌, ℕ, List, length, slice_index_or}
use Rattle.crn_vec.specs.Network.{Net}
use Rattle.crn_endo_check.specs.Endotactic.{reaction_at}

-- q is the first reaction from complex c that is at least n, or the number of reactions if there is none
pub record IsNext (net : Net) (c n q : ℕ) : Type 0 where
  pub least : n ≤ q
  pub most : q ≤ length net.reactions
  pub from : q < length net.reactions → (reaction_at net q).0 ≡ c
  pub none : (k : ℕ) → n ≤ k → k < q → (reaction_at net k).0 ≢ c

-- of the reactions from n on, each complex has the first from it, and each has the next from the same complex
pub record AreChains (net : Net) (n : ℕ) (first next : List ℕ) : Type 0 where
  pub complexes : length first ≡ length net.complexes
  pub reactions : length next ≡ length net.reactions
  pub begin : (c : ℕ) → c < length first → IsNext net c n (slice_index_or first c 0)
  pub after : (q : ℕ) → n ≤ q → q < length next
      → IsNext net (reaction_at net q).0 (q + 1) (slice_index_or next q 0)
