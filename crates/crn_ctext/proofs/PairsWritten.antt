-- The linked pairs within terminal classes, listed reaction by reaction.
use Rattle.crn_ctext.proofs.Prelude.{◌≡◌, ◌+◌, ◌<◌, ◌++◌, ◌∙◌, ℕ, true, List, [], ◌∷◌, length, take, set, ap, sym, take_more_set, Net, is_pair, pairs_to, pairs_yes}

-- one more is listed
pub listed_more : (net : Net) (labels exits pairs : List ℕ) (count r : ℕ) → count < length pairs → take count pairs ≡ pairs_to net labels exits r → is_pair net labels exits (r + 1) ≡ true → take (count + 1) (set pairs count (r + 1)) ≡ pairs_to net labels exits (r + 1)
listed_more net labels exits pairs count r lt e is = take_more_set pairs count (r + 1) lt ∙ ap (λ (l : List ℕ). l ++ (r + 1) ∷ []) e ∙ sym (pairs_yes net labels exits r is)
