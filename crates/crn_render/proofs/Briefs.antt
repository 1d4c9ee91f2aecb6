-- The words of all verdicts, one after another.
use Rattle.crn_render.proofs.Prelude.{◌≡◌, ◌<◌, ◌+◌, ℕ, suc, List, ◌++◌, length, get_or, take, drop, ap, ◌∙◌, codes, flat_map_step, flat_map_whole, Verdict, NotApplicable, brief, briefs}

-- one word more
pub briefs_step : (vs : List Verdict) (i : ℕ) (v : Verdict) → i < length vs → get_or vs i NotApplicable ≡ v → briefs (take (i + 1) vs) ≡ briefs (take i vs) ++ (codes " " ++ brief v)
briefs_step vs i v lt is = flat_map_step (λ w. codes " " ++ brief w) vs i NotApplicable lt ∙ ap (λ w. briefs (take i vs) ++ (codes " " ++ brief w)) is

-- the words before one, that one, and those after it
pub briefs_whole : (vs : List Verdict) (i : ℕ) (v : Verdict) → i < length vs → get_or vs i NotApplicable ≡ v → briefs vs ≡ (briefs (take i vs) ++ (codes " " ++ brief v)) ++ briefs (drop (suc i) vs)
briefs_whole vs i v lt is = flat_map_whole (λ w. codes " " ++ brief w) vs i NotApplicable lt ∙ ap (λ w. (briefs (take i vs) ++ (codes " " ++ brief w)) ++ briefs (drop (suc i) vs)) is
