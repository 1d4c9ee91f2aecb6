-- For the contracts of private functions alone.
-- What gathering the bytes of the next line gives.
-- Source: this project's own. Shapes: the old bytes are those that were held, and the new ones those that are held now.
use Rattle.std.specs.Prelude.{◌≡◌, ◌≤◌, ◌<◌, ◌+◌, ℕ, List, ◌++◌, length, take, Option, Some, None, slice_index}
use Rattle.crn_io.specs.declared.gather.Gathered.{Gathered}
use Rattle.crn_io.specs.declared.gather.Gathered.TheVariants.{Ended, Enough, Nothing, Failed}
use Rattle.crn_io.specs.declared.lines.TheConstants.{MAX_AHEAD}
use Rattle.crn_io.specs.Device.{SourceSeen, Rose}
use Rattle.crn_io.specs.Lines.{IsLine}
use Rattle.crn_io.specs.Pull.{Consumes, HasNoneLeft}

-- the first LF is here, if there is one
abbrev pub EndsAt : List ℕ → Option ℕ → Type 0
EndsAt bytes None = IsLine bytes
EndsAt bytes (Some i) = (i < length bytes) × (slice_index bytes i ≡ 10) × IsLine (take i bytes)

-- why gathering stopped, by the bytes that are held now and by what the source has left
abbrev pub GatherIs : Gathered → List ℕ → ℕ → Option (List ℕ) → Type 0
GatherIs (Ended i) new most after = EndsAt new (Some i) × (length new ≤ i + MAX_AHEAD)
GatherIs Enough new most after = IsLine new × (most ≤ length new)
GatherIs Nothing new most after = IsLine new × (length new < most) × HasNoneLeft after
GatherIs Failed new most after = IsLine new × (length new < most)

-- the count of faults rose if the source failed, and else it is as before
abbrev pub GatherCounts : Gathered → ℕ → ℕ → Type 0
GatherCounts Failed before now = Rose before now × (before ≤ now)
GatherCounts answer before now = now ≡ before

-- the bytes are fewer than `most` with no LF, and then those of one pull at most
abbrev pub AreHeld : List ℕ → ℕ → Type 0
AreHeld bytes most = (begun last : List ℕ) × (bytes ≡ begun ++ last) × IsLine begun
    × (length begun < most) × (length last ≤ MAX_AHEAD)

-- some bytes were consumed and added to those that were held
abbrev pub GatherGives : Gathered → List ℕ → List ℕ → ℕ → SourceSeen → SourceSeen → Type 0
GatherGives answer old new most before now = (pulled : List ℕ) × (new ≡ old ++ pulled)
    × Consumes before.left pulled now.left × GatherIs answer new most now.left
    × GatherCounts answer before.faults now.faults × AreHeld new most
