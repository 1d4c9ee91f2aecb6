-- That signals are sought for the vector first, and for its negative only after that.
-- Source: this project's own.
use Rattle.std.specs.Prelude.{◌≡◌, negsuc}
use Rattle.crn_cert.specs.declared.answer.Verdict.{Verdict}
use Rattle.crn_cert.specs.declared.answer.Verdict.TheVariants.{YesSignal}

-- yes with the turn -1, for the negative of the vector
abbrev pub IsForNegative : Verdict → Type 0
IsForNegative (YesSignal turn shelves mu level weights) = turn ≡ negsuc 0
IsForNegative other = ⊥
