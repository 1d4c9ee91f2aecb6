-- The numbers and names of the refusals of a network text.
use Rattle.crn_render.proofs.Prelude.{refl, SelfReaction, TooManySpecies, TooManyComplexes, TooManyReactions, NoMemory, NotAscii, NoArrow, EmptySide, BadName, NameTooLong, ZeroCoefficient, CoefficientTooLarge, StrayMark, TextTooLong, TextCodesHaveTheirNames}
use Rattle.crn_text.specs.declared.fault.TextCode.TheVariants.{NoReaction}

pub text_codes_have_their_names : TextCodesHaveTheirNames
text_codes_have_their_names SelfReaction = refl
text_codes_have_their_names TooManySpecies = refl
text_codes_have_their_names TooManyComplexes = refl
text_codes_have_their_names TooManyReactions = refl
text_codes_have_their_names NoReaction = refl
text_codes_have_their_names NoMemory = refl
text_codes_have_their_names NotAscii = refl
text_codes_have_their_names NoArrow = refl
text_codes_have_their_names EmptySide = refl
text_codes_have_their_names BadName = refl
text_codes_have_their_names NameTooLong = refl
text_codes_have_their_names ZeroCoefficient = refl
text_codes_have_their_names CoefficientTooLarge = refl
text_codes_have_their_names StrayMark = refl
text_codes_have_their_names TextTooLong = refl
