use Rattle.crn_text.proofs.QuickPlaces.{numbered}
use Rattle.crn_text.proofs.place.split_number.Goals as goal

pub returns : goal.returns
returns c = numbered c.args.text.now _ _ _ _ _ _ c.split_blanks.ensures c.split_digits.ensures c.split_blanks-2.ensures
