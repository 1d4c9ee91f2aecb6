use Rattle.crn_text.proofs.Prelude.{[], refl}
use Rattle.crn_text.proofs.QuickPlaces.{not_numbered, quick_finds}
use Rattle.crn_text.proofs.place.quick_place.Goals as goal

pub returns-then-begins_with_letter : goal.returns-then-begins_with_letter
returns-then-begins_with_letter c = λ body h.
    let text = c.args.text.now in
    quick_finds body text [] text c.args.end 1 c.name_place.result h (not_numbered text [] text refl refl) refl c.name_place.ensures

pub returns : goal.returns
returns c = λ body h.
    quick_finds body c.args.text.now c.split_number.result.0.now c.split_number.result.1.now c.args.end c.count.result c.name_place-2.result h c.split_number.ensures c.count.ensures c.name_place-2.ensures
