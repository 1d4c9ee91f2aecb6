use Rattle.crn_net.proofs.Prelude.{◌≡◌, ◌<◌, length, get_or, false, inl, inr, arith, cases_Bool, all_at, IsTerm, name_at, Term}
use Rattle.crn_net.proofs.Amounts.{first_some}
use Rattle.crn_net.proofs.side_sums.first_name_is_missing.Goals as goal

abbrev none : Term
none = record { at = 0; length = 0; count = 0 }

pub returns-in-len1-up : goal.returns-in-len1-up
returns-in-len1-up c = λ missing same.
    let text = c.args.text.now in
    let left = c.args.left.now in
    let lt : 0 < length left = omega (arith, c.in-len1-up.len_at_least) in
    let some = (all_at (IsTerm text) left 0 none c.requires.each lt).some in
    let first = first_some text left none lt some in
    let here = same (name_at text (get_or left 0 none)) in
    let no' : c.has_name.result ≡ false = elim (cases_Bool c.has_name.result) [ inl yes' ↦ absurd (let e = rw yes' at missing in cc) | inr no' ↦ no' ] in
    let gone = rw c.name_of.ensures at (c.has_name.ensures no') in
    absurd (omega (arith, first, here, gone))
