use Rattle.crn_net.proofs.Prelude.{◌≡◌, ◌<◌, length, get_or, false, sym, ◌∙◌, bytes_eq, name_at, Term}
use Rattle.crn_net.proofs.Amounts.{amount_no}
use Rattle.crn_net.proofs.side_sums.has_name.Goals as goal

abbrev none : Term
none = record { at = 0; length = 0; count = 0 }

pub loop-term-preserved : goal.loop-term-preserved
loop-term-preserved c =
    let text = c.args.text.now in
    let name = c.args.name.now in
    let side = c.args.side.now in
    let i = c.loop-term.term-index in
    let lt : i < length side = c.loop-term-test.true in
    let miss : bytes_eq (name_at text (get_or side i none)) name ≡ false = rw c.name_of.ensures at (sym c.eq.ensures ∙ c.if-eq.false) in
    sym (amount_no text name side i 0 none lt (sym c.loop-term.invariant) miss)
