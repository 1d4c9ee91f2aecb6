use Rattle.crn_net.proofs.Prelude.{ℤ, ◌≡◌, ◌∙◌, ◌<◌, List, length, get_or, sym, subst, arith, signed_items}
use Rattle.crn_net.proofs.tables.is_row_at.Goals as goal

pub returns-then-place-len : goal.returns-then-place-len
returns-then-place-len c h =
    let keys = c.args.rows.now.keys in
    let known = c.index-as_slice-place.result in
    let is : known ≡ c.args.row.now = (signed_items known c.args.row.now).0 (sym c.eq.ensures ∙ h) in
    let at : known ≡ get_or keys c.args.place known = rw c.as_slice.ensures.keys at c.index-as_slice-place.is in
    let lt : c.args.place < length keys = omega (arith, c.if-place-len.true, c.len.ensures) in
    (lt, sym (subst (λ (row : List ℤ). row ≡ get_or keys c.args.place row) is at))
