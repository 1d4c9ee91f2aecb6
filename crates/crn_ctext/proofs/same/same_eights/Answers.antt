use Rattle.crn_ctext.proofs.Prelude.{◌≡◌, ◌∙◌, sym, ap, rules, arith, w64, from_le_bytes, to_le_bytes, le_bytes_8, eqb-true, nat_tests}
use Rattle.crn_ctext.proofs.same.same_eights.Goals as goal

pub returns : goal.returns
returns c =
    let n = c.from_le_bytes.result in
    let m = c.from_le_bytes-2.result in
    let left : to_le_bytes w64 n ≡ c.args.left = le_bytes_8 c.args.left n (search rules) (search rules) c.from_le_bytes.ensures in
    let right : to_le_bytes w64 m ≡ c.args.right = le_bytes_8 c.args.right m (search rules) (search rules) c.from_le_bytes-2.ensures in (
      (λ t. sym left ∙ ap (to_le_bytes w64) (eqb-true n m t) ∙ right),
      (λ e.
          let is : n ≡ m = c.from_le_bytes.ensures ∙ ap (from_le_bytes w64) e ∙ sym c.from_le_bytes-2.ensures in
          grind (arith, nat_tests)),
    )
