use Rattle.crn_tab.proofs.Prelude.{◌≡◌, ◌≤◌, ◌*◌, ◌+◌, ℕ, List, length, drop, ◌∙◌, arith, ℤ, length-take-le, length-drop, row_at}
use Rattle.crn_tab.proofs.LeadMade.{plain, lead_made}
use Rattle.crn_tab.proofs.lead.make_lead.Goals as goal

row_long : (w r : ℕ) (rows : List ℤ) → r * w + w ≤ length rows → length (row_at w rows r) ≡ w
row_long w r rows h = length-take-le w (drop (r * w) rows) (omega (arith, length-drop (r * w) rows))

pub returns-then-lead-w-lt0 : goal.returns-then-lead-w-lt0
returns-then-lead-w-lt0 c =
    let w = length c.args.lead.now in
    lead_made w c.args.c (row_at w c.args.rows.now c.args.r) c.copy_from_slice.new.self c.swap.new.self c.negate.new.row
    (c.copy_from_slice.ensures.after ∙ c.part.ensures) (row_long w c.args.r c.args.rows.now c.requires.inside) c.swap.ensures.len c.negate.auto.row
    c.swap.ensures.by_index c.requires.small c.negate.ensures c.if-lead-w-lt0.true

pub returns-else-lead-w-lt0 : goal.returns-else-lead-w-lt0
returns-else-lead-w-lt0 c =
    let w = length c.args.lead.now in
    plain w c.args.c (row_at w c.args.rows.now c.args.r) c.copy_from_slice.new.self c.swap.new.self
    (c.copy_from_slice.ensures.after ∙ c.part.ensures) (row_long w c.args.r c.args.rows.now c.requires.inside) c.swap.ensures.len
    c.swap.ensures.by_index c.requires.small c.requires.some c.if-lead-w-lt0.false
