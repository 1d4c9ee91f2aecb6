use Rattle.crn_ctree.proofs.Prelude.{◌≡◌, ◌≤◌, ◌-◌, ◌∙◌, length, ap, arith, sym, reaction_system, kind_at, row_kinds, rows_count, row_in_b}
use Rattle.crn_ctree.proofs.kinds.kind_of_signs.Goals as goal

pub returns-else-k-reactions : goal.returns-else-k-reactions
returns-else-k-reactions c =
    let net = c.args.net.now in
    let k = c.args.k in
    let le : length net.reactions ≤ k = omega (arith, c.if-k-reactions.false, c.reactions-reactions.ensures.count) in
    let s = k - length net.reactions in
    let place : k - c.reactions-reactions.result ≡ s = ap (λ n. k - n) c.reactions-reactions.ensures.count in
    c.row_kind.ensures (length (reaction_system net).rows) (omega (arith, c.requires, le, place, rows_count net))
    ∙ ap (λ n. kind_at (row_kinds (length (reaction_system net).rows) c.args.signs.now) n) place
    ∙ sym (row_in_b (reaction_system net) c.args.signs.now k le)
