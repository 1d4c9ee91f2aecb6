use Rattle.crn_conc.proofs.Prelude.{◌≡◌, ◌*◌, ℕ, List, length, ap, ap₂, sym, ◌∙◌, ℤ, range_with_len, length-range_with_len, Mat, column, mat_of, vectors, reaction_system, length-rows_after, rows_after, if_ok, column_long}
use Rattle.crn_conc.proofs.system.reaction_matrix.Goals as goal

pub from_entries-requires-clause-count : goal.from_entries-requires-clause-count
from_entries-requires-clause-count c =
    let net = c.args.net.now in
    let range = range_with_len 0 (length net.names) in
    ap length c.in_ok-entries.ensures.value
    ∙ length-rows_after (length net.reactions) (column (vectors net)) range (λ s i. column_long net s)
    ∙ ap₂ (λ (m n : ℕ). m * n) (length-range_with_len 0 (length net.names) ∙ sym c.species.ensures.count) (sym c.reactions.ensures.count)

pub returns : goal.returns
returns c =
    let net = c.args.net.now in
    let range = range_with_len 0 (length net.names) in
    let made = mat_of c.species.result c.reactions.result c.in_ok-entries.entries.items in
    let entries = c.in_ok-entries.ensures.value in
    let same : made ≡ reaction_system net =
    ap₂ (λ (m n : ℕ). mat_of m n c.in_ok-entries.entries.items) (c.species.ensures.count ∙ sym (length-range_with_len 0 (length net.names))) c.reactions.ensures.count
    ∙ ap (λ (xs : List ℤ). mat_of (length range) (length net.reactions) xs) entries
    ∙ ap (λ (rows : List (List ℤ)). let a : Mat = record { cols = length net.reactions; rows = rows } in a)
    (rows_after (length net.reactions) (column (vectors net)) range (λ s i. column_long net s)) in
    if_ok (λ (a : Mat). a ≡ made) (λ (a : Mat). a ≡ reaction_system net) c.from_entries.result (λ a e. e ∙ same) c.from_entries.ensures
