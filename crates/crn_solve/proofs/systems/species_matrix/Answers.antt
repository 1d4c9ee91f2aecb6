use Rattle.crn_solve.proofs.Prelude.{◌≡◌, ◌*◌, ℕ, List, length, ap, ap₂, sym, ◌∙◌, arith, ℤ, reaction_vector, Mat, mat_of, species_system, length-rows_after, rows_after, if_ok, reaction_long, some_species}
use Rattle.crn_solve.proofs.systems.species_matrix.Goals as goal

pub from_entries-requires-clause-count : goal.from_entries-requires-clause-count
from_entries-requires-clause-count c =
    let net = c.args.net.now in
    ap length c.in_ok-entries.ensures.value
    ∙ length-rows_after (length net.names) (reaction_vector net) net.reactions (reaction_long net c.species.ensures.network)
    ∙ ap₂ (λ (m n : ℕ). m * n) (sym c.reactions.ensures.count) (sym c.species.ensures.count)

pub from_entries-requires-clause-some : goal.from_entries-requires-clause-some
from_entries-requires-clause-some c = omega (arith, some_species c.args.net.now c.species.ensures.network, c.species.ensures.count)

pub returns : goal.returns
returns c =
    let net = c.args.net.now in
    let made = mat_of c.reactions.result c.species.result c.in_ok-entries.entries.items in
    let entries = c.in_ok-entries.ensures.value in
    let same : made ≡ species_system net =
    ap₂ (λ (m n : ℕ). mat_of m n c.in_ok-entries.entries.items) c.reactions.ensures.count c.species.ensures.count
    ∙ ap (λ (xs : List ℤ). mat_of (length net.reactions) (length net.names) xs) entries
    ∙ ap (λ (rows : List (List ℤ)). let a : Mat = record { cols = length net.names; rows = rows } in a)
    (rows_after (length net.names) (reaction_vector net) net.reactions (reaction_long net c.species.ensures.network)) in
    if_ok (λ (a : Mat). a ≡ made) (λ (a : Mat). a ≡ species_system net) c.from_entries.result (λ a e. e ∙ same) c.from_entries.ensures
