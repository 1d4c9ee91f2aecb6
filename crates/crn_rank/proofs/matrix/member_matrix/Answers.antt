use Rattle.crn_rank.proofs.Prelude.{◌≡◌, ◌*◌, ℕ, length, ap, sym, ◌∙◌, arith, Mat, mat_of, some_species, length-rows_after, if_ok, vector_of, member_matrix}
use Rattle.crn_rank.proofs.MemberRows.{members_few, vector_width, matrix_of}
use Rattle.crn_rank.proofs.matrix.member_matrix.Goals as goal

pub from_entries-requires-clause-count : goal.from_entries-requires-clause-count
from_entries-requires-clause-count c =
    let net = c.args.net.now in
    let members = c.args.members.now in
    ap length c.in_ok-entries.ensures.value
    ∙ length-rows_after (length net.names) (vector_of net) members (λ r i. vector_width net members r c.species.ensures.network c.requires i)
    ∙ ap (λ (n : ℕ). length members * n) (sym c.species.ensures.count)

pub from_entries-requires-clause-some : goal.from_entries-requires-clause-some
from_entries-requires-clause-some c = omega (arith, some_species c.args.net.now c.species.ensures.network, c.species.ensures.count)

pub from_entries-requires-clause-few : goal.from_entries-requires-clause-few
from_entries-requires-clause-few c =
    let n = c.species.ensures.network in
    omega (arith, members_few c.args.net.now c.args.members.now c.requires, n.partial.reactions_limit, c.species.ensures.limit)

pub returns : goal.returns
returns c =
    let net = c.args.net.now in
    let members = c.args.members.now in
    let a = mat_of (length members) c.species.result c.in_ok-entries.entries.items in
    if_ok (λ (made : Mat). made ≡ a) (λ (made : Mat). made ≡ member_matrix net members) c.from_entries.result
    (λ made e. e ∙ matrix_of net members c.species.result c.in_ok-entries.entries.items c.species.ensures.network c.requires c.species.ensures.count c.in_ok-entries.ensures.value)
    c.from_entries.ensures
