use Rattle.crn_net.proofs.Prelude.{◌≡◌, ◌∙◌, ℕ, List, ap, length, sym, subst, arith, rules, net_of, vectors_of, IsNetwork}
use Rattle.crn_net.proofs.Differences.{rows_same, net_same, joins_rows, made_amounts, made_vectors}
use Rattle.crn_net.proofs.builder.NetBuilder.finish.Goals as goal

pub differences-requires-clause-amounts : goal.differences-requires-clause-amounts
differences-requires-clause-amounts c =
    let names = c.self.inside.names.keys in
    let keys = c.self.inside.rows.keys in
    let width : c.len-species.result ≡ length names = omega arith in
    let same = rows_same names keys c.as_slice-2.result.now c.in-Ok.rows.items c.len-species.result width c.as_slice-2.ensures.keys c.in-Ok.ensures in
    made_amounts names keys c.in-Ok.rows.items c.deref.result.now c.self.inside.reactions c.len-species.result c.self.invariant.0 width same c.deref.ensures.value

pub differences-requires-clause-places : goal.differences-requires-clause-places
differences-requires-clause-places c =
    let names = c.self.inside.names.keys in
    let keys = c.self.inside.rows.keys in
    let width : c.len-species.result ≡ length names = omega arith in
    let same = rows_same names keys c.as_slice-2.result.now c.in-Ok.rows.items c.len-species.result width c.as_slice-2.ensures.keys c.in-Ok.ensures in
    rw c.as_slice-3.ensures (joins_rows names keys c.in-Ok.rows.items c.deref.result.now c.self.inside.reactions c.self.invariant.0 same c.deref.ensures.value)

pub new-requires-clause-network : goal.new-requires-clause-network
new-requires-clause-network c =
    let names = c.self.inside.names.keys in
    let keys = c.self.inside.rows.keys in
    let rows = c.in-Ok.rows.items in
    let width : c.len-species.result ≡ length names = omega arith in
    let same = rows_same names keys c.as_slice-2.result.now rows c.len-species.result width c.as_slice-2.ensures.keys c.in-Ok.ensures in
    rw c.into_list.ensures (subst IsNetwork (sym (net_same names keys rows c.self.inside.reactions same)) (record { partial = c.self.invariant.0; some = search rules }))

pub new-requires-clause-vectors : goal.new-requires-clause-vectors
new-requires-clause-vectors c =
    let names = c.self.inside.names.keys in
    let width : c.len-species.result ≡ length names = omega arith in
    rw c.into_list.ensures (made_vectors names c.in-Ok.rows.items c.deref.result.now c.self.inside.reactions c.as_slice-3.result.now c.in-Ok-differences.differences.items c.len-species.result width c.deref.ensures.value c.as_slice-3.ensures c.in-Ok-differences.ensures)

pub returns : goal.returns
returns c =
    let names = c.self.inside.names.keys in
    let keys = c.self.inside.rows.keys in
    let rows = c.in-Ok.rows.items in
    let width : c.len-species.result ≡ length names = omega arith in
    let same = rows_same names keys c.as_slice-2.result.now rows c.len-species.result width c.as_slice-2.ensures.keys c.in-Ok.ensures in
    let net = c.new.ensures ∙ ap (λ (rs : List (ℕ × ℕ)). net_of names rows rs) c.into_list.ensures ∙ net_same names keys rows c.self.inside.reactions same in
    (net ∙ c.self.view_is, subst IsNetwork (sym net) (record { partial = c.self.invariant.0; some = search rules }))
