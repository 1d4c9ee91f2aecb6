use Rattle.crn_net.proofs.Prelude.{◌≡◌, ◌<◌, ◌∙◌, arith, length, ap, sym, subst, List, ℕ, refl, [], get_or, take, ℤ, AllByRecursion, Net, IsAmount, net_of, vectors_of}
use Rattle.crn_net.proofs.Differences.{vector_amounts, lent_vector}
use Rattle.crn_net.proofs.network.Network.vector.Goals as goal

pub returns-clause-amounts : goal.returns-clause-amounts
returns-clause-amounts c =
    let n = c.self.inside.names.keys in
    let rows = c.self.inside.rows.items in
    let width : c.len.result ≡ length n = omega arith in
    let lt : c.args.c < length (vectors_of (length n) rows) = subst (λ (net : Net). c.args.c < length net.complexes) (sym c.self.view_is) c.requires in
    let is : c.split_at.result.0.now ≡ get_or (vectors_of (length n) rows) c.args.c [] = c.split_at.ensures.front ∙ ap (λ (k : ℕ). take k c.index.result.now) width ∙ lent_vector (length n) rows (vectors_of (length n) rows) c.args.c c.index.result.now refl lt c.index.ensures in
    subst (λ (v : List ℤ). AllByRecursion IsAmount v) (sym is) (vector_amounts (net_of n rows c.self.inside.reactions.items) c.args.c c.self.invariant.0 lt)
