use Rattle.crn_net.proofs.Prelude.{◌≡◌, ◌<◌, ◌∙◌, arith, length, map, ap, sym, subst, List, ℕ, [], get_or, take, ℤ, get_or-map, length-map, Net, reaction_vector, AreWithin, MAX_AMOUNT, net_of, vectors_of}
use Rattle.crn_net.proofs.Differences.{reaction_small, lent_vector}
use Rattle.crn_net.proofs.network.Network.reaction_vector.Goals as goal

lent : (names : List (List ℕ)) (rows differences : List (List ℤ)) (reactions : List (ℕ × ℕ)) (r k : ℕ) (row lent_part : List ℤ) → vectors_of (length names) differences ≡ map (reaction_vector (net_of names rows reactions)) reactions → r < length reactions → row ≡ get_or differences r row → lent_part ≡ take k row → k ≡ length names
    → lent_part ≡ reaction_vector (net_of names rows reactions) (get_or reactions r (0, 0))
lent names rows differences reactions r k row part e lt is prefix width =
    let net = net_of names rows reactions in
    let count = length-map reactions (reaction_vector net) in
    prefix ∙ ap (λ (m : ℕ). take m row) width ∙ lent_vector (length names) differences (map (reaction_vector net) reactions) r row e (omega (arith, count, lt)) is ∙ get_or-map (reaction_vector net) reactions r (0, 0) [] lt

pub returns-clause-value : goal.returns-clause-value
returns-clause-value c =
    let n = c.self.inside.names.keys in
    let width : c.len.result ≡ length n = omega arith in
    let lt : c.args.r < length c.self.inside.reactions.items = subst (λ (net : Net). c.args.r < length net.reactions) (sym c.self.view_is) c.requires in
    let is = lent n c.self.inside.rows.items c.self.inside.differences.items c.self.inside.reactions.items c.args.r c.len.result c.index.result.now c.split_at.result.0.now c.self.invariant.1 lt c.index.ensures c.split_at.ensures.front width in
    subst (λ (net : Net). c.split_at.result.0.now ≡ reaction_vector net (get_or net.reactions c.args.r (0, 0))) c.self.view_is is

pub returns-clause-small : goal.returns-clause-small
returns-clause-small c =
    let n = c.self.inside.names.keys in
    let width : c.len.result ≡ length n = omega arith in
    let lt : c.args.r < length c.self.inside.reactions.items = subst (λ (net : Net). c.args.r < length net.reactions) (sym c.self.view_is) c.requires in
    let is = lent n c.self.inside.rows.items c.self.inside.differences.items c.self.inside.reactions.items c.args.r c.len.result c.index.result.now c.split_at.result.0.now c.self.invariant.1 lt c.index.ensures c.split_at.ensures.front width in
    subst (λ (v : List ℤ). AreWithin MAX_AMOUNT v) (sym is) (reaction_small (net_of n c.self.inside.rows.items c.self.inside.reactions.items) c.args.r c.self.invariant.0 lt)
