use Rattle.crn_net.proofs.Prelude.{◌≡◌, ◌∙◌, ℕ, length, take, ap, sym, subst, true, false, arith, is_err, Net, statement_of, net_of, AddGives}
use Rattle.crn_net.proofs.Growth.{Ready}
use Rattle.crn_net.proofs.Adding.{said_of, build_grows, build_stops, at_err}
use Rattle.crn_net.proofs.builder.NetBuilder.add.Goals as goal

pub invariant_of-self-else-is_err : goal.invariant_of-self-else-is_err
invariant_of-self-else-is_err c =
    let s = statement_of c.args.text.now c.args.left.now c.args.right.now in
    let ready : Ready c.self.inside.names.keys c.self.inside.rows.keys c.self.inside.reactions = record { network = c.self.invariant.0; padded = c.self.invariant.1 } in
    let err : is_err c.build-added.result ≡ false = sym c.is_err.ensures.value ∙ c.if-is_err.false in
    let g = build_grows c.self.inside.names.keys c.self.inside.rows.keys c.self.inside.reactions s c.build-added.new.names.keys c.build-added.new.rows.keys c.build-added.new.reactions c.build-added.result ready (said_of c.args.text.now c.args.left.now c.args.right.now c.requires.left c.requires.right) err c.build-added.ensures.gives in
    (g.1, g.2)

pub returns-then-is_err : goal.returns-then-is_err
returns-then-is_err c =
    let s = statement_of c.args.text.now c.args.left.now c.args.right.now in
    let ready : Ready c.self.inside.names.keys c.self.inside.rows.keys c.self.inside.reactions = record { network = c.self.invariant.0; padded = c.self.invariant.1 } in
    let err : is_err c.build-added.result ≡ true = sym c.is_err.ensures.value ∙ c.if-is_err.true in
    let g = build_stops c.self.inside.names.keys c.self.inside.rows.keys c.self.inside.reactions s c.build-added.new.names.keys c.build-added.new.rows.keys c.build-added.new.reactions c.build-added.result ready err c.build-added.ensures.gives in
    let species : c.len-species.result ≡ length c.self.inside.names.keys = omega arith in
    let complexes : c.len-complexes.result ≡ length c.self.inside.rows.keys = omega arith in
    let names : c.truncate.new.self.keys ≡ c.self.inside.names.keys = c.truncate.ensures.keys ∙ ap (λ (n : ℕ). take n c.build-added.new.names.keys) species ∙ c.build-added.ensures.same_names in
    let rows : c.truncate-then-is_err.new.self.keys ≡ c.self.inside.rows.keys = c.truncate-then-is_err.ensures.keys ∙ ap (λ (n : ℕ). take n c.build-added.new.rows.keys) complexes ∙ c.build-added.ensures.same_rows in
    let reactions : c.build-added.new.reactions ≡ c.self.inside.reactions = at_err c.build-added.result err c.build-added.ensures.same_reactions in
    rw (names, rows, reactions) (subst (λ (net : Net). AddGives net s c.build-added.result (net_of c.self.inside.names.keys c.self.inside.rows.keys c.self.inside.reactions)) c.self.view_is g)

pub returns-else-is_err : goal.returns-else-is_err
returns-else-is_err c =
    let s = statement_of c.args.text.now c.args.left.now c.args.right.now in
    let ready : Ready c.self.inside.names.keys c.self.inside.rows.keys c.self.inside.reactions = record { network = c.self.invariant.0; padded = c.self.invariant.1 } in
    let err : is_err c.build-added.result ≡ false = sym c.is_err.ensures.value ∙ c.if-is_err.false in
    let g = build_grows c.self.inside.names.keys c.self.inside.rows.keys c.self.inside.reactions s c.build-added.new.names.keys c.build-added.new.rows.keys c.build-added.new.reactions c.build-added.result ready (said_of c.args.text.now c.args.left.now c.args.right.now c.requires.left c.requires.right) err c.build-added.ensures.gives in
    subst (λ (net : Net). AddGives net s c.build-added.result (net_of c.build-added.new.names.keys c.build-added.new.rows.keys c.build-added.new.reactions)) c.self.view_is g.0
