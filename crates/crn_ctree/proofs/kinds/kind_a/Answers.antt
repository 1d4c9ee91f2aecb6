use Rattle.crn_ctree.proofs.Prelude.{◌≡◌, ◌+◌, length, sym, ap, ◌∙◌, arith, width, kind_at, Net, reaction_system, rows_count, problem_of, Problem}
use Rattle.crn_ctree.proofs.kinds.kind_a.Goals as goal

-- the coordinates of system 2
two : (net : Net) → width (reaction_system net) ≡ length net.reactions + length net.names
two net = omega (arith, rows_count net)

pub kind_of_table-requires : goal.kind_of_table-requires
kind_of_table-requires c =
    let net = c.args.net.now in
    let same = ap (λ (q : Problem). width (problem_of net q).matrix_a) c.in-Concordance.is in
    omega (arith, c.requires, same, two net)

pub returns-in-Concordance : goal.returns-in-Concordance
returns-in-Concordance c =
    c.kind_of_table.ensures ∙ ap (λ (q : Problem). kind_at ((problem_of c.args.net.now q).kinds_a c.args.prefix.now) c.args.k) (sym c.in-Concordance.is)

pub kind-requires : goal.kind-requires
kind-requires c =
    let same = ap (λ (q : Problem). width (problem_of c.args.net.now q).matrix_a) c.in-Signals.is in
    omega (arith, c.requires, same)

pub returns-in-Signals : goal.returns-in-Signals
returns-in-Signals c =
    c.kind.ensures ∙ ap (λ (q : Problem). kind_at ((problem_of c.args.net.now q).kinds_a c.args.prefix.now) c.args.k) (sym c.in-Signals.is)
