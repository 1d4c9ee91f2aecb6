use Rattle.crn_check.proofs.Prelude.{sym, ◌∙◌, false≢true}
use Rattle.crn_check.proofs.Leaving.{exits_right, finals_hold, exits_leave}
use Rattle.crn_check.proofs.exits.are_exits.Goals as goal

pub returns-then-do_finals_hold : goal.returns-then-do_finals_hold
returns-then-do_finals_hold c =
    let net = c.args.net.now in
    let labels = c.args.labels.now in
    let exits = c.args.exits.now in (
      λ met. exits_right net labels exits (c.do_finals_hold.ensures.0 c.if-do_finals_hold.true) (c.do_exits_leave.ensures.0 met),
      λ all. c.do_exits_leave.ensures.1 (exits_leave net labels exits all),
    )

pub returns-else-do_finals_hold : goal.returns-else-do_finals_hold
returns-else-do_finals_hold c =
    let net = c.args.net.now in
    let labels = c.args.labels.now in
    let exits = c.args.exits.now in (
      λ met. absurd (false≢true (sym c.if-do_finals_hold.false ∙ met)),
      λ all. c.do_finals_hold.ensures.1 (finals_hold net labels exits all),
    )
