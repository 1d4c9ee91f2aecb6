use Rattle.crn_tab.proofs.Prelude.{◌≡◌, ◌∙◌, ap, arith, to_z, of_z, unsigned_abs, w32}
use Rattle.crn_tab.proofs.ShortCross.{read_short}
use Rattle.crn_tab.proofs.change.change_if_short.Goals as goal

pub change_short-requires-clause-known : goal.change_short-requires-clause-known
change_short-requires-clause-known c =
    let h = c.requires.short c.if-not-lead.false in
    let rp : to_z w32 (of_z w32 c.narrow.result) ≡ c.args.p.now = read_short c.narrow.result (omega (arith, ap unsigned_abs c.narrow.ensures, c.if-not-is_short.ensures)) ∙ c.narrow.ensures in
    let rq : to_z w32 (of_z w32 c.narrow-2.result) ≡ c.args.q.now = read_short c.narrow-2.result (omega (arith, ap unsigned_abs c.narrow-2.ensures, c.if-not-is_short-2.ensures)) ∙ c.narrow-2.ensures in
    rw (rp, rq, h.0) c.requires.known
