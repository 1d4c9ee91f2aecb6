use Rattle.crn_defi.proofs.ZeroAnswers.{zero_holds, zero_fails}
use Rattle.crn_defi.proofs.zero.zero_hypotheses.Goals as goal
use Rattle.crn_defi.proofs.zero.zero_hypotheses.Goals.{then-number-eq0, else-number-eq0}

pub returns : goal.returns
returns c budget earlier g known =
    let net = c.args.net.now in
    let l = c.args.linkage.now in
    let total = c.deficiency-number.result in
    elim c.if-number-eq0.branch [
      | then-number-eq0 w ↦
          rw (c.plain.ensures, w.verdict-is) (zero_holds net budget earlier l.count total c.args.rank l.label.list c.args.weak g c.requires.rank c.requires.classes c.requires.weak known c.deficiency-number.ensures w.if-number-eq0.true)
      | else-number-eq0 w ↦
          rw (c.plain.ensures, w.verdict-is) (zero_fails net budget earlier l.count total c.args.rank l.label.list g c.requires.rank c.requires.classes c.deficiency-number.ensures w.if-number-eq0.false)
    ]
