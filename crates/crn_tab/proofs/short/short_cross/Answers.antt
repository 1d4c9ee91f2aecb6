use Rattle.crn_tab.proofs.Prelude.{refl}
use Rattle.crn_tab.proofs.ShortCross.{short_crossed}
use Rattle.crn_tab.proofs.short.short_cross.Goals as goal

pub overflow_sub-result : goal.overflow_sub-result
overflow_sub-result c =
    let h = short_crossed c.args.p.now c.args.x.now c.args.q.now c.args.y.now c.requires.p c.requires.x c.requires.q c.requires.y in
    rw (h.read_p, h.read_x, h.read_q, h.read_y, h.first, h.second) h.fits

pub returns-clause-value : goal.returns-clause-value
returns-clause-value c =
    let h = short_crossed c.args.p.now c.args.x.now c.args.q.now c.args.y.now c.requires.p c.requires.x c.requires.q c.requires.y in
    rw (h.read_p, h.read_x, h.read_q, h.read_y, h.first, h.second, h.whole) refl

pub returns-clause-small : goal.returns-clause-small
returns-clause-small c =
    let h = short_crossed c.args.p.now c.args.x.now c.args.q.now c.args.y.now c.requires.p c.requires.x c.requires.q c.requires.y in
    rw (h.read_p, h.read_x, h.read_q, h.read_y, h.first, h.second, h.whole) h.small
