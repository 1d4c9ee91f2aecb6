use Rattle.crn_tab.proofs.Prelude.{refl}
use Rattle.crn_tab.proofs.SparseRow.{lessened}
use Rattle.crn_tab.proofs.sparse.less.Goals as goal

pub overflow_sub-result : goal.overflow_sub-result
overflow_sub-result c =
    let h = lessened c.args.x.now c.args.q.now c.args.y.now c.requires.x c.requires.q c.requires.y in
    rw (h.read_x, h.read_q, h.read_y, h.product) h.fits

pub returns : goal.returns
returns c =
    let h = lessened c.args.x.now c.args.q.now c.args.y.now c.requires.x c.requires.q c.requires.y in
    rw (h.read_x, h.read_q, h.read_y, h.product, h.whole) refl
