use Rattle.crn_siphon.proofs.Prelude.{change_at, Change, ◌≡◌, ◌<◌, ◌∙◌, List, length, take, ap, sym, arith, ℤ, dot, column, entry, vectors, vectors_count, take_all, ◌+ℤ◌, ◌*ℤ◌, dot_step, entry-column, length-column, vector_at, entry_of_zeros}
use Rattle.crn_siphon.proofs.trial.increased_by.Goals as goal

pub loop-r-init : goal.loop-r-init
loop-r-init c = λ s lt. entry_of_zeros 60 s

pub loop-r-preserved : goal.loop-r-preserved
loop-r-preserved c = λ s lt.
    let net = c.args.net.now in
    let col = column (vectors net) s in
    let w = c.args.numbers.now in
    let r = c.loop-r.r in
    let inside : r < length net.reactions = omega arith in
    let in_col : r < length col = omega (arith, length-column (vectors net) s, vectors_count net) in
    let in_w : r < length w = omega (arith, c.requires.long) in
    let all = c.requires.changes in
    let at : change_at c.deref.result.now s ≡ entry col r = (let each = all.each in ap (λ (v : List Change). change_at v s) c.deref.ensures.value ∙ each r s _ inside) ∙ ap (λ (v : List ℤ). entry v s) (sym (vector_at net r inside)) ∙ sym (entry-column (vectors net) s r) in
    let before = c.loop-r.invariant s lt in
    let step = dot_step w col r in_w in_col in
    let here = c.in_ok-add.ensures.values s in
    cc

pub increasing-requires-clause-changes : goal.increasing-requires-clause-changes
increasing-requires-clause-changes c = λ s lt.
    let net = c.args.net.now in
    let col = column (vectors net) s in
    rw (take_all c.loop-r.r col (omega (arith, length-column (vectors net) s, vectors_count net)), take_all c.loop-r.r c.args.numbers.now (omega (arith, c.requires.long))) at (c.loop-r.invariant s lt)
