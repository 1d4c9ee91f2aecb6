use Rattle.crn_ctext.proofs.Prelude.{◌≡◌, take, built, WroteAll, record_lines, written, blocks, leaves_after}
use Rattle.crn_ctext.proofs.write.put_answers.Given as goal

abbrev pub invariant-loop-k : goal.invariant-loop-k
invariant-loop-k g l =
    let done = blocks l.sections l.pairs (take l.k built) (take l.k l.answers) in
    WroteAll (record_lines (written l.leaf done)) (g.K.Sink.seen l.initial.sink) (g.K.Sink.seen l.sink) × (l.rest ≡ leaves_after done l.leaf)
