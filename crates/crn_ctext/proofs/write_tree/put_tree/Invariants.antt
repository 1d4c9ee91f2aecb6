use Rattle.crn_ctext.proofs.Prelude.{◌≡◌, take, Gathered, record_lines, written, leaves_after}
use Rattle.crn_ctext.proofs.NodesWritten.{node_records}
use Rattle.crn_ctext.proofs.write_tree.put_tree.Given as goal

abbrev pub invariant-loop-node : goal.invariant-loop-node
invariant-loop-node g l =
    let done = node_records (take l.node-index l.node-items) in
    Gathered (record_lines (written l.leaf done)) l.piece.items (g.K.Sink.seen l.initial.sink) (g.K.Sink.seen l.sink) × (l.rest ≡ leaves_after done l.leaf)
