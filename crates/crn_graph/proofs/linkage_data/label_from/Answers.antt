use Rattle.crn_graph.proofs.Prelude.{◌<◌, length, arith, get_or_read}
use Rattle.crn_graph.proofs.ClassLaws.{classes_past, classes_more}
use Rattle.crn_graph.proofs.linkage_data.label_from.Goals as goal

pub returns-then-index-gt0-clause-classes : goal.returns-then-index-gt0-clause-classes
returns-then-index-gt0-clause-classes c =
    let s = c.args.search.now in
    let lt : c.args.c < length s.label.items = omega (arith, c.requires.inside, c.requires.long) in
    let read = get_or_read s.label.items c.args.c c.index.result.now lt c.index.ensures 0 in
    classes_past c.args.graph.now.arcs s c.args.count c.args.c c.requires.classes (omega (arith, read, c.if-index-gt0.true)) lt

pub returns-clause-classes : goal.returns-clause-classes
returns-clause-classes c =
    let s = c.args.search.now in
    let lt : c.args.c < length s.label.items = omega (arith, c.requires.inside, c.requires.long) in
    let read = get_or_read s.label.items c.args.c c.index.result.now lt c.index.ensures 0 in
    let e = c.spread.ensures in
    classes_more c.args.graph.now.arcs s c.spread.new.self c.args.count c.args.c (record {
      returning = c.requires.returning;
      old = c.requires.classes;
      none = omega (arith, read, c.if-index-gt0.false);
      inside = lt;
      spreading = e.spreading;
      all = e.all;
      keeps = e.keeps;
      newest = e.newest;
      start = e.start;
    })
