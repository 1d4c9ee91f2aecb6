use Rattle.crn_ctext.proofs.Prelude.{take, [], arith, true, err_from_is_err_and, WroteAll-then, WrotePrefix-then, WrotePrefix-more, Wrote-prefix, built, Share, record_lines, table_records, written, blocks}
use Rattle.std.proofs.Common.{codes}
use Rattle.crn_ctext.proofs.Pieces.{ends_with, wrote_as}
use Rattle.crn_ctext.proofs.WrittenAnswers.{as_many, document2_lines}
use Rattle.crn_ctext.proofs.write.write_document2.Goals as goal

pub put_answers-requires : goal.put_answers-requires
put_answers-requires g c = omega (arith, as_many c.args.net.now [] built c.args.answers.now c.requires.formed)

pub returns-in_err-put_opening : goal.returns-in_err-put_opening
returns-in_err-put_opening g c =
    let pairs = take c.find_pairs-count.result c.find_pairs-count.new.pairs in
    let said : Share = record { table = c.args.share.now.table; leaf = c.args.share.now.leaf.list } in
    let p = err_from_is_err_and c.from_residual.result c.from_residual.ensures.1 in
    wrote_as (document2_lines c.args.net.now c.args.answers.now pairs said c.requires.formed c.find_pairs-count.ensures.listed) (Wrote-prefix p.1 (WrotePrefix-more (codes "end\n") (WrotePrefix-more (record_lines (written c.args.share.now.leaf.list (blocks true pairs built c.args.answers.now))) (WrotePrefix-more (record_lines (table_records c.args.share.now.table)) c.in_err-put_opening.ensures.prefix))))

pub returns-in_err-put_table : goal.returns-in_err-put_table
returns-in_err-put_table g c =
    let pairs = take c.find_pairs-count.result c.find_pairs-count.new.pairs in
    let said : Share = record { table = c.args.share.now.table; leaf = c.args.share.now.leaf.list } in
    let p = err_from_is_err_and c.from_residual-in_err-put_table.result c.from_residual-in_err-put_table.ensures.1 in
    wrote_as (document2_lines c.args.net.now c.args.answers.now pairs said c.requires.formed c.find_pairs-count.ensures.listed) (Wrote-prefix p.1 (WrotePrefix-more (codes "end\n") (WrotePrefix-more (record_lines (written c.args.share.now.leaf.list (blocks true pairs built c.args.answers.now))) (WrotePrefix-then c.in_ok-put_opening.ensures.all c.in_err-put_table.ensures.prefix))))

pub returns-in_err-put_answers : goal.returns-in_err-put_answers
returns-in_err-put_answers g c =
    let pairs = take c.find_pairs-count.result c.find_pairs-count.new.pairs in
    let said : Share = record { table = c.args.share.now.table; leaf = c.args.share.now.leaf.list } in
    let p = err_from_is_err_and c.from_residual-in_err-put_answers.result c.from_residual-in_err-put_answers.ensures.1 in
    let third = rw c.as_slice.ensures at c.in_err-put_answers.ensures in
    wrote_as (document2_lines c.args.net.now c.args.answers.now pairs said c.requires.formed c.find_pairs-count.ensures.listed) (Wrote-prefix p.1 (WrotePrefix-more (codes "end\n") (WrotePrefix-then (WroteAll-then c.in_ok-put_opening.ensures.all c.in_ok-put_table.ensures.all) third.prefix)))

pub returns : goal.returns
returns g c =
    let pairs = take c.find_pairs-count.result c.find_pairs-count.new.pairs in
    let said : Share = record { table = c.args.share.now.table; leaf = c.args.share.now.leaf.list } in
    let third = rw c.as_slice.ensures at c.in_ok-put_answers.ensures in
    ends_with (document2_lines c.args.net.now c.args.answers.now pairs said c.requires.formed c.find_pairs-count.ensures.listed) (WroteAll-then (WroteAll-then c.in_ok-put_opening.ensures.all c.in_ok-put_table.ensures.all) third.all) c.put_all.ensures.writes
