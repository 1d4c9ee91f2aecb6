use Rattle.crn_ctext.proofs.Prelude.{map}
use Rattle.std.proofs.Common.{pos, codes}
use Rattle.crn_ctext.proofs.Pieces.{wrote_as}
use Rattle.crn_ctext.proofs.WrittenLines.{line_of_word}
use Rattle.crn_ctext.proofs.write_rows.put_exits.Goals as goal

pub returns-in-Strong : goal.returns-in-Strong
returns-in-Strong g c =
    let wrote = rw c.as_slice.ensures at c.put_small.ensures in
    rw c.in-Strong.is (wrote_as (line_of_word (codes "exit") (map pos c.in-Strong.exit.list)) wrote)
