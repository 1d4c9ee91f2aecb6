use Rattle.crn_document.proofs.Prelude.{sym, subst, IsCount}
use Rattle.crn_document.proofs.Tables.{count_is}
use Rattle.crn_document.proofs.table.next_count.Goals as goal

pub count_of-requires : goal.count_of-requires
count_of-requires g c =
    let s = c.in_ok-next_plain.ensures.step in
    subst IsCount (sym c.as_slice.ensures) (count_is c.next_plain.new.at.numbers.list s.0 s.1)
