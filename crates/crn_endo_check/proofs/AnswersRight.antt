-- Valid answers are true.
use Rattle.crn_endo_check.proofs.Prelude.{get_or, Level, Yes, No, Wide, Spent, Large, ValidEndosAreTrue}
use Rattle.crn_endo_check.proofs.Against.{slopes_show_not, valid_trees_show}

pub valid_endos_are_true : ValidEndosAreTrue
valid_endos_are_true net (Yes trees) n v = λ r lt. valid_trees_show net r (get_or trees r Level) n lt (v.1.each r lt)
valid_endos_are_true net (No reaction slope) n v = (v.0, v.1, slopes_show_not net v.0 slope.list v.2)
valid_endos_are_true net (Wide reaction index basis) n v = tt
valid_endos_are_true net (Spent reaction nodes) n v = tt
valid_endos_are_true net Large n v = tt
