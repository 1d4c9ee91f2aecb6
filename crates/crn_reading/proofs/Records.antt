-- What a record that was read is.
use Rattle.crn_reading.proofs.Prelude.{ℕ, Bool, List, subst, Place, Fault, Record, Form, Gives, reads_of, IsOneOf}

-- the record that passes all tests of a line is one of those that were due
pub reads_one : (words trees : List (List ℕ)) (n : ℕ) (after : Bool) (forms : List Form) (mis : Fault) (line : List ℕ) (at end : Place) (r : Record) → Gives (reads_of words trees n after forms mis line) at r end → IsOneOf forms r
unfolding Gives
reads_one words trees n after forms mis line at end r g =
    let last = g.2.2.2.2 in
    subst (λ (x : Record). IsOneOf forms x) last.2.0 last.1.1
