-- Which of a confluence vector and its negative a signal is given for.
-- Source: this project's own. Shapes: `verdicts` are those on the questions that are built, in order.
use Rattle.std.specs.Prelude.{List, zip, IsSomeAnd}
use Rattle.crn_vec.specs.Network.{Net}
use Rattle.crn_vec.specs.NetSignals.{HasNoSignal}
use Rattle.crn_cert.specs.declared.answer.Verdict.{Verdict}
use Rattle.crn_cert.specs.Built.{built}
use Rattle.crn_cert.specs.Questions.{Q12, Q13, on, vector_given}
use Rattle.crn_shelf.specs.Order.{IsForNegative}

-- a signal of the negative of the confluence vector is given only if the vector has none
abbrev pub PreferTheVector : Net → List Verdict → Type 0
PreferTheVector net verdicts = let given = zip built verdicts in
    IsForNegative (on given Q13) → IsSomeAnd (vector_given (on given Q12)) (HasNoSignal net)
