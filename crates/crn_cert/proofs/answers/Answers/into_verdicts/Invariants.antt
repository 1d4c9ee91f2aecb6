use Rattle.crn_cert.proofs.Prelude.{◌≡◌, ◌≤◌, ◌++◌, length, verdicts_of}
use Rattle.crn_cert.proofs.answers.Answers.into_verdicts.Given as goal

abbrev pub invariant-loop-answer : goal.invariant-loop-answer
invariant-loop-answer l =
    (l.verdicts ≡ verdicts_of l.yielded)
    × (l.yielded ++ l.answer-iterator.rest.items ≡ l.fn.self)
    × (length l.fn.self ≤ 15)
