-- The line of a question is one, whichever true verdict it says.
-- Source: this project's own.
use Rattle.std.specs.Prelude.{◌≡◌}
use Rattle.crn_vec.specs.Network.{Net}
use Rattle.crn_cert.specs.Questions.{Question, Q11}
use Rattle.crn_cert.specs.Says.{IsTrueOf}
use Rattle.crn_cert.specs.declared.answer.Verdict.{Verdict}
use Rattle.crn_cert.specs.declared.answer.Verdict.TheVariants.{NoDependence, NoCycle}
use Rattle.crn_render.specs.Words.{question_line}

-- both say that the network is not regular: one because it is not positively dependent, the other
-- because of a cycle
abbrev pub AreTwoReasons : Question → Verdict → Verdict → Type 0
AreTwoReasons Q11 NoDependence (NoCycle r walk) = Unit {0}
AreTwoReasons Q11 (NoCycle r walk) NoDependence = Unit {0}
AreTwoReasons q v w = ⊥

-- two verdicts that are true of one network have one line, unless they give two reasons why it is
-- not regular
abbrev pub TrueVerdictsHaveOneLine : Type 0
TrueVerdictsHaveOneLine = (net : Net) (q : Question) (v w : Verdict) → IsTrueOf net q v
    → IsTrueOf net q w → (AreTwoReasons q v w → ⊥) → question_line q v ≡ question_line q w
