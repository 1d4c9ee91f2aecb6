-- Blocks of version 1 within the lines of a part, which no tree follows: what is known after them.
-- Source: this project's own.
use Rattle.std.specs.Prelude.{List, [], ◌∷◌}
use Rattle.crn_cert.specs.declared.answer.Answer.{Answer}
use Rattle.crn_cert.specs.declared.answer.Proof.{Proof}
use Rattle.crn_cert.specs.declared.answer.Proof.TheVariants.{Sides}
use Rattle.crn_cert.specs.Questions.{Earlier, Question}
use Rattle.crn_cert.specs.Verdicts.{tight}
use Rattle.crn_ctext.specs.Records.{Record}
use Rattle.crn_ctext.specs.Blocks.{Meaning}

-- what is known after these answers, none of which has a tree
abbrev pub learned : {Known : Type 0} → Meaning Known → List Question → Known → List (List Record)
    → Known
learned m (q ∷ qs) known ((h ∷ rows) ∷ more) = learned m qs (m.learn q known h rows) more
learned m qs known answers = known

-- the verdicts of answers to these questions, without the spares of their lists
abbrev pub verdicts_on : List Question → List Answer → Earlier
verdicts_on (q ∷ qs) (answer ∷ answers) = (q, tight answer.verdict) ∷ verdicts_on qs answers
verdicts_on qs answers = []

-- the proof has no sides of pairs
abbrev pub HoldsNoSides : Proof → Type 0
HoldsNoSides (Sides rows) = ⊥
HoldsNoSides proof = Unit {0}
