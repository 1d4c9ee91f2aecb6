-- Formed answers on persistence whose tests hold say the truth.
use Rattle.crn_siphon_check.proofs.Prelude.{List, [], ℤ, Net, IsNetwork, IsConservative, Answer, NoVec, Nothing, Q8, AreFree, RuleOutConservation, length, refl, set_of, ValidAnswersAreTrue, SaysYes, NoLaw, NoSiphon, Wide, Spent}
use Rattle.crn_cert.specs.Formed as formed
use Rattle.crn_cert.specs.Valid as valid
use Rattle.crn_cert.proofs.CallerLemmas as cert
use Rattle.crn_siphon_check.proofs.SiphonLaws.{tree_shows, covered_has_none}

-- the numbers of a no exclude every law with positive weights, as those of the answer to question 8 do
no_law : (net : Net) (cut : List ℤ) → IsNetwork net → AreFree (length net.reactions) cut → RuleOutConservation net cut → IsConservative net → ⊥
no_law net cut n free rules =
    let answer : Answer = record { verdict = NoVec (record { list = cut; spare = 0 }); proof = Nothing } in
    let f : formed.IsFormed net [] Q8 answer = (record { head = tt; rows = (free, tt); trees = tt }, (refl, refl)) in
    let v : valid.IsValid net [] Q8 answer = (rules, tt) in
    let t = cert.valid_answers_are_true Q8 net [] answer n tt tt f v in
    t.1

pub valid_answers_are_true : ValidAnswersAreTrue
valid_answers_are_true net (SaysYes law tree) n f v = record { conservative = (law, v.0); siphons = λ set s. tree_shows net [] set tree v.1 s }
valid_answers_are_true net (NoLaw cut) n f v = λ p. no_law net cut n f v p.conservative
valid_answers_are_true net (NoSiphon marks cover) n f v = λ p. covered_has_none net (set_of marks) cover v.1 (p.siphons (set_of marks) v.0)
valid_answers_are_true net (Wide system index basis) n f v = tt
valid_answers_are_true net (Spent nodes) n f v = tt
