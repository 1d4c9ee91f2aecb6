-- The exits that earlier verdicts give.
use Rattle.crn_check.proofs.Prelude.{◌≡◌, [], length, Net, Wide, Budget, Rests, Verdict, Strong, Unknown, Earlier, Q2, on, count_of, exits_of, IsFormedVerdict, KeptFacts, AreFactsOf, HoldsOn}
use Rattle.crn_check.proofs.Forms.{formed_on}

-- a verdict on strong classes has an exit for each
exits_long : (net : Net) (e : Earlier) (v : Verdict) → IsFormedVerdict net e Q2 v → length (exits_of v) ≡ count_of v
exits_long net e (Strong count terminal label exit) h = h.1.1.long
exits_long net e (Unknown (Wide system class index basis)) h = absurd h.0
exits_long net e v h = absurd h.0

pub exits_counted : (net : Net) (facts : KeptFacts) → AreFactsOf net facts → HoldsOn facts.earlier 2 → length (exits_of (on facts.earlier Q2)) ≡ count_of (on facts.earlier Q2)
exits_counted net facts h held = let f = formed_on net [] facts.earlier Q2 h.formed held in exits_long net f.0 (on facts.earlier Q2) f.1
