-- What the facts hold on the strong classes.
use Rattle.crn_check.proofs.Prelude.{◌≡◌, Net, Verdict, Strong, Q2, on, labels_of, exits_of, IsTrueOf, strong, exits, AreClassesBy, KeptFacts, AreFactsOf, HoldsOn}
use Rattle.crn_check.proofs.Truths.{strong_true}

classes_by : (net : Net) (v : Verdict) → IsTrueOf net Q2 v → AreClassesBy net (labels_of v) (exits_of v)
classes_by net (Strong count terminal label exit) h = (count, terminal, h)
classes_by net v h = absurd h

-- the strong classes that the facts hold
pub classes_known : (net : Net) (facts : KeptFacts) → AreFactsOf net facts → HoldsOn facts.earlier 2 → AreClassesBy net (strong facts.earlier) (exits facts.earlier)
classes_known net facts h held = classes_by net (on facts.earlier Q2) (strong_true net facts h held)
