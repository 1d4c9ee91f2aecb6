use Rattle.crn_sign.proofs.Prelude.{◌≡◌, ◌<◌, ℕ, AreKept, word_at, word_of}
use Rattle.crn_sign.proofs.kinds.KeptKinds.ask.Given as goal

abbrev pub invariant-loop-w : goal.invariant-loop-w
invariant-loop-w l = record {
  kept : AreKept l.matrix l.self;
  asked : (v : ℕ) → v < l.w → word_at l.self.asked.items v ≡ word_at l.asked v;
  weak : (v : ℕ) → v < l.w → word_of l.self.weak.items v ≡ word_of l.weak v;
}
