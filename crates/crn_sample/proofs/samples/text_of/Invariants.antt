use Rattle.crn_sample.proofs.Prelude.{string_bytes, sample_text}
use Rattle.std.specs.Prelude.{◌≡◌}
use Rattle.crn_sample.proofs.samples.text_of.Given as goal

abbrev pub invariant-loop-before : goal.invariant-loop-before
invariant-loop-before l = string_bytes l.text ≡ sample_text l.before
