use Rattle.crn_siphon.proofs.Prelude.{ℕ, length, refl, subst, AreFree}
use Rattle.crn_siphon.proofs.trial.cover_of.Goals as goal

pub returns-then-is_within : goal.returns-then-is_within
returns-then-is_within c =
    let free : AreFree (length c.args.net.now.reactions) c.args.numbers.now = subst (λ (n : ℕ). AreFree n c.args.numbers.now) c.reactions.ensures.count (c.if-not-are_free.ensures refl) in
    record {
      more = record { free = free; increased = λ s lt h. c.in_ok-species.ensures s lt h };
      set = record { free = free; increased = λ s lt h. c.in_ok-species.ensures s lt (c.is_within.ensures.0 c.if-is_within.true s h) };
    }
