use Rattle.crn_graph.proofs.Prelude.{refl}
use Rattle.crn_graph.proofs.ArcLaws.{adds_round}
use Rattle.crn_graph.proofs.arcs.push_steps.Goals as goal

pub returns-in_ok-push-in-Round-2 : goal.returns-in_ok-push-in-Round-2
returns-in_ok-push-in-Round-2 c =
    let mid = c.in_ok-push-in-Round.ensures.items in
    let new = c.in_ok-push-in-Round-2.ensures.items in
    record { ok = rw (new, mid, c.in-Round.is) (adds_round c.in-Round.c c.in-Round.d c.args.a c.args.b c.args.reaction c.args.arcs.now.items _ _ (λ b. cc (c.is_between.ensures.1 b, c.if-not-is_between.true)) refl refl refl refl refl refl) }
