use Rattle.crn_siphon.proofs.Prelude.{◌+◌, List, sym, subst, arith, ℕ, ◌↔◌, Holds, Ends, Has, AreEnds}
use Rattle.crn_siphon.proofs.Stops.{ends_more}
use Rattle.crn_siphon.proofs.ends.ends_of.Goals as goal

pub loop-r-preserved : goal.loop-r-preserved
loop-r-preserved c =
    let net = c.args.net.now in
    subst (λ (all : List Ends). AreEnds net (c.loop-r.r + 1) all) (sym c.in_ok-push.ensures.items) (ends_more net c.loop-r.r c.loop-r.ends.items _ c.loop-r.invariant (omega arith) (record {
      reactant = λ s. subst (λ (k : ℕ). Has c.held.result s ↔ Holds net k s) c.reactant.ensures.value (c.held.ensures s);
      product = λ s. subst (λ (k : ℕ). Has c.held-in-loop-r.result s ↔ Holds net k s) c.product.ensures.value (c.held-in-loop-r.ensures s);
    }))
