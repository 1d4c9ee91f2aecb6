use Rattle.crn_siphon_text.proofs.Prelude.{◌≡◌, ◌<◌, [], length, ap, sym, ◌∙◌, refl, arith, of_z, pos, w128, dot, vectors, all_at, all_given, refused, vector_at, vectors_count}
use Rattle.crn_siphon_text.proofs.weights.is_conserved.Goals as goal

pub returns-then-weight_change-ne0 : goal.returns-then-weight_change-ne0
returns-then-weight_change-ne0 c =
    let net = c.args.net.now in
    let r = c.loop-r.r in
    let inside : r < length net.reactions = omega (arith, c.reactions-r-end.ensures.count) in
    refused (λ h. c.if-weight_change-ne0.true (ap (of_z w128) (c.weight_change.ensures ∙ ap (dot c.args.x.now) (sym (vector_at net r inside))
    ∙ all_at (λ v. dot c.args.x.now v ≡ pos 0) (vectors net) r [] h (omega (arith, inside, vectors_count net)))))

pub returns : goal.returns
returns c =
    let net = c.args.net.now in (
      λ t. all_given (λ v. dot c.args.x.now v ≡ pos 0) (vectors net) [] (λ k lt.
          let inside : k < length net.reactions = omega (arith, lt, vectors_count net) in
          ap (dot c.args.x.now) (vector_at net k inside) ∙ c.loop-r.invariant k (omega (arith, inside, c.reactions-r-end.ensures.count))),
      λ h. refl,
    )
