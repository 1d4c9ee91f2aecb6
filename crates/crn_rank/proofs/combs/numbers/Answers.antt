use Rattle.crn_rank.proofs.Prelude.{◌≡◌, ◌+◌, ◌<◌, ◌++◌, ◌∷◌, [], ℕ, List, length, map, take, get_or, refl, ap, ◌∙◌, arith, to_z, of_z, ℤ, neg_ℤ, w128, to_z-of_z, length-map, take_all, entry, map_more}
use Rattle.crn_rank.proofs.combs.numbers.Goals as goal

pub loop-i-init : goal.loop-i-init
loop-i-init c = λ w named positive.
    let x = c.number.result in
    let read : to_z w128 (of_z w128 x) ≡ x = to_z-of_z w128 x (record { sfits = c.number.type_inv }) in
    c.in_ok-push.ensures.ok ∙ ap (λ (l : List ℤ). l ++ to_z w128 (of_z w128 x) ∷ []) c.in_ok-made.ensures.empty ∙ ap (λ (z : ℤ). z ∷ []) (read ∙ c.number.ensures.is w named positive)

pub loop-i-preserved : goal.loop-i-preserved
loop-i-preserved c = λ w named positive.
    let inside = c.args.inside.now in
    let a = c.args.tableau.now.matrix in
    let i = c.loop-i.i in
    let y = c.negative.result in
    let f : ℕ → ℤ = λ q. neg_ℤ (entry w (a.cols + q)) in
    let x = c.number-in-loop-i.result in
    let read : to_z w128 (of_z w128 x) ≡ x = to_z-of_z w128 x (record { sfits = c.number-in-loop-i.type_inv }) in
    let pushed : to_z w128 (of_z w128 y) ≡ y = to_z-of_z w128 y (record { sfits = c.negative.type_inv }) in
    let value : y ≡ f (get_or inside i 0) = c.negative.ensures ∙ ap neg_ℤ (read ∙ c.number-in-loop-i.ensures.is w named positive ∙ ap (λ (n : ℕ). entry w (n + get_or inside i 0)) c.cols-first.ensures) in
    let lt : i < length inside = omega (arith, c.loop-i-test.true) in
    let more = map_more f inside i 0 (take i (map f inside)) (take i (map f inside) ++ to_z w128 (of_z w128 y) ∷ []) (to_z w128 (of_z w128 y)) lt refl refl (pushed ∙ value) in
    c.in_ok-push-2.ensures.ok ∙ ap (λ (l : List ℤ). l ++ to_z w128 (of_z w128 y) ∷ []) (c.loop-i.invariant w named positive) ∙ ap (λ (l : List ℤ). entry w c.args.own ∷ l) more

pub returns : goal.returns
returns c = λ w named positive.
    let inside = c.args.inside.now in
    let f : ℕ → ℤ = λ q. neg_ℤ (entry w (c.args.tableau.now.matrix.cols + q)) in
    let all : take c.loop-i.i (map f inside) ≡ map f inside = take_all c.loop-i.i (map f inside) (omega (arith, length-map inside f, c.loop-i-test.false)) in
    c.loop-i.invariant w named positive ∙ ap (λ (l : List ℤ). entry w c.args.own ∷ l) all
