use Rattle.crn_reg.proofs.Prelude.{◌≡◌, ◌++◌, ◌<◌, List, [], ◌∷◌, length, take, ap, sym, subst, ◌∙◌, arith, to_z, of_z, ℤ, pos, w128, take_more, take_all, AreWithin, column, entry, MAX_AMOUNT, entry-column, length-column, within_at, held, amounts_within, within_append}
use Rattle.std.proofs.lemmas.List.{append_assoc}
use Rattle.crn_reg.proofs.matrix.put_species.Goals as goal

pub loop-c-preserved : goal.loop-c-preserved
loop-c-preserved c =
    let net = c.args.net.now in
    let s = c.args.s in
    let y = c.loop-c.c in
    let list = column net.complexes s in
    let old = c.args.entries.now.items in
    let x = entry c.vector.result.now s in
    let lt : y < length net.complexes = omega (arith, c.complexes-c-end.ensures.count) in
    let at : x ≡ entry list y = ap (λ (v : List ℤ). entry v s) c.vector.ensures.value ∙ sym (entry-column net.complexes s y) in
    let small = within_at MAX_AMOUNT s c.vector.result.now (amounts_within c.vector.result.now c.vector.ensures.amounts) in
    let kept : to_z w128 (of_z w128 x) ≡ x = held x (omega (arith, small)) in
    let more : c.push.new.self.items ≡ c.loop-c.entries.items ++ x ∷ [] = c.in_ok-push.ensures.items ∙ ap (λ (y : ℤ). c.loop-c.entries.items ++ y ∷ []) kept in
    record {
      value = more ∙ ap (λ (l : List ℤ). l ++ x ∷ []) c.loop-c.invariant.value
          ∙ append_assoc old (take y list) (x ∷ [])
          ∙ ap (λ (z : ℤ). old ++ (take y list ++ z ∷ [])) at
          ∙ ap (λ (l : List ℤ). old ++ l) (sym (take_more list y (pos 0) (omega (arith, lt, length-column net.complexes s))));
      small = subst (AreWithin MAX_AMOUNT) (sym more) (within_append MAX_AMOUNT c.loop-c.entries.items (x ∷ []) c.loop-c.invariant.small (small, tt));
    }

pub returns-clause-value : goal.returns-clause-value
returns-clause-value c =
    let list = column c.args.net.now.complexes c.args.s in
    c.loop-c.invariant.value ∙ ap (λ (l : List ℤ). c.args.entries.now.items ++ l) (take_all c.loop-c.c list (omega (arith, c.loop-c-test.false, c.complexes-c-end.ensures.count, length-column c.args.net.now.complexes c.args.s)))
