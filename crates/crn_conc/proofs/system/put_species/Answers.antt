use Rattle.crn_conc.proofs.Prelude.{◌≡◌, ◌++◌, ◌<◌, List, [], ◌∷◌, length, take, ap, sym, subst, ◌∙◌, arith, to_z, of_z, ℤ, pos, w128, take_more, take_all, append_assoc, AreWithin, column, entry, vectors, MAX_AMOUNT, entry-column, within_at, held, within_append, vector_at, column_long}
use Rattle.crn_conc.proofs.system.put_species.Goals as goal

pub loop-r-preserved : goal.loop-r-preserved
loop-r-preserved c =
    let net = c.args.net.now in
    let s = c.args.s in
    let r = c.loop-r.r in
    let list = column (vectors net) s in
    let old = c.args.entries.now.items in
    let x = entry c.reaction_vector.result.now s in
    let lt : r < length net.reactions = omega (arith, c.reactions-r-end.ensures.count) in
    let at : x ≡ entry list r = ap (λ (v : List ℤ). entry v s) (c.reaction_vector.ensures.value ∙ sym (vector_at net r lt)) ∙ sym (entry-column (vectors net) s r) in
    let small = within_at MAX_AMOUNT s c.reaction_vector.result.now c.reaction_vector.ensures.small in
    let kept : to_z w128 (of_z w128 x) ≡ x = held x (omega (arith, small)) in
    let more : c.push.new.self.items ≡ c.loop-r.entries.items ++ x ∷ [] = c.in_ok-push.ensures.items ∙ ap (λ (y : ℤ). c.loop-r.entries.items ++ y ∷ []) kept in
    record {
      value = more ∙ ap (λ (l : List ℤ). l ++ x ∷ []) c.loop-r.invariant.value
          ∙ append_assoc old (take r list) (x ∷ [])
          ∙ ap (λ (y : ℤ). old ++ (take r list ++ y ∷ [])) at
          ∙ ap (λ (l : List ℤ). old ++ l) (sym (take_more list r (pos 0) (omega (arith, lt, column_long net s))));
      small = subst (AreWithin MAX_AMOUNT) (sym more) (within_append MAX_AMOUNT c.loop-r.entries.items (x ∷ []) c.loop-r.invariant.small (small, tt));
    }

pub returns-clause-value : goal.returns-clause-value
returns-clause-value c =
    let list = column (vectors c.args.net.now) c.args.s in
    c.loop-r.invariant.value ∙ ap (λ (l : List ℤ). c.args.entries.now.items ++ l) (take_all c.loop-r.r list (omega (arith, c.loop-r-test.false, c.reactions-r-end.ensures.count, column_long c.args.net.now c.args.s)))
