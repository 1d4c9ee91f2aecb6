use Rattle.crn_shelf.proofs.Prelude.{◌≡◌, ◌++◌, List, [], ◌∷◌, take, ap, sym, subst, ◌∙◌, arith, to_z, of_z, ℤ, pos, w128, take_more, take_all, AreWithin, entry, MAX_AMOUNT, within_at, held, within_append}
use Rattle.std.proofs.lemmas.List.{append_assoc}
use Rattle.crn_shelf.proofs.system.put_row.Goals as goal

pub loop-s-preserved : goal.loop-s-preserved
loop-s-preserved c =
    let row = c.args.row.now in
    let old = c.args.entries.now.items in
    let s = c.loop-s.s in
    let x = entry row s in
    let small = within_at MAX_AMOUNT s row c.requires.row in
    let kept : to_z w128 (of_z w128 x) ≡ x = held x (omega (arith, small)) in
    let more : c.push.new.self.items ≡ c.loop-s.entries.items ++ x ∷ [] = c.in_ok-push.ensures.items ∙ ap (λ (y : ℤ). c.loop-s.entries.items ++ y ∷ []) kept in
    record {
      value = more ∙ ap (λ (l : List ℤ). l ++ x ∷ []) c.loop-s.invariant.value
          ∙ append_assoc old (take s row) (x ∷ [])
          ∙ ap (λ (l : List ℤ). old ++ l) (sym (take_more row s (pos 0) (omega (arith, c.loop-s-test.true))));
      small = subst (AreWithin MAX_AMOUNT) (sym more) (within_append MAX_AMOUNT c.loop-s.entries.items (x ∷ []) c.loop-s.invariant.small (small, tt));
    }

pub returns-clause-value : goal.returns-clause-value
returns-clause-value c =
    let row = c.args.row.now in
    let old = c.args.entries.now.items in
    let x = c.args.last in
    let kept : to_z w128 (of_z w128 x) ≡ x = held x (omega (arith, c.requires.last)) in
    c.in_ok-push-2.ensures.items
    ∙ ap (λ (y : ℤ). c.loop-s.entries.items ++ y ∷ []) kept
    ∙ ap (λ (l : List ℤ). l ++ x ∷ []) (c.loop-s.invariant.value ∙ ap (λ (l : List ℤ). old ++ l) (take_all c.loop-s.s row (omega (arith, c.loop-s-test.false))))
    ∙ append_assoc old row (x ∷ [])

pub returns-clause-small : goal.returns-clause-small
returns-clause-small c =
    let x = c.args.last in
    let kept : to_z w128 (of_z w128 x) ≡ x = held x (omega (arith, c.requires.last)) in
    let more : c.push-2.new.self.items ≡ c.loop-s.entries.items ++ x ∷ [] = c.in_ok-push-2.ensures.items ∙ ap (λ (y : ℤ). c.loop-s.entries.items ++ y ∷ []) kept in
    subst (AreWithin MAX_AMOUNT) (sym more) (within_append MAX_AMOUNT c.loop-s.entries.items (x ∷ []) c.loop-s.invariant.small (c.requires.last, tt))
