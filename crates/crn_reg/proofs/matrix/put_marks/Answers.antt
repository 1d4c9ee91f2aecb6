use Rattle.crn_reg.proofs.Prelude.{◌≡◌, ◌++◌, ◌==◌, ℕ, List, [], ◌∷◌, take, get_or, ap, sym, subst, ◌∙◌, arith, to_z, of_z, ℤ, pos, if◌then◌else◌, w128, take_more, take_all, map-append, AreWithin, label_marks, MAX_AMOUNT, held, within_append}
use Rattle.std.proofs.lemmas.List.{append_assoc}
use Rattle.crn_reg.proofs.matrix.put_marks.Goals as goal

pub loop-c-preserved : goal.loop-c-preserved
loop-c-preserved c =
    let labels = c.args.labels.now in
    let class = c.args.class in
    let k = c.loop-c.c in
    let old = c.args.entries.now.items in
    let x = c.mark.result in
    let small = c.mark.ensures.small in
    let kept : to_z w128 (of_z w128 x) ≡ x = held x (omega (arith, small)) in
    let more : c.push.new.self.items ≡ c.loop-c.entries.items ++ x ∷ [] = c.in_ok-push.ensures.items ∙ ap (λ (y : ℤ). c.loop-c.entries.items ++ y ∷ []) kept in
    record {
      value = more ∙ ap (λ (l : List ℤ). l ++ x ∷ []) c.loop-c.invariant.value
          ∙ append_assoc old (label_marks (take k labels) class) (x ∷ [])
          ∙ ap (λ (z : ℤ). old ++ (label_marks (take k labels) class ++ z ∷ [])) c.mark.ensures.value
          ∙ ap (λ (l : List ℤ). old ++ l) (sym (map-append (λ (l : ℕ). if l == class then pos 1 else pos 0) (take k labels) (get_or labels k 0 ∷ [])))
          ∙ ap (λ (ls : List ℕ). old ++ label_marks ls class) (sym (take_more labels k 0 c.loop-c-test.true));
      small = subst (AreWithin MAX_AMOUNT) (sym more) (within_append MAX_AMOUNT c.loop-c.entries.items (x ∷ []) c.loop-c.invariant.small (small, tt));
    }

pub returns-clause-value : goal.returns-clause-value
returns-clause-value c =
    let labels = c.args.labels.now in
    c.loop-c.invariant.value ∙ ap (λ (ls : List ℕ). c.args.entries.now.items ++ label_marks ls c.args.class) (take_all c.loop-c.c labels (omega (arith, c.loop-c-test.false)))
