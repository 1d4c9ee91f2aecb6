use Rattle.crn_conc.proofs.Prelude.{◌≡◌, ◌+◌, ◌++◌, ℕ, List, length, take, drop, sym, ap, subst, ◌∙◌, arith, written, Bits, Chosen, none, replicate, AreSettled, AreSettledBelow}
use Rattle.crn_conc.proofs.SumLaws.{none_settled, one_more, settled_next}
use Rattle.crn_conc.proofs.chosen.columns_by_choice.Goals as goal

pub loop-choices-init : goal.loop-choices-init
loop-choices-init c = record {
  made = record {
    count = ap (λ (l : List Chosen). length l) c.in_ok-made.ensures.items;
    each = λ m d lt at. absurd (omega (arith, lt));
  };
  settled = none_settled _ _ _ (omega (arith, c.in_ok-settled.ensures.len, c.word_count.ensures))
      (c.in_ok-settled.ensures.items_if_clones_equal (λ y e. e) ∙ ap (λ (n : ℕ). replicate n none) c.word_count.ensures);
}

pub settle-requires : goal.settle-requires
settle-requires c = subst (λ (l : List Bits). AreSettledBelow c.args.matrix.now c.args.table.now c.loop-choices.choices l) (sym c.deref_mut.ensures.value) c.loop-choices.invariant.settled

pub loop-choices-preserved : goal.loop-choices-preserved
loop-choices-preserved c =
    let a = c.args.matrix.now in
    let table = c.args.table.now in
    let n = c.loop-choices.choices in
    let old = c.loop-choices.settled in
    let new = c.settle.new.words in
    let is_settled : AreSettled a table n new = c.settle.ensures in
    let long : length new ≡ old.len = omega (arith, is_settled.count, c.loop-choices.invariant.settled.count) in
    let is : take old.len (new ++ drop (length new) old.items) ≡ new = written old.len new old.items long in
    let kept = subst (λ (l : List Bits). AreSettled a table n l) (sym is) is_settled in
    record {
      made = one_more a table c.loop-choices.made.items c.push.new.self.items n _ c.in_ok-push.ensures.items
          (record { signs = c.in_ok-signs_by.ensures; settled = subst (λ (l : List Bits). AreSettled a table n l) (sym (c.in_ok-from_slice.ensures.items ∙ c.deref.ensures.value)) kept })
          c.loop-choices.invariant.made;
      settled = settled_next a table n _ kept;
    }

pub returns : goal.returns
returns c =
    let h = c.loop-choices.invariant.made in
    let all : c.loop-choices.choices ≡ length c.args.matrix.now.rows + 1 = omega (arith, c.loop-choices-test.false, c.loop-choices.auto.choices-end, c.rows-count.ensures.count) in
    record {
      count = h.count ∙ all;
      each = λ n d lt at. h.each n d (omega (arith, lt, h.count)) at;
    }
