use Rattle.crn_solve.proofs.Prelude.{◌++◌, ◌<◌, List, length, take, ap, sym, subst, ◌∙◌, arith, ℤ, slice_index_or, flat_map, take_more, reaction_vector, AreWithin, MAX_AMOUNT, flat_map_push, within_append}
use Rattle.crn_solve.proofs.systems.entries_by_reaction.Goals as goal

pub loop-r-preserved : goal.loop-r-preserved
loop-r-preserved c =
    let reactions = c.args.net.now.reactions in
    let r = c.loop-r.r in
    let f = reaction_vector c.args.net.now in
    let lt : r < length reactions = omega (arith, c.reactions-r-end.ensures.count) in
    let more = c.in_ok-extend_from_slice.ensures.items in
    record {
      value = more ∙ ap (λ (l : List ℤ). l ++ c.reaction_vector.result.now) c.loop-r.invariant.value
          ∙ ap (λ (l : List ℤ). flat_map f (take r reactions) ++ l) c.reaction_vector.ensures.value
          ∙ sym (flat_map_push f (take r reactions) (slice_index_or reactions r (0, 0)))
          ∙ ap (flat_map f) (sym (take_more reactions r (0, 0) lt));
      small = subst (AreWithin MAX_AMOUNT) (sym more) (within_append MAX_AMOUNT c.loop-r.entries.items c.reaction_vector.result.now c.loop-r.invariant.small c.reaction_vector.ensures.small);
    }
