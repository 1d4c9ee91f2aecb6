use Rattle.crn_rank.proofs.Prelude.{◌*◌, ◌≤◌, ◌++◌, ℕ, List, length, take, ap, sym, subst, ◌∙◌, arith, ℤ, slice_index_or, flat_map, take_more, AreWithin, MAX_AMOUNT, MAX_REACTIONS, at_in, flat_map_push, within_append, vector_of}
use Rattle.crn_rank.proofs.MemberRows.{entries_few}
use Rattle.crn_rank.proofs.matrix.entries.Goals as goal

pub overflow_mul-members : goal.overflow_mul-members
overflow_mul-members c =
    let few : ℕ → Type 0 = λ s. length c.args.members.now * s ≤ MAX_REACTIONS * s in
    let h = subst few (sym c.species.ensures.count) (entries_few c.args.net.now c.args.members.now c.species.ensures.network c.requires) in
    omega (arith, h, c.species.ensures.limit)

pub overflow_sub-member : goal.overflow_sub-member
overflow_sub-member c =
    let members = c.args.members.now in
    let i = c.loop-member.member-index in
    (c.requires.each (slice_index_or members i 0) (at_in members i 0 c.loop-member-test.true)).0

pub reaction_vector-requires : goal.reaction_vector-requires
reaction_vector-requires c =
    let members = c.args.members.now in
    let i = c.loop-member.member-index in
    let b = c.requires.each (slice_index_or members i 0) (at_in members i 0 c.loop-member-test.true) in
    omega (arith, b.0, b.1)

pub loop-member-preserved : goal.loop-member-preserved
loop-member-preserved c =
    let members = c.args.members.now in
    let i = c.loop-member.member-index in
    let f = vector_of c.args.net.now in
    let old = c.loop-member.entries.items in
    let more = c.in_ok-extend_from_slice.ensures.items in
    record {
      value = more ∙ ap (λ (l : List ℤ). l ++ c.reaction_vector.result.now) c.loop-member.invariant.value
          ∙ ap (λ (l : List ℤ). flat_map f (take i members) ++ l) c.reaction_vector.ensures.value
          ∙ sym (flat_map_push f (take i members) (slice_index_or members i 0))
          ∙ ap (flat_map f) (sym (take_more members i 0 c.loop-member-test.true));
      small = subst (AreWithin MAX_AMOUNT) (sym more) (within_append MAX_AMOUNT old c.reaction_vector.result.now c.loop-member.invariant.small c.reaction_vector.ensures.small);
    }
