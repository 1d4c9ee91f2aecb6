use Rattle.crn_ctree.proofs.Prelude.{ap, ◌∙◌, inl, w128, to_z-of_z, dot, narrow_within}
use Rattle.crn_ctree.proofs.CutLaws.{reaction_column}
use Rattle.crn_ctree.proofs.cut.reaction_sum.Goals as goal

pub dot_past-requires-clause-a : goal.dot_past-requires-clause-a
dot_past-requires-clause-a c = narrow_within c.args.u.now c.requires.numbers.each

pub dot_past-requires-clause-skips : goal.dot_past-requires-clause-skips
dot_past-requires-clause-skips c = inl c.requires.skips

pub returns : goal.returns
returns c =
    to_z-of_z w128 c.dot_past.result (record { sfits = c.dot_past.type_inv })
    ∙ c.dot_past.ensures ∙ ap (dot c.args.u.now) (c.reaction_vector.ensures.value ∙ reaction_column c.args.net.now c.species-few.ensures.network c.args.r c.requires.reaction)
