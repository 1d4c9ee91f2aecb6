use Rattle.crn_vec.proofs.Confluences.{confluence_vectors_are_one}
use Rattle.crn_vec.proofs.laws.classes.confluence_vectors_are_one.Goals as goal

pub returns : goal.returns
returns c = confluence_vectors_are_one
