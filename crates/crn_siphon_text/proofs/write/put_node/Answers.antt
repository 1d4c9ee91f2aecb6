use Rattle.crn_siphon_text.proofs.Prelude.{wrote_as, line_of_word, [], get_or, weights_of}
use Rattle.std.proofs.Common.{codes}
use Rattle.crn_siphon_text.proofs.write.put_node.Goals as goal

pub returns-in-Law : goal.returns-in-Law
returns-in-Law g c =
    let wrote = rw c.weights_at.ensures at c.put_free-in-Law.ensures in
    rw c.in-Law.is (wrote_as (line_of_word (codes "law") (get_or (weights_of c.args.laws.now) c.in-Law.k [])) wrote)
