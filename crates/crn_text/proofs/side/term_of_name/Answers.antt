use Rattle.crn_text.proofs.Prelude.{refl, rules}
use Rattle.crn_text.proofs.Terms.{no_token, named_at}
use Rattle.crn_text.proofs.side.term_of_name.Goals as goal

pub returns : goal.returns
returns c = λ body text h b. named_at body text c.args.count c.args.end c.args.name.now c.args.rest.now _ h b (search rules) (no_token c.args.rest.now c.next_token.result c.next_token.ensures (search rules)) refl refl refl
