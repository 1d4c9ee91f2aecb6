use Rattle.crn_ctext.proofs.WordsApart.{second_words}
use Rattle.crn_ctext.proofs.kinds.kinds_are_distinct.Goals as goal

pub returns-clause-yes : goal.returns-clause-yes
returns-clause-yes c = c.distinct.ensures.1 second_words

pub returns-clause-distinct : goal.returns-clause-distinct
returns-clause-distinct c = second_words
