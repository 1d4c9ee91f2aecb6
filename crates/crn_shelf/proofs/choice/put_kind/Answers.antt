use Rattle.crn_shelf.proofs.Prelude.{◌∙◌, sym, refl, put_here, put_other}
use Rattle.crn_shelf.proofs.choice.put_kind.Goals as goal

pub returns-in-Free : goal.returns-in-Free
returns-in-Free c = record {
  count = refl;
  here = c.requires.free ∙ sym c.in-Free.is;
  others = λ j ne. refl;
}

pub returns-in_default : goal.returns-in_default
returns-in_default c = record {
  count = c.put_asked.ensures.count;
  here = put_here c.args.words.now c.args.k c.asked_of_kind.result c.put_asked.new.words c.put_asked.ensures ∙ c.asked_of_kind.ensures;
  others = λ j ne. put_other c.args.words.now c.args.k c.asked_of_kind.result c.put_asked.new.words c.put_asked.ensures j ne;
}
