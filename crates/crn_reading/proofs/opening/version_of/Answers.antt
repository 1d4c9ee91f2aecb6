use Rattle.crn_reading.proofs.Prelude.{inl, inr, refl, sym, ◌∙◌}
use Rattle.crn_reading.proofs.Titles.{title_one, title_two, no_title}
use Rattle.crn_reading.proofs.opening.version_of.Goals as goal

pub returns-then-is_line : goal.returns-then-is_line
returns-then-is_line c = let shown = c.if-is_line.ensures in (inl refl, shown.0 refl ∙ sym title_one)

pub returns-then-is_line-2 : goal.returns-then-is_line-2
returns-then-is_line-2 c = let shown = c.if-is_line-2.ensures in (inr (inl refl), shown.0 refl ∙ sym title_two)

pub returns : goal.returns
returns c = let one = c.if-is_line.ensures in let two = c.if-is_line-2.ensures in no_title c.args.line.now one.1 two.1
