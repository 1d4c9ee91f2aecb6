use Rattle.crn_text.proofs.Prelude.{refl, lt-ltb, le-ltb, eq-eqb, ne_eqb, MAX_NAME}
use Rattle.crn_text.proofs.first_fault.flaw_of_term.Goals as goal

pub returns-then-term-gt-MAX_NAME : goal.returns-then-term-gt-MAX_NAME
returns-then-term-gt-MAX_NAME c = rw (lt-ltb MAX_NAME c.args.term.now.length c.if-term-gt-MAX_NAME.true) refl

pub returns-then-term-eq0 : goal.returns-then-term-eq0
returns-then-term-eq0 c = rw (le-ltb MAX_NAME c.args.term.now.length c.if-term-gt-MAX_NAME.false, eq-eqb c.args.term.now.count 0 c.if-term-eq0.true) refl

pub returns : goal.returns
returns c = rw (le-ltb MAX_NAME c.args.term.now.length c.if-term-gt-MAX_NAME.false, ne_eqb c.args.term.now.count 0 c.if-term-eq0.false) refl
