use Rattle.crn_text.proofs.Prelude.{◌≡◌, ℕ, List, [], None, Ok, refl, sym, subst, inl, inr, ◌∙◌, all_in, all_statements, own_fault, LineGives}
use Rattle.crn_text.proofs.LinesRead.{empty_gives}
use Rattle.crn_text.proofs.Repeats.{line_stays}
use Rattle.crn_text.proofs.Remembered.{all_known_more, bare_body}
use Rattle.crn_text.proofs.reader.read_new.Goals as goal

pub returns-then-is_bare-clause-gives : goal.returns-then-is_bare-clause-gives
returns-then-is_bare-clause-gives c = λ read grown known sound. empty_gives (all_statements read) c.args.line.now tt c.args.builder.now (bare_body c.args.line.now (sym c.is_bare.ensures ∙ c.if-is_bare.true)) grown

pub returns-then-is_bare-clause-keeps : goal.returns-then-is_bare-clause-keeps
returns-then-is_bare-clause-keeps c = λ read known. all_known_more c.args.text.now read c.args.line.now c.args.known.now.places known

pub returns-then-has-clause-gives : goal.returns-then-has-clause-gives
returns-then-has-clause-gives c = λ read grown known sound.
    let line = c.args.line.now in
    let net = c.args.builder.now in
    elim (c.has.ensures read known c.if-has.true) [
      | inl e ↦ subst (λ (l : List ℕ). LineGives (all_statements read) l (Ok tt) net) (sym e) (empty_gives (all_statements read) [] tt net refl grown)
      | inr i ↦ line_stays read line tt net grown i (all_in (λ l. own_fault l ≡ None) read line sound i)
    ]

pub returns-then-has-clause-keeps : goal.returns-then-has-clause-keeps
returns-then-has-clause-keeps c = λ read known. all_known_more c.args.text.now read c.args.line.now c.args.known.now.places known

pub returns-clause-keeps : goal.returns-clause-keeps
returns-clause-keeps c = λ read known. c.put.ensures c.args.text.now read c.requires.occurs known
