use Rattle.crn_text.proofs.Prelude.{[], List, true, refl, sym, subst, Term, ReadsTerms}
use Rattle.crn_text.proofs.HeldSides.{reads_again, fails_again}
use Rattle.crn_text.proofs.held.Held.terms_of.Goals as goal

pub returns-in-Some : goal.returns-in-Some
returns-in-Some c = reads_again c.args.body.now c.args.side.now c.after_blanks-rest.result.now c.before_blanks-piece.result.now c.args.end _ c.in-Some.known.now _ c.requires.short c.requires.occurs c.after_blanks-rest.ensures c.before_blanks-piece.ensures refl c.in-Some.ensures c.in_ok-put_moved.ensures

pub returns-then-not-branch : goal.returns-then-not-branch
returns-then-not-branch c =
    let fails = rw c.if-not-branch.true at c.in_ok-read.ensures in
    fails_again c.args.body.now c.args.side.now c.after_blanks-rest.result.now c.before_blanks-piece.result.now [] [] c.after_blanks-rest.ensures c.before_blanks-piece.ensures fails

pub returns : goal.returns
returns c =
    let read = rw c.if-not-branch.false at c.in_ok-read.ensures in
    let piece = c.before_blanks-piece.result.now in
    reads_again c.args.body.now c.args.side.now c.after_blanks-rest.result.now piece c.args.end _ c.as_slice-2.result.now _ c.requires.short c.requires.occurs c.after_blanks-rest.ensures c.before_blanks-piece.ensures refl
    (subst (λ (ts : List Term). ReadsTerms piece piece ts true) (sym c.as_slice-2.ensures.value) read) c.in_ok-put_moved-2.ensures
