use Rattle.crn_document.proofs.Prelude.{ℕ, subst, sym, ℤ, IsShapeOf, Verdict, OfVector, HoldsNeeds, IsShapeFor, HoldsNoneFrom}
use Rattle.crn_document.proofs.Kept.{no_signal_held, signal_known, turn_held}
use Rattle.crn_document.proofs.block.check_records.Goals as goal

pub check_signal_answer-requires-clause-needs : goal.check_signal_answer-requires-clause-needs
check_signal_answer-requires-clause-needs c =
    let earlier = c.args.checked.now.facts.earlier in
    let s = c.in-YesSignal in
    let k = signal_known c.args.net.now earlier c.args.question c.args.answer.now s.turn s.shelves s.mu s.m s.weights c.requires.built s.is c.requires.formed c.requires.heads in
    subst (λ (n : ℕ). HoldsNeeds earlier n) k.question c.requires.ready.known.needs

pub check_signal_answer-requires-clause-later : goal.check_signal_answer-requires-clause-later
check_signal_answer-requires-clause-later c =
    let earlier = c.args.checked.now.facts.earlier in
    let s = c.in-YesSignal in
    let k = signal_known c.args.net.now earlier c.args.question c.args.answer.now s.turn s.shelves s.mu s.m s.weights c.requires.built s.is c.requires.formed c.requires.heads in
    subst (λ (n : ℕ). HoldsNoneFrom n earlier) k.question c.requires.ready.known.none

pub check_signal_answer-requires-clause-shape : goal.check_signal_answer-requires-clause-shape
check_signal_answer-requires-clause-shape c =
    let net = c.args.net.now in
    let earlier = c.args.checked.now.facts.earlier in
    let s = c.in-YesSignal in
    let shape = c.in_ok-shape-in-YesSignal.shape in
    let k = signal_known net earlier c.args.question c.args.answer.now s.turn s.shelves s.mu s.m s.weights c.requires.built s.is c.requires.formed c.requires.heads in
    subst (λ (v : Verdict). IsShapeFor net earlier v shape) (sym s.is)
    (subst (λ (t : ℤ). OfVector earlier t (λ g. IsShapeOf net g shape)) (turn_held s.turn k.turn_is) c.in_ok-shape-in-YesSignal.ensures)

pub check_answer-requires : goal.check_answer-requires
check_answer-requires c =
    let earlier = c.args.checked.now.facts.earlier in
    record {
      built = c.requires.built;
      facts = c.requires.ready.known.facts_of;
      needs = c.requires.ready.known.needs;
      later = c.requires.ready.known.none;
      formed = c.requires.formed;
      treeless = c.requires.treeless;
      unsigned = λ is. no_signal_held c.args.net.now c.args.answer.now.verdict c.in_default.not-YesSignal;
    }
