use Rattle.crn_siphon.proofs.Prelude.{refl, sym, subst, ◌∙◌, false≢true, Bad, Law, Finding, IsFinding}
use Rattle.crn_siphon_check.specs.Trees.{Void}
use Rattle.crn_siphon.proofs.Nodes.{more_same}
use Rattle.crn_siphon.proofs.Places.{bad_leaf, void_leaf, law_leaf, cover_stands}
use Rattle.crn_siphon.proofs.Stops.{no_bad}
use Rattle.crn_siphon.proofs.search.look.Goals as goal

pub returns-in-Some-clause-answer : goal.returns-in-Some-clause-answer
returns-in-Some-clause-answer c = λ p is. (Bad c.in-Some.r, bad_leaf c.args.net.now p c.in-Some.r (c.in-Some.ensures p is), refl)

pub returns-in-Some-clause-laws : goal.returns-in-Some-clause-laws
returns-in-Some-clause-laws c = more_same c.args.search.now.known.laws.items

pub returns-then-is_void-clause-answer : goal.returns-then-is_void-clause-answer
returns-then-is_void-clause-answer c = λ p is. (Void, void_leaf c.args.net.now p ((c.is_void.ensures p is).0 c.if-is_void.true), refl)

pub returns-then-is_void-clause-laws : goal.returns-then-is_void-clause-laws
returns-then-is_void-clause-laws c = more_same c.args.search.now.known.laws.items

pub returns-in-Law-clause-answer : goal.returns-in-Law-clause-answer
returns-in-Law-clause-answer c = λ p is.
    let within = subst (λ (f : Finding). IsFinding c.args.net.now c.args.place.inside c.find.new.known f) c.in-Law.is c.in_ok-found.ensures.answer in
    (Law within.0, law_leaf c.args.net.now c.args.place p within.0 is within.2, (c.in-Law.k, refl, within.1))

pub returns-in-Cover-clause-answer : goal.returns-in-Cover-clause-answer
returns-in-Cover-clause-answer c = λ p is.
    let cover = subst (λ (f : Finding). IsFinding c.args.net.now c.args.place.inside c.find.new.known f) c.in-Cover.is c.in_ok-found.ensures.answer in (
      cover.0,
      cover.1,
      cover_stands c.args.net.now c.args.place p cover.0 is c.requires.room cover.2.free cover.2.increased (no_bad c.args.net.now c.args.place p is c.in_default.ensures)
          (λ v. false≢true (sym c.if-is_void.false ∙ (c.is_void.ensures p is).1 v)),
    )
