use Rattle.crn_check.proofs.Prelude.{◌∙◌, ◌∷◌, [], ◌++◌, inl, inr, ap, subst, sym, arith, asked, shown_by_tree, tight, Verdict, DoesFit}
use Rattle.crn_check.proofs.Forms.{facts_add, shown_formed, shown_tight, shown_true}
use Rattle.crn_check.proofs.Fits.{shown_fits}
use Rattle.crn_check.proofs.check.accept_tree.Goals as goal

pub accept-requires-clause-number : goal.accept-requires-clause-number
accept-requires-clause-number c = elim c.requires.tree [
  | inl is ↦ (omega (arith, is), omega (arith, is))
  | inr other ↦ elim other [ inl is ↦ (omega (arith, is), omega (arith, is)) | inr is ↦ (omega (arith, is), omega (arith, is)) ]
]

pub accept-requires-clause-fits : goal.accept-requires-clause-fits
accept-requires-clause-fits c = subst DoesFit (sym c.shown_verdict.ensures) (shown_fits c.args.question c.requires.tree)

pub returns-clause-accepted : goal.returns-clause-accepted
returns-clause-accepted c =
    c.accept.ensures ∙ ap (λ (v : Verdict). c.args.facts.now.earlier ++ (asked c.args.question, v) ∷ []) (ap tight c.shown_verdict.ensures ∙ shown_tight c.args.question c.requires.tree)

pub returns-clause-facts : goal.returns-clause-facts
returns-clause-facts c =
    let n = c.args.question in
    facts_add c.args.net.now c.args.facts.now c.accept.new.self n (shown_by_tree (asked n)) c.requires.facts (shown_formed c.args.net.now c.args.facts.now.earlier n c.requires.tree)
    (c.accept.ensures ∙ ap (λ (v : Verdict). c.args.facts.now.earlier ++ (asked n, tight v) ∷ []) c.shown_verdict.ensures) (shown_true c.args.net.now n c.requires.tree c.requires.shown)
