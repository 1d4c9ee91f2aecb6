use Rattle.crn_document.proofs.Prelude.{◌+◌, ◌++◌, ◌∷◌, [], List, ℕ, ap, sym, ◌∙◌, pairs_yes, pairs_no}
use Rattle.crn_document.proofs.strong.add_pair.Goals as goal

pub returns-then-is_pair : goal.returns-then-is_pair
returns-then-is_pair c = λ same.
    c.in_ok-push.ensures.ok ∙ ap (λ (t : List ℕ). t ++ (c.args.r + 1) ∷ []) same
    ∙ sym (pairs_yes c.args.net.now c.args.classes.now.labels.now c.args.classes.now.exits.now c.args.r (sym c.is_pair.ensures ∙ c.if-is_pair.true))

pub returns : goal.returns
returns c = λ same. same ∙ sym (pairs_no c.args.net.now c.args.classes.now.labels.now c.args.classes.now.exits.now c.args.r (sym c.is_pair.ensures ∙ c.if-is_pair.false))
