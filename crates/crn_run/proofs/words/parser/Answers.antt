use Rattle.crn_run.proofs.Prelude.{rules, ap₂, codes, true, Some, ◌≡◌, ◌∙◌, IfOk-weaker, rule_of, Set, crnt_app}
use Rattle.clap.specs.Words.{new_rule, with_rule}
use Rattle.crn_run.proofs.words.parser.Goals as goal

pub returns : goal.returns
unfolding crnt_app
returns c =
    let command_is : rule_of c.action-command.result ≡ record (new_rule (codes "command")) { action = Some Set; required = true } = search rules in
    let count_is : rule_of c.action-count.result ≡ record (new_rule (codes "count")) { action = Some Set } = search rules in
    let budget_is : rule_of c.action-budget.result ≡ record (new_rule (codes "budget")) { long = Some (codes "budget"); action = Some Set } = search rules in
    record {
      app = IfOk-weaker c.arg-3.result _ _ (λ r h. h.shape (search rules) ∙ ap₂ with_rule (c.in_ok-arg-2.ensures.shape (search rules) ∙ ap₂ with_rule (c.in_ok-arg.ensures.shape (search rules) ∙ ap₂ with_rule c.new-4.ensures.app command_is) count_is) budget_is) c.arg-3.ensures;
    }
