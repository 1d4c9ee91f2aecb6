use Rattle.crn_document.proofs.Prelude.{map, refl, err_from_is_err_and, Verdict, Question, shown_by_tree, asked, step_exits}
use Rattle.crn_document.proofs.Kept.{sides_after_trees}
use Rattle.crn_document.proofs.Blocks.{so_far_next}
use Rattle.crn_document.proofs.block.accept_shown.Goals as goal

pub accept_tree-requires-clause-later : goal.accept_tree-requires-clause-later
accept_tree-requires-clause-later g c = c.requires.ready.known.none

pub returns-in_err-next_trees-clause-step : goal.returns-in_err-next_trees-clause-step
returns-in_err-next_trees-clause-step g c =
    step_exits _ _ c.from_residual.result c.in_err-next_trees.field-0.0 _ _ _ _ (err_from_is_err_and c.from_residual.result c.from_residual.ensures.1) c.in_err-next_trees.ensures.step

pub returns-clause-ready : goal.returns-clause-ready
returns-clause-ready g c = record {
  known = record {
    network = c.requires.ready.known.network;
    facts_of = c.accept_tree.ensures.facts;
    so_far = so_far_next (map (λ (e : Question × Verdict). e.0) c.args.checked.now.facts.earlier) (asked c.args.question) c.args.checked.now.facts.earlier c.accept_tree.new.facts.earlier (shown_by_tree (asked c.args.question)) refl c.accept_tree.ensures.accepted;
  };
  sides = sides_after_trees c.args.net.now c.args.question c.args.checked.now.facts c.accept_tree.new.facts.earlier c.args.checked.now.sides c.requires.ready.sides c.requires.built c.requires.ready.known c.requires.tree c.accept_tree.ensures.accepted;
}
