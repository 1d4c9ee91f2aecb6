use Rattle.crn_document.proofs.Prelude.{sym, ◌∙◌, false≢true}
use Rattle.crn_document.proofs.Linkages.{counts_fit, no_counts, zeros_fit}
use Rattle.crn_document.proofs.head.class_sizes.Goals as goal

pub returns-then-question-eq6 : goal.returns-then-question-eq6
returns-then-question-eq6 c =
    counts_fit c.args.net.now c.args.facts.now.earlier c.args.question c.linkage_of-linkage.result c.in_ok-counts.counts.list c.requires.known.network.partial.reactions_limit c.linkage_of-linkage.ensures c.in_ok-counts.ensures

pub returns-then-has_class_sizes : goal.returns-then-has_class_sizes
returns-then-has_class_sizes c =
    zeros_fit c.args.net.now c.args.facts.now.earlier c.args.question c.linkage_of-linkage.result c.from_vec.result.list c.linkage_of-linkage.ensures (c.from_vec.ensures.list ∙ (let f = c.in_ok-zeros.ensures.items_if_clones_equal in f (λ y e. e))) c.if-question-eq6.false

pub returns : goal.returns
returns c =
    no_counts c.args.net.now c.args.facts.now.earlier c.args.question c.in_ok-none.none.list c.in_ok-none.ensures.empty
    (λ asks. false≢true (sym c.if-has_class_sizes.false ∙ c.has_class_sizes.ensures.1 asks))
