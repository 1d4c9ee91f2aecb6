use Rattle.crn_defi.proofs.Prelude.{ℕ, List, length, ap, sym, subst, arith, AreClassNumbers, HaveOneUpTo, IsFirstWithMore, labels_few}
use Rattle.crn_defi.proofs.TerminalCounts.{Known, class_numbers}
use Rattle.crn_defi.proofs.OneAnswers.{split_given, after_given, few_or_open}
use Rattle.crn_defi.proofs.one.one_hypotheses.Goals as goal
use Rattle.crn_defi.proofs.one.one_hypotheses.Goals.{in-Some, in-None}

pub first_with_more-split-requires-clause-labels : goal.first_with_more-split-requires-clause-labels
first_with_more-split-requires-clause-labels c =
    let s = c.requires.strong_classes in
    let labels = class_numbers c.args.net.now c.args.strong.now.count c.args.strong.now.terminal c.args.strong.now.label.list c.args.strong.now.exit.list s in
    let one = subst (λ (ls : List ℕ). AreClassNumbers ls (length c.args.strong.now.exit.list)) (sym c.as_slice.ensures) labels in
    subst (λ (es : List ℕ). AreClassNumbers c.as_slice.result.now (length es)) (sym c.as_slice-2.ensures) one

pub first_with_more-split-requires-clause-small : goal.first_with_more-split-requires-clause-small
first_with_more-split-requires-clause-small c =
    let s = c.requires.strong_classes in
    let n = c.meets_definition.ensures in
    let few = labels_few c.args.net.now c.args.strong.now.label.list c.args.strong.now.count n s.places s.count_is in
    omega (arith, few, s.classes, n.partial.complexes_limit, ap length c.as_slice-2.ensures)

pub first_with_more-split-requires-clause-few : goal.first_with_more-split-requires-clause-few
first_with_more-split-requires-clause-few c =
    let l = c.requires.classes in
    let n = c.meets_definition.ensures in
    let few = labels_few c.args.net.now c.args.linkage.now.label.list c.args.linkage.now.count n l.labelled.long l.count_is in
    omega (arith, few, n.partial.complexes_limit)

pub after_terminals-verdict-requires : goal.after_terminals-verdict-requires
after_terminals-verdict-requires c =
    let net = c.args.net.now in
    let l = c.args.linkage.now in
    let s = c.args.strong.now in
    let known : Known net l.count l.label.list s.count s.terminal s.label.list s.exit.list = record { network = c.meets_definition.ensures; linkage_is = c.requires.classes; strong_is = c.requires.strong_classes } in
    few_or_open net l.count l.label.list s.count s.terminal s.label.list s.exit.list c.args.q6.now known c.requires.q6

pub returns : goal.returns
returns c budget earlier g e =
    let net = c.args.net.now in
    let l = c.args.linkage.now in
    let s = c.args.strong.now in
    let known : Known net l.count l.label.list s.count s.terminal s.label.list s.exit.list = record { network = c.meets_definition.ensures; linkage_is = c.requires.classes; strong_is = c.requires.strong_classes } in
    let one = c.as_slice.ensures in
    let two = c.as_slice-2.ensures in
    let three = c.as_slice-3.ensures in
    let L = c.as_slice-3.result.now in
    let E = c.as_slice-2.result.now in
    elim c.match-split.branch [
      | in-Some w ↦
          let P : List ℕ → List ℕ → List ℕ → Type 0 = λ labels exits links. IsFirstWithMore labels exits links (length exits) l.count w.in-Some.class w.in-Some.count in
          let split : P s.label.list s.exit.list l.label.list =
          subst (λ (ks : List ℕ). P s.label.list s.exit.list ks) three (subst (λ (es : List ℕ). P s.label.list es L) two (subst (λ (ls : List ℕ). P ls E L) one w.in-Some.ensures)) in
          rw (c.plain.ensures, w.verdict-is) (split_given net budget earlier l.count l.label.list s.count s.terminal s.label.list s.exit.list s.level.list c.args.q6.now w.in-Some.class w.in-Some.count known c.requires.levels c.requires.q6 g split)
      | in-None w ↦
          let P : List ℕ → List ℕ → List ℕ → Type 0 = λ labels exits links. HaveOneUpTo labels exits links (length exits) l.count in
          let each : P s.label.list s.exit.list l.label.list =
          subst (λ (ks : List ℕ). P s.label.list s.exit.list ks) three (subst (λ (es : List ℕ). P s.label.list es L) two (subst (λ (ls : List ℕ). P ls E L) one w.in-None.ensures)) in
          rw (c.plain.ensures, w.verdict-is) (after_given net budget earlier l.count l.label.list s.count s.terminal s.label.list s.exit.list c.args.q6.now w.after_terminals-verdict.result known each c.requires.q6 g e w.after_terminals-verdict.ensures)
    ]
