use Rattle.crn_defi.proofs.Prelude.{ℕ, List, length, ap, sym, subst, arith, AreClassNumbers, labels_few}
use Rattle.crn_defi.proofs.TerminalCounts.{Known, class_numbers}
use Rattle.crn_defi.proofs.Splits.{Finds, split_of, number_of, tests_of}
use Rattle.crn_defi.proofs.split.first_split.Goals as goal

pub first_with_more-requires-clause-labels : goal.first_with_more-requires-clause-labels
first_with_more-requires-clause-labels c =
    let s = c.requires.strong_classes in
    let labels = class_numbers c.args.net.now c.args.strong.now.count c.args.strong.now.terminal c.args.strong.now.label.list c.args.strong.now.exit.list s in
    let one = subst (λ (ls : List ℕ). AreClassNumbers ls (length c.args.strong.now.exit.list)) (sym c.as_slice.ensures) labels in
    subst (λ (es : List ℕ). AreClassNumbers c.as_slice.result.now (length es)) (sym c.as_slice-2.ensures) one

pub first_with_more-requires-clause-small : goal.first_with_more-requires-clause-small
first_with_more-requires-clause-small c =
    let s = c.requires.strong_classes in
    let n = c.meets_definition.ensures in
    let few = labels_few c.args.net.now c.args.strong.now.label.list c.args.strong.now.count n s.places s.count_is in
    omega (arith, few, s.classes, n.partial.complexes_limit, ap length c.as_slice-2.ensures)

pub first_with_more-requires-clause-few : goal.first_with_more-requires-clause-few
first_with_more-requires-clause-few c =
    let l = c.requires.classes in
    let n = c.meets_definition.ensures in
    let few = labels_few c.args.net.now c.args.linkage.now.label.list c.args.linkage.now.count n l.labelled.long l.count_is in
    omega (arith, few, n.partial.complexes_limit)

pub returns-clause-split : goal.returns-clause-split
returns-clause-split c =
    let l = c.args.linkage.now in
    let s = c.args.strong.now in
    let known : Known c.args.net.now l.count l.label.list s.count s.terminal s.label.list s.exit.list = record { network = c.meets_definition.ensures; linkage_is = c.requires.classes; strong_is = c.requires.strong_classes } in
    let one : Finds s.label.list c.as_slice-2.result.now c.as_slice-3.result.now l.count c.first_with_more.result = subst (λ (ls : List ℕ). Finds ls c.as_slice-2.result.now c.as_slice-3.result.now l.count c.first_with_more.result) c.as_slice.ensures c.first_with_more.ensures in
    let two : Finds s.label.list s.exit.list c.as_slice-3.result.now l.count c.first_with_more.result = subst (λ (es : List ℕ). Finds s.label.list es c.as_slice-3.result.now l.count c.first_with_more.result) c.as_slice-2.ensures one in
    let three : Finds s.label.list s.exit.list l.label.list l.count c.first_with_more.result = subst (λ (ks : List ℕ). Finds s.label.list s.exit.list ks l.count c.first_with_more.result) c.as_slice-3.ensures two in
    split_of c.args.net.now l.count l.label.list s.count s.terminal s.label.list s.exit.list s.level.list c.first_with_more.result known c.requires.levels three

pub returns-clause-tests : goal.returns-clause-tests
returns-clause-tests c earlier g =
    let l = c.args.linkage.now in
    let s = c.args.strong.now in
    let known : Known c.args.net.now l.count l.label.list s.count s.terminal s.label.list s.exit.list = record { network = c.meets_definition.ensures; linkage_is = c.requires.classes; strong_is = c.requires.strong_classes } in
    let one : Finds s.label.list c.as_slice-2.result.now c.as_slice-3.result.now l.count c.first_with_more.result = subst (λ (ls : List ℕ). Finds ls c.as_slice-2.result.now c.as_slice-3.result.now l.count c.first_with_more.result) c.as_slice.ensures c.first_with_more.ensures in
    let two : Finds s.label.list s.exit.list c.as_slice-3.result.now l.count c.first_with_more.result = subst (λ (es : List ℕ). Finds s.label.list es c.as_slice-3.result.now l.count c.first_with_more.result) c.as_slice-2.ensures one in
    let three : Finds s.label.list s.exit.list l.label.list l.count c.first_with_more.result = subst (λ (ks : List ℕ). Finds s.label.list s.exit.list ks l.count c.first_with_more.result) c.as_slice-3.ensures two in
    tests_of c.args.net.now earlier l.count l.label.list s.count s.terminal s.label.list s.exit.list s.level.list c.first_with_more.result known c.requires.levels g three

pub returns-clause-number : goal.returns-clause-number
returns-clause-number c =
    let l = c.args.linkage.now in
    let s = c.args.strong.now in
    let known : Known c.args.net.now l.count l.label.list s.count s.terminal s.label.list s.exit.list = record { network = c.meets_definition.ensures; linkage_is = c.requires.classes; strong_is = c.requires.strong_classes } in
    let one : Finds s.label.list c.as_slice-2.result.now c.as_slice-3.result.now l.count c.first_with_more.result = subst (λ (ls : List ℕ). Finds ls c.as_slice-2.result.now c.as_slice-3.result.now l.count c.first_with_more.result) c.as_slice.ensures c.first_with_more.ensures in
    let two : Finds s.label.list s.exit.list c.as_slice-3.result.now l.count c.first_with_more.result = subst (λ (es : List ℕ). Finds s.label.list es c.as_slice-3.result.now l.count c.first_with_more.result) c.as_slice-2.ensures one in
    let three : Finds s.label.list s.exit.list l.label.list l.count c.first_with_more.result = subst (λ (ks : List ℕ). Finds s.label.list s.exit.list ks l.count c.first_with_more.result) c.as_slice-3.ensures two in
    number_of c.args.net.now l.count l.label.list s.count s.terminal s.label.list s.exit.list s.level.list c.first_with_more.result known c.requires.levels three
