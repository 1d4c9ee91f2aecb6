use Rattle.crn_reg.proofs.Prelude.{ℕ, List, sym, subst, ◌∙◌, ArePairs, from_zero, IsNo, All, Cycle, GivesSides}
use Rattle.crn_reg.proofs.RegularAnswers.{Ready, pairs_from, sides_answer, cycle_answer, not_a_no}
use Rattle.crn_reg.proofs.regularity.regular.Goals as goal

pub find_sides-requires : goal.find_sides-requires
find_sides-requires c =
    let s = c.args.strong.now in
    pairs_from c.args.net.now s.label.list s.exit.list c.deref.result.now (c.deref.ensures.value ∙ c.in_ok-pairs.ensures.list)

pub returns-in-Cycle : goal.returns-in-Cycle
returns-in-Cycle c budget earlier g e =
    let net = c.args.net.now in
    let l = c.args.linkage.now in
    let s = c.args.strong.now in
    let found : GivesSides net c.deref.result.now (Cycle c.in-Cycle.reaction c.in-Cycle.walk) = subst (GivesSides net c.deref.result.now) c.in-Cycle.is c.in_ok-reaction.ensures in
    let ready : Ready net earlier l.label.list s.label.list s.exit.list c.deref.result.now l.count c.args.q7.now = record {
      labelled = c.requires.classes.labelled;
      gives = g;
      one = c.in_default.ensures.split;
      each = c.in_default.ensures.tests earlier g;
      list = c.deref.ensures.value ∙ c.in_ok-pairs.ensures.list;
      are = subst (λ (ps : List ℕ). ArePairs net.reactions (from_zero ps)) (sym c.deref.ensures.value) c.in_ok-pairs.ensures.pairs;
      seven = e;
      true_seven = c.requires.q7;
    } in
    let nay : IsNo c.args.q7.now → ⊥ = not_a_no net c.args.q7.now c.requires.q7 (λ m f. c.in_default-q7.not-NoVec m f) in
    rw c.plain-in-Cycle.ensures (cycle_answer net budget earlier l.label.list s.label.list s.exit.list c.deref.result.now l.count c.args.q7.now c.in-Cycle.reaction c.in-Cycle.walk ready nay found.0 found.1)

pub returns : goal.returns
returns c budget earlier g e =
    let net = c.args.net.now in
    let l = c.args.linkage.now in
    let s = c.args.strong.now in
    let found : GivesSides net c.deref.result.now (All c.in-All.sides) = subst (GivesSides net c.deref.result.now) c.in-All.is c.in_ok-reaction.ensures in
    let ready : Ready net earlier l.label.list s.label.list s.exit.list c.deref.result.now l.count c.args.q7.now = record {
      labelled = c.requires.classes.labelled;
      gives = g;
      one = c.in_default.ensures.split;
      each = c.in_default.ensures.tests earlier g;
      list = c.deref.ensures.value ∙ c.in_ok-pairs.ensures.list;
      are = subst (λ (ps : List ℕ). ArePairs net.reactions (from_zero ps)) (sym c.deref.ensures.value) c.in_ok-pairs.ensures.pairs;
      seven = e;
      true_seven = c.requires.q7;
    } in
    let nay : IsNo c.args.q7.now → ⊥ = not_a_no net c.args.q7.now c.requires.q7 (λ m f. c.in_default-q7.not-NoVec m f) in
    rw c.by_dependence.ensures (sides_answer net budget earlier l.label.list s.label.list s.exit.list c.deref.result.now l.count c.args.q7.now c.in-All.sides ready nay found)
