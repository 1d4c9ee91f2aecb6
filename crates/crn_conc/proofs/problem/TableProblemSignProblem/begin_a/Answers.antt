use Rattle.crn_conc.proofs.Prelude.{◌<◌, List, [], length, sym, ap, subst, ◌∙◌, arith, Bits, AreSettled, AreSums, IsChosen, firm_kinds}
use Rattle.crn_conc.proofs.SumLaws.{asks_of, no_sums}
use Rattle.crn_conc.proofs.problem.TableProblemSignProblem.begin_a.Goals as goal

pub index-requires : goal.index-requires
index-requires c = omega (arith, c.args.self.now.columns_are.count)

pub put_asked_of_sums-requires : goal.put_asked_of_sums-requires
put_asked_of_sums-requires c =
    let p = c.args.self.now in
    let some : 0 < length p.columns.items = omega (arith, p.columns_are.count) in
    let chosen : IsChosen p.matrix.now p.table.now 0 c.index.result.now = p.columns_are.each 0 c.index.result.now some (sym c.index.ensures) in
    record {
      settled = ap (λ (l : List Bits). length l) c.deref.ensures.value ∙ chosen.settled.count ∙ sym c.requires.asked;
      sums = c.put_no_sums.ensures.count ∙ c.requires.sums ∙ sym c.requires.asked;
    }

pub returns : goal.returns
returns c =
    let p = c.args.self.now in
    let some : 0 < length p.columns.items = omega (arith, p.columns_are.count) in
    let chosen : IsChosen p.matrix.now p.table.now 0 c.index.result.now = p.columns_are.each 0 c.index.result.now some (sym c.index.ensures) in
    let sums : AreSums p.matrix.now p.table.now [] c.put_no_sums.new.sums = no_sums p.matrix.now p.table.now c.args.sums.now c.put_no_sums.new.sums c.requires.sums c.put_no_sums.ensures in
    record {
      count = c.put_no_sums.ensures.count;
      sums = sums;
      asked = firm_kinds _ _ _ (asks_of p.matrix.now p.table.now [] c.deref.result.now c.put_no_sums.new.sums c.args.asked.now c.put_asked_of_sums.new.asked p.reactions c.requires.asked sums
          (subst (λ (l : List Bits). AreSettled p.matrix.now p.table.now 0 l) (sym c.deref.ensures.value) chosen.settled) c.put_asked_of_sums.ensures);
    }
