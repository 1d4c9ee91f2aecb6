use Rattle.crn_tab.proofs.Prelude.{◌≡◌, rules, sym, subst, ℤ, pos, MayWeigh, weigh_zero}
use Rattle.crn_tab.proofs.Scans.{follows_zero}
use Rattle.crn_tab.proofs.row_cuts.weighs.Goals as goal

pub returns-then-x-eq0-clause-yes : goal.returns-then-x-eq0-clause-yes
returns-then-x-eq0-clause-yes c = λ _ y f.
    let zero : c.args.x.now ≡ pos 0 = search rules in
    subst (λ (v : ℤ). MayWeigh c.args.kind v) (sym (follows_zero c.args.sign c.args.x.now y zero f)) (weigh_zero c.args.kind)
