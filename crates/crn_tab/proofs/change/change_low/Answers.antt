use Rattle.crn_tab.proofs.Prelude.{◌≡◌, ◌∙◌, ap, sym, subst, to_z, ℤ, pos, ◌*ℤ◌, ◌-ℤ◌, unsigned_abs, w64, ◌∣◌, entry}
use Rattle.crn_tab.proofs.LowCross.{read_low}
use Rattle.crn_tab.proofs.change.change_low.Goals as goal

pub change_few-requires-clause-known : goal.change_few-requires-clause-known
change_few-requires-clause-known c = λ d h.
    let one : c.args.p.now ≡ pos 1 = sym (read_low c.args.p.now c.requires.p) ∙ ap (to_z w64) c.if-p-eq1.true in
    c.requires.known d (λ k. subst (λ (p : ℤ). d ∣ unsigned_abs ((p *ℤ entry c.args.row.now k) -ℤ (c.args.q.now *ℤ entry c.args.lead.now k))) (sym one) (h k))
