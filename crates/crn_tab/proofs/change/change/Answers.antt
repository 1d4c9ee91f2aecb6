use Rattle.crn_tab.proofs.Prelude.{ℕ, List, sym, subst, ℤ, ◌*ℤ◌, ◌-ℤ◌, unsigned_abs, ◌∣◌, entry}
use Rattle.crn_tab.proofs.change.change.Goals as goal

pub change_low-requires-clause-known : goal.change_low-requires-clause-known
change_low-requires-clause-known c =
    let K : List ℤ → Type 0 = λ v. (d : ℕ) → ((k : ℕ) → d ∣ unsigned_abs ((c.args.p.now *ℤ entry v k) -ℤ (c.args.q.now *ℤ entry c.args.lead.now.entries.now k))) → d ∣ unsigned_abs c.args.known.now in
    subst K (sym (c.change_if_short.ensures.same c.if-change_if_short.false)) c.requires.known
