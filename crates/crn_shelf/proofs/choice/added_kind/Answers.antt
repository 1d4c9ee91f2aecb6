use Rattle.crn_shelf.proofs.Prelude.{sym, ap, ◌∙◌, Kind, shelf_kinds, kind_at, added_kind}
use Rattle.crn_shelf.proofs.Gradual.{added_none}
use Rattle.crn_shelf.proofs.choice.added_kind.Goals as goal

pub returns-in-Free : goal.returns-in-Free
returns-in-Free c =
    let s = c.args.shape.now in
    let k = c.args.k in
    c.kind-in-Free.ensures ∙ sym (ap (λ (x : Kind). added_kind x (kind_at (shelf_kinds s c.args.prefix.now) k)) (sym c.kind.ensures ∙ c.in-Free.is))

pub returns-in_default : goal.returns-in_default
returns-in_default c =
    let s = c.args.shape.now in
    let k = c.args.k in
    sym (added_none (kind_at (shelf_kinds s c.args.before.now) k) (kind_at (shelf_kinds s c.args.prefix.now) k) (λ e. c.in_default.not-Free (c.kind.ensures ∙ e)))
