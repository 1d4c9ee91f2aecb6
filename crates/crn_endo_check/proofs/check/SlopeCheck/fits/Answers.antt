use Rattle.crn_endo_check.proofs.Prelude.{ℕ, List, sym, subst, IsTrue, Sign, Net, first, said_by, Node, CutA, KeptCheck, slopes}
use Rattle.crn_cert.specs.Nodes.{Fits}
use Rattle.crn_endo_check.proofs.check.SlopeCheck.fits.Goals as goal

pub returns-in-CutA : goal.returns-in-CutA
returns-in-CutA c =
    let g = c.self.inside.given in
    let Told : Net → ℕ → List Sign → Node → Type 0 = λ net r p node.
    (IsTrue c.rules_out.result → Fits (slopes net r) p (said_by node)) × (Fits (slopes net r) p (said_by node) → IsTrue c.rules_out.result) in
    let plain : Told g.net g.reaction c.prefix-prefix.result.now (CutA c.in-CutA.multipliers) = c.rules_out.ensures in
    let node : Told g.net g.reaction c.prefix-prefix.result.now c.args.node.now = subst (Told g.net g.reaction c.prefix-prefix.result.now) (sym c.in-CutA.is) plain in
    let here : Told g.net g.reaction (first c.self.inside.path.due) c.args.node.now = subst (λ (p : List Sign). Told g.net g.reaction p c.args.node.now) c.prefix-prefix.ensures.first node in
    subst (λ (k : KeptCheck). Told k.net k.reaction (first k.due) c.args.node.now) c.self.view_is here
