use Rattle.crn_sign.proofs.Prelude.{Bool, List, ℤ, ap, sym, ◌∙◌, scale, factor}
use Rattle.crn_sign.proofs.PastLaws.{scale_one}
use Rattle.crn_sign.proofs.past.Past.multiple.Goals as goal

pub returns-then-stays : goal.returns-then-stays
returns-then-stays c =
    let u : List ℤ = c.args.self.now.multipliers.value.list in
    sym (ap (λ (b : Bool). scale (factor b) u) c.if-stays.true ∙ scale_one u)

pub returns : goal.returns
returns c =
    let u : List ℤ = c.args.self.now.multipliers.value.list in
    c.requires.negatives ∙ sym (ap (λ (b : Bool). scale (factor b) u) c.if-stays.false)
