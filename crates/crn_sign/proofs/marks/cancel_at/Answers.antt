use Rattle.crn_sign.proofs.Prelude.{refl, subst, Mark, mark_at, AreOpposite}
use Rattle.crn_sign.proofs.MarkLaws.{cleared}
use Rattle.crn_sign.proofs.marks.cancel_at.Goals as goal

pub returns : goal.returns
returns c =
    let one = subst (λ (m : Mark). AreOpposite m c.mark_at-2.result) c.mark_at.ensures (c.if-not-are_opposite.ensures refl) in
    let both = subst (λ (m : Mark). AreOpposite (mark_at c.args.one.now c.args.g) m) c.mark_at-2.ensures one in
    cleared c.args._matrix.now c.args.one.now c.args.marks.now c.put_united.new.marks c.put_mark.new.words c.args.g c.requires.goal c.requires.one c.requires.marks both c.put_united.ensures c.put_mark.ensures
