use Rattle.crn_defi.proofs.Prelude.{List, ℕ, refl, sym, subst, ◌∙◌, NamesWide, AreMembers, IsWideStop, member_matrix}
use Rattle.crn_farkas.specs.declared.fault.Stop.TheVariants.{Wide}
use Rattle.crn_defi.proofs.ClassRanks.{class_members_are, class_wide}
use Rattle.crn_defi.proofs.class_rank.class_rank.Goals as goal

pub rank-requires : goal.rank-requires
rank-requires c =
    let net = c.args.net.now in
    subst (AreMembers net) (sym (c.deref.ensures.value ∙ c.in_ok-members.ensures)) (class_members_are net c.args.label.now c.args.class)

pub returns-in-Err-Wide-clause-stop : goal.returns-in-Err-Wide-clause-stop
returns-in-Err-Wide-clause-stop c =
    let net = c.args.net.now in
    let w = c.in-Err-Wide in
    let named : IsWideStop (member_matrix net c.deref.result.now) (Wide w.index w.basis) = subst (IsWideStop (member_matrix net c.deref.result.now)) w.field-0-is w.ensures.stop in
    let all = subst (λ (l : List ℕ). NamesWide (member_matrix net l) w.index w.basis.list) (c.deref.ensures.value ∙ c.in_ok-members.ensures) named in
    (refl, class_wide net c.args.label.now c.args.class w.index w.basis.list all)
