use Rattle.crn_solve.proofs.Prelude.{◌∙◌, ℕ, List, ap, sym, subst, NamesWide, Answer, Earlier, Q5, Wide, AreMembers, IsWideStop, ProvesRank, member_matrix, IsAnswer, IsRankAnswer, if_ok, are_members}
use Rattle.crn_solve.proofs.RankAnswers.{all_members, base_few, rank_given, rank_wide}
use Rattle.crn_solve.proofs.rank_answer.rank_answer.Goals as goal

pub rank_by-requires-clause-members : goal.rank_by-requires-clause-members
rank_by-requires-clause-members c =
    let net = c.args.net.now in
    subst (AreMembers net) (sym (c.deref.ensures.value ∙ c.in_ok-all.ensures)) (are_members net)

pub rank_by-requires-clause-matrix : goal.rank_by-requires-clause-matrix
rank_by-requires-clause-matrix c =
    let net = c.args.net.now in
    c.requires ∙ sym (ap (member_matrix net) (c.deref.ensures.value ∙ c.in_ok-all.ensures) ∙ all_members net)

pub base_answer-requires : goal.base_answer-requires
base_answer-requires c =
    let net = c.args.net.now in
    let proof = c.in-Ok.proof in
    base_few net proof c.meets_definition.ensures (subst (λ (l : List ℕ). ProvesRank net l proof) (c.deref.ensures.value ∙ c.in_ok-all.ensures) c.in-Ok.ensures.proof)

pub returns-in-Ok-clause-answer : goal.returns-in-Ok-clause-answer
returns-in-Ok-clause-answer c =
    let net = c.args.net.now in
    let proof = c.in-Ok.proof in
    let proven = subst (λ (l : List ℕ). ProvesRank net l proof) (c.deref.ensures.value ∙ c.in_ok-all.ensures) c.in-Ok.ensures.proof in
    if_ok (IsRankAnswer proof) (λ (answer : Answer). (budget : ℕ) (earlier : Earlier) → IsAnswer net budget earlier Q5 answer) c.base_answer.result
    (λ answer g budget earlier. rank_given net budget earlier proof answer c.meets_definition.ensures proven g) c.base_answer.ensures

pub returns-in-Err-Wide-clause-answer : goal.returns-in-Err-Wide-clause-answer
returns-in-Err-Wide-clause-answer c budget earlier =
    let net = c.args.net.now in
    let w = c.in-Err-Wide in
    let named : IsWideStop (member_matrix net c.deref.result.now) (Wide w.index w.basis) = subst (IsWideStop (member_matrix net c.deref.result.now)) w.field-0-is w.ensures.stop in
    let all = subst (λ (l : List ℕ). NamesWide (member_matrix net l) w.index w.basis.list) (c.deref.ensures.value ∙ c.in_ok-all.ensures) named in
    subst (IsAnswer net budget earlier Q5) (sym c.wide_answer.ensures) (rank_wide net budget earlier w.index w.basis all)
