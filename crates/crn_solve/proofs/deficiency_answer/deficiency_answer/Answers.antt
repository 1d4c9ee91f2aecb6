use Rattle.crn_solve.proofs.Prelude.{◌≡◌, ℕ, sym, subst, Answer, Earlier, Q5, Q6, on, linkage, linkage_count, GiveRank, IsAnswer, tight, if_ok}
use Rattle.crn_solve.proofs.Deficiencies.{gives_rank, rests_given}
use Rattle.crn_solve.proofs.deficiency_answer.deficiency_answer.Goals as goal

pub deficiencies-requires-clause-rank : goal.deficiencies-requires-clause-rank
deficiencies-requires-clause-rank c = c.requires.rank.rank c.in-Some.rank (sym c.in-Some.ensures)

pub returns-in-Some : goal.returns-in-Some
returns-in-Some c =
    let net = c.args.net.now in
    let classes = c.args.classes.now in
    let rank = c.in-Some.rank in
    if_ok (λ (answer : Answer). (budget : ℕ) (earlier : Earlier) → GiveRank earlier classes.label.list classes.count rank → IsAnswer net budget earlier Q6 answer)
    (λ (answer : Answer). (budget : ℕ) (earlier : Earlier) → linkage earlier ≡ classes.label.list → linkage_count earlier ≡ classes.count → on earlier Q5 ≡ tight c.args.rank.now → IsAnswer net budget earlier Q6 answer) c.deficiencies.result
    (λ answer h budget earlier labels count is. h budget earlier (gives_rank earlier classes.label.list classes.count rank c.args.rank.now (sym c.in-Some.ensures) labels count is)) c.deficiencies.ensures

pub returns-in-None : goal.returns-in-None
returns-in-None c budget earlier labels count is =
    let net = c.args.net.now in
    subst (IsAnswer net budget earlier Q6) (sym c.rests_on.ensures) (rests_given net budget earlier c.args.rank.now (c.requires.rank.or_open (sym c.in-None.ensures)) is)
