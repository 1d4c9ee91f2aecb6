use Rattle.crn_document.proofs.Prelude.{inl, refl, subst, arith, ◌≤◌, length, MAX_REACTIONS, Row, AreMembers, MayBeRow}
use Rattle.crn_document.proofs.Linkages.{base_due}
use Rattle.crn_document.proofs.rows.row_due.Goals as goal

pub returns-in-Base : goal.returns-in-Base
returns-in-Base c =
    let net = c.args.below.now.net.now in
    let labels = c.args.below.now.labels.now in
    let few : length net.reactions ≤ MAX_REACTIONS = (let e = c.reactions-r.ensures.count in let l = c.reactions-r.ensures.limit in omega (arith, e, l)) in
    let may = subst (λ (row : Row). MayBeRow row) c.in-Base.is c.requires.may in
    let members = subst (λ (row : Row). AreMembers net labels row c.args.members.now) c.in-Base.is c.requires.members in
    rw c.in-Base.is (inl (base_due net labels (length net.complexes) c.in-Base.class c.in-Base.rank c.args.members few may members))

pub returns-in-Side : goal.returns-in-Side
returns-in-Side c = rw c.in-Side.is (inl refl)

pub returns-in-Walk : goal.returns-in-Walk
returns-in-Walk c = rw c.in-Walk.is (inl refl)
