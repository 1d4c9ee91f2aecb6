use Rattle.crn_check.proofs.Prelude.{◌≡◌, ◌∙◌, ℕ, List, length, ap, ap₂, sym, subst, Verdict, labels_of, exits_of, Test, AreSideMarks, linkage, strong, exits, pair_places, sides_formed, pairs_to, Judges, ordered_tests}
use Rattle.crn_cert.specs.Parts.{AreSides}
use Rattle.crn_check.proofs.Forms.{linkage_labelled}
use Rattle.crn_check.proofs.SideMarks.{sides_ordered}
use Rattle.crn_check.proofs.regular.check_regular.Goals as goal

pub check_sides-requires-clause-linkage : goal.check_sides-requires-clause-linkage
check_sides-requires-clause-linkage c =
    ap (λ (l : List ℕ). length l) (c.labels_in-linkage.ensures ∙ ap (λ (v : Verdict). labels_of v) c.verdict.ensures)
    ∙ (linkage_labelled c.args.net.now c.args.facts.now c.requires.facts c.requires.linkage).0

pub check_sides-requires-clause-sides : goal.check_sides-requires-clause-sides
check_sides-requires-clause-sides c =
    let net = c.args.net.now in
    let earlier = c.args.facts.now.earlier in
    let sides = c.in-Yes-Sides.sides in
    let labels : c.labels_in.result.now ≡ strong earlier = c.labels_in.ensures ∙ ap (λ (v : Verdict). labels_of v) c.verdict-classes.ensures in
    let out : c.exits_in.result.now ≡ exits earlier = c.exits_in.ensures ∙ ap (λ (v : Verdict). exits_of v) c.verdict-classes.ensures in
    let formed = rw (c.in-Yes-Sides.is-0, c.in-Yes-Sides.is-1) at c.requires.formed in
    subst (λ (rs : List ℕ). AreSides net rs sides) (sym (ap₂ (λ (a b : List ℕ). pairs_to net a b (length net.reactions)) labels out)) (sides_formed net earlier sides formed)

pub returns-in-Yes-Sides : goal.returns-in-Yes-Sides
returns-in-Yes-Sides c =
    let net = c.args.net.now in
    let earlier = c.args.facts.now.earlier in
    let sides = c.in-Yes-Sides.sides in
    let n = length net.reactions in
    let links : c.labels_in-linkage.result.now ≡ linkage earlier = c.labels_in-linkage.ensures ∙ ap (λ (v : Verdict). labels_of v) c.verdict.ensures in
    let labels : c.labels_in.result.now ≡ strong earlier = c.labels_in.ensures ∙ ap (λ (v : Verdict). labels_of v) c.verdict-classes.ensures in
    let out : c.exits_in.result.now ≡ exits earlier = c.exits_in.ensures ∙ ap (λ (v : Verdict). exits_of v) c.verdict-classes.ensures in
    let same : ordered_tests (AreSideMarks net c.labels_in-linkage.result.now) 1 (pairs_to net c.labels_in.result.now c.exits_in.result.now n) sides ≡ ordered_tests (AreSideMarks net (linkage earlier)) 1 (pair_places net earlier) sides =
    ap₂ (λ (l : List ℕ) (rs : List ℕ). ordered_tests (AreSideMarks net l) 1 rs sides) links (ap₂ (λ (a b : List ℕ). pairs_to net a b n) labels out) in
    rw (c.in-Yes-Sides.is-0, c.in-Yes-Sides.is-1) (subst (λ (ts : List Test). Judges ts c.check_sides.result) (same ∙ sym (sides_ordered net earlier 1 (pair_places net earlier) sides)) c.check_sides.ensures)
