use Rattle.crn_check.proofs.Prelude.{◌≡◌, ◌-◌, ◌<◌, ◌∙◌, ℕ, List, length, ap, ap₂, sym, subst, arith, Some, Verdict, labels_of, count_of, BadVector, Test, test, IsTie, least_from, others_than, tie_tests, linkage, linkage_count, IsNormal, Judges, IsSpared, ordered_tests, tied}
use Rattle.crn_check.proofs.Forms.{linkage_from}
use Rattle.crn_check.proofs.Judging.{judges_pass}
use Rattle.crn_check.proofs.Leading.{nonzero_inside}
use Rattle.crn_check.proofs.SideMarks.{ties_ordered}
use Rattle.crn_check.proofs.TieRows.{tied_long}
use Rattle.crn_check.proofs.confluence.check_vector.Goals as goal

pub check_ties-requires-clause-labels : goal.check_ties-requires-clause-labels
check_ties-requires-clause-labels c =
    let earlier = c.args.facts.now.earlier in
    let labels : c.labels_in.result.now ≡ linkage earlier = c.labels_in.ensures ∙ ap (λ (v : Verdict). labels_of v) c.verdict-linkage.ensures in
    let count : c.count_in.result ≡ linkage_count earlier = c.count_in.ensures ∙ ap (λ (v : Verdict). count_of v) c.verdict-linkage.ensures in
    rw (labels, count) (linkage_from c.args.net.now c.args.facts.now c.requires.facts c.requires.linkage)

pub check_ties-requires-clause-ties : goal.check_ties-requires-clause-ties
check_ties-requires-clause-ties c =
    let net = c.args.net.now in
    let earlier = c.args.facts.now.earlier in
    let g = c.args.vector.now in
    let count : c.count_in.result ≡ linkage_count earlier = c.count_in.ensures ∙ ap (λ (v : Verdict). count_of v) c.verdict-linkage.ensures in
    let normal : IsNormal net earlier g = c.is_normal.ensures.0 c.if-not-is_normal.false in
    let inside = nonzero_inside g normal.some in
    let lt : c.least.result < length net.complexes = omega (arith, inside, c.least.ensures, c.requires.vector.long) in
    let all : length (tied net (Some c.least.result)) ≡ length net.complexes - 1 = omega (arith, tied_long net c.least.result lt) in
    rw (count, all) c.requires.ties

pub returns : goal.returns
returns c =
    let net = c.args.net.now in
    let earlier = c.args.facts.now.earlier in
    let g = c.args.vector.now in
    let ties = c.args.ties.now in
    let labels : c.labels_in.result.now ≡ linkage earlier = c.labels_in.ensures ∙ ap (λ (v : Verdict). labels_of v) c.verdict-linkage.ensures in
    let count : c.count_in.result ≡ linkage_count earlier = c.count_in.ensures ∙ ap (λ (v : Verdict). count_of v) c.verdict-linkage.ensures in
    let normal : IsNormal net earlier g = c.is_normal.ensures.0 c.if-not-is_normal.false in
    let same = ap₂ (λ (l : List ℕ) (n : ℕ). ordered_tests (IsTie net l n (IsSpared (Some c.least.result))) 2 (tied net (Some c.least.result)) ties) labels count in
    let place = ap (λ (p : ℕ). ordered_tests (IsTie net (linkage earlier) (linkage_count earlier) (IsSpared (Some p))) 2 (tied net (Some p)) ties) c.least.ensures in
    let back = sym (ties_ordered net (linkage earlier) (linkage_count earlier) (λ d. d ≡ least_from 0 g) 2 (others_than net (least_from 0 g)) ties) in
    judges_pass (test 1 BadVector (IsNormal net earlier g)) (tie_tests net (linkage earlier) (linkage_count earlier) (λ d. d ≡ least_from 0 g) 2 (others_than net (least_from 0 g)) ties) c.check_ties.result normal (subst (λ (ts : List Test). Judges ts c.check_ties.result) (same ∙ place ∙ back) c.check_ties.ensures)
