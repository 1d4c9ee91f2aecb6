use Rattle.crn_check.proofs.Prelude.{◌≡◌, ◌∙◌, ℕ, List, length, ap, ap₂, sym, subst, None, range_with_len, length-range_with_len, Verdict, labels_of, count_of, Test, IsTie, linkage, linkage_count, Judges, IsSpared, ordered_tests, tied}
use Rattle.crn_check.proofs.Forms.{linkage_from}
use Rattle.crn_check.proofs.SideMarks.{ties_ordered}
use Rattle.crn_check.proofs.TieRows.{all_tied}
use Rattle.crn_check.proofs.confluence.check_zero.Goals as goal

pub check_ties-requires-clause-labels : goal.check_ties-requires-clause-labels
check_ties-requires-clause-labels c =
    let earlier = c.args.facts.now.earlier in
    let labels : c.labels_in.result.now ≡ linkage earlier = c.labels_in.ensures ∙ ap (λ (v : Verdict). labels_of v) c.verdict-linkage.ensures in
    let count : c.count_in.result ≡ linkage_count earlier = c.count_in.ensures ∙ ap (λ (v : Verdict). count_of v) c.verdict-linkage.ensures in
    rw (labels, count) (linkage_from c.args.net.now c.args.facts.now c.requires.facts c.requires.linkage)

pub check_ties-requires-clause-ties : goal.check_ties-requires-clause-ties
check_ties-requires-clause-ties c =
    let net = c.args.net.now in
    let earlier = c.args.facts.now.earlier in
    let count : c.count_in.result ≡ linkage_count earlier = c.count_in.ensures ∙ ap (λ (v : Verdict). count_of v) c.verdict-linkage.ensures in
    let all : length (tied net None) ≡ length net.complexes = ap (λ (l : List ℕ). length l) (all_tied net) ∙ length-range_with_len 0 (length net.complexes) in
    rw (count, all) c.requires.ties

pub returns : goal.returns
returns c =
    let net = c.args.net.now in
    let earlier = c.args.facts.now.earlier in
    let ties = c.args.ties.now in
    let labels : c.labels_in.result.now ≡ linkage earlier = c.labels_in.ensures ∙ ap (λ (v : Verdict). labels_of v) c.verdict-linkage.ensures in
    let count : c.count_in.result ≡ linkage_count earlier = c.count_in.ensures ∙ ap (λ (v : Verdict). count_of v) c.verdict-linkage.ensures in
    let same = ap₂ (λ (l : List ℕ) (n : ℕ). ordered_tests (IsTie net l n (IsSpared None)) 1 (tied net None) ties) labels count in
    let whole = ap (λ (cs : List ℕ). ordered_tests (IsTie net (linkage earlier) (linkage_count earlier) (IsSpared None)) 1 cs ties) (all_tied net) in
    let back = sym (ties_ordered net (linkage earlier) (linkage_count earlier) (λ d. ⊥) 1 (range_with_len 0 (length net.complexes)) ties) in
    subst (λ (ts : List Test). Judges ts c.check_ties.result) (same ∙ whole ∙ back) c.check_ties.ensures
