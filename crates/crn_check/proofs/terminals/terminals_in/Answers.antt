use Rattle.crn_check.proofs.Prelude.{◌≡◌, ◌≤◌, ◌∙◌, ℕ, List, length, sym, ap, ap₂, subst, arith, AllByRecursion, MAX_COMPLEXES, Net, Verdict, Q2, on, count_of, exits_of, labels_of, linkage, strong, exits, terminals_of, KeptFacts, AreFactsOf, HoldsOn}
use Rattle.crn_check.proofs.Forms.{strong_labelled, strong_below, strong_classes, linkage_labelled}
use Rattle.crn_check.proofs.ClassTerminals.{exits_counted}
use Rattle.crn_check.proofs.terminals.terminals_in.Goals as goal

pub terminals_of-requires-clause-same : goal.terminals_of-requires-clause-same
terminals_of-requires-clause-same c =
    let net = c.args.net.now in
    let facts = c.args.facts.now in
    ap (λ (l : List ℕ). length l) (c.labels_in.ensures ∙ ap (λ (v : Verdict). labels_of v) c.verdict-classes.ensures) ∙ strong_labelled net facts c.requires.facts c.requires.strong
    ∙ sym (linkage_labelled net facts c.requires.facts c.requires.linkage).0
    ∙ sym (ap (λ (l : List ℕ). length l) (c.labels_in-linkage.ensures ∙ ap (λ (v : Verdict). labels_of v) c.verdict.ensures))

few_exits : (net : Net) (facts : KeptFacts) (complexes : ℕ) → AreFactsOf net facts → HoldsOn facts.earlier 2 → complexes ≡ length net.complexes → complexes ≤ MAX_COMPLEXES → length (exits facts.earlier) ≤ MAX_COMPLEXES
few_exits net facts complexes h held is limit = omega (arith, exits_counted net facts h held, strong_classes net facts h held, is, limit)

pub terminals_of-requires-clause-labels : goal.terminals_of-requires-clause-labels
terminals_of-requires-clause-labels c =
    let facts = c.args.facts.now in
    subst (AllByRecursion (λ m. m ≤ MAX_COMPLEXES)) (sym (c.labels_in.ensures ∙ ap (λ (v : Verdict). labels_of v) c.verdict-classes.ensures))
    (strong_below c.args.net.now facts MAX_COMPLEXES c.requires.facts c.requires.strong (few_exits c.args.net.now facts c.complexes-few.result c.requires.facts c.requires.strong c.complexes-few.ensures.count c.complexes-few.ensures.limit))

pub terminals_of-requires-clause-few : goal.terminals_of-requires-clause-few
terminals_of-requires-clause-few c =
    let facts = c.args.facts.now in
    let out : c.exits_in.result.now ≡ exits facts.earlier = c.exits_in.ensures ∙ ap (λ (v : Verdict). exits_of v) c.verdict-classes.ensures in
    subst (λ (l : List ℕ). length l ≤ MAX_COMPLEXES) (sym out) (few_exits c.args.net.now facts c.complexes-few.result c.requires.facts c.requires.strong c.complexes-few.ensures.count c.complexes-few.ensures.limit)

pub returns : goal.returns
returns c =
    let facts = c.args.facts.now in
    let labels : c.labels_in.result.now ≡ strong facts.earlier = c.labels_in.ensures ∙ ap (λ (v : Verdict). labels_of v) c.verdict-classes.ensures in
    let out : c.exits_in.result.now ≡ exits facts.earlier = c.exits_in.ensures ∙ ap (λ (v : Verdict). exits_of v) c.verdict-classes.ensures in
    let links : c.labels_in-linkage.result.now ≡ linkage facts.earlier = c.labels_in-linkage.ensures ∙ ap (λ (v : Verdict). labels_of v) c.verdict.ensures in
    let long : length (exits facts.earlier) ≡ count_of (on facts.earlier Q2) = exits_counted c.args.net.now facts c.requires.facts c.requires.strong in
    c.terminals_of.ensures
    ∙ ap₂ (λ (a b : List ℕ). terminals_of a b c.labels_in-linkage.result.now (length b) c.args.k) labels out
    ∙ ap₂ (λ (l : List ℕ) (n : ℕ). terminals_of (strong facts.earlier) (exits facts.earlier) l n c.args.k) links long
