use Rattle.crn_document.proofs.Prelude.{◌≡◌, ◌∙◌, ℕ, List, length, ap, ap₂, arith, inr, sym, pair_places, pairs_to, IsKnownFor, subst, false≢true}
use Rattle.crn_document.proofs.Linkages.{holds_second, pairs_few}
use Rattle.crn_document.proofs.SignalsKnown.{held}
use Rattle.crn_document.proofs.head.signal_sizes.Goals.{else-question-eq13-via-then-question-eq13+else-gives_vector, else-question-eq13-via-else-question-eq13}
use Rattle.crn_document.proofs.head.signal_sizes.Goals as goal

pub strong_of-requires : goal.strong_of-requires
strong_of-requires c = holds_second c.args.net.now c.args.question c.args.facts.now (inr c.if-question-eq13.true) c.requires.known

pub overflow_cast-result : goal.overflow_cast-result
overflow_cast-result c =
    let net = c.args.net.now in
    let earlier = c.args.facts.now.earlier in
    let e = c.strong_of.ensures in
    let same : c.as_slice.result.now ≡ pair_places net earlier = c.as_slice.ensures ∙ c.in_ok-pairs.ensures ∙ ap₂ (λ (ls es : List ℕ). pairs_to net ls es (length net.reactions)) e.labels e.exits in
    let long = ap (λ (x : List ℕ). length x) same in
    let few = pairs_few net earlier in
    let most = c.requires.known.network.partial.reactions_limit in
    omega (arith, long, few, most)

pub gives_vector-requires : goal.gives_vector-requires
gives_vector-requires c = (held c.args.net.now c.args.facts.now (subst (λ (n : ℕ). IsKnownFor c.args.net.now n c.args.facts.now) c.if-question-eq13.true c.requires.known)).confluence

pub returns-then-gives_vector : goal.returns-then-gives_vector
returns-then-gives_vector c =
    let net = c.args.net.now in
    let earlier = c.args.facts.now.earlier in
    let e = c.strong_of.ensures in
    let same : c.as_slice.result.now ≡ pair_places net earlier = c.as_slice.ensures ∙ c.in_ok-pairs.ensures ∙ ap₂ (λ (ls es : List ℕ). pairs_to net ls es (length net.reactions)) e.labels e.exits in
    let long = ap (λ (x : List ℕ). length x) same in
    let few = pairs_few net earlier in
    let most = c.requires.known.network.partial.reactions_limit in
    record {
      few = omega (arith, long, few, most);
      pairs = λ is has. long;
      vector = λ is. sym c.if-gives_vector.true ∙ c.gives_vector.ensures;
    }

pub returns : goal.returns
returns c = elim c.else-question-eq13.branch [
  | else-question-eq13-via-then-question-eq13+else-gives_vector w ↦ record { few = omega arith; pairs = λ is has. absurd (false≢true has); vector = λ is. sym w.if-gives_vector.false ∙ w.gives_vector.ensures }
  | else-question-eq13-via-else-question-eq13 w ↦ record { few = omega arith; pairs = λ is has. absurd (w.if-question-eq13.false is); vector = λ is. absurd (w.if-question-eq13.false is) }
]
