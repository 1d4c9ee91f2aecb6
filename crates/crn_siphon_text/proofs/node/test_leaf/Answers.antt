use Rattle.crn_siphon_text.proofs.Prelude.{◌≡◌, ℕ, List, ap, sym, subst, ◌∙◌, arith, ℤ, pos, nat_abs, unsigned_abs, slice_index_or, false≢true, IsBad, Forks, IsBadBy, HasLaw, Voids, node_of}
use Rattle.crn_siphon_text.proofs.NodesRead.{fork_said, bad_said, law_said, void_said, node_gives, node_fails}
use Rattle.crn_siphon_text.proofs.node.test_leaf.Goals as goal

pub returns-then-place-eq8 : goal.returns-then-place-eq8
returns-then-place-eq8 c = λ r s. node_fails c.args.net.now c.args.prefix.now (node_of r) Forks (fork_said c.args.net.now c.args.place c.args.numbers.now r (omega arith) s) (λ g. g)

pub first-requires : goal.first-requires
first-requires c =
    let b = bad_said c.args.net.now c.args.place c.args.numbers.now c.requires.0 (omega arith) c.requires.1 in
    omega (arith, ap (λ (l : List ℤ). unsigned_abs (slice_index_or l 0 (pos 0))) b.1, b.2.1, c.meets_definition.ensures.partial.reactions_limit)

pub stops-requires-clause-some : goal.stops-requires-clause-some
stops-requires-clause-some c =
    let b = bad_said c.args.net.now c.args.place c.args.numbers.now c.requires.0 (omega arith) c.requires.1 in
    let v : c.first.result ≡ b.0 = c.first.ensures ∙ ap (λ (l : List ℤ). nat_abs (slice_index_or l 0 (pos 0))) b.1 in
    omega (arith, v, b.2.0)

pub stops-requires-clause-inside : goal.stops-requires-clause-inside
stops-requires-clause-inside c =
    let b = bad_said c.args.net.now c.args.place c.args.numbers.now c.requires.0 (omega arith) c.requires.1 in
    let v : c.first.result ≡ b.0 = c.first.ensures ∙ ap (λ (l : List ℤ). nat_abs (slice_index_or l 0 (pos 0))) b.1 in
    omega (arith, v, b.2.1)

pub returns-then-stops : goal.returns-then-stops
returns-then-stops c = λ r s.
    let b = bad_said c.args.net.now c.args.place c.args.numbers.now r (omega arith) s in
    let v : c.first.result ≡ b.0 = c.first.ensures ∙ ap (λ (l : List ℤ). nat_abs (slice_index_or l 0 (pos 0))) b.1 in
    node_gives c.args.net.now c.args.prefix.now (node_of r) (IsBadBy b.0) b.3 (subst (λ (k : ℕ). IsBad c.args.net.now c.args.prefix.now k) v (c.stops.ensures.0 c.if-stops.true))

pub returns-then-place-eq9 : goal.returns-then-place-eq9
returns-then-place-eq9 c = λ r s.
    let b = bad_said c.args.net.now c.args.place c.args.numbers.now r (omega arith) s in
    let v : c.first.result ≡ b.0 = c.first.ensures ∙ ap (λ (l : List ℤ). nat_abs (slice_index_or l 0 (pos 0))) b.1 in
    node_fails c.args.net.now c.args.prefix.now (node_of r) (IsBadBy b.0) b.3 (λ g. false≢true (sym c.if-stops.false ∙ c.stops.ensures.1 (subst (λ (k : ℕ). IsBad c.args.net.now c.args.prefix.now k) (sym v) g)))

pub is_semi_law-requires : goal.is_semi_law-requires
is_semi_law-requires c = (law_said c.args.net.now c.args.place c.args.numbers.now c.requires.0 (omega arith) c.requires.1).0

pub returns-then-not-is_semi_law : goal.returns-then-not-is_semi_law
returns-then-not-is_semi_law c = λ r s.
    let b = law_said c.args.net.now c.args.place c.args.numbers.now r (omega arith) s in
    node_fails c.args.net.now c.args.prefix.now (node_of r) (HasLaw c.args.numbers.now) b.1 (λ g. false≢true (sym c.if-not-is_semi_law.true ∙ c.is_semi_law.ensures.1 g.0))

pub returns-then-is_zero_outside : goal.returns-then-is_zero_outside
returns-then-is_zero_outside c = λ r s.
    let b = law_said c.args.net.now c.args.place c.args.numbers.now r (omega arith) s in
    node_gives c.args.net.now c.args.prefix.now (node_of r) (HasLaw c.args.numbers.now) b.1 (c.is_semi_law.ensures.0 c.if-not-is_semi_law.false, c.is_zero_outside.ensures.0 c.if-is_zero_outside.true)

pub returns-then-place-eq10 : goal.returns-then-place-eq10
returns-then-place-eq10 c = λ r s.
    let b = law_said c.args.net.now c.args.place c.args.numbers.now r (omega arith) s in
    node_fails c.args.net.now c.args.prefix.now (node_of r) (HasLaw c.args.numbers.now) b.1 (λ g. false≢true (sym c.if-is_zero_outside.false ∙ c.is_zero_outside.ensures.1 g.1))

pub returns-then-is_void : goal.returns-then-is_void
returns-then-is_void c = λ r s.
    node_gives c.args.net.now c.args.prefix.now (node_of r) Voids (void_said c.args.net.now c.args.place c.args.numbers.now r (λ e. omega (arith, e)) (λ e. omega (arith, e)) (λ e. omega (arith, e)) s) (c.is_void.ensures.0 c.if-is_void.true)

pub returns : goal.returns
returns c = λ r s.
    node_fails c.args.net.now c.args.prefix.now (node_of r) Voids (void_said c.args.net.now c.args.place c.args.numbers.now r (λ e. omega (arith, e)) (λ e. omega (arith, e)) (λ e. omega (arith, e)) s) (λ g. false≢true (sym c.if-is_void.false ∙ c.is_void.ensures.1 g))
