use Rattle.crn_document.proofs.Prelude.{to_z-of_z, w32, to_z, of_z, ◌∙◌, ℕ, List, length, ap, inl, inr, sym, subst, ℤ, AllByRecursion, IsShapeOf, Shape, Q12, on, vector_given, IsNarrow, by_turn, strong, classes_known, AreClassesBy, vector_or_none}
use Rattle.crn_document.proofs.SignalsKnown.{held, of_vector, turn_first, turn_second, vector_known}
use Rattle.crn_document.proofs.signal_trees.shape_of.Goals.{then-turn-eqminus1, else-turn-eqminus1}
use Rattle.crn_document.proofs.signal_trees.shape_of.Goals as goal

pub strong_of-strong-requires : goal.strong_of-strong-requires
strong_of-strong-requires c = (held c.args.net.now c.args.checked.now.facts c.requires.ready.known).strong

pub vector_of-vector-requires : goal.vector_of-vector-requires
vector_of-vector-requires c = (held c.args.net.now c.args.checked.now.facts c.requires.ready.known).confluence

pub new-requires-clause-regular : goal.new-requires-clause-regular
new-requires-clause-regular c = (vector_known c.args.net.now c.args.checked.now.facts c.requires.ready.known c.requires.vector).regular

pub new-requires-clause-classes : goal.new-requires-clause-classes
new-requires-clause-classes c =
    let net = c.args.net.now in
    let facts = c.args.checked.now.facts in
    let known = c.requires.ready.known in
    let classes = classes_known net facts known.facts_of (held net facts known).strong in
    let e = c.strong_of-strong.ensures in
    subst (λ (ls : List ℕ). AreClassesBy net ls c.strong_of-strong.result.exits.now) (sym e.labels) (subst (λ (es : List ℕ). AreClassesBy net (strong facts.earlier) es) (sym e.exits) classes)

pub new-requires-clause-sides : goal.new-requires-clause-sides
new-requires-clause-sides c =
    let s = c.requires.ready.sides in
    let are = s.are_sides in
    let with = s.with_vector in
    are (with c.requires.vector)

pub new-requires-clause-long : goal.new-requires-clause-long
new-requires-clause-long c =
    let v = vector_known c.args.net.now c.args.checked.now.facts c.requires.ready.known c.requires.vector in
    ap (λ (x : List ℤ). length x) c.vector_of-vector.ensures ∙ v.long

pub new-requires-clause-narrow : goal.new-requires-clause-narrow
new-requires-clause-narrow c =
    let v = vector_known c.args.net.now c.args.checked.now.facts c.requires.ready.known c.requires.vector in
    subst (λ (x : List ℤ). AllByRecursion IsNarrow x) (sym c.vector_of-vector.ensures) v.narrow

pub returns : goal.returns
returns c =
    let net = c.args.net.now in
    let turn = c.args.turn in
    let o = vector_given (on c.args.checked.now.facts.earlier Q12) in
    let g = vector_or_none o in
    let made = c.in_ok-shape.shape in
    let last = c.if-turn-eqminus1.shape in
    let first : IsShapeOf net g made = subst (λ (x : List ℤ). IsShapeOf net x made) c.vector_of-vector.ensures c.in_ok-shape.ensures in
    of_vector o (λ x. IsShapeOf net (by_turn turn x) last) c.requires.vector (elim c.if-turn-eqminus1.branch [
      | then-turn-eqminus1 w ↦ turn_second net g turn made last (sym (to_z-of_z w32 turn c.ranges.turn) ∙ ap (λ (n : ℕ). to_z w32 n) w.if-turn-eqminus1.true) first (w.shape-is ∙ w.negate.ensures)
      | else-turn-eqminus1 w ↦ subst (λ (s : Shape). IsShapeOf net (by_turn turn g) s) (sym w.shape-is) (elim c.requires.turn [
        | inl e ↦ turn_first net g turn made e first
        | inr e ↦ absurd (w.if-turn-eqminus1.false (ap (λ (z : ℤ). of_z w32 z) e))
      ])
    ])
