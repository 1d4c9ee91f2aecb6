use Rattle.crn_reg.proofs.Prelude.{ℕ, List, length, ap, subst, arith, SameStrong, confluence_system, Zero, Line, GivesSpace, GathersFirst}
use Rattle.crn_reg.specs.declared.space.Space.TheVariants.{Plane}
use Rattle.crn_reg.proofs.Solutions.{count_few}
use Rattle.crn_reg.proofs.ConfluenceAnswers.{Known, Given, line_answer, zero_answer, plane_answer}
use Rattle.crn_reg.proofs.confluence_vector.answer_of.Goals as goal

pub normal_vector-requires-clause-exits : goal.normal_vector-requires-clause-exits
normal_vector-requires-clause-exits c =
    let s = c.requires.strong_classes in
    let few = count_few (SameStrong c.args._net.now.reactions) c.args.strong.now.label.list c.args.strong.now.count s.right s.count_is in
    let same = ap length c.as_slice-in-Line.ensures in
    omega (arith, few, same, s.classes, s.places, c.meets_definition.ensures.partial.complexes_limit)

pub returns-in-Zero : goal.returns-in-Zero
returns-in-Zero c budget earlier g yes' four =
    let net = c.args._net.now in
    let l = c.args._linkage.now in
    let s = c.args.strong.now in
    let known : Known net l.label.list l.count s.count s.terminal s.label.list s.exit.list c.args.weak = record { network = c.meets_definition.ensures; regular = c.requires.regular; linkage_is = c.requires.classes; strong_is = c.requires.strong_classes; weak_is = c.requires.weak } in
    let given : Given earlier l.label.list l.count s.label.list s.exit.list c.args.weak = record { gives = g; yes' = yes'; four = four } in
    let space : GivesSpace (confluence_system net l.label.list l.count) (Zero c.in-Zero.ties) = subst (GivesSpace (confluence_system net l.label.list l.count)) c.in-Zero.is c.requires.space in
    zero_answer net budget earlier l.label.list l.count s.count s.terminal s.label.list s.exit.list c.args.weak c.in-Zero.ties known given space

pub returns-in-Line : goal.returns-in-Line
returns-in-Line c budget earlier g yes' four =
    let net = c.args._net.now in
    let l = c.args._linkage.now in
    let s = c.args.strong.now in
    let known : Known net l.label.list l.count s.count s.terminal s.label.list s.exit.list c.args.weak = record { network = c.meets_definition.ensures; regular = c.requires.regular; linkage_is = c.requires.classes; strong_is = c.requires.strong_classes; weak_is = c.requires.weak } in
    let given : Given earlier l.label.list l.count s.label.list s.exit.list c.args.weak = record { gives = g; yes' = yes'; four = four } in
    let space : GivesSpace (confluence_system net l.label.list l.count) (Line c.in-Line.vector c.in-Line.ties) = subst (GivesSpace (confluence_system net l.label.list l.count)) c.in-Line.is c.requires.space in
    line_answer net budget earlier l.label.list l.count s.count s.terminal s.label.list s.exit.list c.args.weak c.in-Line.vector.list c.normal_vector.result c.in-Line.ties known given space
    c.normal_vector.ensures.is c.normal_vector.ensures.leads
    (λ no'.
    subst (λ (es : List ℕ). GathersFirst s.label.list es c.normal_vector.result.list) c.as_slice-in-Line.ensures
    (subst (λ (ls : List ℕ). GathersFirst ls c.as_slice-in-Line.result.now c.normal_vector.result.list) c.as_slice.ensures (c.normal_vector.ensures.gathers no')))

pub returns-in-Plane : goal.returns-in-Plane
returns-in-Plane c budget earlier g yes' four =
    let net = c.args._net.now in
    let l = c.args._linkage.now in
    let s = c.args.strong.now in
    let known : Known net l.label.list l.count s.count s.terminal s.label.list s.exit.list c.args.weak = record { network = c.meets_definition.ensures; regular = c.requires.regular; linkage_is = c.requires.classes; strong_is = c.requires.strong_classes; weak_is = c.requires.weak } in
    let given : Given earlier l.label.list l.count s.label.list s.exit.list c.args.weak = record { gives = g; yes' = yes'; four = four } in
    let space : GivesSpace (confluence_system net l.label.list l.count) (Plane c.in-Plane.first c.in-Plane.second c.in-Plane.one c.in-Plane.two) = subst (GivesSpace (confluence_system net l.label.list l.count)) c.in-Plane.is c.requires.space in
    rw c.plain.ensures (plane_answer net budget earlier l.label.list l.count s.count s.terminal s.label.list s.exit.list c.args.weak c.in-Plane.first c.in-Plane.second c.in-Plane.one c.in-Plane.two known given space)
