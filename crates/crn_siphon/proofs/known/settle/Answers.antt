use Rattle.crn_siphon.proofs.Prelude.{◌≡◌, List, length, ap, sym, subst, ◌∙◌, arith, ℤ, Mat, width, signed_count, Kind, Feasible, Infeasible, siphon_kinds, IsCoverIn, IsDecision, reaction_system}
use Rattle.crn_siphon.proofs.Systems.{kinds_long, few_signed, decided, solution_covers, cut_is_law}
use Rattle.crn_siphon.proofs.known.settle.Goals as goal

pub settle-requires-clause-kinds : goal.settle-requires-clause-kinds
settle-requires-clause-kinds c =
    let net = c.args.net.now in
    let kinds : c.deref.result.now ≡ siphon_kinds net c.args.set = c.deref.ensures.value ∙ c.in_ok-kinds.ensures in
    ap (λ (ks : List Kind). length ks) kinds ∙ kinds_long net c.args.set ∙ ap (λ (m : Mat). width m) (sym c.requires.matrix)

pub settle-requires-clause-few : goal.settle-requires-clause-few
settle-requires-clause-few c =
    let net = c.args.net.now in
    let kinds : c.deref.result.now ≡ siphon_kinds net c.args.set = c.deref.ensures.value ∙ c.in_ok-kinds.ensures in
    omega (arith, ap (λ (ks : List Kind). signed_count ks) kinds, few_signed net c.args.set, c.meets_definition.ensures.partial.species_limit)

pub covered-species-requires-clause-cover : goal.covered-species-requires-clause-cover
covered-species-requires-clause-cover c =
    let net = c.args.net.now in
    let kinds : c.deref.result.now ≡ siphon_kinds net c.args.set = c.deref.ensures.value ∙ c.in_ok-kinds.ensures in
    let s = decided net c.args.set c.args.solver.now.matrix c.deref.result.now c.in_ok-cover.field-0 (Feasible c.in-Feasible.cover) c.requires.matrix kinds c.in_ok-cover.ensures.answer c.in-Feasible.is in
    subst (λ (x : List ℤ). IsCoverIn net c.args.set x) (sym c.as_slice.ensures) (solution_covers net c.args.set c.in-Feasible.cover.list c.meets_definition.ensures s)

pub keep_cover-requires-clause-cover : goal.keep_cover-requires-clause-cover
keep_cover-requires-clause-cover c = subst (λ (x : List ℤ). IsCoverIn c.args.net.now c.covered-species.result x) c.as_slice.ensures c.covered-species.ensures

pub keep_cover-requires-clause-set : goal.keep_cover-requires-clause-set
keep_cover-requires-clause-set c =
    let net = c.args.net.now in
    let kinds : c.deref.result.now ≡ siphon_kinds net c.args.set = c.deref.ensures.value ∙ c.in_ok-kinds.ensures in
    let s = decided net c.args.set c.args.solver.now.matrix c.deref.result.now c.in_ok-cover.field-0 (Feasible c.in-Feasible.cover) c.requires.matrix kinds c.in_ok-cover.ensures.answer c.in-Feasible.is in
    solution_covers net c.args.set c.in-Feasible.cover.list c.meets_definition.ensures s

pub keep_law-requires-clause-law : goal.keep_law-requires-clause-law
keep_law-requires-clause-law c =
    let net = c.args.net.now in
    let kinds : c.deref.result.now ≡ siphon_kinds net c.args.set = c.deref.ensures.value ∙ c.in_ok-kinds.ensures in
    let u = decided net c.args.set c.args.solver.now.matrix c.deref.result.now c.in_ok-cover.field-0 (Infeasible c.in-Infeasible.weights) c.requires.matrix kinds c.in_ok-cover.ensures.answer c.in-Infeasible.is in
    cut_is_law net c.args.set c.in-Infeasible.weights.list c.meets_definition.ensures u
