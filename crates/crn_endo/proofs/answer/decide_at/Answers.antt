use Rattle.crn_endo.proofs.Prelude.{◌≡◌, ◌+◌, List, refl, sym, ap₂, subst, ◌∙◌, ℤ, AllByRecursion, Sign, PassesBudget, begun, IsNarrow, IsSearchEnd, Found, KeptSlopes, slopes, slope_by, SearchSpent, root, slopes_alone, IsSearchStop}
use Rattle.crn_sign.specs.declared.end.SearchEnd.TheVariants.{Refuted}
use Rattle.crn_endo.proofs.Alone.{bare_is_narrow, passes_on}
use Rattle.crn_endo.proofs.Searched.{found_is, refuted_is, solution_narrow}
use Rattle.crn_endo.proofs.answer.decide_at.Goals as goal

pub returns-then-left-eq0 : goal.returns-then-left-eq0
returns-then-left-eq0 c = (
  record { is = refl; inside = c.requires.inside },
  refl,
  subst (PassesBudget (slopes c.args.net.now c.args.r)) (sym c.if-left-eq0.true) begun,
)

pub slope_by-requires : goal.slope_by-requires
slope_by-requires c =
    let f = c.in-Ok-Found in
    let s = c.in_ok-slopes.slopes in
    let e : IsSearchEnd (slopes_alone s.net s.reaction) c.args.left (Found f.pattern f.a f.field-0-2) = subst (IsSearchEnd (slopes_alone s.net s.reaction) c.args.left) f.field-0-is f.ensures in
    subst (AllByRecursion IsNarrow) (sym c.as_slice-in-Ok-Found.ensures) (solution_narrow (slopes_alone s.net s.reaction).matrix_a ((slopes_alone s.net s.reaction).kinds_a f.pattern) f.a.list e.0.part_a)

pub returns-in-Ok-Found : goal.returns-in-Ok-Found
returns-in-Ok-Found c =
    let f = c.in-Ok-Found in
    let s = c.in_ok-slopes.slopes in
    let e : IsSearchEnd (slopes_alone s.net s.reaction) c.args.left (Found f.pattern f.a f.field-0-2) = subst (IsSearchEnd (slopes_alone s.net s.reaction) c.args.left) f.field-0-is f.ensures in
    let is : c.in_ok-slope-in-Ok-Found.slope.list ≡ slope_by f.pattern f.a.list =
    c.in_ok-slope-in-Ok-Found.ensures ∙ ap₂ (λ (q : List Sign) (x : List ℤ). slope_by q x) c.as_slice.ensures c.as_slice-in-Ok-Found.ensures in
    found_is c.args.net.now c.args.r c.args.left c.args.budget (c.args.r + 1) f.pattern f.a f.field-0-2 c.in_ok-slope-in-Ok-Found.slope c.meets_definition.ensures (record { is = refl; inside = c.requires.inside })
    (subst (λ (k : KeptSlopes). IsSearchEnd (slopes_alone k.net k.reaction) c.args.left (Found f.pattern f.a f.field-0-2)) c.in_ok-slopes.ensures e) is

pub returns-in-Ok-Refuted : goal.returns-in-Ok-Refuted
returns-in-Ok-Refuted c =
    let f = c.in-Ok-Refuted in
    let s = c.in_ok-slopes.slopes in
    let e : IsSearchEnd (slopes_alone s.net s.reaction) c.args.left (Refuted f.tree) = subst (IsSearchEnd (slopes_alone s.net s.reaction) c.args.left) f.field-0-is f.ensures in
    refuted_is c.args.net.now c.args.r c.args.left c.args.budget f.tree (subst (λ (k : KeptSlopes). IsSearchEnd (slopes_alone k.net k.reaction) c.args.left (Refuted f.tree)) c.in_ok-slopes.ensures e)

pub returns-in-Ok-Spent : goal.returns-in-Ok-Spent
returns-in-Ok-Spent c =
    let s = c.in_ok-slopes.slopes in
    let e : IsSearchEnd (slopes_alone s.net s.reaction) c.args.left SearchSpent = subst (IsSearchEnd (slopes_alone s.net s.reaction) c.args.left) c.in-Ok-Spent.field-0-is c.in-Ok-Spent.ensures in (
      record { is = refl; inside = c.requires.inside },
      refl,
      passes_on c.args.net.now c.args.r root c.args.left (subst (λ (k : KeptSlopes). IsSearchEnd (slopes_alone k.net k.reaction) c.args.left SearchSpent) c.in_ok-slopes.ensures e),
    )

pub unreachable-requires : goal.unreachable-requires
unreachable-requires c =
    let s = c.in_ok-slopes.slopes in
    subst (IsSearchEnd (slopes_alone s.net s.reaction) c.args.left) c.in-Ok-Infeasible.field-0-is c.in-Ok-Infeasible.ensures

pub unreachable-requires-in-Err-WideB : goal.unreachable-requires-in-Err-WideB
unreachable-requires-in-Err-WideB c =
    let f = c.in-Err-WideB in
    let s = c.in_ok-slopes.slopes in
    bare_is_narrow f.field-0-0 f.field-0-1.list (subst (IsSearchStop (slopes_alone s.net s.reaction)) f.field-0-is f.ensures)
