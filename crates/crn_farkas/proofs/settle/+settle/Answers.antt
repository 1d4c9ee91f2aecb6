use Rattle.crn_farkas.proofs.Prelude.{◌≡◌, ◌≢◌, ◌<◌, ◌+◌, arith, sym, ap, subst, ◌∙◌, ℕ, pos, length, width, Kind, Pos, Free, entry, kind_at, any_default, Mat, ◌↔◌, IsSeen, IsSettled, HasCrossed, IsViewed}
use Rattle.crn_farkas.proofs.Levels.{named_by}
use Rattle.crn_farkas.proofs.Seen.{shown}
use Rattle.crn_farkas.proofs.Steps.{wrong_some, wrong_other, Change, change_of, agree_step, settled_step}
use Rattle.crn_farkas.proofs.settle.+settle.Goals as goal

pub cross-requires-clause-place : goal.cross-requires-clause-place
cross-requires-clause-place t c =
    let here = c.in-Some.ensures.here in
    let c_lt : here.c < length c.args.kinds.now = omega (arith, here.inside, c.requires.kinds ∙ ap width (sym c.loop-j.invariant.matrix)) in
    let is = named_by (length c.args.kinds.now) c.args.levels.now here.c c.in-Some.j c.coordinate_at-c.result c.requires.levels c_lt here.at c.coordinate_at-c.ensures.first c.coordinate_at-c.ensures.second in
    omega (arith, is, here.inside)

pub cross-requires-clause-other : goal.cross-requires-clause-other
cross-requires-clause-other t c =
    let a = c.loop-j.tableau.matrix in
    let basis = c.loop-j.tableau.basis in
    let g = c.args.g in
    let kinds = c.args.kinds.now in
    let here = c.in-Some.ensures.here in
    let g_lt : g < width a = subst (λ (m : Mat). g < width m) (sym c.loop-j.invariant.matrix) c.requires.goal in
    let y = shown a basis c.loop-j.view g (kind_at kinds g) c.names_rows.ensures g_lt c.requires.asked c.loop-j.invariant.view in
    let c_lt : here.c < length kinds = omega (arith, here.inside, c.requires.kinds ∙ ap width (sym c.loop-j.invariant.matrix)) in
    let is = named_by (length kinds) c.args.levels.now here.c c.in-Some.j c.coordinate_at-c.result c.requires.levels c_lt here.at c.coordinate_at-c.ensures.first c.coordinate_at-c.ensures.second in
    subst (λ (k : ℕ). k ≢ g) (sym is) (wrong_other a basis c.loop-j.view g here.c kinds y.y c.requires.asked y.is (here.wrong y.y y.is))

pub cross-requires-clause-some : goal.cross-requires-clause-some
cross-requires-clause-some t c =
    let a = c.loop-j.tableau.matrix in
    let g = c.args.g in
    let kinds = c.args.kinds.now in
    let here = c.in-Some.ensures.here in
    let c_lt : here.c < length kinds = omega (arith, here.inside, c.requires.kinds ∙ ap width (sym c.loop-j.invariant.matrix)) in
    let is = named_by (length kinds) c.args.levels.now here.c c.in-Some.j c.coordinate_at-c.result c.requires.levels c_lt here.at c.coordinate_at-c.ensures.first c.coordinate_at-c.ensures.second in
    λ y seen. subst (λ (k : ℕ). entry y k ≢ pos 0) (sym is) (wrong_some c.loop-j.view (kind_at kinds here.c) (entry y here.c)
    (here.wrong y (subst (λ (κ : Kind). IsSeen a c.loop-j.tableau.basis c.loop-j.view g κ y) (any_default Pos Free kinds g (omega (arith, c.requires.goal, c.requires.kinds))) seen)))

pub loop-j-preserved : goal.loop-j-preserved
loop-j-preserved t c =
    let a = c.loop-j.tableau.matrix in
    let basis = c.loop-j.tableau.basis in
    let next = c.cross.new.tableau.basis in
    let basis' = c.settle.new.tableau.basis in
    let a' = c.settle.new.tableau.matrix in
    let g = c.args.g in
    let kinds = c.args.kinds.now in
    let levels = c.args.levels.now in
    let j = c.in-Some.j in
    let asked = c.requires.asked in
    let g_lt : g < width a = subst (λ (m : Mat). g < width m) (sym c.loop-j.invariant.matrix) c.requires.goal in
    let y = shown a basis c.loop-j.view g (kind_at kinds g) c.names_rows.ensures g_lt asked c.loop-j.invariant.view in
    let first = c.in-Some.ensures in
    let k = first.here.c in
    let long : length kinds ≡ width a = c.requires.kinds ∙ ap width (sym c.loop-j.invariant.matrix) in
    let is : c.coordinate_at-c.result ≡ k = named_by (length kinds) levels k j c.coordinate_at-c.result c.requires.levels (omega (arith, first.here.inside, long)) first.here.at c.coordinate_at-c.ensures.first c.coordinate_at-c.ensures.second in
    let other = wrong_other a basis c.loop-j.view g k kinds y.y asked y.is (first.here.wrong y.y y.is) in
    let crossed = subst (λ (m : ℕ). HasCrossed c.loop-j.view next c.cross.new.view m) is c.in_ok-cross.ensures.crossed in
    let others = subst (λ (m : ℕ). (i : ℕ) → i ≢ g → i ≢ m → IsViewed basis c.loop-j.view i ↔ IsViewed next c.cross.new.view i) is c.in_ok-cross.ensures.others in
    let change : Change levels g j k basis c.loop-j.view basis' c.settle.new.view = change_of levels g j k basis next basis' c.loop-j.view c.cross.new.view c.settle.new.view other
    (omega (arith, first.here.at)) crossed others c.in_ok-settle.ensures.agree in
    let same : a' ≡ a = c.in_ok-settle.ensures.matrix ∙ c.in_ok-cross.ensures.matrix in
    let S : Mat → Type 0 = λ m. IsSettled m basis' c.settle.new.view g kinds levels j in
    let S' : Mat → Type 0 = λ m. IsSettled m basis' c.settle.new.view g kinds levels (j + 1) in
    record {
      matrix = same ∙ c.loop-j.invariant.matrix;
      view = c.in_ok-settle.ensures.view;
      settled = subst S' (sym same) (settled_step a basis basis' c.loop-j.view c.settle.new.view g c.loop-j.done c.args.k j kinds levels y.y long c.requires.levels asked first y.is change (subst S same c.in_ok-settle.ensures.settled));
      agree = agree_step levels g j c.args.k k c.args.tableau.now.basis basis basis' c.args.view.now c.loop-j.view c.settle.new.view first.high first.here.at c.loop-j.invariant.agree change;
      low = omega (arith, first.high);
    }
