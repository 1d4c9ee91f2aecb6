-- After nodes that fit one after another, nothing is due if and only if they are those of a valid tree; then the
-- table is concordant, or the vector of the shape has no signal.
use Rattle.crn_ctree.proofs.Prelude.{◌≡◌, ◌≢◌, List, [], ◌∷◌, ◌++◌, refl, sym, subst, Sign, Signed, root, Said, Passing, done, then, rest_after, IsTaken, CompleteIfAndOnlyIfValid, CompleteTreesShow, reaction_system, ℤ, Net, IsNetwork, IsConcordant, concordance, IsRegular, Shape, signals, IsShapeOf, HasNoSignal, tables_are_steady, tables_feasible, signals_are_steady, signals_feasible, leaves_nothing, problem_of, table_of, InfluenceTable, Concordance, Signals}
use Rattle.crn_ctree.proofs.PairLaws.{is_table}
use Rattle.crn_ctree.proofs.NodeLaws.{passing_then, those_of_trees}

-- before the first node the root is due
pub passing_none : (w : Signed) → Passing w root [] root
passing_none w = done

-- and after one more node that is taken, what it leaves
pub passing_taken : (w : Signed) (begin due after : List (List Sign)) (said : List Said) (node : Said) → due ≢ [] → Passing w begin said due → IsTaken w due node after → Passing w begin (said ++ node ∷ []) after
passing_taken w begin [] after said node some h t = absurd (some refl)
passing_taken w begin (p ∷ rest) after said node some h t = passing_then w begin (p ∷ rest) after said (node ∷ []) h (then t.fits (subst (λ (d : List (List Sign)). Passing w d [] after) t.next_due done))

-- nodes that fit leave one list due
passing_one : (w : Signed) (due a b : List (List Sign)) (said : List Said) → Passing w due said a → Passing w due said b → a ≡ b
passing_one w due a b [] done done = refl
passing_one w due a b (node ∷ said) (then {p} {rest} f g) (then f' g') = passing_one w (rest_after p rest node) a b said g g'

pub complete_if_and_only_if_valid : CompleteIfAndOnlyIfValid
complete_if_and_only_if_valid w said due h = (
  λ e. (those_of_trees w).tree said (subst (λ (d : List (List Sign)). Passing w root said d) e h),
  λ t. passing_one w root due [] said h (subst (λ (s : List Said). Passing w root s []) (sym t.are) ((those_of_trees w).leaves t.tree t.valid)),
)

table_shown : (net : Net) (table : InfluenceTable) (said : List Said) → IsNetwork net → Passing (problem_of net (Concordance table)) root said [] → IsConcordant (reaction_system net) (table_of net table)
table_shown net table said n h alpha weights d =
    let m = reaction_system net in
    let signs = table_of net table in
    let t = (those_of_trees (concordance m signs)).tree said h in
    let s = (tables_feasible m signs (is_table net n table)).feasible alpha weights d in
    leaves_nothing (concordance m signs) (tables_are_steady m signs) t.tree [] s.0 t.valid s.1 s.2

no_signal : (net : Net) (s : Shape) (said : List Said) → IsNetwork net → Passing (signals s (reaction_system net)) root said [] → (g : List ℤ) → IsRegular net → IsShapeOf net g s → HasNoSignal net g
no_signal net s said n h g regular sh shelves mu level weights sg =
    let m = reaction_system net in
    let t = (those_of_trees (signals s m)).tree said h in
    let at = signals_feasible net g s n regular sh shelves mu level weights sg in
    leaves_nothing (signals s m) (signals_are_steady s m) t.tree [] at.0 t.valid at.1 at.2

pub complete_trees_show : CompleteTreesShow
complete_trees_show net (Concordance table) said n h = table_shown net table said n h
complete_trees_show net (Signals shape) said n h = no_signal net shape.now said n h
