-- How the visits of a prefix, of its children and of all below them end.
use Rattle.crn_siphon.proofs.Prelude.{Result, Ok, Err, MatchResult, OnOk, AreNodesOf, ◌≡◌, ℕ, suc, ◌+◌, ◌<◌, ◌≤◌, inl, inr, Bool, true, false, List, [], ◌∷◌, ◌++◌, length, map, refl, sym, ap, subst, ◌∙◌, arith, ℤ, append-nil, length-append, KeptInts, KeptNums, Net, IsNetwork, NamesWide, IsConservationLaw, reaction_system, species_system, MAX_BUDGET, rows_count, vectors_count, AreFree, AreBits, RuleOutConservation, IsLawStop, wide_basis, IsSiphon, Covers, set_of, IsFull, Stands, Plan, IsFormedTree, node_count, Visits, over, fallen, ended, opened, Passes, begun, below, children, root, PassesBudget, Said, Yes, NoLaw, NoSiphon, Wide, SpentAnswer, IsAnswer, IsFormed, IsValid, said_of, valid_answers_are_true, longer_by, visits_then, visits_ended, passes_first, passes_then, passes_at, Siphon, Tree, SpeciesSet, Fact, Node, NodeFork, Search, End, Found, Refuted, Spent, mark, IsSearchStop, EndsAt, EndsBelow, EndsWithSet, EndsFound, EndsWithTree, EndsBelowWithTree, HasGrown, HasPut, IsFoundBy, IsLeafAt, IsStanding, RunsOut, Lists, IsEndOfVisits, IsStopAnswer, Stop, StopWide, NoMemory, Persist}
use Rattle.crn_siphon_check.specs.Trees.{Fork}
use Rattle.crn_siphon.proofs.Nodes.{all_weights, tree_nodes}
use Rattle.crn_siphon.proofs.Nodes.{fork_put, lists_more}
use Rattle.crn_siphon.proofs.Places.{marks_set, marks_formed, standing_is_siphon}

-- ---- results

-- what holds of a value, with what holds if there is one
pub ok_too : {X Y : Type 0} (P : X → Type 0) (Q : Y → Type 0) (R : Type 0) (r : Result X Y) → MatchResult r P Q → OnOk r R → MatchResult r (λ x. P x × R) Q
ok_too P Q R (Ok x) h g = (h, g)
ok_too P Q R (Err y) h g = h

-- ---- one prefix

pub run_out : (net : Net) (p : List Bool) (left : ℕ) → left ≡ 0 → RunsOut net (p ∷ []) left left
run_out net p left e = record { passes = passes_at net (p ∷ []) 0 left (sym e) begun; none = e }

pub leaf_at : (net : Net) (p : List Bool) (left after : ℕ) (tree : Plan) → after + 1 ≡ left → IsLeafAt net p tree → EndsWithTree net p left after tree
leaf_at net p left after tree e l = (
  (l.valid, l.formed),
  record { visits = p ∷ []; are = fallen l.none over; long = sym l.one },
  omega (arith, e, l.one),
)

pub found_at : (net : Net) (p : List Bool) (left after : ℕ) (marks cover : List ℤ) → after + 1 ≡ left → marks ≡ map mark p → IsFull net p → IsStanding net p cover → EndsWithSet net (p ∷ []) left after marks cover
found_at net p left after marks cover e m f s = (
  record { set = p; marked = m; full = f; standing = s },
  (1, record { visits = p ∷ []; are = ended s.stands f; long = refl }, omega (arith, e)),
)

-- from what is visited below a prefix that stands and is not full to what is visited with it
pub opened_at : (net : Net) (p : List Bool) (before mid after : Search) (e : End) → mid.left + 1 ≡ before.left → mid.nodes.items ≡ before.nodes.items ++ NodeFork ∷ [] → HasGrown mid after → Stands net p → ¬ (IsFull net p)
    → EndsBelow net p mid after e → EndsAt net p before after e
opened_at net p before mid after (Found inside cover) n put grown s f h =
    let w = h.ends in
    let v = w.1.1 in
    record {
      numbers = h.numbers;
      at = h.at;
      ends = (
        w.0,
        (suc w.1.0, record { visits = p ∷ v.visits; are = opened s f (subst (λ (t : List (List Bool)). Visits net t v.visits true) (sym (append-nil (children p))) v.are); long = ap (λ (k : ℕ). suc k) v.long }, omega (arith, n, w.1.2)),
      );
    }
opened_at net p before mid after Refuted n put grown s f h =
    let b = h.2 in
    let put_both = h.3 in
    let v = b.1.2 in (
      Fork h.0 h.1,
      (
        b.0,
        record { visits = p ∷ v.visits; are = opened s f (subst (λ (t : List (List Bool)). Visits net t v.visits false) (sym (append-nil (children p))) v.are); long = omega (arith, v.long, b.1.1) },
        omega (arith, n, b.1.1, b.1.3),
      ),
      fork_put after.known.laws.items before.nodes.items mid.nodes.items after.nodes.items h.0 h.1 put_both.mid (length after.nodes.items) put grown.nodes put_both.inside put_both.outside,
    )
opened_at net p before mid after Spent n put grown s f h = record {
  passes = passes_at net (p ∷ []) (suc mid.left) before.left (omega (arith, n)) (below s f (subst (λ (t : List (List Bool)). Passes net t mid.left) (sym (append-nil (children p))) h.passes));
  none = h.none;
}

-- ---- the children of a prefix

abbrev pub with : List Bool → Bool → List Bool
with p b = p ++ b ∷ []

-- an end at the first child
pub first_child : (net : Net) (p : List Bool) (before after : Search) (e : End) → (e ≡ Refuted → ⊥) → EndsAt net (with p true) before after e → EndsBelow net p before after e
first_child net p before after (Found inside cover) n h =
    let w = h.ends in
    let v = w.1.1 in
    record {
      numbers = h.numbers;
      at = h.at;
      ends = (w.0, (w.1.0, record { visits = v.visits; are = visits_ended net (with p true ∷ []) v.visits (with p false ∷ []) true v.are refl; long = v.long }, w.1.2));
    }
first_child net p before after Refuted n h = absurd (n refl)
first_child net p before after Spent n h = record { passes = passes_first net (with p true ∷ []) (with p false ∷ []) before.left h.passes; none = h.none }

formed_child : (net : Net) (p : List Bool) (b : Bool) (tree : Plan) → IsFormedTree net (length (with p b)) tree → IsFormedTree net (length p + 1) tree
formed_child net p b tree f = subst (λ (n : ℕ). IsFormedTree net n tree) (omega (arith, length-append p (b ∷ []))) f

-- the trees of both children make a tree
both_trees : (net : Net) (p : List Bool) (left mid after : ℕ) (inside outside : Plan) → length p < length net.names → EndsWithTree net (with p true) left mid inside → EndsWithTree net (with p false) mid after outside
    → EndsBelowWithTree net p left after (Fork inside outside)
both_trees net p left mid after inside outside lt first second =
    let u = first.1 in
    let v = second.1 in (
      ((lt, first.0.0, second.0.0), (lt, formed_child net p true inside first.0.1, formed_child net p false outside second.0.1)),
      (
        node_count inside + node_count outside,
        omega arith,
        record { visits = u.visits ++ v.visits; are = visits_then net (with p true ∷ []) u.visits (with p false ∷ []) v.visits false false u.are refl v.are; long = omega (arith, length-append u.visits v.visits, u.long, v.long) },
        omega (arith, first.2, second.2),
      ),
    )

-- an end at the second child, after the tree of the first one
pub second_child : (net : Net) (p : List Bool) (before mid after : Search) (e : End) → length p < length net.names → HasGrown mid after → EndsAt net (with p true) before mid Refuted → EndsAt net (with p false) mid after e
    → EndsBelow net p before after e
second_child net p before mid after (Found inside cover) lt grown first h =
    let f = first.1 in
    let u = f.1 in
    let w = h.ends in
    let v = w.1.1 in
    record {
      numbers = h.numbers;
      at = h.at;
      ends = (
        w.0,
        (
          node_count first.0 + w.1.0,
          record { visits = u.visits ++ v.visits; are = visits_then net (with p true ∷ []) u.visits (with p false ∷ []) v.visits false true u.are refl v.are; long = omega (arith, length-append u.visits v.visits, u.long, v.long) },
          omega (arith, f.2, w.1.2),
        ),
      );
    }
second_child net p before mid after Refuted lt grown first h = (
  first.0,
  h.0,
  both_trees net p before.left mid.left after.left first.0 h.0 lt first.1 h.1,
  record {
    mid = length mid.nodes.items;
    inside = lists_more mid.known.laws.items after.known.laws.items mid.nodes.items after.nodes.items first.0 (length before.nodes.items) (length mid.nodes.items) grown.laws grown.nodes first.2;
    outside = h.2;
  },
)
second_child net p before mid after Spent lt grown first h =
    let f = first.1 in
    let u = f.1 in
    record { passes = passes_at net (children p) (length u.visits + mid.left) before.left (omega (arith, u.long, f.2)) (passes_then net (with p true ∷ []) (with p false ∷ []) u.visits false mid.left u.are refl h.passes); none = h.none }

-- ---- all visits

-- the visits end with a full prefix that stands
pub found_end : {net : Net} {p : List Bool} (before after : Search) (e : End) (inside : SpeciesSet) (cover : ℕ) → e ≡ Found inside cover → EndsAt net p before after e → EndsFound net (p ∷ []) before after inside cover
found_end {net} {p} before after e inside cover is h = subst (λ (x : End). EndsAt net p before after x) is h

-- they end with a tree
pub refuted_end : {net : Net} {p : List Bool} (before after : Search) (e : End) → e ≡ Refuted → EndsAt net p before after e → (tree : Plan) × EndsWithTree net p before.left after.left tree × HasPut before after tree
refuted_end {net} {p} before after e is h = subst (λ (x : End). EndsAt net p before after x) is h

-- they are spent
pub spent_end : {net : Net} {p : List Bool} (before after : Search) (e : End) → e ≡ Spent → EndsAt net p before after e → RunsOut net (p ∷ []) before.left after.left
spent_end {net} {p} before after e is h = subst (λ (x : End). EndsAt net p before after x) is h

-- all nodes are those of the tree, if there was none before
pub all_put : (before after : Search) (laws : List Fact) (nodes : List Node) (weights : List (List ℤ)) (tree : Plan) → laws ≡ after.known.laws.items → nodes ≡ after.nodes.items → before.nodes.items ≡ [] → weights ≡ all_weights laws → HasPut before after tree → AreNodesOf tree weights nodes
all_put before after laws nodes weights tree l n none w h =
    let end = length after.nodes.items in
    let first : Lists after.known.laws.items after.nodes.items tree 0 end = subst (λ (at : ℕ). Lists after.known.laws.items after.nodes.items tree at end) (ap (λ (x : List Node). length x) none) h in
    let put : Lists laws nodes tree 0 end = subst (λ (x : List Fact). Lists x nodes tree 0 end) (sym l) (subst (λ (x : List Node). Lists after.known.laws.items x tree 0 end) (sym n) first) in
    subst (λ (x : List (List ℤ)). AreNodesOf tree x nodes) (sym w) (tree_nodes laws nodes tree end (omega (arith, ap (λ (x : List Node). length x) n)) put)

pub siphon_shown : (net : Net) (budget after : ℕ) (marked : List ℤ) (marks cover : KeptInts) → marks.list ≡ marked → (kept : List ℤ) → cover.list ≡ kept → EndsWithSet net root budget after marked kept → IsEndOfVisits net budget (Siphon marks cover)
siphon_shown net budget after marked marks cover m kept c h =
    let v = h.1.1 in (
      subst (λ (x : List ℤ). IsFoundBy net marks.list x) (sym c) (subst (λ (x : List ℤ). IsFoundBy net x kept) (sym m) h.0),
      λ g. omega (arith, longer_by net root v.visits true budget v.are g, v.long, h.1.2),
    )

pub tree_shown : (net : Net) (budget after : ℕ) (plan tree : Plan) → tree ≡ plan → EndsWithTree net [] budget after plan → IsEndOfVisits net budget (Tree tree)
tree_shown net budget after plan tree e h =
    let same : EndsWithTree net [] budget after tree = subst (λ (t : Plan). EndsWithTree net [] budget after t) (sym e) h in
    let v = same.1 in
    (same.0, (λ g. omega (arith, longer_by net root v.visits false budget v.are g, v.long, same.2)), omega (arith, same.2))

-- ---- answers

pub yes_answer : (net : Net) (budget : ℕ) (law : List ℤ) (tree : Plan) → IsNetwork net → IsConservationLaw net law → AreFree (length net.names) law → IsEndOfVisits net budget (Tree tree) → IsAnswer net budget (Yes law tree)
yes_answer net budget law tree n l free h =
    let answer : Said = Yes law tree in
    let formed : IsFormed net answer = (free, h.0.1) in
    let valid : IsValid net answer = (l, h.0.0) in
    record { formed = formed; valid = valid; true_of = valid_answers_are_true net answer n formed valid; licensed = (h.1, h.2) }

pub no_answer : (net : Net) (budget : ℕ) (law : List ℤ) (marks cover : KeptInts) → IsNetwork net → IsConservationLaw net law → IsEndOfVisits net budget (Siphon marks cover) → IsAnswer net budget (NoSiphon marks.list cover.list)
no_answer net budget law marks cover n l h =
    let f = h.0 in
    let answer : Said = NoSiphon marks.list cover.list in
    let set : set_of marks.list ≡ f.set = ap set_of f.marked ∙ marks_set f.set in
    let formed : IsFormed net answer = (subst (AreBits (length net.names)) (sym f.marked) (marks_formed (length net.names) f.set f.full), f.standing.free) in
    let valid : IsValid net answer = (subst (IsSiphon net) (sym set) (standing_is_siphon net f.set n f.full f.standing.stands), subst (λ (p : List Bool). Covers net p cover.list) (sym set) f.standing.covers) in
    record { formed = formed; valid = valid; true_of = valid_answers_are_true net answer n formed valid; licensed = (h.1, (law, l)) }

pub spent_answer : (net : Net) (budget : ℕ) (law : List ℤ) → IsConservationLaw net law → 1 ≤ budget → budget ≤ MAX_BUDGET → PassesBudget net budget → IsAnswer net budget (SpentAnswer budget)
spent_answer net budget law l low high g = record { formed = (low, high); valid = tt; true_of = tt; licensed = (refl, (law, l), g) }

pub wide_answer : (net : Net) (budget index : ℕ) (basis : KeptNums) → NamesWide (reaction_system net) index basis.list → IsAnswer net budget (Wide 2 index basis.list)
wide_answer net budget index basis h = record {
  formed = inr (refl, wide_basis (reaction_system net) (length net.reactions) (length net.names) index basis.list refl (rows_count net) h);
  valid = tt;
  true_of = tt;
  licensed = inr (refl, h);
}

pub stop_answer : (net : Net) (budget : ℕ) (stop : Stop) (answer : Persist) → IsSearchStop net stop → IsStopAnswer 2 stop answer → IsAnswer net budget (said_of answer)
stop_answer net budget (StopWide index basis) answer h e = subst (λ (a : Said). IsAnswer net budget a) (sym e) (wide_answer net budget index basis h)
stop_answer net budget NoMemory answer h e = absurd e

pub first_stop : (net : Net) (budget : ℕ) (stop : Stop) (answer : Persist) → IsLawStop net stop → IsStopAnswer 1 stop answer → IsAnswer net budget (said_of answer)
first_stop net budget (StopWide index basis) answer h e = subst (λ (a : Said). IsAnswer net budget a) (sym e) (record {
  formed = inl (refl, wide_basis (species_system net) (length net.names) (length net.reactions) index basis.list refl (vectors_count net) h);
  valid = tt;
  true_of = tt;
  licensed = inl (refl, h);
})
first_stop net budget NoMemory answer h e = absurd e

pub cut_answer : (net : Net) (budget : ℕ) (cut : List ℤ) → IsNetwork net → AreFree (length net.reactions) cut → RuleOutConservation net cut → IsAnswer net budget (NoLaw cut)
cut_answer net budget cut n f v = record { formed = f; valid = v; true_of = valid_answers_are_true net (NoLaw cut) n f v; licensed = tt }
