-- The nodes of trees, as they are read one by one.
use Rattle.crn_endo_text.proofs.Prelude.{◌≡◌, ◌≢◌, ◌≤◌, ◌<◌, ◌+◌, ◌-◌, ◌++◌, ◌⊎◌, ℕ, zero, suc, Bool, true, false, List, [], ◌∷◌, length, map, refl, sym, ap, subst, ◌∙◌, inl, inr, arith, Result, Ok, Err, ℤ, codes, length-append, Net, Sign, Zero, Plus, Minus, Signed, all_zero, children, options_below, root, Said, Splits, Flats, CutsA, CutsB, Fits, AreNumbersFor, rest_after, AreFree, first, IsTaken, NodeGives, Step, More, Complete, TreeFault, BadLeaf, NodeNotAllowed, TreeEndsEarly, WrongShape, SourceSeen, Record, Course, Give, ◌>>=◌, test_own, either, word_of, one_word, asks_part, StepGives, CanRead, StepIs, StopIs, IsPartSaid, Reading, CheckStop, Rejected, step_then_is, step_gives, stop_first, stop_after, IsGiven, find, placed, own_holds, own_fails, slopes, EndoSeen, Yes, words, node_forms, said_of, node_fault, asks_node, if_split, asks_tree, asks_trees, said_at, number_of, asks_from, asks_due, Leaves, Takes, ReadsSeen, ReadsUpTo}
use Rattle.std.specs.Prelude.{if◌then◌else◌}
use Rattle.crn_endo_text.proofs.Nodes.{IsNode, node_back}

-- ---- what a node says, by the place of its word

abbrev NodeSaid : ℕ → ℕ → List ℤ → Record → Type 0
NodeSaid rows place read r = ((place ≡ 6) × (said_of r ≡ Splits)) ⊎ (((place ≡ 7) × (said_of r ≡ Flats)) ⊎ ((place ≡ 8) × (said_of r ≡ CutsA read) × AreFree rows read))

node_said : (rows place : ℕ) (read : List ℤ) (r : Record) → IsPartSaid words (node_forms rows) place read r → NodeSaid rows place read r
unfolding find
node_said rows place read r s = by (node_back rows r s.form)
  where
    at : (w : List ℕ) (numbers : List ℤ) → r ≡ one_word w numbers → find w words ≡ place
    at w numbers e = placed words (node_forms rows) place read r w refl s (ap word_of e)

    by : IsNode rows r → NodeSaid rows place read r
    by (inl e) = inl (sym (at (codes "split") [] e), ap said_of e)
    by (inr (inl e)) = inr (inl (sym (at (codes "flat") [] e), ap said_of e))
    by (inr (inr (u, e, free))) =
        let same : u ≡ read = sym (s.numbers ∙ ap (λ (q : Record). q.numbers) e) in
        inr (inr (sym (at (codes "cuta") u e), ap said_of e ∙ ap CutsA same, subst (AreFree rows) same free))

pub said_placed : (rows place : ℕ) (read : List ℤ) (r : Record) → IsPartSaid words (node_forms rows) place read r → said_of r ≡ said_at place read
said_placed rows place read r s = by (node_said rows place read r s)
  where
    by : NodeSaid rows place read r → said_of r ≡ said_at place read
    by (inl h) = h.1 ∙ ap (λ (k : ℕ). said_at k read) (sym h.0)
    by (inr (inl h)) = h.1 ∙ ap (λ (k : ℕ). said_at k read) (sym h.0)
    by (inr (inr h)) = h.1 ∙ ap (λ (k : ℕ). said_at k read) (sym h.0)

pub numbers_placed : (w : Signed) (place : ℕ) (read : List ℤ) (r : Record) → IsPartSaid words (node_forms (length w.matrix_a.rows)) place read r → AreNumbersFor w (said_at place read)
numbers_placed w place read r s = by (node_said (length w.matrix_a.rows) place read r s)
  where
    at : (k : ℕ) → place ≡ k → AreNumbersFor w (said_at k read) → AreNumbersFor w (said_at place read)
    at k e h = subst (λ (j : ℕ). AreNumbersFor w (said_at j read)) (sym e) h

    by : NodeSaid (length w.matrix_a.rows) place read r → AreNumbersFor w (said_at place read)
    by (inl h) = at 6 h.0 tt
    by (inr (inl h)) = at 7 h.0 tt
    by (inr (inr h)) = at 8 h.0 h.2

-- ---- what the test of a node gives

pub taken_by : (w : Signed) (due after : List (List Sign)) (said : Said) (step : Step) → NodeGives w due said after (Ok step) → IsTaken w due said after × Leaves step after
taken_by w due after said More g = g
taken_by w due after said Complete g = g

pub refused_by : (w : Signed) (due after : List (List Sign)) (said : Said) (fault : TreeFault) → NodeGives w due said after (Err fault) → (Fits w (first due) said → ⊥) × (node_fault said ≡ number_of fault)
refused_by w due after said BadLeaf g = (g.0.fails, ap (λ (b : Bool). if b then 72 else 71) g.1)
refused_by w due after said NodeNotAllowed g = (g.0.fails, ap (λ (b : Bool). if b then 72 else 71) g.1)
refused_by w due after said TreeEndsEarly g = absurd g
refused_by w due after said WrongShape g = absurd g

-- the test of a node, and then the node
abbrev tested : Signed → List Sign → ℕ → Record → Course Said
tested w prefix n r = test_own n (node_fault (said_of r)) (Fits w prefix (said_of r)) >>= (λ x. Give (said_of r))

pub node_stop : (w : Signed) (prefix : List Sign) (e : CheckStop) (old : Reading) (before now : SourceSeen) → StopIs (asks_part words old.line (node_forms (length w.matrix_a.rows))) e old before now → StopIs (asks_node w prefix old.line) e old before now
node_stop w prefix e old before now s = stop_first (asks_part words old.line (node_forms (length w.matrix_a.rows))) (tested w prefix old.line) e old before now s

pub node_taken : (w : Signed) (due after : List (List Sign)) (step : Step) (r : Record) (old mid : Reading) (before now : SourceSeen) → IsGiven words (node_forms (length w.matrix_a.rows)) r old mid before now → IsTaken w due (said_of r) after → Leaves step after
    → StepIs (asks_node w (first due) old.line) (λ (t : Step) (node : Said). Takes w due node after t) (Ok step) old mid before now
node_taken w due after step r old mid before now s taken leaves =
    let says : Step → Said → Type 0 = λ t node. Takes w due node after t in
    step_then_is (asks_part words old.line (node_forms (length w.matrix_a.rows))) (tested w (first due) old.line) r says (Ok step) old mid mid before now now s.0 s.1
    (own_holds old.line (node_fault (said_of r)) (Fits w (first due) (said_of r)) (λ x. Give (said_of r)) says (Ok step) mid mid now now taken.fits (step_gives (said_of r) says step mid now (record { taken = taken; leaves = leaves })))

pub node_refused : (w : Signed) (prefix : List Sign) (code : ℕ) (r : Record) (old mid : Reading) (before now : SourceSeen) → IsGiven words (node_forms (length w.matrix_a.rows)) r old mid before now → (Fits w prefix (said_of r) → ⊥) → node_fault (said_of r) ≡ code
    → mid.line ≡ old.line + 1 → CanRead mid → StopIs (asks_node w prefix old.line) (Rejected code (mid.line - 1)) old before now
node_refused w prefix code r old mid before now s none is e can =
    subst (λ (k : ℕ). StopIs (asks_node w prefix old.line) (Rejected k (mid.line - 1)) old before now) is
    (stop_after (asks_part words old.line (node_forms (length w.matrix_a.rows))) (tested w prefix old.line) r (Rejected (node_fault (said_of r)) (mid.line - 1)) old mid before now now s.0 s.1
    (own_fails old.line (mid.line - 1) (node_fault (said_of r)) (Fits w prefix (said_of r)) (λ x. Give (said_of r)) mid now (omega (arith, e)) none can))

-- ---- what is due after a node

-- the trees of the children, with so many choices to make in each, and then what is due after them
abbrev split_course : Net → (r zeros pluses minuses : ℕ) → Bool → List Sign → List (List Sign) → (line : ℕ) → Course (ℕ × EndoSeen)
split_course net r i j l none prefix due n =
    asks_tree (slopes net r) i (prefix ++ Zero ∷ []) n (λ k.
    asks_tree (slopes net r) j (prefix ++ Plus ∷ []) k (λ m.
    either none (asks_due net r due m) (asks_tree (slopes net r) l (prefix ++ Minus ∷ []) m (λ k. asks_due net r due k))))

children_by : (net : Net) (r : ℕ) (none : Bool) (prefix : List Sign) (due : List (List Sign)) (n : ℕ) (result : Result EndoSeen CheckStop) (old new : Reading) (before now : SourceSeen)
    → ReadsSeen (asks_due net r (map (λ s. prefix ++ s ∷ []) (options_below none) ++ due) n) result old new before now
    → (let left = λ (s : Sign). (slopes net r).choices - length (prefix ++ s ∷ []) in ReadsSeen (split_course net r (left Zero) (left Plus) (left Minus) none prefix due n) result old new before now)
unfolding asks_due
children_by net r true prefix due n result old new before now h = h
children_by net r false prefix due n result old new before now h = h

children_read : (net : Net) (r more : ℕ) (prefix : List Sign) (due : List (List Sign)) (n : ℕ) (result : Result EndoSeen CheckStop) (old new : Reading) (before now : SourceSeen) → (slopes net r).choices - length prefix ≡ suc more
    → ReadsSeen (asks_due net r (children prefix ++ due) n) result old new before now → ReadsSeen (split_course net r more more more (all_zero prefix) prefix due n) result old new before now
children_read net r more prefix due n result old new before now e h =
    let c = (slopes net r).choices in
    let left = λ (s : Sign). c - length (prefix ++ s ∷ []) in
    let minus : c - length (prefix ++ Minus ∷ []) ≡ more = omega (arith, e, length-append prefix (Minus ∷ [])) in
    let plus : c - length (prefix ++ Plus ∷ []) ≡ more = omega (arith, e, length-append prefix (Plus ∷ [])) in
    let zeros : c - length (prefix ++ Zero ∷ []) ≡ more = omega (arith, e, length-append prefix (Zero ∷ [])) in
    subst (λ (k : ℕ). ReadsSeen (split_course net r more more k (all_zero prefix) prefix due n) result old new before now) minus
    (subst (λ (k : ℕ). ReadsSeen (split_course net r more k (left Minus) (all_zero prefix) prefix due n) result old new before now) plus
    (subst (λ (k : ℕ). ReadsSeen (split_course net r k (left Plus) (left Minus) (all_zero prefix) prefix due n) result old new before now) zeros
    (children_by net r (all_zero prefix) prefix due n result old new before now h)))

-- a node at a full prefix
full_then : (net : Net) (r : ℕ) (prefix : List Sign) (due : List (List Sign)) (node : Said) (n : ℕ) (result : Result EndoSeen CheckStop) (old new : Reading) (before now : SourceSeen) → (slopes net r).choices - length prefix ≡ 0 → Fits (slopes net r) prefix node
    → ReadsSeen (asks_due net r (rest_after prefix due node) n) result old new before now → ReadsSeen (asks_due net r due n) result old new before now
full_then net r prefix due Splits n result old new before now e fits h = absurd (omega (arith, e, fits))
full_then net r prefix due Flats n result old new before now e fits h = h
full_then net r prefix due (CutsA u) n result old new before now e fits h = h
full_then net r prefix due (CutsB u) n result old new before now e fits h = h

-- a node at another one
inner_then : (net : Net) (r more : ℕ) (prefix : List Sign) (due : List (List Sign)) (node : Said) (n : ℕ) (result : Result EndoSeen CheckStop) (old new : Reading) (before now : SourceSeen) → (slopes net r).choices - length prefix ≡ suc more
    → ReadsSeen (asks_due net r (rest_after prefix due node) n) result old new before now → ReadsSeen (if_split node (split_course net r more more more (all_zero prefix) prefix due n) (asks_due net r due n)) result old new before now
inner_then net r more prefix due Splits n result old new before now e h = children_read net r more prefix due n result old new before now e h
inner_then net r more prefix due Flats n result old new before now e h = h
inner_then net r more prefix due (CutsA u) n result old new before now e h = h
inner_then net r more prefix due (CutsB u) n result old new before now e h = h

tree_then : (net : Net) (r more : ℕ) (prefix : List Sign) (due : List (List Sign)) (node : Said) (result : Result EndoSeen CheckStop) (old mid new : Reading) (before between now : SourceSeen) → (slopes net r).choices - length prefix ≡ more → Fits (slopes net r) prefix node
    → StepGives (asks_node (slopes net r) prefix old.line) node old.line mid.line old.lines mid.lines before.left between.left → between.faults ≡ before.faults
    → ReadsSeen (asks_due net r (rest_after prefix due node) (old.line + 1)) result mid new between now
    → ReadsSeen (asks_tree (slopes net r) more prefix old.line (λ k. asks_due net r due k)) result old new before now
unfolding asks_tree
tree_then net r zero prefix due node result old mid new before between now e fits s same h =
    let says : EndoSeen → ℕ × EndoSeen → Type 0 = λ seen y. y ≡ (new.line, seen) in
    step_then_is (asks_node (slopes net r) prefix old.line) (λ node. asks_due net r due (old.line + 1)) node says result old mid new before between now s same (full_then net r prefix due node (old.line + 1) result mid new between now e fits h)
tree_then net r (suc more) prefix due node result old mid new before between now e fits s same h =
    let says : EndoSeen → ℕ × EndoSeen → Type 0 = λ seen y. y ≡ (new.line, seen) in
    step_then_is (asks_node (slopes net r) prefix old.line) (λ node. if_split node (split_course net r more more more (all_zero prefix) prefix due (old.line + 1)) (asks_due net r due (old.line + 1))) node says result old mid new before between now s same
    (inner_then net r more prefix due node (old.line + 1) result mid new between now e h)

-- a node that was taken, and then what is due after it
pub due_then : (net : Net) (r : ℕ) (due after : List (List Sign)) (node : Said) (result : Result EndoSeen CheckStop) (old mid new : Reading) (before between now : SourceSeen) → due ≢ [] → IsTaken (slopes net r) due node after → mid.line ≡ old.line + 1
    → StepGives (asks_node (slopes net r) (first due) old.line) node old.line mid.line old.lines mid.lines before.left between.left → between.faults ≡ before.faults
    → ReadsSeen (asks_due net r after mid.line) result mid new between now → ReadsSeen (asks_due net r due old.line) result old new before now
unfolding asks_due
due_then net r [] after node result old mid new before between now some taken e s same h = absurd (some refl)
due_then net r (prefix ∷ due) after node result old mid new before between now some taken e s same h =
    let there = subst (λ (k : ℕ). ReadsSeen (asks_due net r after k) result mid new between now) e h in
    let here = subst (λ (d : List (List Sign)). ReadsSeen (asks_due net r d (old.line + 1)) result mid new between now) taken.next_due there in
    tree_then net r ((slopes net r).choices - length prefix) prefix due node result old mid new before between now refl taken.fits s same here

-- what stops the node stops all
pub due_stops : (net : Net) (r : ℕ) (due : List (List Sign)) (e : CheckStop) (old : Reading) (before now : SourceSeen) → due ≢ [] → StopIs (asks_node (slopes net r) (first due) old.line) e old before now → StopIs (asks_due net r due old.line) e old before now
unfolding asks_due asks_tree
due_stops net r [] e old before now some s = absurd (some refl)
due_stops net r (prefix ∷ due) e old before now some s = by ((slopes net r).choices - length prefix)
  where
    by : (more : ℕ) → StopIs (asks_tree (slopes net r) more prefix old.line (λ k. asks_due net r due k)) e old before now
    by zero = stop_first (asks_node (slopes net r) prefix old.line) (λ node. asks_due net r due (old.line + 1)) e old before now s
    by (suc more) = stop_first (asks_node (slopes net r) prefix old.line) (λ node. if_split node (split_course net r more more more (all_zero prefix) prefix due (old.line + 1)) (asks_due net r due (old.line + 1))) e old before now s

-- ---- the trees of the reactions

-- of the reactions from one on, the root of its tree is due first
pub root_due : (net : Net) (r : ℕ) (result : Result EndoSeen CheckStop) (old new : Reading) (before now : SourceSeen) → r < length net.reactions → ReadsSeen (asks_due net r root old.line) result old new before now → ReadsSeen (asks_from net r old.line) result old new before now
unfolding asks_due asks_trees
root_due net r result old new before now lt h =
    let last = length net.reactions in
    let more : suc (last - (r + 1)) ≡ last - r = omega (arith, lt) in
    let c = (slopes net r).choices in
    let all : c - 0 ≡ c = omega arith in
    subst (λ (count : ℕ). ReadsSeen (asks_trees net count r old.line (λ k. Give (k, Yes))) result old new before now) more
    (subst (λ (k : ℕ). ReadsSeen (asks_tree (slopes net r) k [] old.line (λ k. asks_from net (r + 1) k)) result old new before now) all h)

-- if nothing of a reaction is due, the next one is
pub none_due : (net : Net) (r : ℕ) (due : List (List Sign)) (result : Result EndoSeen CheckStop) (old new : Reading) (before now : SourceSeen) → due ≡ [] → ReadsSeen (asks_from net (r + 1) old.line) result old new before now → ReadsSeen (asks_due net r due old.line) result old new before now
unfolding asks_due
none_due net r due result old new before now e h = subst (λ (d : List (List Sign)). ReadsSeen (asks_due net r d old.line) result old new before now) (sym e) h

-- after the last one nothing is due
pub last_due : (net : Net) (at : Reading) (seen : SourceSeen) → ReadsSeen (asks_from net (length net.reactions) at.line) (Ok Yes) at at seen seen
unfolding asks_trees
last_due net at seen =
    let says : EndoSeen → ℕ × EndoSeen → Type 0 = λ answer y. y ≡ (at.line, answer) in
    let none : 0 ≡ length net.reactions - length net.reactions = omega arith in
    subst (λ (count : ℕ). ReadsSeen (asks_trees net count (length net.reactions) at.line (λ k. Give (k, Yes))) (Ok Yes) at at seen seen) none (step_gives (at.line, Yes) says Yes at seen refl)

pub past_due : (net : Net) (r : ℕ) (result : Result EndoSeen CheckStop) (old new : Reading) (before now : SourceSeen) → length net.reactions ≤ r → ReadsSeen (asks_from net (length net.reactions) old.line) result old new before now → ReadsSeen (asks_from net r old.line) result old new before now
unfolding asks_trees
past_due net r result old new before now le h =
    let last = length net.reactions in
    let here : 0 ≡ last - r = omega (arith, le) in
    let none : last - last ≡ 0 = omega arith in
    let given = subst (λ (count : ℕ). ReadsSeen (asks_trees net count last old.line (λ k. Give (k, Yes))) result old new before now) none h in
    subst (λ (count : ℕ). ReadsSeen (asks_trees net count r old.line (λ k. Give (k, Yes))) result old new before now) here given

pub upto_exits : (whole left : Course (ℕ × EndoSeen)) (result : Result (Unit {0}) CheckStop) (e : CheckStop) (old new : Reading) (before now : SourceSeen) → (x : CheckStop) × (result ≡ Err x) × (x ≡ e) → StopIs whole e old before now → ReadsUpTo whole left result old new before now
upto_exits whole left result e old new before now (x, is, same) s = subst (λ (t : Result (Unit {0}) CheckStop). ReadsUpTo whole left t old new before now) (sym (is ∙ ap Err same)) s
