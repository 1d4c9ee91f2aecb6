use Rattle.crn_document.proofs.Prelude.{◌≡◌, ◌≤◌, ◌∙◌, ℕ, Bool, false, List, [], sym, subst, ap, inl, inr, arith, Ok, ℤ, err_from_is_err_and, Net, Question, SourceSeen, Record, asks_block, meaning, AsksForTree, KeptFacts, asked, IsAfterFacts, IsKnownFor, after_facts, IsAfter, KeepSides, after_by, StepIs, StopIs, Reading, CheckStop, step_exits}
use Rattle.crn_document.proofs.Kept.{none_kept}
use Rattle.crn_document.proofs.fact.next_fact.Goals as goal

-- no tree shows a verdict on an early question
early_treeless : (question : ℕ) → question ≤ 10 → AsksForTree question → ⊥
early_treeless question le (inl e) = omega (arith, le, e)
early_treeless question le (inr (inl e)) = omega (arith, le, e)
early_treeless question le (inr (inr e)) = omega (arith, le, e)

-- facts that are handed on without sides are ready for an early question
ready_early : (net : Net) (question : ℕ) (facts given : KeptFacts) (sides : List (List ℤ)) → IsKnownFor net question facts → question ≤ 10 → given ≡ facts → sides ≡ [] → IsKnownFor net question given × KeepSides net given.earlier sides
ready_early net question facts given sides known le is none = (
  subst (λ (f : KeptFacts). IsKnownFor net question f) (sym is) known,
  subst (λ (rows : List (List ℤ)). KeepSides net given.earlier rows) (sym none) (subst (λ (f : KeptFacts). KeepSides net f.earlier []) (sym is) (none_kept net question facts.earlier known.none (omega (arith, le)))),
)

fact_stops : (net : Net) (version : ℕ) (table : List (List ℤ)) (q : Question) (facts given : KeptFacts) (blocks : List (List Record)) (e : CheckStop) (old : Reading) (before now : SourceSeen) → given ≡ facts → table ≡ []
    → StopIs (asks_block meaning version table q (after_by net given.earlier false old.line blocks)) e old before now → StopIs (asks_block meaning version [] q (after_facts net facts.earlier old.line blocks)) e old before now
fact_stops net version table q facts given blocks e old before now is none s =
    subst (λ (t : List (List ℤ)). StopIs (asks_block meaning version t q (after_facts net facts.earlier old.line blocks)) e old before now) none
    (subst (λ (f : KeptFacts). StopIs (asks_block meaning version table q (after_by net f.earlier false old.line blocks)) e old before now) is s)

fact_known : (net : Net) (version : ℕ) (table : List (List ℤ)) (q : Question) (facts given made : KeptFacts) (by_tree : Bool) (blocks : List (List Record)) (old new : Reading) (before now : SourceSeen) → given ≡ facts → table ≡ [] → by_tree ≡ false
    → StepIs {T = Unit {0}} (asks_block meaning version table q (after_by net given.earlier false old.line blocks)) (λ t y. IsAfter net made.earlier by_tree new.line y) (Ok tt) old new before now
    → StepIs (asks_block meaning version [] q (after_facts net facts.earlier old.line blocks)) (λ (m : KeptFacts) y. IsAfterFacts net m.earlier new.line y) (Ok made) old new before now
fact_known net version table q facts given made by_tree blocks old new before now is none plain s =
    let t = subst (λ (t : List (List ℤ)). StepIs {T = Unit {0}} (asks_block meaning version t q (after_facts net facts.earlier old.line blocks)) (λ t y. IsAfter net made.earlier by_tree new.line y) (Ok tt) old new before now) none
    (subst (λ (f : KeptFacts). StepIs {T = Unit {0}} (asks_block meaning version table q (after_by net f.earlier false old.line blocks)) (λ t y. IsAfter net made.earlier by_tree new.line y) (Ok tt) old new before now) is s) in
    let after = t.1 in
    (t.0, (after.0, after.1 ∙ ap (λ (b : Bool). record (after_facts net made.earlier new.line after.0) { by_tree = b }) plain), t.2, t.3)

pub next_block-requires-clause-ready : goal.next_block-requires-clause-ready
next_block-requires-clause-ready g c =
    let r = ready_early c.args.net.now c.args.question c.args.facts _ _ c.requires.known c.requires.early c.facts.view_is c.in_ok-new.ensures in
    record { known = r.0; sides = r.1 }

pub returns-in_err-next_block-clause-step : goal.returns-in_err-next_block-clause-step
returns-in_err-next_block-clause-step g c = λ blocks.
    let at = c.args.at.now in
    let p = c.from_residual-in_err-next_block in
    step_exits _ _ p.result _ _ _ _ _ (err_from_is_err_and p.result p.ensures.1)
    (fact_stops c.args.net.now at.version _ (asked c.args.question) c.args.facts _ blocks _ at _ _ c.facts.view_is c.in_ok-table.ensures (let h = c.in_err-next_block.ensures.step in h blocks))

pub returns-clause-step : goal.returns-clause-step
returns-clause-step g c = λ blocks.
    let at = c.args.at.now in
    let made = c.next_block.new.checked in
    fact_known c.args.net.now at.version _ (asked c.args.question) c.args.facts _ made.facts made.by_tree blocks at c.next_block.new.at _ _ c.facts.view_is c.in_ok-table.ensures
    (let h = c.in_ok-next_block.ensures.plain in h (early_treeless c.args.question c.requires.early)) (let h = c.in_ok-next_block.ensures.step in h blocks)
