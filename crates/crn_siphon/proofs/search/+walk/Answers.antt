use Rattle.crn_siphon.proofs.Prelude.{◌≡◌, ◌++◌, ◌+◌, ◌-◌, ◌*◌, ◌<◌, ◌≤◌, ℕ, List, [], ◌∷◌, length, map, true, false, Bool, ap, sym, subst, ◌∙◌, arith, rules, Option, End, mark, marks, EndsAt, IsVisit, MatchResult-weaker, on_ok_weaker}
use Rattle.crn_siphon.proofs.SetLaws.{members_are}
use Rattle.crn_siphon.proofs.EndLaws.{ok_too, run_out, leaf_at, found_at, opened_at, first_child, second_child}
use Rattle.crn_siphon.proofs.Nodes.{grown_same, grown_then}
use Rattle.crn_siphon.proofs.Stops.{child_last}
use Rattle.crn_siphon.proofs.search.+walk.Goals as goal

pub fork-child-requires : goal.fork-child-requires
fork-child-requires t c = omega (arith, c.requires.room, c.meets_definition.ensures.partial.species_limit)

pub fork-child-requires-2 : goal.fork-child-requires-2
fork-child-requires-2 t c = omega (arith, c.requires.room, c.meets_definition.ensures.partial.species_limit)

pub fork-walk-requires : goal.fork-walk-requires
fork-walk-requires t c =
    let n = length c.args.net.now.names in
    let less : 2 * (n - c.child.result.chosen) + 1 < 2 * (n - c.args.place.chosen) = omega (arith, c.child.ensures.count, c.requires.room) in
    let ready = c.requires.ready in
    let room : c.child.result.chosen ≤ n = omega (arith, c.child.ensures.count, c.requires.room) in
    let last = child_last c.args.net.now c.args.place c.child.result c.requires.none c.child.ensures.count c.child.ensures.inside c.child.ensures.outside in
    search (rules, less, ready, room, last)

pub fork-walk-requires-2 : goal.fork-walk-requires-2
fork-walk-requires-2 t c =
    let n = length c.args.net.now.names in
    let less : 2 * (n - c.child-2.result.chosen) + 1 < 2 * (n - c.args.place.chosen) = omega (arith, c.child-2.ensures.count, c.requires.room) in
    let ready = c.in_ok-end.ensures.ready in
    let room : c.child-2.result.chosen ≤ n = omega (arith, c.child-2.ensures.count, c.requires.room) in
    let last = child_last c.args.net.now c.args.place c.child-2.result c.requires.none c.child-2.ensures.count c.child-2.ensures.inside c.child-2.ensures.outside in
    search (rules, less, ready, room, last)

pub fork-returns-in_default-clause-answer : goal.fork-returns-in_default-clause-answer
fork-returns-in_default-clause-answer t c = λ p is.
    first_child c.args.net.now p c.args.search.now c.walk.new.search c.in_ok-end.end c.in_default.not-Refuted (c.in_ok-end.ensures.answer (p ++ true ∷ []) (c.child.ensures.place p is))

pub fork-returns-clause-answer : goal.fork-returns-clause-answer
fork-returns-clause-answer t c = λ p is.
    let first = subst (λ (e : End). EndsAt c.args.net.now (p ++ true ∷ []) c.args.search.now c.walk.new.search e) c.in-Refuted.is (c.in_ok-end.ensures.answer (p ++ true ∷ []) (c.child.ensures.place p is)) in
    let second = ok_too _ _ _ c.walk-2.result (c.walk-2.ensures.answer (p ++ false ∷ []) (c.child-2.ensures.place p is)) c.walk-2.ensures.grown in
    MatchResult-weaker c.walk-2.result second (λ e h. second_child c.args.net.now p c.args.search.now c.walk.new.search c.walk-2.new.search e (omega (arith, c.requires.room, is.chosen)) h.1 first h.0) (λ s h. h)

pub fork-returns-clause-grown : goal.fork-returns-clause-grown
fork-returns-clause-grown t c = on_ok_weaker c.walk-2.result (λ more. grown_then c.args.search.now c.walk.new.search c.walk-2.new.search c.in_ok-end.ensures.grown more) c.walk-2.ensures.grown

pub walk-returns-then-search-eq0-clause-answer : goal.walk-returns-then-search-eq0-clause-answer
walk-returns-then-search-eq0-clause-answer t c = λ p is. run_out c.args.net.now p c.args.search.now.left (omega arith)

pub walk-returns-then-search-eq0-clause-grown : goal.walk-returns-then-search-eq0-clause-grown
walk-returns-then-search-eq0-clause-grown t c = grown_same c.args.search.now

pub walk-returns-in-None-clause-answer : goal.walk-returns-in-None-clause-answer
walk-returns-in-None-clause-answer t c = λ p is.
    let net = c.args.net.now in
    let v = subst (λ (o : Option ℕ). IsVisit net p c.args.search.now c.visit.new.search o) c.in-None.is (c.in_ok-cover.ensures.answer p is) in
    (v.0, leaf_at net p c.args.search.now.left c.visit.new.search.left v.0 (omega (arith, c.visit.ensures.left)) v.1, v.2)

pub walk-returns-then-place-species-clause-answer : goal.walk-returns-then-place-species-clause-answer
walk-returns-then-place-species-clause-answer t c = λ p is.
    let net = c.args.net.now in
    let v = subst (λ (o : Option ℕ). IsVisit net p c.args.search.now c.visit.new.search o) c.in-Some.is (c.in_ok-cover.ensures.answer p is) in
    let full : c.args.place.chosen ≡ length net.names = omega (arith, c.species.ensures.count, c.if-place-species.true) in
    let marked : marks c.args.place.inside (length net.names) ≡ map mark p = ap (λ (n : ℕ). marks c.args.place.inside n) (sym full) ∙ ap (λ (q : List Bool). map mark q) (members_are c.args.place p is) in
    record {
      numbers = v.0.0;
      at = v.0.1;
      ends = found_at net p c.args.search.now.left c.visit.new.search.left _ v.0.0 (omega (arith, c.visit.ensures.left)) marked (omega (arith, is.chosen, full)) v.0.2;
    }

pub walk-returns-clause-answer : goal.walk-returns-clause-answer
walk-returns-clause-answer t c = λ p is.
    let net = c.args.net.now in
    let v = subst (λ (o : Option ℕ). IsVisit net p c.args.search.now c.visit.new.search o) c.in-Some.is (c.in_ok-cover.ensures.answer p is) in
    let standing = v.0.2 in
    let below = ok_too _ _ _ c.fork.result (c.fork.ensures.answer p is) c.fork.ensures.grown in
    MatchResult-weaker c.fork.result below (λ e h. opened_at net p c.args.search.now c.visit.new.search c.fork.new.search e (omega (arith, c.visit.ensures.left)) v.1 h.1 standing.stands (λ (f : length p ≡ length net.names). omega (arith, f, is.chosen, c.species.ensures.count, c.if-place-species.false)) h.0) (λ s h. h)

pub walk-returns-clause-grown : goal.walk-returns-clause-grown
walk-returns-clause-grown t c = on_ok_weaker c.fork.result (λ more. grown_then c.args.search.now c.visit.new.search c.fork.new.search c.in_ok-cover.ensures.grown more) c.fork.ensures.grown
