use Rattle.crn_robust.proofs.Prelude.{◌≡◌, ℕ, ◌+◌, ◌-◌, List, sym, subst, arith, labels_of, IsLeastPair, HasStrong}
use Rattle.crn_robust.proofs.Known.{strong_known}
use Rattle.crn_robust.proofs.Pairs.{pair_small}
use Rattle.crn_robust.proofs.case.case_of_one.Goals as goal

pub least_pair-requires : goal.least_pair-requires
least_pair-requires c =
    let net = c.args.net.now in
    let v = c.args.strong.now in
    record { strong = subst (λ (l : List ℕ). HasStrong net l c.exits_in.result.now) (sym c.labels_in.ensures) (subst (HasStrong net (labels_of v)) (sym c.exits_in.ensures) (strong_known net v c.requires.strong)) }

pub overflow_cast-result : goal.overflow_cast-result
overflow_cast-result c =
    let p = c.in-Some.pair in
    let small = pair_small c.args.net.now p.species p.first p.second c.meets_definition.ensures c.in-Some.ensures.pair in
    omega (arith, small.0)

pub overflow_add-result : goal.overflow_add-result
overflow_add-result c =
    let p = c.in-Some.pair in
    let small = pair_small c.args.net.now p.species p.first p.second c.meets_definition.ensures c.in-Some.ensures.pair in
    omega (arith, small.0)

pub overflow_cast-result-in-Some : goal.overflow_cast-result-in-Some
overflow_cast-result-in-Some c =
    let p = c.in-Some.pair in
    let small = pair_small c.args.net.now p.species p.first p.second c.meets_definition.ensures c.in-Some.ensures.pair in
    omega (arith, small.1)

pub overflow_add-result-in-Some : goal.overflow_add-result-in-Some
overflow_add-result-in-Some c =
    let p = c.in-Some.pair in
    let small = pair_small c.args.net.now p.species p.first p.second c.meets_definition.ensures c.in-Some.ensures.pair in
    omega (arith, small.1)

pub overflow_cast-result-in-Some-2 : goal.overflow_cast-result-in-Some-2
overflow_cast-result-in-Some-2 c =
    let p = c.in-Some.pair in
    let small = pair_small c.args.net.now p.species p.first p.second c.meets_definition.ensures c.in-Some.ensures.pair in
    omega (arith, small.2)

pub overflow_add-result-in-Some-2 : goal.overflow_add-result-in-Some-2
overflow_add-result-in-Some-2 c =
    let p = c.in-Some.pair in
    let small = pair_small c.args.net.now p.species p.first p.second c.meets_definition.ensures c.in-Some.ensures.pair in
    omega (arith, small.2)

pub returns-in-Some : goal.returns-in-Some
returns-in-Some c =
    let net = c.args.net.now in
    let p = c.in-Some.pair in
    let back : (k : ℕ) → k ≡ k + 1 - 1 = λ k. omega arith in
    let least : IsLeastPair net (p.species + 1 - 1) (p.first + 1 - 1) (p.second + 1 - 1) =
    subst (λ (k : ℕ). IsLeastPair net k (p.first + 1 - 1) (p.second + 1 - 1)) (back p.species)
    (subst (λ (k : ℕ). IsLeastPair net p.species k (p.second + 1 - 1)) (back p.first)
    (subst (λ (k : ℕ). IsLeastPair net p.species p.first k) (back p.second) c.in-Some.ensures)) in
    (c.requires.one, omega arith, omega arith, omega arith, least)
