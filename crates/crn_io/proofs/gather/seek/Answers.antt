use Rattle.crn_io.proofs.Prelude.{◌≡◌, ◌≤◌, ◌+◌, ◌∙◌, ap, List, ℕ, [], length, drop, refl, sym, arith, length-drop, append-nil, MAX_AHEAD}
use Rattle.crn_io.proofs.LineLists.{IsLine-none}
use Rattle.crn_io.proofs.Streams.{Consumes-none}
use Rattle.crn_io.proofs.gather.seek.Goals as goal

pub returns-in-Some-clause-gives : goal.returns-in-Some-clause-gives
returns-in-Some-clause-gives g c =
    let rest = drop c.args.from.now c.args.held.now.items in
    let e : c.split_at.result.1.now ≡ rest = c.split_at.ensures.back ∙ ap (λ (t : List ℕ). drop c.args.from.now t) c.deref.ensures.value in
    let found = rw e at c.in-Some.ensures in
    let short : length rest ≤ c.in-Some.i + MAX_AHEAD = omega (arith, length-drop c.args.from.now c.args.held.now.items) in
    ([], sym (append-nil rest), Consumes-none _, (found, short), refl, ([], rest, refl, IsLine-none, omega arith, omega (arith, length-drop c.args.from.now c.args.held.now.items)))
