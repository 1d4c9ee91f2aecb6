use Rattle.crn_net.proofs.Prelude.{◌≡◌, ◌<◌, length, get_or, sym, ap, subst, ◌∙◌, arith, w32, to_z, of_z, FitsSigned, ints, to_z-of_z, get_or_default, Share, name_in, no_share}
use Rattle.crn_net.proofs.Merged.{sum_set}
use Rattle.crn_net.proofs.merge.put_share.Goals as goal

pub returns-in-Some-clause-sums : goal.returns-in-Some-clause-sums
returns-in-Some-clause-sums c = λ name.
    let text = c.args.text.now in
    let shares = c.args.shares.now.items in
    let i = c.look_up-slot.result.1 in
    let lt : i < length shares = omega (arith, c.if-place-len.true, c.len.ensures) in
    let found = rw c.deref.ensures.value at c.look_up-slot.ensures.found in
    let known : c.index-known.result.now ≡ get_or shares i no_share = c.index-known.ensures ∙ get_or_default shares i _ no_share lt in
    let sum = c.in-Some.sum in
    let same : to_z w32 (of_z w32 sum) ≡ sum = to_z-of_z w32 sum (subst (FitsSigned w32) (sym c.in-Some.ensures.1) c.in-Some.ensures.0) in
    let put : Share = record { at = c.index-known.result.now.at; length = c.index-known.result.now.length; count = to_z w32 (of_z w32 sum) } in
    let count = ap (λ (s : Share). s.count) known in
    sum_set text shares c.args.share put i name lt (found lt ∙ c.name.ensures) (ap (name_in text) known) (omega (arith, ints, count, same, c.in-Some.ensures.1))
