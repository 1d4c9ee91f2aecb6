use Rattle.crn_text.proofs.Prelude.{◌∙◌, Some, arith, complex_text}
use Rattle.crn_text.proofs.FoundPieces.{found_put, strips, piece_is}
use Rattle.crn_text.proofs.canonical.Found.after_side.Goals as goal

pub returns-in-Some-clause-follows : goal.returns-in-Some-clause-follows
returns-in-Some-clause-follows c =
    let known = rw c.in-Some.is at (c.known.ensures c.args.net.now c.requires.found) in
    strips c.args.text.now c.in-Some.known.now (complex_text c.args.net.now c.args.c) c.strip_prefix.result known c.strip_prefix.ensures.cases

pub returns-in_err-rest-clause-follows : goal.returns-in_err-rest-clause-follows
returns-in_err-rest-clause-follows c =
    let stripped = strips c.args.text.now c.as_slice.result.now (complex_text c.args.net.now c.args.c) c.strip_prefix-2.result (c.as_slice.ensures ∙ c.set.ensures) c.strip_prefix-2.ensures.cases in
    rw c.from_residual.ensures (rw c.in_err-rest.was at stripped)

pub returns-clause-found : goal.returns-clause-found
returns-clause-found c =
    let side = complex_text c.args.net.now c.args.c in
    let stripped = strips c.args.text.now c.as_slice.result.now side c.strip_prefix-2.result (c.as_slice.ensures ∙ c.set.ensures) c.strip_prefix-2.ensures.cases in
    found_put c.args.net.now 0 c.args.c c.args.c c.args.self.now.pieces (Some (record { bytes = c.split_at.result.0 })) (omega arith) c.requires.found
    (c.split_at.ensures.front ∙ piece_is c.args.text.now side c.in_ok-rest.rest.now (rw c.in_ok-rest.was at stripped))
