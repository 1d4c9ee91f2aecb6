use Rattle.crn_text.proofs.Prelude.{get_or, refl, codes}
use Rattle.crn_text.proofs.FoundPieces.{strips, line_ends, line_lacks_product, line_lacks_arrow}
use Rattle.crn_text.proofs.canonical.Found.after_line.Goals as goal

pub returns-in_err-product-clause-follows : goal.returns-in_err-product-clause-follows
returns-in_err-product-clause-follows c =
    let first = rw c.reactant.ensures.value at c.in_ok-arrow.ensures.follows in
    let arrow = strips c.in_ok-arrow.arrow.now (codes " -> ") (codes " -> ") c.strip_prefix.result refl c.strip_prefix.ensures.cases in
    rw c.from_residual-in_err-product.ensures (line_lacks_arrow c.args.net.now (get_or c.args.net.now.reactions c.args.r (0, 0)) c.args.text.now c.in_ok-arrow.arrow.now first (rw c.in_err-product.was at arrow))

pub returns-in_err-end-clause-follows : goal.returns-in_err-end-clause-follows
returns-in_err-end-clause-follows c =
    let first = rw c.reactant.ensures.value at c.in_ok-arrow.ensures.follows in
    let arrow = strips c.in_ok-arrow.arrow.now (codes " -> ") (codes " -> ") c.strip_prefix.result refl c.strip_prefix.ensures.cases in
    let none = rw c.product.ensures.value at c.in_err-end.ensures.follows in
    rw c.from_residual-in_err-end.ensures
    (line_lacks_product c.args.net.now (get_or c.args.net.now.reactions c.args.r (0, 0)) c.args.text.now c.in_ok-arrow.arrow.now c.in_ok-product.product.now first (rw c.in_ok-product.was at arrow) none)

pub returns-clause-follows : goal.returns-clause-follows
returns-clause-follows c =
    let first = rw c.reactant.ensures.value at c.in_ok-arrow.ensures.follows in
    let arrow = strips c.in_ok-arrow.arrow.now (codes " -> ") (codes " -> ") c.strip_prefix.result refl c.strip_prefix.ensures.cases in
    let second = rw c.product.ensures.value at c.in_ok-end.ensures.follows in
    let end = strips c.in_ok-end.end.now (codes "\n") (codes "\n") c.strip_prefix-2.result refl c.strip_prefix-2.ensures.cases in
    line_ends c.args.net.now (get_or c.args.net.now.reactions c.args.r (0, 0)) c.args.text.now c.in_ok-arrow.arrow.now c.in_ok-product.product.now c.in_ok-end.end.now c.strip_prefix-2.result first (rw c.in_ok-product.was at arrow) second end
