use Rattle.crn_ctext.proofs.Prelude.{err_from_is_err_and, refl, append_assoc, [], ◌∷◌, ◌++◌, numbers_text}
use Rattle.std.proofs.Common.{codes}
use Rattle.crn_ctext.proofs.Pieces.{Gathered-then, Gathered-next, Gathered-stop, Gathers-all, Gathers-prefix, stops_within}
use Rattle.crn_ctext.proofs.write_tree.gather_line.Goals as goal

pub returns-in_err-gather_text : goal.returns-in_err-gather_text
returns-in_err-gather_text g c =
    let p = err_from_is_err_and c.from_residual.result c.from_residual.ensures.1 in
    let word = codes "cut" ++ c.args.part ∷ [] in
    let numbers = numbers_text c.args.numbers.now in
    Gathers-prefix p.1 (stops_within c.args.piece.now.items word (numbers ++ codes "\n") (append_assoc word numbers (codes "\n")) c.in_err-gather_text.ensures.prefix)

pub returns-in_err-gather_ints : goal.returns-in_err-gather_ints
returns-in_err-gather_ints g c =
    let p = err_from_is_err_and c.from_residual-in_err-gather_ints.result c.from_residual-in_err-gather_ints.ensures.1 in
    let word = codes "cut" ++ c.args.part ∷ [] in
    let numbers = numbers_text c.args.numbers.now in
    let begun = Gathered-next c.args.piece.now.items word numbers refl c.in_ok-gather_text.ensures.all in
    Gathers-prefix p.1 (stops_within c.args.piece.now.items (word ++ numbers) (codes "\n") refl (Gathered-stop begun c.in_err-gather_ints.ensures.gathers.prefix))

pub returns : goal.returns
returns g c =
    let word = codes "cut" ++ c.args.part ∷ [] in
    let numbers = numbers_text c.args.numbers.now in
    let begun = Gathered-next c.args.piece.now.items word numbers refl c.in_ok-gather_text.ensures.all in
    Gathers-all (Gathered-next c.args.piece.now.items (word ++ numbers) (codes "\n") c.push.ensures.items (Gathered-then begun c.in_ok-gather_ints.ensures.gathers.all))
