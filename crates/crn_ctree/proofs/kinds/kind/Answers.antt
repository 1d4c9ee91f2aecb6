use Rattle.crn_ctree.proofs.Prelude.{List, sym, ap, ◌∙◌, arith, Kind, width, kind_at, Mat, rows_count, kinds_of, matrix_of, Part}
use Rattle.crn_ctree.proofs.KindLaws.{part_b_is}
use Rattle.crn_ctree.proofs.kinds.kind.Goals as goal

pub kind_a-requires : goal.kind_a-requires
kind_a-requires c =
    let same = ap (λ (p : Part). width (matrix_of c.args.net.now c.args.problem p)) c.in-A.is in
    omega (arith, c.requires, same)

pub returns-in-A : goal.returns-in-A
returns-in-A c = c.kind_a.ensures ∙ ap (λ (p : Part). kind_at (kinds_of c.args.net.now c.args.problem p c.args.prefix.now) c.args.k) (sym c.in-A.is)

pub kind_of_signs-requires : goal.kind_of_signs-requires
kind_of_signs-requires c =
    let net = c.args.net.now in
    let same = ap (λ (p : Part). width (matrix_of net c.args.problem p)) c.in-B.is ∙ ap (λ (a : Mat). width a) (part_b_is net c.args.problem) in
    omega (arith, c.requires, same, rows_count net)

pub returns-in-B : goal.returns-in-B
returns-in-B c =
    c.kind_of_signs.ensures
    ∙ ap (λ (ks : List Kind). kind_at ks c.args.k) (c.species_signs.ensures c.args.net.now)
    ∙ ap (λ (p : Part). kind_at (kinds_of c.args.net.now c.args.problem p c.args.prefix.now) c.args.k) (sym c.in-B.is)
