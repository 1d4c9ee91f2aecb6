use Rattle.crn_ctree.proofs.Prelude.{◌≡◌, ◌<◌, ◌-◌, [], List, length, get_or, sym, ap, ◌∙◌, arith, ℤ, length-map, shelf_matrix, reaction_system, KeptCuts, problem_of, place_of, Problem, Part, matrix_of, part_of, row_spots, rows_by, shelf_rows}
use Rattle.crn_ctree.proofs.CutLaws.{table_system, part_system_b}
use Rattle.crn_ctree.proofs.SpotLaws.{row_is}
use Rattle.crn_ctree.proofs.worked.Worked.row.Goals as goal

pub returns-in-Concordance : goal.returns-in-Concordance
returns-in-Concordance c =
    let net = c.self.inside.net.now in
    let table = c.self.inside.table.now in
    let problem = c.self.inside.problem in
    let part = part_of c.args.cut in
    let lt : c.place.result - 1 < length table = omega (arith, c.requires.0, c.requires.1, c.place.ensures, ap (λ (k : KeptCuts). length k.table) c.self.view_is) in
    c.as_slice.ensures
    ∙ row_is net problem part (reaction_system net) c.self.inside.reactions.items table c.index.result.now (c.place.result - 1) (place_of c.args.cut - 1) c.self.invariant.1 (table_system net problem part c.in-Concordance.is) (ap (λ n. n - 1) c.place.ensures) lt c.index.ensures
    ∙ ap (λ (k : KeptCuts). row_spots (matrix_of k.net k.problem part) (get_or k.table (place_of c.args.cut - 1) [])) c.self.view_is

pub index-requires-in-A : goal.index-requires-in-A
index-requires-in-A c =
    let table = c.self.inside.table.now in
    let a = shelf_matrix c.in-Signals.field-0.now in
    let same = c.self.invariant.2 ∙ ap (λ (q : Problem). shelf_rows q table) c.in-Signals.is in
    omega (arith, c.requires.0, c.requires.1, c.place.ensures, ap length same, length-map table (λ (u : List ℤ). row_spots a u), ap (λ (k : KeptCuts). length k.table) c.self.view_is)

pub returns-in-A : goal.returns-in-A
returns-in-A c =
    let net = c.self.inside.net.now in
    let table = c.self.inside.table.now in
    let problem = c.self.inside.problem in
    let part = part_of c.args.cut in
    let a = shelf_matrix c.in-Signals.field-0.now in
    let same : c.self.inside.shelves.items ≡ rows_by a table = c.self.invariant.2 ∙ ap (λ (q : Problem). shelf_rows q table) c.in-Signals.is in
    let of : a ≡ matrix_of net problem part = ap (λ (q : Problem). (problem_of net q).matrix_a) (sym c.in-Signals.is) ∙ ap (λ (p : Part). matrix_of net problem p) (sym c.in-A.is ∙ c.part.ensures) in
    let lt : c.place.result - 1 < length table = omega (arith, c.requires.0, c.requires.1, c.place.ensures, ap (λ (k : KeptCuts). length k.table) c.self.view_is) in
    c.as_slice-in-A.ensures
    ∙ row_is net problem part a c.self.inside.shelves.items table c.index-in-A.result.now (c.place.result - 1) (place_of c.args.cut - 1) same of (ap (λ n. n - 1) c.place.ensures) lt c.index-in-A.ensures
    ∙ ap (λ (k : KeptCuts). row_spots (matrix_of k.net k.problem part) (get_or k.table (place_of c.args.cut - 1) [])) c.self.view_is

pub returns-in-B : goal.returns-in-B
returns-in-B c =
    let net = c.self.inside.net.now in
    let table = c.self.inside.table.now in
    let problem = c.self.inside.problem in
    let part = part_of c.args.cut in
    let lt : c.place.result - 1 < length table = omega (arith, c.requires.0, c.requires.1, c.place.ensures, ap (λ (k : KeptCuts). length k.table) c.self.view_is) in
    c.as_slice-in-B.ensures
    ∙ row_is net problem part (reaction_system net) c.self.inside.reactions.items table c.index-in-B.result.now (c.place.result - 1) (place_of c.args.cut - 1) c.self.invariant.1 (part_system_b net problem part (sym c.part.ensures ∙ c.in-B.is)) (ap (λ n. n - 1) c.place.ensures) lt c.index-in-B.ensures
    ∙ ap (λ (k : KeptCuts). row_spots (matrix_of k.net k.problem part) (get_or k.table (place_of c.args.cut - 1) [])) c.self.view_is
