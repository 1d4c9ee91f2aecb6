use Rattle.crn_reg.proofs.Prelude.{◌≡◌, ◌+◌, ◌*◌, ◌++◌, ℕ, List, length, map, ap, ap₂, sym, ◌∙◌, arith, ℤ, flat_map, range_with_len, length-range_with_len, Mat, column, mat_of, label_marks, confluence_system, if_ok, rows_after}
use Rattle.crn_reg.proofs.Rows.{rows_then, system_long, amounts_long, marks_long, some_complex}
use Rattle.crn_reg.proofs.matrix.confluence_matrix.Goals as goal

pub from_entries-requires-clause-count : goal.from_entries-requires-clause-count
from_entries-requires-clause-count c =
    let net = c.args.net.now in
    let species = range_with_len 0 (length net.names) in
    let classes = range_with_len 1 c.args.count in
    let f = column net.complexes in
    let g = label_marks c.args.labels.now in
    let first = c.in_ok-put_amounts.ensures.value ∙ ap (λ (l : List ℤ). l ++ flat_map f species) c.in_ok-entries.ensures.items in
    let listed : c.put_classes.new.entries.items ≡ flat_map f species ++ flat_map g classes = c.in_ok-put_classes.ensures.value ∙ ap (λ (l : List ℤ). l ++ flat_map g classes) first in
    ap length listed ∙ system_long net c.args.labels.now c.args.count c.requires.labels
    ∙ ap₂ (λ (s n : ℕ). (s + c.args.count) * n) (sym c.species.ensures.count) (sym c.complexes-2.ensures.count)

pub from_entries-requires-clause-some : goal.from_entries-requires-clause-some
from_entries-requires-clause-some c = omega (arith, some_complex c.args.net.now c.species.ensures.network, c.complexes-2.ensures.count)

pub returns : goal.returns
returns c =
    let net = c.args.net.now in
    let n = length net.complexes in
    let species = range_with_len 0 (length net.names) in
    let classes = range_with_len 1 c.args.count in
    let f = column net.complexes in
    let g = label_marks c.args.labels.now in
    let first = c.in_ok-put_amounts.ensures.value ∙ ap (λ (l : List ℤ). l ++ flat_map f species) c.in_ok-entries.ensures.items in
    let listed : c.put_classes.new.entries.items ≡ flat_map f species ++ flat_map g classes = c.in_ok-put_classes.ensures.value ∙ ap (λ (l : List ℤ). l ++ flat_map g classes) first in
    let made = mat_of (c.species.result + c.args.count) c.complexes-2.result c.put_classes.new.entries.items in
    let rows : c.species.result + c.args.count ≡ length species + length classes = omega (arith, c.species.ensures.count, length-range_with_len 0 (length net.names), length-range_with_len 1 c.args.count) in
    let same : made ≡ confluence_system net c.args.labels.now c.args.count =
    ap₂ (λ (m k : ℕ). mat_of m k c.put_classes.new.entries.items) rows c.complexes-2.ensures.count
    ∙ ap (λ (xs : List ℤ). mat_of (length species + length classes) n xs) listed
    ∙ ap (λ (rs : List (List ℤ)). let a : Mat = record { cols = n; rows = rs } in a)
    (rows_then n (length classes) f species (flat_map g classes) (λ s i. amounts_long net s) ∙ ap (λ (t : List (List ℤ)). map f species ++ t) (rows_after n g classes (λ k i. marks_long net c.args.labels.now k c.requires.labels))) in
    if_ok (λ (a : Mat). a ≡ made) (λ (a : Mat). a ≡ confluence_system net c.args.labels.now c.args.count) c.from_entries.result (λ a e. e ∙ same) c.from_entries.ensures
