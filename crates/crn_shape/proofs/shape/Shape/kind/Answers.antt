use Rattle.crn_shape.proofs.Prelude.{◌≡◌, ◌+◌, ◌-◌, ◌<◌, ◌≤◌, List, length, get_or, take, sym, ap, ◌∙◌, arith, None, Sign, row_kinds, Shape, pair_kind, top_kind, kind_at, no_pair}
use Rattle.crn_shape.proofs.ShapeKinds.{species_kind, level_kind, complex_kind, linked_kind, rows_are}
use Rattle.crn_shape.proofs.shape.Shape.kind.Goals as goal

pub returns-then-coordinate-species : goal.returns-then-coordinate-species
returns-then-coordinate-species c =
    let s = c.args.self.now in
    let k = c.args.coordinate in
    let lt : k < s.species = omega (arith, c.if-coordinate-species.true, c.species-species.ensures.count, ap (λ (u : Shape). u.species) c.self.view_is) in
    c.row_kind.ensures s.species lt ∙ ap (λ (q : List Sign). kind_at (row_kinds s.species q) k) c.signs.ensures ∙ species_kind s c.args.prefix.now k lt

pub returns-then-coordinate-species-2 : goal.returns-then-coordinate-species-2
returns-then-coordinate-species-2 c =
    level_kind c.args.self.now c.args.prefix.now c.args.coordinate
    (c.if-coordinate-species-2.true ∙ c.species-species.ensures.count ∙ ap (λ (u : Shape). u.species) c.self.view_is)

pub returns-then-row-complexes : goal.returns-then-row-complexes
returns-then-row-complexes c =
    let s = c.args.self.now in
    let p = c.args.prefix.now in
    let k = c.args.coordinate in
    let row = k - c.species-species.result - 1 in
    let species : c.species-species.result ≡ s.species = c.species-species.ensures.count ∙ ap (λ (u : Shape). u.species) c.self.view_is in
    let le : s.species + 1 ≤ k = omega (arith, species, c.if-coordinate-species.false, c.if-coordinate-species-2.false) in
    let e : row ≡ k - (s.species + 1) = omega (arith, species) in
    let lt : row < length s.tops = omega (arith, c.if-row-complexes.true, c.complexes.ensures.count, c.self.invariant.tops_long, ap (λ (u : Shape). length u.tops) c.self.view_is) in
    c.complex_kind.ensures
    ∙ ap (λ (q : List Sign). top_kind q (get_or s.tops row None)) (c.shelves-shelves.ensures ∙ ap (λ (u : Shape). take u.count p) c.self.view_is)
    ∙ complex_kind s p k row le e lt

pub returns-else-row-complexes : goal.returns-else-row-complexes
returns-else-row-complexes c =
    let s = c.args.self.now in
    let p = c.args.prefix.now in
    let k = c.args.coordinate in
    let row = k - c.species-species.result - 1 in
    let i = row - c.complexes-else-row-complexes.result in
    let species : c.species-species.result ≡ s.species = c.species-species.ensures.count ∙ ap (λ (u : Shape). u.species) c.self.view_is in
    let tops : length s.tops ≡ c.complexes.result = omega (arith, c.complexes.ensures.count, c.self.invariant.tops_long, ap (λ (u : Shape). length u.tops) c.self.view_is) in
    let same : c.complexes-else-row-complexes.result ≡ c.complexes.result = c.complexes-else-row-complexes.ensures.count ∙ sym c.complexes.ensures.count in
    let complexes : length s.complexes ≡ c.complexes.result = sym (c.complexes.ensures.count ∙ ap (λ (u : Shape). length u.complexes) c.self.view_is) in
    let le : s.species + 1 ≤ k = omega (arith, species, c.if-coordinate-species.false, c.if-coordinate-species-2.false) in
    let e : row ≡ k - (s.species + 1) = omega (arith, species) in
    let past : length s.tops ≤ row = omega (arith, tops, c.if-row-complexes.false) in
    let f : i ≡ row - length s.tops = omega (arith, tops, same) in
    let lt : i < length s.pairs = omega (arith, c.requires, rows_are s, complexes, same, species, past, tops) in
    c.pair_kind.ensures
    ∙ ap (λ (q : List Sign). pair_kind q (get_or s.pairs i no_pair)) (c.shelves-shelves.ensures ∙ ap (λ (u : Shape). take u.count p) c.self.view_is)
    ∙ linked_kind s p k row i le e past f lt
