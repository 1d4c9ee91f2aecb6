use Rattle.crn_shape.proofs.Prelude.{◌≡◌, ◌+◌, List, length, subst, ℤ, AllByRecursion, Shape, shelf_matrix}
use Rattle.crn_shape.proofs.ShapeWidths.{widths}
use Rattle.crn_shape.proofs.shape.Shape.rows.Goals as goal

pub returns-clause-widths : goal.returns-clause-widths
returns-clause-widths c =
    subst (λ (u : Shape). AllByRecursion (λ (row : List ℤ). length row ≡ u.species + 1) (shelf_matrix u).rows) c.self.view_is
    (widths c.self.inside.net.now c.self.inside.tops.of.items c.self.inside.tops.count c.self.inside.pairs.items c.species.ensures.network c.self.invariant)
