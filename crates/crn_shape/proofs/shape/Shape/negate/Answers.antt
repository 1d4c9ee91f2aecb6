use Rattle.crn_shape.proofs.Prelude.{◌≡◌, ◌++◌, List, length, map, take, drop, sym, ap, subst, ◌∙◌, take-append_seam, with_items_is, opposite_shape, AreForShape, shape_of, opposite_linked, LinkedPair}
use Rattle.crn_shape.proofs.ShapeMade.{opposite_is, parts_opposite}
use Rattle.crn_shape.proofs.shape.Shape.negate.Goals as goal

pub invariant_of-self : goal.invariant_of-self
invariant_of-self c =
    let old = c.self.inside.pairs.items in
    let new = c.negate_sums.new.pairs in
    let n = c.self.inside.pairs.len in
    let long : length new ≡ n = c.negate_sums.auto.pairs ∙ c.deref_mut.ensures.len in
    let whole : take n (new ++ drop (length new) old) ≡ new = ap (λ k. take k (new ++ drop (length new) old)) (sym long) ∙ take-append_seam new (drop (length new) old) in
    let is : new ≡ map opposite_linked old = c.negate_sums.ensures ∙ ap (λ (l : List LinkedPair). map opposite_linked l) c.deref_mut.ensures.value in
    subst (λ (l : List LinkedPair). AreForShape c.self.inside.net.now c.self.inside.tops.of.items c.self.inside.tops.count l) (sym (whole ∙ is))
    (parts_opposite c.self.inside.net.now c.self.inside.tops.of.items c.self.inside.tops.count old c.self.invariant)

pub returns : goal.returns
returns c =
    let net = c.self.inside.net.now in
    let tops = c.self.inside.tops.of.items in
    let count = c.self.inside.tops.count in
    let old = c.self.inside.pairs.items in
    let new = c.negate_sums.new.pairs in
    let long : length new ≡ c.self.inside.pairs.len = c.negate_sums.auto.pairs ∙ c.deref_mut.ensures.len in
    let is : new ≡ map opposite_linked old = c.negate_sums.ensures ∙ ap (λ (l : List LinkedPair). map opposite_linked l) c.deref_mut.ensures.value in
    ap (λ (l : List LinkedPair). shape_of net tops count l) (with_items_is c.self.inside.pairs new long ∙ is)
    ∙ opposite_is net tops count old
    ∙ ap opposite_shape c.self.view_is
