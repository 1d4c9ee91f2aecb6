use Rattle.crn_ctext.proofs.Prelude.{map, [], ◌∷◌, err_from_is_err_and, WroteAll-then, WrotePrefix-then, WrotePrefix-more, Wrote-prefix}
use Rattle.std.proofs.Common.{pos, codes}
use Rattle.crn_ctext.proofs.Pieces.{stops_first, ends_with, wrote_as}
use Rattle.crn_ctext.proofs.WrittenLines.{line_of_word, lines_two, lines_four}
use Rattle.crn_ctext.proofs.write_rows.put_verdict.Goals as goal

pub returns-in-Classes : goal.returns-in-Classes
returns-in-Classes g c =
    let wrote = rw c.as_slice.ensures at c.put_small.ensures in
    rw c.in-Classes.is (wrote_as (line_of_word (codes "label") (map pos c.in-Classes.label.list)) wrote)

pub returns-in-Strong : goal.returns-in-Strong
returns-in-Strong g c =
    let wrote = rw c.as_slice-in-Strong.ensures at c.put_small-in-Strong.ensures in
    rw c.in-Strong.is (wrote_as (line_of_word (codes "label") (map pos c.in-Strong.label.list)) wrote)

pub returns-in-YesVec : goal.returns-in-YesVec
returns-in-YesVec g c =
    let wrote = rw c.as_slice-in-YesVec.ensures at c.put_free.ensures in
    rw c.in-YesVec.is (wrote_as (line_of_word (codes "vec") (c.in-YesVec.vector.list)) wrote)

pub returns-in-NoVec : goal.returns-in-NoVec
returns-in-NoVec g c =
    let wrote = rw c.as_slice-in-NoVec.ensures at c.put_free-in-NoVec.ensures in
    rw c.in-NoVec.is (wrote_as (line_of_word (codes "cut") (c.in-NoVec.multipliers.list)) wrote)

pub returns-in-NoCycle : goal.returns-in-NoCycle
returns-in-NoCycle g c =
    let wrote = rw c.as_slice-in-NoCycle.ensures at c.put_small-in-NoCycle.ensures in
    rw c.in-NoCycle.is (wrote_as (line_of_word (codes "walk") (map pos c.in-NoCycle.walk.list)) wrote)

pub returns-in_err-put_free-in-NoPair : goal.returns-in_err-put_free-in-NoPair
returns-in_err-put_free-in-NoPair g c =
    let p = err_from_is_err_and c.from_residual-in_err-put_free-in-NoPair.result c.from_residual-in_err-put_free-in-NoPair.ensures.1 in
    let first = rw c.as_slice-in-NoPair.ensures at c.in_err-put_free-in-NoPair.ensures in
    rw c.in-NoPair.is (stops_first _ (lines_two (codes "alpha") (codes "weights") c.in-NoPair.alpha.list c.in-NoPair.weights.list) p.1 first.prefix)

pub returns-in_ok-put_free-in-NoPair : goal.returns-in_ok-put_free-in-NoPair
returns-in_ok-put_free-in-NoPair g c =
    let first = rw c.as_slice-in-NoPair.ensures at c.in_ok-put_free-in-NoPair.ensures in
    let last = rw c.as_slice-in-NoPair-2.ensures at c.put_free-in-NoPair-2.ensures in
    rw c.in-NoPair.is (ends_with (lines_two (codes "alpha") (codes "weights") c.in-NoPair.alpha.list c.in-NoPair.weights.list) first.all last)

pub returns-in_err-put_free-in-Plane : goal.returns-in_err-put_free-in-Plane
returns-in_err-put_free-in-Plane g c =
    let p = err_from_is_err_and c.from_residual-in_err-put_free-in-Plane.result c.from_residual-in_err-put_free-in-Plane.ensures.1 in
    let first = rw c.as_slice-in-Plane.ensures at c.in_err-put_free-in-Plane.ensures in
    rw c.in-Plane.is (stops_first _ (lines_two (codes "vec") (codes "vec") c.in-Plane.one.list c.in-Plane.two.list) p.1 first.prefix)

pub returns-in_ok-put_free-in-Plane : goal.returns-in_ok-put_free-in-Plane
returns-in_ok-put_free-in-Plane g c =
    let first = rw c.as_slice-in-Plane.ensures at c.in_ok-put_free-in-Plane.ensures in
    let last = rw c.as_slice-in-Plane-2.ensures at c.put_free-in-Plane-2.ensures in
    rw c.in-Plane.is (ends_with (lines_two (codes "vec") (codes "vec") c.in-Plane.one.list c.in-Plane.two.list) first.all last)

pub returns-in_err-put_free-in-YesSignal : goal.returns-in_err-put_free-in-YesSignal
returns-in_err-put_free-in-YesSignal g c =
    let p = err_from_is_err_and c.from_residual.result c.from_residual.ensures.1 in
    let w1 = rw c.as_slice-in-YesSignal.ensures at c.in_err-put_free-in-YesSignal.ensures in
    rw c.in-YesSignal.is (wrote_as (lines_four (codes "shelves") (codes "mu") (codes "m") (codes "weights") c.in-YesSignal.shelves.list c.in-YesSignal.mu.list (c.in-YesSignal.m ∷ []) c.in-YesSignal.weights.list) (Wrote-prefix p.1 (WrotePrefix-more _ (WrotePrefix-more _ (WrotePrefix-more _ w1.prefix)))))

pub returns-in_err-put_free-in-YesSignal-2 : goal.returns-in_err-put_free-in-YesSignal-2
returns-in_err-put_free-in-YesSignal-2 g c =
    let p = err_from_is_err_and c.from_residual-in_err-put_free-in-YesSignal-2.result c.from_residual-in_err-put_free-in-YesSignal-2.ensures.1 in
    let w1 = rw c.as_slice-in-YesSignal.ensures at c.in_ok-put_free-in-YesSignal.ensures in
    let w2 = rw c.as_slice-in-YesSignal-2.ensures at c.in_err-put_free-in-YesSignal-2.ensures in
    rw c.in-YesSignal.is (wrote_as (lines_four (codes "shelves") (codes "mu") (codes "m") (codes "weights") c.in-YesSignal.shelves.list c.in-YesSignal.mu.list (c.in-YesSignal.m ∷ []) c.in-YesSignal.weights.list) (Wrote-prefix p.1 (WrotePrefix-more _ (WrotePrefix-more _ (WrotePrefix-then w1.all w2.prefix)))))

pub returns-in_err-put_one-in-YesSignal : goal.returns-in_err-put_one-in-YesSignal
returns-in_err-put_one-in-YesSignal g c =
    let p = err_from_is_err_and c.from_residual-in_err-put_one-in-YesSignal.result c.from_residual-in_err-put_one-in-YesSignal.ensures.1 in
    let w1 = rw c.as_slice-in-YesSignal.ensures at c.in_ok-put_free-in-YesSignal.ensures in
    let w2 = rw c.as_slice-in-YesSignal-2.ensures at c.in_ok-put_free-in-YesSignal-2.ensures in
    let w3 = c.in_err-put_one-in-YesSignal.ensures in
    rw c.in-YesSignal.is (wrote_as (lines_four (codes "shelves") (codes "mu") (codes "m") (codes "weights") c.in-YesSignal.shelves.list c.in-YesSignal.mu.list (c.in-YesSignal.m ∷ []) c.in-YesSignal.weights.list) (Wrote-prefix p.1 (WrotePrefix-more _ (WrotePrefix-then (WroteAll-then w1.all w2.all) w3.prefix))))

pub returns-in_ok-put_one-in-YesSignal : goal.returns-in_ok-put_one-in-YesSignal
returns-in_ok-put_one-in-YesSignal g c =
    let w1 = rw c.as_slice-in-YesSignal.ensures at c.in_ok-put_free-in-YesSignal.ensures in
    let w2 = rw c.as_slice-in-YesSignal-2.ensures at c.in_ok-put_free-in-YesSignal-2.ensures in
    let w3 = c.in_ok-put_one-in-YesSignal.ensures in
    let w4 = rw c.as_slice-in-YesSignal-3.ensures at c.put_free-in-YesSignal-3.ensures in
    rw c.in-YesSignal.is (ends_with (lines_four (codes "shelves") (codes "mu") (codes "m") (codes "weights") c.in-YesSignal.shelves.list c.in-YesSignal.mu.list (c.in-YesSignal.m ∷ []) c.in-YesSignal.weights.list) (WroteAll-then (WroteAll-then w1.all w2.all) w3.all) w4)
