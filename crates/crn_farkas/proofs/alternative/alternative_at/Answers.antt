use Rattle.crn_farkas.proofs.Prelude.{◌≡◌, ◌<◌, ◌∙◌, ℕ, List, length, get_or, sym, ap, subst, Zero, width, kind_at, Mat, entry, HasSign, View, IsView, IsSeen, IsRightEverywhere}
use Rattle.std.proofs.Common.{ℤ}
use Rattle.crn_farkas.proofs.Witnessing.{witness_signs, cut_signs}
use Rattle.crn_farkas.proofs.alternative.alternative_at.Goals as goal

pub returns-in-Row-clause-answer : goal.returns-in-Row-clause-answer
returns-in-Row-clause-answer c =
    let a = c.settled_view.new.tableau.matrix in
    let basis = c.settled_view.new.tableau.basis in
    let kinds = c.args.kinds.now in
    let g = c.args.g in
    let same : a ≡ c.args.tableau.now.matrix = c.settled_view.ensures.matrix in
    let long : length kinds ≡ width a = c.requires.kinds ∙ ap width (sym same) in
    let V : View → Type 0 = λ v. IsView a basis v g in
    let S : View → Type 0 = λ v. (y : List ℤ) → IsSeen a basis v g (kind_at kinds g) y → (k : ℕ) → k < length kinds → HasSign (get_or c.put_signs.new.signs k Zero) (entry y k) in (
      c.settled_cut.ensures.row,
      c.settled_cut.ensures.cut,
      cut_signs a basis kinds g c.settled_cut.result.sign c.put_signs.new.signs c.names_rows.ensures (subst (λ (m : Mat). g < width m) (sym same) c.requires.goal) long c.requires.asked
          (subst V c.in-Row.is c.in_ok-view.ensures.view) c.settled_cut.ensures.sign (c.put_signs.ensures.count ∙ c.requires.signs) (subst S c.in-Row.is c.put_signs.ensures.signs),
    )

pub returns-in-Column-clause-answer : goal.returns-in-Column-clause-answer
returns-in-Column-clause-answer c =
    let a = c.settled_view.new.tableau.matrix in
    let basis = c.settled_view.new.tableau.basis in
    let kinds = c.args.kinds.now in
    let g = c.args.g in
    let same : a ≡ c.args.tableau.now.matrix = c.settled_view.ensures.matrix in
    let long : length kinds ≡ width a = c.requires.kinds ∙ ap width (sym same) in
    let V : View → Type 0 = λ v. IsView a basis v g in
    let T : View → Type 0 = λ v. IsRightEverywhere a basis v g kinds in
    let S : View → Type 0 = λ v. (y : List ℤ) → IsSeen a basis v g (kind_at kinds g) y → (k : ℕ) → k < length kinds → HasSign (get_or c.put_signs.new.signs k Zero) (entry y k) in
    witness_signs a basis kinds c.in-Column.field-0 g c.put_signs.new.signs c.names_rows.ensures (subst (λ (m : Mat). g < width m) (sym same) c.requires.goal) long c.requires.asked
    (subst V c.in-Column.is c.in_ok-view.ensures.view) (subst T c.in-Column.is c.in_ok-view.ensures.right)
    (c.put_signs.ensures.count ∙ c.requires.signs) (subst S c.in-Column.is c.put_signs.ensures.signs)
