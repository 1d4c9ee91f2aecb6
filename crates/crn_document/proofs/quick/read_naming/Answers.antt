use Rattle.crn_document.proofs.Prelude.{[], ◌∷◌, ◌++◌, List, sym, ap, subst, ◌∙◌, arith, ℤ, pos, IsReadAs}
use Rattle.crn_ctext.specs.declared.word.Word.TheVariants as words
use Rattle.crn_document.proofs.Naming.{reads_a, reads_b}
use Rattle.crn_document.proofs.quick.read_naming.Goals as goal

pub returns-then-names_b-clause-some : goal.returns-then-names_b-clause-some
returns-then-names_b-clause-some c =
    let place = c.guess-place.result in
    let list = c.add.ensures.list ∙ ap (λ (l : List ℤ). l ++ pos place ∷ []) c.requires.empty in
    subst (λ (l : List ℤ). IsReadAs c.args.expect.now c.args.line.now words.RefB l) (sym list)
    (reads_b c.args.expect.now c.args.shared place c.args.line.now c.requires.node (omega (arith, c.if-place-lt1.false)) (omega (arith, c.if-shared-place.false)) (omega (arith, c.if-shared-place.false, c.ranges.shared.fits)) (c.names_b.ensures.0 c.if-names_b.true))

pub returns-then-names_a-clause-some : goal.returns-then-names_a-clause-some
returns-then-names_a-clause-some c =
    let place = c.guess-place.result in
    let list = c.add-then-names_a.ensures.list ∙ ap (λ (l : List ℤ). l ++ pos place ∷ []) c.requires.empty in
    subst (λ (l : List ℤ). IsReadAs c.args.expect.now c.args.line.now words.RefA l) (sym list)
    (reads_a c.args.expect.now c.args.shared place c.args.line.now c.requires.node (omega (arith, c.if-place-lt1.false)) (omega (arith, c.if-shared-place.false)) (omega (arith, c.if-shared-place.false, c.ranges.shared.fits)) (c.names_a.ensures.0 c.if-names_a.true))
