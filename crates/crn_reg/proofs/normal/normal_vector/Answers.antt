use Rattle.crn_reg.proofs.Prelude.{List, sym, subst, arith, ℤ, ints, LeadsPositive, IsFirstEntry, IsFirstSum, GathersFirst}
use Rattle.crn_reg.proofs.Negatives.{leads_kept, leads_negated, gathers_kept, gathers_negated}
use Rattle.crn_reg.proofs.normal.normal_vector.Goals as goal

pub returns-then-first-lt0-clause-leads : goal.returns-then-first-lt0-clause-leads
returns-then-first-lt0-clause-leads c y =
    let g = c.args.vector.list in
    let x = c.leading_number-first.result in
    let first = subst (λ (l : List ℤ). IsFirstEntry l x) c.as_slice.ensures (c.leading_number-first.ensures.entry y) in
    let low = c.if-first-lt0.true in
    subst LeadsPositive (sym c.negate.ensures) (leads_negated g x c.requires.some first (omega (arith, ints, low)))

pub returns-then-first-lt0-clause-gathers : goal.returns-then-first-lt0-clause-gathers
returns-then-first-lt0-clause-gathers c no' =
    let g = c.args.vector.list in
    let labels = c.args.labels.now in
    let exits = c.args.exits.now in
    let x = c.leading_number-first.result in
    let first = subst (λ (l : List ℤ). IsFirstSum labels exits l x) c.as_slice.ensures (c.leading_number-first.ensures.sum no') in
    let low = c.if-first-lt0.true in
    subst (GathersFirst labels exits) (sym c.negate.ensures) (gathers_negated labels exits g x first (omega (arith, ints, low)))

pub returns-else-first-lt0-clause-leads : goal.returns-else-first-lt0-clause-leads
returns-else-first-lt0-clause-leads c y =
    let g = c.args.vector.list in
    let x = c.leading_number-first.result in
    let first = subst (λ (l : List ℤ). IsFirstEntry l x) c.as_slice.ensures (c.leading_number-first.ensures.entry y) in
    let high = c.if-first-lt0.false in
    leads_kept g x c.requires.some first (omega (arith, ints, high))

pub returns-else-first-lt0-clause-gathers : goal.returns-else-first-lt0-clause-gathers
returns-else-first-lt0-clause-gathers c no' =
    let g = c.args.vector.list in
    let labels = c.args.labels.now in
    let exits = c.args.exits.now in
    let x = c.leading_number-first.result in
    let first = subst (λ (l : List ℤ). IsFirstSum labels exits l x) c.as_slice.ensures (c.leading_number-first.ensures.sum no') in
    let high = c.if-first-lt0.false in
    gathers_kept labels exits g x first (omega (arith, ints, high))
