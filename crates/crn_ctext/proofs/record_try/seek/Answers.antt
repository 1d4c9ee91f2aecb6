use Rattle.crn_ctext.proofs.Prelude.{◌≡◌, [], length, ap, inl, inr, arith, slice_index_or, forms_of, no_form}
use Rattle.crn_ctext.proofs.LineSought.{forms_few, tried_next, read_as, nth_in}
use Rattle.crn_ctext.proofs.record_try.seek.Goals as goal

pub overflow_add-i : goal.overflow_add-i
overflow_add-i c = let found = c.in-Some.ensures in omega (arith, forms_few c.args.expect.now, found.0)

pub returns-in-Fits-clause-sought : goal.returns-in-Fits-clause-sought
returns-in-Fits-clause-sought c =
    let found = c.in-Some.ensures in
    let forms = forms_of c.args.expect.now in
    let form = slice_index_or forms c.loop-form.i no_form in
    read_as c.args.expect.now c.args.line.now c.in-Some.form form c.try_form.new.into.list c.requires.due (nth_in forms c.loop-form.i found.0) found.1 found.2 (c.in-Fits.ensures.tried form found.1)

pub loop-form-preserved : goal.loop-form-preserved
loop-form-preserved c =
    let found = c.in-Some.ensures in
    let forms = forms_of c.args.expect.now in
    let form = slice_index_or forms c.loop-form.i no_form in
    let inv = c.loop-form.invariant in
    let none : c.try_form.new.into.list ≡ [] = elim c.try_form.ensures.list [ inl fits ↦ absurd (c.in_default-try_form.not-Fits fits) | inr none ↦ none ] in record {
      tried = rw c.worst-so_far.ensures (tried_next c.loop-form.so_far c.try_form.result c.in-Some.form.place forms c.loop-form.i c.args.line.now c.try_form.new.into.list found.0 c.in_default-try_form.not-Fits inv.tried (c.try_form.ensures.tried form found.1));
      within = omega (arith, found.0);
      list = none;
      spare = let l : length c.try_form.new.into.list ≡ 0 = ap length none in omega (arith, l, inv.spare, c.try_form.ensures.spare);
    }
