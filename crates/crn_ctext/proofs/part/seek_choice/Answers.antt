use Rattle.crn_ctext.proofs.Prelude.{◌≡◌, ◌<◌, List, [], length, ap, sym, subst, ◌∙◌, inl, inr, arith, length-map, Bor, slice_index_or, all_at, at_in, Form, IsChoice, form_in, forms_in, texts_of, IsTried, Choice}
use Rattle.std.specs.Prelude.{ℕ}
use Rattle.crn_ctext.specs.declared.record_try.Tried.TheVariants as tried
use Rattle.crn_ctext.proofs.LineSought.{tried_next}
use Rattle.crn_ctext.proofs.PartRuns.{word_plain, same_form, form_at, part_read}
use Rattle.crn_ctext.proofs.part.seek_choice.Goals as goal

pub try_runs-requires-clause-word : goal.try_runs-requires-clause-word
try_runs-requires-clause-word c =
    let words = c.args.words.now in
    let none : Choice = record { word = 0; first = 0; count = 0 } in
    let choice : Choice = slice_index_or c.args.due.now c.loop-choice.choice-index none in
    let here = all_at (IsChoice (texts_of words) c.args.runs.now) c.args.due.now c.loop-choice.choice-index none c.requires.due.each (omega arith) in
    word_plain words choice.word _ (omega (arith, here.word, length-map words (λ (w : Bor (List ℕ)). w.now))) c.requires.due.plain

pub returns-in-Fits-clause-sought : goal.returns-in-Fits-clause-sought
returns-in-Fits-clause-sought c =
    let words = c.args.words.now in
    let runs = c.args.runs.now in
    let due = c.args.due.now in
    let i = c.loop-choice.choice-index in
    let none : Choice = record { word = 0; first = 0; count = 0 } in
    let choice : Choice = slice_index_or due i none in
    let lt : i < length due = omega arith in
    let here = all_at (IsChoice (texts_of words) runs) due i none c.requires.due.each lt in
    let same = same_form words runs c.split_at.result.1.now c.split_at-in-loop-choice.result.0.now choice _ (omega (arith, here.word, length-map words (λ (w : Bor (List ℕ)). w.now))) c.split_at.ensures.back c.split_at-in-loop-choice.ensures.front in
    part_read (texts_of words) due runs choice c.args.line.now c.try_runs.new.into.list c.requires.due (at_in due i none lt)
    (subst (λ (f : Form). IsTried tried.Fits 0 f c.args.line.now c.try_runs.new.into.list) same c.in-Fits.ensures.tried)

pub loop-choice-preserved : goal.loop-choice-preserved
loop-choice-preserved c =
    let words = c.args.words.now in
    let runs = c.args.runs.now in
    let due = c.args.due.now in
    let i = c.loop-choice.choice-index in
    let inv = c.loop-choice.invariant in
    let read = c.try_runs.new.into.list in
    let none : Choice = record { word = 0; first = 0; count = 0 } in
    let choice : Choice = slice_index_or due i none in
    let lt : i < length due = omega arith in
    let here = all_at (IsChoice (texts_of words) runs) due i none c.requires.due.each lt in
    let same = same_form words runs c.split_at.result.1.now c.split_at-in-loop-choice.result.0.now choice _ (omega (arith, here.word, length-map words (λ (w : Bor (List ℕ)). w.now))) c.split_at.ensures.back c.split_at-in-loop-choice.ensures.front in
    let t = subst (λ (f : Form). IsTried c.try_runs.result 0 f c.args.line.now read) (same ∙ sym (form_at (texts_of words) due runs i none lt)) c.try_runs.ensures.tried in
    let empty : read ≡ [] = elim c.try_runs.ensures.list [ inl fits ↦ absurd (c.in_default.not-Fits fits) | inr e ↦ e ] in record {
      tried = rw c.worst-so_far.ensures (tried_next c.loop-choice.so_far c.try_runs.result 0 (forms_in (texts_of words) due runs) i c.args.line.now read (omega (arith, lt, length-map due (form_in (texts_of words) runs))) c.in_default.not-Fits inv.tried t);
      list = empty;
      spare = let l : length read ≡ 0 = ap length empty in omega (arith, l, inv.spare, c.try_runs.ensures.spare);
    }
