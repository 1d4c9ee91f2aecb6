use Rattle.crn_ctext.proofs.Prelude.{forms_in, texts_of}
use Rattle.crn_ctext.proofs.PartRuns.{kept_back, part_misfit, part_wide, part_unknown, part_order}
use Rattle.crn_ctext.proofs.part.read_part.Goals as goal

pub returns-then-is_word_of-clause-err : goal.returns-then-is_word_of-clause-err
returns-then-is_word_of-clause-err c =
    let words = texts_of c.args.words.now in
    let e = c.in-Err-OtherWord in (
      part_order words (forms_in words c.args.due.now c.args.runs.now) c.args.line.now c.first_word.result.now c.first_word.ensures (c.is_word_of.ensures.0 c.if-is_word_of.true) (rw e.field-0-is at e.ensures.sought),
      kept_back c.args.into.now c.seek_choice.new.into c.requires.empty e.ensures.err c.seek_choice.ensures.spare,
    )

pub returns-else-is_word_of-clause-err : goal.returns-else-is_word_of-clause-err
returns-else-is_word_of-clause-err c =
    let words = texts_of c.args.words.now in
    let e = c.in-Err-OtherWord in (
      part_unknown words (forms_in words c.args.due.now c.args.runs.now) c.args.line.now c.first_word.result.now c.first_word.ensures (λ i. let t = c.is_word_of.ensures.1 i in let f = c.if-is_word_of.false in cc),
      kept_back c.args.into.now c.seek_choice.new.into c.requires.empty e.ensures.err c.seek_choice.ensures.spare,
    )

pub returns-in-Err-Misfit-clause-err : goal.returns-in-Err-Misfit-clause-err
returns-in-Err-Misfit-clause-err c =
    let e = c.in-Err-Misfit in (
      part_misfit (texts_of c.args.words.now) c.args.due.now c.args.runs.now c.args.line.now c.requires.due (rw e.field-0-is at e.ensures.sought),
      kept_back c.args.into.now c.seek_choice.new.into c.requires.empty e.ensures.err c.seek_choice.ensures.spare,
    )

pub returns-in-Err-TooWide-clause-err : goal.returns-in-Err-TooWide-clause-err
returns-in-Err-TooWide-clause-err c =
    let e = c.in-Err-TooWide in (
      part_wide (texts_of c.args.words.now) c.args.due.now c.args.runs.now c.args.line.now c.requires.due (rw e.field-0-is at e.ensures.sought),
      kept_back c.args.into.now c.seek_choice.new.into c.requires.empty e.ensures.err c.seek_choice.ensures.spare,
    )
