use Rattle.crn_text.proofs.Prelude.{[], take, refl, arith, lines}
use Rattle.crn_text.proofs.LinesRead.{lines_stop, lines_all}
use Rattle.crn_text.proofs.Remembered.{reads_more, sound_front}
use Rattle.crn_text.proofs.reader.read_lines.Goals as goal

pub lines-init : goal.lines-init
lines-init c =
    record {
      upto = record { after = refl; sound = λ k lt. absurd (omega (arith, lt)); grown = c.requires.none; size = omega arith };
      follows = ([], refl);
      known = c.new-known.ensures c.args.text.now [];
    }

pub returns-in-Err : goal.returns-in-Err
returns-in-Err c =
    let here = rw c.in-Some.is at c.lines.invariant in
    let text = c.args.text.now in
    let sound = sound_front text c.lines.number _ _ here.upto in
    lines_stop text _ c.lines.number c.in-Some.rest _ c.lines.builder c.lines.builder c.in-Err.code c.requires.short here.upto c.split_at_byte.ensures (c.in-Err.ensures.gives (take c.lines.number (lines text)) here.upto.grown here.known sound)

pub lines-preserved : goal.lines-preserved
lines-preserved c =
    let here = rw c.in-Some.is at c.lines.invariant in
    let text = c.args.text.now in
    let read = take c.lines.number (lines text) in
    let sound = sound_front text c.lines.number _ _ here.upto in
    reads_more text _ c.lines.number c.in-Some.rest _ c.lines.builder _ c.in_default-read_new.field-0 _ _ here c.split_at_byte.ensures (c.in_default-read_new.ensures.gives read here.upto.grown here.known sound) (c.in_default-read_new.ensures.keeps read here.known)

pub returns : goal.returns
returns c =
    let here = rw c.in_default.is at c.lines.invariant in
    lines_all c.args.text.now c.lines.number c.lines.builder here.upto
