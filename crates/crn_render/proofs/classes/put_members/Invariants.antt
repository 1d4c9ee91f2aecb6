use Rattle.crn_render.proofs.Prelude.{◌≡◌, ◌≤◌, ◌<◌, ◌-◌, take, length, get_or, codes, joined, WroteAll, of_label, complex_texts}
use Rattle.crn_render.proofs.classes.put_members.Given as goal

abbrev pub invariant-loop-c : goal.invariant-loop-c
invariant-loop-c g l =
    let written = of_label l.class (take l.c l.labels) (take l.c (complex_texts l.net)) in record {
      wrote : WroteAll (joined (codes "; ") written) (g.K.Sink.seen l.initial.sink) (g.K.Sink.seen l.sink);
      shown : l.shown ≡ length written;
      few : l.shown ≤ l.c;
      within : l.c ≤ length l.labels;
      next : l.c < length l.labels → get_or l.labels l.c 0 ≡ l.class;
    }

abbrev pub decreases-loop-c : goal.decreases-loop-c
decreases-loop-c g l = length l.labels - l.c
