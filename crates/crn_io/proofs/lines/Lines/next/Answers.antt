use Rattle.crn_io.proofs.Prelude.{◌≡◌, ◌-◌, length, drop, take, take_all, ◌++◌, ap, sym, ◌∙◌, refl, arith, length-drop, MAX_AHEAD, KeptLines}
use Rattle.crn_io.proofs.NextLine.{document_ends, line_ends, document_goes_on, line_goes_on, line_is, line_length, ahead_length, asked, asked_few}
use Rattle.crn_io.proofs.lines.Lines.next.Goals as goal

pub returns-then-self-min-ge-MAX_DOCUMENT : goal.returns-then-self-min-ge-MAX_DOCUMENT
returns-then-self-min-ge-MAX_DOCUMENT g c =
    let found = c.in-Ended.ensures.gives in
    let bytes = drop c.seek.new.from c.seek.new.held.items in
    let taken_is : c.args.self.now.taken ≡ c.self.inside.taken = ap (λ (k : KeptLines). k.taken) (sym c.self.view_is) in
    let bytes_are : c.args.self.now.ahead ++ found.0 ≡ bytes = ap (λ (k : KeptLines). k.ahead ++ found.0) (sym c.self.view_is) ∙ sym found.1 in (
      found.0,
      found.2,
      document_ends (c.args.self.now.ahead ++ found.0) bytes c.args.self.now.taken c.in-Ended.i bytes_are found.3.0 (omega arith),
      found.4,
      asked_few (c.args.self.now.ahead ++ found.0) bytes c.args.self.now.taken c.window-most.result bytes_are (rw taken_is c.window-most.ensures) found.5,
      asked (c.args.self.now.ahead ++ found.0) bytes c.args.self.now.taken c.window-most.result bytes_are (rw taken_is c.window-most.ensures) found.5,
    )

pub returns-then-i-gt-MAX_LINE : goal.returns-then-i-gt-MAX_LINE
returns-then-i-gt-MAX_LINE g c =
    let found = c.in-Ended.ensures.gives in
    let bytes = drop c.seek.new.from c.seek.new.held.items in
    let taken_is : c.args.self.now.taken ≡ c.self.inside.taken = ap (λ (k : KeptLines). k.taken) (sym c.self.view_is) in
    let bytes_are : c.args.self.now.ahead ++ found.0 ≡ bytes = ap (λ (k : KeptLines). k.ahead ++ found.0) (sym c.self.view_is) ∙ sym found.1 in
    let long = line_ends (c.args.self.now.ahead ++ found.0) bytes c.in-Ended.i bytes_are found.3.0 c.if-i-gt-MAX_LINE.true in (
      found.0,
      found.2,
      (long.0, long.1, omega arith),
      found.4,
      asked_few (c.args.self.now.ahead ++ found.0) bytes c.args.self.now.taken c.window-most.result bytes_are (rw taken_is c.window-most.ensures) found.5,
      asked (c.args.self.now.ahead ++ found.0) bytes c.args.self.now.taken c.window-most.result bytes_are (rw taken_is c.window-most.ensures) found.5,
    )

pub returns-else-i-gt-MAX_LINE : goal.returns-else-i-gt-MAX_LINE
returns-else-i-gt-MAX_LINE g c =
    let found = c.in-Ended.ensures.gives in
    let held = c.seek.new.held.items in
    let from = c.seek.new.from in
    let taken_is : c.args.self.now.taken ≡ c.self.inside.taken = ap (λ (k : KeptLines). k.taken) (sym c.self.view_is) in
    let bytes = drop from held in
    let bytes_are : c.args.self.now.ahead ++ found.0 ≡ bytes = ap (λ (k : KeptLines). k.ahead ++ found.0) (sym c.self.view_is) ∙ sym found.1 in
    let long : length (take c.in-Ended.i (drop from held)) ≡ c.in-Ended.i = line_length held from c.in-Ended.i found.3.0 in (
      found.0,
      found.2,
      (line_is (c.args.self.now.ahead ++ found.0) held from c.in-Ended.i bytes_are found.3.0, found.3.0.2, omega arith, omega arith, omega arith, ahead_length held from c.in-Ended.i MAX_AHEAD found.3.0 found.3.1, refl),
      found.4,
      asked_few (c.args.self.now.ahead ++ found.0) bytes c.args.self.now.taken c.window-most.result bytes_are (rw taken_is c.window-most.ensures) found.5,
      asked (c.args.self.now.ahead ++ found.0) bytes c.args.self.now.taken c.window-most.result bytes_are (rw taken_is c.window-most.ensures) found.5,
    )

pub returns-then-self-lt-MAX_DOCUMENT : goal.returns-then-self-lt-MAX_DOCUMENT
returns-then-self-lt-MAX_DOCUMENT g c =
    let found = c.in-Enough.ensures.gives in
    let bytes = drop c.seek.new.from c.seek.new.held.items in
    let taken_is : c.args.self.now.taken ≡ c.self.inside.taken = ap (λ (k : KeptLines). k.taken) (sym c.self.view_is) in
    let bytes_are : c.args.self.now.ahead ++ found.0 ≡ bytes = ap (λ (k : KeptLines). k.ahead ++ found.0) (sym c.self.view_is) ∙ sym found.1 in
    let long = line_goes_on (c.args.self.now.ahead ++ found.0) bytes c.self.inside.taken c.window-most.result bytes_are c.window-most.ensures found.3.0 found.3.1 (omega arith) in (
      found.0,
      found.2,
      (long.0, long.1, omega arith),
      found.4,
      asked_few (c.args.self.now.ahead ++ found.0) bytes c.args.self.now.taken c.window-most.result bytes_are (rw taken_is c.window-most.ensures) found.5,
      asked (c.args.self.now.ahead ++ found.0) bytes c.args.self.now.taken c.window-most.result bytes_are (rw taken_is c.window-most.ensures) found.5,
    )

pub returns-else-self-lt-MAX_DOCUMENT : goal.returns-else-self-lt-MAX_DOCUMENT
returns-else-self-lt-MAX_DOCUMENT g c =
    let found = c.in-Enough.ensures.gives in
    let bytes = drop c.seek.new.from c.seek.new.held.items in
    let taken_is : c.args.self.now.taken ≡ c.self.inside.taken = ap (λ (k : KeptLines). k.taken) (sym c.self.view_is) in
    let bytes_are : c.args.self.now.ahead ++ found.0 ≡ bytes = ap (λ (k : KeptLines). k.ahead ++ found.0) (sym c.self.view_is) ∙ sym found.1 in
    let long = document_goes_on (c.args.self.now.ahead ++ found.0) bytes c.args.self.now.taken c.window-most.result bytes_are (rw taken_is c.window-most.ensures) (omega arith) found.3.0 found.3.1 (omega arith) in (
      found.0,
      found.2,
      long,
      found.4,
      asked_few (c.args.self.now.ahead ++ found.0) bytes c.args.self.now.taken c.window-most.result bytes_are (rw taken_is c.window-most.ensures) found.5,
      asked (c.args.self.now.ahead ++ found.0) bytes c.args.self.now.taken c.window-most.result bytes_are (rw taken_is c.window-most.ensures) found.5,
    )

pub returns-else-self-len : goal.returns-else-self-len
returns-else-self-len g c =
    let found = c.in-Nothing.ensures.gives in
    let bytes = drop c.seek.new.from c.seek.new.held.items in
    let taken_is : c.args.self.now.taken ≡ c.self.inside.taken = ap (λ (k : KeptLines). k.taken) (sym c.self.view_is) in
    let bytes_are : c.args.self.now.ahead ++ found.0 ≡ bytes = ap (λ (k : KeptLines). k.ahead ++ found.0) (sym c.self.view_is) ∙ sym found.1 in
    let size : length bytes ≡ c.len-in-Nothing.result - c.seek.new.from = omega (arith, length-drop c.seek.new.from c.seek.new.held.items) in
    let all : take (c.len-in-Nothing.result - c.seek.new.from) bytes ≡ bytes = take_all (c.len-in-Nothing.result - c.seek.new.from) bytes (omega arith) in (
      found.0,
      found.2,
      rw all (bytes_are, omega arith, found.3.0, omega (arith, found.3.1, c.window-most.ensures), omega (arith, taken_is, found.3.1, c.window-most.ensures), found.3.2),
      found.4,
      asked_few (c.args.self.now.ahead ++ found.0) bytes c.args.self.now.taken c.window-most.result bytes_are (rw taken_is c.window-most.ensures) found.5,
      asked (c.args.self.now.ahead ++ found.0) bytes c.args.self.now.taken c.window-most.result bytes_are (rw taken_is c.window-most.ensures) found.5,
    )
