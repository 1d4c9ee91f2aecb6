-- What a call that writes several pieces did, if the pieces are given by an equation.
use Rattle.crn_ctext.proofs.Prelude.{◌≡◌, ℕ, List, ◌++◌, Result, Ok, Err, SinkSeen, WroteAll, WrotePrefix, Wrote, WrotePrefix-more, WrotePrefix-step, Wrote-prefix, Wrote-then, [], refl, sym, ap, ◌∙◌, append_assoc, WroteAll-none, WroteAll-then, WrotePrefix-then, Gathered, Gathers}
use Rattle.std.proofs.Common.{append-nil}

-- a prefix of the first piece was written
pub stops_first : {T E : Type 0} {x y : List ℕ} {old new : SinkSeen} {e : E} {r : Result T E} (rest : List ℕ) → y ≡ x ++ rest → r ≡ Err e → WrotePrefix x old new → Wrote y old new r
stops_first rest e is p = Wrote-prefix is (rw e (WrotePrefix-more rest p))

-- pieces were written, and a prefix of the next one
pub stops_later : {T E : Type 0} {x t y : List ℕ} {old middle new : SinkSeen} {e : E} {r : Result T E} (rest : List ℕ) → y ≡ (x ++ t) ++ rest → r ≡ Err e → WroteAll x old middle → WrotePrefix t middle new → Wrote y old new r
stops_later rest e is p q = Wrote-prefix is (WrotePrefix-step rest e p q)

-- pieces were written, and the call that writes the last one answers
pub ends_with : {T E : Type 0} {x t y : List ℕ} {old middle new : SinkSeen} {r : Result T E} → y ≡ x ++ t → WroteAll x old middle → Wrote t middle new r → Wrote y old new r
ends_with e p q = rw e (Wrote-then p q)

-- the same text in other words
pub wrote_as : {T E : Type 0} {x y : List ℕ} {old new : SinkSeen} {r : Result T E} → y ≡ x → Wrote x old new r → Wrote y old new r
wrote_as e p = rw e p

-- ---- texts of which a part is held

-- all of a text is held
pub Gathered-none : (text : List ℕ) (seen : SinkSeen) → Gathered text text seen seen
Gathered-none text seen = record { written = []; parts = refl; wrote = WroteAll-none seen }

-- the same text in other words is held
pub Gathered-held : {text left : List ℕ} (seen : SinkSeen) → left ≡ text → Gathered text left seen seen
Gathered-held {text} seen e = rw e (Gathered-none text seen)

-- of what was held more was written
pub Gathered-then : {text held left : List ℕ} {old middle new : SinkSeen} → Gathered text held old middle → Gathered held left middle new → Gathered text left old new
Gathered-then {text} {held} {left} p q = record {
  written = p.written ++ q.written;
  parts = p.parts ∙ ap (λ (t : List ℕ). p.written ++ t) q.parts ∙ sym (append_assoc p.written q.written left);
  wrote = WroteAll-then p.wrote q.wrote;
}

-- a text was added to what is held
pub Gathered-add : {text held left all : List ℕ} {old new : SinkSeen} (more : List ℕ) → left ≡ held ++ more → all ≡ text ++ more → Gathered text held old new → Gathered all left old new
Gathered-add {text} {held} {left} {all} more e whole p = record {
  written = p.written;
  parts = whole ∙ ap (λ (t : List ℕ). t ++ more) p.parts ∙ append_assoc p.written held more ∙ ap (λ (t : List ℕ). p.written ++ t) (sym e);
  wrote = p.wrote;
}

-- one text more is held
pub Gathered-next : (first x y : List ℕ) {held left : List ℕ} {old new : SinkSeen} → left ≡ held ++ y → Gathered (first ++ x) held old new → Gathered (first ++ (x ++ y)) left old new
Gathered-next first x y e p = Gathered-add y e (sym (append_assoc first x y)) p

-- of what is held all was written, or a prefix
pub Gathered-written : {text held piece : List ℕ} {old middle new : SinkSeen} → piece ≡ held → Gathered text held old middle → WroteAll piece middle new → WroteAll text old new
Gathered-written e p q = rw p.parts (WroteAll-then p.wrote (rw (← e) q))

pub Gathered-stop : {text held : List ℕ} {old middle new : SinkSeen} → Gathered text held old middle → WrotePrefix held middle new → WrotePrefix text old new
Gathered-stop p q = rw p.parts (WrotePrefix-then p.wrote q)

-- a prefix of what was held was written
pub Gathered-stops : {text held : List ℕ} {old middle new : SinkSeen} (rest : List ℕ) → Gathered text held old middle → WrotePrefix held middle new → WrotePrefix (text ++ rest) old new
Gathered-stops {text} {held} rest p q = WrotePrefix-more rest (rw p.parts (WrotePrefix-then p.wrote q))

-- what is held was written with more after it, or a prefix of that
pub Gathered-ends : {T E : Type 0} {text held piece all : List ℕ} {old middle new : SinkSeen} {r : Result T E} (more : List ℕ) → all ≡ text ++ more → piece ≡ held ++ more → Gathered text held old middle → Wrote piece middle new r → Wrote all old new r
Gathered-ends {text = text} {held = held} more whole e p q =
    rw (whole ∙ ap (λ (t : List ℕ). t ++ more) p.parts ∙ append_assoc p.written held more) (Wrote-then p.wrote (rw (← e) q))

-- ---- what a call that gathers a text answers

-- all was gathered
pub Gathers-all : {T E : Type 0} {text held : List ℕ} {old new : SinkSeen} {a : T} → Gathered text held old new → Gathers {T = T} {E = E} text held old new (Ok a)
Gathers-all p = record { all = p; prefix = tt }

-- the same text in other words
pub gathers_as : {T E : Type 0} (first : List ℕ) {x y held : List ℕ} {old new : SinkSeen} {r : Result T E} → y ≡ x → Gathers (first ++ x) held old new r → Gathers (first ++ y) held old new r
gathers_as first e p = rw e p

-- a prefix of a text was written, which others follow
pub stops_within : (first x rest : List ℕ) {y : List ℕ} {old new : SinkSeen} → y ≡ x ++ rest → WrotePrefix (first ++ x) old new → WrotePrefix (first ++ y) old new
stops_within first x rest e p = rw (ap (λ (t : List ℕ). first ++ t) e ∙ sym (append_assoc first x rest)) (WrotePrefix-more rest p)

-- all of the text was written, and nothing is held
pub Gathered-whole : {text piece left : List ℕ} {old new : SinkSeen} → piece ≡ text → left ≡ [] → WroteAll piece old new → Gathered text left old new
Gathered-whole {text} {piece} e nil p = record { written = text; parts = sym (append-nil text) ∙ ap (λ (t : List ℕ). text ++ t) (sym nil); wrote = rw (← e) p }

-- a prefix was written, at the exit of a `?`
pub Gathers-prefix : {T E : Type 0} {text left : List ℕ} {old new : SinkSeen} {e : E} {r : Result T E} → r ≡ Err e → WrotePrefix text old new → Gathers text left old new r
Gathers-prefix is p = rw is (record { all = tt; prefix = p })

-- one text after another was added
pub added : (old x y : List ℕ) {middle new all : List ℕ} → all ≡ x ++ y → middle ≡ old ++ x → new ≡ middle ++ y → new ≡ old ++ all
added old x y e p q = q ∙ ap (λ (t : List ℕ). t ++ y) p ∙ append_assoc old x y ∙ ap (λ (t : List ℕ). old ++ t) (sym e)

-- one round of a loop that gathers texts: the text so far, and that of this round
pub Gathered-step : (first sofar here : List ℕ) {next held left : List ℕ} {old new : SinkSeen} → next ≡ sofar ++ here → left ≡ held ++ here → Gathered (first ++ sofar) held old new → Gathered (first ++ next) left old new
Gathered-step first sofar here e f p = Gathered-add here f (ap (λ (t : List ℕ). first ++ t) e ∙ sym (append_assoc first sofar here)) p

-- the text so far was gathered, and a prefix of what was held was written
pub Gathered-fails : (first sofar here rest : List ℕ) {next held : List ℕ} {old middle new : SinkSeen} → next ≡ (sofar ++ here) ++ rest → Gathered (first ++ sofar) held old middle → WrotePrefix held middle new → WrotePrefix (first ++ next) old new
Gathered-fails first sofar here rest e p q =
    rw (ap (λ (t : List ℕ). first ++ t) (e ∙ append_assoc sofar here rest) ∙ sym (append_assoc first sofar (here ++ rest))) (Gathered-stops (here ++ rest) p q)

-- the same, of a text that ends with what is still to be gathered
pub Gathered-halts : (first sofar rest : List ℕ) {next held : List ℕ} {old middle new : SinkSeen} → next ≡ sofar ++ rest → Gathered (first ++ sofar) held old middle → WrotePrefix held middle new → WrotePrefix (first ++ next) old new
Gathered-halts first sofar rest e p q = rw (ap (λ (t : List ℕ). first ++ t) e ∙ sym (append_assoc first sofar rest)) (Gathered-stops rest p q)

-- the text so far was gathered, and a prefix of what was held and is still to be gathered was written
pub Gathered-breaks : (first sofar rest : List ℕ) {next held : List ℕ} {old middle new : SinkSeen} → next ≡ sofar ++ rest → Gathered (first ++ sofar) held old middle → WrotePrefix (held ++ rest) middle new → WrotePrefix (first ++ next) old new
Gathered-breaks first sofar rest e p q = rw (ap (λ (t : List ℕ). first ++ t) e) (Gathered-stop (Gathered-next first sofar rest refl p) q)
