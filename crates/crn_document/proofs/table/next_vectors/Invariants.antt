use Rattle.crn_document.proofs.Prelude.{◌≡◌, ◌+◌, ◌-◌, List, length, false, replicate, Result, ℤ, SourceSeen, vector_form, asks_all, Reading, CheckStop, GoesOn, StepIs, AreListed}
use Rattle.crn_document.proofs.table.next_vectors.Given as goal

-- a step through the lists that are left is one through all of them
abbrev pub invariant-loop : goal.invariant-loop
invariant-loop g l = record {
  goes : GoesOn l.at;
  version : l.at.version ≡ l.fn.at.version;
  long : length l.table ≡ length l.fn.table + l.counter;
  whole : (result : Result (Unit {0}) CheckStop) (new : Reading) (kept : List (List ℤ)) (now : SourceSeen)
      → StepIs (asks_all l.at.version l.at.line false (replicate (l.fn.count - l.counter) vector_form)) (λ t rs. AreListed l.at new l.table kept rs) result l.at new (g.S.Source.seen l.source) now
      → StepIs (asks_all l.fn.at.version l.fn.at.line false (replicate l.fn.count vector_form)) (λ t rs. AreListed l.fn.at new l.fn.table kept rs) result l.fn.at new (g.S.Source.seen l.fn.source) now;
}
