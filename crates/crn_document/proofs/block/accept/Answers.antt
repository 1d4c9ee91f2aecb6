use Rattle.crn_document.proofs.Prelude.{◌∙◌, map, refl, sym, subst, ◌+◌, arith, err_from_is_err_and, asked, tests_course, step_exits, stops_here, tests_give, tests_fail, ◌≡◌, ◌++◌, ◌∷◌, [], ap, Result, OnOk, IsSome, Verdict, Question, vector_given, AllHold, FailsFirst, tests_of, Judges, AreFactsOf, KeptFacts, tight, CheckFault}
use Rattle.crn_reading.specs.declared.fault.CheckStop.TheVariants as stop
use Rattle.crn_document.proofs.Blocks.{answer_formed, answer_heads, answer_part, answer_tight, answer_without_tree, block_fails, block_learns, block_fits, read_small, said_answer, so_far_next}
use Rattle.crn_document.proofs.Kept.{sides_after, sides_shown, vector_after}
use Rattle.crn_document.proofs.block.accept.Goals as goal

pub answer_of-requires-clause-small : goal.answer_of-requires-clause-small
answer_of-requires-clause-small c = read_small c.requires.read

pub answer_of-requires-clause-rows : goal.answer_of-requires-clause-rows
answer_of-requires-clause-rows c = block_fits c.requires.read

pub check_records-requires-clause-heads : goal.check_records-requires-clause-heads
check_records-requires-clause-heads c =
    answer_heads (said_answer c.in_ok-answer.answer c.requires.read (let r = c.requires.read in r.some.2) c.in_ok-answer.ensures.verdict c.in_ok-answer.ensures.proof)

pub check_records-requires-clause-formed : goal.check_records-requires-clause-formed
check_records-requires-clause-formed c =
    answer_formed (said_answer c.in_ok-answer.answer c.requires.read (let r = c.requires.read in r.some.2) c.in_ok-answer.ensures.verdict c.in_ok-answer.ensures.proof) c.requires.treeless

pub check_records-requires-clause-treeless : goal.check_records-requires-clause-treeless
check_records-requires-clause-treeless c =
    answer_without_tree (said_answer c.in_ok-answer.answer c.requires.read (let r = c.requires.read in r.some.2) c.in_ok-answer.ensures.verdict c.in_ok-answer.ensures.proof) c.requires.treeless

pub returns-in-Ok-judged-clause-step : goal.returns-in-Ok-judged-clause-step
returns-in-Ok-judged-clause-step c = λ h rs seen b.
    let net = c.args.net.now in
    let n = c.args.block.now.question in
    let earlier = c.args.checked.now.facts.earlier in
    let a = c.in_ok-answer.answer in
    let is = said_answer a c.requires.read b c.in_ok-answer.ensures.verdict c.in_ok-answer.ensures.proof in
    let judged : AllHold (tests_of net earlier (asked n) a) = subst (λ (r : Result (Unit {0}) CheckFault). Judges (tests_of net earlier (asked n) a) r) c.in-Ok-judged.is c.in-Ok.ensures.judged in
    let kept = subst (λ (r : Result (Unit {0}) CheckFault). OnOk r (c.check_records.new.checked.facts.earlier ≡ earlier ++ (asked n, tight a.verdict) ∷ [])) c.in-Ok-judged.is c.in-Ok.ensures.accepted in
    let y = block_learns is c.keep_sides.new.checked.facts.earlier judged (ap (λ (f : KeptFacts). f.earlier) c.keep_sides.ensures.facts ∙ kept) in
    (tt, y.0, tests_give (tests_course net earlier n c.args.block.now.line h rs) tt c.args.at.now.line c.args.at.now.lines seen.left y.1, refl)

pub returns-in-Ok-judged-clause-ready : goal.returns-in-Ok-judged-clause-ready
returns-in-Ok-judged-clause-ready c =
    let net = c.args.net.now in
    let n = c.args.block.now.question in
    let facts = c.args.checked.now.facts in
    let new = c.keep_sides.new.checked in
    let a = c.in_ok-answer.answer in
    let read = c.requires.read in
    let built = read.built in
    let known = read.ready.known in
    let is = said_answer a read read.some.2 c.in_ok-answer.ensures.verdict c.in_ok-answer.ensures.proof in
    let judged : AllHold (tests_of net facts.earlier (asked n) a) = subst (λ (r : Result (Unit {0}) CheckFault). Judges (tests_of net facts.earlier (asked n) a) r) c.in-Ok-judged.is c.in-Ok.ensures.judged in
    let kept = subst (λ (r : Result (Unit {0}) CheckFault). OnOk r (c.check_records.new.checked.facts.earlier ≡ facts.earlier ++ (asked n, tight a.verdict) ∷ [])) c.in-Ok-judged.is c.in-Ok.ensures.accepted in
    let learnt : new.facts.earlier ≡ facts.earlier ++ (asked n, tight a.verdict) ∷ [] = ap (λ (f : KeptFacts). f.earlier) c.keep_sides.ensures.facts ∙ kept in
    let tight_is = answer_tight is in
    record {
      known = record {
        network = known.network;
        facts_of = subst (λ (f : KeptFacts). AreFactsOf net f) (sym c.keep_sides.ensures.facts) c.check_records.ensures.facts;
        so_far = so_far_next (map (λ (e : Question × Verdict). e.0) facts.earlier) (asked n) facts.earlier new.facts.earlier _ refl learnt;
      };
      sides = sides_after net n facts new.facts.earlier (tight a.verdict) c.args.checked.now.sides new.sides read.ready.sides built known learnt
          (λ eleven said. sides_shown net n facts a new.sides built known eleven (answer_formed is c.requires.treeless) judged (c.keep_sides.ensures.sides eleven) (sym tight_is ∙ said))
          (λ other. c.keep_sides.ensures.same other ∙ c.check_records.ensures.sides)
          (λ twelve some. vector_after net n facts a.verdict built known twelve (answer_heads is) (subst (λ (v : Verdict). IsSome (vector_given v)) tight_is some));
    }

pub returns-in-Err-clause-step : goal.returns-in-Err-clause-step
returns-in-Err-clause-step c = λ h rs seen b.
    let net = c.args.net.now in
    let n = c.args.block.now.question in
    let earlier = c.args.checked.now.facts.earlier in
    let line = c.args.block.now.line in
    let a = c.in_ok-answer.answer in
    let is = said_answer a c.requires.read b c.in_ok-answer.ensures.verdict c.in_ok-answer.ensures.proof in
    let fails : FailsFirst (tests_of net earlier (asked n) a) c.in-Err.fault.part c.in-Err.fault.code = subst (λ (r : Result (Unit {0}) CheckFault). Judges (tests_of net earlier (asked n) a) r) c.in-Err.is c.in-Ok.ensures.judged in (
      tests_fail (tests_course net earlier n line h rs) c.args.at.now.line (line + c.in-Err.fault.part) c.in-Err.fault.code c.args.at.now seen.left c.requires.goes.reads
          (block_fails is c.in-Err.fault.part c.in-Err.fault.code fails),
      refl,
    )

pub returns-in_err-answer-clause-step : goal.returns-in_err-answer-clause-step
returns-in_err-answer-clause-step c = λ h rs seen b.
    step_exits _ _ c.from_residual.result stop.NoMemory c.args.at.now c.args.at.now seen seen (err_from_is_err_and c.from_residual.result c.from_residual.ensures.1)
    (stops_here c.args.at.now seen.left c.requires.goes.reads, refl)

pub returns-in_default-clause-step : goal.returns-in_default-clause-step
returns-in_default-clause-step c = λ h rs seen b. (stops_here c.args.at.now seen.left c.requires.goes.reads, refl)

pub overflow_add-result : goal.overflow_add-result
overflow_add-result c =
    let net = c.args.net.now in
    let a = c.in_ok-answer.answer in
    let tests = tests_of net c.args.checked.now.facts.earlier (asked c.args.block.now.question) a in
    let read = c.requires.read in
    let is = said_answer a read read.some.2 c.in_ok-answer.ensures.verdict c.in_ok-answer.ensures.proof in
    let fails : FailsFirst tests c.in-Err.fault.part c.in-Err.fault.code = subst (λ (r : Result (Unit {0}) CheckFault). Judges tests r) c.in-Err.is c.in-Ok.ensures.judged in
    let part = answer_part is c.in-Err.fault.part c.in-Err.fault.code fails in
    let taken = c.requires.goes.reads.taken in
    omega (arith, part, read.ends, c.requires.goes.counted, taken)
