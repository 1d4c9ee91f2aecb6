use Rattle.crn_endo.proofs.Prelude.{◌≡◌, ◌<◌, ◌≤◌, ℕ, ◌+◌, length, get_or, sym, ap, subst, ◌∙◌, arith, any_default, reaction_at, AreRaised, IsNext}
use Rattle.crn_endo.proofs.Steps.{raised_more}
use Rattle.crn_endo.proofs.ChainLaws.{raised_none, raised_to}
use Rattle.crn_endo.proofs.problem.put_rises.Goals as goal

pub index-q-requires : goal.index-q-requires
index-q-requires c = omega (arith, c.requires.complex, c.requires.chains.complexes)

pub loop-q-init : goal.loop-q-init
loop-q-init c =
    let net = c.args.net.now in
    let first = c.args.chains.now.first.items in
    let q = c.index-q.result.now in
    let lt : c.args.c < length first = omega (arith, c.requires.complex, c.requires.chains.complexes) in
    let begin = subst (IsNext net c.args.c 0) (sym (c.index-q.ensures ∙ any_default q 0 first c.args.c lt)) (c.requires.chains.begin c.args.c lt) in
    record {
      raised = raised_to net c.args.c 0 q c.args.words.now c.args.words.now begin (raised_none net c.args.c c.args.words.now);
      most = begin.most;
      from = begin.from;
    }

pub put_asked-requires : goal.put_asked-requires
put_asked-requires c = omega (arith, c.requires.room, c.loop-q.invariant.raised.count, c.loop-q-test.true, c.species-species.ensures.count, c.reactions-reactions.ensures.count)

pub loop-q-preserved : goal.loop-q-preserved
loop-q-preserved c =
    let net = c.args.net.now in
    let nexts = c.args.chains.now.next.items in
    let q = c.loop-q.q in
    let n = c.index-q-in-loop-q.result.now in
    let inside : q < length net.reactions = omega (arith, c.loop-q-test.true, c.reactions-reactions.ensures.count) in
    let lt : q < length nexts = omega (arith, inside, c.requires.chains.reactions) in
    let from = c.loop-q.invariant.from inside in
    let after = subst (λ (d : ℕ). IsNext net d (q + 1) (get_or nexts q 0)) from (c.requires.chains.after q (omega arith) lt) in
    let next = subst (IsNext net c.args.c (q + 1)) (sym (c.index-q-in-loop-q.ensures ∙ any_default n 0 nexts q lt)) after in
    record {
      raised = raised_to net c.args.c (q + 1) n c.args.words.now c.put_asked.new.words next
          (raised_more net c.args.c q (c.species-species.result + q) c.asked_of_sign.result c.args.words.now c.loop-q.words c.put_asked.new.words (ap (λ (s : ℕ). s + q) c.species-species.ensures.count) c.loop-q.invariant.raised from c.asked_of_sign.ensures c.put_asked.ensures);
      most = next.most;
      from = next.from;
    }

pub loop-q-smaller : goal.loop-q-smaller
loop-q-smaller c =
    let net = c.args.net.now in
    let nexts = c.args.chains.now.next.items in
    let q = c.loop-q.q in
    let n = c.index-q-in-loop-q.result.now in
    let inside : q < length net.reactions = omega (arith, c.loop-q-test.true, c.reactions-reactions.ensures.count) in
    let lt : q < length nexts = omega (arith, inside, c.requires.chains.reactions) in
    let is : n ≡ get_or nexts q 0 = c.index-q-in-loop-q.ensures ∙ any_default n 0 nexts q lt in
    omega (arith, inside, is, (c.requires.chains.after q (omega arith) lt).least)

pub returns : goal.returns
returns c =
    let net = c.args.net.now in
    let all : c.loop-q.q ≡ length net.reactions = omega (arith, c.loop-q-test.false, c.reactions-reactions.ensures.count, c.loop-q.invariant.most) in
    subst (λ (k : ℕ). AreRaised net c.args.c k c.args.words.now c.loop-q.words) all c.loop-q.invariant.raised
