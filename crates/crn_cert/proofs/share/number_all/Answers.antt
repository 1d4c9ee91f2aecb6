use Rattle.crn_cert.proofs.Prelude.{sym, subst, take_all, arith, AreNumbered}
use Rattle.crn_cert.proofs.ShareTables.{cuts_step}
use Rattle.crn_cert.proofs.share.number_all.Goals as goal

pub loop-k-preserved : goal.loop-k-preserved
loop-k-preserved c =
    let made = c.add_proof.new.self in
    let cuts = cuts_step c.args.answers.now c.loop-k.k c.get.result.now c.get.ensures in record {
      few = c.in_ok-add_proof.ensures.few;
      numbered = subst (AreNumbered made.lists.set.keys made.leaf.list) (sym cuts) (c.in_ok-add_proof.ensures.added _ c.loop-k.invariant.numbered);
    }

pub returns : goal.returns
returns c = rw (take_all c.loop-k.k c.args.answers.now (omega (arith, c.len-k-end.ensures.count))) at c.loop-k.invariant.numbered
