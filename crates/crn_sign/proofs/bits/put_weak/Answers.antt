use Rattle.crn_sign.proofs.Prelude.{◌/◌, length-set}
use Rattle.crn_sign.proofs.BitLaws.{other_bits, word_put}
use Rattle.crn_sign.proofs.bits.put_weak.Goals as goal

pub returns : goal.returns
returns c =
    let old = c.args.words.now in
    let k = c.args.k in
    let x = c.with_bit.result in
    record {
      count = length-set old (k / 64) x;
      here = word_put old k x c.requires c.with_bit.ensures.set;
      others = other_bits old k x c.requires (λ i lt ne. c.with_bit.ensures.others i ne);
    }
