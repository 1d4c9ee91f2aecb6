use Rattle.crn_ctext.proofs.Prelude.{◌∙◌, ◌+◌, List, ℕ, take, length, ap, ap₂, sym, arith, length-set, pairs_no}
use Rattle.crn_ctext.proofs.PairsWritten.{listed_more}
use Rattle.crn_ctext.proofs.write_pairs.list_pairs.Goals.{then-is_pair, else-is_pair}
use Rattle.crn_ctext.proofs.write_pairs.list_pairs.Goals as goal

pub loop-r-preserved : goal.loop-r-preserved
loop-r-preserved c =
    let net = c.args.net.now in
    let labels = c.args.labels.now in
    let exits = c.args.exits.now in
    let r = c.loop-r.r in
    let count = c.loop-r.count in
    let pairs = c.loop-r.pairs in
    let h = c.loop-r.invariant in
    let long = h.long in
    let few = h.few in
    let listed = h.listed in
    elim c.if-is_pair.branch [
      | then-is_pair w ↦ record {
        long = ap (λ (l : List ℕ). length l) w.pairs-is ∙ length-set pairs count (r + 1) ∙ long;
        few = omega (arith, w.count-is, few);
        listed = ap₂ (λ (n : ℕ) (l : List ℕ). take n l) w.count-is w.pairs-is ∙ listed_more net labels exits pairs count r (omega (arith, long, few)) listed (sym c.is_pair.ensures ∙ w.if-is_pair.true);
      }
      | else-is_pair w ↦ record {
        long = ap (λ (l : List ℕ). length l) w.pairs-is ∙ long;
        few = omega (arith, w.count-is, few);
        listed = ap₂ (λ (n : ℕ) (l : List ℕ). take n l) w.count-is w.pairs-is ∙ listed ∙ sym (pairs_no net labels exits r (sym c.is_pair.ensures ∙ w.if-is_pair.false));
      }
    ]
