use Rattle.crn_net.proofs.Prelude.{◌≡◌, ◌-◌, ℕ, length, take, take_all, drop, ap, sym, ◌∙◌, arith, joined, mark_after, length-drop}
use Rattle.crn_net.proofs.BucketSums.{mark_word}
use Rattle.crn_net.proofs.buckets.+mark_after.Goals as goal

pub returns-in-len4-up : goal.returns-in-len4-up
returns-in-len4-up t c =
    let bytes = c.args.bytes.now in
    let rest : take (length bytes - 4) (drop 4 bytes) ≡ drop 4 bytes = take_all (length bytes - 4) (drop 4 bytes) (omega (arith, length-drop 4 bytes)) in
    c.mark_after.ensures
    ∙ ap (mark_after c.joined-in-len4-up.result) rest
    ∙ ap (λ (m : ℕ). mark_after m (drop 4 bytes)) (c.joined-in-len4-up.ensures ∙ ap (joined c.args.mark) c.word-in-len4-up.ensures)
    ∙ sym (mark_word c.args.mark bytes c.in-len4-up.len_at_least)
