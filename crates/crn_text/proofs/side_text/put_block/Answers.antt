use Rattle.crn_text.proofs.Prelude.{◌≡◌, ◌≤◌, ◌+◌, ◌∙◌, ◌++◌, ◌∷◌, [], List, ℕ, zero, suc, length, take, ap, arith, take-append-le}
use Rattle.crn_text.proofs.side_text.put_block.Goals as goal

put_there : (front block back : List ℕ) (n size : ℕ) → n ≡ length front + size → size ≤ length block → take n (front ++ (block ++ back)) ≡ front ++ take size block
put_there [] block back n size e le = let same : n ≡ size = omega (arith, e) in ap (λ (k : ℕ). take k (block ++ back)) same ∙ take-append-le size block back le
put_there (x ∷ front) block back zero size e le = absurd (omega (arith, e))
put_there (x ∷ front) block back (suc n) size e le = ap (λ (t : List ℕ). x ∷ t) (put_there front block back n size (omega (arith, e)) le)

put_between : (front copied back before block : List ℕ) (at size : ℕ) → length front ≡ at → front ≡ before → copied ≡ block → size ≤ length block → take (at + size) (front ++ (copied ++ back)) ≡ before ++ take size block
put_between front copied back before block at size long is same le =
    ap (λ (t : List ℕ). take (at + size) (front ++ (t ++ back))) same
    ∙ put_there front block back (at + size) size (omega (arith, long)) le
    ∙ ap (λ (t : List ℕ). t ++ take size block) is

pub returns-clause-text : goal.returns-clause-text
returns-clause-text c =
    let rest = c.split_at_mut-rest in
    put_between rest.result.0.now c.copy_from_slice.new.self c.split_at_mut-here.result.1.now (take c.args.at c.args.bytes.now) c.args.block.now c.args.at c.args.size rest.ensures.front_len rest.ensures.front c.copy_from_slice.ensures.after (omega (arith, c.requires.size, c.requires.long))
