use Rattle.crn_text.proofs.Prelude.{◌<◌, ◌≡◌, ◌∙◌, ◌++◌, ◌∷◌, [], List, ℕ, length, take, get_or, ap, sym, arith, append_assoc, take_all, append-nil, take_more}
use Rattle.crn_text.proofs.side_text.put.Goals as goal

pub loop-byte-init : goal.loop-byte-init
loop-byte-init c = record { text = sym (append-nil (take c.args.at c.args.bytes.now)); end = omega arith }

pub push-end-requires : goal.push-end-requires
push-end-requires c =
    let lt : c.loop-byte.byte-index < length c.args.piece.now = omega (arith, c.loop-byte-test.true) in
    omega (arith, lt, c.requires, c.loop-byte.invariant.end, c.loop-byte.auto.bytes)

pub loop-byte-preserved : goal.loop-byte-preserved
loop-byte-preserved c =
    let i = c.loop-byte.byte-index in
    let piece = c.args.piece.now in
    let b = get_or piece i 0 in
    let before = take c.args.at c.args.bytes.now in
    record {
      text = c.push-end.ensures.text
          ∙ ap (λ (t : List ℕ). t ++ b ∷ []) c.loop-byte.invariant.text
          ∙ append_assoc before (take i piece) (b ∷ [])
          ∙ ap (λ (t : List ℕ). before ++ t) (sym (take_more piece i 0 (omega arith)));
      end = omega (arith, c.push-end.ensures.end, c.loop-byte.invariant.end);
    }

pub returns-clause-text : goal.returns-clause-text
returns-clause-text c =
    c.loop-byte.invariant.text ∙ ap (λ (t : List ℕ). take c.args.at c.args.bytes.now ++ t) (take_all c.loop-byte.byte-index c.args.piece.now (omega arith))

pub returns-clause-end : goal.returns-clause-end
returns-clause-end c =
    let all : c.loop-byte.byte-index ≡ length c.args.piece.now = omega (arith, c.loop-byte-test.false, c.loop-byte.auto.byte-index-end) in
    omega (arith, all, c.loop-byte.invariant.end)
