use Rattle.crn_ctext.proofs.Prelude.{◌≡◌, ◌∷◌, [], refl, ap, ◌∙◌, negsuc, rules, number_text}
use Rattle.crn_ctext.proofs.Pieces.{added}
use Rattle.crn_ctext.proofs.WrittenLines.{minus_one_text}
use Rattle.crn_ctext.proofs.write_piece.add_negative.Goals as goal

pub returns-then-number-eq-MINUS_ONE-clause-text : goal.returns-then-number-eq-MINUS_ONE-clause-text
returns-then-number-eq-MINUS_ONE-clause-text c =
    let one : c.args.number.now ≡ negsuc 0 = search rules in
    added c.args.piece.now.items (32 ∷ 45 ∷ []) (49 ∷ []) (ap number_text one ∙ minus_one_text) (added c.args.piece.now.items (32 ∷ []) (45 ∷ []) refl c.push.ensures.items c.push-then-number-eq-MINUS_ONE.ensures.items) c.push-then-number-eq-MINUS_ONE-2.ensures.items
